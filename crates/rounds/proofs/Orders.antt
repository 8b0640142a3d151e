-- The rounds of a history are one order.
use Rattle.std.proofs.Common.{Option, None, Some, ◌≡◌, ◌≢◌, ◌⊎◌, ◌∙◌, ◌++◌, ℕ, true, false, List, [], ap, append-nil}
use Rattle.std.proofs.Common.{append_assoc, inl, inr, map, refl, subst, sym}
use Rattle.std.specs.Prelude.{nat_eq}
use Rattle.std.proofs.lemmas.Bool.Decides.{eqb_tells}
use Rattle.std.proofs.lemmas.List.{map-append}
use Rattle.desk.specs.Desk.{Snapshot}
use Rattle.desk.specs.Dialogue.{Language}
use Rattle.rounds.specs.Histories.{AreRounds, History, begun, came, heard_in, kept, lost, order_of, wrote}
use Rattle.rounds.specs.Lines.{Heard, Said, answers_of, questions_of, unheard, with_piece, with_said, with_written}
use Rattle.rounds.specs.Rounds.{AreSaid, IsCutOnce, IsOneOrder, Loss, heard_on, lost_between, said_on, stopped_at}
use Rattle.rounds.proofs.Saying.{on_joined, said_joined}

module _ {Q A : Type 0} (L : Language Q A) where
  -- a round more is kept
  kept_more : (loss : Option Loss) (start : Snapshot) (before said : List (Said Q A)) (mid now : Snapshot)
      → IsOneOrder L loss start before mid → AreSaid L mid said now → (mid.is_stopped ≡ true → now ≡ mid)
      → IsOneOrder L loss start (before ++ said) now
  kept_more None start before said mid now are more still = said_joined L before said start mid now are more
  kept_more (Some loss) start before said mid now cut more still = record {
    before = cut.before;
    untold = cut.untold;
    behind = cut.behind ++ said;
    mid = cut.mid;
    last = cut.last;
    split = ap (λ (xs : List (Said Q A)). xs ++ said) cut.split ∙ append_assoc cut.before cut.behind said;
    are_before = cut.are_before;
    going = cut.going;
    are_untold = cut.are_untold;
    left = cut.left;
    are_behind = said_joined L cut.behind said (stopped_at cut.last.ledger) mid now cut.are_behind more;
    stays = still (ap (λ (s : Snapshot). s.is_stopped) cut.stays) ∙ cut.stays;
  }

  -- a round is lost
  lost_more : (start : Snapshot) (said untold : List (Said Q A)) (mid last now : Snapshot) → AreSaid L start said mid
      → mid.is_stopped ≡ false → AreSaid L mid untold last → now ≡ stopped_at last.ledger
      → IsCutOnce L (lost_between mid last) start said now
  lost_more start said untold mid last now are going more is = record {
    before = said;
    untold = untold;
    behind = [];
    mid = mid;
    last = last;
    split = sym (append-nil said);
    are_before = are;
    going = going;
    are_untold = more;
    left = refl;
    are_behind = is;
    stays = is;
  }

  pub one_order : (loss : Option Loss) (start : Snapshot) (history : History Q A) (now : Snapshot)
      → AreRounds L loss start history now → IsOneOrder L loss start (order_of history) now
  one_order loss start begun now (is, none) = subst (λ (l : Option Loss). IsOneOrder L l start [] now) (sym none) is
  one_order loss start (came history connection piece) now are = one_order loss start history now are
  one_order loss start (wrote history connection bytes) now are = one_order loss start history now are
  one_order loss start (kept history said) now (mid, are, more, still) =
      kept_more loss start (order_of history) said mid now (one_order loss start history mid are) more still
  one_order loss start (lost history untold) now (mid, last, are, going, more, left, is, next) =
      subst (λ (l : Option Loss). IsOneOrder L l start (order_of history) now) (sym left)
      (lost_more start (order_of history) untold mid last now (one_order None start history mid are) going more is)

module _ {Q A T : Type 0} (part : Heard Q A → List T) (of : Said Q A → T)
    (on : (h : Heard Q A) (said : List (Said Q A)) → part (with_said h said) ≡ part h ++ map of said)
    (pieces : (h : Heard Q A) (piece : List ℕ) → part (with_piece h piece) ≡ part h)
    (bytes : (h : Heard Q A) (more : List ℕ) → part (with_written h more) ≡ part h)
    (none : part unheard ≡ []) where
  -- what is known of one, or of another with the same part
  part_at : (n c : ℕ) (h : Heard Q A) (heard : ℕ → Heard Q A) → part h ≡ part (heard c)
      → part (heard_on c h heard n) ≡ part (heard n)
  part_at n c h heard same = by (eqb_tells n c)
    where
      by : ((nat_eq n c ≡ true) × (n ≡ c)) ⊎ ((nat_eq n c ≡ false) × (n ≢ c)) → part (heard_on c h heard n) ≡ part (heard n)
      by (inl (is, here)) = rw is (same ∙ ap (λ (m : ℕ). part (heard m)) (sym here))
      by (inr (is, other)) = rw is refl

  -- it grows by what is said alone
  pub part_grows : (history : History Q A) (n : ℕ) → part (heard_in history n) ≡ map of (said_on n (order_of history))
  part_grows begun n = none
  part_grows (came history c piece) n =
      part_at n c (with_piece (heard_in history c) piece) (heard_in history) (pieces (heard_in history c) piece)
      ∙ part_grows history n
  part_grows (wrote history c more) n =
      part_at n c (with_written (heard_in history c) more) (heard_in history) (bytes (heard_in history c) more)
      ∙ part_grows history n
  part_grows (kept history said) n =
      on (heard_in history n) (said_on n said) ∙ ap (λ (xs : List T). xs ++ map of (said_on n said)) (part_grows history n)
      ∙ sym (map-append of (said_on n (order_of history)) (said_on n said))
      ∙ ap (map of) (sym (on_joined n (order_of history) said))
  part_grows (lost history untold) n = part_grows history n

module _ {Q A : Type 0} where
  pub questions_grow : (history : History Q A) (n : ℕ)
      → (heard_in history n).questions ≡ questions_of (said_on n (order_of history))
  questions_grow = part_grows (λ h. h.questions) (λ s. s.question) (λ h said. refl) (λ h piece. refl) (λ h more. refl) refl

  pub answers_grow : (history : History Q A) (n : ℕ) → (heard_in history n).answers ≡ answers_of (said_on n (order_of history))
  answers_grow = part_grows (λ h. h.answers) (λ s. s.answer) (λ h said. refl) (λ h piece. refl) (λ h more. refl) refl
