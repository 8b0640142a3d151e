-- A ledger that stands for another answers as it does.
use Rattle.ledger.proofs.Prelude.{Answers, AnswersNew, Bool, Done, FirstFailure, Good, IsAccepted, IsNone, IsSome, Kept}
use Rattle.ledger.proofs.Prelude.{KeyReused, Ledger, MatchOption, None, Option, Refusal, Refused, Reply, Request, Some}
use Rattle.ledger.proofs.Prelude.{accept, ap, arith, checks, false, if◌then◌else◌, inl, inr, is_some, kept_under}
use Rattle.ledger.proofs.Prelude.{places, refl, same_command, sym, true, true≢false, ◌+◌, ◌↔◌, ◌∙◌, ◌≡◌, ◌≢◌, ◌⊎◌, ℕ}
use Rattle.words.specs.declared.reply.Refusal.TheVariants as refusal
use Rattle.ledger.specs.Rolled.{is_recent_deal, rolled, gone}
use Rattle.laws.specs.Roll.{KeyStands, NamesNothingGone, FirstButFull, NoneFull, KeptStands, Knows, StandsFor}
use Rattle.laws.specs.Roll.{raise_reply}
use Rattle.laws.proofs.Rolled.{good_left, stands_left}
use Rattle.laws.proofs.SameChecks.{AllAlike, found_alike, found_roomy, back_alike}
use Rattle.laws.proofs.Alike.{checks_alike}
use Rattle.laws.proofs.Recent.{knows_last}

module _ (d : ℕ) (A B : Ledger) (good : Good A) (gb : Good B) (s : StandsFor d A B) where
  -- what is answered, and the ledger then: the next ones, or both as they were
  abbrev pub AnsweredAlike : Request → Reply → Ledger → Type 0
  AnsweredAlike r reply M = (p : Reply) × (N : Ledger) × Answers B r p N × (reply ≡ raise_reply d p)
      × (((M ≡ accept A r) × (N ≡ accept B r) × IsNone (kept_under A r.key) × IsNone (kept_under B r.key)
      × FirstFailure (checks A r.command) None × FirstFailure (checks B r.command) None)
      ⊎ ((M ≡ A) × (N ≡ B)))

  pub answered_alike : (r : Request) (reply : Reply) (M : Ledger) → Knows A B r → Answers A r reply M
      → reply ≢ Refused refusal.Full 0 → AnsweredAlike r reply M
  answered_alike r reply M knows h room = by (kept_under A r.key) refl (kept_under B r.key) refl (s.kept r.key)
      knows.key h
    where
      all : AllAlike (checks A r.command) (checks B r.command)
      all = checks_alike d A B good gb s r.command knows.order

      found : (x : Option (Refusal × ℕ)) → FirstFailure (checks A r.command) x
          → MatchOption x ((reply ≡ Done (places A + 1)) × (M ≡ accept A r)) (λ e. (reply ≡ Refused e.0 e.1) × (M ≡ A))
          → kept_under A r.key ≡ None → kept_under B r.key ≡ None → AnsweredAlike r reply M
      found None f m ka kb =
          let p = s.places in
          let g = found_alike (checks A r.command) (checks B r.command) all None
          (λ e. true≢false (sym (ap is_some e))) f in (
            Done (places B + 1),
            accept B r,
            rw kb (None, g, (refl, refl)),
            m.0 ∙ ap Done (omega arith),
            inl (m.1, refl, ap is_some ka, ap is_some kb, f, g),
          )
      found (Some e) f m ka kb =
          let g = found_alike (checks A r.command) (checks B r.command) all (Some e)
          (λ is. room (m.0 ∙ full_then e is)) f in
          (Refused e.0 e.1, B, rw kb (Some e, g, (refl, refl)), m.0, inr (m.1, refl))
        where
          full_then : (e : Refusal × ℕ) → Some e ≡ Some (refusal.Full, 0) → Refused e.0 e.1 ≡ Refused refusal.Full 0
          full_then e is = grind arith

      again : (k j : Kept) → KeptStands d k j → (b c : Bool) → b ≡ c
          → (if b then Done k.place else Refused KeyReused 0)
          ≡ raise_reply d (if c then Done j.place else Refused KeyReused 0)
      again k j t true true e = ap Done t.place
      again k j t true false e = absurd (true≢false e)
      again k j t false true e = absurd (true≢false (sym e))
      again k j t false false e = refl

      by : (x : Option Kept) → kept_under A r.key ≡ x → (y : Option Kept) → kept_under B r.key ≡ y
          → KeyStands d x y → (IsSome x → IsSome y)
          → MatchOption x (AnswersNew A r reply M)
          (λ k. (reply ≡ (if same_command k.command r.command then Done k.place else Refused KeyReused 0)) × (M ≡ A))
          → AnsweredAlike r reply M
      by None ka None kb t there m = found m.0 m.1 m.2 ka kb
      by None ka (Some j) kb t there m = absurd t
      by (Some k) ka None kb t there m = absurd (true≢false (sym (there refl)))
      by (Some k) ka (Some j) kb t there m = (
        (if same_command j.command r.command then Done j.place else Refused KeyReused 0),
        B,
        rw kb (refl, refl),
        m.0 ∙ again k j t (same_command k.command r.command) (same_command j.command r.command)
            (sym (ap (λ c. same_command c r.command) t.command)),
        inr (m.1, refl),
      )

  keys_known : (x y : Option Kept) → KeyStands d x y → (IsSome x → IsSome y) → IsNone x ↔ IsNone y
  keys_known None None t there = ((λ e. e), λ e. e)
  keys_known None (Some j) t there = absurd t
  keys_known (Some k) None t there = absurd (true≢false (sym (there refl)))
  keys_known (Some k) (Some j) t there = ((λ e. e), λ e. e)

  key_iff : (r : Request) → Knows A B r → IsNone (kept_under A r.key) ↔ IsNone (kept_under B r.key)
  key_iff r knows = keys_known (kept_under A r.key) (kept_under B r.key) (s.kept r.key) knows.key

  pub accepted_alike : (r : Request) → Knows A B r → NoneFull (checks A r.command) → IsAccepted A r ↔ IsAccepted B r
  accepted_alike r knows room =
      let all = checks_alike d A B good gb s r.command knows.order in let key = key_iff r knows in (
        (λ h. (
          key.0 h.0,
          found_alike (checks A r.command) (checks B r.command) all None (λ e. true≢false (sym (ap is_some e))) h.1,
        )),
        λ h. (key.1 h.0, back_alike (checks A r.command) (checks B r.command) all h.1 room),
      )

  pub answered_roomy : (r : Request) (found : Option (Refusal × ℕ)) → Knows A B r → IsNone (kept_under A r.key)
      → FirstButFull (checks A r.command) found → NoneFull (checks B r.command)
      → (reply : Reply) × (N : Ledger) × Answers B r reply N
      × MatchOption found (reply ≡ Done (places B + 1)) (λ e. reply ≡ Refused e.0 e.1)
  answered_roomy r found knows none h room = by found
      (found_roomy (checks A r.command) (checks B r.command) (checks_alike d A B good gb s r.command knows.order)
      found h room)
    where
      free : kept_under B r.key ≡ None
      free = none_is (kept_under B r.key) ((key_iff r knows).0 none)
        where
          none_is : (x : Option Kept) → IsNone x → x ≡ None
          none_is None e = refl
          none_is (Some k) e = absurd (true≢false e)

      by : (found : Option (Refusal × ℕ)) → FirstFailure (checks B r.command) found
          → (reply : Reply) × (N : Ledger) × Answers B r reply N
          × MatchOption found (reply ≡ Done (places B + 1)) (λ e. reply ≡ Refused e.0 e.1)
      by None f = (Done (places B + 1), accept B r, rw free (None, f, (refl, refl)), refl)
      by (Some e) f = (Refused e.0 e.1, B, rw free (Some e, f, (refl, refl)), refl)

-- ---- a ledger rolled up with its last K keys

module _ (K : ℕ) (A : Ledger) (r : Request) (good : Good A) (asks : NamesNothingGone K A r) where
  abbrev rolled_up : Ledger
  rolled_up = rolled K A

  good_rolled : Good rolled_up
  good_rolled = good_left (is_recent_deal K A) K A good

  stands : StandsFor (gone K A) A rolled_up
  stands = stands_left (is_recent_deal K A) K A good

  knows : Knows A rolled_up r
  knows = knows_last K A good r asks

  pub rolled_alike : (reply : Reply) (M : Ledger) → Answers A r reply M → reply ≢ Refused refusal.Full 0
      → (p : Reply) × (N : Ledger) × Answers rolled_up r p N × (reply ≡ raise_reply (gone K A) p)
  rolled_alike reply M h room =
      let a = answered_alike (gone K A) A rolled_up good good_rolled stands r reply M knows h room in
      (a.0, a.1, a.2, a.3)

  pub rolled_accepted : NoneFull (checks A r.command) → IsAccepted A r ↔ IsAccepted rolled_up r
  rolled_accepted = accepted_alike (gone K A) A rolled_up good good_rolled stands r knows

  pub rolled_roomy : (found : Option (Refusal × ℕ)) → IsNone (kept_under A r.key)
      → FirstButFull (checks A r.command) found → NoneFull (checks rolled_up r.command)
      → (reply : Reply) × (N : Ledger) × Answers rolled_up r reply N
      × MatchOption found (reply ≡ Done (places rolled_up + 1)) (λ e. reply ≡ Refused e.0 e.1)
  rolled_roomy found = answered_roomy (gone K A) A rolled_up good good_rolled stands r found knows
