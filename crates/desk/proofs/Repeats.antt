-- A request that comes again where it was just answered is answered the same, and changes nothing.
use Rattle.std.proofs.Common.{◌≡◌, ◌+◌, Bool, List, [], ◌∷◌, Option, Some, None, MatchOption, ap, false, find}
use Rattle.std.proofs.Common.{if◌then◌else◌, is_some, refl, subst, sym, true, true≢false}
use lib.Pointwise.{bytes_decides}
use Rattle.std.specs.Cmp.Lexicographic.{slice_cmp}
use Rattle.std.specs.Ordering.{is_lt, nat_cmp}
use Rattle.std.specs.Str.{bytes_eq}
use Rattle.words.specs.Spelling.{spelling}
use Rattle.words.specs.declared.command.Request.{Request}
use Rattle.words.specs.declared.reply.Refusal.TheVariants.{KeyReused}
use Rattle.words.specs.declared.reply.Reply.{Reply}
use Rattle.words.specs.declared.reply.Reply.TheVariants.{Done, Refused}
use Rattle.ledger.specs.Answers.{Answers, AnswersNew, same_command}
use Rattle.ledger.specs.Ledger.{Kept, Ledger, insert_in_order, kept_under, places}
use Rattle.ledger.specs.Next.{accept}

-- what is found of one that is put in, where nothing was
found_in : {X : Type 0} (p : X → Bool) (before : X → X → Bool) (x : X) (xs : List X) → p x ≡ true → find p xs ≡ None
    → find p (insert_in_order before x xs) ≡ Some x
found_in p before x [] is none = rw is refl
found_in p before x (y ∷ ys) is none = by (p y) refl none (before x y) (found_in p before x ys is)
  where
    by : (b : Bool) → p y ≡ b → (if b then Some y else find p ys) ≡ None → (c : Bool)
        → (find p ys ≡ None → find p (insert_in_order before x ys) ≡ Some x)
        → find p (if c then x ∷ y ∷ ys else y ∷ insert_in_order before x ys) ≡ Some x
    by true e none c more = absurd (true≢false (ap is_some none))
    by false e none true more = rw is refl
    by false e none false more = rw e (more none)

-- an accepted request is kept
pub kept_then : (A : Ledger) (r : Request) → kept_under A r.key ≡ None
    → kept_under (accept A r) r.key ≡ Some (record { key = r.key; place = places A + 1; command = r.command })
kept_then A r none =
    found_in (λ (k : Kept). bytes_eq k.key r.key) (λ a b. is_lt (slice_cmp nat_cmp a.key b.key)) _ A.kept
    ((bytes_decides r.key r.key).1 refl) none

pub repeated : (A B : Ledger) (r : Request) (reply : Reply) → Answers A r reply B → Answers B r reply B
repeated A B r reply h = by_key (kept_under A r.key) refl h
  where
    by_key : (o : Option Kept) → kept_under A r.key ≡ o
        → MatchOption o (AnswersNew A r reply B)
        (λ k. (reply ≡ (if same_command k.command r.command then Done k.place else Refused KeyReused 0)) × (B ≡ A))
        → Answers B r reply B
    by_key (Some k) e (is, same) = subst (λ L. Answers L r reply L) (sym same) (rw e (is, refl))
    by_key None e (Some f, failed, left) = subst (λ L. Answers L r reply L) (sym left.1) (rw e (Some f, failed, (left.0, refl)))
    by_key None e (None, passed, left) =
        let spelled : same_command r.command r.command ≡ true =
        (bytes_decides (spelling r.command) (spelling r.command)).1 refl in
        subst (λ L. Answers L r reply L) (sym left.1) (rw (kept_then A r e) (rw spelled (left.0, refl)))
