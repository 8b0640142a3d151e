-- What passing its checks says of a command.
use Rattle.ledger.proofs.Sums.{each}
use Rattle.ledger.proofs.Prelude.{Answers, AnswersNew, Check, Done, Each, FirstFailure, IsFalse, IsNone, IsSome}
use Rattle.ledger.proofs.Prelude.{IsSomeAnd, IsTrue, Kept, KeyReused, Ledger, List, MatchOption, MayHoldMore, Name}
use Rattle.ledger.proofs.Prelude.{None, Option, Order, Refusal, Refused, Reply, Request, Runs, Some, Way, [], accept}
use Rattle.ledger.proofs.Prelude.{ap, arith, checks, false, if◌then◌else◌, inl, inr, is_open, is_some, is_transfer}
use Rattle.ledger.proofs.Prelude.{kept_under, line_on, places, same_command, subst, sym, true, true≢false, ℕ, ◌+◌, ◌<◌}
use Rattle.ledger.proofs.Prelude.{◌∷◌, ◌≡◌, ◌≢◌, ◌≤◌}

none-is-not-some : {X : Type 0} (x : X) → None ≡ Some x → ⊥
none-is-not-some x e = true≢false (sym (ap is_some e))

abbrev pub AllPass : List Check → Type 0
AllPass [] = Unit {0}
AllPass (c ∷ cs) = (c.fails → ⊥) × AllPass cs

pub all_pass : (cs : List Check) → FirstFailure cs None → AllPass cs
all_pass [] h = tt
all_pass (c ∷ cs) (inl h) = absurd (none-is-not-some (c.refusal, c.line) h.1)
all_pass (c ∷ cs) (inr h) = (h.0, all_pass cs h.1)

-- The order is open, and its line on f has q left.
abbrev pub Usable : Name → ℕ → Order → Type 0
Usable f q o = (is_open o ≡ true) × IsSomeAnd (line_on o f) (λ l. l.used + q ≤ l.held)

pub usable_there : (f : Name) (q : ℕ) (o : Option Order) → (IsNone o → ⊥)
    → (IsSomeAnd o (λ o. IsFalse (is_open o)) → ⊥) → (IsSomeAnd o (λ o. IsNone (line_on o f)) → ⊥)
    → (IsSomeAnd o (λ o. IsSomeAnd (line_on o f) (λ l. l.held < l.used + q)) → ⊥) → IsSomeAnd o (Usable f q)
usable_there f q x a b c d = grind arith

pub loose_there : (o : Option Order) → (IsNone o → ⊥) → (IsSomeAnd o (λ o. IsFalse (is_open o)) → ⊥)
    → (IsSomeAnd o (λ o. IsTrue o.firm) → ⊥) → IsSomeAnd o (λ o. (is_open o ≡ true) × (o.firm ≡ false))
loose_there x a b c = grind arith

pub open_there : (o : Option Order) → (IsNone o → ⊥) → (IsSomeAnd o (λ o. IsFalse (is_open o)) → ⊥)
    → IsSomeAnd o (λ o. is_open o ≡ true)
open_there x a b = grind arith

pub none_if_not_some : {X : Type 0} (o : Option X) → (IsSome o → ⊥) → o ≡ None
none_if_not_some b h = grind arith

pub takes_more : (f : Name) (w : Way) (o : Option Order) → (IsNone o → ⊥)
    → (IsSomeAnd o (λ o. IsFalse (is_open o)) → ⊥) → (IsSomeAnd o (λ o. IsTrue o.firm) → ⊥)
    → (IsSomeAnd o (λ o. IsTrue (is_transfer o)) → ⊥)
    → (IsSomeAnd o (λ o. IsSomeAnd (line_on o f) (λ l. l.way ≢ w)) → ⊥) → IsSomeAnd o (MayHoldMore f w)
takes_more f w x a b m c d = grind arith

-- ---- answers and runs

-- an answer leaves the ledger, or the next one
pub answered : (A : Ledger) (r : Request) (reply : Reply) (M : Ledger) (P : Ledger → Type 0) → Answers A r reply M → P A
    → (FirstFailure (checks A r.command) None → P (accept A r)) → P M
answered A r reply M P h stays moves = by_key (kept_under A r.key) h
  where
    by_found : (found : Option (Refusal × ℕ)) → FirstFailure (checks A r.command) found
        → MatchOption found ((reply ≡ Done (places A + 1)) × (M ≡ accept A r)) (λ e. (reply ≡ Refused e.0 e.1) × (M ≡ A)) → P M
    by_found None f m = subst P (sym m.1) (moves f)
    by_found (Some e) f m = subst P (sym m.1) stays

    by_key : (k : Option Kept) → MatchOption k (AnswersNew A r reply M)
        (λ k. (reply ≡ (if same_command k.command r.command then Done k.place else Refused KeyReused 0)) × (M ≡ A)) → P M
    by_key None m = by_found m.0 m.1 m.2
    by_key (Some k) m = subst P (sym m.1) stays

-- what each answer leaves, a run leaves
pub along : (Q : Request → Type 0) (P : Ledger → Type 0)
    → ((A : Ledger) (r : Request) (reply : Reply) (M : Ledger) → Q r → Answers A r reply M → P A → P M)
    → (A : Ledger) (rs : List Request) (replies : List Reply) (B : Ledger) → Each Q rs → Runs A rs replies B → P A → P B
along Q P step A [] [] B all run now = subst P (sym run) now
along Q P step A [] (p ∷ ps) B all run now = absurd run
along Q P step A (r ∷ rs) [] B all run now = absurd run
along Q P step A (r ∷ rs) (p ∷ ps) B all run now =
    along Q P step run.0 rs ps B all.1 run.2 (step A r p run.0 all.0 run.1 now)

pub along_any : (P : Ledger → Type 0)
    → ((A : Ledger) (r : Request) (reply : Reply) (M : Ledger) → Answers A r reply M → P A → P M)
    → (A : Ledger) (rs : List Request) (replies : List Reply) (B : Ledger) → Runs A rs replies B → P A → P B
along_any P step A rs replies B run now =
    along (λ _. Unit {0}) P (λ A r p M _ h. step A r p M h) A rs replies B (each (λ _. tt) rs) run now
