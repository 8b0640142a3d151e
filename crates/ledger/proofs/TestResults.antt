-- What a test answers of a fact, and a call of an error.
use Rattle.ledger.proofs.Prelude.{arith, ◌≡◌, ◌↔◌, ◌∙◌, Bool, IfErr, IsTrue, Result, refl, sym, true, false, true≢false}
use Rattle.std.specs.Result.{IsErrAnd}

pub yes : {P : Type 0} → P → IsTrue true ↔ P
yes p = ((λ _. p), λ _. refl)

pub no : {P : Type 0} → (P → ⊥) → IsTrue false ↔ P
no not = ((λ e. absurd (true≢false (sym e))), λ p. absurd (not p))

pub true_not_false : {b : Bool} → b ≡ true → b ≡ false → ⊥
true_not_false e f = true≢false (sym e ∙ f)

-- an error that `?` passes up
pub passed_up : {T E : Type 0} (r : Result T E) (e : E) (P : E → Type 0) → IsErrAnd r (λ y. y ≡ e) → P e → IfErr r P
passed_up b e x is p = grind arith
