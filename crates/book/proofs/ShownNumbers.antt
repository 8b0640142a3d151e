-- The numbers that a book shows of its fields.
use Rattle.ledger.proofs.Prelude.{[], ◌+ℤ◌, ◌-ℤ◌, ◌∙◌, ◌∷◌, ◌≡◌, ◌≤ℤ◌, Bool, Contains, Field, Good, Ledger, List, Name}
use Rattle.ledger.proofs.Prelude.{Some, ap, arith, common_steps, false, find, held_to_add, held_to_take, if◌then◌else◌}
use Rattle.ledger.proofs.Prelude.{is_some, option_map, pos, settled, slice_get, slice_get-map, suc, sym, true}
use Rattle.ledger.proofs.Prelude.{true≢false, ℕ}
use Rattle.book.proofs.Prelude.{BookView, FieldEntry, Inside, field_of, view_of}
use Rattle.escrow.specs.declared.limits.TheConstants.{MAX_LEVEL}
use Rattle.ledger.proofs.Lists.{from_some, each-at}
use Rattle.ledger.proofs.Runs.{in_order}

pub Contains-of_find : {X : Type 0} (p : X → Bool) (xs : List X) (x : X) → find p xs ≡ Some x → Contains xs x
Contains-of_find p [] x n = absurd (true≢false (sym (ap is_some n)))
Contains-of_find p (y ∷ ys) x n = by (p y) n (λ k. Contains-of_find p ys x k)
  where
    by : (b : Bool) → (if b then Some y else find p ys) ≡ Some x → (find p ys ≡ Some x → Contains ys x) → Contains (y ∷ ys) x
    by true n k = (0, omega arith, ap (from_some y) n)
    by false n k = let c = k n in (suc c.0, omega arith, c.2)

-- the field at an index is shown from the entry there
pub slice_get-fields : (b : Inside) (A : BookView) (i : ℕ) (x : Name × FieldEntry) → view_of b ≡ A
    → Some x ≡ slice_get b.fields.entries i → slice_get A.ledger.fields i ≡ Some (field_of x)
slice_get-fields b A i x same read = rw (← same) (slice_get-map field_of b.fields.entries i ∙ ap (option_map field_of) (sym read))

-- from 0 to the greatest level, and in their order
pub record AreLevels (A : Ledger) (f : Field) : Type 0 where
  pub least : pos 0 ≤ℤ (settled A f -ℤ held_to_take A f.name)
  pub inf : (settled A f -ℤ held_to_take A f.name) ≤ℤ settled A f
  pub sup : settled A f ≤ℤ (settled A f +ℤ held_to_add A f.name)
  pub greatest : (settled A f +ℤ held_to_add A f.name) ≤ℤ pos MAX_LEVEL

pub levels_of : (A : Ledger) (f : Field) → Good A → Contains A.fields f → AreLevels A f
levels_of A f g h = grind (arith, common_steps, (in_order A g), each-at, A.fields, h.0, h.1, h.2)
