-- What the answers of a search by halving show.
use Rattle.index.proofs.Prelude.{Equal, Greater, Less, List, Ordering, Some, [], arith, get_or_from_slice_get, length}
use Rattle.index.proofs.Prelude.{refl, slice_get, slice_get_within, ℕ, ◌+◌, ◌∷◌, ◌≡◌, ◌≤◌}
use Rattle.std.specs.Borrow.{Bor}
use Rattle.std.specs.Fn.{Called, ComputesKey, Mut}
use Rattle.std.specs.List.{AllWithin, HoldsAt}
use Rattle.std.specs.List.Sorted.{IsNonDecreasingBy}
use Rattle.std.specs.Ordering.{ordering_index}

bottom : (o : Ordering) → ordering_index o ≤ 0 → o ≡ Less
bottom Less h = refl
bottom Equal h = absurd (omega arith)
bottom Greater h = absurd (omega arith)

top : (o : Ordering) → 2 ≤ ordering_index o → o ≡ Greater
top Less h = absurd (omega arith)
top Equal h = absurd (omega arith)
top Greater h = refl

module _ {X : Type 0} (ord : X → Ordering) (xs : List X) where
  -- where the answers rise, those below low are `Less`, and those from high on `Greater`
  pub record IsNarrowed (low high : ℕ) : Type 0 where
    pub less : IsNonDecreasingBy (λ x. ordering_index (ord x)) xs → AllWithin (λ x. ord x ≡ Less) xs 0 low
    pub greater : IsNonDecreasingBy (λ x. ordering_index (ord x)) xs → AllWithin (λ x. ord x ≡ Greater) xs high (length xs)

  module _ (low high middle : ℕ) (narrowed : IsNarrowed low high) (x : X) (there : slice_get xs middle ≡ Some x) where
    pub behind : ord x ≡ Less → IsNarrowed (middle + 1) high
    behind is = record {
      less = λ rises k d at below. bottom _
          (let up = rises k middle d (omega (arith, below)) (slice_get_within xs middle x there) in
          rw (get_or_from_slice_get xs middle x d there, is) at up);
      greater = narrowed.greater;
    }

    pub in_front : ord x ≡ Greater → IsNarrowed low middle
    in_front is = record {
      less = narrowed.less;
      greater = λ rises k d at below.
          top _ (let up = rises middle k d at below in rw (get_or_from_slice_get xs middle x d there, is) at up);
    }

  pub found : (middle : ℕ) (x : X) → slice_get xs middle ≡ Some x → ord x ≡ Equal → HoldsAt (λ x. ord x ≡ Equal) xs middle
  found middle x there is d = rw (get_or_from_slice_get xs middle x d there) is

-- a call answers by ord, and so do those after it
pub answered : {F X : Type 0} (g : Mut F (Bor X × Unit {0}) Ordering) (ord : X → Ordering) (f : F)
    (x : Bor X × Unit {0}) (r : Ordering) (f' : F) → Called g f x r f' → ComputesKey g ord f
    → (r ≡ ord x.0.now) × ComputesKey g ord f'
answered g ord f x r f' call h = ((h.at (x ∷ []) r f' call).0, record { at = λ xs. (h.at (x ∷ xs) r f' call).1 })
