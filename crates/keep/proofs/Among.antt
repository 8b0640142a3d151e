-- Lists, by what is among them.
use Rattle.std.proofs.Common.{◌≡◌, List, [], ◌∷◌, ap₂, inl, inr, map, refl, subst, sym}
use Rattle.std.specs.List.{AllByRecursion as Each}
use Rattle.keep.specs.Content.{IsAmong}

-- what holds of each holds of one of them
pub of_each : {X : Type 0} (P : X → Type 0) (xs : List X) (x : X) → Each P xs → IsAmong xs x → P x
of_each P [] x all among = absurd among
of_each P (y ∷ ys) x all (inl is) = subst P (sym is) all.0
of_each P (y ∷ ys) x all (inr more) = of_each P ys x all.1 more

-- and what holds of any of them holds of each
pub to_each : {X : Type 0} (P : X → Type 0) (xs : List X) → ((x : X) → IsAmong xs x → P x) → Each P xs
to_each P [] one = tt
to_each P (y ∷ ys) one = (one y (inl refl), to_each P ys (λ x among. one x (inr among)))

-- elements that are turned to something else, and back
pub there_again : {X Y : Type 0} (there : X → Y) (back : Y → X) → ((x : X) → back (there x) ≡ x) → (xs : List X)
    → map back (map there xs) ≡ xs
there_again there back same [] = refl
there_again there back same (x ∷ xs) = ap₂ ◌∷◌ (same x) (there_again there back same xs)
