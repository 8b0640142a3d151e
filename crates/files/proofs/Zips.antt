-- Lists whose elements go together, one more at their ends.
use Rattle.std.proofs.Common.{List, [], ◌∷◌, ◌++◌, Result, Ok, Err, IfOk}
use Rattle.std.specs.List.{AllZip}

pub zip_push : {A B : Type 0} (R : A → B → Type 0) (xs : List A) (ys : List B) (x : A) (y : B) → AllZip R xs ys → R x y
    → AllZip R (xs ++ x ∷ []) (ys ++ y ∷ [])
zip_push R [] [] x y h r = (r, tt)
zip_push R [] (b ∷ ys) x y h r = absurd h
zip_push R (a ∷ xs) [] x y h r = absurd h
zip_push R (a ∷ xs) (b ∷ ys) x y h r = (h.0, zip_push R xs ys x y h.1 r)

pub zip_last : {A B : Type 0} (R : A → B → Type 0) (xs : List A) (x : A) (ys : List B) → AllZip R (xs ++ x ∷ []) ys
    → (y : B) × R x y
zip_last R [] x [] h = absurd h
zip_last R [] x (y ∷ ys) h = (y, h.0)
zip_last R (a ∷ xs) x [] h = absurd h
zip_last R (a ∷ xs) x (b ∷ ys) h = zip_last R xs x ys h.1

-- what is so of a value is so of it in another way
pub ok_imp : {X E : Type 0} (r : Result X E) (P Q : X → Type 0) → IfOk r P → ((x : X) → P x → Q x) → IfOk r Q
ok_imp (Ok x) P Q h step = step x h
ok_imp (Err e) P Q h step = tt
