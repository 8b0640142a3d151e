-- What stands at the places of a list.
use Rattle.std.proofs.Common.{◌≡◌, ◌≢◌, ◌⊎◌, ◌∙◌, ◌+◌, ◌<◌, ◌≤◌, ◌++◌, ◌∷◌, ℕ, zero, suc, Bool, List, [], Option, None}
use Rattle.std.proofs.Common.{Some, ap, arith, inl, inr, length, length-set, refl, set, subst, sym, take, true, false}
use Rattle.std.specs.Prelude.{nat_eq, slice_get}
use Rattle.std.proofs.lemmas.Bool.Decides.{eqb_tells}
use Rattle.rounds.specs.Rounds.{AreBefore, AtEach, IsAt}

module _ {X : Type 0} where
  pub set_same : (xs : List X) (i : ℕ) (x y : X) → slice_get (set xs i y) i ≡ Some x → x ≡ y
  set_same [] i x y e = cc
  set_same (z ∷ xs) zero x y e = cc
  set_same (z ∷ xs) (suc i) x y e = set_same xs i x y e

  pub set_other : (xs : List X) (i p : ℕ) (x y : X) → (p ≡ i → ⊥) → slice_get (set xs i y) p ≡ Some x → slice_get xs p ≡ Some x
  set_other [] i p x y ne e = e
  set_other (z ∷ xs) zero zero x y ne e = absurd (ne refl)
  set_other (z ∷ xs) zero (suc p) x y ne e = e
  set_other (z ∷ xs) (suc i) zero x y ne e = e
  set_other (z ∷ xs) (suc i) (suc p) x y ne e = set_other xs i p x y (λ same. ne (ap suc same)) e

  pub get_set : (xs : List X) (i : ℕ) (x y : X) → slice_get xs i ≡ Some x → slice_get (set xs i y) i ≡ Some y
  get_set [] i x y e = absurd (cc)
  get_set (z ∷ xs) zero x y e = refl
  get_set (z ∷ xs) (suc i) x y e = get_set xs i x y e

  pub get_other : (xs : List X) (i p : ℕ) (y : X) → (p ≡ i → ⊥) → slice_get (set xs i y) p ≡ slice_get xs p
  get_other [] i p y ne = refl
  get_other (z ∷ xs) zero zero y ne = absurd (ne refl)
  get_other (z ∷ xs) zero (suc p) y ne = refl
  get_other (z ∷ xs) (suc i) zero y ne = refl
  get_other (z ∷ xs) (suc i) (suc p) y ne = get_other xs i p y (λ same. ne (ap suc same))

  pub set_still : (xs : List X) (i : ℕ) (x : X) → slice_get xs i ≡ Some x → set xs i x ≡ xs
  set_still [] i x e = refl
  set_still (z ∷ xs) zero x e = ap (λ (y : X). y ∷ xs) (let same : x ≡ z = cc in same)
  set_still (z ∷ xs) (suc i) x e = ap (λ (ys : List X). z ∷ ys) (set_still xs i x e)

  -- behind a list
  pub get_front : (xs : List X) (y x : X) (p : ℕ) → slice_get xs p ≡ Some x → slice_get (xs ++ y ∷ []) p ≡ Some x
  get_front [] y x p e = absurd (cc)
  get_front (z ∷ xs) y x zero e = e
  get_front (z ∷ xs) y x (suc p) e = get_front xs y x p e

  pub set_front : (xs : List X) (y x z : X) (p : ℕ) → slice_get xs p ≡ Some x → set (xs ++ y ∷ []) p z ≡ set xs p z ++ y ∷ []
  set_front [] y x z p e = absurd (cc)
  set_front (w ∷ xs) y x z zero e = refl
  set_front (w ∷ xs) y x z (suc p) e = ap (λ (ys : List X). w ∷ ys) (set_front xs y x z p e)

  pub get_end : (xs : List X) (y : X) → slice_get (xs ++ y ∷ []) (length xs) ≡ Some y
  get_end [] y = refl
  get_end (z ∷ xs) y = get_end xs y

  pub get_joined : (xs : List X) (y x : X) (p : ℕ) → slice_get (xs ++ y ∷ []) p ≡ Some x
      → (slice_get xs p ≡ Some x) ⊎ ((x ≡ y) × (p ≡ length xs))
  get_joined [] y x zero e = inr (cc, refl)
  get_joined [] y x (suc p) e = absurd (cc)
  get_joined (z ∷ xs) y x zero e = inl e
  get_joined (z ∷ xs) y x (suc p) e = by (get_joined xs y x p e)
    where
      by : (slice_get xs p ≡ Some x) ⊎ ((x ≡ y) × (p ≡ length xs))
          → (slice_get xs p ≡ Some x) ⊎ ((x ≡ y) × (suc p ≡ suc (length xs)))
      by (inl is) = inl is
      by (inr (same, last)) = inr (same, ap suc last)

  -- what is so at each other place, and of what is written at one, is so at all
  pub all_set : (P : ℕ → X → Type 0) (xs : List X) (i : ℕ) (y : X) → P i y
      → ((p : ℕ) (x : X) → (p ≡ i → ⊥) → slice_get xs p ≡ Some x → P p x)
      → (p : ℕ) (x : X) → slice_get (set xs i y) p ≡ Some x → P p x
  all_set P xs i y this others p x e = by (eqb_tells p i)
    where
      by : ((nat_eq p i ≡ true) × (p ≡ i)) ⊎ ((nat_eq p i ≡ false) × (p ≢ i)) → P p x
      by (inl (is, same)) = subst (λ (q : ℕ). P q x) (sym same)
          (subst (P i) (sym (set_same xs i x y (subst (λ (q : ℕ). slice_get (set xs i y) q ≡ Some x) same e))) this)
      by (inr (is, other)) = others p x other (set_other xs i p x y other e)

module _ {V : Type 0} (R : Option V → Option V → Type 0) where
  -- who is at a place now was there before
  pub each_at : (old new : List (Option V)) (p : ℕ) (w : V) → AtEach R old new → IsAt new p w
      → (v : Option V) × (slice_get old p ≡ Some v) × R v (Some w)
  each_at [] [] p w h e = absurd (cc)
  each_at [] (u ∷ new) p w h e = absurd h
  each_at (v ∷ old) [] p w h e = absurd h
  each_at (v ∷ old) (None ∷ new) zero w (here, others) e = absurd (cc)
  each_at (v ∷ old) (Some u ∷ new) zero w (here, others) e =
      let same : u ≡ w = cc in (v, refl, subst (λ (x : V). R v (Some x)) same here)
  each_at (v ∷ old) (u ∷ new) (suc p) w (here, others) e = each_at old new p w others e

  -- who was at a place is there now
  pub each_from : (old new : List (Option V)) (p : ℕ) (v : V) → AtEach R old new → IsAt old p v
      → (w : Option V) × (slice_get new p ≡ Some w) × R (Some v) w
  each_from [] [] p v h e = absurd (cc)
  each_from [] (w ∷ new) p v h e = absurd h
  each_from (u ∷ old) [] p v h e = absurd h
  each_from (None ∷ old) (w ∷ new) zero v (here, others) e = absurd (cc)
  each_from (Some u ∷ old) (w ∷ new) zero v (here, others) e =
      let same : u ≡ v = cc in (w, refl, subst (λ (x : V). R (Some x) w) same here)
  each_from (u ∷ old) (w ∷ new) (suc p) v (here, others) e = each_from old new p v others e

  pub each_same : ((v : Option V) → R v v) → (xs : List (Option V)) → AtEach R xs xs
  each_same still [] = tt
  each_same still (x ∷ xs) = (still x, each_same still xs)

  pub each_set : ((v : Option V) → R v v) → (xs : List (Option V)) (i : ℕ) (v w : Option V) → slice_get xs i ≡ Some v
      → R v w → AtEach R xs (set xs i w)
  each_set still [] i v w e r = tt
  each_set still (x ∷ xs) zero v w e r = let same : v ≡ x = cc in (subst (λ (y : Option V). R y w) same r, each_same still xs)
  each_set still (x ∷ xs) (suc i) v w e r = (still x, each_set still xs i v w e r)

  pub each_on : ((u v w : Option V) → R u v → R v w → R u w) → (xs ys zs : List (Option V)) → AtEach R xs ys → AtEach R ys zs
      → AtEach R xs zs
  each_on on [] [] [] h k = tt
  each_on on [] [] (z ∷ zs) h k = absurd k
  each_on on [] (y ∷ ys) zs h k = absurd h
  each_on on (x ∷ xs) [] zs h k = absurd h
  each_on on (x ∷ xs) (y ∷ ys) [] h k = absurd k
  each_on on (x ∷ xs) (y ∷ ys) (z ∷ zs) (h, hs) (k, ks) = (on x y z h k, each_on on xs ys zs hs ks)

-- what is so of each pair that R holds of, is so at each place
pub each_so : {V : Type 0} (R T : Option V → Option V → Type 0) → ((v w : Option V) → R v w → T v w) → (old new : List (Option V))
    → AtEach R old new → AtEach T old new
each_so R T so [] [] h = tt
each_so R T so [] (w ∷ new) h = absurd h
each_so R T so (v ∷ old) [] h = absurd h
each_so R T so (v ∷ old) (w ∷ new) (here, others) = (so v w here, each_so R T so old new others)

-- R holds at the places before a bound, and the others are as they were
pub record HasGoneOver {V : Type 0} (R : Option V → Option V → Type 0) (old new : List (Option V)) (bound : ℕ) : Type 0 where
  pub size : length new ≡ length old
  pub before : (p : ℕ) (v w : Option V) → p < bound → slice_get old p ≡ Some v → slice_get new p ≡ Some w → R v w
  pub others : (p : ℕ) → bound ≤ p → slice_get new p ≡ slice_get old p

module _ {V : Type 0} (R : Option V → Option V → Type 0) where
  pub gone_none : (xs : List (Option V)) → HasGoneOver R xs xs 0
  gone_none xs = record { size = refl; before = λ p v w lt. absurd (omega arith); others = λ p le. refl }

  pub gone_more : (old new : List (Option V)) (i : ℕ) (v w : Option V) → HasGoneOver R old new i
      → slice_get new i ≡ Some v → R v w
      → HasGoneOver R old (set new i w) (i + 1)
  gone_more old new i v w so_far at_i r = record {
    size = length-set new i w ∙ so_far.size;
    before = λ p x y lt at_x at_y. by p x y lt at_x at_y (eqb_tells p i);
    others = λ p le. get_other new i p w (λ here. absurd (omega arith)) ∙ so_far.others p (omega arith);
  }
    where
      by : (p : ℕ) (x y : Option V) → p < i + 1 → slice_get old p ≡ Some x → slice_get (set new i w) p ≡ Some y
          → ((nat_eq p i ≡ true) × (p ≡ i)) ⊎ ((nat_eq p i ≡ false) × (p ≢ i)) → R x y
      by p x y lt at_x at_y (inl (_, here)) =
          let old_at : slice_get old i ≡ Some x = subst (λ (q : ℕ). slice_get old q ≡ Some x) here at_x in
          let new_at : slice_get (set new i w) i ≡ Some y = subst (λ (q : ℕ). slice_get (set new i w) q ≡ Some y) here at_y in
          let same : v ≡ x = cc (at_i, so_far.others i (omega arith), old_at) in
          let put : w ≡ y = cc (get_set new i v w at_i, new_at) in
          subst (λ (o : Option V). R x o) put (subst (λ (o : Option V). R o w) same r)
      by p x y lt at_x at_y (inr (_, other)) =
          so_far.before p x y (omega (arith, other)) at_x (sym (get_other new i p w other) ∙ at_y)

  -- nobody is at the others
  pub gone_taken : (old new : List (Option V)) (bound : ℕ) → HasGoneOver R old new bound → AreBefore bound old
      → R None None → AtEach R old new
  gone_taken [] [] bound h before none = tt
  gone_taken [] (y ∷ ys) bound h before none = absurd (omega (arith, h.size))
  gone_taken (x ∷ xs) [] bound h before none = absurd (omega (arith, h.size))
  gone_taken (Some v ∷ xs) (y ∷ ys) zero h before none = absurd (omega (arith, before 0 v refl))
  gone_taken (None ∷ xs) (y ∷ ys) zero h before none =
      let same : Some y ≡ Some None = h.others 0 (omega arith) in
      let here : y ≡ None = cc in (
        subst (λ o. R None o) (sym here) none,
        gone_taken xs ys zero (record {
          size = (omega (arith, h.size));
          before = λ p v w lt. absurd (omega (arith, lt));
          others = λ p le. h.others (suc p) (omega arith);
        }) (λ p v e. absurd (omega (arith, before (suc p) v e))) none,
      )
  gone_taken (x ∷ xs) (y ∷ ys) (suc bound) h before none = (
    h.before 0 x y (omega arith) refl refl,
    gone_taken xs ys bound (record {
      size = (omega (arith, h.size));
      before = λ p v w lt at_v at_w. h.before (suc p) v w (omega arith) at_v at_w;
      others = λ p le. h.others (suc p) (omega arith);
    }) (λ p v e. omega (arith, before (suc p) v e)) none,
  )

-- one place more, at which nobody is
pub free_more : {V : Type 0} (xs : List (Option V)) → ((p : ℕ) (v : V) → IsAt xs p v → ⊥) → (p : ℕ) (v : V)
    → IsAt (xs ++ None ∷ []) p v → ⊥
free_more xs free p v e = by (get_joined xs None (Some v) p e)
  where
    by : (slice_get xs p ≡ Some (Some v)) ⊎ ((Some v ≡ None) × (p ≡ length xs)) → ⊥
    by (inl is) = free p v is
    by (inr (is, _)) = absurd (cc)

pub each_size : {V : Type 0} (R : Option V → Option V → Type 0) (xs ys : List (Option V)) → AtEach R xs ys → length ys ≡ length xs
each_size R [] [] h = refl
each_size R [] (y ∷ ys) h = absurd h
each_size R (x ∷ xs) [] h = absurd h
each_size R (x ∷ xs) (y ∷ ys) (h, hs) = ap suc (each_size R xs ys hs)

-- what is written back over a whole list
pub whole_back : {X : Type 0} (n : ℕ) (xs ys : List X) → length xs ≡ n → take n (xs ++ ys) ≡ xs
whole_back {X = X} n xs ys e = subst (λ (k : ℕ). take k (xs ++ ys) ≡ xs) e (whole xs ys)
  where
    whole : (xs ys : List X) → take (length xs) (xs ++ ys) ≡ xs
    whole [] [] = refl
    whole [] (y ∷ ys) = refl
    whole (x ∷ xs) ys = ap (λ (zs : List X). x ∷ zs) (whole xs ys)

-- a place before one bound is before each greater one
pub before_too : {n m k : ℕ} → n < m → m ≤ k → n < k
before_too lt le = omega arith

-- a place within a list is within each list of the same length
pub within_too : {X Y : Type 0} (xs : List X) (ys : List Y) {n m : ℕ} → n < m → m ≤ length xs → length ys ≡ length xs → n < length ys
within_too xs ys lt le same = omega (arith, lt, le, same)

-- one of two, by a test
pub by_test : {X Y : Type 0} (b : Bool) → (b ≡ false → X) → (b ≡ true → Y) → X ⊎ Y
by_test false h k = inl (h refl)
by_test true h k = inr (k refl)

pub not_true : (b : Bool) → (b ≡ true → ⊥) → b ≡ false
not_true false h = refl
not_true true h = absurd (h refl)

-- so it is either way
pub either_way : {X : Type 0} (b : Bool) → (b ≡ false → X) → (b ≡ true → X) → X
either_way false h k = h refl
either_way true h k = k refl

-- so many places are free, and the next one too
pub free_on : {V : Type 0} (old new : List (Option V)) (i : ℕ) → ((p : ℕ) → p < i → slice_get old p ≡ Some None)
    → slice_get new i ≡ Some None
    → ((p : ℕ) → p ≢ i → slice_get new p ≡ slice_get old p) → (p : ℕ) → p < i + 1 → slice_get new p ≡ Some None
free_on old new i before here others p lt = by (eqb_tells p i)
  where
    by : ((nat_eq p i ≡ true) × (p ≡ i)) ⊎ ((nat_eq p i ≡ false) × (p ≢ i)) → slice_get new p ≡ Some None
    by (inl (_, is)) = subst (λ (q : ℕ). slice_get new q ≡ Some None) (sym is) here
    by (inr (_, other)) = others p other ∙ before p (omega (arith, lt, other))

pub not_false : (b : Bool) → (b ≡ false → ⊥) → b ≡ true
not_false true h = refl
not_false false h = absurd (h refl)
