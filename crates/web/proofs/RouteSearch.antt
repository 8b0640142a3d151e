-- What the search of a router finds: a row whose pattern the path fits.
use Rattle.std.proofs.Common.{◌≡◌, ℕ, zero, suc, ◌-◌, List, [], ◌∷◌, ◌⊎◌, drop, Option, Some, None, arith, inl, inr}
use Rattle.std.proofs.Common.{length, ltb, refl, subst, ◌==◌}
use Rattle.std.proofs.lemmas.Bool.{cases_Bool}
use Rattle.std.proofs.lemmas.Bool.Decides.{nat_tests}
use Rattle.matchit.specs.Rows.{RowsOf, param_token, catch_all_token}
use Rattle.matchit.specs.Seek.{seek, step, own, or_else, param_step, has_slash, longest_suffix, same_text, segment, with_suffix}

drop_none : (n : ℕ) → drop {A = ℕ} n [] ≡ []
drop_none zero = refl
drop_none (suc n) = refl

module _ {K : Type 0} where
  -- each row's pattern and key have the property
  abbrev pub Each : (List ℕ → K → Type 0) → RowsOf K → Type 0
  Each P [] = Unit {0}
  Each P ((pattern, k) ∷ rows) = P pattern k × Each P rows

  each_more : (P Q : List ℕ → K → Type 0) → ((pattern : List ℕ) (k : K) → P pattern k → Q pattern k) → (rows : RowsOf K)
      → Each P rows → Each Q rows
  each_more P Q more [] h = tt
  each_more P Q more ((pattern, k) ∷ rows) h = (more pattern k h.0, each_more P Q more rows h.1)

  each_step : (P : List ℕ → K → Type 0) (b : ℕ) (rows : RowsOf K) → Each P rows
      → Each (λ pattern k. P (b ∷ pattern) k) (step b rows)
  each_step P b [] h = tt
  each_step P b (([], k) ∷ rows) h = each_step P b rows h.1
  each_step P b ((x ∷ pattern, k) ∷ rows) h = elim (cases_Bool (x == b)) [
    | inl e ↦
        let same : x ≡ b = grind (arith, nat_tests) in
        rw e (subst (λ (y : ℕ). P (y ∷ pattern) k) same h.0, each_step P b rows h.1)
    | inr e ↦ rw e (each_step P b rows h.1)
  ]

  each_with_suffix : (P : List ℕ → K → Type 0) (suffix : List ℕ) (rows : RowsOf K) → Each P rows
      → Each P (with_suffix suffix rows)
  each_with_suffix P suffix [] h = tt
  each_with_suffix P suffix ((pattern, k) ∷ rows) h = elim (cases_Bool (same_text (segment pattern) suffix)) [
    | inl e ↦ rw e (h.0, each_with_suffix P suffix rows h.1)
    | inr e ↦ rw e (each_with_suffix P suffix rows h.1)
  ]

  each_param_step : (P : List ℕ → K → Type 0) (rows : RowsOf K) (path : List ℕ) → Each P rows → Each P (param_step rows path).1
  unfolding param_step
  each_param_step P rows path h = elim (cases_Bool (ltb 0 (length (longest_suffix (segment path) rows)))) [
    | inl e ↦ rw e (each_with_suffix P (longest_suffix (segment path) rows) rows h)
    | inr e ↦ elim (cases_Bool (has_slash path)) [
      | inl f ↦ rw (e, f) tt
      | inr f ↦ rw (e, f) h
    ]
  ]

  each_own : (P : List ℕ → K → Type 0) (rows : RowsOf K) (k : K) → Each P rows → own rows ≡ Some k → P [] k
  each_own P [] k h e = cc e
  each_own P (([], other) ∷ rows) k h e = subst (P []) (cc e) h.0
  each_own P ((x ∷ pattern, other) ∷ rows) k h e = each_own P rows k h.1 e

  some_of : (x y : Option K) (k : K) → or_else x y ≡ Some k → (x ≡ Some k) ⊎ (y ≡ Some k)
  some_of None y k e = inr e
  some_of (Some found) y k e = inl e

-- a property of what is left of a pattern and of a path, which stays as the search takes bytes of both
module _ {K : Type 0} (P : List ℕ → List ℕ → K → Type 0)
    (byte : (b : ℕ) (pattern path : List ℕ) (k : K) → P (b ∷ pattern) (b ∷ path) k → P pattern path k)
    (part : (b n : ℕ) (pattern path : List ℕ) (k : K) → P (param_token ∷ pattern) (b ∷ path) k → P pattern (drop n path) k)
    (all : (pattern path : List ℕ) (k : K) → P (catch_all_token ∷ pattern) path k → P pattern [] k) where
  pub found_fits : (skip : ℕ) (rows : RowsOf K) (path : List ℕ) (k : K)
      → Each (λ pattern found. P pattern (drop skip path) found) rows → seek skip rows path ≡ Some k → P [] [] k
  unfolding seek
  found_fits skip rows [] k h e = subst (λ (path : List ℕ). P [] path k) (drop_none skip) (each_own _ rows k h e)
  found_fits (suc skip) rows (b ∷ path) k h e = found_fits skip rows path k h e
  found_fits zero rows (b ∷ path) k h e =
      let rest = param_step (step param_token rows) (b ∷ path) in
      elim (some_of _ _ k e) [
        | inl f ↦
            found_fits 0 (step b rows) path k
            (each_more _ _ (λ pattern found. byte b pattern path found) (step b rows) (each_step _ b rows h)) f
        | inr f ↦ elim (some_of _ _ k f) [
          | inl g ↦
              let each : Each (λ pattern found. P pattern (drop (rest.0 - 1) path) found) (step param_token rows) =
              each_more _ _ (λ pattern found. part b (rest.0 - 1) pattern path found) (step param_token rows)
              (each_step _ param_token rows h) in
              found_fits (rest.0 - 1) rest.1 path k (each_param_step _ (step param_token rows) (b ∷ path) each) g
          | inr g ↦
              each_own _ (step catch_all_token rows) k
              (each_more _ (λ pattern found. P pattern [] found) (λ pattern found. all pattern (b ∷ path) found)
              (step catch_all_token rows) (each_step _ catch_all_token rows h)) g
        ]
      ]
