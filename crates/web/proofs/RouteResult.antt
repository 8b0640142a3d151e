-- The route of a target that one of the patterns fits.
use Rattle.std.proofs.Common.{◌≡◌, ◌∙◌, ◌<◌, ◌+◌, ◌-◌, ℕ, zero, suc, List, [], ◌∷◌, ◌++◌, ◌&&◌, Option, Some, None}
use Rattle.std.proofs.Common.{Bool, true, false, ap, arith, codes, inl, inr, length, length-append, ltb, refl, ◌==◌}
use Rattle.std.proofs.lemmas.Bool.{cases_Bool}
use Rattle.std.proofs.lemmas.Bool.Decides.{nat_tests}
use Rattle.std.proofs.lemmas.List.{drop_at}
use Rattle.matchit.proofs.OnLiterals.{matchit_on_literals}
use Rattle.matchit.specs.Router.{RouteOf}
use Rattle.matchit.specs.Rows.{RowsOf, param_token, catch_all_token}
use Rattle.matchit.specs.Seek.{cuts, first, has_slash, or_else, own, param_step, seek, slash, step}
use Rattle.web.specs.Routes.{routes}
use Rattle.web.specs.declared.route.Resource.{Resource}
use Rattle.web.specs.declared.route.Resource.TheVariants.{Article, Branches, Commands, Desk, Due, Field, Key, Open, Order, Sheet}
use Rattle.web.proofs.RouteShapes.{Alone, Before, OfField, Shape, route_to, routes_are, shape, table}
use Rattle.web.proofs.TargetParts.{segment_is}

module _ {K : Type 0} where
  or_else_none : (x : Option K) → or_else x (or_else None None) ≡ x
  or_else_none None = refl
  or_else_none (Some k) = refl

  param_step_none : (path : List ℕ) → (param_step {K = K} [] path).1 ≡ []
  unfolding param_step
  param_step_none path = elim (cases_Bool (has_slash path)) [
    | inl e ↦ rw e refl
    | inr e ↦ rw e refl
  ]

  seek_none : (skip : ℕ) (path : List ℕ) → seek {K = K} skip [] path ≡ None
  unfolding seek
  seek_none skip [] = refl
  seek_none (suc skip) (b ∷ path) = seek_none skip path
  seek_none zero (b ∷ path) =
      rw (param_step_none (b ∷ path), seek_none 0 path, seek_none ((param_step {K = K} [] (b ∷ path)).0 - 1) path) refl

  -- no row begins with a parameter
  abbrev is_bare : RowsOf K → Bool
  is_bare [] = true
  is_bare (([], k) ∷ rows) = is_bare rows
  is_bare ((x ∷ pattern, k) ∷ rows) = ltb x param_token && is_bare rows

  bare_step : (token : ℕ) (rows : RowsOf K) → param_token < suc token → is_bare rows ≡ true → step token rows ≡ []
  bare_step token [] h bare = refl
  bare_step token (([], k) ∷ rows) h bare = bare_step token rows h bare
  bare_step token ((x ∷ pattern, k) ∷ rows) h bare = elim (cases_Bool (ltb x param_token)) [
    | inl small ↦
        let e : (x == token) ≡ false = grind (arith, nat_tests) in
        rw e (bare_step token rows h (rw small at bare))
    | inr large ↦ let none = rw large at bare in cc none
  ]

  -- a byte against which no parameter stands
  seek_byte : (b : ℕ) (rows : RowsOf K) (path : List ℕ) → is_bare rows ≡ true → seek 0 rows (b ∷ path) ≡ seek 0 (step b rows) path
  unfolding seek
  seek_byte b rows path bare =
      rw (
        bare_step param_token rows (omega arith) bare,
        bare_step catch_all_token rows (omega arith) bare,
        param_step_none (b ∷ path),
        seek_none ((param_step {K = K} [] (b ∷ path)).0 - 1) path,
      )
      (or_else_none _)

  abbrev rows_behind : List ℕ → RowsOf K → RowsOf K
  rows_behind [] rows = rows
  rows_behind (b ∷ text) rows = rows_behind text (step b rows)

  abbrev stay_bare : List ℕ → RowsOf K → Bool
  stay_bare [] rows = true
  stay_bare (b ∷ text) rows = is_bare rows && stay_bare text (step b rows)

  seek_text : (text : List ℕ) (rows : RowsOf K) (path : List ℕ) → stay_bare text rows ≡ true
      → seek 0 rows (text ++ path) ≡ seek 0 (rows_behind text rows) path
  seek_text [] rows path bare = refl
  seek_text (b ∷ text) rows path bare = elim (cases_Bool (is_bare rows)) [
    | inl e ↦ seek_byte b rows (text ++ path) e ∙ seek_text text (step b rows) path (rw e at bare)
    | inr e ↦ let none = rw e at bare in cc none
  ]

  seek_past : (part : List ℕ) (rows : RowsOf K) (path : List ℕ) → seek (length part) rows (part ++ path) ≡ seek 0 rows path
  unfolding seek
  seek_past [] rows path = refl
  seek_past (b ∷ part) rows path = seek_past part rows path

  seek_to_end : (rows : RowsOf K) (path : List ℕ) → seek (length path) rows path ≡ own rows
  unfolding seek
  seek_to_end rows [] = refl
  seek_to_end rows (b ∷ path) = seek_to_end rows path

cuts_slash : (b : ℕ) (part : List ℕ) → cuts (b ∷ (part ++ slash ∷ [])) (slash ∷ []) ≡ true
cuts_slash b part =
    let size = length-append part (slash ∷ []) in
    let long : ltb 1 (suc (length (part ++ slash ∷ []))) ≡ true = grind (arith, nat_tests) in
    let before : length (b ∷ part) ≡ suc (length (part ++ slash ∷ [])) - 1 = omega arith in
    rw (long, drop_at (b ∷ part) (slash ∷ []) (suc (length (part ++ slash ∷ [])) - 1) before) refl

module _ {K : Type 0} where
  -- a row that ends in a parameter
  last_part : (k : K) (b : ℕ) (part : List ℕ) → b < 256 → has_slash (b ∷ part) ≡ false
      → seek 0 ((param_token ∷ [], k) ∷ []) (b ∷ part) ≡ Some k
  unfolding seek param_step
  last_part k b part small plain =
      let other : (param_token == b) ≡ false = grind (arith, nat_tests) in
      let size : suc (length part) - 1 ≡ length part = omega arith in
      rw (other, seek_none 0 part, plain, size, seek_to_end (([], k) ∷ []) part) refl

  slash_step : (k : K) (b : ℕ) (part rest pattern : List ℕ) → has_slash (b ∷ part) ≡ false
      → param_step ((slash ∷ pattern, k) ∷ []) (b ∷ (part ++ slash ∷ rest)) ≡ (length part + 1, (slash ∷ pattern, k) ∷ [])
  unfolding param_step
  slash_step k b part rest pattern plain =
      let size : suc (length (part ++ slash ∷ [])) - 1 ≡ length part + 1 =
      let long = length-append part (slash ∷ []) in omega arith in
      rw (segment_is (b ∷ part) rest plain, cuts_slash b part) (ap (λ (n : ℕ). (n, (slash ∷ pattern, k) ∷ [])) size)

  -- a row that goes on with a slash behind its parameter
  part_then_slash : (k : K) (b : ℕ) (part rest pattern : List ℕ) (found : Option K) → b < 256 → has_slash (b ∷ part) ≡ false
      → seek 0 ((slash ∷ pattern, k) ∷ []) (slash ∷ rest) ≡ found
      → seek 0 ((param_token ∷ (slash ∷ pattern), k) ∷ []) (b ∷ (part ++ slash ∷ rest)) ≡ found
  unfolding seek
  part_then_slash k b part rest pattern found small plain e =
      let other : (param_token == b) ≡ false = grind (arith, nat_tests) in
      let size : length part + 1 - 1 ≡ length part = omega arith in
      rw (
        other,
        seek_none 0 (part ++ slash ∷ rest),
        slash_step k b part rest pattern plain,
        size,
        seek_past part ((slash ∷ pattern, k) ∷ []) (slash ∷ rest),
        e,
      ) (or_else_none found)

in_table : (target : List ℕ) → first routes target ≡ first table target
in_table target = ap (λ (rows : RowsOf (RouteOf Resource)). first rows target) routes_are

-- a part that a parameter takes: some bytes, the first of them a byte, and no slash among them
abbrev pub IsPart : List ℕ → Type 0
IsPart [] = ⊥
IsPart (b ∷ part) = (b < 256) × (has_slash (b ∷ part) ≡ false)

-- the row of the path is the only one that its bytes lead to
before_found : (path : List ℕ) (route : RouteOf Resource) → stay_bare path table ≡ true
    → rows_behind path table ≡ (param_token ∷ [], route) ∷ []
    → (part : List ℕ) → IsPart part → first routes (path ++ part) ≡ Some route
before_found path route bare leads [] h = elim h [ ]
before_found path route bare leads (b ∷ part) h =
    in_table _ ∙ seek_text path table (b ∷ part) bare
    ∙ ap (λ (rows : RowsOf (RouteOf Resource)). seek 0 rows (b ∷ part)) leads ∙ last_part route b part h.0 h.1

field_found : (part rest : List ℕ) → IsPart part → IsPart rest
    → first routes (codes "/v1/fields/" ++ (part ++ slash ∷ rest)) ≡ Some (route_to Field)
field_found [] rest h g = elim h [ ]
field_found (b ∷ part) [] h g = elim g [ ]
field_found (b ∷ part) (c ∷ rest) h g =
    let last : seek 0 ((slash ∷ (param_token ∷ []), route_to Field) ∷ []) (slash ∷ (c ∷ rest)) ≡ Some (route_to Field) =
    seek_byte slash ((slash ∷ (param_token ∷ []), route_to Field) ∷ []) (c ∷ rest) refl
    ∙ last_part (route_to Field) c rest g.0 g.1 in
    in_table _ ∙ seek_text (codes "/v1/fields/") table (b ∷ (part ++ slash ∷ (c ∷ rest))) refl
    ∙ part_then_slash (route_to Field) b part (c ∷ rest) (param_token ∷ []) (Some (route_to Field)) h.0 h.1 last

-- each target of that shape has that route
abbrev pub LeadsTo : Shape → RouteOf Resource → Type 0
LeadsTo (Alone path) route = first routes path ≡ Some route
LeadsTo (Before path name) route = (part : List ℕ) → IsPart part → first routes (path ++ part) ≡ Some route
LeadsTo OfField route =
    (part rest : List ℕ) → IsPart part → IsPart rest → first routes (codes "/v1/fields/" ++ (part ++ slash ∷ rest)) ≡ Some route

pub leads_to : (value : Resource) → LeadsTo (shape value) (route_to value)
unfolding matchit_on_literals
leads_to Article = before_found (codes "/v1/articles/") (route_to Article) refl refl
leads_to Branches = refl
leads_to Commands = refl
leads_to Desk = refl
leads_to Due = before_found (codes "/v1/due/") (route_to Due) refl refl
leads_to Field = field_found
leads_to Key = before_found (codes "/v1/keys/") (route_to Key) refl refl
leads_to Open = before_found (codes "/v1/open/") (route_to Open) refl refl
leads_to Order = before_found (codes "/v1/orders/") (route_to Order) refl refl
leads_to Sheet = before_found (codes "/v1/sheets/") (route_to Sheet) refl refl
