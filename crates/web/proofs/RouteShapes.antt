-- The routes as they stand, and the targets that each is found for.
use Rattle.std.proofs.Common.{◌≡◌, ◌∙◌, ◌+◌, ℕ, suc, List, [], ◌∷◌, ◌++◌, drop, length, map, Some, true, false, cond}
use Rattle.std.proofs.Common.{ap, append-nil, arith, codes, inl, inr, ltb, refl, subst, sym, ◌==◌}
use Rattle.std.proofs.lemmas.Bool.{cases_Bool}
use Rattle.std.proofs.lemmas.Bool.Decides.{nat_tests}
use Rattle.std.proofs.lemmas.List.{take-append-drop}
use Rattle.std.specs.List.{list_all}
use Rattle.std.specs.Prelude.{take}
use Rattle.matchit.proofs.OnLiterals.{matchit_on_literals}
use Rattle.matchit.specs.Route.{close_brace, open_brace}
use Rattle.matchit.specs.Router.{RouteOf}
use Rattle.matchit.specs.Rows.{RowsOf, param_token, catch_all_token}
use Rattle.matchit.specs.Seek.{first, has_slash, slash}
use Rattle.web.specs.Routes.{AllFit, route_texts, routes}
use Rattle.web.specs.declared.route.Resource.{Resource}
use Rattle.web.specs.declared.route.Resource.TheVariants.{Article, Branches, Commands, Desk, Due, Field, Key, Open, Order, Sheet}
use Rattle.web.proofs.RouteSearch.{Each, found_fits}

-- ---- the routes

-- a path alone, a path with a part of that name behind it, or the two parts of a field behind theirs
pub data Shape : Type 0 where
  Alone : List ℕ → Shape
  Before : List ℕ → List ℕ → Shape
  OfField : Shape

abbrev pub shape : Resource → Shape
shape Article = Before (codes "/v1/articles/") (codes "article")
shape Branches = Alone (codes "/v1/branches")
shape Commands = Alone (codes "/v1/commands")
shape Desk = Alone (codes "/v1/desk")
shape Due = Before (codes "/v1/due/") (codes "moment")
shape Field = OfField
shape Key = Before (codes "/v1/keys/") (codes "key")
shape Open = Before (codes "/v1/open/") (codes "number")
shape Order = Before (codes "/v1/orders/") (codes "number")
shape Sheet = Before (codes "/v1/sheets/") (codes "branch")

abbrev pub pattern_of : Shape → List ℕ
pattern_of (Alone path) = path
pattern_of (Before path name) = path ++ param_token ∷ []
pattern_of OfField = codes "/v1/fields/" ++ (param_token ∷ (slash ∷ (param_token ∷ [])))

abbrev pub text_of : Shape → List ℕ
text_of (Alone path) = path
text_of (Before path name) = path ++ open_brace ∷ (name ++ close_brace ∷ [])
text_of OfField = codes "/v1/fields/{branch}/{article}"

-- where the names stand in the text
abbrev pub names_of : Shape → List (ℕ × ℕ)
names_of (Alone path) = []
names_of (Before path name) = (length path + 1, length path + 1 + length name) ∷ []
names_of OfField = (12, 18) ∷ ((21, 28) ∷ [])

abbrev pub route_of : Shape → Resource → RouteOf Resource
route_of s value = record { pattern = pattern_of s; text = text_of s; names = names_of s; value = value }

abbrev pub route_to : Resource → RouteOf Resource
route_to value = route_of (shape value) value

abbrev row : Resource → List ℕ × RouteOf Resource
row value = ((route_to value).pattern, route_to value)

-- in the order of their rows
abbrev in_order : List Resource
in_order = Article ∷ Branches ∷ Commands ∷ Desk ∷ Due ∷ Field ∷ Key ∷ Open ∷ Order ∷ Sheet ∷ []

abbrev pub table : RowsOf (RouteOf Resource)
table = map row in_order

pub routes_are : routes ≡ table
unfolding matchit_on_literals
routes_are = refl

pub all_fit : AllFit route_texts []
unfolding matchit_on_literals
all_fit = (refl, (refl, (refl, (refl, (refl, (refl, (refl, (refl, (refl, (refl, tt))))))))))

-- its bytes are ASCII
abbrev pub IsAsciiText : List ℕ → Type 0
IsAsciiText text = list_all (λ b. ltb b 128) text ≡ true

abbrev pub IsAsciiShape : Shape → Type 0
IsAsciiShape (Alone path) = IsAsciiText path
IsAsciiShape (Before path name) = IsAsciiText path × IsAsciiText name
IsAsciiShape OfField = Unit {0}

pub ascii_shape : (value : Resource) → IsAsciiShape (shape value)
ascii_shape Article = (refl, refl)
ascii_shape Branches = refl
ascii_shape Commands = refl
ascii_shape Desk = refl
ascii_shape Due = (refl, refl)
ascii_shape Field = tt
ascii_shape Key = (refl, refl)
ascii_shape Open = (refl, refl)
ascii_shape Order = (refl, refl)
ascii_shape Sheet = (refl, refl)

-- ---- which targets a route is found for

-- the path fits the pattern: a byte stands for itself, and a parameter for some bytes
abbrev pub Fits : List ℕ → List ℕ → Type 0
Fits [] path = path ≡ []
Fits (x ∷ pattern) path =
    cond (x == param_token) ((n : ℕ) × Fits pattern (drop n path))
    (cond (x == catch_all_token) (Unit {0}) ((rest : List ℕ) × (path ≡ x ∷ rest) × Fits pattern rest))

fits_byte : (b : ℕ) (pattern path : List ℕ) → Fits pattern path → Fits (b ∷ pattern) (b ∷ path)
fits_byte b pattern path h = elim (cases_Bool (b == param_token)) [
  | inl e ↦ rw e (1, h)
  | inr e ↦ elim (cases_Bool (b == catch_all_token)) [
    | inl f ↦ rw (e, f) tt
    | inr f ↦ rw (e, f) (path, refl, h)
  ]
]

-- one more byte of a text in front
one_more : (b : ℕ) (text pattern path : List ℕ)
    → ((rest : List ℕ) → Fits (text ++ pattern) rest → (more : List ℕ) × (rest ≡ text ++ more) × Fits pattern more)
    → (rest : List ℕ) × (path ≡ b ∷ rest) × Fits (text ++ pattern) rest
    → (more : List ℕ) × (path ≡ b ∷ (text ++ more)) × Fits pattern more
one_more b text pattern path go (rest, e, h) =
    let found = go rest h in
    (found.0, e ∙ ap (λ (bytes : List ℕ). b ∷ bytes) found.1, found.2)

-- a text in front of the pattern stands in front of the path
fits_text : (text pattern path : List ℕ) → IsAsciiText text → Fits (text ++ pattern) path
    → (rest : List ℕ) × (path ≡ text ++ rest) × Fits pattern rest
fits_text [] pattern path bytes h = (path, refl, h)
fits_text (b ∷ text) pattern path bytes h = elim (cases_Bool (ltb b 128)) [
  | inl small ↦
      let e : (b == param_token) ≡ false = grind (arith, nat_tests) in
      let f : (b == catch_all_token) ≡ false = grind (arith, nat_tests) in
      one_more b text pattern path (λ rest. fits_text text pattern rest (rw small at bytes)) (rw (e, f) at h)
  | inr large ↦ let none = rw large at bytes in cc none
]

-- where the rest of the path fits the rest of the pattern, the target fits the pattern
abbrev Stays : List ℕ → List ℕ → List ℕ → RouteOf Resource → Type 0
Stays target pattern path found = (Fits pattern path → Fits found.pattern target) × (found ≡ route_to found.value)

route_fits : (target : List ℕ) (route : RouteOf Resource) → first routes target ≡ Some route
    → Fits route.pattern target × (route ≡ route_to route.value)
route_fits target route e =
    let here = ap (λ (rows : RowsOf (RouteOf Resource)). first rows target) (sym routes_are) ∙ e in
    let left = found_fits (Stays target) byte part all 0 _ target route (each in_order) here in
    (left.0 refl, left.1)
  where
    each : (values : List Resource) → Each (λ pattern found. Stays target pattern target found) (map row values)
    each [] = tt
    each (value ∷ values) = ((λ h. h, refl), each values)

    byte : (b : ℕ) (pattern path : List ℕ) (found : RouteOf Resource) → Stays target (b ∷ pattern) (b ∷ path) found
        → Stays target pattern path found
    byte b pattern path found h = (λ f. h.0 (fits_byte b pattern path f), h.1)

    part : (b n : ℕ) (pattern path : List ℕ) (found : RouteOf Resource) → Stays target (param_token ∷ pattern) (b ∷ path) found
        → Stays target pattern (drop n path) found
    part b n pattern path found h = (λ f. h.0 (suc n, f), h.1)

    all : (pattern path : List ℕ) (found : RouteOf Resource) → Stays target (catch_all_token ∷ pattern) path found
        → Stays target pattern [] found
    all pattern path found h = (λ f. h.0 tt, h.1)

-- the text as far as its first slash, and what stands behind it
first_slash : (front back : List ℕ)
    → (part : List ℕ) × (rest : List ℕ) × (front ++ slash ∷ back ≡ part ++ slash ∷ rest) × (has_slash part ≡ false)
first_slash [] back = ([], back, refl, refl)
first_slash (b ∷ front) back = elim (cases_Bool (b == slash)) [
  | inl e ↦
      let same : b ≡ slash = grind (arith, nat_tests) in
      ([], front ++ slash ∷ back, ap (λ (x : ℕ). x ∷ (front ++ slash ∷ back)) same, refl)
  | inr e ↦
      let more = first_slash front back in
      (b ∷ more.0, more.1, ap (λ (bytes : List ℕ). b ∷ bytes) more.2, rw e more.3)
]

-- what a target of a route of that shape is
abbrev pub IsTarget : Shape → List ℕ → Type 0
IsTarget (Alone path) target = target ≡ path
IsTarget (Before path name) target = (part : List ℕ) × (target ≡ path ++ part)
IsTarget OfField target =
    (part : List ℕ) × (rest : List ℕ) × (target ≡ codes "/v1/fields/" ++ (part ++ slash ∷ rest)) × (has_slash part ≡ false)

fits_target : (s : Shape) (value : Resource) (target : List ℕ) → IsAsciiShape s → Fits (route_of s value).pattern target
    → IsTarget s target
fits_target (Alone path) value target ascii h =
    let text = fits_text path [] target ascii (subst (λ (pattern : List ℕ). Fits pattern target) (sym (append-nil path)) h) in
    text.1 ∙ ap (λ (rest : List ℕ). path ++ rest) text.2 ∙ append-nil path
fits_target (Before path name) value target ascii h =
    let text = fits_text path (param_token ∷ []) target ascii.0 h in
    (text.0, text.1)
fits_target OfField value target ascii h =
    let text = fits_text (codes "/v1/fields/") (param_token ∷ (slash ∷ (param_token ∷ []))) target refl h in
    let n = text.2.0 in
    let split = first_slash (take n text.0) text.2.1.0 in
    let rest : text.0 ≡ take n text.0 ++ slash ∷ text.2.1.0 =
    sym (take-append-drop n text.0) ∙ ap (λ (rest : List ℕ). take n text.0 ++ rest) text.2.1.1 in
    (split.0, split.1, text.1 ∙ ap (λ (rest : List ℕ). codes "/v1/fields/" ++ rest) (rest ∙ split.2), split.3)

-- the route that is found is its resource's, and the target is one of it
pub routed : (target : List ℕ) (route : RouteOf Resource) → first routes target ≡ Some route
    → (route ≡ route_to route.value) × IsTarget (shape route.value) target
routed target route e =
    let (fits, one) = route_fits target route e in
    let same = subst (λ (r : RouteOf Resource). Fits r.pattern target) one fits in
    (one, fits_target (shape route.value) route.value target (ascii_shape route.value) same)
