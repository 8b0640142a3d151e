-- What a message says is what is read in it: the bytes of its target are those that its route is found for.
use Rattle.std.proofs.Common.{◌≡◌, ◌∙◌, ◌<◌, ◌^◌, ℕ, List, [], ◌∷◌, ◌++◌, Option, Some, None, Bool, true, false, ap}
use Rattle.std.proofs.Common.{append_assoc, arith, codes, decimal, inl, inr, length, refl, subst, sym, ◌==◌}
use Rattle.std.proofs.lemmas.Bool.{cases_Bool}
use Rattle.std.proofs.lemmas.Bool.Decides.{nat_tests}
use Rattle.std.proofs.lemmas.Fmt.{decimal_is_IsNumeral}
use Rattle.std.proofs.lemmas.Str.Parse.{digit_from_value}
use Rattle.std.specs.List.{list_all}
use Rattle.std.specs.Str.Parse.{AllDigits}
use Rattle.escrow.specs.Codes.{IsArticle, IsBranch, IsKey, is_article_byte, is_branch_byte, is_key_byte}
use Rattle.matchit.specs.Params.{named}
use Rattle.matchit.specs.Router.{RouteOf}
use Rattle.matchit.specs.Seek.{first, has_slash, same_text, slash}
use Rattle.web.specs.Asks.{Says}
use Rattle.web.specs.Messages.{Message}
use Rattle.web.specs.Reads.{IsRead}
use Rattle.web.specs.Routes.{IsView, part_of, parts_on, resource_of, routes}
use Rattle.web.specs.declared.ask.Ask.{Ask}
use Rattle.web.specs.declared.ask.Ask.TheVariants as ask
use Rattle.web.specs.declared.route.Resource.{Resource}
use Rattle.web.specs.declared.route.Resource.TheVariants.{Article, Branches, Commands, Desk, Due, Field, Key, Open, Order, Sheet}
use Rattle.web.proofs.RouteResult.{IsPart, leads_to}
use Rattle.web.proofs.RouteShapes.{Alone, Before, IsAsciiShape, IsAsciiText, IsTarget, OfField, Shape, ascii_shape}
use Rattle.web.proofs.RouteShapes.{route_of, route_to, routed, shape}
use Rattle.web.proofs.OneView.{same}
use Rattle.web.proofs.TargetParts.{before_parts, field_parts}

-- ---- what a target with a route has for its resource and its parts

resource_is : (target : List ℕ) (route : RouteOf Resource) → first routes target ≡ Some route
    → resource_of target ≡ Some route.value
resource_is target route e = rw e refl

part_is : (name target : List ℕ) (route : RouteOf Resource) → first routes target ≡ Some route
    → part_of name target ≡ named name (parts_on target route)
part_is name target route e = rw e refl

same_bytes : (text : List ℕ) → same_text text text ≡ true
same_bytes [] = refl
same_bytes (b ∷ text) = let e : (b == b) ≡ true = grind (arith, nat_tests) in rw e (same_bytes text)

named_first : (name part : List ℕ) → named name ((name, part) ∷ []) ≡ Some part
named_first name part = rw (same_bytes name) refl

-- the target has the route of that shape
abbrev IsRouteOf : List ℕ → Shape → Resource → Type 0
IsRouteOf target s value = first routes target ≡ Some (route_of s value)

-- the part behind the path
before_part : (path name part target : List ℕ) (value : Resource) → IsAsciiText path → target ≡ path ++ part
    → IsRouteOf target (Before path name) value → part_of name target ≡ Some part
before_part path name part target value ascii is e =
    part_is name target (route_of (Before path name) value) e
    ∙ ap (λ (t : List ℕ). named name (parts_on t (route_of (Before path name) value))) is
    ∙ ap (named name) (before_parts path name part value ascii) ∙ named_first name part

-- what a target with a route of that shape is, and the parts that it has
abbrev IsPlain : Shape → List ℕ → Type 0
IsPlain (Alone path) target = target ≡ path
IsPlain (Before path name) target = (part : List ℕ) × (target ≡ path ++ part) × (part_of name target ≡ Some part)
IsPlain OfField target =
    (part : List ℕ) × (rest : List ℕ) × (target ≡ codes "/v1/fields/" ++ (part ++ slash ∷ rest))
    × (part_of (codes "branch") target ≡ Some part) × (part_of (codes "article") target ≡ Some rest)

plain_target : (s : Shape) (value : Resource) (target : List ℕ) → IsAsciiShape s → IsRouteOf target s value
    → IsTarget s target → IsPlain s target
plain_target (Alone path) value target ascii e is = is
plain_target (Before path name) value target ascii e (part, is) = (part, is, before_part path name part target value ascii.0 is e)
plain_target OfField value target ascii e (part, rest, is, plain) =
    let route = route_of OfField value in
    let parts : parts_on target route ≡ (codes "branch", part) ∷ ((codes "article", rest) ∷ []) =
    ap (λ (t : List ℕ). parts_on t route) is ∙ field_parts part rest value plain in
    let branch = part_is (codes "branch") target route e ∙ ap (named (codes "branch")) parts in
    let article = part_is (codes "article") target route e ∙ ap (named (codes "article")) parts in
    (part, rest, is, branch, article)

-- a target with a resource is one of the resource's route
plain_of : (target : List ℕ) (value : Resource) → resource_of target ≡ Some value → IsPlain (shape value) target
plain_of target value h = by (first routes target) refl
  where
    by : (found : Option (RouteOf Resource)) → first routes target ≡ found → IsPlain (shape value) target
    by None e = let none = rw e at h in cc none
    by (Some route) e =
        let is : route.value ≡ value = let found = rw e at h in cc found in
        let (one, fits) = routed target route e in
        let plain = plain_target (shape route.value) route.value target (ascii_shape route.value) (e ∙ ap Some one) fits in
        subst (λ (r : Resource). IsPlain (shape r) target) is plain

-- ---- codes and numbers are parts

-- a text all of whose bytes pass a test that no slash passes is a part, where it isn't empty
part_from_test : (test : ℕ → Bool) → ((b : ℕ) → test b ≡ true → (b < 256) × ((b == slash) ≡ false)) → (bytes : List ℕ)
    → 0 < length bytes → list_all test bytes ≡ true → IsPart bytes
part_from_test test passes [] some each = absurd (omega arith)
part_from_test test passes (b ∷ bytes) some each = elim (cases_Bool (test b)) [
  | inl e ↦ ((passes b e).0, plain (b ∷ bytes) each)
  | inr e ↦ let none = rw e at each in cc none
]
  where
    plain : (bytes : List ℕ) → list_all test bytes ≡ true → has_slash bytes ≡ false
    plain [] each = refl
    plain (b ∷ bytes) each = elim (cases_Bool (test b)) [
      | inl e ↦ rw (passes b e).1 (plain bytes (rw e at each))
      | inr e ↦ let none = rw e at each in cc none
    ]

branch_part : (bytes : List ℕ) → IsBranch bytes → IsPart bytes
branch_part bytes h =
    part_from_test is_branch_byte (λ b e. (grind (arith, nat_tests), grind (arith, nat_tests))) bytes h.some h.each

article_part : (bytes : List ℕ) → IsArticle bytes → IsPart bytes
article_part bytes h =
    part_from_test is_article_byte (λ b e. (grind (arith, nat_tests), grind (arith, nat_tests))) bytes h.some h.each

key_part : (bytes : List ℕ) → IsKey bytes → IsPart bytes
key_part bytes h = part_from_test is_key_byte (λ b e. (grind (arith, nat_tests), grind (arith, nat_tests))) bytes h.some h.each

digits_part : (bytes : List ℕ) → 0 < length bytes → AllDigits 10 bytes → IsPart bytes
digits_part [] some each = absurd (omega arith)
digits_part (b ∷ bytes) some each = (omega (arith, digit_from_value b each.0), plain (b ∷ bytes) each)
  where
    plain : (bytes : List ℕ) → AllDigits 10 bytes → has_slash bytes ≡ false
    plain [] each = refl
    plain (b ∷ bytes) each =
        let digit = digit_from_value b each.0 in
        let e : (b == slash) ≡ false = grind (arith, nat_tests) in
        rw e (plain bytes each.1)

number_part : (n : ℕ) → n < 2 ^ 64 → IsPart (decimal n)
number_part n h = let digits = decimal_is_IsNumeral n h in digits_part (decimal n) digits.0.0 digits.0.1

part_plain : (bytes : List ℕ) → IsPart bytes → has_slash bytes ≡ false
part_plain [] h = refl
part_plain (b ∷ bytes) h = h.1

-- ---- both directions

field_text : (branch article : List ℕ)
    → codes "/v1/fields/" ++ branch ++ codes "/" ++ article ≡ codes "/v1/fields/" ++ (branch ++ slash ∷ article)
field_text branch article =
    append_assoc (codes "/v1/fields/" ++ branch) (codes "/") article
    ∙ append_assoc (codes "/v1/fields/") branch (slash ∷ article)

-- a target is the path and the part that is found in it
text_of : (path name target part : List ℕ) → IsPlain (Before path name) target → part_of name target ≡ Some part
    → target ≡ path ++ part
text_of path name target part (found, is, e) h = is ∙ ap (λ (part : List ℕ). path ++ part) (same e h)

-- a view that is read is said
view_said : (m : Message) (a : Ask) → m.head.method ≡ codes "GET" → IsView m.head.target a → Says m a
view_said m ask.Desk get h = (get, plain_of m.head.target Desk h)
view_said m ask.Branches get h = (get, plain_of m.head.target Branches h)
view_said m (ask.Field branch article) get h =
    let plain = plain_of m.head.target Field h.0 in
    let a : plain.0 ≡ branch = same plain.3 h.1 in
    let b : plain.1 ≡ article = same plain.4 h.2 in
    ((get, plain.2 ∙ cc (a, b) ∙ sym (field_text branch article)), h.3, h.4)
view_said m (ask.Order n) get h =
    ((get, text_of (codes "/v1/orders/") (codes "number") m.head.target (decimal n) (plain_of m.head.target Order h.0) h.1), h.2)
view_said m (ask.Sheet branch) get h =
    ((get, text_of (codes "/v1/sheets/") (codes "branch") m.head.target branch (plain_of m.head.target Sheet h.0) h.1), h.2)
view_said m (ask.Article article) get h =
    ((get, text_of (codes "/v1/articles/") (codes "article") m.head.target article (plain_of m.head.target Article h.0) h.1), h.2)
view_said m (ask.Kept key) get h =
    ((get, text_of (codes "/v1/keys/") (codes "key") m.head.target key (plain_of m.head.target Key h.0) h.1), h.2)
view_said m (ask.Open floor) get h =
    ((get, text_of (codes "/v1/open/") (codes "number") m.head.target (decimal floor) (plain_of m.head.target Open h.0) h.1), h.2)
view_said m (ask.Due moment) get h =
    ((get, text_of (codes "/v1/due/") (codes "moment") m.head.target (decimal moment) (plain_of m.head.target Due h.0) h.1), h.2)
view_said m (ask.Call r) get h = absurd h
view_said m ask.BadCall get h = absurd h
view_said m ask.Nothing get h = absurd h

-- what is read is said
pub said : (m : Message) (a : Ask) → IsRead m a → Says m a
said m (ask.Call r) (inl (post, h, call)) = ((post, plain_of m.head.target Commands h), call)
said m ask.BadCall (inl (post, h, none)) = ((post, plain_of m.head.target Commands h), none)
said m a (inl (post, h, none)) = absurd none
said m a (inr (get, h)) = view_said m a get h

-- a path alone leads to its resource
alone_read : (path target : List ℕ) (value : Resource) → IsRouteOf path (Alone path) value → target ≡ path
    → resource_of target ≡ Some value
alone_read path target value found is =
    subst (λ (t : List ℕ). resource_of t ≡ Some value) (sym is) (resource_is path (route_of (Alone path) value) found)

-- a path and a part behind it lead to the path's resource, with the part
before_read : (path name target part : List ℕ) (value : Resource) → IsAsciiText path
    → IsRouteOf (path ++ part) (Before path name) value
    → target ≡ path ++ part → (resource_of target ≡ Some value) × (part_of name target ≡ Some part)
before_read path name target part value ascii found is =
    let e : IsRouteOf target (Before path name) value = ap (first routes) is ∙ found in
    (resource_is target (route_of (Before path name) value) e, before_part path name part target value ascii is e)

-- what is said is read
pub is_read : (m : Message) (a : Ask) → Says m a → IsRead m a
unfolding plain_target
is_read m (ask.Call r) ((post, e), call) = inl (post, alone_read _ m.head.target Commands (leads_to Commands) e, call)
is_read m ask.BadCall ((post, e), none) = inl (post, alone_read _ m.head.target Commands (leads_to Commands) e, none)
is_read m ask.Desk (get, e) = inr (get, alone_read _ m.head.target Desk (leads_to Desk) e)
is_read m ask.Branches (get, e) = inr (get, alone_read (codes "/v1/branches") m.head.target Branches (leads_to Branches) e)
is_read m (ask.Field branch article) ((get, e), is_branch, is_article) =
    let target = codes "/v1/fields/" ++ (branch ++ slash ∷ article) in
    let found : first routes target ≡ Some (route_to Field) =
    leads_to Field branch article (branch_part branch is_branch) (article_part article is_article) in
    let plain =
    plain_target OfField Field target tt found
    (branch, article, refl, part_plain branch (branch_part branch is_branch)) in
    let view : IsView target (ask.Field branch article) =
    (resource_is target (route_to Field) found, plain.3, plain.4, is_branch, is_article) in
    inr (get, subst (λ (t : List ℕ). IsView t (ask.Field branch article)) (sym (e ∙ field_text branch article)) view)
is_read m (ask.Order n) ((get, e), h) =
    let found = leads_to Order (decimal n) (number_part n (omega (arith, h.1))) in
    let (to, part) = before_read (codes "/v1/orders/") (codes "number") m.head.target (decimal n) Order refl found e in
    inr (get, (to, part, h))
is_read m (ask.Sheet branch) ((get, e), h) =
    let found = leads_to Sheet branch (branch_part branch h) in
    let (to, part) = before_read (codes "/v1/sheets/") (codes "branch") m.head.target branch Sheet refl found e in
    inr (get, (to, part, h))
is_read m (ask.Article article) ((get, e), h) =
    let found = leads_to Article article (article_part article h) in
    let (to, part) = before_read (codes "/v1/articles/") (codes "article") m.head.target article Article refl found e in
    inr (get, (to, part, h))
is_read m (ask.Kept key) ((get, e), h) =
    let found = leads_to Key key (key_part key h) in
    let (to, part) = before_read (codes "/v1/keys/") (codes "key") m.head.target key Key refl found e in
    inr (get, (to, part, h))
is_read m (ask.Open floor) ((get, e), h) =
    let found = leads_to Open (decimal floor) (number_part floor (omega (arith, h))) in
    let (to, part) = before_read (codes "/v1/open/") (codes "number") m.head.target (decimal floor) Open refl found e in
    inr (get, (to, part, h))
is_read m (ask.Due moment) ((get, e), h) =
    let found = leads_to Due (decimal moment) (number_part moment (omega (arith, h))) in
    let (to, part) = before_read (codes "/v1/due/") (codes "moment") m.head.target (decimal moment) Due refl found e in
    inr (get, (to, part, h))
is_read m ask.Nothing h = absurd h
