-- The parts that the names in a route take of a target.
use Rattle.std.proofs.Common.{◌≡◌, ◌∙◌, ◌≤◌, ◌+◌, ◌-◌, ◌&&◌, Bool, cond, ℕ, suc, List, [], ◌∷◌, ◌++◌, drop, get_or}
use Rattle.std.proofs.Common.{length, true, false, ap, append_assoc, arith, codes, inl, inr, length-append, leb, ltb}
use Rattle.std.proofs.Common.{refl, sym, ◌==◌}
use Rattle.std.proofs.lemmas.Bool.{cases_Bool}
use Rattle.std.proofs.lemmas.Bool.Decides.{nat_tests}
use Rattle.std.proofs.lemmas.List.{drop_at, length-drop, take_at}
use Rattle.std.proofs.Math.Seq.{drop-append-add, take-length}
use Rattle.matchit.specs.Params.{after_token, part_of, walk, wild_from, wild_stop}
use Rattle.matchit.specs.Route.{close_brace, open_brace}
use Rattle.matchit.specs.Router.{RouteOf}
use Rattle.matchit.specs.Rows.{param_token}
use Rattle.matchit.specs.Seek.{has_slash, segment, slash}
use Rattle.web.specs.Routes.{parts_on}
use Rattle.web.specs.declared.route.Resource.{Resource}
use Rattle.web.proofs.RouteShapes.{Before, IsAsciiText, OfField, route_of}

-- the place of the parameter behind a text
wild_behind : (text pattern : List ℕ) (size token at : ℕ) → IsAsciiText text → at + length text ≤ size
    → wild_from (text ++ param_token ∷ pattern) size token at ≡ (token + length text, at + length text)
wild_behind [] pattern size token at bytes fits =
    let e : token ≡ token + 0 = omega arith in let f : at ≡ at + 0 = omega arith in cc
wild_behind (b ∷ text) pattern size token at bytes fits = elim (cases_Bool (ltb b 128)) [
  | inl small ↦
      let byte : ltb b param_token ≡ true = grind (arith, nat_tests) in
      let inside : ltb at size ≡ true = grind (arith, nat_tests) in
      let more = wild_behind text pattern size (token + 1) (at + 1) (rw small at bytes) (omega arith) in
      let e : token + 1 + length text ≡ token + suc (length text) = omega arith in
      let f : at + 1 + length text ≡ at + suc (length text) = omega arith in
      rw (byte, inside) (more ∙ cc (e, f))
  | inr large ↦ let none = rw large at bytes in cc none
]

part_is : (bytes part rest : List ℕ) (start end : ℕ) → drop start bytes ≡ part ++ rest → end ≡ start + length part
    → start + length part ≤ length bytes → part_of bytes start end ≡ part
part_is bytes part rest start end behind ends fits =
    let a : leb start end ≡ true = grind (arith, nat_tests) in
    let b : leb end (length bytes) ≡ true = grind (arith, nat_tests) in
    let size : length part ≡ end - start = omega arith in
    rw (a, b, behind) (take_at part rest (end - start) size)

rest_is : (bytes rest : List ℕ) (start : ℕ) → drop start bytes ≡ rest → start ≤ length bytes
    → part_of bytes start (length bytes) ≡ rest
rest_is bytes rest start behind fits =
    let a : leb start (length bytes) ≡ true = grind (arith, nat_tests) in
    let b : leb (length bytes) (length bytes) ≡ true = grind (arith, nat_tests) in
    let size : length rest ≡ length bytes - start = sym (ap length behind) ∙ length-drop start bytes in
    rw (a, b, behind, ← size) (take-length rest)

-- a step of the walk over a route's names
step_is : (pattern text path : List ℕ) (name : ℕ × ℕ) (names : List (ℕ × ℕ)) (token at wild start stop next : ℕ) (part : List ℕ)
    → wild_from (drop token pattern) (length path) token at ≡ (wild, start) → wild_stop pattern wild path start ≡ stop
    → after_token wild ≡ next → part_of path start stop ≡ part
    → walk pattern text path (name ∷ names) token at ≡ (part_of text name.0 name.1, part) ∷ walk pattern text path names next stop
step_is pattern text path name names token at wild start stop next part found ends after is = rw (found, ends, after, is) refl

pub segment_is : (part rest : List ℕ) → has_slash part ≡ false → segment (part ++ slash ∷ rest) ≡ part ++ slash ∷ []
segment_is [] rest none = refl
segment_is (b ∷ part) rest none = elim (cases_Bool (b == slash)) [
  | inl e ↦ let slashed = rw e at none in cc slashed
  | inr e ↦ rw e (ap (λ (bytes : List ℕ). b ∷ bytes) (segment_is part rest (rw e at none)))
]

-- ---- a path before a part

no_third : {X : Type 0} (a b : Bool) (x y : X) → cond (a && b && false) x y ≡ y
no_third true true x y = refl
no_third true false x y = refl
no_third false b x y = refl

-- the last parameter takes the rest of the path
wild_last : (pattern path : List ℕ) (token at : ℕ) → ltb (token + 1) (length pattern) ≡ false
    → wild_stop pattern token path at ≡ length path
wild_last pattern path token at last =
    rw last (no_third (ltb token (length pattern)) (get_or pattern token 0 == param_token) _ (length path))

-- the parameter's name in the text
name_is : (path name : List ℕ)
    → part_of (path ++ open_brace ∷ (name ++ close_brace ∷ [])) (length path + 1) (length path + 1 + length name) ≡ name
name_is path name =
    let behind = open_brace ∷ (name ++ close_brace ∷ []) in
    let long = length-append path behind in
    let more = length-append name (close_brace ∷ []) in
    part_is (path ++ behind) name (close_brace ∷ []) (length path + 1) (length path + 1 + length name)
    (drop-append-add path behind 1) refl (omega arith)

pub before_parts : (path name part : List ℕ) (value : Resource) → IsAsciiText path
    → parts_on (path ++ part) (route_of (Before path name) value) ≡ (name, part) ∷ []
before_parts path name part value ascii =
    let route = route_of (Before path name) value in
    let place : ℕ × ℕ = (length path + 1, length path + 1 + length name) in
    step_is route.pattern route.text (path ++ part) place [] 0 0 (length path) (length path) (length (path ++ part))
    (after_token (length path)) part
    found ends refl (rest_is (path ++ part) part (length path) (drop_at path part (length path) refl) (omega (arith, size)))
    ∙ ap (λ (n : List ℕ). (n, part) ∷ []) (name_is path name)
  where
    size : length (path ++ part) ≡ length path + length part
    size = length-append path part

    found : wild_from (path ++ param_token ∷ []) (length (path ++ part)) 0 0 ≡ (length path, length path)
    found =
        let none : 0 + length path ≡ length path = omega arith in
        wild_behind path [] (length (path ++ part)) 0 0 ascii (omega (arith, size)) ∙ ap (λ (n : ℕ). (n, n)) none

    ends : wild_stop (path ++ param_token ∷ []) (length path) (path ++ part) (length path) ≡ length (path ++ part)
    ends =
        let long = length-append path (param_token ∷ []) in
        wild_last (path ++ param_token ∷ []) (path ++ part) (length path) (length path) (grind (arith, nat_tests))

-- ---- the parts of a field

abbrev fields_route : Resource → RouteOf Resource
fields_route value = route_of OfField value

abbrev field_target : List ℕ → List ℕ → List ℕ
field_target part rest = codes "/v1/fields/" ++ (part ++ slash ∷ rest)

pub field_parts : (part rest : List ℕ) (value : Resource) → has_slash part ≡ false
    → parts_on (field_target part rest) (fields_route value) ≡ (codes "branch", part) ∷ ((codes "article", rest) ∷ [])
field_parts part rest value plain = first ∙ ap (λ (parts : List (List ℕ × List ℕ)). (codes "branch", part) ∷ parts) second
  where
    size : length (field_target part rest) ≡ 12 + length part + length rest
    size = omega (arith, length-append (codes "/v1/fields/") (part ++ slash ∷ rest), length-append part (slash ∷ rest))

    behind : drop (11 + length part + 1) (field_target part rest) ≡ rest
    behind =
        let front = length-append (codes "/v1/fields/") (part ++ slash ∷ []) in
        let long = length-append part (slash ∷ []) in
        ap (λ (bytes : List ℕ). drop (11 + length part + 1) (codes "/v1/fields/" ++ bytes))
        (sym (append_assoc part (slash ∷ []) rest))
        ∙ drop_at (codes "/v1/fields/" ++ (part ++ slash ∷ [])) rest (11 + length part + 1) (omega (arith, front, long))

    ends : wild_stop (fields_route value).pattern 11 (field_target part rest) 11 ≡ 11 + length part
    ends = let long = ap length (segment_is part rest plain) ∙ length-append part (slash ∷ []) in omega (arith, long)

    first : parts_on (field_target part rest) (fields_route value)
        ≡ (codes "branch", part)
        ∷ walk (fields_route value).pattern (fields_route value).text (field_target part rest) ((21, 28) ∷ []) 12
        (11 + length part)
    first =
        let target = field_target part rest in
        let route = fields_route value in
        step_is route.pattern route.text target (12, 18) ((21, 28) ∷ []) 0 0 11 11 (11 + length part) 12 part
        (wild_behind (codes "/v1/fields/") (slash ∷ (param_token ∷ [])) (length target) 0 0 refl (omega (arith, size))) ends refl
        (part_is target part (slash ∷ rest) 11 (11 + length part) refl refl (omega (arith, size)))

    second : walk (fields_route value).pattern (fields_route value).text (field_target part rest) ((21, 28) ∷ []) 12
        (11 + length part)
        ≡ (codes "article", rest) ∷ []
    second =
        let target = field_target part rest in
        let route = fields_route value in
        step_is route.pattern route.text target (21, 28) [] 12 (11 + length part) 13 (11 + length part + 1)
        (length target) 14 rest
        (wild_behind (slash ∷ []) [] (length target) 12 (11 + length part) refl (omega (arith, size))) refl refl
        (rest_is target rest (11 + length part + 1) behind (omega (arith, size)))
