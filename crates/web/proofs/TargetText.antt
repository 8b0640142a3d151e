-- The parts of a target that is text are text.
use Rattle.std.proofs.Common.{◌≡◌, ◌∙◌, ◌<◌, ◌+◌, ℕ, zero, suc, List, [], ◌∷◌, ◌++◌, Some, ap, arith, codes, get_or}
use Rattle.std.proofs.Common.{inl, inr, length, length-append, ltb, refl, subst, sym}
use Rattle.std.proofs.lemmas.Bool.{cases_Bool, ltb-true}
use Rattle.std.proofs.lemmas.List.{take_at}
use Rattle.std.proofs.Math.Seq.{drop-append-add}
use Rattle.std.proofs.lemmas.Str.{IsCharBoundary-after_ascii, IsCharBoundary-before_ascii, IsUtf8-drop}
use Rattle.std.proofs.lemmas.Str.{IsUtf8-from_ascii, IsUtf8-take}
use Rattle.std.specs.Str.{IsAscii, IsUtf8}
use Rattle.matchit.specs.Params.{AllText, named, walk}
use Rattle.matchit.specs.Router.{RouteOf}
use Rattle.matchit.specs.Rows.{RowsOf}
use Rattle.matchit.specs.Seek.{first, slash}
use Rattle.matchit.specs.declared.params.Params.{Params}
use Rattle.web.specs.Routes.{part_of, parts_on, resource_of, routes, taken}
use Rattle.web.specs.declared.route.Resource.{Resource}
use Rattle.web.proofs.RouteShapes.{Alone, Before, IsAsciiShape, IsAsciiText, IsTarget, OfField, Shape, ascii_shape}
use Rattle.web.proofs.RouteShapes.{route_of, routed, shape}
use Rattle.web.proofs.TargetParts.{before_parts, field_parts}

at_slash : (front back : List ℕ) → get_or (front ++ slash ∷ back) (length front) 0 ≡ slash
at_slash [] back = refl
at_slash (b ∷ front) back = at_slash front back

beside_slash : (front back : List ℕ) → IsUtf8 (front ++ slash ∷ back) → IsUtf8 front × IsUtf8 back
beside_slash front back text =
    let size = length-append front (slash ∷ back) in
    let is = at_slash front back in
    let before =
    IsUtf8-take (front ++ slash ∷ back) (length front) text
    (IsCharBoundary-before_ascii (front ++ slash ∷ back) (length front) (omega arith) (omega arith)) in
    let behind =
    IsUtf8-drop (front ++ slash ∷ back) (length front + 1) text
    (IsCharBoundary-after_ascii (front ++ slash ∷ back) (length front) text (omega arith) (omega arith)) in (
      subst IsUtf8 (take_at front (slash ∷ back) (length front) refl) before,
      subst IsUtf8 (drop-append-add front (slash ∷ back) 1) behind,
    )

is_ascii : (text : List ℕ) → IsAsciiText text → IsAscii text
is_ascii [] each i = omega arith
is_ascii (b ∷ text) each i = elim (cases_Bool (ltb b 128)) [
  | inl e ↦ at i (ltb-true b 128 e) (is_ascii text (rw e at each))
  | inr e ↦ let none = rw e at each in cc none
]
  where
    at : (i : ℕ) → b < 128 → IsAscii text → get_or (b ∷ text) i 0 < 128
    at zero small more = small
    at (suc i) small more = more i

name_text : (name : List ℕ) → IsAsciiText name → IsUtf8 name
name_text name each = IsUtf8-from_ascii name (is_ascii name each)

-- what stands behind an ASCII text is text
behind_ascii : (path rest : List ℕ) → IsAscii path → IsUtf8 (path ++ rest) → IsUtf8 rest
behind_ascii [] rest ascii text = text
behind_ascii (b ∷ path) rest ascii text =
    let size = length-append path rest in
    let small : b < 128 = ascii 0 in
    let one =
    IsUtf8-drop (b ∷ (path ++ rest)) 1 text
    (IsCharBoundary-after_ascii (b ∷ (path ++ rest)) 0 text (omega arith) small) in
    behind_ascii path rest (λ i. ascii (suc i)) one

parts_text : (s : Shape) (value : Resource) (target : List ℕ) → IsAsciiShape s → IsTarget s target → IsUtf8 target
    → AllText (parts_on target (route_of s value))
parts_text (Alone path) value target ascii is text = tt
parts_text (Before path name) value target ascii (part, is) text =
    subst AllText (sym (ap (λ (t : List ℕ). parts_on t (route_of (Before path name) value)) is
    ∙ before_parts path name part value ascii.0))
    (name_text name ascii.1, behind_ascii path part (is_ascii path ascii.0) (subst IsUtf8 is text), tt)
parts_text OfField value target ascii (part, rest, is, plain) text =
    let behind =
    behind_ascii (codes "/v1/fields/") (part ++ slash ∷ rest) (is_ascii (codes "/v1/fields/") refl)
    (subst IsUtf8 is text) in
    let both = beside_slash part rest behind in
    subst AllText (sym (ap (λ (t : List ℕ). parts_on t (route_of OfField value)) is ∙ field_parts part rest value plain))
    (name_text (codes "branch") refl, both.0, (name_text (codes "article") refl, both.1, tt))

pub all_text : (target : List ℕ) (route : RouteOf Resource) → IsUtf8 target → first routes target ≡ Some route
    → AllText (parts_on target route)
all_text target route text e =
    let (one, is) = routed target route e in
    let parts = parts_text (shape route.value) route.value target (ascii_shape route.value) is text in
    subst (λ (r : RouteOf Resource). AllText (parts_on target r)) (sym one) parts

-- what a match of the target took
pub record IsMatch (target : List ℕ) (params : Params) (value : Resource) : Type 0 where
  pub text : AllText (taken params)
  pub resource : resource_of target ≡ Some value
  pub part : (name : List ℕ) → part_of name target ≡ named name (taken params)

pub match_of : (rows : RowsOf (RouteOf Resource)) (target : List ℕ) (params : Params) (value : Resource) → rows ≡ routes
    → IsUtf8 target
    → first rows target
    ≡ Some (record {
      pattern = params.pattern.now;
      text = params.text.now;
      names = params.names.now;
      value = value;
    }) → params.path.now ≡ target
    → IsMatch target params value
match_of rows target params value same text found path =
    let route : RouteOf Resource = record {
      pattern = params.pattern.now;
      text = params.text.now;
      names = params.names.now;
      value = value;
    } in
    let e : first routes target ≡ Some route = ap (λ (rows : RowsOf (RouteOf Resource)). first rows target) (sym same) ∙ found in
    record {
      text =
          subst (λ (t : List ℕ). AllText (walk params.pattern.now params.text.now t params.names.now 0 0)) (sym path)
          (all_text target route text e);
      resource = rw e;
      part = λ name. rw (e, path);
    }
