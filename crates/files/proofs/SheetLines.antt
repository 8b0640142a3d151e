-- The lines of a sheet, one field after the other.
use Rattle.std.proofs.Common.{◌≡◌, ◌∙◌, ◌+◌, ◌<◌, Bool, true, false, ℕ, List, [], ◌∷◌, ◌++◌, Some, None, Option}
use Rattle.std.proofs.Common.{IsSomeAnd, ap, append-nil, filter, flat_map, get_or, length, refl, slice_get, subst}
use Rattle.std.proofs.Common.{sum_by, sym, take}
use Rattle.std.specs.List.{AllZip}
use Rattle.std.proofs.lemmas.List.{take_all, take-replicate}
use Rattle.std.proofs.Common.{◌≤◌, ◌-◌, OnOk, Result, Ok, Err, arith, replicate}
use Rattle.ledger.specs.Ledger.{Ledger, name_of}
use Rattle.book.specs.Views.{ShowsField}
use Rattle.book.specs.declared.book.views.FieldView.{FieldView}
use Rattle.files.specs.Sheets.{IsSheet, field_line, is_on, title_of, total_line}
use Rattle.files.specs.declared.sheet.Shown.{Shown}
use Rattle.files.proofs.Zips.{zip_push}
use Rattle.std.proofs.lemmas.List.Elements.{filter_more}
use Rattle.std.proofs.lemmas.List.Sums.{sum_by-append}
use Rattle.std.proofs.lemmas.Grind.{flat_map-append}
use Rattle.std.proofs.lemmas.Option.{get_or_from_slice_get, slice_get_within}

-- the element at a place
at_place : {X : Type 0} (P : X → Type 0) (xs : List X) (i : ℕ) → IsSomeAnd (slice_get xs i) P
    → (x : X) × (i < length xs) × (get_or xs i x ≡ x) × P x
at_place {X} P xs i h = by (slice_get xs i) refl h
  where
    by : (o : Option X) → slice_get xs i ≡ o → IsSomeAnd o P → (x : X) × (i < length xs) × (get_or xs i x ≡ x) × P x
    by None e k = absurd k
    by (Some x) e k = (x, slice_get_within xs i x e, get_or_from_slice_get xs i x x e, k)

-- a field that is shown
pub shown_more : {A B : Type 0} (R : A → B → Type 0) (p : A → Bool) (xs : List A) (ys : List B) (i : ℕ) (y : B)
    → AllZip R (filter p (take i xs)) ys → IsSomeAnd (slice_get xs i) (λ x. (p x ≡ true) × R x y)
    → AllZip R (filter p (take (i + 1) xs)) (ys ++ y ∷ [])
shown_more R p xs ys i y h at =
    let (x, within, same, (passes, related)) = at_place (λ x. (p x ≡ true) × R x y) xs i at in
    let e = filter_more p xs i x within in
    rw (e, same, passes) (zip_push R (filter p (take i xs)) ys x y h related)

-- one that is passed by
pub passed_by : {A B : Type 0} (R : A → B → Type 0) (p : A → Bool) (xs : List A) (ys : List B) (i : ℕ)
    → AllZip R (filter p (take i xs)) ys → IsSomeAnd (slice_get xs i) (λ x. p x ≡ false)
    → AllZip R (filter p (take (i + 1) xs)) ys
passed_by R p xs ys i h at =
    let (x, within, same, passes) = at_place (λ x. p x ≡ false) xs i at in
    let e = filter_more p xs i x within in
    rw (e, same, passes, append-nil) h

-- ---- a sheet

some_imp : {X : Type 0} (o : Option X) (P Q : X → Type 0) → ((x : X) → P x → Q x) → IsSomeAnd o P → IsSomeAnd o Q
some_imp None P Q step h = h
some_imp (Some x) P Q step h = step x h

pub field_shown : (A : Ledger) (shown : Shown) (views : List FieldView) (i : ℕ) (v : FieldView)
    → AllZip (ShowsField A) (filter (λ f. is_on shown f.name) (take i A.fields)) views
    → IsSomeAnd (slice_get A.fields i) (λ f. ShowsField A f v) → is_on shown (name_of v.branch v.article) ≡ true
    → AllZip (ShowsField A) (filter (λ f. is_on shown f.name) (take (i + 1) A.fields)) (views ++ v ∷ [])
field_shown A shown views i v h at on =
    shown_more (ShowsField A) (λ f. is_on shown f.name) A.fields views i v h
    (some_imp (slice_get A.fields i) (λ f. ShowsField A f v) (λ f. (is_on shown f.name ≡ true) × ShowsField A f v)
    (λ f s. (ap (is_on shown) (sym s.name) ∙ on, s)) at)

pub field_hidden : (A : Ledger) (shown : Shown) (views : List FieldView) (i : ℕ) (v : FieldView)
    → AllZip (ShowsField A) (filter (λ f. is_on shown f.name) (take i A.fields)) views
    → IsSomeAnd (slice_get A.fields i) (λ f. ShowsField A f v) → is_on shown (name_of v.branch v.article) ≡ false
    → AllZip (ShowsField A) (filter (λ f. is_on shown f.name) (take (i + 1) A.fields)) views
field_hidden A shown views i v h at on =
    passed_by (ShowsField A) (λ f. is_on shown f.name) A.fields views i h
    (some_imp (slice_get A.fields i) (λ f. ShowsField A f v) (λ f. is_on shown f.name ≡ false)
    (λ f s. ap (is_on shown) (sym s.name) ∙ on) at)

pub text_more : (shown : Shown) (views : List FieldView) (v : FieldView) (title old new : List ℕ)
    → title ≡ title_of shown v → old ≡ flat_map (λ w. field_line (title_of shown w) w) views
    → new ≡ old ++ field_line title v
    → new ≡ flat_map (λ w. field_line (title_of shown w) w) (views ++ v ∷ [])
text_more shown views v title old new same lines more =
    more ∙ ap (λ t. old ++ field_line t v) same ∙ ap (λ t. t ++ field_line (title_of shown v) v) lines
    ∙ ap (λ t. flat_map (λ w. field_line (title_of shown w) w) views ++ t) (sym (append-nil (field_line (title_of shown v) v)))
    ∙ sym (flat_map-append (λ w. field_line (title_of shown w) w) views (v ∷ []))

pub sum_more : (views : List FieldView) (v : FieldView) (t : ℕ) → t ≡ sum_by (λ w. w.value) views
    → t + v.value ≡ sum_by (λ w. w.value) (views ++ v ∷ [])
sum_more views v t e =
    let f : FieldView → ℕ = λ w. w.value in
    let sum = sum_by-append (λ (w : FieldView). w.value) views (v ∷ []) in
    let last : sum_by (λ (w : FieldView). w.value) (v ∷ []) ≡ v.value = omega arith in
    omega arith

pub whole_sheet : (A : Ledger) (shown : Shown) (views : List FieldView) (i : ℕ) (old new : List ℕ) (t : ℕ)
    → AllZip (ShowsField A) (filter (λ f. is_on shown f.name) (take i A.fields)) views → length A.fields ≤ i
    → old ≡ flat_map (λ w. field_line (title_of shown w) w) views → t ≡ sum_by (λ w. w.value) views
    → new ≡ old ++ total_line t → IsSheet (is_on shown) (title_of shown) A new
whole_sheet A shown views i old new t h all lines sum more = record {
  views = views;
  show = subst (λ fs. AllZip (ShowsField A) (filter (λ f. is_on shown f.name) fs) views) (take_all i A.fields all) h;
  text_is =
      more ∙ ap (λ x. x ++ total_line t) lines
      ∙ ap (λ n. flat_map (λ w. field_line (title_of shown w) w) views ++ total_line n) sum;
}

-- spaces of a fixed array
pub spaces_pushed : {E : Type 0} (r : Result (Unit {0}) E) (old new : List ℕ) (n width len : ℕ) → n ≡ width - len
    → width ≤ 16 → OnOk r (new ≡ old ++ take n (replicate 16 32)) → OnOk r (new ≡ old ++ replicate (width - len) 32)
spaces_pushed (Ok x) old new n width len same fits h =
    h ∙ ap (λ m. old ++ take m (replicate 16 32)) same
    ∙ ap (λ s. old ++ s) (take-replicate (width - len) 16 32 (omega arith))
spaces_pushed (Err e) old new n width len same fits h = tt
