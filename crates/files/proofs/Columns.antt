-- The numbers of a good ledger fit into the columns of a sheet.
use Rattle.std.proofs.Common.{◌≡◌, ◌+◌, ◌-◌, ◌*◌, ◌≤◌, ◌-ℤ◌, ◌+ℤ◌, All, Bool, true, false, Contains, ℕ, pos, List, []}
use Rattle.std.proofs.Common.{◌∷◌, ◌++◌, ap, arith, codes, cond, decimal, filter, flat_map, length, length-append, refl}
use Rattle.std.proofs.Common.{replicate, subst, sum_by, sym}
use Rattle.std.specs.List.{AllByRecursion as Each, AllZip}
use Rattle.std.proofs.lemmas.Fmt.{length-decimal-le}
use Rattle.std.proofs.lemmas.Int.{ints}
use Rattle.std.proofs.lemmas.List.{length-replicate}
use Rattle.std.proofs.lemmas.List.Sums.{sum_by-cons}
use Rattle.std.proofs.lemmas.List.Elements.{All-contains, All-contains_itself, All-filter, All-from_recursion, recursion_from_All}
use Rattle.escrow.specs.Ranges.{IsLevel}
use Rattle.ledger.specs.Good.{Good, IsGoodField}
use Rattle.ledger.specs.Held.{held_to_add, held_to_take}
use Rattle.ledger.specs.Ledger.{Field, Ledger, Name}
use Rattle.ledger.specs.Outcomes.{settled}
use Rattle.book.specs.Views.{ShowsField}
use Rattle.book.specs.declared.book.views.FieldView.{FieldView}
use Rattle.ledger.proofs.Bounds.{inf_is, inf_unique, sup_is, sup_unique}
use Rattle.ledger.proofs.Falls.{sounds_from_good}
use Rattle.book.proofs.ShownNumbers.{levels_of}
use Rattle.files.specs.Sheets.{IsSheet, field_line, left, level_column, right, sheet_text, total_line}

-- ---- columns

left_len : (w : ℕ) (t : List ℕ) → length t ≤ w → length (left w t) ≡ w
left_len w t h = omega (arith, length-append t (replicate (w - length t) 32), length-replicate {A = ℕ} (w - length t) 32)

right_len : (w n : ℕ) → length (decimal n) ≤ w → length (right w n) ≡ w
right_len w n h =
    omega (
      arith,
      length-append (replicate (w - length (decimal n)) 32) (decimal n),
      length-replicate {A = ℕ} (w - length (decimal n)) 32,
    )

level_len : (n : ℕ) → IsLevel n → length (level_column n) ≡ 11
level_len n h =
    let digits = length-decimal-le 10 n (omega arith) (omega arith) (omega arith) in
    let width = right_len 10 n digits in
    omega (arith, length-append (codes " ") (right 10 n))

seven_len : (a b c d e f g : List ℕ) → length a ≡ 16 → length b ≡ 11 → length c ≡ 11 → length d ≡ 11 → length e ≡ 11
    → length f ≡ 11 → length g ≡ 1 → length (a ++ b ++ c ++ d ++ e ++ f ++ g) ≡ 72
seven_len a b c d e f g h i j k l m n =
    omega (
      arith,
      length-append (a ++ b ++ c ++ d ++ e ++ f) g,
      length-append (a ++ b ++ c ++ d ++ e) f,
      length-append (a ++ b ++ c ++ d) e,
      length-append (a ++ b ++ c) d,
      length-append (a ++ b) c,
      length-append a b,
    )

four_len : (a b c d : List ℕ) → length a ≡ 16 → length b ≡ 1 → length c ≡ 14 → length d ≡ 1 → length (a ++ b ++ c ++ d) ≡ 32
four_len a b c d h i j k = omega (arith, length-append (a ++ b ++ c) d, length-append (a ++ b) c, length-append a b)

total_len : (n : ℕ) → n ≤ 10000000000000 → length (total_line n) ≡ 32
total_len n h =
    let digits = length-decimal-le 14 n (omega arith) (omega arith) (omega arith) in
    four_len (left 16 (codes "total")) (codes " ") (right 14 n) (codes "\n") refl refl (right_len 14 n digits) refl

-- ---- what fits

pub record Fits (title : FieldView → List ℕ) (v : FieldView) : Type 0 where
  pub short : length (title v) ≤ 16
  pub lo : IsLevel v.lo
  pub hi : IsLevel v.hi
  pub value : IsLevel v.value
  pub inf : IsLevel v.inf
  pub sup : IsLevel v.sup

line_len : (title : FieldView → List ℕ) (v : FieldView) → Fits title v → length (field_line (title v) v) ≡ 72
line_len title v h =
    seven_len (left 16 (title v)) (level_column v.lo) (level_column v.hi) (level_column v.value) (level_column v.inf)
    (level_column v.sup) (codes "\n")
    (left_len 16 (title v) h.short) (level_len v.lo h.lo) (level_len v.hi h.hi) (level_len v.value h.value)
    (level_len v.inf h.inf) (level_len v.sup h.sup) refl

lines_len : (title : FieldView → List ℕ) (views : List FieldView) → Each (Fits title) views
    → length (flat_map (λ v. field_line (title v) v) views) ≡ 72 * length views
lines_len title [] h = refl
lines_len title (v ∷ vs) h =
    let one = line_len title v h.0 in
    let more = lines_len title vs h.1 in
    omega (arith, length-append (field_line (title v) v) (flat_map (λ w. field_line (title w) w) vs))

sum_le : (title : FieldView → List ℕ) (views : List FieldView) → Each (Fits title) views
    → sum_by (λ v. v.value) views ≤ 1000000000 * length views
sum_le title [] h = omega arith
sum_le title (v ∷ vs) h =
    let one = h.0.value in
    let more = sum_le title vs h.1 in
    let sum = sum_by-cons (λ (w : FieldView). w.value) v vs in
    omega arith

-- ---- a good ledger's fields

abbrev IsShort : Ledger → (FieldView → List ℕ) → Type 0
IsShort A title = (f : Field) (v : FieldView) → IsGoodField f → ShowsField A f v → length (title v) ≤ 16

view_fits : (A : Ledger) (title : FieldView → List ℕ) (f : Field) (v : FieldView) → Good A → IsShort A title
    → Contains A.fields f → ShowsField A f v → Fits title v
view_fits A title f v g short there s =
    let good = All-contains IsGoodField A.fields f (All-from_recursion IsGoodField A.fields g.fields) there in
    let levels = levels_of A f g there in
    let sound = sounds_from_good A g in
    let least = levels.least in let low = levels.inf in let high = levels.sup in let greatest = levels.greatest in
    let value : pos v.value ≡ settled A f = s.value in
    let inf : pos v.inf ≡ (settled A f -ℤ held_to_take A f.name) =
    inf_unique A f (pos v.inf) (settled A f -ℤ held_to_take A f.name) s.inf (inf_is A sound f) in
    let sup : pos v.sup ≡ (settled A f +ℤ held_to_add A f.name) =
    sup_unique A f (pos v.sup) (settled A f +ℤ held_to_add A f.name) s.sup (sup_is A sound f) in
    record {
      short = short f v good s;
      lo = subst IsLevel (sym s.lo) good.lo;
      hi = subst IsLevel (sym s.hi) good.hi;
      value = omega (arith, ints);
      inf = omega (arith, ints);
      sup = omega (arith, ints);
    }

views_fit : (A : Ledger) (title : FieldView → List ℕ) (fields : List Field) (views : List FieldView) → Good A
    → IsShort A title → Each (Contains A.fields) fields → AllZip (ShowsField A) fields views
    → Each (Fits title) views × (length views ≡ length fields)
views_fit A title [] [] g short there h = (tt, refl)
views_fit A title [] (v ∷ vs) g short there h = absurd h
views_fit A title (f ∷ fs) [] g short there h = absurd h
views_fit A title (f ∷ fs) (v ∷ vs) g short there h =
    let (fit, long) = views_fit A title fs vs g short there.1 h.1 in
    ((view_fits A title f v g short there.0 h.0, fit), omega arith)

filter_le : {X : Type 0} (p : X → Bool) (xs : List X) → length (filter p xs) ≤ length xs
filter_le p [] = omega arith
filter_le {X} p (x ∷ xs) = by (p x) (filter_le p xs)
  where
    by : (b : Bool) → length (filter p xs) ≤ length xs → length (cond b (x ∷ filter p xs) (filter p xs)) ≤ length (x ∷ xs)
    by true h = omega arith
    by false h = omega arith

pub sheet_len : (is_shown : Name → Bool) (title : FieldView → List ℕ) (A : Ledger) (text : List ℕ) → Good A
    → IsShort A title → IsSheet is_shown title A text
    → length text ≡ 72 * length (filter (λ f. is_shown f.name) A.fields) + 32
sheet_len is_shown title A text g short sheet =
    let fields : List Field = filter (λ f. is_shown f.name) A.fields in
    let there : All (Contains A.fields) (filter (λ f. is_shown f.name) A.fields) =
    All-filter (λ f. is_shown f.name) (Contains A.fields) A.fields (All-contains_itself A.fields) in
    let (fit, long) =
    views_fit A title (filter (λ f. is_shown f.name) A.fields) sheet.views g short
    (recursion_from_All (Contains A.fields) (filter (λ f. is_shown f.name) A.fields) there) sheet.show in
    let few = filter_le (λ (f : Field). is_shown f.name) A.fields in
    let most = g.few_fields in
    let sum = sum_le title sheet.views fit in
    let total = total_len (sum_by (λ v. v.value) sheet.views) (omega arith) in
    let lines = lines_len title sheet.views fit in
    let whole : length text ≡ length (sheet_text title sheet.views) = ap length sheet.text_is in
    omega (
      arith,
      length-append (flat_map (λ v. field_line (title v) v) sheet.views)
          (total_line (sum_by (λ v. v.value) sheet.views)),
    )

-- ---- titles

pub articles_short : (A : Ledger) → IsShort A (λ v. v.article)
articles_short A f v good s = let same = ap (λ (n : Name). length n.article) s.name in let fits = good.article.fits in omega arith

pub branches_short : (A : Ledger) → IsShort A (λ v. v.branch)
branches_short A f v good s = let same = ap (λ (n : Name). length n.branch) s.name in let fits = good.branch.fits in omega arith
