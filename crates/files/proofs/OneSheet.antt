-- A good ledger has one sheet of each kind: each field has one settled value, one infimum and one supremum.
use Rattle.std.proofs.Common.{◌≡◌, ◌∙◌, ◌-ℤ◌, ◌+ℤ◌, ◌≤ℤ◌, All, Bool, Contains, ℕ, ℤ, pos, negsuc, List, [], ◌∷◌, ap}
use Rattle.std.proofs.Common.{arith, filter, refl, sym}
use Rattle.std.specs.List.{AllByRecursion as Each, AllZip}
use Rattle.std.proofs.lemmas.Int.{ints}
use Rattle.std.proofs.lemmas.List.Elements.{All-contains_itself, All-filter, recursion_from_All}
use Rattle.ledger.specs.Good.{Good}
use Rattle.ledger.specs.Held.{held_to_add, held_to_take}
use Rattle.ledger.specs.Ledger.{Field, Ledger, Name}
use Rattle.ledger.specs.Outcomes.{settled}
use Rattle.book.specs.Views.{ShowsField}
use Rattle.book.specs.declared.book.views.FieldView.{FieldView}
use Rattle.ledger.proofs.Bounds.{inf_is, inf_unique, sup_is, sup_unique}
use Rattle.ledger.proofs.Falls.{sounds_from_good}
use Rattle.book.proofs.ShownNumbers.{levels_of}
use Rattle.files.specs.Sheets.{IsSheet, sheet_text}

-- ---- there is one

natural : (z : ℤ) → pos 0 ≤ℤ z → (n : ℕ) × (pos n ≡ z)
natural (pos n) h = (n, refl)
natural (negsuc n) h = absurd (omega (arith, ints, h))

pub view_of : (A : Ledger) (f : Field) → Good A → Contains A.fields f → (view : FieldView) × ShowsField A f view
view_of A f g there =
    let levels = levels_of A f g there in
    let least = levels.least in let low = levels.inf in let high = levels.sup in
    let value = natural (settled A f) (omega (arith, ints)) in
    let inf = natural (settled A f -ℤ held_to_take A f.name) least in
    let sup = natural (settled A f +ℤ held_to_add A f.name) (omega (arith, ints)) in
    let sound = sounds_from_good A g in (
      record {
        branch = f.name.branch;
        article = f.name.article;
        lo = f.lo;
        hi = f.hi;
        value = value.0;
        inf = inf.0;
        sup = sup.0;
      },
      record {
        name = refl;
        lo = refl;
        hi = refl;
        value = value.1;
        inf = rw (inf.1) (inf_is A sound f);
        sup = rw (sup.1) (sup_is A sound f);
      },
    )

views_of : (A : Ledger) (fields : List Field) → Good A → Each (Contains A.fields) fields
    → (views : List FieldView) × AllZip (ShowsField A) fields views
views_of A [] g h = ([], tt)
views_of A (f ∷ fs) g h =
    let (view, shows) = view_of A f g h.0 in
    let (views, show) = views_of A fs g h.1 in
    (view ∷ views, (shows, show))

pub some_sheet : (is_shown : Name → Bool) (title : FieldView → List ℕ) (A : Ledger) → Good A
    → (text : List ℕ) × IsSheet is_shown title A text
some_sheet is_shown title A g =
    let there : All (Contains A.fields) (filter (λ f. is_shown f.name) A.fields) =
    All-filter (λ f. is_shown f.name) (Contains A.fields) A.fields (All-contains_itself A.fields) in
    let (views, show) =
    views_of A (filter (λ f. is_shown f.name) A.fields) g
    (recursion_from_All (Contains A.fields) (filter (λ f. is_shown f.name) A.fields) there) in
    (sheet_text title views, record { views = views; show = show; text_is = refl })

-- ---- there is no other

view_made : List ℕ → List ℕ → ℕ → ℕ → ℕ → ℕ → ℕ → FieldView
view_made b a lo hi value inf sup = record { branch = b; article = a; lo = lo; hi = hi; value = value; inf = inf; sup = sup }

made_same : (v w : FieldView) → v.branch ≡ w.branch → v.article ≡ w.article → v.lo ≡ w.lo → v.hi ≡ w.hi
    → v.value ≡ w.value → v.inf ≡ w.inf → v.sup ≡ w.sup
    → view_made v.branch v.article v.lo v.hi v.value v.inf v.sup ≡ view_made w.branch w.article w.lo w.hi w.value w.inf w.sup
made_same v w b a l h u i s = cc

view_same : (v w : FieldView) → v.branch ≡ w.branch → v.article ≡ w.article → v.lo ≡ w.lo → v.hi ≡ w.hi
    → v.value ≡ w.value → v.inf ≡ w.inf → v.sup ≡ w.sup → v ≡ w
unfolding view_made
view_same v w b a l h u i s = made_same v w b a l h u i s

natural_one : (m n : ℕ) → pos m ≡ pos n → m ≡ n
natural_one m n e = cc

pub view_one : (A : Ledger) (f : Field) (v w : FieldView) → ShowsField A f v → ShowsField A f w → v ≡ w
view_one A f v w h k =
    let name = h.name ∙ sym k.name in
    let branch : v.branch ≡ w.branch = ap (λ (n : Name). n.branch) name in
    let article : v.article ≡ w.article = ap (λ (n : Name). n.article) name in
    view_same v w branch article (h.lo ∙ sym k.lo) (h.hi ∙ sym k.hi) (natural_one v.value w.value (h.value ∙ sym k.value))
    (natural_one v.inf w.inf (inf_unique A f (pos v.inf) (pos w.inf) h.inf k.inf))
    (natural_one v.sup w.sup (sup_unique A f (pos v.sup) (pos w.sup) h.sup k.sup))

views_one : (A : Ledger) (fields : List Field) (vs ws : List FieldView) → AllZip (ShowsField A) fields vs
    → AllZip (ShowsField A) fields ws → vs ≡ ws
views_one A [] [] [] h k = refl
views_one A [] [] (w ∷ ws) h k = absurd k
views_one A [] (v ∷ vs) ws h k = absurd h
views_one A (f ∷ fs) [] ws h k = absurd h
views_one A (f ∷ fs) (v ∷ vs) [] h k = absurd k
views_one A (f ∷ fs) (v ∷ vs) (w ∷ ws) h k =
    ap (λ x. x ∷ vs) (view_one A f v w h.0 k.0) ∙ ap (λ l. w ∷ l) (views_one A fs vs ws h.1 k.1)

pub one_sheet : (is_shown : Name → Bool) (title : FieldView → List ℕ) (A : Ledger) (one other : List ℕ)
    → IsSheet is_shown title A one → IsSheet is_shown title A other → one ≡ other
one_sheet is_shown title A one other h k =
    h.text_is
    ∙ ap (sheet_text title) (views_one A (filter (λ f. is_shown f.name) A.fields) h.views k.views h.show k.show)
    ∙ sym k.text_is
