-- Fields that stand in the order of their names have one list of branches: their branches, each once.
use Rattle.std.proofs.Common.{◌≡◌, ◌∙◌, ◌⊎◌, ◌≤◌, ◌<◌, ◌+◌, ◌++◌, Bool, Contains, Equal, Greater, Less, List, None}
use Rattle.std.proofs.Common.{Option, Ordering, Some, [], ◌∷◌, IsSomeAnd, ap, append-nil, append_assoc, arith, bytes_eq}
use Rattle.std.proofs.Common.{cond, drop, drop_of_length-le, false, get_or, if◌then◌else◌, inl, inr, length, map}
use Rattle.std.proofs.Common.{nat_cmp, refl, slice_get, subst, suc, sym, true, true≢false, zero, ℕ}
use Rattle.std.proofs.lemmas.Cmp.{nat_list_cmp_total}
use Rattle.std.proofs.lemmas.Map.Lookups.{exact_bytes}
use Rattle.std.proofs.lemmas.Option.{get_or_from_slice_get, slice_get_within}
use Rattle.std.proofs.Math.Seq.{drop-cons}
use Rattle.std.proofs.lemmas.Slice.Eq.{bytes_eq-Decides}
use Rattle.std.specs.Cmp.Lexicographic.{slice_cmp}
use Rattle.std.specs.List.{AllByRecursion as Each}
use Rattle.std.specs.List.Sorted.{IsStrictlySortedBy}
use Rattle.ledger.specs.Ledger.{Field, Ledger, Name, name_cmp}
use Rattle.book.specs.Views.{ShowsField}
use Rattle.book.specs.declared.book.views.FieldView.{FieldView}
use Rattle.web.specs.Branches.{AreBranches, is_again, listed}

-- ---- elements

module _ {X : Type 0} where
  here : (x : X) (xs : List X) → Contains (x ∷ xs) x
  here x xs = (0, omega arith, refl)

  later : (x : X) (xs : List X) (q : X) → Contains xs q → Contains (x ∷ xs) q
  later x xs q (k, inside, e) = (suc k, omega arith, e)

  first_or_later : (x : X) (xs : List X) (q : X) → Contains (x ∷ xs) q → (x ≡ q) ⊎ Contains xs q
  first_or_later x xs q (zero, inside, e) = inl e
  first_or_later x xs q (suc k, inside, e) = inr (k, omega arith, e)

  none_in : (q : X) → Contains [] q → ⊥
  none_in q (k, inside, e) = absurd (omega (arith, inside))

  at_each : (P : X → Type 0) (xs : List X) (q : X) → Each P xs → Contains xs q → P q
  at_each P [] q each there = absurd (none_in q there)
  at_each P (x ∷ xs) q each there = elim (first_or_later x xs q there) [
    | inl e ↦ subst P e each.0
    | inr more ↦ at_each P xs q each.1 more
  ]

-- ---- the order of bytes

abbrev Text : Type 0
Text = List ℕ

abbrev Below : Text → Text → Type 0
Below a b = slice_cmp nat_cmp a b ≡ Less

abbrev NotAbove : Text → Text → Type 0
NotAbove a b = slice_cmp nat_cmp a b ≡ Greater → ⊥

abbrev Rising : List Text → Type 0
Rising texts = IsStrictlySortedBy (slice_cmp nat_cmp) texts

not_below_itself : (a : Text) → Below a a → ⊥
not_below_itself a less = let back = nat_list_cmp_total.antisymm a a in let greater = rw less at back in cc greater

below : (a b : Text) → NotAbove a b → (a ≡ b → ⊥) → Below a b
below a b upto other = by (slice_cmp nat_cmp a b) refl
  where
    by : (o : Ordering) → slice_cmp nat_cmp a b ≡ o → Below a b
    by Less e = e
    by Equal e = absurd (other (exact_bytes a b e))
    by Greater e = absurd (upto e)

all_below : (a b : Text) (cs : List Text) → Below a b → Each (Below b) cs → Each (Below a) cs
all_below a b [] less each = tt
all_below a b (c ∷ cs) less each = (nat_list_cmp_total.trans a b c less each.0, all_below a b cs less each.1)

-- ---- each once, of a list in which the same stand side by side

-- with the text in front, unless it stood there before
abbrev pub with_new : Bool → Text → List Text → List Text
with_new again b rest = cond again rest (b ∷ rest)

-- the list without what stood just before
abbrev pub once : Option Text → List Text → List Text
once before [] = []
once before (b ∷ bs) = with_new (is_again before b) b (once (Some b) bs)

again_is : (before : Option Text) (b : Text) → is_again before b ≡ true → before ≡ Some b
again_is None b e = absurd (true≢false (sym e))
again_is (Some a) b e = ap Some ((bytes_eq-Decides a b).0 e)

-- nothing else is in it
once_from : (before : Option Text) (bs : List Text) (q : Text) → Contains (once before bs) q → Contains bs q
once_from before [] q h = h
once_from before (b ∷ bs) q h = by (is_again before b) (once_from (Some b) bs q) h
  where
    by : (again : Bool) → (Contains (once (Some b) bs) q → Contains bs q)
        → Contains (with_new again b (once (Some b) bs)) q → Contains (b ∷ bs) q
    by true more h = later b bs q (more h)
    by false more h = elim (first_or_later b (once (Some b) bs) q h) [
      | inl e ↦ subst (Contains (b ∷ bs)) e (here b bs)
      | inr there ↦ later b bs q (more there)
    ]

-- it is in the list, or stood just before
abbrev IsThere : Option Text → List Text → Text → Type 0
IsThere before texts q = Contains texts q ⊎ (before ≡ Some q)

-- all is in it, but for what stood just before
once_has : (before : Option Text) (bs : List Text) (q : Text) → Contains bs q → IsThere before (once before bs) q
once_has before [] q h = absurd (none_in q h)
once_has before (b ∷ bs) q h = by (is_again before b) refl (once_has (Some b) bs q) (first_or_later b bs q h)
  where
    front : (again : Bool) → is_again before b ≡ again → IsThere before (with_new again b (once (Some b) bs)) b
    front true e = inr (again_is before b e)
    front false e = inl (here b (once (Some b) bs))

    behind : (again : Bool) → Contains (once (Some b) bs) q → Contains (with_new again b (once (Some b) bs)) q
    behind true h = h
    behind false h = later b (once (Some b) bs) q h

    at_front : (again : Bool) → is_again before b ≡ again → b ≡ q → IsThere before (with_new again b (once (Some b) bs)) q
    at_front again e same = subst (IsThere before (with_new again b (once (Some b) bs))) same (front again e)

    by : (again : Bool) → is_again before b ≡ again → (Contains bs q → IsThere (Some b) (once (Some b) bs) q)
        → (b ≡ q) ⊎ Contains bs q
        → IsThere before (with_new again b (once (Some b) bs)) q
    by again e more (inl same) = at_front again e same
    by again e more (inr there) = elim (more there) [
      | inl found ↦ inl (behind again found)
      | inr same ↦ at_front again e (let is : b ≡ q = cc same in is)
    ]

-- none is above one behind it
abbrev Rise : List Text → Type 0
Rise [] = Unit {0}
Rise (b ∷ bs) = Each (NotAbove b) bs × Rise bs

once_above : (a : Text) (bs : List Text) → Each (NotAbove a) bs → Rise bs
    → Each (Below a) (once (Some a) bs) × Rising (once (Some a) bs)
unfolding IsStrictlySortedBy
once_above a [] upto rise = (tt, tt)
once_above a (b ∷ bs) upto rise = by (bytes_eq a b) refl (once_above b bs rise.0 rise.1)
  where
    by : (again : Bool) → bytes_eq a b ≡ again → Each (Below b) (once (Some b) bs) × Rising (once (Some b) bs)
        → Each (Below a) (with_new again b (once (Some b) bs)) × Rising (with_new again b (once (Some b) bs))
    by true e rest = (subst (λ (x : Text). Each (Below x) (once (Some b) bs)) (sym ((bytes_eq-Decides a b).0 e)) rest.0, rest.1)
    by false e rest =
        let less = below a b upto.0 (λ same. true≢false (sym ((bytes_eq-Decides a b).1 same) ∙ e)) in
        ((less, all_below a b (once (Some b) bs) less rest.0), rest)

once_rising : (bs : List Text) → Rise bs → Rising (once None bs)
unfolding IsStrictlySortedBy
once_rising [] rise = tt
once_rising (b ∷ bs) rise = once_above b bs rise.0 rise.1

-- ---- the branches of fields

abbrev pub branches_at : List Field → List Text
branches_at fields = map (λ f. f.name.branch) fields

abbrev pub InOrder : List Field → Type 0
InOrder fields = IsStrictlySortedBy name_cmp (map (λ f. f.name) fields)

all_upto : (f : Field) (fs : List Field) → Each (λ n. name_cmp f.name n ≡ Less) (map (λ g. g.name) fs)
    → Each (NotAbove f.name.branch) (branches_at fs)
all_upto f [] each = tt
all_upto f (g ∷ gs) each = ((λ e. let less = each.0 in let greater = rw e at less in cc greater), all_upto f gs each.1)

branches_rise : (fields : List Field) → InOrder fields → Rise (branches_at fields)
unfolding IsStrictlySortedBy
branches_rise [] sorted = tt
branches_rise (f ∷ fs) sorted = (all_upto f fs sorted.0, branches_rise fs sorted.1)

pub are_branches : (fields : List Field) → InOrder fields → AreBranches fields (once None (branches_at fields))
are_branches fields sorted = record {
  in_order = once_rising (branches_at fields) (branches_rise fields sorted);
  same = λ branch. (once_from None (branches_at fields) branch, back branch);
}
  where
    back : (branch : Text) → Contains (branches_at fields) branch → Contains (once None (branches_at fields)) branch
    back branch there = elim (once_has None (branches_at fields) branch there) [
      | inl found ↦ found
      | inr e ↦ cc e
    ]

-- ---- field by field

once_more : (before : Option Text) (b : Text) (bs : List Text) → once before (b ∷ bs) ≡ listed before b ++ once (Some b) bs
once_more before b bs = by (is_again before b)
  where
    by : (again : Bool) → with_new again b (once (Some b) bs) ≡ (if again then [] else b ∷ []) ++ once (Some b) bs
    by true = refl
    by false = refl

-- the field at that place is shown
abbrev IsShownAt : Ledger → ℕ → FieldView → Type 0
IsShownAt A i v = IsSomeAnd (slice_get A.fields i) (λ f. ShowsField A f v)

at_field : (A : Ledger) (i : ℕ) (v : FieldView) → IsShownAt A i v
    → branches_at (drop i A.fields) ≡ v.branch ∷ branches_at (drop (i + 1) A.fields)
at_field A i v h = by (slice_get A.fields i) refl h
  where
    by : (found : Option Field) → slice_get A.fields i ≡ found → IsSomeAnd found (λ f. ShowsField A f v)
        → branches_at (drop i A.fields) ≡ v.branch ∷ branches_at (drop (i + 1) A.fields)
    by None e shows = absurd shows
    by (Some f) e shows =
        let same : get_or A.fields i f ≡ f = get_or_from_slice_get A.fields i f f e in
        let branch = ap (λ (g : Field). g.name.branch) same ∙ sym (ap (λ (n : Name). n.branch) shows.name) in
        let next : suc i ≡ i + 1 = omega arith in
        let rest =
        drop-cons A.fields i f (slice_get_within A.fields i f e)
        ∙ ap (λ (n : ℕ). get_or A.fields i f ∷ drop n A.fields) next in
        ap branches_at rest ∙ ap (λ (b : Text). b ∷ branches_at (drop (i + 1) A.fields)) branch

-- what is listed is all, with what will be listed of the fields from that place on
abbrev pub IsAllWith : Option Text → List Field → ℕ → List Text → Type 0
IsAllWith before fields i done = done ++ once before (branches_at (drop i fields)) ≡ once None (branches_at fields)

-- one field more
pub next_listed : (A : Ledger) (i : ℕ) (before : Option Text) (done new : List Text) (v : FieldView) → IsShownAt A i v
    → IsAllWith before A.fields i done → new ≡ done ++ listed before v.branch → IsAllWith (Some v.branch) A.fields (i + 1) new
next_listed A i before done new v shows h is =
    let rest = once (Some v.branch) (branches_at (drop (i + 1) A.fields)) in
    ap (λ (bs : List Text). bs ++ rest) is ∙ append_assoc done (listed before v.branch) rest
    ∙ ap (λ (bs : List Text). done ++ bs) (sym (once_more before v.branch (branches_at (drop (i + 1) A.fields))))
    ∙ ap (λ (bs : List Text). done ++ once before bs) (sym (at_field A i v shows)) ∙ h

sorted_anyway : (fields : List Field) (i : ℕ) → length fields ≤ i → (0 < i → InOrder fields) → InOrder fields
unfolding IsStrictlySortedBy
sorted_anyway [] i past sorted = tt
sorted_anyway (f ∷ fs) i past sorted = sorted (omega arith)

-- behind the last field
pub all_listed : (fields : List Field) (i : ℕ) (before : Option Text) (branches : List Text) → length fields ≤ i
    → IsAllWith before fields i branches → (0 < i → InOrder fields) → AreBranches fields branches
all_listed fields i before branches past h sorted =
    let none = drop_of_length-le fields past in
    let all = sym (append-nil branches) ∙ ap (λ (fs : List Field). branches ++ once before (branches_at fs)) (sym none) ∙ h in
    subst (AreBranches fields) (sym all) (are_branches fields (sorted_anyway fields i past sorted))

-- ---- there is no other such list

-- of two lists in order that have the same elements, the first of one is that of the other
same_first : (x y : Text) (xs ys : List Text) → Each (Below x) xs → Each (Below y) ys → (y ≡ x) ⊎ Contains ys x
    → (x ≡ y) ⊎ Contains xs y → x ≡ y
same_first x y xs ys above_x above_y (inl e) there = sym e
same_first x y xs ys above_x above_y (inr in_ys) (inl e) = e
same_first x y xs ys above_x above_y (inr in_ys) (inr in_xs) =
    absurd (not_below_itself x
    (nat_list_cmp_total.trans x y x (at_each (Below x) xs y above_x in_xs) (at_each (Below y) ys x above_y in_ys)))

-- all of the one list is in the other
abbrev IsWithin : List Text → List Text → Type 0
IsWithin xs ys = (q : Text) → Contains xs q → Contains ys q

-- what stands behind the first is behind the first of the other
behind_first : (x y : Text) (xs ys : List Text) → x ≡ y → Each (Below x) xs → IsWithin (x ∷ xs) (y ∷ ys) → IsWithin xs ys
behind_first x y xs ys e above_x to q there = elim (first_or_later y ys q (to q (later x xs q there))) [
  | inl same ↦ absurd (not_below_itself q (subst (λ (p : Text). Below p q) (e ∙ same) (at_each (Below x) xs q above_x there)))
  | inr more ↦ more
]

same_list : (xs ys : List Text) → Rising xs → Rising ys → IsWithin xs ys → IsWithin ys xs → xs ≡ ys
unfolding IsStrictlySortedBy
same_list [] [] s t to from = refl
same_list [] (y ∷ ys) s t to from = absurd (none_in y (from y (here y ys)))
same_list (x ∷ xs) [] s t to from = absurd (none_in x (to x (here x xs)))
same_list (x ∷ xs) (y ∷ ys) s t to from =
    let e =
    same_first x y xs ys s.0 t.0 (first_or_later y ys x (to x (here x xs)))
    (first_or_later x xs y (from y (here y ys))) in
    let rest = same_list xs ys s.1 t.1 (behind_first x y xs ys e s.0 to) (behind_first y x ys xs (sym e) t.0 from) in
    λ i. e i ∷ rest i

pub one_list : (fields : List Field) (xs ys : List Text) → AreBranches fields xs → AreBranches fields ys → xs ≡ ys
one_list fields xs ys h k =
    same_list xs ys h.in_order k.in_order (λ q there. (k.same q).1 ((h.same q).0 there))
    (λ q there. (h.same q).1 ((k.same q).0 there))
