-- A target has no two views, and it is known whether it has one.
use Rattle.std.proofs.Common.{◌≡◌, ◌∙◌, ◌<◌, ◌^◌, ℕ, List, Option, Some, None, ap, arith, codes, decimal, inl, inr}
use Rattle.std.proofs.Common.{refl, subst, sym}
use Rattle.std.proofs.lemmas.Fmt.{decimal_injective, decimal_is_IsNumeral}
use Rattle.std.specs.Str.Parse.{digits_value}
use Rattle.escrow.specs.Codes.{IsArticle, IsBranch, IsKey}
use Rattle.escrow.specs.Ranges.{IsMoment, IsOrderNo}
use Rattle.words.proofs.Decisions.{Decided, decided_article, decided_both, decided_branch, decided_by, decided_key}
use Rattle.words.proofs.Decisions.{decided_le, decided_order_no, decided_word}
use Rattle.web.specs.Asks.{IsFloor}
use Rattle.web.specs.Routes.{IsView, part_of, resource_of}
use Rattle.web.specs.declared.ask.Ask.{Ask}
use Rattle.web.specs.declared.ask.Ask.TheVariants as ask
use Rattle.web.specs.declared.route.Resource.{Resource}
use Rattle.web.specs.declared.route.Resource.TheVariants.{Article, Branches, Commands, Desk, Due, Field, Key, Open, Order, Sheet}

abbrev resource_for : Ask → Resource
resource_for ask.Desk = Desk
resource_for ask.Branches = Branches
resource_for (ask.Field branch article) = Field
resource_for (ask.Order n) = Order
resource_for (ask.Sheet branch) = Sheet
resource_for (ask.Article article) = Article
resource_for (ask.Kept key) = Key
resource_for (ask.Open floor) = Open
resource_for (ask.Due moment) = Due
resource_for ask = Commands

view_resource : (target : List ℕ) (a : Ask) → IsView target a → resource_of target ≡ Some (resource_for a)
view_resource target ask.Desk h = h
view_resource target ask.Branches h = h
view_resource target (ask.Field branch article) h = h.0
view_resource target (ask.Order n) h = h.0
view_resource target (ask.Sheet branch) h = h.0
view_resource target (ask.Article article) h = h.0
view_resource target (ask.Kept key) h = h.0
view_resource target (ask.Open floor) h = h.0
view_resource target (ask.Due moment) h = h.0
view_resource target a h = absurd h

-- what is found is one
pub same : {A : Type 0} {found : Option A} {x y : A} → found ≡ Some x → found ≡ Some y → x ≡ y
same e f = cc

pub one_view : (target : List ℕ) (p q : Ask) → IsView target p → IsView target q → p ≡ q
one_view target ask.Desk ask.Desk h g = refl
one_view target ask.Branches ask.Branches h g = refl
one_view target (ask.Field b a) (ask.Field c d) h g =
    let e : b ≡ c = same h.1 g.1 in
    let f : a ≡ d = same h.2 g.2 in
    cc (e, f)
one_view target (ask.Order n) (ask.Order m) h g =
    ap ask.Order (decimal_injective n m (omega (arith, h.2)) (omega (arith, g.2)) (same h.1 g.1))
one_view target (ask.Sheet b) (ask.Sheet c) h g = ap ask.Sheet (same h.1 g.1)
one_view target (ask.Article a) (ask.Article b) h g = ap ask.Article (same h.1 g.1)
one_view target (ask.Kept j) (ask.Kept k) h g = ap ask.Kept (same h.1 g.1)
one_view target (ask.Open n) (ask.Open m) h g =
    ap ask.Open (decimal_injective n m (omega (arith, h.2)) (omega (arith, g.2)) (same h.1 g.1))
one_view target (ask.Due n) (ask.Due m) h g =
    ap ask.Due (decimal_injective n m (omega (arith, h.2)) (omega (arith, g.2)) (same h.1 g.1))
one_view target (ask.Call r) q h g = absurd h
one_view target ask.BadCall q h g = absurd h
one_view target ask.Nothing q h g = absurd h
one_view target p (ask.Call r) h g = absurd g
one_view target p ask.BadCall h g = absurd g
one_view target p ask.Nothing h g = absurd g
one_view target p q h g = let other = same (view_resource target p h) (view_resource target q g) in cc other

-- ---- whether a target has a view

part_decided : (P : List ℕ → Type 0) → ((part : List ℕ) → Decided (P part)) → (found : Option (List ℕ))
    → Decided ((part : List ℕ) × (found ≡ Some part) × P part)
part_decided P decide None = inr (λ h. let e = h.1 in cc e)
part_decided P decide (Some part) =
    decided_by {P = P part} (λ p. (part, refl, p)) (λ h. let e : h.0 ≡ part = let f = h.1 in cc f in subst P e h.2)
    (decide part)

-- the bytes are a number in that range
abbrev IsNumber : (ℕ → Type 0) → List ℕ → Type 0
IsNumber P part = (n : ℕ) × P n × (part ≡ decimal n)

number_decided : (P : ℕ → Type 0) → ((n : ℕ) → P n → n < 2 ^ 64) → ((n : ℕ) → Decided (P n)) → (part : List ℕ)
    → Decided (IsNumber P part)
number_decided P small decide part =
    decided_by to from
    (decided_both (decide (digits_value 10 part)) (decided_word part (decimal (digits_value 10 part))))
  where
    to : P (digits_value 10 part) × (part ≡ decimal (digits_value 10 part)) → IsNumber P part
    to h = (digits_value 10 part, h.0, h.1)

    from : IsNumber P part → P (digits_value 10 part) × (part ≡ decimal (digits_value 10 part))
    from (n, range, e) =
        let same : n ≡ digits_value 10 part = sym (decimal_is_IsNumeral n (small n range)).1 ∙ ap (digits_value 10) (sym e) in
        (subst P same range, e ∙ ap decimal same)

-- some view is that of the target
abbrev pub HasView : List ℕ → Type 0
HasView target = (a : Ask) × IsView target a

-- what the parts of the resource's route have to be
abbrev pub AreParts : List ℕ → Resource → Type 0
AreParts target Commands = ⊥
AreParts target Desk = Unit {0}
AreParts target Branches = Unit {0}
AreParts target Field =
    ((part : List ℕ) × (part_of (codes "branch") target ≡ Some part) × IsBranch part)
    × ((part : List ℕ) × (part_of (codes "article") target ≡ Some part) × IsArticle part)
AreParts target Order = (part : List ℕ) × (part_of (codes "number") target ≡ Some part) × IsNumber IsOrderNo part
AreParts target Open = (part : List ℕ) × (part_of (codes "number") target ≡ Some part) × IsNumber IsFloor part
AreParts target Due = (part : List ℕ) × (part_of (codes "moment") target ≡ Some part) × IsNumber IsMoment part
AreParts target Article = (part : List ℕ) × (part_of (codes "article") target ≡ Some part) × IsArticle part
AreParts target Key = (part : List ℕ) × (part_of (codes "key") target ≡ Some part) × IsKey part
AreParts target Sheet = (part : List ℕ) × (part_of (codes "branch") target ≡ Some part) × IsBranch part

parts_decided : (target : List ℕ) (resource : Resource) → Decided (AreParts target resource)
parts_decided target Commands = inr (λ h. h)
parts_decided target Desk = inl tt
parts_decided target Branches = inl tt
parts_decided target Field =
    decided_both (part_decided IsBranch decided_branch (part_of (codes "branch") target))
    (part_decided IsArticle decided_article (part_of (codes "article") target))
parts_decided target Order =
    part_decided (IsNumber IsOrderNo) (number_decided IsOrderNo (λ n h. omega (arith, h.1)) decided_order_no)
    (part_of (codes "number") target)
parts_decided target Open =
    part_decided (IsNumber IsFloor) (number_decided IsFloor (λ n h. omega (arith, h)) (λ n. decided_le n 999999999))
    (part_of (codes "number") target)
parts_decided target Due =
    part_decided (IsNumber IsMoment) (number_decided IsMoment (λ n h. omega (arith, h)) (λ n. decided_le n 4000000000))
    (part_of (codes "moment") target)
parts_decided target Article = part_decided IsArticle decided_article (part_of (codes "article") target)
parts_decided target Key = part_decided IsKey decided_key (part_of (codes "key") target)
parts_decided target Sheet = part_decided IsBranch decided_branch (part_of (codes "branch") target)

view_by_parts : (target : List ℕ) (resource : Resource) → resource_of target ≡ Some resource → AreParts target resource
    → HasView target
view_by_parts target Commands e h = absurd h
view_by_parts target Desk e h = (ask.Desk, e)
view_by_parts target Branches e h = (ask.Branches, e)
view_by_parts target Field e ((b, f, branch), (a, g, article)) = (ask.Field b a, (e, f, g, branch, article))
view_by_parts target Order e (part, f, (n, range, g)) = (ask.Order n, (e, f ∙ ap Some g, range))
view_by_parts target Open e (part, f, (n, range, g)) = (ask.Open n, (e, f ∙ ap Some g, range))
view_by_parts target Due e (part, f, (n, range, g)) = (ask.Due n, (e, f ∙ ap Some g, range))
view_by_parts target Article e (a, f, article) = (ask.Article a, (e, f, article))
view_by_parts target Key e (k, f, key) = (ask.Kept k, (e, f, key))
view_by_parts target Sheet e (b, f, branch) = (ask.Sheet b, (e, f, branch))

parts_of : (target : List ℕ) (a : Ask) → IsView target a → AreParts target (resource_for a)
parts_of target ask.Desk h = tt
parts_of target ask.Branches h = tt
parts_of target (ask.Field b a) h = ((b, h.1, h.3), (a, h.2, h.4))
parts_of target (ask.Order n) h = (decimal n, h.1, (n, h.2, refl))
parts_of target (ask.Sheet b) h = (b, h.1, h.2)
parts_of target (ask.Article a) h = (a, h.1, h.2)
parts_of target (ask.Kept k) h = (k, h.1, h.2)
parts_of target (ask.Open n) h = (decimal n, h.1, (n, h.2, refl))
parts_of target (ask.Due n) h = (decimal n, h.1, (n, h.2, refl))
parts_of target a h = absurd h

-- a target whose parts are of no view has none
pub no_view : (target : List ℕ) (resource : Resource) → resource_of target ≡ Some resource
    → (AreParts target resource → ⊥) → (a : Ask) → IsView target a → ⊥
no_view target resource e none a h = none (subst (AreParts target) (same (view_resource target a h) e) (parts_of target a h))

pub view_decided : (target : List ℕ) → Decided (HasView target)
view_decided target = by (resource_of target) refl
  where
    by : (found : Option Resource) → resource_of target ≡ found → Decided (HasView target)
    by None e = inr (λ (a, h). let some = sym e ∙ view_resource target a h in cc some)
    by (Some resource) e =
        decided_by {P = AreParts target resource} {Q = HasView target} (view_by_parts target resource e)
        (λ (a, h). subst (AreParts target) (same (view_resource target a h) e) (parts_of target a h))
        (parts_decided target resource)
