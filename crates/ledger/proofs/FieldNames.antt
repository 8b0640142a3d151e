-- Names of fields: which are equal, and the one line or field under a name.
use Rattle.ledger.proofs.Lists.{AtMostOne, at_one, each-unmap}
use Rattle.ledger.proofs.Prelude.{Bool, Each, Equal, Field, IsDistinct, IsSomeAnd, IsStrictlySortedBy, Ledger, Less}
use Rattle.ledger.proofs.Prelude.{Line, List, Name, OpenLine, Some, [], arith, bytes_decides, common_steps, false, find}
use Rattle.ledger.proofs.Prelude.{if◌then◌else◌, ints, line_name, map, name_cmp, nat_cmp, new_line, on, refl, same_name}
use Rattle.ledger.proofs.Prelude.{slice_cmp, subst, sym, true, true≢false, ℕ, ◌&&◌, ◌++◌, ◌∙◌, ◌∷◌, ◌≡◌}
use Rattle.ledger.proofs.Sums.{each-imp, each-of-push}

pub same_parts : (a b : Bool) → (a && b) ≡ true → (a ≡ true) × (b ≡ true)
same_parts x b e = grind arith

pub name_is : (f g : Name) → same_name f g ≡ true → f ≡ g
name_is f g e = grind (arith, same_parts, bytes_decides)

pub same_self : (f : Name) → same_name f f ≡ true
same_self f = rw ((bytes_decides f.branch f.branch).1 refl, (bytes_decides f.article f.article).1 refl) refl

-- no name is before itself
cmp_self : (xs : List ℕ) → slice_cmp nat_cmp xs xs ≡ Equal
cmp_self [] = refl
cmp_self (x ∷ xs) = let more = cmp_self xs in grind arith

pub not_before_itself : (f : Name) → name_cmp f f ≡ Less → ⊥
not_before_itself f e = grind (arith, ints, common_steps, cmp_self)

abbrev pub InOrder : Ledger → Type 0
InOrder A = IsStrictlySortedBy name_cmp (map (λ f. f.name) A.fields)

-- at most one field has the name
pub one_named : (name : Name) (fs : List Field) → IsStrictlySortedBy name_cmp (map (λ f. f.name) fs)
    → AtMostOne (λ f. same_name name f.name) fs
unfolding IsStrictlySortedBy
one_named name [] sorted = tt
one_named name (f ∷ fs) sorted = (
  λ e. each-imp (λ m less. off e m less (same_name name m.name) refl) fs
      (each-unmap (λ y. name_cmp f.name y ≡ Less) (λ f. f.name) fs sorted.0),
  one_named name fs sorted.1,
)
  where
    off : same_name name f.name ≡ true → (m : Field) → name_cmp f.name m.name ≡ Less → (b : Bool)
        → same_name name m.name ≡ b → b ≡ false
    off e m less true d = absurd (not_before_itself f.name
        (subst (λ g. name_cmp f.name g ≡ Less) (sym (name_is name m.name d) ∙ name_is name f.name e) less))
    off e m less false d = refl

-- what does not hold of the field under a name does not hold of any field with it, since there is one
pub none_bad : (P : Field → Type 0) (name : Name) (fs : List Field)
    → IsStrictlySortedBy name_cmp (map (λ f. f.name) fs) → (IsSomeAnd (find (λ e. same_name name e.name) fs) P → ⊥)
    → Each (λ f. same_name name f.name ≡ true → P f → ⊥) fs
none_bad P name fs sorted h = at_one (λ f. same_name name f.name) (λ f. P f → ⊥) fs (one_named name fs sorted)
    (λ f e p. h (subst (λ x. IsSomeAnd x P) (sym e) p))

-- the other way round
pub other_way : (f g : Name) → same_name f g ≡ false → same_name g f ≡ false
other_way f g e = go (same_name g f) refl
  where
    go : (b : Bool) → same_name g f ≡ b → same_name g f ≡ false
    go false d = d
    go true d = absurd (true≢false (sym (subst (λ h. same_name f h ≡ true) (sym (name_is g f d)) (same_self f)) ∙ e))

-- at most one line is on the field
abbrev pub OneOn : Name → List Line → Type 0
OneOn f ls = AtMostOne (on f) ls

pub one_on : (f : Name) (ls : List Line) → IsDistinct same_name (map line_name ls) → OneOn f ls
unfolding IsDistinct
one_on f [] d = tt
one_on f (l ∷ ls) d = (
  λ e. subst (λ g. Each (λ m. same_name g (line_name m) ≡ false) ls)
      (sym (name_is f (line_name l) e)) (unmap ls d.0),
  one_on f ls d.1,
)
  where
    unmap : (ms : List Line) → Each (λ y. same_name (line_name l) y ≡ false) (map line_name ms)
        → Each (λ m. same_name (line_name l) (line_name m) ≡ false) ms
    unmap [] h = tt
    unmap (m ∷ ms) h = (h.0, unmap ms h.1)

pub one_on-map : (f : Name) (h : Line → Line) (ls : List Line) → Each (λ l. line_name (h l) ≡ line_name l) ls
    → OneOn f ls → OneOn f (map h ls)
one_on-map f h [] s one = tt
one_on-map f h (l ∷ ls) s one =
    (λ e. none ls s.1 (one.0 (subst (λ g. same_name f g ≡ true) s.0 e)), one_on-map f h ls s.1 one.1)
  where
    none : (ms : List Line) → Each (λ l. line_name (h l) ≡ line_name l) ms → Each (λ m. on f m ≡ false) ms
        → Each (λ m. on f m ≡ false) (map h ms)
    none [] t e = tt
    none (m ∷ ms) t e = (subst (λ g. same_name f g ≡ false) (sym t.0) e.0, none ms t.1 e.1)

-- the line on the field has the fact, and so has each line on it, since there is one
pub at_line : (P : Line → Type 0) (f : Name) (ls : List Line) → OneOn f ls → IsSomeAnd (find (on f) ls) P
    → Each (λ l. on f l ≡ true → P l) ls
at_line P f ls one h = at_one (on f) P ls one (λ l e. subst (λ x. IsSomeAnd x P) e h)

pub one_on-push : (g : Name) (ls : List Line) (l : Line) → OneOn g ls → Each (λ m. on (line_name l) m ≡ false) ls
    → OneOn g (ls ++ l ∷ [])
one_on-push g [] l one h = ((λ _. tt), tt)
one_on-push g (m ∷ ms) l one h = (
  (λ e. each-of-push (λ k. on g k ≡ false) ms l (one.0 e) (apart (same_name g (line_name l)) refl e)),
  one_on-push g ms l one.1 h.1,
)
  where
    apart : (b : Bool) → same_name g (line_name l) ≡ b → on g m ≡ true → on g l ≡ false
    apart false d e = d
    apart true d e = absurd (true≢false (sym (subst (λ f. same_name f (line_name m) ≡ true) (name_is g (line_name l) d) e) ∙ h.0))

-- a field that is found under a name has that name
pub named : (fs : List Field) (name : Name) (P Q : Field → Type 0) → ((f : Field) → f.name ≡ name → P f → Q f)
    → IsSomeAnd (find (λ e. same_name name e.name) fs) P → IsSomeAnd (find (λ e. same_name name e.name) fs) Q
named [] name P Q h k = k
named (f ∷ fs) name P Q h k = step (same_name name f.name) refl k (λ x. named fs name P Q h x)
  where
    step : (b : Bool) → same_name name f.name ≡ b
        → IsSomeAnd (if b then Some f else find (λ e. same_name name e.name) fs) P
        → (IsSomeAnd (find (λ e. same_name name e.name) fs) P → IsSomeAnd (find (λ e. same_name name e.name) fs) Q)
        → IsSomeAnd (if b then Some f else find (λ e. same_name name e.name) fs) Q
    step true e k x = h f (sym (name_is name f.name e)) k
    step false e k x = x k

-- the field that the line is on
abbrev pub line_field : OpenLine → Name
line_field l = line_name (new_line l)
