-- An object of two members, of which one is under each of two names.
use Rattle.std.proofs.Common.{◌≡◌, ℕ, List, [], ◌∷◌, length, Some, String, Global, Less, string_bytes, string_cmp}
use Rattle.std.proofs.Common.{BTreeMap, bytes_eq, false, true≢false, nat_cmp, is_le, subst, refl, sym, ap, ◌∙◌, arith}
use Rattle.std.proofs.Common.{codes, inl, inr, unwrap_or, is_some}
use Rattle.std.proofs.lemmas.Bool.{cases_Bool, false≢true}
use Rattle.std.proofs.lemmas.Slice.Eq.{bytes_eq-Decides}
use Rattle.std.specs.List.Sorted.{IsStrictlySortedBy}
use Rattle.std.specs.Cmp.Lexicographic.{slice_cmp}
use Rattle.std.specs.Map.{keys_of}
use Rattle.serde_json.specs.Data.{Data, null, object, no_members, member, string}
use Rattle.serde_json.specs.Find.{get_member}
use Rattle.serde_json.specs.Events.{members_len}
use Rattle.serde_json.specs.View.{view, members_view}
use Rattle.serde_json.specs.declared.value.Value.{Value, Object}
use Rattle.serde_json.proofs.Views.{Entry, member_here, member_later, members_len-members_view, view-Object}
use Rattle.web.specs.Objects.{command_object}

value_of : (x y : Data) → Some x ≡ Some y → x ≡ y
value_of x y e = ap (λ o. unwrap_or o null) e

here : (name : List ℕ) (e : Entry) (es : List Entry) (d : Data) → name ≡ string_bytes e.0
    → get_member name (members_view (e ∷ es)) ≡ Some d → view e.1 ≡ d
here name e es d is f = value_of _ _ (sym (member_here name e es is) ∙ f)

later : (name : List ℕ) (e : Entry) (es : List Entry) (d : Data) → (name ≡ string_bytes e.0 → ⊥)
    → get_member name (members_view (e ∷ es)) ≡ Some d
    → get_member name (members_view es) ≡ Some d
later name e es d other f = sym (member_later name e es other) ∙ f

nowhere : (name : List ℕ) (d : Data) → get_member name (members_view []) ≡ Some d → ⊥
nowhere name d f = false≢true (ap is_some f)

apart : (xs ys : List ℕ) → bytes_eq xs ys ≡ false → xs ≡ ys → ⊥
apart xs ys g h = true≢false (sym ((bytes_eq-Decides xs ys).1 h) ∙ g)

key≢command : codes "key" ≡ codes "command" → ⊥
key≢command e = false≢true (ap (λ xs. bytes_eq xs (codes "command")) e)

-- a member found among one is that one
only : (name : List ℕ) (b : Entry) (d : Data) → get_member name (members_view (b ∷ [])) ≡ Some d
    → (name ≡ string_bytes b.0) × (view b.1 ≡ d)
only name b d f = elim (cases_Bool (bytes_eq name (string_bytes b.0))) [
  | inl e ↦ let is : name ≡ string_bytes b.0 = (bytes_eq-Decides _ _).0 e in (is, here name b [] d is f)
  | inr e ↦ absurd (nowhere name d (later name b [] d (apart _ _ e) f))
]

built : (p q k c : List ℕ) (x y : Data) → codes "command" ≡ p → x ≡ string c → codes "key" ≡ q → y ≡ string k
    → object (member p x (member q y no_members)) ≡ command_object k c
built p q k c x y e f g h = rw (← e, f, ← g, h) refl

pair : (a b : Entry) (k c : List ℕ) → string_cmp a.0 b.0 ≡ Less
    → get_member (codes "key") (members_view (a ∷ b ∷ [])) ≡ Some (string k)
    → get_member (codes "command") (members_view (a ∷ b ∷ [])) ≡ Some (string c)
    → object (members_view (a ∷ b ∷ [])) ≡ command_object k c
pair a b k c sorted fk fc = elim (cases_Bool (bytes_eq (codes "command") (string_bytes a.0))) [
  | inl e ↦
      let first : codes "command" ≡ string_bytes a.0 = (bytes_eq-Decides _ _).0 e in
      let value = here (codes "command") a (b ∷ []) (string c) first fc in
      let second =
      only (codes "key") b (string k)
      (later (codes "key") a (b ∷ []) (string k) (λ h. key≢command (h ∙ sym first)) fk) in
      built _ _ k c _ _ first value second.0 second.1
  | inr e ↦
      let second = only (codes "command") b (string c) (later (codes "command") a (b ∷ []) (string c) (apart _ _ e) fc) in
      elim (cases_Bool (bytes_eq (codes "key") (string_bytes a.0))) [
        | inl g ↦
            let first : codes "key" ≡ string_bytes a.0 = (bytes_eq-Decides _ _).0 g in
            absurd (backward (string_bytes a.0) (string_bytes b.0) first second.0 sorted)
        | inr g ↦
            let other = only (codes "key") b (string k) (later (codes "key") a (b ∷ []) (string k) (apart _ _ g) fk) in
            absurd (key≢command (other.0 ∙ sym second.0))
      ]
]
  where
    backward : (p q : List ℕ) → codes "key" ≡ p → codes "command" ≡ q → slice_cmp nat_cmp p q ≡ Less → ⊥
    backward p q e f s =
        let first : slice_cmp nat_cmp (codes "key") q ≡ Less = subst (λ x. slice_cmp nat_cmp x q ≡ Less) (sym e) s in
        let both : slice_cmp nat_cmp (codes "key") (codes "command") ≡ Less =
        subst (λ y. slice_cmp nat_cmp (codes "key") y ≡ Less) (sym f) first in
        false≢true (ap is_le both)

pub two_members : (es : List Entry) (k c : List ℕ) → length es ≡ 2 → IsStrictlySortedBy string_cmp (keys_of es)
    → get_member (codes "key") (members_view es) ≡ Some (string k)
    → get_member (codes "command") (members_view es) ≡ Some (string c)
    → object (members_view es) ≡ command_object k c
unfolding IsStrictlySortedBy
two_members [] k c n s fk fc = absurd (omega arith)
two_members (a ∷ []) k c n s fk fc = absurd (omega arith)
two_members (a ∷ b ∷ []) k c n s fk fc = pair a b k c s.0.0 fk fc
two_members (a ∷ b ∷ x ∷ es) k c n s fk fc = absurd (omega arith)

-- an object of another number of members is no command
pub not_two : (m : BTreeMap (String Global) Value) (k c : List ℕ) → (length m.entries ≡ 2 → ⊥)
    → view (Object m) ≡ command_object k c → ⊥
not_two m k c n e = n (sym (members_len-members_view m.entries) ∙ ap count_of (sym (view-Object m) ∙ e))
  where
    count_of : Data → ℕ
    count_of (object ms) = members_len ms
    count_of _ = 0
