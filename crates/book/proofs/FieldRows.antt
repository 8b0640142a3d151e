-- The rows of the fields that a request makes or changes, for each kind of command.
use Rattle.ledger.proofs.Prelude.{Accepts, Command, Each, Effect, Field, FieldCells, FirstFailure, Good, Ledger, List}
use Rattle.ledger.proofs.Prelude.{Name, None, Option, Request, Some, Stock, Way, [], accept, add_part, added_on, ap}
use Rattle.ledger.proofs.Prelude.{arith, changes_field, changes_stock, checks, common_steps, false, field_named}
use Rattle.ledger.proofs.Prelude.{field_row, field_rows, find, flat_map, held_to_add, held_to_take, if◌then◌else◌, ints}
use Rattle.ledger.proofs.Prelude.{is_lt, keys_of, lines_of, list_any, map, moved_at_once, moved_by_command, name_cmp}
use Rattle.ledger.proofs.Prelude.{next, on, option_map, option_map_or, own_field, pos, refl, same_name, settled}
use Rattle.ledger.proofs.Prelude.{settled_part, share_steps, shares_of_step, signed, steps, steps_of, subst, sym}
use Rattle.ledger.proofs.Prelude.{take_part, true, ℕ, ℤ, ◌&&◌, ◌+ℤ◌, ◌||◌, ◌∙◌, ◌∷◌, ◌≡◌, IsStrictlySortedBy}
use Rattle.book.proofs.Prelude.{Counts, CountsAll, FieldEntry, HasEntry, IsChangedField, IsUpToDate, entry_row, field_of}
use Rattle.ledger.specs.Next.{with_bounds}
use Rattle.book.specs.inner.Checking.{IsFound, IsOnly, changed_number}
use Rattle.book.specs.declared.book.checks.Found.{Found}
use Rattle.book.specs.declared.book.checks.Found.TheVariants as found
use Rattle.words.specs.Kinds.{is_opening}
use Rattle.escrow.specs.Escrow.{MovesValue, bounded, moved}
use Rattle.book.proofs.ChangedFields.{all_rows, put_self, self_eq}
use Rattle.ledger.proofs.Lists.{find-new, or_nothing}
use Rattle.ledger.proofs.Safety.{bounding, found_bounded}
use Rattle.book.proofs.RunningNumbers.{new_field}
use Rattle.ledger.proofs.Steps.{adds_next, changes_share, moves_alone, steps_go, takes_next, touched, value_next}
use Rattle.ledger.proofs.Sums.{each, each-both, each-imp, none_found}
use Rattle.ledger.proofs.FieldNames.{name_is, same_self}
use Rattle.ledger.proofs.Passing.{all_pass, none_if_not_some}
use Rattle.ledger.proofs.GoodParts.{changed}
use Rattle.words.specs.declared.command.Command.TheVariants as command

pub entry_is : (B : Ledger) (f : Name) (e : FieldEntry) (new : Stock) → new.lo ≡ e.quantity.lo
    → new.hi ≡ e.quantity.hi → pos new.value ≡ settled B (field_of (f, e)) → pos new.held_to_take ≡ held_to_take B f
    → pos new.held_to_add ≡ held_to_add B f
    → entry_row (f, record { start = e.start; quantity = new }) ≡ field_row B (field_of (f, e))
entry_is B f e new lo hi value takes adds = cc

-- ---- the rows, from the entries

changed_rows : (A : Ledger) (r : Request) (D : List (Name × FieldEntry)) → Good (accept A r)
    → IsStrictlySortedBy name_cmp (keys_of D) → Each (IsChangedField A r) D
    → ((f : Field) → changes_field A r.command f.name ≡ true → HasEntry D f.name) → map entry_row D ≡ field_rows A r
changed_rows A r D good rising changed all =
    all_rows (changes_field A r.command) (field_row (accept A r)) (accept A r).fields D good.fields_in_order rising
    changed (each all (accept A r).fields)

-- ---- one field

one_row : (A : Ledger) (r : Request) (e : Name × FieldEntry) → Good (accept A r) → IsChangedField A r e
    → ((f : Name) → changes_field A r.command f ≡ same_name f e.0) → entry_row e ∷ [] ≡ field_rows A r
unfolding IsStrictlySortedBy
one_row A r e good changed only =
    changed_rows A r (e ∷ []) good (tt, tt) (changed, tt) (λ f changes. subst (λ (k : Name). HasEntry (e ∷ []) k)
    (sym (name_is f.name e.0 (sym (only f.name) ∙ changes))) (put_self [] e.0 e.1))

-- ---- a delivery or a write-off

-- its value moved, the field is that of the next ledger
value_moved : (A B : Ledger) (f : Name) (e : FieldEntry) (w : Way) (q : ℕ) (new : Stock) → IsUpToDate A (f, e)
    → settled B (field_of (f, e)) ≡ moved w q (settled A (field_of (f, e))) → held_to_take B f ≡ held_to_take A f
    → held_to_add B f ≡ held_to_add A f
    → MovesValue e.quantity w q new
    → entry_row (f, record { start = e.start; quantity = new }) ≡ field_row B (field_of (f, e))
value_moved A B f e w q new up value takes adds moves =
    grind (arith, common_steps, entry_is, e.quantity.held_to_take, e.quantity.held_to_add, moves.others, moves.value)

moved_is : (w : Way) (q : ℕ) (z : ℤ) → z +ℤ signed w q ≡ moved w q z
moved_is w q z = grind arith

-- The command moves the value of that field alone, which is there, and changes no order.
record MovesAtOnce (A : Ledger) (c : Command) (n : Name) (w : Way) (q : ℕ) : Type 0 where
  names : (f : Name) → changes_field A c f ≡ same_name f n
  moves : moved_by_command n c ≡ signed w q
  steps : share_steps A c ≡ []
  fields : (next A c).fields ≡ A.fields

moves_at_once : (A : Ledger) (c : Command) (n : Name) (w : Way) (q : ℕ) → moved_at_once c ≡ Some (n, w, q)
    → MovesAtOnce A c n w q
moves_at_once A c n w q e = let alone = moves_alone c (n, w, q) e in record {
  names =
      λ f. touched A c f
      ∙ (λ i. option_map_or (same_name f) (alone.own i) false || list_any
      (λ s. list_any (λ l. on f l.after && changes_stock s l) (lines_of s)) (steps (alone.unordered i) A.orders))
      ∙ or_nothing (same_name f n);
  moves =
      ap (λ (x : Option (Name × Way × ℕ)). option_map_or (λ m. if same_name n m.0 then signed m.1 m.2 else pos 0) x (pos 0)) e
      ∙ ap (λ t. if t then signed w q else pos 0) (same_self n);
  steps = ap (λ (e : Effect). flat_map shares_of_step (steps e A.orders)) alone.unordered;
  fields = alone.fields A.fields;
}

pub moved_found : (A : Ledger) (c : Command) (n : Name) (w : Way) (q : ℕ) (e : FieldEntry) (new : Stock)
    → moved_at_once c ≡ Some (n, w, q) → IsUpToDate A (n, e) → field_named A n ≡ Some (field_of (n, e))
    → MovesValue e.quantity w q new → IsOnly A c (n, record { start = e.start; quantity = new })
moved_found A c n w q e new is up there moves key accepts =
    let m = moves_at_once A c n w q is in
    let good = accepts.before in let passed = accepts.accepted.1 in
    let goes = steps_go A c good.orders_in_order passed in
    let value = value_next A c goes (field_of (n, e)) in let no_value = ap (added_on settled_part n) m.steps in
    let own = m.moves in
    let takes = takes_next A c goes n in let no_takes = ap (added_on take_part n) m.steps in
    let adds = adds_next A c goes n in let no_adds = ap (added_on add_part n) m.steps in
    let sum : settled (next A c) (field_of (n, e)) ≡ settled A (field_of (n, e)) +ℤ signed w q = omega (arith, ints) in
    one_row A (record { key = key; command = c }) (n, record { start = e.start; quantity = new }) accepts.after (record {
      field = field_of (n, e);
      there = ap (find (λ g. same_name n g.name)) m.fields ∙ there;
      passes = m.names n ∙ same_self n;
      has_row =
          value_moved A (next A c) n e w q new up (sum ∙ moved_is w q (settled A (field_of (n, e))))
          (omega (arith, ints)) (omega (arith, ints)) moves;
    }) m.names

-- ---- a new field

pub new_found : (A : Ledger) (n : Name) (lo hi start : ℕ) (q : Stock)
    → q ≡ record { lo = lo; hi = hi; value = start; held_to_take = 0; held_to_add = 0 }
    → IsOnly A (command.Field n.branch n.article lo hi start) (n, record { start = start; quantity = q })
new_found A n lo hi start q is key accepts =
    let c : Command = command.Field n.branch n.article lo hi start in
    let new : Field = record { name = n; lo = lo; hi = hi; start = start } in
    let none = none_if_not_some (field_named A n) (all_pass (checks A c) accepts.accepted.1).1.1.0 in
    one_row A (record { key = key; command = c }) (n, record { start = start; quantity = q }) accepts.after (record {
      field = new;
      there =
          find-new (λ g. same_name n g.name) (λ f g. is_lt (name_cmp f.name g.name)) new A.fields (same_self n)
          (none_found (λ g. same_name n g.name) A.fields none);
      passes = or_nothing (same_name n n) ∙ same_self n;
      has_row =
          ap (λ (q : Stock). entry_row (n, record { start = start; quantity = q })) is
          ∙ new_field A (next A c) n lo hi start accepts.before none refl refl;
    }) (λ f. or_nothing (same_name f n))

-- ---- other bounds

pub bounds_found : (A : Ledger) (n : Name) (lo hi : ℕ) (e new : FieldEntry) → IsUpToDate A (n, e)
    → field_named A n ≡ Some (field_of (n, e)) → new ≡ record { start = e.start; quantity = bounded e.quantity lo hi }
    → IsOnly A (command.Rebound n.branch n.article lo hi) (n, new)
bounds_found A n lo hi e new up there bounds key accepts =
    let r : Request = record { key = key; command = command.Rebound n.branch n.article lo hi } in
    one_row A r (n, new) accepts.after (record {
      field = record { name = n; lo = lo; hi = hi; start = e.start };
      there =
          found_bounded n n lo hi A.fields ∙ ap (option_map (bounding n lo hi)) there
          ∙ ap (λ b. Some (if b then with_bounds lo hi (field_of (n, e)) else field_of (n, e))) (same_self n);
      passes = or_nothing (same_name n n) ∙ same_self n;
      has_row =
          ap (λ (v : FieldEntry). entry_row (n, v)) bounds
          ∙ ap (λ (c : FieldCells). record c { lo = pos lo; hi = pos hi }) up;
    }) (λ f. or_nothing (same_name f n))

-- ---- fields that lines change

entry_itself : (D : List (Name × FieldEntry)) → Each (λ e. HasEntry D e.0) D
entry_itself [] = tt
entry_itself (e ∷ D) = let more = entry_itself D in grind (arith, each-imp, self_eq)

-- the entries that count the lines of a command that makes no field and changes no bounds
counted_row : (A : Ledger) (c : Command) (e : Name × FieldEntry) → Good A → FirstFailure (checks A c) None
    → own_field c ≡ None → Counts A (share_steps A c) e → entry_row e ≡ field_row (next A c) (field_of e)
counted_row A c e good passed own counts =
    let goes = steps_go A c good.orders_in_order passed in
    let value = value_next A c goes (field_of e) in let takes = takes_next A c goes e.0 in
    let adds = adds_next A c goes e.0 in
    let none = not_moved c own in
    let v = counts.value in let t = counts.takes in let a = counts.adds in
    entry_is (next A c) e.0 e.1 e.1.quantity refl refl (omega (arith, ints)) (omega (arith, ints)) (omega (arith, ints))
  where
    not_moved : (c : Command) → own_field c ≡ None → moved_by_command e.0 c ≡ pos 0
    not_moved c own = grind arith

-- a command whose checks found no field of its own has none
pub no_own : (A : Ledger) (c : Command) (x : Found) → IsFound A c x
    → ((e : Name × FieldEntry) (moved : Option (Way × ℕ)) → x ≡ found.Field e moved → ⊥) → own_field c ≡ None
no_own A c found.Nothing is none = opens c is
  where
    opens : (c : Command) → is_opening c ≡ true → own_field c ≡ None
    opens c is = grind arith
no_own A c (found.Field e moved) is none = absurd (none e moved refl)
no_own A c (found.Order n o) is none = numbered c is.0
  where
    numbered : (c : Command) → changed_number c ≡ Some n → own_field c ≡ None
    numbered c is = grind arith
no_own A c (found.Clock now) is none = ap own_field is

pub keeps_fields : (A : Ledger) (c : Command) → own_field c ≡ None → (next A c).fields ≡ A.fields
keeps_fields A c own = grind arith

changes_lines : (A : Ledger) (c : Command) (f : Name) → own_field c ≡ None
    → changes_field A c f ≡ list_any (λ s. same_name f s.name && s.changes) (share_steps A c)
changes_lines A c f own =
    touched A c f
    ∙ ap (λ (x : Option Name). option_map_or (same_name f) x false || list_any
    (λ s. list_any (λ l. on f l.after && changes_stock s l) (lines_of s)) (steps_of A c)) own
    ∙ sym (changes_share A c f)

pub counted_rows : (A : Ledger) (r : Request) (D : List (Name × FieldEntry)) → Accepts A r
    → own_field r.command ≡ None → CountsAll A (share_steps A r.command) D → map entry_row D ≡ field_rows A r
counted_rows A r D accepts own counts =
    changed_rows A r D accepts.after counts.rising
    (each-both (λ e counted has. record {
      field = field_of e;
      there = ap (find (λ g. same_name e.0 g.name)) (keeps_fields A r.command own) ∙ counted.there;
      passes = changes_lines A r.command e.0 own ∙ sym (counts.all e.0) ∙ has;
      has_row = counted_row A r.command e accepts.before accepts.accepted.1 own counted;
    }) D counts.each (entry_itself D))
    (λ f changes. counts.all f.name ∙ sym (changes_lines A r.command f.name own) ∙ changes)
