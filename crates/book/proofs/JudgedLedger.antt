-- What makes a told ledger good, and that rows tell one good ledger at the most.
use Rattle.book.proofs.Prelude.{AreMovesOnFields, AreOnFields, AreOrdersOnFields, FieldEntry, HasNumbers, HaveNumbers}
use Rattle.book.proofs.Prelude.{IsBounded, IsField, IsMoveByItself, IsOrderByItself, IsUpToDate, IsWhole, Numbers}
use Rattle.book.proofs.Prelude.{field_of, move_of, numbers_on, order_of, told_ledger}
use Rattle.ledger.proofs.Prelude.{Each, Field, Good, IsGoodLine, IsGoodMove, IsGoodOrder, IsSafe, IsStrictlySortedBy}
use Rattle.ledger.proofs.Prelude.{List, Name, Order, [], arith, common_steps, held_to_add, held_to_take, length}
use Rattle.ledger.proofs.Prelude.{line_name, map, name_cmp, nat_cmp, places, pos, settled, slice_cmp, subst, sym, ◌+ℤ◌}
use Rattle.ledger.proofs.Prelude.{◌↔◌, ◌∷◌, ◌≡◌, ◌≤◌}
use Rattle.ledger.specs.declared.limits.TheConstants.{MAX_PLACES}
use Rattle.book.specs.declared.book.tables.Entries.{Entries}
use Rattle.book.specs.inner.RowEntries.{AreGood, AreInOrder, IsInForm}
use Rattle.book.proofs.ToldInRow.{told_keys, told_names, told_numbers}
use Rattle.ledger.proofs.Bounds.{HasRoom, safe_from_room}
use Rattle.ledger.proofs.Lists.{each-two, each-unmap, few_sorted}
use Rattle.ledger.proofs.Sums.{each-imp, each-map, total-map}

-- ---- what is good is whole, and its entries are on fields

pub on_fields_from_good : (e : Entries) → Good (told_ledger e) → AreOnFields e.fields.items e.moves.items e.orders.items
on_fields_from_good e g = grind (arith, each-imp, each-unmap)

-- ---- what is whole, in form and on fields

good_lines : (e : Entries) (o : Order) → IsOrderByItself o → Each (λ l. IsField e.fields.items (line_name l)) o.lines
    → Each (IsGoodLine (told_ledger e)) o.lines
good_lines e o x there =
    each-imp (λ l y. record { field = y.1; held = y.0.0; used = y.0.1 }) o.lines (each-two _ _ o.lines x.lines there)

good_order : (e : Entries) (o : Order) → IsOrderByItself o × Each (λ l. IsField e.fields.items (line_name l)) o.lines
    → IsGoodOrder (told_ledger e) o
good_order e o x = record {
  number = x.0.number;
  until = x.0.until;
  some = x.0.some;
  few = x.0.few;
  lines = good_lines e o x.0 x.1;
  apart = x.0.apart;
  transfer = x.0.transfer;
  firm = x.0.firm;
}

moves_good : (e : Entries) → IsWhole e → AreMovesOnFields e.fields.items e.moves.items
    → Each (IsGoodMove (told_ledger e)) (told_ledger e).moves
moves_good e w there = let ms = e.moves.items in
    each-map (IsGoodMove (told_ledger e)) move_of ms
    (each-imp (λ m x. record { first = x.0.first; last = x.0.last; field = x.1; size = x.0.size }) ms
    (each-two _ _ ms (each-unmap (IsMoveByItself (places (told_ledger e))) move_of ms w.moves) there))

orders_good : (e : Entries) → IsWhole e → AreOrdersOnFields e.fields.items e.orders.items
    → Each (IsGoodOrder (told_ledger e)) (told_ledger e).orders
orders_good e w there = let os = e.orders.items in
    each-map (IsGoodOrder (told_ledger e)) order_of os
    (each-imp (λ o x. good_order e (order_of o) x) os
    (each-two _ _ os (each-unmap IsOrderByItself order_of os w.orders) there))

pub good_if_whole : (e : Entries) → IsInForm (told_ledger e) → IsWhole e
    → AreOnFields e.fields.items e.moves.items e.orders.items → IsSafe (told_ledger e) → Good (told_ledger e)
good_if_whole e form w there safe =
    let fields = subst (IsStrictlySortedBy name_cmp) (told_names e) w.in_order.fields in
    let orders = subst (IsStrictlySortedBy nat_cmp) (told_numbers e) w.in_order.orders in
    let kept = subst (IsStrictlySortedBy (slice_cmp nat_cmp)) (told_keys e) w.in_order.kept in
    grind (arith, moves_good, orders_good)

pub whole_if_good : (e : Entries) → Good (told_ledger e) → IsWhole e
whole_if_good e g =
    let order : AreInOrder e = record {
      fields = subst (IsStrictlySortedBy name_cmp) (sym (told_names e)) g.fields_in_order;
      moves = g.moves_in_order;
      orders = subst (IsStrictlySortedBy nat_cmp) (sym (told_numbers e)) g.orders_in_order;
      kept = subst (IsStrictlySortedBy (slice_cmp nat_cmp)) (sym (told_keys e)) g.kept_in_order;
    } in
    grind (arith, each-imp)

-- ---- the numbers of fields

pub told_settled : (e : Entries) (f : Field)
    → settled (told_ledger e) f ≡ pos f.start +ℤ (numbers_on e.moves.items e.orders.items f.name).moved
told_settled e f = grind (arith, common_steps, total-map, f.name, e.moves.items, e.orders.items)

pub told_takes : (e : Entries) (n : Name) → held_to_take (told_ledger e) n ≡ (numbers_on e.moves.items e.orders.items n).takes
told_takes e n = total-map _ order_of e.orders.items

pub told_adds : (e : Entries) (n : Name) → held_to_add (told_ledger e) n ≡ (numbers_on e.moves.items e.orders.items n).adds
told_adds e n = total-map _ order_of e.orders.items

abbrev numbers_of : Entries → Name → Numbers
numbers_of e = numbers_on e.moves.items e.orders.items

-- an entry with these numbers is safe
room_if : (e : Entries) (f : Name × FieldEntry) → HasNumbers (numbers_of e f.0) f.1 → IsBounded f.1.quantity
    → HasRoom (told_ledger e) (field_of f)
room_if e f h bounded = grind (arith, (told_settled e (field_of f)), (told_takes e f.0), (told_adds e f.0))

pub rooms_if : (e : Entries) (fs : List (Name × FieldEntry)) → HaveNumbers (numbers_of e) fs
    → Each (λ f. IsBounded f.1.quantity) fs → Each (HasRoom (told_ledger e)) (map field_of fs)
rooms_if e [] h bounded = tt
rooms_if e (f ∷ fs) h bounded = (room_if e f h.0 bounded.0, rooms_if e fs h.1 bounded.1)

-- an entry has the numbers exactly where it is up to date
up_to_date_if : (e : Entries) (f : Name × FieldEntry) → HasNumbers (numbers_of e f.0) f.1 → IsUpToDate (told_ledger e) f
up_to_date_if e f h = cc ((told_settled e (field_of f)), (told_takes e f.0), (told_adds e f.0))

numbers_if : (e : Entries) (f : Name × FieldEntry) → IsUpToDate (told_ledger e) f → HasNumbers (numbers_of e f.0) f.1
numbers_if e f up = grind (arith, (told_settled e (field_of f)), (told_takes e f.0), (told_adds e f.0))

-- ---- all together

pub few_moves_if_whole : (e : Entries) → IsWhole e → length (told_ledger e).moves ≤ MAX_PLACES
few_moves_if_whole e w =
    let A = told_ledger e in
    grind (
      arith,
      (few_sorted 0 (places A) A.moves (omega arith) (each-imp (λ m x. x.first) A.moves w.moves)
          (each-imp (λ m x. x.last) A.moves w.moves) w.in_order.moves),
      w.limits.places,
    )

pub good_iff : (e : Entries) → IsInForm (told_ledger e) → Each (λ f. IsBounded f.1.quantity) e.fields.items → IsWhole e
    → (AreOnFields e.fields.items e.moves.items e.orders.items × HaveNumbers (numbers_of e) e.fields.items) ↔ AreGood e
good_iff e form bounded w = (
  λ fit. (
    good_if_whole e form w fit.0 (safe_from_room (told_ledger e) (rooms_if e e.fields.items fit.1 bounded)),
    each-imp (λ f h. up_to_date_if e f h) e.fields.items fit.1,
  ),
  λ good. (on_fields_from_good e good.0, each-imp (λ f up. numbers_if e f up) e.fields.items good.1),
)
