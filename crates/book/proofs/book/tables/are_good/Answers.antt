use Rattle.ledger.proofs.Prelude.{◌↔◌, IfOk, IfOk-weaker, IsTrue, arith, common_steps, ints}
use Rattle.book.proofs.Prelude.{AreOnFields, HaveNumbers, IsWhole, move_of, numbers_on, order_of}
use Rattle.ledger.proofs.Lists.{each-unmap, length-of-map}
use Rattle.ledger.proofs.Sums.{each-imp}
use Rattle.book.proofs.JudgedLedger.{few_moves_if_whole, good_iff, whole_if_good}
use Rattle.book.proofs.book.tables.are_good.Goals as goal

whole : (c : goal.After-deref-3) → IsWhole c.args.entries.now
whole c = c.in_ok-are_whole.ensures.0 c.if-not-branch.false

pub are_up_to_date-requires-clause-moves : goal.are_up_to_date-requires-clause-moves
are_up_to_date-requires-clause-moves c =
    grind (
      arith,
      (few_moves_if_whole c.args.entries.now (whole c)),
      (length-of-map move_of c.args.entries.now.moves.items),
      (whole c),
      each-imp,
      each-unmap,
    )

pub are_up_to_date-requires-clause-orders : goal.are_up_to_date-requires-clause-orders
are_up_to_date-requires-clause-orders c =
    grind (arith, (length-of-map order_of c.args.entries.now.orders.items), (whole c), each-imp, each-unmap)

pub returns-then-not-branch : goal.returns-then-not-branch
returns-then-not-branch c = grind (arith, (whole_if_good c.args.entries.now))

-- what is said of the slices, said of the entries
of_entries : (c : goal.After-are_up_to_date)
    → IfOk c.are_up_to_date.result
    (λ fit.
    IsTrue fit
    ↔ (AreOnFields c.args.entries.now.fields.items c.args.entries.now.moves.items
    c.args.entries.now.orders.items
    × HaveNumbers (numbers_on c.args.entries.now.moves.items c.args.entries.now.orders.items) c.args.entries.now.fields.items))
of_entries c =
    grind (
      arith,
      ints,
      common_steps,
      c.deref.ensures.value,
      c.deref-2.ensures.value,
      c.deref-3.ensures.value,
      c.are_up_to_date.ensures,
    )

pub returns : goal.returns
returns c =
    grind (
      arith,
      (of_entries c),
      (good_iff c.args.entries.now c.requires.form c.requires.bounded
          (c.in_ok-are_whole.ensures.0 c.if-not-branch.false)),
      IfOk-weaker,
    )
