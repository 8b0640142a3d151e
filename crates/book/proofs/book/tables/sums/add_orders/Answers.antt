use Rattle.ledger.proofs.Prelude.{[], ◌*◌, ◌+◌, ◌∙◌, ◌≡◌, Each, List, ap, arith, refl, subst, sym, take, ℕ}
use Rattle.book.proofs.Prelude.{AreLinesOnFields, IsSmall, added, lines_numbers, most_of_lines, most_of_moves, numbers_on}
use Rattle.ledger.specs.declared.order.Line.{Line}
use Rattle.book.proofs.SumsOnFields.{added-nothing, added-twice, each-small-up, order-step}
use Rattle.ledger.proofs.Lists.{each-next}
use Rattle.book.proofs.book.tables.sums.add_orders.Goals as goal

pub loop-entry-init : goal.loop-entry-init
loop-entry-init c = record {
  there = tt;
  sums = sym (added-nothing (numbers_on [] []) (λ f. refl) c.args.fields.now c.args.sums.now);
  small = c.requires.sums.room;
}

pub add_lines-requires-clause-sums : goal.add_lines-requires-clause-sums
add_lines-requires-clause-sums c = grind (arith, each-small-up)

pub loop-entry-preserved : goal.loop-entry-preserved
loop-entry-preserved c =
    let i : ℕ = c.loop-entry.entry-index in
    let fields = c.args.fields.now in
    let orders = c.args.orders.now in
    let entry = c.entry-item.result in
    let more : (most_of_moves + most_of_lines * i) + most_of_lines ≡ most_of_moves + most_of_lines * (i + 1) = omega arith in
    record {
      there =
          each-next (λ o. AreLinesOnFields fields o.1.lines.items) orders i entry c.loop-entry-test.true c.entry-item.is
          c.loop-entry.invariant.there
          (subst (AreLinesOnFields fields) c.deref.ensures.value (c.if-not-add_lines.ensures.there.0 refl));
      sums = c.if-not-add_lines.ensures.sums refl
          ∙ ap (λ (lines : List Line). added (lines_numbers entry.1.state entry.1.firm lines) fields c.loop-entry.sums)
          c.deref.ensures.value
          ∙ ap (added (lines_numbers entry.1.state entry.1.firm entry.1.lines.items) fields) c.loop-entry.invariant.sums
          ∙ added-twice (numbers_on [] (take i orders)) (lines_numbers entry.1.state entry.1.firm entry.1.lines.items)
          (numbers_on [] (take (i + 1) orders)) (order-step orders i entry c.loop-entry-test.true c.entry-item.is)
          fields c.args.sums.now;
      small =
          subst (λ k. Each (IsSmall k) c.add_lines.new.sums) more
          (c.if-not-add_lines.ensures.small refl (most_of_moves + most_of_lines * i) c.loop-entry.invariant.small);
    }

pub returns-clause-small : goal.returns-clause-small
returns-clause-small c _ = grind (arith, each-small-up)
