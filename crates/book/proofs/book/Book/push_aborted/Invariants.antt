-- the steps of the orders left may be made, and with those so far they are all
use Rattle.ledger.specs.declared.order.State.TheVariants.{Aborted}
use Rattle.book.proofs.Prelude.{Adds, Made, MayMake, steps_under}
use Rattle.ledger.proofs.Prelude.{drop, flat_map}
use Rattle.book.specs.declared.book.made.OrderChange.TheVariants.{End}
use Rattle.book.proofs.book.Book.push_aborted.Given as goal

abbrev pub invariant-loop-number : goal.invariant-loop-number
invariant-loop-number l = record {
  may : MayMake l.self.ledger (flat_map (steps_under l.self.ledger (End Aborted)) (drop l.number-index l.numbers)) l.made;
  more : (new : Made)
      → Adds l.self.ledger (flat_map (steps_under l.self.ledger (End Aborted)) (drop l.number-index l.numbers)) l.made
      new
      → Adds l.self.ledger (flat_map (steps_under l.self.ledger (End Aborted)) l.numbers) l.initial.made new;
}
