use Rattle.book.proofs.Prelude.{IsFound}
use Rattle.ledger.proofs.Prelude.{None, Some, arith, checks, refl}
use Rattle.book.proofs.CheckAnswers.{fails_with, no, rebound_decides}
use Rattle.book.proofs.FieldRows.{bounds_found}
use Rattle.words.specs.declared.command.Command.TheVariants.{Rebound}
use Rattle.book.proofs.book.Book.check_rebound.Goals as goal

pub returns-in_err-field-2 : goal.returns-in_err-field-2
returns-in_err-field-2 c =
    let A = c.args.self.now.ledger in
    let n = c.args.name.now in
    let e = c.in_ok-field.ensures in
    let x = c.in_err-field-2.field-0.0 in
    let d = Rebound n.branch n.article c.args.lo c.args.hi in
    fails_with (checks A d) (IsFound A d) c.from_residual-in_err-field-2.result x
    c.from_residual-in_err-field-2.ensures.1
    (rebound_decides A n c.args.lo c.args.hi (Some x) (no c.is_full.ensures c.if-is_full.false) e.found.0
    (c.in_err-field-2.ensures A n e.good (grind (arith, e.up_to_date)) (grind (arith, e.found.1))))

pub returns : goal.returns
returns c =
    let A = c.args.self.now.ledger in let n = c.args.name.now in let e = c.in_ok-field.ensures in
    let bounds = c.in_ok-field-2.ensures A n e.good (grind (arith, e.up_to_date)) (grind (arith, e.found.1)) in (
      rebound_decides A n c.args.lo c.args.hi None (no c.is_full.ensures c.if-is_full.false) e.found.0 bounds.0,
      (
        bounds_found A n c.args.lo c.args.hi c.in_ok-field.field c.in_ok-field-2.field e.up_to_date e.found.1
            (grind (arith, bounds.1)),
        refl,
        refl,
      ),
    )
