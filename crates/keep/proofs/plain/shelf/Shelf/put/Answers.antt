use Rattle.std.proofs.Common.{All, [], refl, subst}
use Rattle.std.proofs.lemmas.List.Elements.{All-head}
use Rattle.ledger.specs.Tables.{desk_cells}
use Rattle.ledger.specs.declared.rows.Change.{Change}
use Rattle.keep.specs.Content.{IsTheRow}
use Rattle.keep.specs.Plain.{row_of}
use Rattle.keep.proofs.PlainChanges.{desk_put}
use Rattle.keep.proofs.plain.shelf.Shelf.put.Goals as goal

pub returns-in-Desk-clause-put : goal.returns-in-Desk-clause-put
returns-in-Desk-clause-put c =
    let one = subst (λ (x : Change). All IsTheRow (row_of x).desk) c.in-Desk.is c.requires.one in
    rw (
      c.in-Desk.is,
      desk_put (desk_cells c.in-Desk.row) (desk_cells c.args.self.now.desk)
          (All-head IsTheRow (desk_cells c.in-Desk.row) [] one) c.requires.order.desk,
    ) refl

pub returns-in-Field-clause-put : goal.returns-in-Field-clause-put
returns-in-Field-clause-put c = rw (c.in-Field.is, c.put_row.ensures.put) refl

pub returns-in-Move-clause-put : goal.returns-in-Move-clause-put
returns-in-Move-clause-put c = rw (c.in-Move.is, c.put_row-in-Move.ensures.put) refl

pub returns-in-Order-clause-put : goal.returns-in-Order-clause-put
returns-in-Order-clause-put c = rw (c.in-Order.is, c.put_row-in-Order.ensures.put) refl

pub returns-in-Line-clause-put : goal.returns-in-Line-clause-put
returns-in-Line-clause-put c = rw (c.in-Line.is, c.put_row-in-Line.ensures.put) refl

pub returns-in-Kept-clause-put : goal.returns-in-Kept-clause-put
returns-in-Kept-clause-put c = rw (c.in-Kept.is, c.put_row-in-Kept.ensures.put) refl

pub returns-in-Firm-clause-put : goal.returns-in-Firm-clause-put
returns-in-Firm-clause-put c = rw (c.in-Firm.is, c.put_row-in-Firm.ensures.put) refl
