use Rattle.ledger.proofs.Prelude.{Err, IfOk, Ok, Result, ap, map, subst, ◌∙◌}
use Rattle.book.proofs.Prelude.{IsFound, entry_row}
use Rattle.book.proofs.FieldRows.{counted_rows, no_own}
use Rattle.book.proofs.book.Book.fields_after.Goals as goal

one : {T E : Type 0} (P Q : T → Type 0) (r : Result T E) → ((x : T) → P x → Q x) → IfOk r P → IfOk r Q
one P Q (Ok x) h p = h x p
one P Q (Err e) h p = tt

pub returns-in-Field : goal.returns-in-Field
returns-in-Field c = one _ _ c.one_field.result
    (λ fields is.
    ap (map entry_row) is
    ∙ (subst (IsFound c.args.self.now.ledger c.args.request.now.command) c.in-Field.is c.requires.found).0
    c.args.request.now.key c.requires.accepts)
    c.one_field.ensures

pub returns : goal.returns
returns c = counted_rows c.args.self.now.ledger c.args.request.now c.args.counted.entries c.requires.accepts
    (no_own c.args.self.now.ledger c.args.request.now.command c.args.found.now c.requires.found c.in_default.not-Field)
    c.requires.counted
