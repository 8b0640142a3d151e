use Rattle.ledger.proofs.Prelude.{◌∙◌, ap, option_copied, sym}
use Rattle.book.proofs.ChangedFields.{from_book, from_entries}
use Rattle.book.proofs.book.Book.field_so_far.Goals as goal

pub returns-in-Some : goal.returns-in-Some
returns-in-Some c done counts =
    from_entries c.args.self.now.ledger done c.args.fields.now.entries c.args.name.now c.in-Some.entry.now counts
    (sym c.get.ensures ∙ ap option_copied c.in-Some.is)

pub returns : goal.returns
returns c done counts =
    from_book c.args.self.now.ledger done c.args.fields.now.entries c.args.name.now c.in-Some-field_entry.entry.now
    counts (sym c.get.ensures ∙ ap option_copied c.in_default.is) c.in-Some-field_entry.ensures.up_to_date
    c.in-Some-field_entry.ensures.found
