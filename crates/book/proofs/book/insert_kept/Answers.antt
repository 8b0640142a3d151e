use Rattle.ledger.proofs.Prelude.{◌∙◌, ap, map}
use Rattle.book.proofs.Prelude.{kept_of}
use Rattle.book.proofs.KeyPlaces.{kept_absent, kept_inserted}
use Rattle.book.proofs.book.insert_kept.Goals as goal

pub insert-requires-clause-absent : goal.insert-requires-clause-absent
insert-requires-clause-absent c = kept_absent c.args.key c.args.kept.now.entries c.requires.absent

pub returns-clause-kept : goal.returns-clause-kept
returns-clause-kept c =
    ap (map kept_of) c.insert.ensures.entries
    ∙ kept_inserted c.args.key c.args.entry c.args.kept.now.entries c.requires.absent
