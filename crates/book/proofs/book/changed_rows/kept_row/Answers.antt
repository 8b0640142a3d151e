use Rattle.ledger.proofs.Prelude.{IsUtf8, subst, sym}
use Rattle.book.proofs.Texts.{spelling_utf8}
use Rattle.book.proofs.book.changed_rows.kept_row.Goals as goal

pub text_of-requires : goal.text_of-requires
text_of-requires c = subst IsUtf8 (sym c.as_bytes.ensures.value) (spelling_utf8 c.args.words.now c.as_bytes.ensures.range)
