use Rattle.ledger.proofs.Prelude.{refl}
use Rattle.book.proofs.NextRows.{place_is}
use Rattle.book.proofs.book.Book.parts_of.Goals as goal

pub returns-clause-makes : goal.returns-clause-makes
returns-clause-makes c =
    let A = c.args.self.now.ledger in let command = c.args.request.now.command in record {
      key = refl;
      command = c.in_ok-words.ensures;
      place = place_is c.self.inside c.args.self.now c.len.result c.self.view_is c.len.ensures.len;
      clock = c.clock_after.ensures command c.requires.found;
      moved = c.move_made.ensures A command c.requires.found;
      orders = c.in_ok-made.ensures.orders;
      fields = c.in_ok-fields.ensures;
    }
