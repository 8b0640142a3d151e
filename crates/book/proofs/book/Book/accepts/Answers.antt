use Rattle.book.proofs.NextRows.{good_next, good_now}
use Rattle.book.proofs.book.Book.accepts.Goals as goal

pub returns : goal.returns
returns c = record {
  accepted = c.requires;
  key = c.as_bytes.ensures.form;
  range = c.words.ensures.range;
  before = good_now c.self.inside c.args.self.now c.self.view_is c.self.invariant.0;
  after =
      good_next c.self.inside c.args.self.now c.args.request.now c.self.view_is c.self.invariant.0
      c.as_bytes.ensures.form c.words.ensures.range c.requires;
}
