use Rattle.std.proofs.Common.{◌∙◌, subst, sym}
use Rattle.desk.specs.Desk.{IsStored}
use Rattle.desk.proofs.PutOff.{stored_off}
use Rattle.desk.proofs.desk.Desk.defer.Goals as goal

pub invariant_of-result : goal.invariant_of-result
invariant_of-result g c = record {
  good = c.self.invariant.good;
  stored = λ still honest.
      stored_off g.K.Keep c.over.result.keep
      (λ these only. g.met.K.Keep.some_content c.over.result.keep these honest only)
      (g.met.K.Keep.among c.over.result.keep) c.over.result.changes c.over.ensures.none c.self.inside.book.ledger
      (subst (λ k. IsStored (g.K.Keep.holds k) (g.K.Keep.leaves k) c.self.inside.book.ledger) (sym c.over.ensures.keep)
      (c.self.invariant.stored (sym c.over.ensures.stopped ∙ still)
      (subst (λ k. g.K.Keep.is_honest k) c.over.ensures.keep honest)));
}
