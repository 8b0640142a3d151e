use Rattle.std.proofs.Common.{◌∙◌}
use Rattle.rounds.proofs.Lists.{free_on}
use Rattle.rounds.proofs.hub.Hub.close_all.Goals as goal

pub loop-place-preserved : goal.loop-place-preserved
loop-place-preserved g c = record {
  served = λ first loss start now serving.
      c.close.ensures.served first loss start now (c.loop-place.invariant.served first loss start now serving);
  size = c.close.ensures.same.0 ∙ c.loop-place.invariant.size;
  count = c.close.ensures.same.1 ∙ c.loop-place.invariant.count;
  free = free_on _ _ c.loop-place.place c.loop-place.invariant.free c.close.ensures.free c.close.ensures.others;
}
