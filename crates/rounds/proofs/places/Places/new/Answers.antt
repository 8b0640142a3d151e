use Rattle.std.proofs.Common.{◌≡◌, ◌∙◌, Some, ◌+◌, ap, arith, length, length-append, refl, subst}
use Rattle.std.specs.Prelude.{slice_get}
use Rattle.rounds.specs.Lines.{speaks}
use Rattle.rounds.proofs.Lists.{free_more}
use Rattle.rounds.proofs.Reaching.{reach_none}
use Rattle.rounds.proofs.places.Places.new.Goals as goal

pub loop-place-preserved : goal.loop-place-preserved
loop-place-preserved g c = record {
  size =
      ap length c.in_ok-push.ensures.items ∙ length-append c.loop-place.lines.items _
      ∙ ap (λ n. n + 1) c.loop-place.invariant.size;
  free = λ place v e. free_more c.loop-place.lines.items c.loop-place.invariant.free place v
      (subst (λ xs. slice_get xs place ≡ Some (Some v)) c.in_ok-push.ensures.items e);
}

pub returns-clause-reached : goal.returns-clause-reached
returns-clause-reached g c = λ start. reach_none (speaks g.D.Dialogue g.S.Stream) start _ refl c.loop-place.invariant.free

pub invariant_of-result : goal.invariant_of-result
invariant_of-result g c = (omega arith, λ place v e. absurd (c.loop-place.invariant.free place v e))
