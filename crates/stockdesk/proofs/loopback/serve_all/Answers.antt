use Rattle.std.proofs.Common.{[], ◌∙◌, inl, inr, refl, rules, sym}
use Rattle.desk.proofs.GoesOn.{goes_on, goes_same}
use Rattle.desk.specs.Desk.{desk_state}
use Rattle.stockdesk.specs.Outside.{listening}
use Rattle.stockdesk.proofs.Connections.{is_served, passes, serves_one, serves_so_far}
use Rattle.stockdesk.proofs.loopback.serve_all.Goals as goal

pub loop-turn-init : goal.loop-turn-init
loop-turn-init g c = record {
  going = search rules;
  served = ([], refl, refl, refl);
  goes = goes_same _ _ c.is_stopped.ensures.in_order.good c.is_stopped.ensures.in_order.stored;
}

pub returns-in_default-clause-cut : goal.returns-in_default-clause-cut
returns-in_default-clause-cut g c =
    serves_so_far _ _ _ (desk_state g.K.Keep c.loop-turn.desk) _ _ _ _ _ (search rules) (inr c.in_default.ensures.err)
    c.loop-turn.invariant.served

pub returns-in_default-clause-stop : goal.returns-in_default-clause-stop
returns-in_default-clause-stop g c = record {
  stopped = λ is. absurd (cc is);
  going = λ other. c.loop-turn.invariant.going ∙ sym c.requires.going;
}

pub returns-then-is_stopped-clause-cut : goal.returns-then-is_stopped-clause-cut
returns-then-is_stopped-clause-cut g c =
    let pass =
    passes (listening g.L.Listen g.L.Reader.Read g.L.Writer.Write) _ _ _
    _ _ _ _ c.in-Ok.ensures.ok c.close.ensures in
    serves_so_far _ _ _ (desk_state g.K.Keep c.serve.new.desk) _ _ _ _ _ (search rules) (inl refl)
    (serves_one _ _ _ (desk_state g.K.Keep c.loop-turn.desk) (desk_state g.K.Keep c.serve.new.desk) _ _ _ _ _ _
    c.loop-turn.invariant.going c.loop-turn.invariant.served pass
    (is_served c.serve.result _ _ _ c.serve.ensures.whole c.serve.ensures.cut))

pub returns-then-is_stopped-clause-stop : goal.returns-then-is_stopped-clause-stop
returns-then-is_stopped-clause-stop g c = record {
  stopped = λ is. sym c.is_stopped-in-loop-turn.ensures.stopped ∙ c.if-is_stopped.true;
  going = λ other. absurd (other refl);
}

pub returns-then-is_stopped-clause-goes : goal.returns-then-is_stopped-clause-goes
returns-then-is_stopped-clause-goes g c = goes_on _ _ _ _ c.loop-turn.invariant.goes c.serve.ensures.goes

pub loop-turn-preserved : goal.loop-turn-preserved
loop-turn-preserved g c =
    let going = sym c.is_stopped-in-loop-turn.ensures.stopped ∙ c.if-is_stopped.false in
    let pass =
    passes (listening g.L.Listen g.L.Reader.Read g.L.Writer.Write) _ _ _
    _ _ _ _ c.in-Ok.ensures.ok c.close.ensures in
    record {
      going = going;
      served =
          serves_one _ _ _ (desk_state g.K.Keep c.loop-turn.desk) (desk_state g.K.Keep c.serve.new.desk) _ _ _ _ _ _
          c.loop-turn.invariant.going c.loop-turn.invariant.served pass
          (is_served c.serve.result _ _ _ c.serve.ensures.whole c.serve.ensures.cut);
      goes = goes_on _ _ _ _ c.loop-turn.invariant.goes c.serve.ensures.goes;
    }
