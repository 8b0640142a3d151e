-- so many connections are served, as they came, and the desk goes on
use Rattle.std.proofs.Common.{◌≡◌, false}
use Rattle.desk.specs.Desk.{Goes, desk_state, snapshot}
use Rattle.stockdesk.specs.Outside.{listening}
use Rattle.stockdesk.proofs.Connections.{ServesFrom}
use Rattle.stockdesk.proofs.loopback.serve_all.Given as goal

abbrev pub invariant-loop-turn : goal.invariant-loop-turn
invariant-loop-turn g l = record {
  going : g.K.Keep.stopped l.desk.keep ≡ false;
  served : ServesFrom (listening g.L.Listen g.L.Reader.Read g.L.Writer.Write)
      l._turn (desk_state g.K.Keep l.desk) (snapshot (desk_state g.K.Keep l.initial.desk))
      (snapshot (desk_state g.K.Keep l.desk)) l.initial.listener l.listener;
  goes : Goes g.K.Keep l.initial.desk l.desk;
}
