-- it goes on, and not too many have come
use Rattle.std.proofs.Common.{◌≡◌, ◌≤◌, [], length}
use Rattle.desk.specs.Desk.{Snapshot}
use Rattle.rounds.specs.Crowds.{listening_to}
use Rattle.rounds.specs.Lines.{speaks}
use Rattle.rounds.specs.Services.{InService}
use Rattle.rounds.proofs.hub.Hub.serve.Given as goal

abbrev pub invariant-loop-turn : goal.invariant-loop-turn
invariant-loop-turn g l = record {
  served : (first : g.row.C.Denot) (start : Snapshot)
      → InService (speaks g.D.Dialogue g.C.Stream.Stream) (listening_to g.C.Crowd) g.K.Keep first start l.initial.desk
      l.initial.self
      → InService (speaks g.D.Dialogue g.C.Stream.Stream) (listening_to g.C.Crowd) g.K.Keep first start l.desk l.self;
  settled : l.desk.keep.changes ≡ [];
  size : length l.self.places.lines ≡ length l.initial.self.places.lines;
  within : l.self.places.connections ≤ l.terms.connections;
  last : l.last ≤ 3;
  honest : g.K.Keep.is_honest l.desk.keep.keep → g.K.Keep.is_honest l.initial.desk.keep.keep;
}
