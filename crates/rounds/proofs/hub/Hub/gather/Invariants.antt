-- it goes on
use Rattle.std.proofs.Common.{◌≡◌, Option, length}
use Rattle.desk.specs.Desk.{Snapshot}
use Rattle.rounds.specs.Crowds.{IsServing, listening_to}
use Rattle.rounds.specs.Lines.{speaks}
use Rattle.rounds.specs.Rounds.{Loss}
use Rattle.rounds.proofs.hub.Hub.gather.Given as goal

abbrev pub invariant-loop-more : goal.invariant-loop-more
invariant-loop-more g l = record {
  served : (first : g.row.C.Denot) (loss : Option Loss) (start now : Snapshot)
      → IsServing (speaks g.D.Dialogue g.C.Stream.Stream) (listening_to g.C.Crowd) first loss start now l.initial.self
      → IsServing (speaks g.D.Dialogue g.C.Stream.Stream) (listening_to g.C.Crowd) first loss start now l.self;
  size : length l.self.places.lines ≡ length l.initial.self.places.lines;
  count : l.self.places.connections ≡ l.initial.self.places.connections;
}
