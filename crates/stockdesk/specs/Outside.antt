-- What a session meets outside: files of requests, and listeners at ports.
use Rattle.std.specs.Prelude.{ℕ, List, Option}
use Rattle.std.specs.declared.io.Read.{Ghosts as Read}
use Rattle.std.specs.declared.io.Write.{Ghosts as Write}
use Rattle.rounds.specs.Crowds.{Listening as Doors, listening_to}
use Rattle.rounds.specs.declared.crowd.Crowd.{Ghosts as Crowd}
use Rattle.rounds.specs.declared.stream.Stream.{Ghosts as Stream}
use Rattle.stockdesk.specs.declared.listener.Listen.{Ghosts as Listen}

-- A listener: which connection may come, and which is closed, each with the listener after that; what the listener may
-- be after a wait to which none came; and what is left to read from a connection, and was written to it.
pub record Listening (L R W : Type 0) : Type 1 where
  pub comes : L → R → W → L → Type 0
  pub closes : L → R → W → L → Type 0
  pub waits : L → L → Type 0
  pub remaining : R → Option (List ℕ)
  pub contents : W → Option (List ℕ)

-- a kind of listener, of a kind of connection
abbrev pub listening : {L R W : Type 0} → Listen L R W → Read R → Write W → Listening L R W
listening listener reader writer = record {
  comes = listener.comes;
  closes = listener.closes;
  waits = listener.waits;
  remaining = reader.remaining;
  contents = writer.contents;
}

-- What paths name: which file may open there, and what is left to read from it.
pub record Paths (C : Type 0) : Type 1 where
  pub opens : List ℕ → C → Type 0
  pub remaining : C → Option (List ℕ)

abbrev pub paths : {C : Type 0} → (opens : List ℕ → C → Type 0) → (C → Option (List ℕ)) → Paths C
paths opens remaining = record { opens = opens; remaining = remaining }

-- A crowd, out of which many connections come at once: who comes and is closed, and what is left to read from a
-- connection, and was written to it.
pub record Gathering (G T : Type 0) : Type 1 where
  pub doors : Doors G T
  pub remaining : T → Option (List ℕ)
  pub contents : T → Option (List ℕ)

-- a kind of crowd, of a kind of stream
abbrev pub gathering : {G T : Type 0} → Crowd G T → Stream T → Gathering G T
gathering crowd stream =
    record { doors = listening_to crowd; remaining = stream.remaining; contents = stream.contents }

-- What is outside: the files at paths; which listener may be had where a port was asked for, at the port that it got;
-- the connections that come to it one after the other; and in the same way which crowd may be had, and the
-- connections out of it.
pub record Outside (C L R W G T : Type 0) : Type 1 where
  pub files : Paths C
  pub listens : (asked got : ℕ) → L → Type 0
  pub connections : Listening L R W
  pub gathers : (asked got : ℕ) → G → Type 0
  pub crowd : Gathering G T

-- what a machine has, by what its files, listeners and crowds are
abbrev pub outside : {C L R W G T : Type 0} → (opens : List ℕ → C → Type 0) → (listens : (asked got : ℕ) → L → Type 0)
    → (gathers : (asked got : ℕ) → G → Type 0) → Read C → Listen L R W → Read R → Write W → Crowd G T → Stream T
    → Outside C L R W G T
outside opens listens gathers csv listener reader writer crowd stream = record {
  files = paths opens csv.remaining;
  listens = listens;
  connections = listening listener reader writer;
  gathers = gathers;
  crowd = gathering crowd stream;
}
