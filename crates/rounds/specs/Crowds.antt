-- Connections that come to a service and leave it, and how it stands meanwhile.
use Rattle.std.specs.Prelude.{◌≡◌, ℕ, List, [], ◌∷◌, ◌++◌, Option, Some, set, slice_get}
use Rattle.desk.specs.Desk.{Snapshot}
use Rattle.rounds.specs.Histories.{IsReached, PlacesView, Visit, visit_of}
use Rattle.rounds.specs.Lines.{LineView, Speaks}
use Rattle.rounds.specs.Rounds.{Loss}
use Rattle.rounds.specs.declared.crowd.Crowd.{Ghosts as Crowd}

-- A crowd, as a service sees it: which connection may come, and which is closed as it stands, each with the crowd
-- after that; and what the crowd may be after a wait.
pub record Listening (C T : Type 0) : Type 1 where
  pub comes : C → T → C → Type 0
  pub closes : C → T → C → Type 0
  pub waits : C → C → Type 0

abbrev pub listening : {C T : Type 0} → (C → T → C → Type 0) → (C → T → C → Type 0) → (C → C → Type 0) → Listening C T
listening comes closes waits = record { comes = comes; closes = closes; waits = waits }

-- how connections come to a crowd of some kind
abbrev pub listening_to : {C T : Type 0} → Crowd C T → Listening C T
listening_to c = record { comes = c.comes; closes = c.closes; waits = c.waits }

-- Who came and left: nobody yet; or then this connection came; or then the connection of this number, which had come
-- as the first stream, was closed as the second; or then there was a wait.
pub data Doors (T : Type 0) : Type 0 where
  unopened : Doors T
  entered : Doors T → T → Doors T
  closed : Doors T → ℕ → T → T → Doors T
  waited : Doors T → Doors T

abbrev pub visits_in : {T : Type 0} → Doors T → List (Visit T)
visits_in unopened = []
visits_in (entered doors stream) = visits_in doors ++ visit_of stream ∷ []
visits_in (closed doors connection first last) = set (visits_in doors) connection (record { came = first; left = Some last })
visits_in (waited doors) = visits_in doors

-- the crowd went from `old` to `new` as these connections came and left
abbrev pub Pass : {C T : Type 0} → Listening C T → C → Doors T → C → Type 0
Pass c old unopened new = new ≡ old
Pass {C = C} c old (entered doors stream) new = (mid : C) × Pass c old doors mid × c.comes mid stream new
Pass {C = C} c old (closed doors connection first last) new = (mid : C) × Pass c old doors mid × c.closes mid last new
    × (slice_get (visits_in doors) connection ≡ Some (visit_of first))
Pass {C = C} c old (waited doors) new = (mid : C) × Pass c old doors mid × c.waits mid new

-- a service as contracts see it: the crowd, and the places of those that are there
pub record HubView (C V : Type 0) : Type 0 where
  pub crowd : C
  pub places : PlacesView V

-- How a service stands: these connections came to the crowd and left it, and the places stand behind a history of
-- them.
pub record IsServing {C S P T Q A : Type 0} (g : Speaks S P T Q A) (c : Listening C T) (first : C) (loss : Option Loss)
    (start now : Snapshot) (hub : HubView C (LineView S P T)) : Type 0 where
  pub doors : Doors T
  pub pass : Pass c first doors hub.crowd
  pub reached : IsReached g loss start now (visits_in doors) hub.places
