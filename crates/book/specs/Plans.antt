-- Plans of accepted requests, and what carrying one out needs.
use Rattle.std.specs.Prelude.{ℕ, ◌+◌, ◌≤◌, ◌≡◌, List, [], ◌∷◌, length}
use Rattle.words.specs.declared.command.Request.{Request}
use Rattle.ledger.specs.Answers.{IsAccepted}
use Rattle.ledger.specs.Changes.{changed_rows, put_content, put_rows}
use Rattle.ledger.specs.Ledger.{Ledger, Order, places}
use Rattle.ledger.specs.Next.{accept}
use Rattle.ledger.specs.Rows.{Content, IsRowsOf, desk_row}
use Rattle.ledger.specs.Steps.{orders_made}
use Rattle.book.specs.Model.{BookView, LineSlots, slots_cmp}

-- a plan as contracts see it
pub record PlanView : Type 0 where
  -- the request that it carries out, and the place that its command gets
  pub request : Request
  pub place : ℕ
  -- the orders that the command opens or changes, as they are after it, and for how many lines each of them has slots
  pub orders : List Order
  pub line_slots : List LineSlots
  -- the rows that change
  pub changes : Content

-- The rows are those that the request changes.
pub record ChangesTo (A : Ledger) (r : Request) (rows : Content) : Type 0 where
  pub changed : (D : Content) → IsRowsOf (accept A r) D → rows ≡ changed_rows A r D
  -- put into the rows of the ledger by their keys, they give the rows of the next ledger
  pub suffice : (C D : Content) → IsRowsOf A C → IsRowsOf (accept A r) D → put_content rows C ≡ D
  -- the desk row is the next ledger's
  pub desk : rows.desk ≡ desk_row (accept A r) ∷ []

-- The plan fits the ledger: its request is accepted there, and place, orders and rows are what the request makes of
-- the ledger.
pub record Fits (A : Ledger) (plan : PlanView) : Type 0 where
  pub accepted : IsAccepted A plan.request
  pub place : plan.place ≡ places A + 1
  pub orders : plan.orders ≡ orders_made A plan.request.command
  pub changes : ChangesTo A plan.request plan.changes

-- The book has room for the plan: for the fields whose rows change, and for a move, an order and a kept key more.
pub record HasRoomFor (book : BookView) (plan : PlanView) : Type 0 where
  pub fields : length plan.changes.fields ≤ book.room.fields
  pub moves : 1 ≤ book.room.moves
  pub orders : 1 ≤ book.room.orders
  pub kept : 1 ≤ book.room.kept

-- The room that there was for any plan is still there.
abbrev pub RoomStays : BookView → BookView → Type 0
RoomStays old new = (plan : PlanView) → HasRoomFor old plan → HasRoomFor new plan

-- No memory is taken for entries to come: for none of them is there more room than there was.
pub record NoRoomGrows (old new : BookView) : Type 0 where
  pub fields : new.room.fields ≤ old.room.fields
  pub moves : new.room.moves ≤ old.room.moves
  pub orders : new.room.orders ≤ old.room.orders
  pub kept : new.room.kept ≤ old.room.kept

-- No memory is taken that stays: there are the slots that there were, and for lines of the plan's orders the slots of
-- the plan.
pub record KeepsStorage (old : BookView) (plan : PlanView) (new : BookView) : Type 0 where
  pub fields : new.storage.fields ≡ old.storage.fields
  pub moves : new.storage.moves ≡ old.storage.moves
  pub orders : new.storage.orders ≡ old.storage.orders
  pub lines : new.storage.lines ≡ put_rows slots_cmp plan.line_slots old.storage.lines
  pub kept : new.storage.kept ≡ old.storage.kept
