-- A ledger: the clock, all fields, and all that was ever moved, ordered and accepted. It holds no value, no infimum and
-- no supremum.
use Rattle.std.specs.Prelude.{ℕ, ◌-◌, ℤ, Bool, true, false, ◌&&◌, List, [], ◌∷◌, length, Option, find, ◌==◌}
use Rattle.std.specs.Prelude.{if◌then◌else◌, count_by}
use Rattle.std.specs.Str.{bytes_eq}
use Rattle.std.specs.declared.cmp.Ordering.{Ordering}
use Rattle.std.specs.Ordering.{nat_cmp, ordering_then}
use Rattle.std.specs.Cmp.Lexicographic.{slice_cmp}
use Rattle.escrow.specs.declared.field_name.FieldName.{FieldName}
use Rattle.words.specs.declared.command.Command.{Command}
use Rattle.ledger.specs.declared.order.Kind.{Kind}
use Rattle.ledger.specs.declared.order.Kind.TheVariants.{Plain, Transfer}
use Rattle.ledger.specs.declared.order.State.{State}
use Rattle.ledger.specs.declared.order.State.TheVariants.{Open, Committed, Aborted}
use Rattle.ledger.specs.declared.order.Standing.{Standing}
use Rattle.ledger.specs.declared.order.Standing.TheVariants as standing
use Rattle.ledger.specs.declared.order.Line.{Line}

-- which field: the stock of one article at one branch
abbrev pub Name : Type 0
Name = FieldName

-- a field: its bounds, and the level at which it started
pub record Field : Type 0 where
  pub name : Name
  pub lo : ℕ
  pub hi : ℕ
  pub start : ℕ

-- a delivery or a write-off, with the place of its command
pub record Move : Type 0 where
  pub place : ℕ
  pub field : Name
  -- above 0 for a delivery, below 0 for a write-off
  pub amount : ℤ

-- an order, open or ended
pub record Order : Type 0 where
  pub number : ℕ
  pub kind : Kind
  -- an expiry at this moment or a later one aborts the order, if it is open and not firm then
  pub until : ℕ
  pub state : State
  -- a firm order is never aborted, and what it uses is settled at once; it stays firm, also after its commit
  pub firm : Bool
  pub lines : List Line

-- an accepted key, kept for good with its place and its command
pub record Kept : Type 0 where
  pub key : List ℕ
  pub place : ℕ
  pub command : Command

-- Fields, orders and kept keys are maps. In a good ledger they stand as lists: the fields in the order of their names,
-- the orders of their numbers, the kept keys of the keys, and the moves in the order of their places.
pub record Ledger : Type 0 where
  pub clock : ℕ
  pub fields : List Field
  pub moves : List Move
  pub orders : List Order
  pub kept : List Kept

-- the ledger of a new desk
abbrev pub new_ledger : Ledger
new_ledger = record { clock = 0; fields = []; moves = []; orders = []; kept = [] }

-- how many commands were accepted, which is how many keys are kept
abbrev pub places : Ledger → ℕ
places A = length A.kept

-- ---- names of fields

-- the name of the article's field at the branch
abbrev pub name_of : List ℕ → List ℕ → Name
name_of branch article = record { branch = branch; article = article }

abbrev pub same_name : Name → Name → Bool
same_name f g = bytes_eq f.branch g.branch && bytes_eq f.article g.article

-- by branch, then by article
abbrev pub name_cmp : Name → Name → Ordering
name_cmp f g = ordering_then (slice_cmp nat_cmp f.branch g.branch) (slice_cmp nat_cmp f.article g.article)

-- the field that a line is on
abbrev pub line_name : Line → Name
line_name l = name_of l.branch l.article

-- the line is on the field
abbrev pub on : Name → Line → Bool
on f l = same_name f (line_name l)

-- ---- kinds and states of orders

abbrev pub open_state : State → Bool
open_state Open = true
open_state Committed = false
open_state Aborted = false

-- what an order in that state uses is settled: it is committed, or open and firm
abbrev pub settled_state : State → Bool → Bool
settled_state Open firm = firm
settled_state Committed firm = true
settled_state Aborted firm = false

-- how an order in that state is shown
abbrev pub shown_state : State → Bool → Standing
shown_state Open firm = if firm then standing.Firm else standing.Open
shown_state Committed firm = standing.Committed
shown_state Aborted firm = standing.Aborted

abbrev pub transfer_kind : Kind → Bool
transfer_kind Plain = false
transfer_kind Transfer = true

abbrev pub is_open : Order → Bool
is_open o = open_state o.state

abbrev pub is_settled : Order → Bool
is_settled o = settled_state o.state o.firm

abbrev pub is_transfer : Order → Bool
is_transfer o = transfer_kind o.kind

-- the part of an amount on the line that is not settled yet; on a firm order, what goes beyond what the line has used
abbrev pub unsettled : Bool → Line → ℕ → ℕ
unsettled firm l amount = if firm then amount - l.used else amount

abbrev pub open_orders : Ledger → ℕ
open_orders A = count_by is_open A.orders

-- ---- entries by their keys

abbrev pub field_named : Ledger → Name → Option Field
field_named A f = find (λ e. same_name f e.name) A.fields

abbrev pub order_numbered : Ledger → ℕ → Option Order
order_numbered A n = find (λ o. o.number == n) A.orders

abbrev pub line_on : Order → Name → Option Line
line_on o f = find (on f) o.lines

abbrev pub kept_under : Ledger → List ℕ → Option Kept
kept_under A key = find (λ k. bytes_eq k.key key) A.kept

-- x goes before the first element that it precedes
abbrev pub insert_in_order : {X : Type 0} → (X → X → Bool) → X → List X → List X
insert_in_order precedes x [] = x ∷ []
insert_in_order precedes x (y ∷ ys) = if precedes x y then x ∷ y ∷ ys else y ∷ insert_in_order precedes x ys
