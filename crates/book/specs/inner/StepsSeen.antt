-- Steps and the parts of a plan as the book sees them, where an order as it was before is looked up; and the rows
-- that change.
use Rattle.std.specs.Prelude.{ℕ, ◌+◌, ◌++◌, ◌≡◌, ◌≤◌, ◌⊎◌, ◌∷◌, IsSome, List, [], Option, flat_map, length, map, option_map}
use Rattle.std.specs.BTreeMap.{is_at}
use Rattle.std.specs.List.{AllByRecursion as Each}
use Rattle.std.specs.Map.{lookup}
use Rattle.std.specs.Option.{option_map_or}
use Rattle.std.specs.Ordering.{nat_cmp}
use Rattle.std.specs.declared.cmp.Ordering.{Ordering}
use Rattle.words.specs.declared.command.Command.{Command}
use Rattle.words.specs.declared.command.Request.{Request}
use Rattle.ledger.specs.Changes.{amount_rows, state_row, mark_row}
use Rattle.ledger.specs.Ledger.{Ledger, Order, field_named, line_name, order_numbered, places}
use Rattle.book.specs.Model.{entry_row, move_of, order_of}
use Rattle.ledger.specs.Next.{move_made, next}
use Rattle.ledger.specs.Rows.{Content}
use Rattle.ledger.specs.Steps.{LineStep, Step, orders_made, steps_of, turn}
use Rattle.ledger.specs.Tables.{no_content, rows_among}
use Rattle.book.specs.declared.book.made.Made.{Made}
use Rattle.book.specs.declared.book.made.OrderChange.{OrderChange}
use Rattle.book.specs.inner.InPlace.{changed_order}
use Rattle.book.specs.inner.RunningNumbers.{CountsAll, CountsMore, MayCount}
use Rattle.ledger.specs.inner.Shares.{share_steps, shares_of_step}
use Rattle.words.specs.declared.limits.TheConstants.{MAX_ORDER_LINES}
use Rattle.book.specs.declared.book.plan.PlanParts.{PlanParts}
use Rattle.ledger.specs.declared.order.Line.{Line}
use Rattle.ledger.specs.inner.FieldRows.{field_rows}
use Rattle.book.specs.declared.order.OrderEntry.{OrderEntry}

abbrev pub step_seen : Option OrderEntry → ℕ × OrderEntry → Step
step_seen before after = record { before = option_map (λ e. order_of (after.0, e)) before; after = order_of after }

abbrev pub lines_before : Option OrderEntry → List Line
lines_before before = option_map_or (λ e. e.lines.items) before []

abbrev pub line_seen : ℕ → Option Line → Line → LineStep
line_seen nr before after = record { nr = nr; before = before; after = after }

-- ---- orders put in

-- orders by their numbers
abbrev pub number_cmp : Order → Order → Ordering
number_cmp a b = nat_cmp a.number b.number

-- the orders may be put in: all of them are there already, or it is one order, for which there is room
abbrev pub MayBePut : ℕ → List (ℕ × OrderEntry) → List (ℕ × OrderEntry) → Type 0
MayBePut room made entries =
    ((length made ≤ 1) × (1 ≤ room)) ⊎ Each (λ o. IsSome (lookup (is_at (nat_cmp o.0)) entries)) made

-- ---- rows that change

-- the rows of each table one after the other
abbrev pub joined : Content → Content → Content
joined first more = record {
  desk = first.desk ++ more.desk;
  fields = first.fields ++ more.fields;
  moves = first.moves ++ more.moves;
  orders = first.orders ++ more.orders;
  lines = first.lines ++ more.lines;
  kept = first.kept ++ more.kept;
  firms = first.firms ++ more.firms;
}

-- the rows that these steps change
abbrev pub step_rows : List Step → Content
step_rows steps = record no_content {
  orders = flat_map state_row steps;
  lines = flat_map amount_rows steps;
  firms = flat_map mark_row steps;
}

-- The parts are what the request makes of the ledger.
pub record Makes (A : Ledger) (r : Request) (p : PlanParts) : Type 0 where
  pub key : p.key ≡ r.key
  pub command : p.words ≡ r.command
  pub place : p.place ≡ places A + 1
  pub clock : p.clock ≡ (next A r.command).clock
  pub moved : option_map move_of p.moved ≡ move_made p.place r.command
  pub orders : map order_of p.orders.items ≡ orders_made A r.command
  pub fields : map entry_row p.fields.entries ≡ field_rows A r

-- ---- steps, made one after the other

-- what is made has these steps more: their orders, what their lines count for, and the rows that they change
pub record Adds (A : Ledger) (steps : List Step) (old new : Made) : Type 0 where
  pub orders : map order_of new.orders.items ≡ map order_of old.orders.items ++ map (λ s. s.after) steps
  pub fields : CountsMore A (flat_map shares_of_step steps) old.fields.entries new.fields.entries
  pub changes : rows_among new.changes.items ≡ joined (rows_among old.changes.items) (step_rows steps)

-- these steps may be made next: their orders are short, each line is on a field, and what they count for may follow
pub record MayMake (A : Ledger) (steps : List Step) (old : Made) : Type 0 where
  pub short : Each (λ s. length s.after.lines ≤ MAX_ORDER_LINES) steps
  pub there : Each (λ s. Each (λ l. IsSome (field_named A (line_name l))) s.after.lines) steps
  pub count : MayCount A (flat_map shares_of_step steps) old.fields.entries

-- what is made comes from the command's steps, and from nothing else
pub record IsMadeBy (A : Ledger) (c : Command) (made : Made) : Type 0 where
  pub orders : map order_of made.orders.items ≡ orders_made A c
  pub fields : CountsAll A (share_steps A c) made.fields.entries
  pub changes : rows_among made.changes.items ≡ step_rows (steps_of A c)

-- the step that changes the order under that number, if there is one
abbrev pub steps_under : Ledger → OrderChange → ℕ → List Step
steps_under A change n =
    option_map_or (λ o. turn o (changed_order change o) ∷ []) (order_numbered A n) []
