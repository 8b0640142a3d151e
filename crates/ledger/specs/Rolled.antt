-- A ledger rolled up: the one with which a desk goes on where it needs room. It has no moves, and of the orders that
-- have ended only those of recent deals: what the others came to is in the starts of its fields. Of the keys it has the
-- last ones.
use Rattle.std.specs.Prelude.{ℕ, ◌-◌, ◌-ℤ◌, ◌==◌, ◌&&◌, ◌||◌, Bool, List, [], ◌∷◌, Option, None, Some, false, flat_map}
use Rattle.std.specs.Prelude.{if◌then◌else◌, int_lt, map, min, nat_abs, nat_le, nat_lt, pos}
use Rattle.std.specs.List.{filter, list_any}
use Rattle.std.specs.Option.{option_map_or}
use Rattle.words.specs.declared.command.Command.{Command}
use Rattle.words.specs.declared.command.Command.TheVariants.{Field as MakeField, Deliver, Writeoff, Rebound, Open}
use Rattle.words.specs.declared.command.Command.TheVariants.{Transfer, More, Use, Release, Commit, Abort, Firm, Expire}
use Rattle.ledger.specs.declared.order.Line.{Line}
use Rattle.ledger.specs.Ledger.{Field, Kept, Ledger, Order, is_open, is_settled, places}
use Rattle.ledger.specs.Outcomes.{settled}
use Rattle.ledger.specs.Rows.{Content, FieldCells, KeptCells, desk_of, firm_rows, order_lines, order_row}

-- ---- what stays

-- how many places go, where the last K stay
abbrev pub gone : ℕ → Ledger → ℕ
gone K A = places A - K

-- the keys at the last K places
abbrev pub last_keys : ℕ → Ledger → List Kept
last_keys K A = filter (λ k. nat_lt (gone K A) k.place) A.kept

-- the number of the order that the command names, if it names one
abbrev pub named_order : Command → Option ℕ
named_order (MakeField b a lo hi start) = None
named_order (Deliver b a q) = None
named_order (Writeoff b a q) = None
named_order (Rebound b a lo hi) = None
named_order (Open n until lines) = Some n
named_order (Transfer n until a from to q) = Some n
named_order (More n way b a q) = Some n
named_order (Use n b a q) = Some n
named_order (Release n b a q) = Some n
named_order (Commit n) = Some n
named_order (Abort n) = Some n
named_order (Firm n) = Some n
named_order (Expire now) = None

-- the command names the order under that number
abbrev pub names_order : ℕ → Command → Bool
names_order n c = option_map_or (λ m. m == n) (named_order c) false

-- one of the last K commands names the order under that number
abbrev pub is_recent : ℕ → Ledger → ℕ → Bool
is_recent K A n = list_any (λ k. names_order n k.command) (last_keys K A)

-- The orders of deals between desks have this number, or a greater one. At other desks a part of the deal may still rest
-- on such an order after it has ended.
abbrev pub first_of_deals : ℕ
first_of_deals = 900000000

-- the order is one of a deal, and one of the last K commands names it
abbrev pub is_recent_deal : ℕ → Ledger → Order → Bool
is_recent_deal K A o = nat_le first_of_deals o.number && is_recent K A o.number

-- the orders that stay: the open ones, and of those that have ended the ones that a test names
abbrev pub stays : (Order → Bool) → Order → Bool
stays also o = is_open o || also o

-- ---- what is made of it

-- what is left of a line: where what its order uses is settled, what it has not used
abbrev pub left_of : Bool → Line → Line
left_of settled l = if settled then record l { held = l.held - l.used; used = 0 } else l

-- the order as it is, with what is left of its lines
abbrev pub rolled_order : Order → Order
rolled_order o = record o { lines = map (left_of (is_settled o)) o.lines }

-- the field, started at its settled value, which is no less than 0 in a good ledger
abbrev pub rolled_field : Ledger → Field → Field
rolled_field A f = record f { start = nat_abs (settled A f) }

-- the key, kept so many places lower
abbrev pub lowered : ℕ → Kept → Kept
lowered d k = record k { place = k.place - d }

-- the ledger rolled up, with the last K keys, and with those orders that have ended which the test names
abbrev pub rolled_with : (Order → Bool) → ℕ → Ledger → Ledger
rolled_with also K A = record {
  clock = A.clock;
  fields = map (rolled_field A) A.fields;
  moves = [];
  orders = map rolled_order (filter (stays also) A.orders);
  kept = map (lowered (gone K A)) (last_keys K A);
}

-- the ledger rolled up, with the last K keys: of the orders that have ended it has those of recent deals
abbrev pub rolled : ℕ → Ledger → Ledger
rolled K A = rolled_with (is_recent_deal K A) K A

-- ---- its rows

-- the row of a field that starts at its value
abbrev pub restarted : FieldCells → FieldCells
restarted row = record row { start = row.value }

-- the row of a key that is kept so many places lower
abbrev pub lowered_row : ℕ → KeptCells → KeptCells
lowered_row d row = record row { place = row.place -ℤ pos d }

-- The rows of the ledger rolled up, by the rows of the ledger: each field starts at its value, and all else in its row
-- stays; the rows of orders stay, but those of the orders that are gone, and so do their firm marks.
abbrev pub rolled_rows : (Order → Bool) → ℕ → Ledger → Content → Content
rolled_rows also K A C = record {
  desk = desk_of A.clock (min K (places A)) ∷ [];
  fields = map restarted C.fields;
  moves = [];
  orders = map order_row (filter (stays also) A.orders);
  lines = flat_map (λ o. order_lines (rolled_order o)) (filter (stays also) A.orders);
  kept = map (lowered_row (gone K A)) (filter (λ row. int_lt (pos (gone K A)) row.place) C.kept);
  firms = flat_map firm_rows (filter (stays also) A.orders);
}
