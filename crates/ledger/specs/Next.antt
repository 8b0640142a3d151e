-- What a command does to the orders, and the ledger after it. The definitions here look at no stock: the check of the
-- stock looks at the ledger that they give. Of a command that a check before that one refuses they mean nothing.
use Rattle.std.specs.Prelude.{ℕ, ◌+◌, ◌-◌, Bool, Option, None, Some, option_map, ◌&&◌, ◌||◌, not, false, true, ◌==◌}
use Rattle.std.specs.Prelude.{nat_lt, nat_le, List, [], ◌∷◌, ◌++◌, map, is_some, if◌then◌else◌}
use Rattle.std.specs.Ordering.{is_lt, nat_cmp}
use Rattle.std.specs.Cmp.Lexicographic.{slice_cmp}
use Rattle.escrow.specs.declared.quantity.Way.{Way}
use Rattle.escrow.specs.declared.quantity.Way.TheVariants as way
use Rattle.words.specs.declared.open_line.OpenLine.{OpenLine}
use Rattle.words.specs.declared.command.Command.{Command}
use Rattle.words.specs.declared.command.Request.{Request}
use Rattle.words.specs.declared.command.Command.TheVariants.{Field, Deliver, Writeoff, Rebound, Open, Transfer, More}
use Rattle.words.specs.declared.command.Command.TheVariants.{Use, Release, Commit, Abort, Firm, Expire}
use Rattle.ledger.specs.declared.order.Kind.{Kind}
use Rattle.ledger.specs.declared.order.Kind.TheVariants as kind
use Rattle.ledger.specs.declared.order.State.{State}
use Rattle.ledger.specs.declared.order.State.TheVariants as state
use Rattle.ledger.specs.declared.order.Line.{Line}
use Rattle.ledger.specs.Ledger.{Kept, Name, Field as FieldOf, Move, Order, Ledger, places, name_cmp, on, is_open}
use Rattle.ledger.specs.Ledger.{is_transfer, line_on, insert_in_order, name_of, same_name}
use Rattle.ledger.specs.Outcomes.{signed}

-- the field with other bounds; its start stays, and may then lie outside them
abbrev pub with_bounds : ℕ → ℕ → FieldOf → FieldOf
with_bounds lo hi f = record f { lo = lo; hi = hi }

-- one order more, in the order of their numbers
abbrev pub insert_order : Order → List Order → List Order
insert_order o orders = insert_in_order (λ a b. nat_lt a.number b.number) o orders

-- the ledger with one order more
abbrev pub with_order : Order → Ledger → Ledger
with_order o A = record A { orders = insert_order o A.orders }

-- a line that holds its amount, of which nothing is used
abbrev pub new_line : OpenLine → Line
new_line l = record { way = l.way; branch = l.branch; article = l.article; held = l.qty; used = 0 }

-- an open order of these lines
abbrev pub new_order : ℕ → Kind → ℕ → List OpenLine → Order
new_order n kind until lines =
    record { number = n; kind = kind; until = until; state = state.Open; firm = false; lines = map new_line lines }

-- the lines of a transfer: the first takes at the one branch, the second adds at the other
abbrev pub transfer_lines : List ℕ → List ℕ → List ℕ → ℕ → List OpenLine
transfer_lines a from to q = record { way = way.Take; branch = from; article = a; qty = q }
    ∷ record { way = way.Add; branch = to; article = a; qty = q } ∷ []

-- the order with its line on the field changed; on a transfer both lines change
abbrev pub change_lines : Name → (Line → Line) → Order → Order
change_lines f change o = record o { lines = map (λ l. if is_transfer o || on f l then change l else l) o.lines }

abbrev pub raise_held : ℕ → Line → Line
raise_held q l = record l { held = l.held + q }

abbrev pub raise_used : ℕ → Line → Line
raise_used q l = record l { used = l.used + q }

abbrev pub lower_held : ℕ → Line → Line
lower_held q l = record l { held = l.held - q }

-- the order with so much more held on its line on that field
abbrev pub hold_more : Name → ℕ → Order → Order
hold_more f q o = record o { lines = map (λ l. if on f l then raise_held q l else l) o.lines }

-- the order with so much more held on its line on that field; where it has no such line, with that line more at the
-- end
abbrev pub add_hold : OpenLine → Order → Order
add_hold l o = let f = name_of l.branch l.article in
    if is_some (line_on o f) then hold_more f l.qty o else record o { lines = o.lines ++ new_line l ∷ [] }

abbrev pub set_state : State → Order → Order
set_state state o = record o { state = state }

-- the order may no longer be aborted
abbrev pub set_firm : Order → Order
set_firm o = record o { firm = true }

-- the order is the one under the number
abbrev pub numbered : ℕ → Order → Bool
numbered n o = o.number == n

-- the expiry aborts the order: it is open and not firm, and its moment has come
abbrev pub expires : ℕ → Order → Bool
expires now o = is_open o && not o.firm && nat_le o.until now

-- ---- what a command does

-- what a command does to the orders: nothing, or it opens one, or changes those that a test names
pub data Effect : Type 0 where
  Nothing : Effect
  Opens : Order → Effect
  Changes : (Order → Bool) → (Order → Order) → Effect

abbrev pub effect : Command → Effect
effect (Field b a lo hi start) = Nothing
effect (Deliver b a q) = Nothing
effect (Writeoff b a q) = Nothing
effect (Rebound b a lo hi) = Nothing
effect (Open n until lines) = Opens (new_order n kind.Plain until lines)
effect (Transfer n until a from to q) = Opens (new_order n kind.Transfer until (transfer_lines a from to q))
effect (More n way b a q) = Changes (numbered n) (add_hold (record { way = way; branch = b; article = a; qty = q }))
effect (Use n b a q) = Changes (numbered n) (change_lines (name_of b a) (raise_used q))
effect (Release n b a q) = Changes (numbered n) (change_lines (name_of b a) (lower_held q))
effect (Commit n) = Changes (numbered n) (set_state state.Committed)
effect (Abort n) = Changes (numbered n) (set_state state.Aborted)
effect (Firm n) = Changes (numbered n) set_firm
effect (Expire now) = Changes (expires now) (set_state state.Aborted)

-- the field whose value the command moves at once, the way, and how much
abbrev pub moved_at_once : Command → Option (Name × Way × ℕ)
moved_at_once (Deliver b a q) = Some (name_of b a, way.Add, q)
moved_at_once (Writeoff b a q) = Some (name_of b a, way.Take, q)
moved_at_once c = None

-- the fields, with the one that the command makes, or gives other bounds
abbrev pub fields_after : Command → List FieldOf → List FieldOf
fields_after (Field b a lo hi start) fields = insert_in_order (λ f g. is_lt (name_cmp f.name g.name))
    (record { name = name_of b a; lo = lo; hi = hi; start = start }) fields
fields_after (Rebound b a lo hi) fields =
    map (λ f. if same_name (name_of b a) f.name then with_bounds lo hi f else f) fields
fields_after (Deliver b a q) fields = fields
fields_after (Writeoff b a q) fields = fields
fields_after (Open n until lines) fields = fields
fields_after (Transfer n until a from to q) fields = fields
fields_after (More n way b a q) fields = fields
fields_after (Use n b a q) fields = fields
fields_after (Release n b a q) fields = fields
fields_after (Commit n) fields = fields
fields_after (Abort n) fields = fields
fields_after (Firm n) fields = fields
fields_after (Expire now) fields = fields

abbrev pub clock_after : Command → ℕ → ℕ
clock_after (Field b a lo hi start) clock = clock
clock_after (Deliver b a q) clock = clock
clock_after (Writeoff b a q) clock = clock
clock_after (Rebound b a lo hi) clock = clock
clock_after (Open n until lines) clock = clock
clock_after (Transfer n until a from to q) clock = clock
clock_after (More n way b a q) clock = clock
clock_after (Use n b a q) clock = clock
clock_after (Release n b a q) clock = clock
clock_after (Commit n) clock = clock
clock_after (Abort n) clock = clock
clock_after (Firm n) clock = clock
clock_after (Expire now) clock = now

-- ---- the next ledger

-- the orders, with what the command does to them
abbrev pub orders_after : Effect → List Order → List Order
orders_after Nothing orders = orders
orders_after (Opens o) orders = insert_order o orders
orders_after (Changes names change) orders = map (λ o. if names o then change o else o) orders

-- the move that the command makes at that place, if it makes one
abbrev pub move_made : ℕ → Command → Option Move
move_made place c = option_map (λ m. record { place = place; field = m.0; amount = signed m.1 m.2 }) (moved_at_once c)

-- the moves, with one more, if there is one
abbrev pub moves_after : Option Move → List Move → List Move
moves_after None moves = moves
moves_after (Some m) moves = moves ++ m ∷ []

-- the ledger that a command makes of this one, but for its key
abbrev pub next : Ledger → Command → Ledger
next A c = record {
  clock = clock_after c A.clock;
  fields = fields_after c A.fields;
  moves = moves_after (move_made (places A + 1) c) A.moves;
  orders = orders_after (effect c) A.orders;
  kept = A.kept;
}

-- the request's key, kept at the next place
abbrev pub new_key : Ledger → Request → Kept
new_key A r = record { key = r.key; place = places A + 1; command = r.command }

-- the next ledger, with that key
abbrev pub accept : Ledger → Request → Ledger
accept A r = record (next A r.command) {
  kept = insert_in_order (λ a b. is_lt (slice_cmp nat_cmp a.key b.key)) (new_key A r) A.kept;
}
