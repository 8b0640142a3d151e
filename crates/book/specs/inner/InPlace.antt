-- How lines and orders change in place, and when they may change so.
use Rattle.std.specs.Prelude.{ℕ, ◌+◌, ◌<◌, ◌≤◌, ◌≡◌, ◌||◌, true, List, [], ◌∷◌, ◌++◌, MatchOption, Some, find}
use Rattle.std.specs.Prelude.{if◌then◌else◌, is_some, map}
use Rattle.std.specs.List.{AllByRecursion as Each}
use Rattle.std.specs.Vec.{vec_capacity, vec_len}
use Rattle.escrow.specs.Ranges.{IsLevel}
use Rattle.words.specs.declared.open_line.OpenLine.{OpenLine}
use Rattle.book.specs.declared.book.made.LineChange.{LineChange}
use Rattle.book.specs.declared.book.made.LineChange.TheVariants.{Hold, Release, Use}
use Rattle.book.specs.declared.book.made.OrderChange.{OrderChange}
use Rattle.book.specs.declared.book.made.OrderChange.TheVariants.{ChangeLines, End, HoldMore, MakeFirm}
use Rattle.book.specs.declared.order.OrderEntry.{OrderEntry}
use Rattle.ledger.specs.declared.order.Line.{Line}
use Rattle.ledger.specs.Ledger.{Ledger, Order, line_name, on, order_numbered, transfer_kind}
use Rattle.book.specs.Model.{order_of}
use Rattle.ledger.specs.Next.{add_hold, change_lines, lower_held, new_line, raise_held, raise_used, set_firm, set_state}

abbrev pub changed_line : LineChange → Line → Line
changed_line (Hold q) l = raise_held q l
changed_line (Use q) l = raise_used q l
changed_line (Release q) l = lower_held q l

-- what is held stays a level, and no more is used than is held; what is given back may be any amount
abbrev pub MayChange : LineChange → Line → Type 0
MayChange (Hold q) l = IsLevel (l.held + q)
MayChange (Use q) l = l.used + q ≤ l.held
MayChange (Release q) l = Unit {0}

abbrev pub changed_order : OrderChange → Order → Order
changed_order (HoldMore l) o = add_hold l o
changed_order (ChangeLines f change) o = change_lines f (changed_line change) o
changed_order (End state) o = set_state state o
changed_order MakeFirm o = set_firm o

-- the lines of an order, where the one on the field holds more, or else with one more line at the end
abbrev pub held_lines : OpenLine → List Line → List Line
held_lines l lines = let f = line_name (new_line l) in
    if is_some (find (on f) lines) then map (λ m. if on f m then raise_held l.qty m else m) lines
    else lines ++ new_line l ∷ []

-- Each line that changes may change so, and a line more at the end fits without more memory.
abbrev pub MayChangeOrder : OrderChange → OrderEntry → Type 0
MayChangeOrder (HoldMore l) o =
    MatchOption (find (on (line_name (new_line l))) o.lines.items) (vec_len o.lines < vec_capacity o.lines)
    (λ found. Each (λ m. on (line_name (new_line l)) m ≡ true → MayChange (Hold l.qty) m) o.lines.items)
MayChangeOrder (ChangeLines f change) o =
    Each (λ l. (transfer_kind o.kind || on f l) ≡ true → MayChange change l) o.lines.items
MayChangeOrder (End state) o = Unit {0}
MayChangeOrder MakeFirm o = Unit {0}

-- how many lines more the change may want
abbrev pub lines_wanted : OrderChange → ℕ
lines_wanted (HoldMore l) = 1
lines_wanted change = 0

-- a copy of the order with room for these lines may be changed so
abbrev pub MayChangeUnder : Ledger → ℕ → OrderChange → Type 0
MayChangeUnder A n change = (entry : OrderEntry) → order_numbered A n ≡ Some (order_of (n, entry))
    → vec_len entry.lines + lines_wanted change ≤ vec_capacity entry.lines → MayChangeOrder change entry
