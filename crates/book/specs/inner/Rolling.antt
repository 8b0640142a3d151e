-- The rows of a ledger rolled up, as they are put in one after the other.
use Rattle.std.specs.Prelude.{ℕ, List, [], ◌∷◌, Option, None, Some, if◌then◌else◌, flat_map, map, nat_le, nat_lt}
use Rattle.std.specs.List.{filter}
use Rattle.words.specs.declared.command.Command.{Command}
use Rattle.ledger.specs.Ledger.{Kept, Name, Order}
use Rattle.ledger.specs.Rolled.{first_of_deals, lowered, named_order, restarted, rolled_order}
use Rattle.ledger.specs.Rows.{Content, firm_rows, kept_row, order_lines, order_row}
use Rattle.ledger.specs.Tables.{no_content}
use Rattle.book.specs.Model.{entry_row}
use Rattle.book.specs.declared.book.FieldEntry.{FieldEntry}

-- the number, if it is that of a deal's order
abbrev pub deal_of : Option ℕ → Option ℕ
deal_of None = None
deal_of (Some n) = if nat_le first_of_deals n then Some n else None

-- the number of the deal's order that the command names, if it names one
abbrev pub named_deal : Command → Option ℕ
named_deal c = deal_of (named_order c)

abbrev pub one_or_none : Option ℕ → List ℕ
one_or_none None = []
one_or_none (Some n) = n ∷ []

-- the rows of fields that start at their values
abbrev pub restarted_content : List (Name × FieldEntry) → Content
restarted_content entries = record no_content { fields = map (λ e. restarted (entry_row e)) entries }

-- the rows of the lines of an order, as they are left
abbrev pub lines_content : Order → Content
lines_content o = record no_content { lines = order_lines (rolled_order o) }

-- the rows of orders, as they are left
abbrev pub orders_content : List Order → Content
orders_content os = record no_content {
  orders = map order_row os;
  lines = flat_map (λ o. order_lines (rolled_order o)) os;
  firms = flat_map firm_rows os;
}

-- the keys behind the first places
abbrev pub keys_behind : ℕ → List Kept → List Kept
keys_behind gone kept = filter (λ k. nat_lt gone k.place) kept

-- the rows of keys, kept so many places lower
abbrev pub keys_content : ℕ → List Kept → Content
keys_content gone kept = record no_content { kept = map (λ k. kept_row (lowered gone k)) kept }

-- the numbers of the orders of deals that these keys' commands name
abbrev pub deals_named : List Kept → List ℕ
deals_named kept = flat_map (λ k. one_or_none (named_deal k.command)) kept
