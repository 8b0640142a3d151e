-- What a walk over the entries adds up on a field, and how much that can be.
use Rattle.std.specs.Prelude.{ℕ, ◌+◌, ◌*◌, ℤ, pos, neg_ℤ, ◌+ℤ◌, ◌≤ℤ◌, if◌then◌else◌}
use Rattle.escrow.specs.declared.limits.TheConstants.{MAX_LEVEL, MAX_QTY}
use Rattle.words.specs.declared.limits.TheConstants.{MAX_ORDER_LINES}
use Rattle.ledger.specs.declared.limits.TheConstants.{MAX_ORDERS, MAX_PLACES}
use Rattle.book.specs.declared.book.tables.sums.Numbers.{Numbers}
use Rattle.book.specs.declared.book.MoveEntry.{MoveEntry}
use Rattle.book.specs.declared.order.OrderEntry.{OrderEntry}
use Rattle.ledger.specs.Ledger.{Name, same_name}
use Rattle.ledger.specs.Outcomes.{Part, part_of}
use Rattle.book.specs.Model.{move_of, order_of}

-- what a delivery or a write-off moves on the field
abbrev pub moved_by_move : Name → MoveEntry → ℤ
moved_by_move f e = if same_name f (move_of e).field then e.amount else pos 0

-- what the entry's order adds to a part of the field's stock
abbrev pub part_of_entry : Part → Name → ℕ × OrderEntry → ℤ
part_of_entry part f o = part_of part f (order_of o)

-- ---- numbers together

-- the numbers of what adds up to nothing
abbrev pub nothing : Numbers
nothing = record { moved = pos 0; takes = pos 0; adds = pos 0 }

-- the numbers of both together
abbrev pub plus : Numbers → Numbers → Numbers
plus n m = record { moved = n.moved +ℤ m.moved; takes = n.takes +ℤ m.takes; adds = n.adds +ℤ m.adds }

-- ---- how much these can be

abbrev pub most_of_move : ℕ
most_of_move = MAX_QTY

abbrev pub most_of_moves : ℕ
most_of_moves = most_of_move * MAX_PLACES

abbrev pub most_of_line : ℕ
most_of_line = MAX_LEVEL

abbrev pub most_of_lines : ℕ
most_of_lines = most_of_line * MAX_ORDER_LINES

abbrev pub most_of_orders : ℕ
most_of_orders = most_of_lines * MAX_ORDERS

abbrev pub most_of_all : ℕ
most_of_all = most_of_moves + most_of_orders

pub record IsSmall (most : ℕ) (n : Numbers) : Type 0 where
  pub low : neg_ℤ (pos most) ≤ℤ n.moved
  pub high : n.moved ≤ℤ pos most
  pub take_low : pos 0 ≤ℤ n.takes
  pub take_high : n.takes ≤ℤ pos most
  pub add_low : pos 0 ≤ℤ n.adds
  pub add_high : n.adds ≤ℤ pos most
