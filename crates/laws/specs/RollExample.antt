-- A ledger, and what it is when it is rolled up with its last two keys.
use Rattle.std.specs.Prelude.{ℕ, Bool, [], ◌∷◌, false, pos, true}
use Rattle.escrow.specs.declared.quantity.Way.{Way}
use Rattle.escrow.specs.declared.quantity.Way.TheVariants.{Add, Take}
use Rattle.words.specs.declared.command.Command.TheVariants as command
use Rattle.ledger.specs.declared.order.Kind.TheVariants.{Plain}
use Rattle.ledger.specs.declared.order.State.{State}
use Rattle.ledger.specs.declared.order.State.TheVariants.{Committed, Open}
use Rattle.ledger.specs.Ledger.{Field, Kept, Ledger, Name, Order}
use Rattle.words.specs.declared.command.Command.{Command}

-- N1, A-1
abbrev pub piece : Name
piece = record { branch = 78 ∷ 49 ∷ []; article = 65 ∷ 45 ∷ 49 ∷ [] }

-- the field, started there
abbrev pub field_from : ℕ → Field
field_from start = record { name = piece; lo = 0; hi = 100; start = start }

-- an order of one line
abbrev pub order_of_line : ℕ → State → Bool → Way → ℕ → ℕ → Order
order_of_line number state firm way held used = record {
  number = number;
  kind = Plain;
  until = 90;
  state = state;
  firm = firm;
  lines = record { way = way; branch = piece.branch; article = piece.article; held = held; used = used } ∷ [];
}

-- a key of one letter
abbrev pub key_at : ℕ → ℕ → Command → Kept
key_at letter place c = record { key = letter ∷ []; place = place; command = c }

-- 40 pieces and a delivery of 10. Order 1 took 5 and is committed; order 2 is firm, and has taken 2 of 6; order 3 is
-- open. Of two deals the orders are committed: the first added 3, and the second took 1. It has three keys, so it is no
-- ledger that commands would lead to.
abbrev pub before : Ledger
before = record {
  clock = 7;
  fields = field_from 40 ∷ [];
  moves = record { place = 2; field = piece; amount = pos 10 } ∷ [];
  orders = order_of_line 1 Committed false Take 8 5 ∷ order_of_line 2 Open true Take 6 2
      ∷ order_of_line 3 Open false Add 4 1 ∷ order_of_line 900000001 Committed false Add 3 3
      ∷ order_of_line 900000002 Committed false Take 1 1 ∷ [];
  kept = key_at 97 3 (command.Commit 1) ∷ key_at 98 1 (command.Commit 900000002)
      ∷ key_at 99 2 (command.Commit 900000001) ∷ [];
}

-- 45 pieces; of order 2 it has what is left; of the keys those at places 2 and 3; of the orders that have ended the one
-- that is of a deal and is named under these keys
abbrev pub after : Ledger
after = record {
  clock = 7;
  fields = field_from 45 ∷ [];
  moves = [];
  orders = order_of_line 2 Open true Take 4 0 ∷ order_of_line 3 Open false Add 4 1
      ∷ order_of_line 900000001 Committed false Add 0 0 ∷ [];
  kept = key_at 97 2 (command.Commit 1) ∷ key_at 99 1 (command.Commit 900000001) ∷ [];
}
