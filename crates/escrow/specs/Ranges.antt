-- The ranges of numbers. The limits stand here as numbers, so that the prover refuses another limit in the code.
use Rattle.std.specs.Prelude.{ℕ, ◌≤◌}

-- a level of stock: a bound, a value, or an amount that is held or used
abbrev pub IsLevel : ℕ → Type 0
IsLevel n = n ≤ 1000000000

-- a quantity in a command
abbrev pub IsQty : ℕ → Type 0
IsQty n = (1 ≤ n) × (n ≤ 1000000)

-- a moment in whole minutes
abbrev pub IsMoment : ℕ → Type 0
IsMoment n = n ≤ 4000000000

-- the number of an order
abbrev pub IsOrderNo : ℕ → Type 0
IsOrderNo n = (1 ≤ n) × (n ≤ 999999999)
