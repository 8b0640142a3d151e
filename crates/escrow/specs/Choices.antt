-- What can become of one quantity while orders are open (O'Neil's escrow method). Results are whole numbers
-- with a sign, so that one below 0 is seen as such.
use Rattle.std.specs.Prelude.{◌≡◌, ℕ, ◌≤◌, ℤ, pos, ◌+ℤ◌, ◌-ℤ◌, ◌≤ℤ◌}
use Rattle.escrow.specs.Stock.{Stock}

-- the settled value, less what is taken and plus what is added
abbrev pub choice_result : Stock → ℕ → ℕ → ℤ
choice_result q taken added = (pos q.value -ℤ pos taken) +ℤ pos added

-- A choice takes any part of what is held to take, and adds any part of what is held to add. P holds of the result of
-- each choice.
abbrev pub EveryChoice : Stock → (ℤ → Type 0) → Type 0
EveryChoice q P = (taken added : ℕ) → taken ≤ q.held_to_take → added ≤ q.held_to_add → P (choice_result q taken added)

-- some choice has this result
abbrev pub SomeChoice : Stock → ℤ → Type 0
SomeChoice q z =
    (taken : ℕ) × (added : ℕ) × (taken ≤ q.held_to_take) × (added ≤ q.held_to_add) × (choice_result q taken added ≡ z)

-- the least result of a choice
pub record IsInfimum (q : Stock) (z : ℤ) : Type 0 where
  pub reached : SomeChoice q z
  pub least : EveryChoice q (λ other. z ≤ℤ other)

-- the greatest result of a choice
pub record IsSupremum (q : Stock) (z : ℤ) : Type 0 where
  pub reached : SomeChoice q z
  pub greatest : EveryChoice q (λ other. other ≤ℤ z)

-- between a lower and an upper bound
abbrev pub IsWithin : ℕ → ℕ → ℤ → Type 0
IsWithin lo hi z = (pos lo ≤ℤ z) × (z ≤ℤ pos hi)

-- each choice stays within the bounds
abbrev pub IsSafe : Stock → Type 0
IsSafe q = EveryChoice q (IsWithin q.lo q.hi)
