-- What can be asked of one quantity: to hold an amount more, to give back what is held, to move the value, and to take
-- other bounds.
use Rattle.std.specs.Prelude.{◌≡◌, ℕ, ◌+◌, ◌-◌, ◌<◌, ◌≤◌, ℤ, pos, ◌+ℤ◌, ◌-ℤ◌, ◌<ℤ◌, ◌≤ℤ◌}
use Rattle.escrow.specs.Choices.{EveryChoice, IsWithin, SomeChoice}
use Rattle.escrow.specs.Stock.{Stock}
use Rattle.escrow.specs.declared.quantity.Bound.{Bound}
use Rattle.escrow.specs.declared.quantity.Bound.TheVariants.{TooLittle, TooMuch}
use Rattle.escrow.specs.declared.quantity.Rebound.{Rebound}
use Rattle.escrow.specs.declared.quantity.Rebound.TheVariants as rebound
use Rattle.escrow.specs.declared.quantity.Way.{Way}
use Rattle.escrow.specs.declared.quantity.Way.TheVariants.{Add, Take}

-- the quantity with n more held
abbrev pub holding : Stock → Way → ℕ → Stock
holding q Take n = record q { held_to_take = q.held_to_take + n }
holding q Add n = record q { held_to_add = q.held_to_add + n }

-- what is held this way
abbrev pub held_of : Stock → Way → ℕ
held_of q Take = q.held_to_take
held_of q Add = q.held_to_add

-- the quantity with n less held, where so much is held
abbrev pub giving_back : Stock → Way → ℕ → Stock
giving_back q Take n = record q { held_to_take = q.held_to_take - n }
giving_back q Add n = record q { held_to_add = q.held_to_add - n }

-- a number moved by n
abbrev pub moved : Way → ℕ → ℤ → ℤ
moved Take n z = z -ℤ pos n
moved Add n z = z +ℤ pos n

-- each choice would stay within the bounds if the value were moved by n
abbrev pub IsSafeMoved : Stock → Way → ℕ → Type 0
IsSafeMoved q way n = EveryChoice q (λ z. IsWithin q.lo q.hi (moved way n z))

-- the new quantity is the old one with its value moved by n, and all else as it was
pub record MovesValue (old : Stock) (way : Way) (n : ℕ) (new : Stock) : Type 0 where
  pub value : pos new.value ≡ moved way n (pos old.value)
  pub others : new ≡ record old { value = new.value }

-- the bound that a step this way may pass
abbrev pub bound_of : Way → Bound
bound_of Take = TooLittle
bound_of Add = TooMuch

-- the quantity with other bounds
abbrev pub bounded : Stock → ℕ → ℕ → Stock
bounded q lo hi = record q { lo = lo; hi = hi }

-- Why other bounds are refused: the lower is above the upper one; or some choice is below the lower one; or none is,
-- and some choice is above the upper one.
abbrev pub RefusesBounds : Stock → ℕ → ℕ → Rebound → Type 0
RefusesBounds q lo hi rebound.BadBounds = hi < lo
RefusesBounds q lo hi rebound.TooLittle = (lo ≤ hi) × ((z : ℤ) × SomeChoice q z × (z <ℤ pos lo))
RefusesBounds q lo hi rebound.TooMuch =
    (lo ≤ hi) × EveryChoice q (λ z. pos lo ≤ℤ z) × ((z : ℤ) × SomeChoice q z × (pos hi <ℤ z))
