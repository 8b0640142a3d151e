-- The choices that other bounds are refused for.
use Rattle.std.specs.Prelude.{ℕ, ◌+◌, ◌-◌, ◌<◌, ◌≤◌, ℤ, pos, ◌<ℤ◌, ◌≤ℤ◌, refl}
use Rattle.std.proofs.Common.{arith}
use Rattle.std.proofs.lemmas.Int.{ints}
use Rattle.escrow.specs.Choices.{EveryChoice, SomeChoice, choice_result}
use Rattle.escrow.specs.Stock.{Stock}

-- all that is held to take is taken
pub some_below : (q : Stock) (lo : ℕ) → q.held_to_take ≤ q.value → q.value - q.held_to_take < lo
    → (z : ℤ) × SomeChoice q z × (z <ℤ pos lo)
some_below q lo h k = (choice_result q q.held_to_take 0, (q.held_to_take, 0, omega arith, omega arith, refl), omega (arith, ints))

-- all that is held to add is added
pub some_above : (q : Stock) (hi : ℕ) → hi < q.value + q.held_to_add → (z : ℤ) × SomeChoice q z × (pos hi <ℤ z)
some_above q hi k = (choice_result q 0 q.held_to_add, (0, q.held_to_add, omega arith, omega arith, refl), omega (arith, ints))

pub none_below : (q : Stock) (lo : ℕ) → q.held_to_take ≤ q.value → lo ≤ q.value - q.held_to_take
    → EveryChoice q (λ z. pos lo ≤ℤ z)
none_below q lo h k taken added t a = omega (arith, ints)
