-- One quantity as contracts see it.
use Rattle.std.specs.Prelude.{ℕ}

-- its bounds, its settled value, and the amounts that open orders hold to take and to add
pub record Stock : Type 0 where
  pub lo : ℕ
  pub hi : ℕ
  pub value : ℕ
  pub held_to_take : ℕ
  pub held_to_add : ℕ
