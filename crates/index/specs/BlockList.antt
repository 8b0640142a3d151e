-- Lists in blocks.
use Rattle.std.specs.Prelude.{◌≡◌, ℕ, [], ◌∷◌, ◌++◌, ◌-◌, ◌^◌, ◌≤◌, min, List, length}
use Rattle.std.specs.List.{AllByRecursion}

-- how the memory is laid out: for how many blocks the table has slots, and for how many items each block has
pub record BlockStorage : Type 0 where
  pub table : ℕ
  pub blocks : List ℕ

-- no memory
abbrev pub no_blocks : BlockStorage
no_blocks = record { table = 0; blocks = [] }

-- what contracts see: the items, for how many items there is memory, and how that memory is laid out
pub record Items (T : Type 0) : Type 0 where
  pub items : List T
  pub capacity : ℕ
  pub storage : BlockStorage

-- the items of all blocks
abbrev pub joined : {T : Type 0} → List (List T) → List T
joined [] = []
joined (b ∷ bs) = b ++ joined bs

-- n items fill these blocks one after another
abbrev pub IsFilled : {T : Type 0} → ℕ → List (List T) → Type 0
IsFilled n [] = n ≡ 0
IsFilled n (b ∷ bs) = (length b ≡ min n 1024) × IsFilled (n - 1024) bs

-- n items lie in blocks of these capacities; there are at most as many blocks as 2 ^ 32 items fill
pub record IsInBlocks {T : Type 0} (n : ℕ) (blocks : List (List T)) (capacities : List ℕ) : Type 0 where
  pub filled : IsFilled n blocks
  pub roomy : AllByRecursion (λ c. 1024 ≤ c) capacities
  pub few : length blocks ≤ 2 ^ 22
