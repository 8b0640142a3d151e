-- The amounts that are held can be computed from the least and the greatest value, and these from the amounts.
use Rattle.std.specs.Prelude.{◌≡◌, ℕ, ◌+◌, ◌-◌, ◌≤◌}
use Rattle.std.proofs.Common.{arith, ap, ◌∙◌}

-- the least and the greatest value, computed from the amounts held, are what they were
pub numbers_back : (inf value sup : ℕ) → inf ≤ value → value ≤ sup → ◌≡◌ {A = ℕ × ℕ}
    (value - (value - inf), value + (sup - value)) (inf, sup)
numbers_back inf value sup h k =
    let i : value - (value - inf) ≡ inf = omega arith in
    let s : value + (sup - value) ≡ sup = omega arith in
    ap (λ n. (n, value + (sup - value))) i ∙ ap (λ n. (inf, n)) s
