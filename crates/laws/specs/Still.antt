-- A desk at which nothing moves any more.
use Rattle.std.specs.Prelude.{◌+◌, ◌≤◌, IsTrue}
use Rattle.std.specs.List.{AllByRecursion as Each}
use Rattle.ledger.specs.declared.limits.TheConstants.{MAX_PLACES}
use Rattle.ledger.specs.Ledger.{Ledger, is_open, open_orders, places}

-- no place is free, and every open order is firm
pub record IsStill (A : Ledger) : Type 0 where
  pub full : MAX_PLACES ≤ places A + open_orders A
  pub firm : Each (λ o. IsTrue (is_open o) → IsTrue o.firm) A.orders
