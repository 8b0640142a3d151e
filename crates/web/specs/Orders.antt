-- Which orders a list shows: at most fifty. The limit stands here as a number, so that the prover refuses another
-- limit in the code.
use Rattle.std.specs.Prelude.{◌&&◌, ℕ, List, filter, map, nat_lt, take}
use Rattle.ledger.specs.Ledger.{Ledger, Order, is_open}
use Rattle.ledger.specs.Next.{expires}

-- the open orders above that number
abbrev pub opens : Ledger → ℕ → List Order
opens A floor = filter (λ o. is_open o && nat_lt floor o.number) A.orders

-- the first of the open orders above that number
abbrev pub open_above : Ledger → ℕ → List Order
open_above A floor = take 50 (opens A floor)

-- the first of the orders that an expiry at that moment aborts
abbrev pub due : Ledger → ℕ → List Order
due A moment = take 50 (filter (expires moment) A.orders)

-- ---- how they are listed (private)

abbrev pub open_left : Ledger → ℕ → List ℕ
open_left A floor = map (λ o. o.number) (opens A floor)
