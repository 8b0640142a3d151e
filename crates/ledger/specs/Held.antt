-- What open orders hold on a field beyond what is settled, added up. The laws `bounds_are_held` and
-- `tests_are_comparisons` tie these sums to the outcomes.
use Rattle.std.specs.Prelude.{ℕ, ◌-ℤ◌, ℤ, pos, ◌+ℤ◌, ◌<ℤ◌, ◌≡◌, IsFalse, IsSomeAnd, IsTrue, MatchOption}
use Rattle.escrow.specs.declared.quantity.Way.{Way}
use Rattle.escrow.specs.declared.quantity.Way.TheVariants.{Take, Add}
use Rattle.ledger.specs.Ledger.{Name, Ledger, Order, field_named, is_open, is_transfer, line_on}
use Rattle.ledger.specs.Outcomes.{Part, part_of, total, settled}

-- the amount of a take, and nothing of an add
abbrev pub if_take : Way → ℕ → ℕ
if_take Take n = n
if_take Add n = 0

-- the amount of an add, and nothing of a take
abbrev pub if_add : Way → ℕ → ℕ
if_add Take n = 0
if_add Add n = n

-- the parts of a stock that are held to take and to add
abbrev pub take_part : Part
take_part w s = pos (if_take w s.held)

abbrev pub add_part : Part
add_part w s = pos (if_add w s.held)

-- all that open orders hold to take on the field, and all that they hold to add
abbrev pub held_to_take : Ledger → Name → ℤ
held_to_take A f = total (part_of take_part f) A.orders

abbrev pub held_to_add : Ledger → Name → ℤ
held_to_add A f = total (part_of add_part f) A.orders

-- Said about the ledger as it is: the settled value less all that is held to take, and less q, is below the field's lower
-- bound; or the settled value with all that is held to add, and q more, is above its upper bound. At a good ledger these
-- sums are the infimum less q, and the supremum and q more.
abbrev pub BreaksBound : Way → Ledger → Name → ℕ → Type 0
BreaksBound Take A name q =
    IsSomeAnd (field_named A name) (λ f. ((settled A f -ℤ held_to_take A f.name) -ℤ pos q) <ℤ pos f.lo)
BreaksBound Add A name q =
    IsSomeAnd (field_named A name) (λ f. pos f.hi <ℤ ((settled A f +ℤ held_to_add A f.name) +ℤ pos q))

-- the order is open and not firm, is no transfer, and its line on the field, if there is one, has the way
-- by which more is asked for
abbrev pub MayHoldMore : Name → Way → Order → Type 0
MayHoldMore f w o =
    IsTrue (is_open o) × IsFalse o.firm × IsFalse (is_transfer o) × MatchOption (line_on o f) (Unit {0})
    (λ m. m.way ≡ w)
