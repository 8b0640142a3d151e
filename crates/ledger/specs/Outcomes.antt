-- What a field's stock can come to: its settled value, and its results over all outcomes of the open orders (O'Neil,
-- The Escrow Transactional Method). Sums are whole numbers with a sign and without limit.
use Rattle.std.specs.Prelude.{ℕ, ◌≤◌, ℤ, pos, ◌+ℤ◌, neg_ℤ, ◌≤ℤ◌, ◌<ℤ◌, ◌≡◌, Bool, ◌&&◌, ◌||◌, List, [], ◌∷◌}
use Rattle.std.specs.Prelude.{if◌then◌else◌, IsTrue, IsSomeAnd}
use Rattle.std.specs.Str.{bytes_eq}
use Rattle.std.specs.List.{AllByRecursion as Each}
use Rattle.escrow.specs.Choices.{IsWithin}
use Rattle.escrow.specs.declared.quantity.Way.{Way}
use Rattle.escrow.specs.declared.quantity.Way.TheVariants.{Take, Add}
use Rattle.ledger.specs.declared.order.Line.{Line}
use Rattle.ledger.specs.declared.order.Share.{Share}
use Rattle.ledger.specs.declared.order.State.{State}
use Rattle.ledger.specs.Ledger.{Name, Field, Order, Ledger, same_name, on, is_open, open_state, settled_state}
use Rattle.ledger.specs.Ledger.{unsettled, field_named}

-- the sum of f over the elements
abbrev pub total : {X : Type 0} → (X → ℤ) → List X → ℤ
total f [] = pos 0
total f (x ∷ xs) = f x +ℤ total f xs

-- an add counts up, and a take down
abbrev pub signed : Way → ℕ → ℤ
signed Add n = pos n
signed Take n = neg_ℤ (pos n)

-- ---- what a line counts for

-- What a line counts for in the stock of its field, where its order has the state, and is firm or not: what it has used,
-- if that is settled, and what it holds that is not settled yet, if the order is open.
abbrev pub share_of : State → Bool → Line → Share
share_of s firm l = record {
  settled = if settled_state s firm then l.used else 0;
  held = if open_state s then unsettled firm l l.held else 0;
}

-- a part of a field's stock: what a line adds to it, by its way and by what it counts for
abbrev pub Part : Type 0
Part = Way → Share → ℤ

-- the part that is settled
abbrev pub settled_part : Part
settled_part w s = signed w s.settled

-- what the order's lines on the field add to a part of its stock
abbrev pub part_of : Part → Name → Order → ℤ
part_of part f o = total (λ l. if on f l then part l.way (share_of o.state o.firm l) else pos 0) o.lines

-- The settled value: the start, all deliveries and write-offs, and what committed and open firm orders have used.
abbrev pub settled : Ledger → Field → ℤ
settled A f = pos f.start
    +ℤ total (λ m. if same_name f.name m.field then m.amount else pos 0) A.moves
    +ℤ total (part_of settled_part f.name) A.orders

-- ---- what a field's stock can come to

-- An outcome says which of the open orders commit, and the amount of each of their lines. The open orders that do not
-- commit abort. A firm order commits in every outcome.
pub record Outcome : Type 0 where
  pub commits : Order → Bool
  pub amount : Order → Line → ℕ

-- the order is open, and commits in the outcome
abbrev pub commits_in : Outcome → Order → Bool
commits_in X o = is_open o && (o.firm || X.commits o)

-- Each line of each open order that commits has an amount from what is used now to what is held now. Each line has its own
-- amount, also the two lines of a transfer, which really end with the same. What one field comes to is the same as if
-- they did: at a good ledger the two lines are on two fields, and hold and have used the same. An outcome is a function of
-- orders and lines as values, so equal ones would share one amount; at a good ledger no two orders are equal, and no two
-- lines of one order.
abbrev pub IsOutcome : Ledger → Outcome → Type 0
IsOutcome A X =
    Each (λ o. IsTrue (commits_in X o) → Each (λ l. (l.used ≤ X.amount o l) × (X.amount o l ≤ l.held)) o.lines) A.orders

-- what the order's lines move on the field, where each moves this amount
abbrev pub moved_by : Name → (Line → ℕ) → Order → ℤ
moved_by f amount o = total (λ l. if on f l then signed l.way (amount l) else pos 0) o.lines

-- the result of an outcome for a field: the settled value, and what the open orders that commit move beyond what is
-- settled
abbrev pub outcome_result : Ledger → Outcome → Field → ℤ
outcome_result A X f =
    settled A f +ℤ total (λ o. if commits_in X o then moved_by f.name (λ l. unsettled o.firm l (X.amount o l)) o
    else pos 0) A.orders

-- Whatever the outcome, every field is within its bounds.
abbrev pub IsSafe : Ledger → Type 0
IsSafe A = (X : Outcome) → IsOutcome A X → Each (λ f. IsWithin f.lo f.hi (outcome_result A X f)) A.fields

-- the infimum: the result of some outcome, and no outcome's result is below it
pub record IsInfimum (A : Ledger) (f : Field) (z : ℤ) : Type 0 where
  pub reached : (X : Outcome) × IsOutcome A X × (outcome_result A X f ≡ z)
  pub least : (X : Outcome) → IsOutcome A X → z ≤ℤ outcome_result A X f

-- the supremum: the result of some outcome, and no outcome's result is above it
pub record IsSupremum (A : Ledger) (f : Field) (z : ℤ) : Type 0 where
  pub reached : (X : Outcome) × IsOutcome A X × (outcome_result A X f ≡ z)
  pub greatest : (X : Outcome) → IsOutcome A X → outcome_result A X f ≤ℤ z

-- some outcome is below the field's lower bound
abbrev pub FallsBelow : Ledger → Name → Type 0
FallsBelow A name =
    IsSomeAnd (field_named A name) (λ f. (X : Outcome) × IsOutcome A X × (outcome_result A X f <ℤ pos f.lo))

-- some outcome is above the field's upper bound
abbrev pub RisesAbove : Ledger → Name → Type 0
RisesAbove A name =
    IsSomeAnd (field_named A name) (λ f. (X : Outcome) × IsOutcome A X × (pos f.hi <ℤ outcome_result A X f))

-- the settled values of the article's fields at all branches, added up
abbrev pub article_total : Ledger → List ℕ → ℤ
article_total A article = total (λ f. if bytes_eq f.name.article article then settled A f else pos 0) A.fields
