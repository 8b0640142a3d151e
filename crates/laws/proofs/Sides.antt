-- What stays of a deal, of the keys, and where one ledger stands for another in turn.
use Rattle.ledger.proofs.Prelude.{Bool, Each, Good, IsSome, IsSomeAnd, List, None, Option, Order, Some, [], ap, arith}
use Rattle.ledger.proofs.Prelude.{inl, inr, is_open, is_settled, is_some, order_numbered, refl, settled_state, sym}
use Rattle.ledger.proofs.Prelude.{true≢false, ◌∙◌, ◌∷◌, ◌≡◌, ◌⊎◌, ℕ, open_state, IsTrue, ◌≤◌}
use Rattle.std.specs.List.{AllZip}
use Rattle.ledger.specs.declared.order.Line.{Line}
use Rattle.laws.specs.Deals.{AllUsed, IsAborted, IsCommitted, Keeps, Side}
use Rattle.laws.specs.Roll.{LineStands, OrderStands, StandsFor}
use Rattle.laws.proofs.Alike.{LeftOut, order_found}
use Rattle.laws.proofs.SameChecks.{Both}
use Rattle.ledger.specs.Rolled.{first_of_deals, gone, is_recent, is_recent_deal, rolled}
use Rattle.laws.proofs.Recent.{recent_found}
use Rattle.laws.proofs.Rolled.{stands_left}

-- ---- deals

all_used : (b : Bool) (ls ms : List Line) → AllZip (LineStands b) ls ms → Each (λ l. l.used ≡ l.held) ls
    → Each (λ m. m.used ≡ m.held) ms
all_used b [] [] s h = tt
all_used b [] (m ∷ ms) s h = absurd s
all_used b (l ∷ ls) [] s h = absurd s
all_used b (l ∷ ls) (m ∷ ms) s h = ((let e = s.0.rest in let u = h.0 in omega arith), all_used b ls ms s.1 h.1)

pub settled_as : (o p : Order) → OrderStands o p → is_settled p ≡ is_settled o
settled_as o p s = λ i. settled_state (s.state i) (s.firm i)

pub open_as : (o p : Order) → OrderStands o p → is_open p ≡ is_open o
open_as o p s = ap open_state s.state

some_then : (P Q : Order → Type 0) → ((o p : Order) → OrderStands o p → P o → Q p) → (x y : Option Order)
    → Both OrderStands x y → IsSomeAnd x P → IsSomeAnd y Q
some_then P Q to None y b h = absurd h
some_then P Q to (Some o) None b h = absurd b
some_then P Q to (Some o) (Some p) b h = to o p b h

there_then : (x y : Option Order) → Both OrderStands x y → IsSome x → IsSome y
there_then None y b some = absurd (true≢false (sym some))
there_then (Some o) None b some = absurd b
there_then (Some o) (Some p) b some = refl

-- what holds of an order that the other knows holds there
pub sides_keep : (d : ℕ) (n : ℕ) (s t : Side) → Good s.ledger → StandsFor d s.ledger t.ledger
    → (IsSome (order_numbered s.ledger n) → IsSome (order_numbered t.ledger n)) → Keeps n s t
sides_keep d n s t good stand there =
    let both = known (order_numbered s.ledger n) (order_numbered t.ledger n) there
    (order_found n s.ledger.orders t.ledger.orders stand.orders good.orders_in_order) in
    record {
      there = there;
      used = some_then AllUsed AllUsed (λ o p x h. all_used (is_settled o) o.lines p.lines x.lines h) _ _ both;
      committed = some_then IsCommitted IsCommitted (λ o p x h. (open_as o p x ∙ h.0, settled_as o p x ∙ h.1)) _ _ both;
      aborted = some_then IsAborted IsAborted (λ o p x h. (open_as o p x ∙ h.0, settled_as o p x ∙ h.1)) _ _ both;
    }
  where
    known : (x y : Option Order) → (IsSome x → IsSome y) → Both OrderStands x y ⊎ LeftOut x y → Both OrderStands x y
    known x y there (inl h) = h
    known None y there (inr h) = absurd h.0
    known (Some o) y there (inr h) = absurd (true≢false (sym (there refl) ∙ ap is_some h.1))

-- of a ledger rolled up, where one of the last K commands names the order
pub rolled_side_keeps : (K n : ℕ) (s : Side) → Good s.ledger → first_of_deals ≤ n → IsTrue (is_recent K s.ledger n)
    → Keeps n s (record s { ledger = rolled K s.ledger })
rolled_side_keeps K n s good deal named =
    sides_keep (gone K s.ledger) n s (record s { ledger = rolled K s.ledger }) good
    (stands_left (is_recent_deal K s.ledger) K s.ledger good) (recent_found K s.ledger good n deal named)
