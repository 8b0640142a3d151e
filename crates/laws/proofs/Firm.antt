-- An order that is firm stays firm, and is not aborted.
use Rattle.ledger.proofs.Prelude.{FirstFailure, Good, IsSomeAnd, IsTrue, Ledger, List, None, Order, Reply, Request}
use Rattle.ledger.proofs.Prelude.{Runs, accept, checks, effect, numbered, order_numbered, sym, true≢false, ℕ, ◌∙◌}
use Rattle.ledger.specs.Future.{StaysFirm}
use Rattle.ledger.proofs.Lists.{NumbersInOrder, found_both}
use Rattle.ledger.proofs.Passing.{along_any, answered}
use Rattle.ledger.proofs.Steps.{Goes, effect_goes, kept_under_number, numbers_after}

-- what stays along a run
pub record Stays (n : ℕ) (A : Ledger) : Type 0 where
  pub numbers : NumbersInOrder A
  pub firm : IsSomeAnd (order_numbered A n) StaysFirm

stays_firm : (b a : Order) → Goes b a → StaysFirm b → StaysFirm a
stays_firm b a goes k = (goes.firm k.0, λ e. true≢false (sym (goes.firm k.0) ∙ goes.loose e))

accepted : (A : Ledger) (r : Request) (n : ℕ) → Stays n A → FirstFailure (checks A r.command) None → Stays n (accept A r)
accepted A r n now passed = let goes = effect_goes A r.command now.numbers passed in record {
  numbers = numbers_after (effect r.command) A.orders goes now.numbers;
  firm = kept_under_number StaysFirm n (effect r.command) A.orders goes stays_firm now.firm;
}

-- a firm order of a good ledger was not aborted
pub stays_now : (A : Ledger) (n : ℕ) → Good A → IsSomeAnd (order_numbered A n) (λ o. IsTrue o.firm) → Stays n A
stays_now A n good there = record {
  numbers = good.orders_in_order;
  firm = found_both (numbered n) A.orders (λ o g firm. (firm, g.firm firm)) good.orders there;
}

pub run_keeps : (A : Ledger) (rs : List Request) (replies : List Reply) (B : Ledger) (n : ℕ) → Runs A rs replies B
    → Stays n A → IsSomeAnd (order_numbered B n) StaysFirm
run_keeps A rs replies B n run now =
    (along_any (Stays n) (λ A r p M h now. answered A r p M (Stays n) h now (accepted A r n now)) A rs replies B run now).firm
