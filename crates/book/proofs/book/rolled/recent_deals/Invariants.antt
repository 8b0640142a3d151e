-- those that the keys so far name are there
use Rattle.ledger.proofs.Prelude.{◌≡◌, ◌==◌, ℕ, list_any, map, take}
use Rattle.book.specs.Model.{kept_of}
use Rattle.book.specs.inner.Rolling.{deals_named, keys_behind}
use Rattle.book.proofs.book.rolled.recent_deals.Given as goal

abbrev pub invariant-loop-place : goal.invariant-loop-place
invariant-loop-place l = (n : ℕ) → list_any (λ m. m == n) l.deals.items
    ≡ list_any (λ m. m == n) (deals_named (keys_behind l.gone (map kept_of (take l.place l.kept.entries))))
