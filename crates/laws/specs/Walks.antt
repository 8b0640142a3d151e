-- A log of requests, which several desks carry out in its order, and where in the log a desk goes on that has
-- stopped. Of the requests that it carried out, such a desk keeps only the accepted ones; it does not keep how far in
-- the log it came.
use Rattle.std.specs.Prelude.{ℕ, ◌+◌, ◌≤◌, ◌≡◌, ◌⊎◌, ◌==◌, List, [], ◌∷◌, take, Option, Some, find}
use Rattle.std.specs.List.{AllByRecursion as Each}
use Rattle.escrow.specs.Codes.{IsKey}
use Rattle.words.specs.Spelling.{IsInRange}
use Rattle.words.specs.declared.command.Request.{Request}
use Rattle.ledger.specs.Ledger.{Kept, Ledger, places}

-- requests that a desk can be asked
abbrev pub AreInRange : List Request → Type 0
AreInRange requests = Each (λ r. IsKey r.key × IsInRange r.command) requests

-- what the ledger keeps at a place
abbrev pub kept_at : Ledger → ℕ → Option Kept
kept_at B place = find (λ k. k.place == place) B.kept

-- the ledger keeps the request, at that place
abbrev pub KeepsAt : Ledger → ℕ → Request → Type 0
KeepsAt B place r = kept_at B place ≡ Some (record { key = r.key; place = place; command = r.command })

-- the requests are all that the ledger keeps behind that place, in the order of their places
abbrev pub AreKeptBehind : Ledger → ℕ → List Request → Type 0
AreKeptBehind B place [] = places B ≡ place
AreKeptBehind B place (r ∷ rs) = KeepsAt B (place + 1) r × AreKeptBehind B (place + 1) rs

-- the requests stand in the log in their order, with or without others between them
abbrev pub StandIn : List Request → List Request → Type 0
StandIn [] log = Unit {0}
StandIn (n ∷ ns) [] = ⊥
StandIn (n ∷ ns) (r ∷ log) = ((r ≡ n) × StandIn ns log) ⊎ StandIn (n ∷ ns) log

-- The kept requests stand in the first j of the log, and in no fewer: a desk that keeps them goes on behind those j.
pub record GoesOnBehind (kept log : List Request) (j : ℕ) : Type 0 where
  pub stand : StandIn kept (take j log)
  pub least : (k : ℕ) → StandIn kept (take k log) → j ≤ k
