-- Which orders are open, by their numbers (private: how a book finds them).
use Rattle.std.specs.Prelude.{◌≡◌, ◌<◌, ◌≤◌, ◌-◌, ℕ, Bool, ◌&&◌, List, [], ◌∷◌, get_or, if◌then◌else◌, length, min, nat_le}
use Rattle.std.specs.List.{filter}
use Rattle.std.specs.Map.{keys_of}
use Rattle.std.specs.Ordering.{match_ordering, nat_cmp}
use Rattle.ledger.specs.Ledger.{open_state}
use Rattle.book.specs.declared.order.OrderEntry.{OrderEntry}

-- the numbers of the orders that are open
abbrev pub open_numbers : List (ℕ × OrderEntry) → List ℕ
open_numbers entries = keys_of (filter (λ e. open_state e.1.state) entries)

-- the order is open, and its number is at least that
abbrev pub is_open_from : ℕ → ℕ × OrderEntry → Bool
is_open_from n e = open_state e.1.state && nat_le n e.0

-- For how many orders more there is room, where the list of all has room for `room` more, and the list of open ones
-- has room for `capacity` in all.
abbrev pub room_for : (room capacity count : ℕ) → ℕ
room_for room capacity count = min room (capacity - count)

-- these numbers in order, with that number among them or not
abbrev pub marked : Bool → ℕ → List ℕ → List ℕ
marked is_in n [] = if is_in then n ∷ [] else []
marked is_in n (m ∷ ms) = match_ordering (nat_cmp n m) (if is_in then n ∷ m ∷ ms else m ∷ ms)
    (if is_in then m ∷ ms else ms) (m ∷ marked is_in n ms)

-- the number stands at that place
abbrev pub IsPlaceOf : ℕ → List ℕ → ℕ → Type 0
IsPlaceOf n ms place = (place < length ms) × (get_or ms place 0 ≡ n)

-- the number stands nowhere, and would go to that place
abbrev pub IsPlaceFor : ℕ → List ℕ → ℕ → Type 0
IsPlaceFor n ms place = (place ≤ length ms) × ((k : ℕ) → k < place → get_or ms k 0 < n)
    × ((k : ℕ) → place ≤ k → k < length ms → n < get_or ms k 0)

-- all numbers before that place are below that one, and the number there is not
abbrev pub IsFirstFrom : ℕ → List ℕ → ℕ → Type 0
IsFirstFrom n ms place = (place ≤ length ms) × ((k : ℕ) → k < place → get_or ms k 0 < n)
    × (place < length ms → n ≤ get_or ms place 0)
