-- What the entries are once a `&mut` to a value has ended.
use Rattle.std.specs.Prelude.{ℕ, Bool, Option}
use Rattle.std.specs.Borrow.{Fml, RattleType, MutBor, Lends, LendsIf}
use Rattle.std.specs.BTreeMap.Lent.{OrdMembers}
use Rattle.std.specs.Map.{set_value}
use Rattle.index.specs.InOrder.{Entries, set_value_at}
use Rattle.index.specs.contracts.in_order.InOrder.{the_row}

module _ (K V : RattleType) (key : OrdMembers K.Denot) where
  -- the type of the entries, as the logic holds it
  abbrev pub entries_row : RattleType
  entries_row =
      the_row K V (record { cmp = key.cmp }) (record { eq = key.eq }) (record { partial_cmp = key.partial_cmp })

  module _ (m : MutBor (Entries K.Denot V.Denot)) where
    -- the entry at the place has the last value that is written through r
    abbrev pub LendsAt : ℕ → MutBor V.Denot → Fml
    LendsAt place r = Lends entries_row V m r (λ v. record m.now { entries = set_value_at m.now.entries place v })

    -- the entry whose key passes the test has the last value that is written through r; where r is `None`, all
    -- entries stay as they were
    abbrev pub LendsUnder : (K.Denot → Bool) → Option (MutBor V.Denot) → Fml
    LendsUnder test r = LendsIf entries_row V m r (λ v. record m.now { entries = set_value test m.now.entries v }) m.now
