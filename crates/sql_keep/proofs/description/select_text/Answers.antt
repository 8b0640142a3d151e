use Rattle.std.proofs.Common.{◌≤◌, ℕ, zero, suc, arith, refl}
use Rattle.sqlite.specs.Listing.{understood}
use Rattle.sqlite_tied.specs.Compute.{everything}
use Rattle.keep.specs.Content.{newest}
use Rattle.sql_keep.proofs.description.select_text.Goals as goal

-- it is so over the schema of each version
each_version : (P : ℕ → Type 0) → P 1 → P 2 → (version : ℕ) → 1 ≤ version → version ≤ newest → P version
each_version P one two zero early late = absurd (omega arith)
each_version P one two (suc zero) early late = one
each_version P one two (suc (suc zero)) early late = two
each_version P one two (suc (suc (suc version))) early late = absurd (omega arith)

pub returns-in-Desk-clause-desk : goal.returns-in-Desk-clause-desk
unfolding understood everything
returns-in-Desk-clause-desk c is =
    each_version _ (record { command = refl; aside = refl; plain = (refl, refl) })
    (record { command = refl; aside = refl; plain = (refl, refl) })

pub returns-in-Desk-clause-newest : goal.returns-in-Desk-clause-newest
unfolding understood everything
returns-in-Desk-clause-newest c = rw c.in-Desk.is (record { command = refl; aside = refl; plain = (refl, refl) })

pub returns-in-Field-clause-newest : goal.returns-in-Field-clause-newest
unfolding understood everything
returns-in-Field-clause-newest c = rw c.in-Field.is (record { command = refl; aside = refl; plain = (refl, refl) })

pub returns-in-Move-clause-newest : goal.returns-in-Move-clause-newest
unfolding understood everything
returns-in-Move-clause-newest c = rw c.in-Move.is (record { command = refl; aside = refl; plain = (refl, refl) })

pub returns-in-Orders-clause-newest : goal.returns-in-Orders-clause-newest
unfolding understood everything
returns-in-Orders-clause-newest c = rw c.in-Orders.is (record { command = refl; aside = refl; plain = (refl, refl) })

pub returns-in-Line-clause-newest : goal.returns-in-Line-clause-newest
unfolding understood everything
returns-in-Line-clause-newest c = rw c.in-Line.is (record { command = refl; aside = refl; plain = (refl, refl) })

pub returns-in-Kept-clause-newest : goal.returns-in-Kept-clause-newest
unfolding understood everything
returns-in-Kept-clause-newest c = rw c.in-Kept.is (record { command = refl; aside = refl; plain = (refl, refl) })

pub returns-in-Firm-clause-newest : goal.returns-in-Firm-clause-newest
unfolding understood everything
returns-in-Firm-clause-newest c = rw c.in-Firm.is (record { command = refl; aside = refl; plain = (refl, refl) })
