use Rattle.std.proofs.Common.{refl}
use Rattle.sqlite.specs.Listing.{understood}
use Rattle.sqlite_tied.specs.Compute.{everything}
use Rattle.sql_keep.proofs.description.create_text.Goals as goal

pub returns-in-Desk : goal.returns-in-Desk
unfolding understood everything
returns-in-Desk c = rw c.in-Desk.is (record { command = refl; whole = refl; plain = (refl, refl); defined = refl; next = refl })

pub returns-in-Field : goal.returns-in-Field
unfolding understood everything
returns-in-Field c = rw c.in-Field.is (record { command = refl; whole = refl; plain = (refl, refl); defined = refl; next = refl })

pub returns-in-Move : goal.returns-in-Move
unfolding understood everything
returns-in-Move c = rw c.in-Move.is (record { command = refl; whole = refl; plain = (refl, refl); defined = refl; next = refl })

pub returns-in-Orders : goal.returns-in-Orders
unfolding understood everything
returns-in-Orders c =
    rw c.in-Orders.is (record { command = refl; whole = refl; plain = (refl, refl); defined = refl; next = refl })

pub returns-in-Line : goal.returns-in-Line
unfolding understood everything
returns-in-Line c = rw c.in-Line.is (record { command = refl; whole = refl; plain = (refl, refl); defined = refl; next = refl })

pub returns-in-Kept : goal.returns-in-Kept
unfolding understood everything
returns-in-Kept c = rw c.in-Kept.is (record { command = refl; whole = refl; plain = (refl, refl); defined = refl; next = refl })

pub returns-in-Firm : goal.returns-in-Firm
unfolding understood everything
returns-in-Firm c = rw c.in-Firm.is (record { command = refl; whole = refl; plain = (refl, refl); defined = refl; next = refl })
