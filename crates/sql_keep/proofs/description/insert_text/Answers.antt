use Rattle.std.proofs.Common.{refl}
use Rattle.sqlite.specs.Listing.{understood}
use Rattle.sqlite_tied.specs.Compute.{everything}
use Rattle.sql_keep.proofs.description.insert_text.Goals as goal

pub returns-in-Move : goal.returns-in-Move
unfolding understood everything
returns-in-Move c = rw c.in-Move.is (record { command = refl; plain = (refl, refl) })

pub returns-in-Kept : goal.returns-in-Kept
unfolding understood everything
returns-in-Kept c = rw c.in-Kept.is (record { command = refl; plain = (refl, refl) })
