-- What the closing of a file leaves.
use Rattle.std.specs.Prelude.{[], ℕ}
use Rattle.sqlite_disk.specs.declared.Disk.{Ghosts}
use Rattle.sqlite_disk.specs.declared.Files.{Files}
use Rattle.sqlite_wal.specs.Recovery.{Image}
use Rattle.sqlite_wal.specs.Files.{outcomes}
use Rattle.sqlite.specs.Files.{image_of}
use Rattle.ledger.specs.Rows.{Content}
use Rattle.sql_keep.specs.Starts.{StartsOf}

-- the bytes hold this content in that version, with the log and without it
abbrev pub StartsAlone : ℕ → Image → Content → Type 0
StartsAlone version image x =
    ∥ StartsOf version image x ∥₁ × ∥ StartsOf version (record image { log = [] }) x ∥₁

-- The file alone holds the content, and a stop leaves nothing else of it.
pub record LeavesInFile {D : Type 0} (g : Ghosts D) (files : Files D) (version : ℕ) (x : Content) : Type 0 where
  pub read : StartsAlone version (image_of g files) x
  pub left : (image : Image) → outcomes g files.log files.db image → StartsAlone version image x
