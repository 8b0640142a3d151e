-- What the files of a store hold when the store is opened.
use Rattle.std.specs.Prelude.{◌⊎◌, ℕ}
use Rattle.sqlite_trees.specs.Tree.{Trees}
use Rattle.sqlite_wal.specs.Recovery.{Image}
use Rattle.sqlite.specs.Files.{HoldsDatabase}
use Rattle.sqlite_pages.specs.PageMap.{PageMap}
use Rattle.sqlite_pool.specs.Opening.{IsBlankFile}
use Rattle.sqlite_pool.specs.Stored.{Recovers}
use Rattle.sqlite_store.specs.Opening.{IsEmptyFile}
use Rattle.ledger.specs.Rows.{Content}
use Rattle.sql_keep.specs.StoreContent.{IsContentOf}
use Rattle.keep.specs.Content.{newest}
use Rattle.sql_keep.specs.Description.{IsOlder}
use Rattle.sql_keep.specs.declared.files.TheConstants.{PAGE_BYTES}

-- the bytes of the two files hold a database of that version with this content
abbrev pub StartsOf : ℕ → Image → Content → Type 0
StartsOf version image x = (trees : Trees) × HoldsDatabase image trees × IsContentOf version trees x

-- the same, of the version that is written here
abbrev pub StartsWith : Image → Content → Type 0
StartsWith = StartsOf newest

-- the same, of an older version
abbrev pub StartsOld : Image → Content → Type 0
StartsOld image x = (version : ℕ) × IsOlder version × StartsOf version image x

-- the file has no bytes or a first page that is half made, or the two files hold a database with pages of that many bytes
-- and without tables
abbrev pub IsBegun : ℕ → Image → Type 0
IsBegun bytes image =
    IsBlankFile bytes image ⊎ ((pages : PageMap) × Recovers bytes image pages × IsEmptyFile bytes pages)

-- the bytes of the two files hold nothing but what the making of a desk's file begins with
abbrev pub HoldsNothing : Image → Type 0
HoldsNothing = IsBegun PAGE_BYTES
