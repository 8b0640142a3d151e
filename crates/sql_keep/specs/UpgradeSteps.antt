-- What the statements do that make a new desk, or make a desk of an older version one of the newest.
use Rattle.std.specs.Prelude.{◌≡◌, ℕ, [], ◌∷◌}
use Rattle.sqlite.specs.Effect.{Database}
use Rattle.sqlite_trees.specs.Tree.{Trees}
use Rattle.ledger.specs.declared.rows.DeskRow.{DeskRow}
use Rattle.ledger.specs.declared.rows.Change.TheVariants as change
use Rattle.ledger.specs.Rows.{Content}
use Rattle.sql_keep.specs.StoreContent.{HasRowsOf, Holds, IsContent}
use Rattle.sql_keep.specs.Description.{schema_of}
use Rattle.keep.specs.Content.{with_changes}

-- the content with this row of `desk`
abbrev pub with_row : DeskRow → Content → Content
with_row row x = with_changes (change.Desk row ∷ []) x

-- the tables of the newest version hold the rows of that version, with this row of `desk`
abbrev pub IsRaised : ℕ → DeskRow → Database → Database → Type 0
IsRaised version row old new = (x : Content) → HasRowsOf version old.trees x → Holds new (with_row row x)

-- if the schema of that version was there, these trees have the rows of that version, with this row of `desk`
abbrev pub AreRaised : ℕ → DeskRow → Database → Trees → Type 0
AreRaised version row db trees =
    db.schema ≡ schema_of version → (x : Content) → HasRowsOf version db.trees x → IsContent trees (with_row row x)
