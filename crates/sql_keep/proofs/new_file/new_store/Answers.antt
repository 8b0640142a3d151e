use Rattle.std.proofs.Common.{◌≡◌, ◌∙◌, ap, subst}
use Rattle.std.proofs.Math.Logic.{∥∥₁_map}
use Rattle.sqlite.specs.Files.{image_of}
use Rattle.sqlite_store.specs.Listing.{listed_from}
use Rattle.sqlite_store.specs.Listed.{catalog_rows}
use Rattle.sqlite_store.specs.Unopened.{image, state_of}
use Rattle.sqlite_wal.specs.Files.{seen_image}
use Rattle.sql_keep.specs.Starts.{HoldsNothing, IsBegun}
use Rattle.sql_keep.specs.declared.files.TheConstants.{PAGE_BYTES}
use Rattle.sql_keep.proofs.NewFile.{of_some}
use Rattle.sql_keep.proofs.new_file.new_store.Goals as goal

pub returns-in-Ok-create-clause-empty : goal.returns-in-Ok-create-clause-empty
returns-in-Ok-create-clause-empty g c clean =
    let schema = c.in-Ok-create.ensures.schema ∙ c.in-Ok-new.ensures.schema in
    rw clean (catalog_rows _ _ _ ∙ ap (listed_from 0) schema)

pub returns-in-Ok-create-clause-nothing : goal.returns-in-Ok-create-clause-nothing
returns-in-Ok-create-clause-nothing g c clean =
    let size : (state_of c.in-Ok-new.unopened).page_size ≡ PAGE_BYTES =
    c.in-Ok-new.ensures.size ∙ c.in-Ok.ensures.size ∙ of_some _ _ _ c.unwrap-size.ensures c.new.ensures.value in
    let read : image c.in-Ok-new.unopened ≡ image_of g.D.Disk c.args.files =
    ap (λ pair. seen_image g.D.Disk pair.0 pair.1) (c.in-Ok-new.ensures.files ∙ c.in-Ok.ensures.files) in
    ∥∥₁_map (c.in-Ok-create.ensures.started clean) (λ begun.
    let held : HoldsNothing (image_of g.D.Disk c.args.files) =
    subst (λ bytes. IsBegun bytes (image_of g.D.Disk c.args.files)) size
    (subst (λ i. IsBegun (state_of c.in-Ok-new.unopened).page_size i) read begun) in held)
