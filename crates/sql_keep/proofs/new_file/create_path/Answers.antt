use Rattle.std.proofs.Common.{◌∙◌, ap, subst}
use Rattle.std.proofs.Math.Logic.{∥∥₁_map}
use Rattle.sqlite.specs.Files.{file_state}
use Rattle.sqlite_trees.specs.Objects.{catalog_tree}
use Rattle.sql_keep.specs.Starts.{HoldsNothing}
use Rattle.sql_keep.proofs.NewFile.{clean_before, of_some, unlisted}
use Rattle.sql_keep.proofs.new_file.create_path.Goals as goal

pub returns-in-Ok-clause-empty : goal.returns-in-Ok-clause-empty
returns-in-Ok-clause-empty g c clean =
    let (opened, live) = c.in-Ok.ensures.opens clean in
    let before = clean_before _ _ c.in-Ok.ensures.clean clean in
    let empty = of_some _ _ _ c.in-Some.is c.in_ok-store.ensures.empty before in
    unlisted c.in-Ok.conn.schema (file_state c.in-Ok.conn).now.trees (live opened.is_open).0
    (ap (λ trees. trees catalog_tree) (c.in-Ok.ensures.trees clean) ∙ empty)

pub returns-in-Ok-clause-nothing : goal.returns-in-Ok-clause-nothing
returns-in-Ok-clause-nothing g c clean =
    let before = clean_before _ _ c.in-Ok.ensures.clean clean in
    let nothing = of_some _ _ _ c.in-Some.is c.in_ok-store.ensures.nothing before in
    ∥∥₁_map nothing (λ held. subst HoldsNothing c.in_ok-files.ensures.read held)
