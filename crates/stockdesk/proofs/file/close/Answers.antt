use Rattle.std.proofs.Common.{◌∙◌, IsTrue, ap, not, subst, sym, ℕ}
use Rattle.std.proofs.Math.Logic.{∥∥₁_map}
use Rattle.std.proofs.lemmas.Result.{IfErr-weaker, IfOk-weaker}
use Rattle.sqlite.specs.Closing.{HoldsAlone}
use Rattle.sqlite.specs.Effect.{Database}
use Rattle.sqlite.specs.Files.{file_state}
use Rattle.sqlite_trees.specs.Tree.{Trees}
use Rattle.sqlite_wal.specs.Recovery.{Image}
use Rattle.ledger.specs.Rows.{Content}
use Rattle.sql_keep.specs.StoreContent.{HoldsOf, IsContentOf}
use Rattle.stockdesk.specs.Closing.{StartsAlone}
use Rattle.stockdesk.proofs.file.close.Goals as goal

-- files that hold these trees alone hold their content alone
alone : (image : Image) (db : Trees) (version : ℕ) (x : Content) → HoldsAlone image db → IsContentOf version db x
    → StartsAlone version image x
alone image db version x holds content =
    (∥∥₁_map holds.both (λ held. (db, held, content)), ∥∥₁_map holds.alone (λ held. (db, held, content)))

pub returns-clause-copied : goal.returns-clause-copied
returns-clause-copied g c =
    IfOk-weaker c.close_connection.result _ _
    (λ files copied clean version x held.
    let it = copied clean in
    let idle : IsTrue c.is_autocommit-settled.result =
    c.is_autocommit-settled.ensures.value ∙ ap not c.into_connection-conn.ensures.idle in
    let settled = c.is_autocommit-settled.ensures.settled idle it.was_open in
    let there = subst (λ h. HoldsOf version (file_state h).now x) (sym c.into_connection-conn.ensures.connection) held in
    let content : IsContentOf version (file_state c.into_connection-conn.result).committed.trees x =
    subst (λ (d : Database). IsContentOf version d.trees x) settled there.content in
    record {
      read = alone _ _ version x it.seen content;
      left = λ image may. alone image _ version x (it.left image may) content;
    })
    c.close_connection.ensures.copied

pub returns-clause-kept : goal.returns-clause-kept
returns-clause-kept g c =
    IfErr-weaker c.close_connection.result _ _
    (λ store closed clean trees left. subst (λ h. (file_state h).may_leave trees)
    c.into_connection-conn.ensures.connection (closed.quiet.outcomes trees left))
    c.close_connection.ensures.kept
