use Rattle.std.proofs.Common.{◌∙◌, sym}
use Rattle.sqlite_pool.proofs.StateLemmas.{clean_is}
use Rattle.sqlite_trees.proofs.Doubt.{clean_of, no_doubt}
use Rattle.sql_keep.proofs.trials.laws.a_fuse_tells_no_lie.Goals as goal

pub returns : goal.returns
returns g c k = (
  λ honest. sym (clean_is k.connection.store.pool) ∙ clean_of _ honest,
  λ clean. no_doubt _ (clean_is k.connection.store.pool ∙ clean),
)
