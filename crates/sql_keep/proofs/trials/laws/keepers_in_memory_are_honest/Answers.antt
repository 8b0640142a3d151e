use Rattle.sqlite.proofs.Callers.{memory_is_clean}
use Rattle.sqlite_pool.proofs.StateLemmas.{clean_is}
use Rattle.sqlite_trees.proofs.Doubt.{no_doubt}
use Rattle.sql_keep.proofs.trials.laws.keepers_in_memory_are_honest.Goals as goal

pub returns-clause-sql : goal.returns-clause-sql
returns-clause-sql c k = memory_is_clean k.connection

pub returns-clause-files : goal.returns-clause-files
returns-clause-files c k = no_doubt _ (clean_is k.connection.store.pool)

pub returns-clause-fused : goal.returns-clause-fused
returns-clause-fused c k = no_doubt _ (clean_is k.connection.store.pool)
