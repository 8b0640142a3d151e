use Rattle.std.proofs.Common.{◌↔◌, IsTrue, of_calls, rules, subst}
use Rattle.std.proofs.lemmas.Iterator.{YieldsList-from_slice, cases_from_all}
use Rattle.std.specs.List.{AllByRecursion as Each}
use Rattle.ledger.proofs.Lists.{tested}
use Rattle.sql_keep.specs.Description.{declared}
use Rattle.sql_keep.specs.Names.{HasTableNamed}
use Rattle.keep.specs.declared.table_row.TableName.{TableName}
use Rattle.sql_keep.proofs.Versions.{each_early, of_early}
use Rattle.sql_keep.proofs.schema.has_names.Goals as goal

pub returns : goal.returns
returns c =
    let named : TableName → Type 0 = λ t. HasTableNamed c.args.found.now (declared t).name in
    let each = tested named c.all.result c.tables_of.result.now (cases_from_all _ _ _ named (λ t. named t → ⊥)
    c.all.ensures.ran (YieldsList-from_slice c.tables_of.result.now cc) (λ x q k. search (rules, of_calls))
    (λ x q k. search (rules, of_calls))) in
    let all = subst (λ tables. IsTrue c.all.result ↔ Each named tables) c.tables_of.ensures each in
    (λ yes. of_early 1 named (all.0 yes), λ names. all.1 (each_early 1 named names))
