use Rattle.std.proofs.Common.{◌≡◌, ◌∙◌, [], ◌∷◌, ◌++◌, ◌+◌, take, refl, sym, ap, subst, arith}
use Rattle.sqlite.specs.Held.{state}
use Rattle.sqlite.proofs.StateLemmas.{survives_then}
use Rattle.std.proofs.lemmas.List.{take_more, take_all}
use Rattle.sql_keep.specs.Transactions.{PutsIn}
use Rattle.sql_keep.proofs.Puts.{puts_none, puts_then}
use Rattle.sql_keep.proofs.Steps.{survives_itself}
use Rattle.sql_keep.proofs.commit.put_all.Goals as goal

pub loop-change-init : goal.loop-change-init
loop-change-init g c = record {
  same = refl;
  survives = survives_itself (state g.S.Store c.args.tx.now.conn.now) _;
  puts = λ clean begun. puts_none _ begun;
}

pub loop-change-preserved : goal.loop-change-preserved
loop-change-preserved g c =
    let old = state g.S.Store c.args.tx.now.conn.now in
    let mid = state g.S.Store c.loop-change.tx.conn.now in
    let new = state g.S.Store c.put.new.tx.conn.now in
    let rows = c.args.changes.now in
    let more : take (c.loop-change.change-index + 1) rows ≡ take c.loop-change.change-index rows ++ c.change-item.result ∷ [] =
    take_more rows c.loop-change.change-index c.change-item.result c.loop-change-test.true
    ∙ ap (λ r. take c.loop-change.change-index rows ++ r ∷ []) (sym c.change-item.is) in
    record {
      same = c.put.ensures.same_reference ∙ c.loop-change.invariant.same;
      survives =
          survives_then old mid new _ _ _ (λ _ db none. none) (λ _ db none. none) c.loop-change.invariant.survives
          c.put.ensures.survives;
      puts = λ clean begun.
          let first = c.loop-change.invariant.puts (omega (arith, c.put.ensures.survives.clean)) begun in
          subst (λ l. PutsIn old new l) (sym more)
          (puts_then old mid new (take c.loop-change.change-index rows) c.change-item.result first
          (c.in_ok-put.ensures.put clean first.mode));
    }

pub returns-in_err-put-clause-survives : goal.returns-in_err-put-clause-survives
returns-in_err-put-clause-survives g c =
    survives_then (state g.S.Store c.args.tx.now.conn.now) (state g.S.Store c.loop-change.tx.conn.now)
    (state g.S.Store c.put.new.tx.conn.now) _ _ _ (λ _ db none. none) (λ _ db none. none)
    c.loop-change.invariant.survives c.put.ensures.survives

pub returns-clause-put : goal.returns-clause-put
returns-clause-put g c clean begun =
    subst (λ rows. PutsIn (state g.S.Store c.args.tx.now.conn.now) (state g.S.Store c.loop-change.tx.conn.now) rows)
    (take_all c.loop-change.change-index c.args.changes.now c.loop-change-test.false)
    (c.loop-change.invariant.puts clean begun)
