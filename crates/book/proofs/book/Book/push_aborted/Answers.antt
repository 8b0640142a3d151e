use Rattle.ledger.specs.declared.order.State.TheVariants.{Aborted}
use Rattle.book.proofs.Prelude.{Adds, MayMake, steps_under}
use Rattle.ledger.proofs.Prelude.{Ledger, List, Step, ap, drop, flat_map, get_or, length, subst, sym, ℕ, ◌++◌, ◌+◌, ◌<◌}
use Rattle.ledger.proofs.Prelude.{◌∙◌, ◌∷◌, ◌≡◌, arith}
use Rattle.book.specs.declared.book.made.OrderChange.TheVariants.{End}
use Rattle.book.proofs.OneWay.{adds-nothing, adds-then, makes-first, makes-then}
use Rattle.std.proofs.lemmas.List.{drop_all, drop_more}
use Rattle.book.proofs.book.Book.push_aborted.Goals as goal

-- what is left begins with the steps of that order
next : (A : Ledger) (ns : List ℕ) (i n : ℕ) → i < length ns → n ≡ get_or ns i n
    → flat_map (steps_under A (End Aborted)) (drop i ns)
    ≡ steps_under A (End Aborted) n ++ flat_map (steps_under A (End Aborted)) (drop (i + 1) ns)
next A ns i n within is =
    ap (flat_map (steps_under A (End Aborted))) (drop_more ns i n within ∙ ap (λ m. m ∷ drop (i + 1) ns) (sym is))

pub push_abort-requires : goal.push_abort-requires
push_abort-requires c = let A = c.args.self.now.ledger in let i = c.loop-number.number-index in let ns = c.args.numbers.now in
    makes-first A _ (flat_map (steps_under A (End Aborted)) (drop (i + 1) ns)) c.loop-number.made
    (subst (λ (ss : List Step). MayMake A ss c.loop-number.made)
    (next A ns i c.number-item.result c.loop-number-test.true c.number-item.is) c.loop-number.invariant.may)

pub loop-number-preserved : goal.loop-number-preserved
loop-number-preserved c =
    let A = c.args.self.now.ledger in let i = c.loop-number.number-index in let ns = c.args.numbers.now in
    let own : List Step = steps_under A (End Aborted) c.number-item.result in
    let rest : List Step = flat_map (steps_under A (End Aborted)) (drop (i + 1) ns) in
    let is = next A ns i c.number-item.result c.loop-number-test.true c.number-item.is in
    let a = c.loop-number.made in let b = c.push_abort.new.made in let added = c.in_ok-push_abort.ensures in record {
      may = makes-then A own rest a b (subst (λ (ss : List Step). MayMake A ss a) is c.loop-number.invariant.may) added;
      more = λ new h. c.loop-number.invariant.more new
          (subst (λ (ss : List Step). Adds A ss a new) (sym is) (adds-then A own rest a b new added h));
    }

pub returns : goal.returns
returns c =
    let A = c.args.self.now.ledger in let a = c.loop-number.made in
    let past = drop_all c.loop-number.number-index c.args.numbers.now (omega arith) in
    c.loop-number.invariant.more a
    (subst (λ (ns : List ℕ). Adds A (flat_map (steps_under A (End Aborted)) ns) a a) (sym past) (adds-nothing A a))
