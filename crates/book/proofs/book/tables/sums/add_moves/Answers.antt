use Rattle.ledger.proofs.Prelude.{[], ◌*◌, ◌+◌, ◌∙◌, ◌∷◌, ◌≡◌, Each, ap, arith, refl, subst, sym, take, ℕ}
use Rattle.book.proofs.Prelude.{IsField, IsSmall, added, most_of_move, move_of, numbers_on}
use Rattle.book.proofs.SumsOnFields.{added-nothing, added-twice, each-small-up, move-step}
use Rattle.ledger.proofs.Lists.{each-next}
use Rattle.book.proofs.book.tables.sums.add_moves.Goals as goal

pub loop-entry-init : goal.loop-entry-init
loop-entry-init c = record {
  there = tt;
  sums = sym (added-nothing (numbers_on [] []) (λ f. refl) c.args.fields.now c.args.sums.now);
  small = c.requires.sums.room;
}

pub add_move-requires-clause-sums : goal.add_move-requires-clause-sums
add_move-requires-clause-sums c = grind (arith, each-small-up)

pub loop-entry-preserved : goal.loop-entry-preserved
loop-entry-preserved c =
    let i : ℕ = c.loop-entry.entry-index in
    let moves = c.args.moves.now in
    let entry = c.entry-item.result in
    let more : most_of_move * i + most_of_move ≡ most_of_move * (i + 1) = omega arith in
    record {
      there =
          each-next (λ m. IsField c.args.fields.now (move_of m).field) moves i entry c.loop-entry-test.true
          c.entry-item.is c.loop-entry.invariant.there (c.if-not-add_move.ensures.there.0 refl);
      sums = c.add_move.ensures.sums
          ∙ ap (added (numbers_on (entry ∷ []) []) c.args.fields.now) c.loop-entry.invariant.sums
          ∙ added-twice (numbers_on (take i moves) []) (numbers_on (entry ∷ []) []) (numbers_on (take (i + 1) moves) [])
          (move-step moves i entry c.loop-entry-test.true c.entry-item.is) c.args.fields.now c.args.sums.now;
      small =
          subst (λ k. Each (IsSmall k) c.add_move.new.sums) more
          (c.add_move.ensures.small (most_of_move * i) c.loop-entry.invariant.small);
    }

pub returns-clause-small : goal.returns-clause-small
returns-clause-small c t = grind (arith, each-small-up)
