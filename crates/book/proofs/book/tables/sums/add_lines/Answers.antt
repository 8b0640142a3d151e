use Rattle.ledger.proofs.Prelude.{[], ◌*◌, ◌+◌, ◌∙◌, ◌∷◌, ◌≡◌, ◌≤◌, Each, ap, arith, line_name, refl, subst, sym, take, ℕ}
use Rattle.book.proofs.Prelude.{IsField, IsSmall, added, lines_numbers, most_of_all, most_of_line, most_of_lines}
use Rattle.book.proofs.SumsOnFields.{added-nothing, added-twice, each-small-up, line-step}
use Rattle.ledger.proofs.Lists.{each-next}
use Rattle.book.proofs.book.tables.sums.add_lines.Goals as goal

pub loop-line-init : goal.loop-line-init
loop-line-init c = record {
  there = tt;
  sums =
      sym (added-nothing (lines_numbers c.args.state c.args.firm []) (grind arith) c.args.fields.now c.args.sums.now);
  small = λ k small. let more : k ≤ k + 0 = omega arith in each-small-up k (k + 0) c.args.sums.now more small;
}

pub add_line-requires : goal.add_line-requires
add_line-requires c =
    let i : ℕ = c.loop-line.line-index in
    let up : most_of_all + most_of_line * i ≤ most_of_all + most_of_all = omega arith in
    record {
      sorted = c.requires.sums.sorted;
      long = grind arith;
      room =
          each-small-up (most_of_all + most_of_line * i) (most_of_all + most_of_all) c.loop-line.sums up
          (c.loop-line.invariant.small most_of_all c.requires.sums.room);
    }

pub loop-line-preserved : goal.loop-line-preserved
loop-line-preserved c =
    let i : ℕ = c.loop-line.line-index in
    let lines = c.args.lines.now in
    let line = c.line-item.result in
    let state = c.args.state in
    let firm = c.args.firm in
    record {
      there =
          each-next (λ l. IsField c.args.fields.now (line_name l)) lines i line c.loop-line-test.true c.line-item.is
          c.loop-line.invariant.there (c.if-not-add_line.ensures.there.0 refl);
      sums = c.add_line.ensures.sums
          ∙ ap (added (lines_numbers state firm (line ∷ [])) c.args.fields.now) c.loop-line.invariant.sums
          ∙ added-twice (lines_numbers state firm (take i lines)) (lines_numbers state firm (line ∷ []))
          (lines_numbers state firm (take (i + 1) lines))
          (line-step state firm lines i line c.loop-line-test.true c.line-item.is) c.args.fields.now
          c.args.sums.now;
      small = λ k small.
          let more : (k + most_of_line * i) + most_of_line ≡ k + most_of_line * (i + 1) = omega arith in
          subst (λ m. Each (IsSmall m) c.add_line.new.sums) more
          (c.add_line.ensures.small (k + most_of_line * i) (c.loop-line.invariant.small k small));
    }

pub returns-clause-small : goal.returns-clause-small
returns-clause-small c t k small =
    let i : ℕ = c.loop-line.line-index in
    let up : k + most_of_line * i ≤ k + most_of_lines = omega arith in
    each-small-up (k + most_of_line * i) (k + most_of_lines) c.loop-line.sums up (c.loop-line.invariant.small k small)
