use Rattle.book.proofs.Prelude.{CountsMore, MayCount, lines_before, step_seen}
use Rattle.ledger.proofs.Prelude.{Ledger, List, Step, [], ap, arith, get_or, length, line_steps, map, share_step}
use Rattle.ledger.proofs.Prelude.{slice_get, subst, sym, ℕ, ◌+◌, ◌<◌, ◌∷◌, ◌≡◌, LineStep, drop, option_copied}
use Rattle.ledger.proofs.Prelude.{ShareStep}
use Rattle.ledger.specs.declared.order.Line.{Line}
use Rattle.book.proofs.ChangedFields.{counts-nothing, counts-then, lines_seen, may-first, may-then, step_next, steps_from}
use Rattle.std.proofs.lemmas.List.{drop_all}
use Rattle.book.proofs.book.Book.count_order.Goals as goal

pub loop-place-init : goal.loop-place-init
loop-place-init c =
    let A : Ledger = c.args.self.now.ledger in let C = c.args.fields.now.entries in
    let s : Step = step_seen (option_copied c.args.before) c.args.after.now in
    let seen = lines_seen c.args.after.now.0 (option_copied c.args.before) in record {
      may = subst (λ (bs : List Line). MayCount A (map (share_step s) (line_steps 1 bs s.after.lines)) C) seen c.requires.may;
      more = λ E h. subst (λ (bs : List Line). CountsMore A (map (share_step s) (line_steps 1 bs s.after.lines)) C E)
          (sym seen) h;
    }

-- the step of the line at that place, and those behind it
next : (bs ls items : List Line) (i : ℕ) (l : Line) → items ≡ ls → i < length items → l ≡ get_or items i l
    → steps_from bs ls i ≡ record { nr = 1 + i; before = slice_get bs i; after = l } ∷ steps_from bs ls (i + 1)
next bs ls items i l same within is =
    subst (λ (ls : List Line).
    steps_from bs ls i ≡ record { nr = 1 + i; before = slice_get bs i; after = l } ∷ steps_from bs ls (i + 1)) same
    (step_next bs items i l within is)

pub count_line-requires-clause-may : goal.count_line-requires-clause-may
count_line-requires-clause-may c nr =
    let A : Ledger = c.args.self.now.ledger in let i = c.loop-place.place in let l = c.line-item.result in
    let s : Step = step_seen (option_copied c.args.before) c.args.after.now in
    let bs : List Line = lines_before (option_copied c.args.before) in let ls = c.args.after.now.1.lines.items in
    may-first A (share_step s (record {
      nr =
          1 + i;
      before = slice_get bs i;
      after = l;
    }) ∷ []) (map (share_step s) (steps_from bs ls (i + 1))) c.loop-place.fields.entries
    (subst (λ (ts : List LineStep). MayCount A (map (share_step s) ts) c.loop-place.fields.entries)
    (next bs ls c.deref-line-items.result.now i l c.deref-line-items.ensures.value c.loop-place-test.true
    c.line-item.is) c.loop-place.invariant.may)

pub loop-place-preserved : goal.loop-place-preserved
loop-place-preserved c =
    let A : Ledger = c.args.self.now.ledger in let i = c.loop-place.place in let l = c.line-item.result in
    let s : Step = step_seen (option_copied c.args.before) c.args.after.now in
    let bs : List Line = lines_before (option_copied c.args.before) in let ls = c.args.after.now.1.lines.items in
    let C = c.loop-place.fields.entries in let D = c.count_line.new.fields.entries in
    let own : List ShareStep = share_step s (record { nr = 1 + i; before = slice_get bs i; after = l }) ∷ [] in
    let rest : List ShareStep = map (share_step s) (steps_from bs ls (i + 1)) in
    let is =
    next bs ls c.deref-line-items.result.now i l c.deref-line-items.ensures.value c.loop-place-test.true
    c.line-item.is in
    let counted = c.in_ok-count_line.ensures (1 + i) in record {
      may =
          may-then A own rest C D
          (subst (λ (ts : List LineStep). MayCount A (map (share_step s) ts) C) is c.loop-place.invariant.may)
          counted;
      more = λ E h. c.loop-place.invariant.more E
          (subst (λ (ts : List LineStep). CountsMore A (map (share_step s) ts) C E) (sym is)
          (counts-then A own rest C D E counted h));
    }

pub returns : goal.returns
returns c =
    let A : Ledger = c.args.self.now.ledger in let i = c.loop-place.place in let C = c.loop-place.fields.entries in
    let s : Step = step_seen (option_copied c.args.before) c.args.after.now in
    let bs : List Line = lines_before (option_copied c.args.before) in let ls = c.args.after.now.1.lines.items in
    let past = drop_all i ls (omega (arith, ap (length {A = Line}) c.deref-line-items.ensures.value)) in
    c.loop-place.invariant.more C (subst (λ (ts : List LineStep). CountsMore A (map (share_step s) ts) C C)
    (sym (ap (line_steps (1 + i) (drop i bs)) past)) (counts-nothing A C))
