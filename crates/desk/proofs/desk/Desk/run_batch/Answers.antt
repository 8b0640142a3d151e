use Rattle.std.proofs.Common.{◌≡◌, ◌∙◌, [], List, ap, false, length, rules, subst, sym, take, true, true≢false}
use Rattle.std.specs.Prelude.{◌==◌}
use Rattle.std.specs.Vec.{vec_len}
use Rattle.ledger.specs.declared.rows.Change.{Change}
use Rattle.desk.specs.Desk.{desk_state}
use Rattle.desk.specs.Text.{RepliesAll, items_of}
use Rattle.desk.specs.Together.{FailsAt, IsBatch}
use Rattle.desk.specs.declared.run.Run.{Run}
use Rattle.desk.proofs.Batches.{batch_fails, batch_told, lines_told, no_changes, stored_batch, stored_still}
use Rattle.desk.proofs.desk.Desk.run_batch.Goals as goal
use Rattle.desk.proofs.desk.Desk.run_batch.Goals.{in-Ok, in-Err}

pub returns-then-is_empty-clause-kept : goal.returns-then-is_empty-clause-kept
returns-then-is_empty-clause-kept g c other =
    subst (λ A. IsBatch A (take (length c.told.result.replies.items) c.args.requests.now) c.told.result.replies.items
    c.plan_batch-batch.new.book.ledger) (ap (λ d. d.ledger) c.self.view_is)
    (batch_told c.self.inside.book.ledger c.plan_batch-batch.new.book.ledger c.args.requests.now _
    c.told.result.replies.items c.plan_batch-batch.ensures.so_far c.told.ensures.replies)

pub returns-then-is_empty-clause-lines : goal.returns-then-is_empty-clause-lines
returns-then-is_empty-clause-lines g c other =
    subst (λ A. RepliesAll A (items_of (take (length c.told.result.replies.items) c.args.requests.now))
    c.told.result.lines.items c.plan_batch-batch.new.book.ledger) (ap (λ d. d.ledger) c.self.view_is)
    (lines_told c.self.inside.book.ledger c.plan_batch-batch.new.book.ledger c.args.requests.now _
    c.told.result.replies.items c.plan_batch-batch.ensures.so_far c.told.ensures.replies c.told.result.lines.items
    c.told.ensures.lines)

pub returns-clause-kept : goal.returns-clause-kept
returns-clause-kept g c other = elim c.match-commit.branch [
  | in-Ok w ↦ subst (λ A. IsBatch A (take (length c.match-commit.result.replies.items) c.args.requests.now)
      c.match-commit.result.replies.items c.plan_batch-batch.new.book.ledger) (ap (λ d. d.ledger) c.self.view_is)
      (batch_told c.self.inside.book.ledger c.plan_batch-batch.new.book.ledger c.args.requests.now _
      c.match-commit.result.replies.items c.plan_batch-batch.ensures.so_far
      (ap (λ (t : Run). t.replies.items) w.result-is ∙ w.told-in-Ok.ensures.replies))
  | in-Err w ↦ absurd (other (ap (λ (t : Run). t.ending) w.result-is ∙ w.new.ensures.ending))
]

pub returns-clause-lines : goal.returns-clause-lines
returns-clause-lines g c other = elim c.match-commit.branch [
  | in-Ok w ↦ subst (λ A. RepliesAll A
      (items_of (take (length c.match-commit.result.replies.items) c.args.requests.now))
      c.match-commit.result.lines.items c.plan_batch-batch.new.book.ledger) (ap (λ d. d.ledger) c.self.view_is)
      (lines_told c.self.inside.book.ledger c.plan_batch-batch.new.book.ledger c.args.requests.now _
      c.match-commit.result.replies.items c.plan_batch-batch.ensures.so_far
      (ap (λ (t : Run). t.replies.items) w.result-is ∙ w.told-in-Ok.ensures.replies) c.match-commit.result.lines.items
      (ap (λ (t : Run). t.lines.items) w.result-is ∙ w.told-in-Ok.ensures.lines))
  | in-Err w ↦ absurd (other (ap (λ (t : Run). t.ending) w.result-is ∙ w.new.ensures.ending))
]

pub returns-clause-failed : goal.returns-clause-failed
returns-clause-failed g c is = elim c.match-commit.branch [
  | in-Ok w ↦ absurd (w.told-in-Ok.ensures.going (ap (λ (t : Run). t.ending) (sym w.result-is) ∙ is))
  | in-Err w ↦ (
    ap (λ (t : Run). t.replies.items) w.result-is ∙ w.new.ensures.replies,
    ap (λ (t : Run). t.lines.items) w.result-is ∙ w.new.ensures.lines,
    subst (λ d. FailsAt (desk_state g.K.Keep d) c.args.requests.now []
        (desk_state g.K.Keep (record { ledger = c.plan_batch-batch.new.book.ledger; keep = c.commit.new.self })))
        c.self.view_is
        (batch_fails _ _ (g.K.Keep.holds c.self.inside.keep) c.args.requests.now _ c.deref.result.now
        c.plan_batch-batch.ensures.so_far c.plan_batch-batch.ensures.few c.self.invariant.good c.deref.ensures.value
        (λ none.
        let empty : c.deref.result.now ≡ [] = none in
        true≢false (sym (c.is_empty.ensures
        ∙ ap (λ n. n == 0) (sym c.deref.ensures.len ∙ ap (λ (cs : List Change). length cs) empty))
        ∙ c.if-is_empty.false))
        (λ honest. c.self.invariant.stored
        (subst (λ k. g.K.Keep.stopped k ≡ false) (sym (ap (λ d. d.keep) c.self.view_is)) c.requires) (c.commit.ensures.honest honest))
        (λ honest. c.commit.ensures.either honest (subst (λ k. g.K.Keep.stopped k ≡ false) (sym (ap (λ d. d.keep) c.self.view_is)) c.requires))),
  )
]

pub invariant_of-self : goal.invariant_of-self
invariant_of-self g c =
    let empty : (vec_len c.plan_batch-batch.result.0.changes == 0) ≡ true = search rules in
    let none = no_changes c.plan_batch-batch.result.0.changes.items _ c.plan_batch-batch.result.0.changes.ok.0 empty in
    record {
      good = c.plan_batch-batch.ensures.so_far.good;
      stored = λ still honest. stored_still c.self.inside.book.ledger c.plan_batch-batch.new.book.ledger _ _
          (g.K.Keep.holds c.self.inside.keep) (g.K.Keep.leaves c.self.inside.keep) c.plan_batch-batch.ensures.so_far
          none (c.self.invariant.stored still honest);
    }

pub returns-then-is_empty-clause-goes : goal.returns-then-is_empty-clause-goes
returns-then-is_empty-clause-goes g c = record {
  untouched = λ halted. absurd (true≢false (sym halted ∙ c.requires));
  good = c.plan_batch-batch.ensures.so_far.good;
  stored = (invariant_of-self g c).stored;
  honest = λ h. subst (λ k. g.K.Keep.is_honest k) (ap (λ d. d.keep) c.self.view_is) h;
}

pub invariant_of-self-2 : goal.invariant_of-self-2
invariant_of-self-2 g c = record {
  good = c.plan_batch-batch.ensures.so_far.good;
  stored = λ still honest. elim c.match-commit.branch [
    | in-Ok w ↦ stored_batch c.self.inside.book.ledger c.plan_batch-batch.new.book.ledger _ _ c.deref.result.now
        (g.K.Keep.holds c.self.inside.keep) (g.K.Keep.holds c.commit.new.self) (g.K.Keep.leaves c.self.inside.keep)
        (g.K.Keep.leaves c.commit.new.self)
        c.plan_batch-batch.ensures.so_far c.deref.ensures.value
        (c.self.invariant.stored (subst (λ k. g.K.Keep.stopped k ≡ false) (sym (ap (λ d. d.keep) c.self.view_is)) c.requires) (c.commit.ensures.honest honest))
        (w.in-Ok.ensures.put honest) (w.in-Ok.ensures.alone honest)
    | in-Err w ↦ absurd (true≢false (sym w.in-Err.ensures.goes.err ∙ still))
  ];
}

pub returns-clause-goes : goal.returns-clause-goes
returns-clause-goes g c = record {
  untouched = λ halted. absurd (true≢false (sym halted ∙ c.requires));
  good = c.plan_batch-batch.ensures.so_far.good;
  stored = (invariant_of-self-2 g c).stored;
  honest = λ h. subst (λ k. g.K.Keep.is_honest k) (ap (λ d. d.keep) c.self.view_is) (c.commit.ensures.honest h);
}

pub returns-clause-stop : goal.returns-clause-stop
returns-clause-stop g c = record {
  stopped = λ is. elim c.match-commit.branch [
    | in-Ok w ↦ absurd (w.told-in-Ok.ensures.going (ap (λ (t : Run). t.ending) (sym w.result-is) ∙ is))
    | in-Err w ↦ w.in-Err.ensures.goes.err
  ];
  going = λ other. elim c.match-commit.branch [
    | in-Ok w ↦ w.in-Ok.ensures.goes.ok ∙ sym c.requires
    | in-Err w ↦ absurd (other (ap (λ (t : Run). t.ending) w.result-is ∙ w.new.ensures.ending))
  ];
}
