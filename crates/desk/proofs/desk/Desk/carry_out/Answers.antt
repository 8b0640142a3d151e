use Rattle.std.proofs.Common.{◌≡◌, ◌∙◌, false, true≢false, ap, subst, sym, ℕ}
use Rattle.words.specs.declared.reply.Reply.TheVariants.{Done}
use Rattle.ledger.specs.Answers.{Answers}
use Rattle.ledger.specs.Good.{Good}
use Rattle.ledger.specs.Ledger.{Ledger}
use Rattle.ledger.proofs.Runs.{accepted_answered}
use Rattle.ledger.specs.Next.{accept}
use Rattle.book.specs.Plans.{Fits}
use Rattle.desk.specs.Desk.{IsStored, LeavesEither}
use Rattle.desk.proofs.NextRows.{stored_next, leaves_either}
use Rattle.desk.proofs.desk.Desk.carry_out.Goals as goal

pub returns-in_default-commit-clause-either : goal.returns-in_default-commit-clause-either
returns-in_default-commit-clause-either g c e honest =
    let same : c.args.self.now.ledger ≡ c.self.inside.book.ledger = sym (ap (λ d. d.ledger) c.self.view_is) in
    let keep = c.make_room-2.new.self in
    let going : g.K.Keep.stopped keep ≡ false =
    subst (λ k. g.K.Keep.stopped k ≡ false) (sym (c.make_room-2.ensures ∙ ap (λ d. d.keep) c.self.view_is))
    c.requires.going in
    let stored =
    subst (λ k.
    g.K.Keep.stopped k ≡ false → g.K.Keep.is_honest k
    → IsStored (g.K.Keep.holds k) (g.K.Keep.leaves k) c.self.inside.book.ledger) (sym c.make_room-2.ensures)
    c.self.invariant.stored in
    subst (λ A. LeavesEither (g.K.Keep.leaves c.commit.new.self) A (accept A c.args.plan.request)) (sym same)
    (leaves_either c.self.inside.book.ledger c.args.plan c.changes-2.result.now c.self.invariant.good c.requires.key
    c.requires.command
    (subst (λ A. Fits A c.args.plan) same c.requires.fits) c.changes-2.ensures
    (g.K.Keep.holds keep) (g.K.Keep.leaves keep) (g.K.Keep.leaves c.commit.new.self)
    (stored going (c.commit.ensures.honest honest)) (c.commit.ensures.either honest going))

pub invariant_of-self-2 : goal.invariant_of-self-2
invariant_of-self-2 g c = record {
  good = c.adopt.ensures.good;
  stored = λ still honest.
      let same : c.args.self.now.ledger ≡ c.self.inside.book.ledger = sym (ap (λ d. d.ledger) c.self.view_is) in
      let keep = c.make_room-2.new.self in
      let going : g.K.Keep.stopped keep ≡ false =
      subst (λ k. g.K.Keep.stopped k ≡ false) (sym (c.make_room-2.ensures ∙ ap (λ d. d.keep) c.self.view_is))
      c.requires.going in
      let stored =
      subst (λ k.
      g.K.Keep.stopped k ≡ false → g.K.Keep.is_honest k
      → IsStored (g.K.Keep.holds k) (g.K.Keep.leaves k) c.self.inside.book.ledger) (sym c.make_room-2.ensures)
      c.self.invariant.stored in
      stored_next c.self.inside.book.ledger c.adopt.new.self.ledger c.args.plan c.changes-2.result.now
      c.self.invariant.good c.requires.key c.requires.command
      (subst (λ A. Fits A c.args.plan) same c.requires.fits) c.changes-2.ensures
      (c.adopt.ensures.next ∙ ap (λ A. accept A c.args.plan.request) c.make_room.ensures.same)
      (g.K.Keep.holds keep) (g.K.Keep.holds c.commit.new.self) (g.K.Keep.leaves keep) (g.K.Keep.leaves c.commit.new.self)
      (stored going (c.commit.ensures.honest honest)) (c.in-Ok-commit.ensures.put honest) (c.in-Ok-commit.ensures.alone honest);
}

pub returns-clause-goes : goal.returns-clause-goes
returns-clause-goes g c = record {
  untouched = λ halted. absurd (true≢false (sym halted ∙ c.requires.going));
  good = c.adopt.ensures.good;
  stored = (invariant_of-self-2 g c).stored;
  honest = λ h. subst (λ k. g.K.Keep.is_honest k) (c.make_room-2.ensures ∙ ap (λ d. d.keep) c.self.view_is)
      (c.commit.ensures.honest h);
}

pub returns-clause-answer : goal.returns-clause-answer
returns-clause-answer g c =
    let A = c.args.self.now.ledger in
    let r = c.args.plan.request in
    let place = c.place-place.ensures ∙ c.requires.fits.place in
    let next =
    c.adopt.ensures.next
    ∙ ap (λ (A : Ledger). accept A r) (c.make_room.ensures.same ∙ ap (λ d. d.ledger) c.self.view_is) in
    subst (λ (x : ℕ × Ledger). Answers A r (Done x.0) x.1) (λ i. (sym place i, sym next i))
    (accepted_answered A r c.requires.fits.accepted)

pub invariant_of-self-in_default-commit : goal.invariant_of-self-in_default-commit
invariant_of-self-in_default-commit g c = record {
  good = subst Good (sym c.make_room.ensures.same) c.self.invariant.good;
  stored = λ still honest. absurd (true≢false (sym c.in_default-commit.ensures.goes.err ∙ still));
}

pub returns-in_default-commit-clause-goes : goal.returns-in_default-commit-clause-goes
returns-in_default-commit-clause-goes g c = record {
  untouched = λ halted. absurd (true≢false (sym halted ∙ c.requires.going));
  good = (invariant_of-self-in_default-commit g c).good;
  stored = (invariant_of-self-in_default-commit g c).stored;
  honest = λ h. subst (λ k. g.K.Keep.is_honest k) (c.make_room-2.ensures ∙ ap (λ d. d.keep) c.self.view_is)
      (c.commit.ensures.honest h);
}
