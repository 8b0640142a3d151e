use Rattle.std.proofs.Common.{◌++◌, ◌∷◌, [], ap, append-nil, append_assoc, refl, subst, sym, true≢false, ◌∙◌, drop, take}
use Rattle.std.proofs.KnownBytes.{Appends-nil, Appends-trans}
use Rattle.desk.specs.Desk.{desk_state}
use Rattle.std.proofs.lemmas.List.{take-append-drop}
use Rattle.desk.specs.Dialogue.{bytes_of}
use Rattle.desk.proofs.Conversing.{answered_one, counted_none, counted_on, cut_failed, cut_on, cut_within}
use Rattle.desk.proofs.Faults.{passed_as}
use Rattle.desk.proofs.GoesOn.{goes_on, goes_same}
use Rattle.desk.proofs.dialogue.answer_come.Goals as goal

pub loop-question-init : goal.loop-question-init
loop-question-init g c = record {
  come = λ read ended before has_found. (
    [],
    subst (λ qs. g.D.Dialogue.has_found c.args.dialogue.now read ended qs) (sym (append-nil before)) has_found,
    counted_none _ _ _ _,
  );
  goes = goes_same _ _ c.in_order.ensures.good c.in_order.ensures.stored;
}

pub returns-in-More-clause-whole : goal.returns-in-More-clause-whole
returns-in-More-clause-whole g c = λ read ended before has_found.
    let (questions, found, (done, counts)) = c.loop-question.invariant.come read ended before has_found in
    let (still, going, come) = c.in-More.ensures.more refl read ended (before ++ questions) found in
    (questions, done, counts, still, (λ e. (going, come)), (λ e. absurd (true≢false (sym e))))

pub returns-in-More-clause-goes : goal.returns-in-More-clause-goes
returns-in-More-clause-goes g c = c.loop-question.invariant.goes

pub returns-in-Over-clause-whole : goal.returns-in-Over-clause-whole
returns-in-Over-clause-whole g c = λ read ended before has_found.
    let (questions, found, (done, counts)) = c.loop-question.invariant.come read ended before has_found in
    let (still, are, ends) = c.in-Over.ensures.over refl read ended (before ++ questions) found in
    (questions, done, counts, still, (λ e. absurd (true≢false e)), (λ e. (are, ends)))

pub returns-in-Over-clause-goes : goal.returns-in-Over-clause-goes
returns-in-Over-clause-goes g c = c.loop-question.invariant.goes

pub returns-in_err-answer-clause-cut : goal.returns-in_err-answer-clause-cut
returns-in_err-answer-clause-cut g c =
    passed_as c.from_residual.result _ _ c.from_residual.ensures.1 (λ fault is read ended before has_found.
    let (questions, found, (done, counts)) = c.loop-question.invariant.come read ended before has_found in
    let (asked, asks, now) = c.in-Question.ensures.question c.in-Question.question refl read ended (before ++ questions) found in
    let goes = c.answer.ensures.goes in (
      questions ++ asked ∷ [],
      subst (λ qs. g.D.Dialogue.has_found c.next.new.self read ended qs) (append_assoc before questions (asked ∷ [])) now,
      (
        _,
        Appends-trans _ _ _ _ _ done.writes (Appends-nil _),
        cut_on _ _ _ _ questions _ _ done (λ e. ap (desk_state g.K.Keep) (goes.untouched e)) _ (asked ∷ []) []
            (cut_failed _ c.in_err-answer.field-0.0 fault _ _ asked (c.in_err-answer.ensures.fails asked asks)
            (λ e. is.0.1 e) (λ e. is.1.1 e)),
      ),
    ))

pub returns-in_err-answer-clause-goes : goal.returns-in_err-answer-clause-goes
returns-in_err-answer-clause-goes g c = goes_on _ _ _ _ c.loop-question.invariant.goes c.answer.ensures.goes

pub returns-in_err-write_whole-clause-cut : goal.returns-in_err-write_whole-clause-cut
returns-in_err-write_whole-clause-cut g c =
    let (count, few, begins) = c.in_err-write_whole.ensures.beginning in
    let text = c.as_bytes.result.now in
    passed_as c.from_residual-in_err-write_whole.result _ _ c.from_residual-in_err-write_whole.ensures.1
    (λ fault is read ended before has_found.
    let (questions, found, (done, counts)) = c.loop-question.invariant.come read ended before has_found in
    let (asked, asks, now) = c.in-Question.ensures.question c.in-Question.question refl read ended (before ++ questions) found in
    let goes = c.answer.ensures.goes in (
      questions ++ asked ∷ [],
      subst (λ qs. g.D.Dialogue.has_found c.next.new.self read ended qs) (append_assoc before questions (asked ∷ [])) now,
      (
        _,
        Appends-trans _ _ _ _ _ done.writes begins,
        cut_on _ _ _ _ questions _ _ done (λ e. ap (desk_state g.K.Keep) (goes.untouched e)) _ (asked ∷ []) (take count text)
            (cut_within _ fault _ _ asked (bytes_of c.in_ok-answer.answer) (take count text) (drop count text) is
            (c.in_ok-answer.ensures.told asked asks) (sym c.as_bytes.ensures ∙ sym (take-append-drop count text))),
      ),
    ))

pub returns-in_err-write_whole-clause-goes : goal.returns-in_err-write_whole-clause-goes
returns-in_err-write_whole-clause-goes g c = goes_on _ _ _ _ c.loop-question.invariant.goes c.answer.ensures.goes

pub loop-question-smaller : goal.loop-question-smaller
loop-question-smaller g c = c.in-Question.ensures.fewer c.in-Question.question refl

pub loop-question-preserved : goal.loop-question-preserved
loop-question-preserved g c =
    let goes = c.answer.ensures.goes in
    record {
      come = λ read ended before has_found.
          let (questions, found, done) = c.loop-question.invariant.come read ended before has_found in
          let (asked, asks, now) =
          c.in-Question.ensures.question c.in-Question.question refl read ended (before ++ questions) found in (
            questions ++ asked ∷ [],
            subst (λ qs. g.D.Dialogue.has_found c.next.new.self read ended qs) (append_assoc before questions (asked ∷ [])) now,
            counted_on _ _ _ _ questions asked _ _ _ _ _ _ (λ e. ap (desk_state g.K.Keep) (goes.untouched e)) done
                (answered_one _ _ _ asked _ _ _ (c.in_ok-answer.ensures.told asked asks)
                (rw c.as_bytes.ensures at c.in_ok-write_whole.ensures.whole)) c.saturating_add.ensures,
          );
      goes = goes_on _ _ _ _ c.loop-question.invariant.goes goes;
    }
