use Rattle.std.proofs.Common.{◌≡◌, ◌≤◌, ◌∙◌, Err, List, ℕ, ap, arith, false, inr, length, refl, rules, sym, take, true}
use Rattle.std.proofs.Common.{true≢false}
use Rattle.std.proofs.KnownBytes.{Keeps-refl}
use Rattle.std.proofs.lemmas.List.{length-take}
use Rattle.ledger.proofs.TestResults.{passed_up}
use Rattle.desk.specs.Desk.{desk_state}
use Rattle.desk.specs.Dialogue.{is_end, longest_piece}
use Rattle.desk.specs.declared.dialogue.TheConstants.{PIECE}
use Rattle.desk.proofs.Conversing.{counted_behind, end_empty, ends_before, ends_counted, ends_unread, ends_untaken}
use Rattle.desk.proofs.Conversing.{ends_within, first_counted}
use Rattle.desk.proofs.Faults.{passed_as}
use Rattle.desk.proofs.GoesOn.{goes_on, goes_same}
use Rattle.desk.proofs.dialogue.converse.Goals as goal

-- what is read into the buffer is no longer than it
short : (count : ℕ) (buffer : List ℕ) → length buffer ≡ PIECE → length (take count buffer) ≤ longest_piece
short count buffer size = omega (arith, length-take count buffer, size)

-- only a read of no bytes gives none
none_read : (count : ℕ) (buffer : List ℕ) → length buffer ≡ PIECE → is_end (take count buffer) ≡ true → count ≡ 0
none_read count buffer size ended =
    let none = ap length (end_empty (take count buffer) ended) in
    omega (arith, length-take count buffer, size, none)

pub loop-turn-init : goal.loop-turn-init
loop-turn-init g c = record {
  size = refl;
  on = first_counted _ _ _ _ (λ read questions. g.D.Dialogue.has_found c.args.dialogue.now read false questions) c.requires.none
      (λ more.
      g.met.D.Dialogue.settled c.args.dialogue.now _ false _ c.requires.new more (λ e. absurd (true≢false (sym e))))
      c.requires.new;
  goes = goes_same _ _ c.in_order.ensures.good c.in_order.ensures.stored;
}

pub returns-in_default-clause-cut : goal.returns-in_default-clause-cut
returns-in_default-clause-cut g c =
    let (on, has_found, counts) = c.loop-turn.invariant.on in ends_unread _ _ _ _ _ _ _ on _ c.in_default.ensures.err

pub returns-in_default-clause-goes : goal.returns-in_default-clause-goes
returns-in_default-clause-goes g c = c.loop-turn.invariant.goes

pub returns-in_err-take_in-clause-cut : goal.returns-in_err-take_in-clause-cut
returns-in_err-take_in-clause-cut g c =
    let (on, has_found, counts) = c.loop-turn.invariant.on in
    passed_as c.from_residual.result _ _ c.from_residual.ensures.1
    (λ fault is. ends_untaken _ _ _ _ _ _ _ on fault _ _ is
    (short _ c.read_piece.new.buffer (c.read_piece.ensures.size ∙ c.loop-turn.invariant.size))
    c.in-Ok.ensures.taken)

pub returns-in_err-take_in-clause-memory : goal.returns-in_err-take_in-clause-memory
returns-in_err-take_in-clause-memory g c = λ e.
    let (on, has_found, counts) = c.loop-turn.invariant.on in
    inr (ends_before _ _ _ _ _ _ _ on _ _
    (short _ c.read_piece.new.buffer (c.read_piece.ensures.size ∙ c.loop-turn.invariant.size))
    (λ none. search (rules, c.in_err-take_in.ensures.end none)) c.in-Ok.ensures.taken)

pub returns-in_err-take_in-clause-goes : goal.returns-in_err-take_in-clause-goes
returns-in_err-take_in-clause-goes g c = c.loop-turn.invariant.goes

pub returns-in_err-answer_come-clause-cut : goal.returns-in_err-answer_come-clause-cut
returns-in_err-answer_come-clause-cut g c =
    let (on, has_found, counts) = c.loop-turn.invariant.on in
    let buffer = c.read_piece.new.buffer in
    let size = c.read_piece.ensures.size ∙ c.loop-turn.invariant.size in
    let (others, now, cut) =
    c.in_err-answer_come.ensures.cut _ _ _ (c.in_ok-take_in.ensures.taken on.read on.questions has_found on.come) in
    let goes = c.answer_come.ensures.goes in
    passed_up c.from_residual-in_err-answer_come.result c.in_err-answer_come.field-0.0 _
    c.from_residual-in_err-answer_come.ensures.1
    (ends_within _ _ _ _ _ _ _ on _ (λ e. ap (desk_state g.K.Keep) (goes.untouched e)) _ _ _ c.in-Ok.ensures.taken
    others _ (λ e. c.in_err-answer_come.ensures.read (ap (λ f. Err f) e)) (short _ buffer size)
    (λ behind ended. g.met.D.Dialogue.settled c.answer_come.new.dialogue _ _ _ now behind
    (λ e. ended (c.in-Ok.ensures.end (none_read _ buffer size e)))) cut)

pub returns-in_err-answer_come-clause-goes : goal.returns-in_err-answer_come-clause-goes
returns-in_err-answer_come-clause-goes g c = goes_on _ _ _ _ c.loop-turn.invariant.goes c.answer_come.ensures.goes

pub returns-then-branch-clause-whole : goal.returns-then-branch-clause-whole
returns-then-branch-clause-whole g c =
    let (on, has_found, counts) = c.loop-turn.invariant.on in
    let buffer = c.read_piece.new.buffer in
    let taken = c.in_ok-take_in.ensures.taken on.read on.questions has_found on.come in
    let (others, done, more, now, going, over) = c.in_ok-answer_come.ensures.whole _ _ _ taken in
    let (are, ends) = over c.if-branch.true in
    let goes = c.answer_come.ensures.goes in
    ends_counted _ _ _ _ _ _ _ on _ (λ e. ap (desk_state g.K.Keep) (goes.untouched e)) _ _ _ c.in-Ok.ensures.taken others done
    (λ read ended questions. g.D.Dialogue.has_found c.answer_come.new.dialogue read ended questions) _ _ _
    (λ e. c.in-Ok.ensures.end (none_read _ buffer (c.read_piece.ensures.size ∙ c.loop-turn.invariant.size) e)) are ends
    (λ behind last. g.met.D.Dialogue.settled c.answer_come.new.dialogue _ _ _ now behind last) now counts more

pub returns-then-branch-clause-goes : goal.returns-then-branch-clause-goes
returns-then-branch-clause-goes g c = goes_on _ _ _ _ c.loop-turn.invariant.goes c.answer_come.ensures.goes

pub loop-turn-preserved : goal.loop-turn-preserved
loop-turn-preserved g c =
    let (on, has_found, counts) = c.loop-turn.invariant.on in
    let taken = c.in_ok-take_in.ensures.taken on.read on.questions has_found on.come in
    let (others, done, more, now, going, over) = c.in_ok-answer_come.ensures.whole _ _ _ taken in
    let (still, come) = going c.if-branch.false in
    let goes = c.answer_come.ensures.goes in
    record {
      size = c.read_piece.ensures.size ∙ c.loop-turn.invariant.size;
      on = counted_behind _ _ _ _ _ _ _ on _ (λ e. ap (desk_state g.K.Keep) (goes.untouched e)) _ _ _
          c.in-Ok.ensures.taken others done
          (λ read ended questions. g.D.Dialogue.has_found c.answer_come.new.dialogue read ended questions) _ _ _ still come
          (λ behind. g.met.D.Dialogue.settled c.answer_come.new.dialogue _ _ _ now behind
          (λ e. absurd (true≢false (sym e ∙ still)))) now counts more;
      goes = goes_on _ _ _ _ c.loop-turn.invariant.goes goes;
    }

pub returns-clause-cut : goal.returns-clause-cut
returns-clause-cut g c = let (on, has_found, counts) = c.loop-turn.invariant.on in ends_unread _ _ _ _ _ _ _ on _ (Keeps-refl _)

pub returns-clause-goes : goal.returns-clause-goes
returns-clause-goes g c = c.loop-turn.invariant.goes
