use Rattle.std.proofs.Common.{◌≡◌, ◌∙◌, ◌≤◌, ◌++◌, Some, ap, drop, false, length, subst, sym, take, true}
use Rattle.std.proofs.lemmas.Bool.{true≢false}
use Rattle.desk.specs.Deferred.{snapshot_off}
use Rattle.desk.specs.Desk.{IsStored, LeavesEither}
use Rattle.rounds.specs.Histories.{IsReached, heard_in}
use Rattle.rounds.specs.Lines.{speaks}
use Rattle.rounds.specs.Rounds.{AreBefore, AtEach, InRound, IsForgotten, IsShown, SameAt, lost_between, stopped_at}
use Rattle.rounds.proofs.Lists.{by_test, each_on, each_size, each_so, whole_back}
use Rattle.rounds.proofs.OneTurn.{seat_forgotten, seat_on, seat_shown}
use Rattle.rounds.proofs.Holding.{round_begins, round_kept, round_lost}
use Rattle.rounds.proofs.Settings.{going_before}
use Rattle.rounds.proofs.Taken.{before_each, taken_each}
use Rattle.rounds.proofs.places.Places.round.Goals as goal

pub returns-in-Ok-clause-told : goal.returns-in-Ok-clause-told
returns-in-Ok-clause-told g c = λ loss start visits r.
    let talk = speaks g.D.Dialogue g.S.Stream in
    let items = c.self.inside.lines.items in
    let len = c.self.inside.lines.len in
    let ask = c.ask_all-self-inside in
    let old = snapshot_off c.args.desk.now in
    let new = snapshot_off c.settle_round.new.desk in
    let was = subst (λ v. IsReached talk loss start old visits v) (sym c.self.view_is) r in
    let heard = heard_in was.history in
    let seats = subst (λ xs. AtEach SameAt xs ask.new.lines) c.deref_mut.ensures.value ask.ensures.seats in
    let asked =
    ask.ensures.asked heard old (subst (λ xs. InRound talk old old xs heard) (sym c.deref_mut.ensures.value)
    (round_begins talk loss start old visits _ was)) in
    let round =
    subst (λ s. InRound talk old s ask.new.lines heard)
    (λ i. record { ledger = sym c.settle_round.ensures.ledger i; is_stopped = sym c.in-Ok.ensures.ok.0 i })
    asked in
    let size_asked : length ask.new.lines ≡ len = each_size SameAt _ _ ask.ensures.seats ∙ c.deref_mut.ensures.len in
    let mid = take len (ask.new.lines ++ drop (length ask.new.lines) items) in
    let same : c.deref_mut-in-Ok.result.now ≡ ask.new.lines =
    c.deref_mut-in-Ok.ensures.value ∙ whole_back len ask.new.lines (drop (length ask.new.lines) items) size_asked in
    let shown = subst (λ xs. AtEach (IsShown talk) xs c.show_all.new.lines) same c.show_all.ensures in
    let size_last : length c.show_all.new.lines ≡ len = each_size (IsShown talk) _ _ shown ∙ size_asked in
    let still : old.is_stopped ≡ true → new ≡ old = λ halted. λ i. record {
      ledger = (c.settle_round.ensures.ledger ∙ ap (λ d. d.ledger) (ask.ensures.off.untouched halted)) i;
      is_stopped = (c.in-Ok.ensures.ok.0 ∙ ap (λ d. d.keep.stopped) (ask.ensures.off.untouched halted)) i;
    } in
    subst (λ xs. IsReached talk loss start new visits (record { lines = xs; connections = c.self.inside.connections }))
    (sym (whole_back len c.show_all.new.lines (drop (length c.show_all.new.lines) mid) size_last))
    (round_kept talk loss start old visits _ was new ask.new.lines c.show_all.new.lines still seats round shown)

pub returns-in-Ok-clause-kept : goal.returns-in-Ok-clause-kept
returns-in-Ok-clause-kept g c = λ going.
    let still = c.in-Ok.ensures.ok.1 (c.is_stopped-was_stopped.ensures.stopped ∙ going) in
    (still, c.in-Ok.ensures.stored still)

pub returns-in-Ok-clause-halts : goal.returns-in-Ok-clause-halts
returns-in-Ok-clause-halts g c = λ halted.
    let same = c.ask_all-self-inside.ensures.off.untouched halted in (
      c.settle_round.ensures.ledger ∙ ap (λ d. d.ledger) same,
      c.in-Ok.ensures.ok.0 ∙ ap (λ d. d.keep.stopped) same ∙ halted,
      c.settle_round.ensures.untouched (ap (λ d. d.keep.stopped) same ∙ halted) ∙ c.ask_all-self-inside.ensures.off.keep,
    )

pub returns-in-Err-clause-lost : goal.returns-in-Err-clause-lost
returns-in-Err-clause-lost g c =
    let ask = c.ask_all-self-inside.new.desk in
    let new = c.settle_round.new.desk in
    let A = c.args.desk.now.ledger in
    let going =
    going_before c.args.desk.now ask c.is_stopped-was_stopped.result c.is_stopped-was_stopped.ensures.stopped
    c.ask_all-self-inside.ensures.off c.requires.settled c.in-Err.ensures.err.1 in
    let same = c.ask_all-self-inside.ensures.off.keep in
    let still : g.K.Keep.is_honest new.keep.keep
    → IsStored (g.K.Keep.holds ask.keep.keep) (g.K.Keep.leaves ask.keep.keep) A =
    λ honest.
    subst (λ k. IsStored (g.K.Keep.holds k) (g.K.Keep.leaves k) A) (sym same)
    (c.is_kept.ensures.stored c.requires.settled going
    (subst (λ k. g.K.Keep.is_honest k) same (c.settle_round.ensures.honest honest))) in (
      going,
      c.in-Err.ensures.err.0,
      by_test ask.keep.stopped
          (λ goes. (
            c.in-Err.ensures.behind goes,
            λ honest. subst (λ B. LeavesEither (g.K.Keep.leaves new.keep.keep) A B) (sym c.settle_round.ensures.ledger)
                (c.in-Err.ensures.either goes honest A c.is_kept.ensures.good (still honest)),
          ))
          (λ halted. (
            subst (λ k. g.K.Keep.stopped k ≡ false) (sym (c.settle_round.ensures.untouched halted ∙ same))
                (c.is_kept.ensures.going going),
            c.is_kept.ensures.good,
            λ honest. subst (λ k. IsStored (g.K.Keep.holds k) (g.K.Keep.leaves k) A)
                (sym (c.settle_round.ensures.untouched halted)) (still honest),
          )),
    )

pub returns-in-Err-clause-untold : goal.returns-in-Err-clause-untold
returns-in-Err-clause-untold g c = λ loss start visits r.
    let talk = speaks g.D.Dialogue g.S.Stream in
    let items = c.self.inside.lines.items in
    let len = c.self.inside.lines.len in
    let ask = c.ask_all-self-inside in
    let going =
    going_before c.args.desk.now ask.new.desk c.is_stopped-was_stopped.result
    c.is_stopped-was_stopped.ensures.stopped ask.ensures.off c.requires.settled c.in-Err.ensures.err.1 in
    let old = snapshot_off c.args.desk.now in
    let last = snapshot_off ask.new.desk in
    let new = snapshot_off c.settle_round.new.desk in
    let was = subst (λ v. IsReached talk loss start old visits v) (sym c.self.view_is) r in
    let heard = heard_in was.history in
    let seats = subst (λ xs. AtEach SameAt xs ask.new.lines) c.deref_mut.ensures.value ask.ensures.seats in
    let round =
    ask.ensures.asked heard old (subst (λ xs. InRound talk old old xs heard) (sym c.deref_mut.ensures.value)
    (round_begins talk loss start old visits _ was)) in
    let size_asked : length ask.new.lines ≡ len = each_size SameAt _ _ ask.ensures.seats ∙ c.deref_mut.ensures.len in
    let mid = take len (ask.new.lines ++ drop (length ask.new.lines) items) in
    let same : c.deref_mut-in-Err.result.now ≡ ask.new.lines =
    c.deref_mut-in-Err.ensures.value
    ∙ whole_back len ask.new.lines (drop (length ask.new.lines) items) size_asked in
    let left = subst (λ xs. AtEach (IsForgotten talk) xs c.forget_all.new.lines) same c.forget_all.ensures in
    let size_last : length c.forget_all.new.lines ≡ len = each_size (IsForgotten talk) _ _ left ∙ size_asked in
    let loses = ap (λ B. Some (record { before = c.args.desk.now.ledger; behind = B })) c.settle_round.ensures.ledger in
    let stopped : new ≡ stopped_at last.ledger = λ i. record {
      ledger = c.settle_round.ensures.ledger i;
      is_stopped = c.in-Err.ensures.err.0 i;
    } in
    subst (λ xs. IsReached talk (Some (lost_between old new)) start new visits
    (record { lines = xs; connections = c.self.inside.connections }))
    (sym (whole_back len c.forget_all.new.lines (drop (length c.forget_all.new.lines) mid) size_last))
    (round_lost talk loss start old visits _ was (Some (lost_between old new)) new last ask.new.lines
    c.forget_all.new.lines going loses stopped seats round left)

pub returns-in-Ok-clause-honest : goal.returns-in-Ok-clause-honest
returns-in-Ok-clause-honest g c = λ honest.
    subst (λ k. g.K.Keep.is_honest k) c.ask_all-self-inside.ensures.off.keep (c.settle_round.ensures.honest honest)

pub returns-in-Err-clause-honest : goal.returns-in-Err-clause-honest
returns-in-Err-clause-honest g c = λ honest.
    subst (λ k. g.K.Keep.is_honest k) c.ask_all-self-inside.ensures.off.keep (c.settle_round.ensures.honest honest)

pub returns-in-Ok-clause-seats : goal.returns-in-Ok-clause-seats
returns-in-Ok-clause-seats g c =
    let talk = speaks g.D.Dialogue g.S.Stream in
    let items = c.self.inside.lines.items in
    let len = c.self.inside.lines.len in
    let ask = c.ask_all-self-inside in
    let seats = subst (λ xs. AtEach SameAt xs ask.new.lines) c.deref_mut.ensures.value ask.ensures.seats in
    let size_asked : length ask.new.lines ≡ len = each_size SameAt _ _ ask.ensures.seats ∙ c.deref_mut.ensures.len in
    let mid = take len (ask.new.lines ++ drop (length ask.new.lines) items) in
    let same : c.deref_mut-in-Ok.result.now ≡ ask.new.lines =
    c.deref_mut-in-Ok.ensures.value ∙ whole_back len ask.new.lines (drop (length ask.new.lines) items) size_asked in
    let then = subst (λ xs. AtEach (IsShown talk) xs c.show_all.new.lines) same c.show_all.ensures in
    let size_last : length c.show_all.new.lines ≡ len = each_size (IsShown talk) _ _ then ∙ size_asked in
    let all =
    each_on SameAt seat_on items ask.new.lines c.show_all.new.lines seats
    (each_so (IsShown talk) SameAt (seat_shown talk) _ _ then) in
    subst (λ v. AtEach SameAt v.lines (take len (c.show_all.new.lines ++ drop (length c.show_all.new.lines) mid))) c.self.view_is
    (subst (λ xs. AtEach SameAt items xs)
    (sym (whole_back len c.show_all.new.lines (drop (length c.show_all.new.lines) mid) size_last)) all)

pub returns-in-Err-clause-seats : goal.returns-in-Err-clause-seats
returns-in-Err-clause-seats g c =
    let talk = speaks g.D.Dialogue g.S.Stream in
    let items = c.self.inside.lines.items in
    let len = c.self.inside.lines.len in
    let ask = c.ask_all-self-inside in
    let seats = subst (λ xs. AtEach SameAt xs ask.new.lines) c.deref_mut.ensures.value ask.ensures.seats in
    let size_asked : length ask.new.lines ≡ len = each_size SameAt _ _ ask.ensures.seats ∙ c.deref_mut.ensures.len in
    let mid = take len (ask.new.lines ++ drop (length ask.new.lines) items) in
    let same : c.deref_mut-in-Err.result.now ≡ ask.new.lines =
    c.deref_mut-in-Err.ensures.value
    ∙ whole_back len ask.new.lines (drop (length ask.new.lines) items) size_asked in
    let then = subst (λ xs. AtEach (IsForgotten talk) xs c.forget_all.new.lines) same c.forget_all.ensures in
    let size_last : length c.forget_all.new.lines ≡ len = each_size (IsForgotten talk) _ _ then ∙ size_asked in
    let all =
    each_on SameAt seat_on items ask.new.lines c.forget_all.new.lines seats
    (each_so (IsForgotten talk) SameAt (seat_forgotten talk) _ _ then) in
    subst (λ v. AtEach SameAt v.lines (take len (c.forget_all.new.lines ++ drop (length c.forget_all.new.lines) mid)))
    c.self.view_is
    (subst (λ xs. AtEach SameAt items xs)
    (sym (whole_back len c.forget_all.new.lines (drop (length c.forget_all.new.lines) mid) size_last)) all)

pub show_all-requires-clause-before : goal.show_all-requires-clause-before
show_all-requires-clause-before g c =
    let items = c.self.inside.lines.items in
    let len = c.self.inside.lines.len in
    let ask = c.ask_all-self-inside in
    let seats = subst (λ xs. AtEach SameAt xs ask.new.lines) c.deref_mut.ensures.value ask.ensures.seats in
    let size_asked : length ask.new.lines ≡ len = each_size SameAt _ _ ask.ensures.seats ∙ c.deref_mut.ensures.len in
    let same : c.deref_mut-in-Ok.result.now ≡ ask.new.lines =
    c.deref_mut-in-Ok.ensures.value ∙ whole_back len ask.new.lines (drop (length ask.new.lines) items) size_asked in
    subst (λ xs. AreBefore c.self.inside.unused xs) (sym same)
    (before_each c.self.inside.unused items ask.new.lines seats c.self.invariant.1)

pub invariant_of-self : goal.invariant_of-self
invariant_of-self g c =
    let talk = speaks g.D.Dialogue g.S.Stream in
    let items = c.self.inside.lines.items in
    let len = c.self.inside.lines.len in
    let ask = c.ask_all-self-inside in
    let seats = subst (λ xs. AtEach SameAt xs ask.new.lines) c.deref_mut.ensures.value ask.ensures.seats in
    let size_asked : length ask.new.lines ≡ len = each_size SameAt _ _ ask.ensures.seats ∙ c.deref_mut.ensures.len in
    let mid = take len (ask.new.lines ++ drop (length ask.new.lines) items) in
    let same : c.deref_mut-in-Ok.result.now ≡ ask.new.lines =
    c.deref_mut-in-Ok.ensures.value ∙ whole_back len ask.new.lines (drop (length ask.new.lines) items) size_asked in
    let then = subst (λ xs. AtEach (IsShown talk) xs c.show_all.new.lines) same c.show_all.ensures in
    let size_last : length c.show_all.new.lines ≡ len = each_size (IsShown talk) _ _ then ∙ size_asked in
    let all =
    each_on SameAt seat_on items ask.new.lines c.show_all.new.lines seats
    (each_so (IsShown talk) SameAt (seat_shown talk) _ _ then) in
    subst (λ xs. (c.self.inside.unused ≤ length xs) × AreBefore c.self.inside.unused xs)
    (sym (whole_back len c.show_all.new.lines (drop (length c.show_all.new.lines) mid) size_last))
    (taken_each c.self.inside.unused items c.show_all.new.lines all c.self.invariant)

pub forget_all-requires-clause-before : goal.forget_all-requires-clause-before
forget_all-requires-clause-before g c =
    let items = c.self.inside.lines.items in
    let len = c.self.inside.lines.len in
    let ask = c.ask_all-self-inside in
    let seats = subst (λ xs. AtEach SameAt xs ask.new.lines) c.deref_mut.ensures.value ask.ensures.seats in
    let size_asked : length ask.new.lines ≡ len = each_size SameAt _ _ ask.ensures.seats ∙ c.deref_mut.ensures.len in
    let same : c.deref_mut-in-Err.result.now ≡ ask.new.lines =
    c.deref_mut-in-Err.ensures.value
    ∙ whole_back len ask.new.lines (drop (length ask.new.lines) items) size_asked in
    subst (λ xs. AreBefore c.self.inside.unused xs) (sym same)
    (before_each c.self.inside.unused items ask.new.lines seats c.self.invariant.1)

pub invariant_of-self-in-Err : goal.invariant_of-self-in-Err
invariant_of-self-in-Err g c =
    let talk = speaks g.D.Dialogue g.S.Stream in
    let items = c.self.inside.lines.items in
    let len = c.self.inside.lines.len in
    let ask = c.ask_all-self-inside in
    let seats = subst (λ xs. AtEach SameAt xs ask.new.lines) c.deref_mut.ensures.value ask.ensures.seats in
    let size_asked : length ask.new.lines ≡ len = each_size SameAt _ _ ask.ensures.seats ∙ c.deref_mut.ensures.len in
    let mid = take len (ask.new.lines ++ drop (length ask.new.lines) items) in
    let same : c.deref_mut-in-Err.result.now ≡ ask.new.lines =
    c.deref_mut-in-Err.ensures.value
    ∙ whole_back len ask.new.lines (drop (length ask.new.lines) items) size_asked in
    let then = subst (λ xs. AtEach (IsForgotten talk) xs c.forget_all.new.lines) same c.forget_all.ensures in
    let size_last : length c.forget_all.new.lines ≡ len = each_size (IsForgotten talk) _ _ then ∙ size_asked in
    let all =
    each_on SameAt seat_on items ask.new.lines c.forget_all.new.lines seats
    (each_so (IsForgotten talk) SameAt (seat_forgotten talk) _ _ then) in
    subst (λ xs. (c.self.inside.unused ≤ length xs) × AreBefore c.self.inside.unused xs)
    (sym (whole_back len c.forget_all.new.lines (drop (length c.forget_all.new.lines) mid) size_last))
    (taken_each c.self.inside.unused items c.forget_all.new.lines all c.self.invariant)

pub ask_all-self-inside-requires-clause-going : goal.ask_all-self-inside-requires-clause-going
ask_all-self-inside-requires-clause-going g c = c.requires.going

pub ask_all-self-inside-requires-clause-within : goal.ask_all-self-inside-requires-clause-within
ask_all-self-inside-requires-clause-within g c =
    subst (λ xs. c.self.inside.unused ≤ length xs) (sym c.deref_mut.ensures.value) c.self.invariant.0

pub show_all-requires-clause-within : goal.show_all-requires-clause-within
show_all-requires-clause-within g c =
    subst (λ n. c.self.inside.unused ≤ n)
    (sym (ap length c.deref_mut.ensures.value) ∙ c.deref_mut.ensures.len ∙ sym c.deref_mut-in-Ok.ensures.len)
    c.self.invariant.0

pub returns-in-Ok-clause-settled : goal.returns-in-Ok-clause-settled
returns-in-Ok-clause-settled g c = c.settle_round.ensures.none

pub forget_all-requires-clause-within : goal.forget_all-requires-clause-within
forget_all-requires-clause-within g c =
    subst (λ n. c.self.inside.unused ≤ n)
    (sym (ap length c.deref_mut.ensures.value) ∙ c.deref_mut.ensures.len ∙ sym c.deref_mut-in-Err.ensures.len)
    c.self.invariant.0

pub returns-in-Err-clause-settled : goal.returns-in-Err-clause-settled
returns-in-Err-clause-settled g c = c.settle_round.ensures.none

pub returns-in-Ok-clause-untold : goal.returns-in-Ok-clause-untold
returns-in-Ok-clause-untold g c = tt

pub returns-in-Ok-clause-lost : goal.returns-in-Ok-clause-lost
returns-in-Ok-clause-lost g c = tt

pub returns-in-Err-clause-told : goal.returns-in-Err-clause-told
returns-in-Err-clause-told g c = tt

pub returns-in-Err-clause-kept : goal.returns-in-Err-clause-kept
returns-in-Err-clause-kept g c = tt

pub returns-in-Err-clause-halts : goal.returns-in-Err-clause-halts
returns-in-Err-clause-halts g c = λ halted.
    let going =
    going_before c.args.desk.now c.ask_all-self-inside.new.desk c.is_stopped-was_stopped.result
    c.is_stopped-was_stopped.ensures.stopped c.ask_all-self-inside.ensures.off c.requires.settled c.in-Err.ensures.err.1 in
    absurd (true≢false (sym halted ∙ going))

pub returns-in-Ok-clause-same : goal.returns-in-Ok-clause-same
returns-in-Ok-clause-same g c =
    (each_size SameAt _ _ (returns-in-Ok-clause-seats g c), ap (λ v. v.connections) c.self.view_is)

pub returns-in-Err-clause-same : goal.returns-in-Err-clause-same
returns-in-Err-clause-same g c =
    (each_size SameAt _ _ (returns-in-Err-clause-seats g c), ap (λ v. v.connections) c.self.view_is)
