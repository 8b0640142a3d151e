use Rattle.std.proofs.Common.{◌≡◌, ◌≢◌, ◌∙◌, ◌+◌, ◌++◌, ◌∷◌, ◌⊎◌, [], Err, List, ℕ, ap, drop, inl, inr, length, refl}
use Rattle.std.proofs.Common.{rules, subst, sym, take}
use Rattle.std.proofs.lemmas.List.{drop_more, length-append, take_more}
use Rattle.words.specs.declared.command.Request.{Request}
use Rattle.words.specs.declared.reply.Reply.{Reply}
use Rattle.ledger.specs.Answers.{Runs}
use Rattle.words.specs.declared.reply.Reply.TheVariants.{Done}
use Rattle.ledger.specs.Ledger.{Ledger, places}
use Rattle.ledger.specs.Next.{accept}
use Rattle.ledger.proofs.Runs.{accepted_answered}
use Rattle.desk.specs.Desk.{HasAccepted, LeavesEither}
use Rattle.desk.specs.Replies.{request_line}
use Rattle.desk.specs.Text.{RepliesAll, items_of}
use Rattle.desk.proofs.Batches.{lines_on}
use Rattle.desk.proofs.GoesOn.{goes_on}
use Rattle.desk.proofs.RunsOn.{runs_on}
use Rattle.desk.specs.declared.fault.CallFault.{CallFault}
use Rattle.desk.specs.declared.run.Ending.TheVariants.{All, Memory, Stopped}
use Rattle.desk.proofs.desk.Desk.run.Goals as goal

memory_is_no_stop : Memory ≢ Stopped
memory_is_no_stop e = cc

all_is_no_stop : All ≢ Stopped
all_is_no_stop e = cc

memory_or_stop : (fault : CallFault) → (fault ≡ CallFault.Memory) ⊎ (fault ≡ CallFault.Stopped)
memory_or_stop CallFault.Memory = inl refl
memory_or_stop CallFault.Stopped = inr refl

pub returns-in-Err-clause-either : goal.returns-in-Err-clause-either
returns-in-Err-clause-either g c going is honest =
    let requests = c.args.requests.now in
    let i = c.loop-request.request-index in
    let r = c.request-item.result in
    let M = c.loop-request.self.ledger in
    let fault = c.ending_of-run.ensures.stopped.0 is in
    let before = c.loop-request.invariant.2 ∙ going in
    let stops = c.in-Err.ensures.either (ap (λ f. Err f) fault) before in
    let longer : take (length c.make_room.new.self.replies.items + 1) requests ≡ take i requests ++ r ∷ [] =
    ap (λ n. take (n + 1) requests) (ap (λ (xs : List Reply). length xs) c.make_room.ensures.replies ∙ c.loop-request.invariant.1)
    ∙ take_more requests i r c.loop-request-test.true ∙ ap (λ (x : Request). take i requests ++ x ∷ []) (sym c.request-item.is) in
    let replies = c.loop-request.run.replies.items ++ Done (places M + 1) ∷ [] in
    let runs =
    runs_on c.args.self.now.ledger M (accept M r) (take i requests) c.loop-request.run.replies.items r
    (Done (places M + 1)) c.loop-request.invariant.0 (accepted_answered M r stops.accepted) in (
      accept M r,
      (replies, subst (λ (rs : List Request). Runs c.args.self.now.ledger rs replies (accept M r)) (sym longer) runs),
      subst (λ (L : Ledger). LeavesEither (g.K.Keep.leaves c.call_and_tell.new.self.keep) L (accept M r))
          (sym (c.in-Err.ensures.stopped (ap (λ f. Err f) fault)).1)
          (stops.either honest),
    )

pub returns-in-Err-clause-accepted : goal.returns-in-Err-clause-accepted
returns-in-Err-clause-accepted g c going is =
    let requests = c.args.requests.now in
    let i = c.loop-request.request-index in
    let r = c.request-item.result in
    let fault = c.ending_of-run.ensures.stopped.0 is in
    let stops = c.in-Err.ensures.either (ap (λ f. Err f) fault) (c.loop-request.invariant.2 ∙ going) in
    let count : length c.make_room.new.self.replies.items ≡ i =
    ap (λ (xs : List Reply). length xs) c.make_room.ensures.replies ∙ c.loop-request.invariant.1 in
    let next : take 1 (drop i requests) ≡ r ∷ [] =
    ap (λ (xs : List Request). take 1 xs) (drop_more requests i r c.loop-request-test.true)
    ∙ ap (λ (x : Request). x ∷ []) (sym c.request-item.is) in
    subst (λ (L : Ledger). HasAccepted L (take 1 (drop (length c.make_room.new.self.replies.items) requests)))
    (sym (c.in-Err.ensures.stopped (ap (λ f. Err f) fault)).1)
    (subst (λ n. HasAccepted c.loop-request.self.ledger (take 1 (drop n requests))) (sym count)
    (subst (HasAccepted c.loop-request.self.ledger) (sym next) (inl stops.accepted)))

pub returns-in_default-clause-stop : goal.returns-in_default-clause-stop
returns-in_default-clause-stop g c = record {
  stopped = λ is. absurd (memory_is_no_stop is);
  going = λ other. c.loop-request.invariant.2;
}

pub returns-clause-stop : goal.returns-clause-stop
returns-clause-stop g c = record {
  stopped = λ is. absurd (all_is_no_stop (sym c.loop-request.invariant.6 ∙ is));
  going = λ other. c.loop-request.invariant.2;
}

pub returns-in-Err-clause-replies : goal.returns-in-Err-clause-replies
returns-in-Err-clause-replies g c =
    let L = c.args.self.now.ledger in
    let rs = c.args.requests.now in
    let count : length c.loop-request.run.replies.items ≡ c.loop-request.request-index = c.loop-request.invariant.1 in
    let same : c.call_and_tell.new.self.ledger ≡ c.loop-request.self.ledger = elim (memory_or_stop c.in-Err.fault) [
      | inl is ↦ ap (λ d. d.ledger) (c.in-Err.ensures.memory (ap (λ f. Err f) is)).0
      | inr is ↦ (c.in-Err.ensures.stopped (ap (λ f. Err f) is)).1
    ] in
    subst (λ B. Runs L (take (length c.make_room.new.self.replies.items) rs) c.make_room.new.self.replies.items B) (sym same)
    (subst (λ (ps : List Reply). Runs L (take (length ps) rs) ps c.loop-request.self.ledger)
    (sym {A = List Reply} c.make_room.ensures.replies)
    (subst (λ n. Runs L (take n rs) c.loop-request.run.replies.items c.loop-request.self.ledger) (sym count)
    c.loop-request.invariant.0))

pub returns-in-Err-clause-lines : goal.returns-in-Err-clause-lines
returns-in-Err-clause-lines g c =
    let L = c.args.self.now.ledger in
    let rs = c.args.requests.now in
    let count : length c.make_room.new.self.replies.items ≡ c.loop-request.request-index =
    ap (λ (xs : List Reply). length xs) c.make_room.ensures.replies ∙ c.loop-request.invariant.1 in
    let same : c.call_and_tell.new.self.ledger ≡ c.loop-request.self.ledger = elim (memory_or_stop c.in-Err.fault) [
      | inl is ↦ ap (λ d. d.ledger) (c.in-Err.ensures.memory (ap (λ f. Err f) is)).0
      | inr is ↦ (c.in-Err.ensures.stopped (ap (λ f. Err f) is)).1
    ] in
    subst (λ B. RepliesAll L (items_of (take (length c.make_room.new.self.replies.items) rs))
    c.make_room.new.self.lines.items B) (sym same)
    (subst (λ (out : List ℕ).
    RepliesAll L (items_of (take (length c.make_room.new.self.replies.items) rs)) out c.loop-request.self.ledger)
    (sym {A = List ℕ} c.make_room.ensures.lines)
    (subst (λ n. RepliesAll L (items_of (take n rs)) c.loop-request.run.lines.items c.loop-request.self.ledger)
    (sym count) c.loop-request.invariant.5))

pub loop-request-preserved : goal.loop-request-preserved
loop-request-preserved g c =
    let requests = c.args.requests.now in
    let i = c.loop-request.request-index in
    let r = c.request-item.result in
    let (reply, answer, (told_is, line_is, short)) = c.in-Ok-call_and_tell.ensures.told in
    let longer : take (i + 1) requests ≡ take i requests ++ r ∷ [] =
    take_more requests i r c.loop-request-test.true ∙ ap (λ (x : Request). take i requests ++ x ∷ []) (sym c.request-item.is) in
    let told : c.push.new.self.replies.items ≡ c.loop-request.run.replies.items ++ reply ∷ [] =
    c.push.ensures.replies
    ∙ ap (λ (xs : List Reply). xs ++ c.in-Ok-call_and_tell.told.reply ∷ []) c.make_room.ensures.replies
    ∙ ap (λ (p : Reply). c.loop-request.run.replies.items ++ p ∷ []) told_is in
    let lines : c.push.new.self.lines.items ≡ c.loop-request.run.lines.items ++ request_line r.key reply =
    c.push.ensures.lines ∙ ap (λ (xs : List ℕ). xs ++ c.in-Ok-call_and_tell.told.line.items) c.make_room.ensures.lines
    ∙ ap (λ (xs : List ℕ). c.loop-request.run.lines.items ++ xs) line_is in
    let runs = runs_on c.args.self.now.ledger c.loop-request.self.ledger c.call_and_tell.new.self.ledger
    (take i requests) c.loop-request.run.replies.items r reply
    c.loop-request.invariant.0 answer in (
      subst (λ (rs : List Request).
          Runs c.args.self.now.ledger rs c.push.new.self.replies.items c.call_and_tell.new.self.ledger) (sym longer)
          (subst (λ (ps : List Reply).
          Runs c.args.self.now.ledger (take i requests ++ r ∷ []) ps c.call_and_tell.new.self.ledger) (sym told)
          runs),
      ap (λ (xs : List Reply). length xs) told ∙ length-append c.loop-request.run.replies.items (reply ∷ [])
          ∙ ap (λ n. n + 1) c.loop-request.invariant.1,
      search rules,
      search rules,
      goes_on _ _ _ _ c.loop-request.invariant.4 c.call_and_tell.ensures.goes,
      subst (λ (rs : List Request).
          RepliesAll c.args.self.now.ledger (items_of rs) c.push.new.self.lines.items c.call_and_tell.new.self.ledger)
          (sym longer)
          (subst (λ (out : List ℕ). RepliesAll c.args.self.now.ledger (items_of (take i requests ++ r ∷ [])) out
          c.call_and_tell.new.self.ledger) (sym lines)
          (lines_on c.args.self.now.ledger c.loop-request.self.ledger c.call_and_tell.new.self.ledger (take i requests)
          r reply c.loop-request.run.lines.items c.loop-request.invariant.5 answer)),
      c.push.ensures.ending ∙ c.make_room.ensures.ending ∙ c.loop-request.invariant.6,
    )

pub returns-in-Err-clause-goes : goal.returns-in-Err-clause-goes
returns-in-Err-clause-goes g c = goes_on _ _ _ _ c.loop-request.invariant.4 c.call_and_tell.ensures.goes
