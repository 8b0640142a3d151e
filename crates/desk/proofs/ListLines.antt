-- Requests that are answered by lists: their lines, and how far they have come at a fault.
use Rattle.std.proofs.Common.{◌≡◌, ◌∙◌, ◌≢◌, ◌↔◌, ◌+◌, ◌≤◌, IsTrue, false, true≢false, ℕ, List, [], ◌∷◌, ◌++◌}
use Rattle.std.proofs.Common.{MatchOption, None, Option, Some, ap, if◌then◌else◌, append-nil, append_assoc, arith, drop}
use Rattle.std.proofs.Common.{inl, inr, length, refl, subst, suc, sym, take, take-add, zero}
use Rattle.std.proofs.lemmas.List.{length-take-le, map-append, take-append-drop, take-take}
use Rattle.std.specs.Io.KnownBytes.{Appends}
use Rattle.std.specs.List.{AllByRecursion as Each}
use Rattle.std.specs.declared.num.NonZeroUsize.{NonZeroUsize}
use Rattle.std.proofs.KnownBytes.{Appends-nil, Appends-trans}
use Rattle.words.specs.declared.command.Request.{Request}
use Rattle.words.specs.declared.item.Item.{Item}
use Rattle.words.specs.declared.item.Item.TheVariants as item
use Rattle.words.specs.declared.reply.Refusal.{Refusal}
use Rattle.words.specs.declared.reply.Refusal.TheVariants.{KeyReused}
use Rattle.words.specs.declared.reply.Reply.{Reply}
use Rattle.words.specs.declared.reply.Reply.TheVariants.{Done, Refused}
use Rattle.ledger.specs.Answers.{After, Answers, AnswersNew, IsAccepted, Runs, same_command}
use Rattle.ledger.specs.Good.{Good}
use Rattle.ledger.proofs.Runs.{answered_if_good, runs_once}
use Rattle.ledger.specs.Ledger.{Kept, Ledger, kept_under}
use Rattle.desk.specs.Desk.{DeskState, HasAccepted, LeavesEither, TellsStop, snapshot}
use Rattle.desk.specs.Headline.{answered}
use Rattle.desk.specs.Lists.{IsCutInLists, RunsList, StopsIn, most_together}
use Rattle.desk.specs.Replies.{request_line}
use Rattle.desk.specs.Script.{MayAnswer, WritesLines}
use Rattle.desk.specs.Text.{RepliesAll, items_of}
use Rattle.desk.specs.Together.{FailsAt, IsBatch}
use Rattle.desk.specs.declared.fault.ScriptFault.{ScriptFault}
use Rattle.desk.specs.declared.run.Ending.TheVariants.{All, Stopped}
use Rattle.desk.specs.declared.run.Run.{Run}
use Rattle.desk.proofs.Faults.{memory_stops_nothing, read_stops_nothing, write_stops_nothing}
use Rattle.desk.proofs.Batches.{batch_runs}
use Rattle.desk.proofs.Texts.{replies_joined}

-- the lines of a run
pub runs_told : (A B : Ledger) (rs : List Request) (ps : List Reply) → Runs A rs ps B
    → (out : List ℕ) × RepliesAll A (items_of rs) out B
runs_told A B [] [] same = ([], (refl, same))
runs_told A B [] (p ∷ ps) h = absurd h
runs_told A B (r ∷ rs) [] h = absurd h
runs_told A B (r ∷ rs) (p ∷ ps) (M, first, rest) =
    let (out, more) = runs_told M B rs ps rest in
    (request_line r.key p ++ out, (request_line r.key p, M, out, (p, first, refl), more, refl))

no_batch : (A : Ledger) → IsBatch A [] [] A
no_batch A = record {
  first = [];
  behind = [];
  told = [];
  refused = [];
  requests_are = refl;
  replies_are = refl;
  done = refl;
  all_done = tt;
  rest = refl;
}

pub items_joined : (xs ys : List Request) → items_of (xs ++ ys) ≡ items_of xs ++ items_of ys
items_joined xs ys = map-append (λ r. item.Request r) xs ys

pub length_take_most : (k : ℕ) (xs : List Request) → length (take k xs) ≤ k
length_take_most zero xs = omega arith
length_take_most (suc k) [] = omega arith
length_take_most (suc k) (x ∷ xs) = let less = length_take_most k xs in omega arith

-- a refused request changes nothing
refused_stays : (A B : Ledger) (r : Request) (why : Refusal) (line : ℕ) → Answers A r (Refused why line) B → B ≡ A
refused_stays A B r why line answer = by (kept_under A r.key) answer
  where
    by : (k : Option Kept)
        → MatchOption k (AnswersNew A r (Refused why line) B)
        (λ k.
        (Refused why line ≡ (if same_command k.command r.command then Done k.place else Refused KeyReused 0))
        × (B ≡ A)) → B ≡ A
    by (Some k) (is, same) = same
    by None (Some f, failed, left) = left.1
    by None (None, passed, left) = let is = left.0 in absurd cc

-- a request that is answered is a batch of its own
one_is_batch : (A B : Ledger) (r : Request) (reply : Reply) → Answers A r reply B → IsBatch A (r ∷ []) (reply ∷ []) B
one_is_batch A B r (Done place) answer = record {
  first = r ∷ [];
  behind = [];
  told = Done place ∷ [];
  refused = [];
  requests_are = refl;
  replies_are = refl;
  done = (B, answer, refl);
  all_done = ((place, refl), tt);
  rest = refl;
}
one_is_batch A B r (Refused refusal line) answer =
    let same : B ≡ A = refused_stays A B r refusal line answer in
    subst (λ L. IsBatch A (r ∷ []) (Refused refusal line ∷ []) L) (sym same) (record {
      first = [];
      behind = r ∷ [];
      told = [];
      refused = Refused refusal line ∷ [];
      requests_are = refl;
      replies_are = refl;
      done = refl;
      all_done = tt;
      rest = (A, subst (λ L. Answers A r (Refused refusal line) L) same answer, refl);
    })

-- how far the answers to requests have come, and what is written of them
abbrev pub CutAt : ScriptFault → Option NonZeroUsize → DeskState → List Request → DeskState
    → (writer_old writer_new : Option (List ℕ)) → Type 0
CutAt fault together old rs new writer_old writer_new =
    (cut : IsCutInLists fault together old rs new) × Appends writer_old writer_new (cut.lines ++ cut.begun)

-- ---- a list

-- the desk was stopped before
pub stopped_before : (desk : DeskState) (rs : List Request) (together : Option NonZeroUsize) (W : Option (List ℕ))
    → IsTrue desk.is_stopped → 1 ≤ length rs → CutAt ScriptFault.Stopped together desk rs desk W W
stopped_before desk rs together W halted some = (
  record {
    answered = [];
    last = [];
    left = rs;
    split = refl;
    few = omega arith;
    before = desk.ledger;
    behind = desk.ledger;
    lines = [];
    begun = [];
    unwritten = [];
    replies = (refl, refl);
    rest = (refl, refl);
    batch = ([], no_batch desk.ledger);
    shown = λ _. refl;
    unread = λ is. read_stops_nothing (sym is);
    told = λ _. refl;
    memory = λ _. refl;
    stop = record { stopped = λ _. halted; going = λ _. refl };
    stopped = λ _ going. absurd (true≢false (sym halted ∙ going));
    refused = λ _. (refl, refl, some);
  },
  Appends-nil W,
)

module _ (together : Option NonZeroUsize) (old new : DeskState) (rs : List Request) (run : Run) (W w : Option (List ℕ))
    (went : old.is_stopped ≡ false) (few : length rs ≤ most_together together) (list : RunsList together old rs run new) where
  abbrev told : List Request
  told = take (answered run) rs

  abbrev behind : List Request
  behind = drop (answered run) rs

  -- memory is refused behind what is told
  pub memory_behind : run.ending ≢ Stopped → Appends W w run.lines.items → CutAt ScriptFault.Memory together old rs new W w
  memory_behind going writes = (
    record {
      answered = told;
      last = [];
      left = behind;
      split = sym (take-append-drop (answered run) rs) ∙ ap (λ (xs : List Request). xs ++ behind) (sym (append-nil told));
      few = omega arith;
      before = new.ledger;
      behind = new.ledger;
      lines = run.lines.items;
      begun = [];
      unwritten = [];
      replies = list.lines going;
      rest = (refl, refl);
      batch = ([], no_batch new.ledger);
      shown = λ _. refl;
      unread = λ is. absurd cc;
      told = λ _. refl;
      memory = λ _. refl;
      stop = record { stopped = λ is. absurd (memory_stops_nothing is); going = λ _. list.stop.going going };
      stopped = λ is. absurd (memory_stops_nothing is);
      refused = λ halted. absurd (true≢false (sym halted ∙ went));
    },
    subst (Appends W w) (sym (append-nil run.lines.items)) writes,
  )

  -- a beginning of the lines is written
  pub begun_only : run.ending ≢ Stopped → (count : ℕ) → Appends W w (take count run.lines.items)
      → CutAt ScriptFault.Write together old rs new W w
  begun_only going count writes = (
    record {
      answered = [];
      last = told;
      left = behind;
      split = sym (take-append-drop (answered run) rs);
      few =
          let size : length told ≡ answered run = length-take-le (answered run) rs list.none_unasked in
          omega (arith, size, few, list.none_unasked);
      before = old.ledger;
      behind = new.ledger;
      lines = [];
      begun = take count run.lines.items;
      unwritten = drop count run.lines.items;
      replies = (refl, refl);
      rest =
          subst (λ (out : List ℕ). RepliesAll old.ledger (items_of told) out new.ledger)
          (sym (take-append-drop count run.lines.items)) (list.lines going);
      batch = list.batch going;
      shown = λ _. refl;
      unread = λ is. absurd cc;
      told = λ other. absurd (other refl);
      memory = λ is. absurd cc;
      stop = record { stopped = λ is. absurd (write_stops_nothing is); going = λ _. list.stop.going going };
      stopped = λ is. absurd (write_stops_nothing is);
      refused = λ halted. absurd (true≢false (sym halted ∙ went));
    },
    writes,
  )

  -- the store failed
  pub stopped_first : run.ending ≡ Stopped → CutAt ScriptFault.Stopped together old rs new W W
  stopped_first is =
      let stops = list.stopped is in
      let n = stops.count in
      let (out, lines) =
      runs_told old.ledger stops.behind (take n rs) stops.untold
      (batch_runs old.ledger stops.behind (take n rs) stops.untold stops.batch) in
      let size : length (take n rs) ≡ n = length-take-le n rs stops.none_unasked in (
        record {
          answered = [];
          last = take n rs;
          left = drop n rs;
          split = sym (take-append-drop n rs);
          few = omega (arith, size, few, stops.none_unasked);
          before = old.ledger;
          behind = stops.behind;
          lines = [];
          begun = [];
          unwritten = out;
          replies = (refl, refl);
          rest = lines;
          batch = (stops.untold, stops.batch);
          shown = λ other. absurd (other refl);
          unread = λ is. read_stops_nothing (sym is);
          told = λ _. refl;
          memory = λ is. absurd (memory_stops_nothing (sym is));
          stop = record { stopped = λ _. list.stop.stopped is; going = λ other. absurd (other refl) };
          stopped = λ _ _. (stops.accepted, stops.shown, stops.either);
          refused = λ halted. absurd (true≢false (sym halted ∙ went));
        },
        Appends-nil W,
      )

-- ---- how a list is carried out

-- the store failed at a batch
pub fails_in : (most : NonZeroUsize) (old : DeskState) (rs : List Request) (new : DeskState) → FailsAt old rs [] new
    → StopsIn (Some most) old rs new
fails_in most old rs new fails = record {
  count = fails.count;
  none_unasked = omega (arith, fails.none_unasked);
  behind = new.ledger;
  untold = fails.untold;
  batch = subst (λ L. IsBatch L (take fails.count rs) fails.untold new.ledger) fails.run fails.batch;
  accepted = subst (λ L. HasAccepted L (take fails.count rs)) fails.run fails.accepted;
  shown = refl;
  either = λ honest. subst (λ L. LeavesEither new.leaves L new.ledger) fails.run (fails.either honest);
}

-- one request, or none
alone_batch : (A B : Ledger) (r : Request) (ps : List Reply) → Runs A (take (length ps) (r ∷ [])) ps B
    → IsBatch A (take (length ps) (r ∷ [])) ps B
alone_batch A B r [] same = subst (IsBatch A [] []) (sym same) (no_batch A)
alone_batch A B r (p ∷ []) (M, answer, same) = subst (IsBatch A (r ∷ []) (p ∷ [])) (sym same) (one_is_batch A M r p answer)
alone_batch A B r (p ∷ q ∷ ps) (M, answer, extra) = absurd extra

-- the store failed at the one
alone_stops : (old new : DeskState) (r : Request) → Good old.ledger → new.ledger ≡ old.ledger → IsAccepted old.ledger r
    → (new.is_honest → (next : Ledger) × After old.ledger (r ∷ []) 1 next × LeavesEither new.leaves new.ledger next)
    → StopsIn None old (r ∷ []) new
alone_stops old new r good same accepted either =
    let (reply, after, answer) = answered_if_good old.ledger r good in record {
      count = 1;
      none_unasked = omega arith;
      behind = after;
      untold = reply ∷ [];
      batch = one_is_batch old.ledger after r reply answer;
      accepted = inl accepted;
      shown = same;
      either = λ honest.
          let (next, ran, leaves) = either honest in
          let there : next ≡ after =
          (runs_once old.ledger (r ∷ []) ran.0 (reply ∷ []) next after ran.1 (after, answer, refl)).1 in
          subst (λ L. LeavesEither new.leaves old.ledger L) there (subst (λ L. LeavesEither new.leaves L next) same leaves);
    }

-- one request
pub list_alone : (old new : DeskState) (r : Request) (run : Run) (ps : List Reply) → run.replies.items ≡ ps
    → Good new.ledger → Runs old.ledger (take (length ps) (r ∷ [])) ps new.ledger
    → RepliesAll old.ledger (items_of (take (length ps) (r ∷ []))) run.lines.items new.ledger
    → (run.ending ≡ All ↔ length ps ≡ 1) → TellsStop (run.ending ≡ Stopped) old new
    → (run.ending ≡ Stopped → HasAccepted new.ledger (take 1 (drop (length ps) (r ∷ []))))
    → (run.ending ≡ Stopped → new.is_honest
    → (next : Ledger) × After old.ledger (r ∷ []) (length ps + 1) next × LeavesEither new.leaves new.ledger next)
    → RunsList None old (r ∷ []) run new
list_alone old new r run ps are good runs lines all stop accepted either =
    let size : answered run ≡ length ps = ap (λ (qs : List Reply). length qs) are in record {
      none_unasked = let short = at_most ps runs in omega (arith, size, short);
      some = λ is. let one = all.0 is in omega (arith, size, one);
      batch = λ _. (
        ps,
        subst (λ n. IsBatch old.ledger (take n (r ∷ [])) ps new.ledger) (sym size)
            (alone_batch old.ledger new.ledger r ps runs),
      );
      lines = λ _. subst (λ n. RepliesAll old.ledger (items_of (take n (r ∷ []))) run.lines.items new.ledger) (sym size) lines;
      stopped = stops ps runs all accepted either;
      stop = stop;
    }
  where
    at_most : (ps : List Reply) → Runs old.ledger (take (length ps) (r ∷ [])) ps new.ledger → length ps ≤ 1
    at_most [] same = omega arith
    at_most (p ∷ []) h = omega arith
    at_most (p ∷ q ∷ ps) (M, answer, extra) = absurd extra

    stops : (ps : List Reply) → Runs old.ledger (take (length ps) (r ∷ [])) ps new.ledger
        → (run.ending ≡ All ↔ length ps ≡ 1)
        → (run.ending ≡ Stopped → HasAccepted new.ledger (take 1 (drop (length ps) (r ∷ []))))
        → (run.ending ≡ Stopped → new.is_honest
        → (next : Ledger) × After old.ledger (r ∷ []) (length ps + 1) next
        × LeavesEither new.leaves new.ledger next) → run.ending ≡ Stopped → StopsIn None old (r ∷ []) new
    stops [] same all accepted either is = alone_stops old new r (subst Good same good) same (by (accepted is)) (either is)
      where
        by : HasAccepted new.ledger (r ∷ []) → IsAccepted old.ledger r
        by (inl this) = subst (λ L. IsAccepted L r) same this
        by (inr none) = absurd none
    stops (p ∷ []) h all accepted either is = absurd (let both = sym is ∙ all.1 refl in cc)
    stops (p ∷ q ∷ ps) (M, answer, extra) all accepted either is = absurd extra

pub list_of_one : (old new : DeskState) (rs : List Request) (run : Run) → 1 ≤ length rs → length rs ≤ 1
    → Good new.ledger → Runs old.ledger (take (answered run) rs) run.replies.items new.ledger
    → RepliesAll old.ledger (items_of (take (answered run) rs)) run.lines.items new.ledger
    → (run.ending ≡ All ↔ answered run ≡ length rs) → TellsStop (run.ending ≡ Stopped) old new
    → (run.ending ≡ Stopped → HasAccepted new.ledger (take 1 (drop (answered run) rs)))
    → (run.ending ≡ Stopped → new.is_honest
    → (next : Ledger) × After old.ledger rs (answered run + 1) next × LeavesEither new.leaves new.ledger next)
    → RunsList None old rs run new
list_of_one old new [] run some few good runs lines all stop accepted either = absurd (omega arith)
list_of_one old new (r ∷ []) run some few good runs lines all stop accepted either =
    list_alone old new r run run.replies.items refl good runs lines all stop accepted either
list_of_one old new (r ∷ q ∷ rs) run some few good runs lines all stop accepted either = absurd (omega arith)

-- ---- list after list

-- a list that is cut stands behind requests that are answered
module _ (fault : ScriptFault) (together : Option NonZeroUsize) (old mid new : DeskState) (rs some : List Request)
    (n k : ℕ) (W X w : Option (List ℕ)) where
  pub cut_behind : old.is_stopped ≡ false → mid.is_stopped ≡ false → some ≡ take k (drop n rs)
      → WritesLines old.ledger (items_of (take n rs)) mid.ledger W X → CutAt fault together mid some new X w
      → CutAt fault together old rs new W w
  cut_behind went here are (lines, replies, writes) (cut, more) = (
    record {
      answered = take n rs ++ cut.answered;
      last = cut.last;
      left = cut.left ++ drop k (drop n rs);
      split = whole;
      few = cut.few;
      before = cut.before;
      behind = cut.behind;
      lines = lines ++ cut.lines;
      begun = cut.begun;
      unwritten = cut.unwritten;
      replies = subst (λ (xs : List Item). RepliesAll old.ledger xs (lines ++ cut.lines) cut.before)
          (sym (items_joined (take n rs) cut.answered))
          (replies_joined (items_of (take n rs)) (items_of cut.answered) old.ledger mid.ledger cut.before lines
          cut.lines replies cut.replies);
      rest = cut.rest;
      batch = cut.batch;
      shown = cut.shown;
      unread = cut.unread;
      told = cut.told;
      memory = cut.memory;
      stop = record { stopped = cut.stop.stopped; going = λ other. cut.stop.going other ∙ here ∙ sym went };
      stopped = λ is _. cut.stopped is here;
      refused = λ halted. absurd (true≢false (sym halted ∙ went));
    },
    subst (Appends W w) (sym (append_assoc lines cut.lines cut.begun)) (Appends-trans _ _ _ _ _ writes more),
  )
    where
      inner : drop n rs ≡ ((cut.answered ++ cut.last) ++ cut.left) ++ drop k (drop n rs)
      inner = sym (take-append-drop k (drop n rs)) ∙ ap (λ (xs : List Request). xs ++ drop k (drop n rs)) (sym are ∙ cut.split)

      whole : rs ≡ ((take n rs ++ cut.answered) ++ cut.last) ++ (cut.left ++ drop k (drop n rs))
      whole =
          sym (take-append-drop n rs)
          ∙ ap (λ (xs : List Request). take n rs ++ xs)
          (inner ∙ append_assoc (cut.answered ++ cut.last) cut.left (drop k (drop n rs)))
          ∙ sym (append_assoc (take n rs) (cut.answered ++ cut.last) (cut.left ++ drop k (drop n rs)))
          ∙ ap (λ (xs : List Request). xs ++ (cut.left ++ drop k (drop n rs)))
          (sym (append_assoc (take n rs) cut.answered cut.last))

-- nothing but requests was answered, by a desk that goes on
pub may_requests : (desk : DeskState) (rs : List Request) → desk.is_stopped ≡ false
    → Each (MayAnswer (snapshot desk)) (items_of rs)
may_requests desk [] going = tt
may_requests desk (r ∷ rs) going = (going, may_requests desk rs going)

-- requests that are answered, and a list more
pub answered_further : (A M B : Ledger) (rs some : List Request) (n k count : ℕ) (W X w : Option (List ℕ))
    → some ≡ take k (drop n rs) → count ≤ length some → WritesLines A (items_of (take n rs)) M W X
    → WritesLines M (items_of (take count some)) B X w → WritesLines A (items_of (take (n + count) rs)) B W w
answered_further A M B rs some n k count W X w are few (lines, replies, writes) (more, others, appends) =
    let short : length some ≤ k = subst (λ (xs : List Request). length xs ≤ k) (sym are) (length_take_most k (drop n rs)) in
    let same : take (n + count) rs ≡ take n rs ++ take count some =
    take-add n count rs
    ∙ ap (λ (xs : List Request). take n rs ++ xs)
    (sym (take-take count k (drop n rs) (omega (arith, short, few)))
    ∙ ap (λ (xs : List Request). take count xs) (sym are)) in (
      lines ++ more,
      subst (λ (xs : List Request). RepliesAll A (items_of xs) (lines ++ more) B) (sym same)
          (subst (λ (xs : List Item). RepliesAll A xs (lines ++ more) B) (sym (items_joined (take n rs) (take count some)))
          (replies_joined (items_of (take n rs)) (items_of (take count some)) A M B lines more replies others)),
      Appends-trans _ _ _ _ _ writes appends,
    )
