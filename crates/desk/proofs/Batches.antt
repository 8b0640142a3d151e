-- Batches: how they are made, and that they come again.
use Rattle.std.proofs.Common.{◌≡◌, ◌≢◌, ◌∙◌, ◌+◌, ◌-◌, ◌<◌, ◌≤◌, ◌++◌, ◌⊎◌, Bool, false, true, true≢false, ℕ, List, []}
use Rattle.std.proofs.Common.{◌∷◌, ap, append-nil, append_assoc, arith, drop, inl, inr, length, refl, subst, sym, take}
use Rattle.std.proofs.Common.{Err, Ok, Result}
use Rattle.std.proofs.lemmas.Bool.{eqb-true}
use Rattle.std.proofs.lemmas.List.{length-append, length-drop, map-append}
use Rattle.std.proofs.Math.Seq.{take-add, take-length}
use Rattle.std.proofs.lemmas.List.Elements.{All-append, All-from_recursion}
use Rattle.std.specs.Prelude.{◌==◌, All, OnOk}
use Rattle.std.specs.List.{AllByRecursion as Each}
use Rattle.words.specs.declared.command.Request.{Request}
use Rattle.words.specs.declared.reply.Reply.{Reply}
use Rattle.words.specs.declared.reply.Reply.TheVariants.{Done}
use Rattle.escrow.specs.Codes.{IsKey}
use Rattle.words.specs.Spelling.{IsInRange}
use Rattle.ledger.specs.Answers.{Answers, IsAccepted, Runs}
use Rattle.ledger.specs.Good.{Good}
use Rattle.ledger.specs.Ledger.{Ledger}
use Rattle.ledger.specs.Rows.{Content, DeskCells, IsRowsOf}
use Rattle.ledger.specs.Tables.{desk_cells}
use Rattle.ledger.specs.Tables.{rows_among, with_change}
use Rattle.ledger.specs.declared.rows.Change.{Change}
use Rattle.ledger.specs.declared.rows.Change.TheVariants as change
use Rattle.ledger.proofs.Puts.{put_in_turn}
use Rattle.ledger.proofs.Runs.{accepted_answered}
use Rattle.ledger.specs.Changes.{put_content}
use Rattle.ledger.specs.Next.{accept}
use Rattle.book.specs.Plans.{Fits, PlanView}
use Rattle.ledger.specs.Rows.{desk_row}
use Rattle.desk.proofs.NextRows.{next_rows}
use Rattle.keep.specs.Content.{IsAmong, IsTheRow, with_changes}
use Rattle.keep.specs.Keeping.{GoesOn}
use Rattle.keep.specs.declared.keep.Keep.{Ghosts}
use Rattle.keep.specs.declared.keep.KeepFault.{KeepFault}
use Rattle.desk.specs.Desk.{DeskState, HasAccepted, IsStored}
use Rattle.desk.specs.Replies.{request_line}
use Rattle.desk.specs.Text.{RepliesAll, items_of}
use Rattle.desk.proofs.Texts.{replies_joined, replies_more}
use Rattle.desk.specs.declared.reply.TheConstants.{LONGEST_LINE}
use Rattle.words.specs.declared.item.Item.{Item}
use Rattle.words.specs.declared.item.Item.TheVariants as item
use Rattle.desk.specs.Together.{BatchSoFar, FailsAt, IsBatch, IsDone, Joins}
use Rattle.desk.specs.declared.together.Batch.{Batch}
use Rattle.desk.proofs.Resumption.{runs_joined, runs_on as runs_behind}
use Rattle.desk.proofs.RunsOn.{runs_on}
use Rattle.desk.specs.declared.run.Ending.{Ending}
use Rattle.desk.specs.declared.run.Ending.TheVariants.{All as AllAnswered, Memory as OutOfMemory, Stopped}

-- ---- how many rows

-- the rows of all tables
abbrev count_of : Content → ℕ
count_of C = length C.desk + length C.fields + length C.moves + length C.orders + length C.lines + length C.kept + length C.firms

one_counts : (c : Change) (C : Content) → count_of (with_change c C) ≡ count_of C + 1
one_counts (change.Desk r) C = omega arith
one_counts (change.Field r) C = omega arith
one_counts (change.Move r) C = omega arith
one_counts (change.Order r) C = omega arith
one_counts (change.Line r) C = omega arith
one_counts (change.Kept r) C = omega arith
one_counts (change.Firm r) C = omega arith

counted : (cs : List Change) → length cs ≡ count_of (rows_among cs)
counted [] = refl
counted (c ∷ cs) = let more = counted cs in let one = one_counts c (rows_among cs) in omega arith

-- lists of the same rows are of one length
pub same_count : (xs ys : List Change) → rows_among xs ≡ rows_among ys → length xs ≡ length ys
same_count xs ys same = counted xs ∙ ap count_of same ∙ sym (counted ys)

-- the rows of `desk` among two lists
pub desk_joined : (xs ys : List Change) → (rows_among (xs ++ ys)).desk ≡ (rows_among xs).desk ++ (rows_among ys).desk
desk_joined [] ys = refl
desk_joined (change.Desk r ∷ xs) ys = ap (λ (rows : List DeskCells). desk_cells r ∷ rows) (desk_joined xs ys)
desk_joined (change.Field r ∷ xs) ys = desk_joined xs ys
desk_joined (change.Move r ∷ xs) ys = desk_joined xs ys
desk_joined (change.Order r ∷ xs) ys = desk_joined xs ys
desk_joined (change.Line r ∷ xs) ys = desk_joined xs ys
desk_joined (change.Kept r ∷ xs) ys = desk_joined xs ys
desk_joined (change.Firm r ∷ xs) ys = desk_joined xs ys

-- ---- one request more

-- its line
pub lines_on : (A M B : Ledger) (rs : List Request) (r : Request) (reply : Reply) (out : List ℕ)
    → RepliesAll A (items_of rs) out M → Answers M r reply B
    → RepliesAll A (items_of (rs ++ r ∷ [])) (out ++ request_line r.key reply) B
lines_on A M B rs r reply out so_far answer =
    subst (λ (xs : List Item). RepliesAll A xs (out ++ request_line r.key reply) B)
    (sym (map-append (λ x. item.Request x) rs (r ∷ [])))
    (replies_more (items_of rs) (item.Request r) A M B out (request_line r.key reply) so_far (reply, answer, refl))

each_joined : (P : Reply → Type 0) (xs : List Reply) (y : Reply) → Each P xs → P y → Each P (xs ++ y ∷ [])
each_joined P [] y h p = (p, tt)
each_joined P (x ∷ xs) y h p = (h.0, each_joined P xs y h.1 p)

pub batch_new : (A : Ledger) (batch : Batch) → Good A → batch.run.replies.items ≡ [] → batch.run.lines.items ≡ []
    → batch.changes.items ≡ [] → batch.has_refused ≡ false → BatchSoFar A [] batch A
batch_new A batch good none no_text no_rows going = record {
  is_batch = record {
    first = [];
    behind = [];
    told = [];
    refused = [];
    requests_are = refl;
    replies_are = none;
    done = refl;
    all_done = tt;
    rest = refl;
  };
  rows = λ C is. subst (λ (cs : List Change). IsRowsOf A (with_changes cs C)) (sym no_rows) is;
  desk = subst (λ (cs : List Change). All IsTheRow (rows_among cs).desk) (sym no_rows) (All-from_recursion IsTheRow [] tt);
  all_done = λ _. (subst (λ (ps : List Reply). Runs A [] ps A) (sym none) refl, subst (Each IsDone) (sym none) tt);
  some = λ has. absurd (true≢false (sym has ∙ going));
  none = λ _. no_rows;
  accepted = inr (refl, no_rows);
  lines = (no_text, refl);
  short = let size = ap (λ (xs : List ℕ). length xs) no_text in omega (arith, size);
  good = good;
}

-- one is accepted among more requests
has_before : (A : Ledger) (rs : List Request) (r : Request) → HasAccepted A rs → HasAccepted A (rs ++ r ∷ [])
has_before A [] r has = absurd has
has_before A (q ∷ rs) r (inl this) = inl this
has_before A (q ∷ rs) r (inr has) = inr (has_before A rs r has)

has_last : (A : Ledger) (rs : List Request) (r : Request) → IsAccepted A r → HasAccepted A (rs ++ r ∷ [])
has_last A [] r this = inl this
has_last A (q ∷ rs) r this = inr (has_last A rs r this)

module _ (A M B : Ledger) (rs : List Request) (r : Request) (old new : Batch) (so_far : BatchSoFar A rs old M)
    (h : Joins M r old new B) where
  -- one is accepted, or nothing has changed
  accepted_more : HasAccepted A (rs ++ r ∷ []) ⊎ ((B ≡ A) × (new.changes.items ≡ []))
  accepted_more = by so_far.accepted h.accepted
    where
      by : HasAccepted A rs ⊎ ((M ≡ A) × (old.changes.items ≡ [])) → IsAccepted M r ⊎ ((B ≡ M) × (h.more ≡ []))
          → HasAccepted A (rs ++ r ∷ []) ⊎ ((B ≡ A) × (new.changes.items ≡ []))
      by (inl has) this = inl (has_before A rs r has)
      by (inr (same, none)) (inl this) = inl (has_last A rs r (subst (λ L. IsAccepted L r) same this))
      by (inr (same, none)) (inr (stays, no_more)) =
          inr (stays ∙ same, h.changes ∙ ap (λ (cs : List Change). cs ++ h.more) none ∙ no_more)

  -- all are done so far, and so is this one
  all_more : new.has_refused ≡ false → Runs A (rs ++ r ∷ []) new.run.replies.items B × Each IsDone new.run.replies.items
  all_more going =
      let (is_done, before) = h.done going in
      let (run, each) = so_far.all_done before in (
        subst (λ (ps : List Reply). Runs A (rs ++ r ∷ []) ps B) (sym h.replies)
            (runs_on A M B rs old.run.replies.items r h.reply run h.answer),
        subst (Each IsDone) (sym h.replies) (each_joined IsDone old.run.replies.items h.reply each is_done),
      )

  batch_more : (b : Bool) → new.has_refused ≡ b → IsBatch A (rs ++ r ∷ []) new.run.replies.items B
  batch_more false going =
      let (run, each) = all_more going in
      record {
        first = rs ++ r ∷ [];
        behind = [];
        told = new.run.replies.items;
        refused = [];
        requests_are = sym (append-nil (rs ++ r ∷ []));
        replies_are = sym (append-nil new.run.replies.items);
        done = run;
        all_done = each;
        rest = refl;
      }
  batch_more true has =
      let was = so_far.is_batch in
      let same : B ≡ M = h.nothing has in
      let stays : Answers M r h.reply M = subst (λ L. Answers M r h.reply L) same h.answer in
      subst (λ L. IsBatch A (rs ++ r ∷ []) new.run.replies.items L) (sym same) (record {
        first = was.first;
        behind = was.behind ++ r ∷ [];
        told = was.told;
        refused = was.refused ++ h.reply ∷ [];
        requests_are = ap (λ (xs : List Request). xs ++ r ∷ []) was.requests_are ∙ append_assoc was.first was.behind (r ∷ []);
        replies_are =
            h.replies ∙ ap (λ (ps : List Reply). ps ++ h.reply ∷ []) was.replies_are
            ∙ append_assoc was.told was.refused (h.reply ∷ []);
        done = was.done;
        all_done = was.all_done;
        rest = runs_on M M M was.behind was.refused r h.reply was.rest stays;
      })

  pub joined_more : BatchSoFar A (rs ++ r ∷ []) new B
  joined_more = record {
    is_batch = batch_more new.has_refused refl;
    rows = λ C is. subst (IsRowsOf B)
        (sym (ap (λ (cs : List Change). with_changes cs C) h.changes ∙ put_in_turn old.changes.items h.more C))
        (h.rows (with_changes old.changes.items C) (so_far.rows C is));
    desk = subst (λ (cs : List Change). All IsTheRow (rows_among cs).desk) (sym h.changes)
        (subst (λ (rows : List DeskCells). All IsTheRow rows) (sym (desk_joined old.changes.items h.more))
        (All-append IsTheRow (rows_among old.changes.items).desk (rows_among h.more).desk so_far.desk h.desk));
    all_done = all_more;
    some = λ _.
        let size = ap (λ (ps : List Reply). length ps) h.replies ∙ length-append old.run.replies.items (h.reply ∷ []) in
        omega arith;
    none = λ is.
        let size = ap (λ (ps : List Reply). length ps) h.replies ∙ length-append old.run.replies.items (h.reply ∷ []) in
        let zero = ap (λ (ps : List Reply). length ps) is in
        absurd (omega (arith, size, zero));
    accepted = accepted_more;
    lines =
        subst (λ (out : List ℕ). RepliesAll A (items_of (rs ++ r ∷ [])) out B) (sym h.line)
        (lines_on A M B rs r h.reply old.run.lines.items so_far.lines h.answer);
    short =
        let size = ap (λ (ps : List Reply). length ps) h.replies ∙ length-append old.run.replies.items (h.reply ∷ []) in
        omega (arith, size, so_far.short, h.short);
    good = h.good;
  }

-- nothing more is planned: a reply, and no row
pub joined_told : (A : Ledger) (r : Request) (reply : Reply) (old new : Batch) → Good A → Answers A r reply A
    → new.run.replies.items ≡ old.run.replies.items ++ reply ∷ []
    → new.run.lines.items ≡ old.run.lines.items ++ request_line r.key reply → new.changes.items ≡ old.changes.items
    → (new.has_refused ≡ false → IsDone reply × (old.has_refused ≡ false))
    → length new.run.lines.items ≤ length old.run.lines.items + LONGEST_LINE → Joins A r old new A
joined_told A r reply old new good answer replies line same done short = record {
  short = short;
  reply = reply;
  replies = replies;
  line = line;
  answer = answer;
  more = [];
  changes = same ∙ sym (append-nil old.changes.items);
  rows = λ C is. is;
  desk = All-from_recursion IsTheRow [] tt;
  done = done;
  nothing = λ _. refl;
  accepted = inr (refl, refl);
  good = good;
}

-- an accepted request, whose plan is adopted
pub joined_accepted : (A B : Ledger) (plan : PlanView) (rows : List Change) (old new : Batch) → Good A
    → IsKey plan.request.key → IsInRange plan.request.command → Fits A plan → rows_among rows ≡ plan.changes
    → B ≡ accept A plan.request → Good B → old.has_refused ≡ false → new.has_refused ≡ false
    → new.run.replies.items ≡ old.run.replies.items ++ Done plan.place ∷ []
    → new.run.lines.items ≡ old.run.lines.items ++ request_line plan.request.key (Done plan.place)
    → new.changes.items ≡ old.changes.items ++ rows
    → length new.run.lines.items ≤ length old.run.lines.items + LONGEST_LINE → Joins A plan.request old new B
joined_accepted A B plan rows old new good key range fits are is_next good_then had has replies line changes short = record {
  short = short;
  reply = Done plan.place;
  replies = replies;
  line = line;
  answer =
      subst (λ L. Answers A plan.request (Done plan.place) L) (sym is_next)
      (subst (λ p. Answers A plan.request (Done p) (accept A plan.request)) (sym fits.place)
      (accepted_answered A plan.request fits.accepted));
  more = rows;
  changes = changes;
  rows = λ C is. subst (λ L. IsRowsOf L (with_changes rows C)) (sym is_next)
      (subst (λ some. IsRowsOf (accept A plan.request) (put_content some C)) (sym are)
      (next_rows A plan C good key range fits is));
  desk = subst (λ (some : Content). All IsTheRow some.desk) (sym are)
      (subst (λ (some : List DeskCells). All IsTheRow some) (sym fits.changes.desk)
      (All-from_recursion IsTheRow (desk_row (accept A plan.request) ∷ []) ((refl, refl), tt)));
  done = λ _. ((plan.place, refl), had);
  nothing = λ refused. absurd (true≢false (sym refused ∙ has));
  accepted = inl fits.accepted;
  good = good_then;
}

-- ---- kept, or not

-- a batch is a run
pub batch_runs : (A B : Ledger) (rs : List Request) (ps : List Reply) → IsBatch A rs ps B → Runs A rs ps B
batch_runs A B rs ps h = subst (λ (xs : List Request). Runs A xs ps B) (sym h.requests_are)
    (subst (λ (qs : List Reply). Runs A (h.first ++ h.behind) qs B) (sym h.replies_are)
    (runs_joined A B B h.first h.behind h.told h.refused h.done h.rest))

module _ (A B : Ledger) (rs : List Request) (batch : Batch) (ps : List Reply)
    (so_far : BatchSoFar A (take (length batch.run.replies.items) rs) batch B) (same : ps ≡ batch.run.replies.items) where
  pub batch_told : IsBatch A (take (length ps) rs) ps B
  batch_told = subst (λ (qs : List Reply). IsBatch A (take (length qs) rs) qs B) (sym same) so_far.is_batch

  pub lines_told : (out : List ℕ) → out ≡ batch.run.lines.items → RepliesAll A (items_of (take (length ps) rs)) out B
  lines_told out are = subst (λ (qs : List Reply). RepliesAll A (items_of (take (length qs) rs)) out B) (sym same)
      (subst (λ (text : List ℕ). RepliesAll A (items_of (take (length batch.run.replies.items) rs)) text B) (sym are)
      so_far.lines)

one_at_least : (ps : List Reply) → ps ≢ [] → 1 ≤ length ps
one_at_least [] some = absurd (some refl)
one_at_least (p ∷ ps) some = omega arith

pub batch_fails : (old new : DeskState) (holds : Content → Type 0) (rs : List Request) (batch : Batch) (changes : List Change)
    → BatchSoFar old.ledger (take (length batch.run.replies.items) rs) batch new.ledger
    → length batch.run.replies.items ≤ length rs → Good old.ledger → changes ≡ batch.changes.items → changes ≢ []
    → (new.is_honest → IsStored holds old.leaves old.ledger)
    → (new.is_honest → (x : Content) → holds x → old.leaves (x ∷ []) → new.leaves (x ∷ with_changes changes x ∷ []))
    → FailsAt old rs [] new
batch_fails old new holds rs batch changes so_far few good are some stored either = record {
  mid = old.ledger;
  run = refl;
  count = length batch.run.replies.items;
  some = one_at_least batch.run.replies.items (λ none. some (are ∙ so_far.none none));
  none_unasked = omega arith;
  untold = batch.run.replies.items;
  batch = so_far.is_batch;
  accepted = has so_far.accepted;
  either = λ honest. let s = stored honest in record {
    good_before = good;
    good_after = so_far.good;
    before = s.rows;
    after = with_changes changes s.rows;
    are_before = s.are_rows;
    are_after =
        subst (λ (cs : List Change). IsRowsOf new.ledger (with_changes cs s.rows)) (sym are)
        (so_far.rows s.rows s.are_rows);
    either = either honest s.rows s.held s.alone;
  };
}
  where
    has : HasAccepted old.ledger (take (length batch.run.replies.items) rs)
        ⊎ ((new.ledger ≡ old.ledger) × (batch.changes.items ≡ []))
        → HasAccepted old.ledger (take (length batch.run.replies.items) rs)
    has (inl accepted) = accepted
    has (inr (same, none)) = absurd (some (are ∙ none))

-- ---- what is kept of it

-- a batch that changes no rows leaves them as they are stored
pub stored_still : (A B : Ledger) (rs : List Request) (batch : Batch) (holds : Content → Type 0)
    (leaves : List Content → Type 0) → BatchSoFar A rs batch B → batch.changes.items ≡ [] → IsStored holds leaves A
    → IsStored holds leaves B
stored_still A B rs batch holds leaves so_far none stored = record {
  rows = stored.rows;
  are_rows =
      subst (λ (cs : List Change). IsRowsOf B (with_changes cs stored.rows)) none
      (so_far.rows stored.rows stored.are_rows);
  held = stored.held;
  alone = stored.alone;
}

-- a commit keeps the rows behind a batch
pub stored_batch : (A B : Ledger) (rs : List Request) (batch : Batch) (changes : List Change)
    (holds holds_new : Content → Type 0) (old new : List Content → Type 0) → BatchSoFar A rs batch B
    → changes ≡ batch.changes.items → IsStored holds old A
    → ((x : Content) → holds x → holds_new (with_changes changes x)) → ((x : Content) → holds_new x → new (x ∷ []))
    → IsStored holds_new new B
stored_batch A B rs batch changes holds holds_new old new so_far are stored put alone = record {
  rows = with_changes changes stored.rows;
  are_rows =
      subst (λ (cs : List Change). IsRowsOf B (with_changes cs stored.rows)) (sym are)
      (so_far.rows stored.rows stored.are_rows);
  held = put stored.rows stored.held;
  alone = alone (with_changes changes stored.rows) (put stored.rows stored.held);
}

pub no_changes : (xs : List Change) (n : ℕ) → n ≡ length xs → (n == 0) ≡ true → xs ≡ []
no_changes [] n is none = refl
no_changes (x ∷ xs) n is none = let zero = eqb-true n 0 none in absurd (omega arith)

-- ---- a commit more, before that of a batch, that puts nothing in (for a control of edits)

-- what is one content, and the same again, is that or another
wider : (x y z : Content) → IsAmong (x ∷ x ∷ []) z → IsAmong (x ∷ y ∷ []) z
wider x y z (inl is) = inl is
wider x y z (inr (inl is)) = inl is
wider x y z (inr (inr never)) = absurd never

module _ {K : Type 0} (g : Ghosts K) (old mid new : K) (none : List Change) (empty : none ≡ []) where
  abbrev Puts : Type 0
  Puts = (x : Content) → g.holds old x → g.holds mid (with_changes none x)

  kept_by : Puts → (x : Content) → g.holds old x → g.holds mid x
  kept_by puts x there = subst (λ (cs : List Change). g.holds mid (with_changes cs x)) empty (puts x there)

  -- where the second is kept, the first has changed nothing
  pub held_between : {S T : Type 0} (first : Result S KeepFault) (second : Result T KeepFault) → GoesOn g.stopped old mid first
      → GoesOn g.stopped mid new second → OnOk first Puts → OnOk second ((x : Content) → g.holds old x → g.holds mid x)
  held_between first (Err fault) began went puts = tt
  held_between (Ok done) (Ok more) began went puts = kept_by puts
  held_between (Err fault) (Ok more) began went puts = let never = (went.refused began.err).0 in cc

  -- a stop leaves what the second alone would leave
  pub left_between : {S T : Type 0}
      (widens : (these those : List Content) → ((x : Content) → IsAmong these x → IsAmong those x) → g.leaves mid these
      → g.leaves mid those)
      (all : List Change) (first : Result S KeepFault) (second : Result T KeepFault)
      → GoesOn g.stopped old mid first → GoesOn g.stopped mid new second → OnOk first Puts
      → OnOk first ((x : Content) → g.holds mid x → g.leaves mid (x ∷ []))
      → ((x : Content) → g.holds old x → g.leaves old (x ∷ []) → g.leaves mid (x ∷ with_changes none x ∷ []))
      → (g.stopped mid ≡ false → (x : Content) → g.holds mid x → g.leaves mid (x ∷ [])
      → g.leaves new (x ∷ with_changes all x ∷ []))
      → (x : Content) → g.holds old x → g.leaves old (x ∷ []) → g.leaves new (x ∷ with_changes all x ∷ [])
  left_between widens all (Ok done) second began went puts alone either then x there only =
      let held = kept_by puts x there in then began.ok x held (alone x held)
  left_between widens all (Err fault) second began went puts alone either then x there only =
      let twice = subst (λ (cs : List Change). g.leaves mid (x ∷ with_changes cs x ∷ [])) empty (either x there only) in
      subst (λ k. g.leaves k (x ∷ with_changes all x ∷ [])) (sym (went.refused began.err).1)
      (widens (x ∷ x ∷ []) (x ∷ with_changes all x ∷ []) (wider x (with_changes all x)) twice)

-- ---- batch after batch

pub none_told : (A : Ledger) (rs : List Request) (ps : List Reply) → ps ≡ [] → Runs A (take (length ps) rs) ps A
none_told A rs ps none = subst (λ (qs : List Reply). Runs A (take (length qs) rs) qs A) (sym none) refl

-- requests that are answered, and a batch more
pub run_further : (A M B : Ledger) (rs : List Request) (n : ℕ) (ps qs all : List Reply) → n ≡ length ps
    → Runs A (take (length ps) rs) ps M → all ≡ ps ++ qs → Runs M (take (length qs) (drop n rs)) qs B
    → Runs A (take (length all) rs) all B
run_further A M B rs n ps qs all is run same more =
    let size : length all ≡ length ps + length qs = ap (λ (xs : List Reply). length xs) same ∙ length-append ps qs in
    subst (λ i. Runs A (take i rs) all B) (sym size)
    (subst (λ (xs : List Reply). Runs A (take (length ps + length qs) rs) xs B) (sym same)
    (runs_behind A M B rs (length ps) ps qs run (subst (λ i. Runs M (take (length qs) (drop i rs)) qs B) is more)))

-- their lines
lines_further : (A M B : Ledger) (rs : List Request) (n : ℕ) (ps qs all : List Reply) (text more : List ℕ)
    → n ≡ length ps → RepliesAll A (items_of (take (length ps) rs)) text M → all ≡ ps ++ qs
    → RepliesAll M (items_of (take (length qs) (drop n rs))) more B
    → RepliesAll A (items_of (take (length all) rs)) (text ++ more) B
lines_further A M B rs n ps qs all text more is told same then =
    let size : length all ≡ length ps + length qs = ap (λ (xs : List Reply). length xs) same ∙ length-append ps qs in
    let split : items_of (take (length all) rs)
    ≡ items_of (take (length ps) rs) ++ items_of (take (length qs) (drop (length ps) rs)) =
    ap (λ i. items_of (take i rs)) size ∙ ap items_of (take-add (length ps) (length qs) rs)
    ∙ map-append (λ x. item.Request x) (take (length ps) rs) (take (length qs) (drop (length ps) rs)) in
    subst (λ (xs : List Item). RepliesAll A xs (text ++ more) B) (sym split)
    (replies_joined (items_of (take (length ps) rs)) (items_of (take (length qs) (drop (length ps) rs))) A M B text more
    told (subst (λ i. RepliesAll M (items_of (take (length qs) (drop i rs))) more B) is then))

pub no_lines : (A : Ledger) (rs : List Request) (ps : List Reply) (out : List ℕ) → ps ≡ [] → out ≡ []
    → RepliesAll A (items_of (take (length ps) rs)) out A
no_lines A rs ps out none empty =
    subst (λ (qs : List Reply). RepliesAll A (items_of (take (length qs) rs)) out A) (sym none) (empty, refl)

-- the replies to requests and their lines, and the ledger behind them
abbrev pub Tells : Ledger → List Request → List Reply → List ℕ → Ledger → Type 0
Tells A rs ps out B = Runs A (take (length ps) rs) ps B × RepliesAll A (items_of (take (length ps) rs)) out B

pub tells_further : (A M B : Ledger) (rs : List Request) (n : ℕ) (ps qs all : List Reply) (text more out : List ℕ)
    → n ≡ length ps → Tells A rs ps text M → all ≡ ps ++ qs → out ≡ text ++ more → Tells M (drop n rs) qs more B
    → Tells A rs all out B
tells_further A M B rs n ps qs all text more out is so_far same are then = (
  run_further A M B rs n ps qs all is so_far.0 same then.0,
  subst (λ (xs : List ℕ). RepliesAll A (items_of (take (length all) rs)) xs B) (sym are)
      (lines_further A M B rs n ps qs all text more is so_far.1 same then.1),
)

-- and however that batch ended
pub told_so_far : (A M B : Ledger) (rs : List Request) (n : ℕ) (ps qs all : List Reply) (text more out : List ℕ)
    (ending : Ending) → n ≡ length ps → Tells A rs ps text M → all ≡ ps ++ qs → out ≡ text ++ more
    → (ending ≢ Stopped → Tells M (drop n rs) qs more B) → (ending ≡ Stopped → (qs ≡ []) × (more ≡ []))
    → (mid : Ledger) × Runs A (take (length all) rs) all mid × (ending ≢ Stopped → B ≡ mid)
    × RepliesAll A (items_of (take (length all) rs)) out mid
told_so_far A M B rs n ps qs all text more out AllAnswered is so_far same are kept none =
    let tells = tells_further A M B rs n ps qs all text more out is so_far same are (kept (λ e. cc)) in
    (B, tells.0, (λ _. refl), tells.1)
told_so_far A M B rs n ps qs all text more out OutOfMemory is so_far same are kept none =
    let tells = tells_further A M B rs n ps qs all text more out is so_far same are (kept (λ e. cc)) in
    (B, tells.0, (λ _. refl), tells.1)
told_so_far A M B rs n ps qs all text more out Stopped is so_far same are kept none =
    let (no_more, empty) = none refl in
    let alone : all ≡ ps = same ∙ ap (λ (xs : List Reply). ps ++ xs) no_more ∙ append-nil ps in
    let only : out ≡ text = are ∙ ap (λ (xs : List ℕ). text ++ xs) empty ∙ append-nil text in (
      M,
      subst (λ (xs : List Reply). Runs A (take (length xs) rs) xs M) (sym alone) so_far.0,
      (λ other. absurd (other refl)),
      subst (λ (xs : List Reply). RepliesAll A (items_of (take (length xs) rs)) out M) (sym alone)
          (subst (λ (xs : List ℕ). RepliesAll A (items_of (take (length ps) rs)) xs M) (sym only) so_far.1),
    )

-- what stands behind the first n, as a slice
pub slice_is : (rs : List Request) (n : ℕ) → take (length rs - n) (drop n rs) ≡ drop n rs
slice_is rs n = ap (λ i. take i (drop n rs)) (sym (length-drop n rs)) ∙ take-length (drop n rs)

-- a batch of what stands behind the first n
pub batch_tells : (M B : Ledger) (rs : List Request) (n : ℕ) (qs : List Reply) (more : List ℕ)
    → IsBatch M (take (length qs) (take (length rs - n) (drop n rs))) qs B
    → RepliesAll M (items_of (take (length qs) (take (length rs - n) (drop n rs)))) more B
    → Tells M (drop n rs) qs more B
batch_tells M B rs n qs more batch lines =
    subst (λ (xs : List Request). Tells M xs qs more B) (slice_is rs n)
    (batch_runs M B (take (length qs) (take (length rs - n) (drop n rs))) qs batch, lines)

-- ---- the batches behind it

-- how many stand behind the first n
slice_counts : (rs : List Request) (n : ℕ) → length (take (length rs - n) (drop n rs)) ≡ length rs - n
slice_counts rs n = ap (λ (xs : List Request). length xs) (slice_is rs n) ∙ length-drop n rs

module _ (rs : List Request) (n : ℕ) (ps qs all : List Reply) (size : n ≡ length ps) (same : all ≡ ps ++ qs) where
  longer : length all ≡ n + length qs
  longer = ap (λ (xs : List Reply). length xs) same ∙ length-append ps qs ∙ ap (λ k. k + length qs) (sym size)

  -- where a batch ends before the list does, not all are answered
  pub some_unanswered : length qs < length (take (length rs - n) (drop n rs)) → length all ≢ length rs
  some_unanswered few whole = let left = slice_counts rs n in let both = longer in omega arith

  -- each batch answers some
  pub fewer_left : n < length rs → (1 ≤ length (take (length rs - n) (drop n rs)) → 1 ≤ length qs)
      → length rs - length all < length rs - length ps
  fewer_left within some =
      let left = slice_counts rs n in
      let both = longer in
      let more : 1 ≤ length qs = some (omega arith) in omega arith

-- a batch fails behind those that are answered
pub fails_further : (old mid new : DeskState) (rs : List Request) (n : ℕ) (ps qs all : List Reply) → n ≡ length ps
    → all ≡ ps ++ qs → qs ≡ [] → length ps ≤ length rs → Runs old.ledger (take (length ps) rs) ps mid.ledger
    → FailsAt mid (take (length rs - n) (drop n rs)) [] new → FailsAt old rs all new
fails_further old mid new rs n ps qs all size same none within run fails =
    let these : all ≡ ps = same ∙ ap (λ (xs : List Reply). ps ++ xs) none ∙ append-nil ps in
    let behind : take (length rs - n) (drop n rs) ≡ drop (length ps) rs = slice_is rs n ∙ ap (λ k. drop k rs) size in
    let left = slice_counts rs n in
    let asked = fails.none_unasked in
    subst (λ (xs : List Reply). FailsAt old rs xs new) (sym these) record {
      mid = fails.mid;
      run = subst (λ B. Runs old.ledger (take (length ps) rs) ps B) (sym fails.run) run;
      count = fails.count;
      some = fails.some;
      none_unasked = omega arith;
      untold = fails.untold;
      batch = subst (λ (xs : List Request). IsBatch fails.mid (take fails.count xs) fails.untold new.ledger) behind fails.batch;
      accepted = subst (λ (xs : List Request). HasAccepted fails.mid (take fails.count xs)) behind fails.accepted;
      either = fails.either;
    }

-- nothing is told
pub nothing_told : (A : Ledger) (rs : List Request) (ps : List Reply) (out : List ℕ) → ps ≡ [] → out ≡ [] → Tells A rs ps out A
nothing_told A rs ps out none empty = (none_told A rs ps none, no_lines A rs ps out none empty)
