-- What an opening finds after a script.
use Rattle.std.proofs.Common.{◌≡◌, false, ◌∙◌, ◌≤◌, ◌+◌, ◌++◌, ℕ, List, [], ◌∷◌, Option, append-nil, append_assoc}
use Rattle.std.proofs.Common.{arith, ap, inl, inr, length, refl, subst, sym, take}
use Rattle.std.specs.Prelude.{Err, IfErr, IfOk, IfSome, Ok, OnOk, Result}
use Rattle.std.specs.declared.num.NonZeroUsize.{NonZeroUsize}
use Rattle.std.proofs.lemmas.List.{length-append, length-map, take_at}
use Rattle.std.proofs.lemmas.Result.{on_ok_weaker}
use Rattle.words.specs.declared.command.Request.{Request}
use Rattle.words.specs.declared.item.Item.{Item}
use Rattle.words.specs.declared.item.Item.TheVariants as item
use Rattle.words.specs.declared.reply.Reply.TheVariants.{Done}
use Rattle.ledger.specs.Future.{Honours, HonoursAlways}
use Rattle.ledger.specs.Good.{Good}
use Rattle.ledger.specs.Ledger.{Ledger, places}
use Rattle.ledger.specs.Next.{accept}
use Rattle.ledger.specs.Rows.{Content, IsRowsOf}
use Rattle.ledger.proofs.Runs.{accepted_answered}
use Rattle.keep.specs.Content.{IsAmong}
use Rattle.desk.specs.Desk.{DeskState, DeskView, IsStored}
use Rattle.desk.specs.Headline.{IsFoundAfterItems, IsFoundAfterLines, LeavesRowsOf}
use Rattle.desk.specs.Opening.{keeper_after}
use Rattle.desk.specs.Replies.{request_line}
use Rattle.desk.specs.Dialogue.{EndsCut, EndsWhole, IsCut}
use Rattle.desk.specs.Script.{Writes, WritesLines, WritesText, lines}
use Rattle.desk.specs.Streams.{Streams}
use Rattle.desk.specs.Text.{RepliesAll, items_of}
use Rattle.desk.specs.Lists.{IsCutInLists, most_together}
use Rattle.desk.specs.declared.fault.OpenFault.{OpenFault}
use Rattle.desk.specs.declared.fault.ScriptFault.{ScriptFault}
use Rattle.desk.proofs.Faults.{is_stop, write_stops_nothing}
use Rattle.desk.proofs.LineAnswers.{are_told, cut_goes_on, cut_told, stopped_next, text_written, whole_goes_on}
use Rattle.desk.proofs.FoundAfter.{either_left, found_of, stored_left}
use Rattle.desk.proofs.ListLines.{items_joined}
use Rattle.desk.proofs.Texts.{replies_joined, replies_more}

first_of : (items before behind : List Item) → items ≡ before ++ behind → take (length before) items ≡ before
first_of items before behind split =
    ap (λ (xs : List Item). take (length before) xs) split ∙ take_at before behind (length before) refl

fits : (items before behind : List Item) → items ≡ before ++ behind → length before ≤ length items
fits items before behind split = let size = ap (λ (xs : List Item). length xs) split ∙ length-append before behind in omega arith

-- ---- after items

module _ (most : ℕ) (A : Ledger) (items : List Item) where
  -- the ledger behind what is told whole
  pub found_told : (M : Ledger) (written : List ℕ) (before behind : List Item) → items ≡ before ++ behind
      → RepliesAll A before written M → IsFoundAfterItems most A items written M
  found_told M written before behind split replies =
      let first = subst (λ (xs : List Item). RepliesAll A xs written M) (sym (first_of items before behind split)) replies in
      record {
        told = length before;
        mid = M;
        lines = written;
        begun = [];
        replies = first;
        written_are = sym (append-nil written);
        done = length before;
        none_lost = omega arith;
        few_more = omega arith;
        none_unasked = fits items before behind split;
        unwritten = [];
        after = subst (λ (out : List ℕ). RepliesAll A (take (length before) items) out M) (sym (append-nil written)) first;
      }

  -- the ledger behind some items more, whose lines are missing or cut
  pub found_done : (M B : Ledger) (written lines begun left : List ℕ) (before last behind : List Item)
      → items ≡ (before ++ last) ++ behind → length last ≤ most → RepliesAll A before lines M
      → written ≡ lines ++ begun → RepliesAll A (before ++ last) (lines ++ (begun ++ left)) B
      → IsFoundAfterItems most A items written B
  found_done M B written lines begun left before last behind split few replies is more =
      let size : length (before ++ last) ≡ length before + length last = length-append before last in
      let whole : written ++ left ≡ lines ++ (begun ++ left) =
      ap (λ (out : List ℕ). out ++ left) is ∙ append_assoc lines begun left in
      let there = fits items (before ++ last) behind split in
      record {
        told = length before;
        mid = M;
        lines = lines;
        begun = begun;
        replies =
            subst (λ (xs : List Item). RepliesAll A xs lines M)
            (sym (first_of items before (last ++ behind) (split ∙ append_assoc before last behind))) replies;
        written_are = is;
        done = length (before ++ last);
        none_lost = omega arith;
        few_more = omega arith;
        none_unasked = there;
        unwritten = left;
        after = subst (λ (xs : List Item). RepliesAll A xs (written ++ left) B)
            (sym (first_of items (before ++ last) behind split))
            (subst (λ (out : List ℕ). RepliesAll A (before ++ last) out B) (sym whole) more);
      }

  -- all are answered
  pub found_all : (M : Ledger) (W w : Option (List ℕ)) → WritesLines A items M W w
      → Writes W w (λ written. IsFoundAfterItems most A items written M)
  found_all M W w (lines, replies, writes) = (lines, writes, found_told M lines items [] (sym (append-nil items)) replies)

-- of these ledgers those that are of another kind
pub left_as : (leaves : List Content → Type 0) (Is So : Ledger → Type 0) → ((B : Ledger) → Is B → So B)
    → LeavesRowsOf leaves Is → LeavesRowsOf leaves So
left_as leaves Is So turn left = record {
  these = left.these;
  leaves_these = left.leaves_these;
  are_rows = λ x among. let (A, good, rows, is) = left.are_rows x among in (A, good, rows, turn A is);
}

-- ---- where a desk was cut that went on before, over an honest disk

module _ (old new : DeskState) (holds : Content → Type 0) (good : Good new.ledger) (went : old.is_stopped ≡ false)
    (honest : new.is_honest) (stored : new.is_stopped ≡ false → IsStored holds new.leaves new.ledger)
    (fault : ScriptFault) where
  -- one after the other
  module _ (items : List Item) (written : List ℕ) (cut : IsCut lines fault old items written new) where
    -- what is answered so far
    found_so_far : IsFoundAfterItems 1 old.ledger items written new.ledger
    found_so_far =
        let told = are_told fault old new items written cut in
        let split = subst (λ (xs : List Item). items ≡ xs ++ cut.left) told.split cut.split in
        let out = ap (λ (t : List ℕ). t ++ told.left) told.written_are ∙ append_assoc told.lines told.begun told.left in
        found_done 1 old.ledger items told.mid new.ledger written told.lines told.begun told.left told.before told.last
        cut.left split told.one told.replies told.written_are
        (subst (λ (t : List ℕ). RepliesAll old.ledger (told.before ++ told.last) t new.ledger) out
        (subst (λ (xs : List Item). RepliesAll old.ledger xs (written ++ told.left) new.ledger) told.split
        told.all))

    -- and what is left where the request that comes next stops the desk
    stop_left : fault ≡ ScriptFault.Stopped → LeavesRowsOf new.leaves (IsFoundAfterItems 1 old.ledger items written)
    stop_left is =
        let stops = cut.stops went (cut.stopped is).0 honest in
        let request = stops.request in
        let next = item.Request request in
        let M = new.ledger in
        let (behind, left) = stopped_next fault old new items written cut request stops.first in
        let told = cut_told fault old new items written cut (λ e. write_stops_nothing (sym e ∙ is)) in
        let split : items ≡ (cut.answered ++ next ∷ []) ++ behind =
        cut.split ∙ ap (λ (xs : List Item). cut.answered ++ xs) left
        ∙ sym (append_assoc cut.answered (next ∷ []) behind) in
        let line = request_line request.key (Done (places M + 1)) in
        let more : RepliesAll old.ledger (cut.answered ++ next ∷ []) (written ++ line) (accept M request) =
        replies_more cut.answered next old.ledger M (accept M request) written line told
        (Done (places M + 1), accepted_answered M request stops.accepted, refl) in
        either_left M (accept M request) (IsFoundAfterItems 1 old.ledger items written) new.leaves found_so_far
        (found_done 1 old.ledger items M (accept M request) written written [] line cut.answered (next ∷ []) behind
        split (omega arith) told (sym (append-nil written)) more) stops.either

    -- what a stop leaves where the answers are cut
    pub cut_left : LeavesRowsOf new.leaves (IsFoundAfterItems 1 old.ledger items written)
    cut_left = elim (is_stop fault) [
      | inl is ↦ stop_left is
      | inr other ↦
          stored_left new.ledger (IsFoundAfterItems 1 old.ledger items written) holds new.leaves good found_so_far
          (stored (cut_goes_on fault old new items written cut other ∙ went))
    ]

  -- by lists
  module _ (together : Option NonZeroUsize) (requests : List Request) (cut : IsCutInLists fault together old requests new) where
    abbrev InLists : Ledger → Type 0
    InLists B = IsFoundAfterItems (most_together together) old.ledger (items_of requests) (cut.lines ++ cut.begun) B

    split_items : items_of requests ≡ (items_of cut.answered ++ items_of cut.last) ++ items_of cut.left
    split_items =
        ap items_of cut.split ∙ items_joined (cut.answered ++ cut.last) cut.left
        ∙ ap (λ (xs : List Item). xs ++ items_of cut.left) (items_joined cut.answered cut.last)

    few_items : length (items_of cut.last) ≤ most_together together
    few_items = subst (λ n. n ≤ most_together together) (sym (length-map cut.last (λ r. item.Request r))) cut.few

    lists_behind : InLists cut.behind
    lists_behind =
        found_done (most_together together) old.ledger (items_of requests) cut.before cut.behind
        (cut.lines ++ cut.begun) cut.lines cut.begun cut.unwritten (items_of cut.answered) (items_of cut.last)
        (items_of cut.left) split_items few_items
        cut.replies refl (replies_joined (items_of cut.answered) (items_of cut.last) old.ledger cut.before cut.behind
        cut.lines (cut.begun ++ cut.unwritten) cut.replies cut.rest)

    lists_before : cut.begun ≡ [] → InLists cut.before
    lists_before none =
        let same = ap (λ (text : List ℕ). cut.lines ++ text) none ∙ append-nil cut.lines in
        subst (λ (text : List ℕ).
        IsFoundAfterItems (most_together together) old.ledger (items_of requests) text cut.before) (sym same)
        (found_told (most_together together) old.ledger (items_of requests) cut.before cut.lines (items_of cut.answered)
        (items_of cut.last ++ items_of cut.left)
        (split_items ∙ append_assoc (items_of cut.answered) (items_of cut.last) (items_of cut.left)) cut.replies)

    pub lists_left : LeavesRowsOf new.leaves InLists
    lists_left = elim (is_stop fault) [
      | inl is ↦
          either_left cut.before cut.behind InLists new.leaves
          (lists_before (cut.told (λ e. write_stops_nothing (sym e ∙ is)))) lists_behind
          ((cut.stopped is went).2 honest)
      | inr other ↦
          stored_left new.ledger InLists holds new.leaves good (subst InLists (sym (cut.shown other)) lists_behind)
          (stored (cut.stop.going other ∙ went))
    ]

  -- and a script
  pub ends_cut_left : (s : Streams) → EndsCut lines fault old new s → LeavesRowsOf new.leaves (IsFoundAfterLines old.ledger s)
  ends_cut_left s ends =
      left_as new.leaves (IsFoundAfterItems 1 old.ledger ends.questions ends.written) (IsFoundAfterLines old.ledger s)
      (λ B found. (ends.read, ends.questions, ends.reads, ends.are_questions, (ends.written, ends.writes, found)))
      (cut_left ends.questions ends.written ends.cut)

-- ---- after a script

-- all is read and answered
pub found_whole : (A M : Ledger) (s : Streams) → WritesText A M s → IsFoundAfterLines A s M
found_whole A M s ends = (
  ends.read,
  ends.text.items,
  ends.reads,
  ends.text.are_items,
  found_all 1 A ends.text.items M s.writer_old s.writer_new (ends.out, ends.text.replies, ends.writes),
)

module _ {T : Type 0} (ended : Result T ScriptFault) (old new : DeskState) (s : Streams) (holds : Content → Type 0)
    (good : Good new.ledger) (went : old.is_stopped ≡ false)
    (stored : new.is_stopped ≡ false → new.is_honest → IsStored holds new.leaves new.ledger) (honest : new.is_honest) where
  -- what a stop leaves behind a script, however that ended
  pub script_left : OnOk ended (EndsWhole lines old new s) → IfErr ended (λ fault. EndsCut lines fault old new s)
      → LeavesRowsOf new.leaves (IsFoundAfterLines old.ledger s)
  script_left = by ended
    where
      by : (r : Result T ScriptFault) → OnOk r (EndsWhole lines old new s)
          → IfErr r (λ fault. EndsCut lines fault old new s) → LeavesRowsOf new.leaves (IsFoundAfterLines old.ledger s)
      by (Ok done) whole cut =
          stored_left new.ledger (IsFoundAfterLines old.ledger s) holds new.leaves good
          (found_whole old.ledger new.ledger s (text_written old new s whole))
          (stored (whole_goes_on old new s whole ∙ went) honest)
      by (Err fault) whole cut = ends_cut_left old new holds good went honest (λ going. stored going honest) fault s cut

  -- and behind one that ended whole
  pub whole_left : OnOk ended (EndsWhole lines old new s) → OnOk ended (LeavesRowsOf new.leaves (λ B. WritesText old.ledger B s))
  whole_left =
      on_ok_weaker ended (λ whole. stored_left new.ledger (λ B. WritesText old.ledger B s) holds new.leaves good
      (text_written old new s whole) (stored (whole_goes_on old new s whole ∙ went) honest))

-- what is opened then is the ledger of the whole
pub whole_opened : {T K : Type 0} (Honest : K → Type 0) (leaves : List Content → Type 0) (Before : Type 0)
    (Is : Ledger → Type 0) (ended : Result T ScriptFault) (o : Option (Result (DeskView K) (OpenFault × K)))
    → IfSome o (λ r. Honest (keeper_after r) → Before) → (Before → OnOk ended (LeavesRowsOf leaves Is))
    → IfSome o (λ r.
    Honest (keeper_after r) → (these : List Content) → leaves these
    → IfOk r (λ desk. ∥ ((x : Content) × IsAmong these x × IsRowsOf desk.ledger x) ∥₁))
    → IfSome o (λ r. IfOk r (λ desk. Good desk.ledger × Honours desk.ledger × HonoursAlways desk.ledger))
    → OnOk ended (IfSome o (λ r. Honest (keeper_after r) → IfOk r (λ desk. ∥ Is desk.ledger ∥₁)))
whole_opened Honest leaves Before Is (Ok done) o before left found good =
    found_of Honest leaves Before Is o before left found good
whole_opened Honest leaves Before Is (Err fault) o before left found good = tt
