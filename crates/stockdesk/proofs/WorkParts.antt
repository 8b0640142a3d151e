-- What work on the desk of a good ledger has read and written.
use Rattle.std.proofs.Common.{◌≡◌, ◌∙◌, [], ◌++◌, List, ℕ, Option, ap, append_assoc, false, refl, subst, sym}
use Rattle.std.proofs.Math.Logic.{inl, inr}
use Rattle.std.specs.Io.KnownBytes.{Keeps}
use Rattle.std.proofs.KnownBytes.{Appends-kept, Appends-nil}
use Rattle.ledger.specs.Good.{Good}
use Rattle.ledger.specs.Ledger.{Ledger, new_ledger}
use Rattle.ledger.proofs.Runs.{good_new}
use Rattle.desk.specs.Desk.{DeskState, desk_state}
use Rattle.desk.specs.Streams.{IsSilent, Streams}
use Rattle.desk.specs.Text.{RepliesAll, items_of}
use Rattle.desk.proofs.LineAnswers.{text_written}
use Rattle.desk.proofs.ListLines.{items_joined}
use Rattle.desk.proofs.Texts.{replies_joined}
use Rattle.std.specs.declared.num.NonZeroUsize.{NonZeroUsize}
use Rattle.words.specs.declared.command.Request.{Request}
use Rattle.words.specs.declared.item.Item.{Item}
use Rattle.stockdesk.specs.Done.{DoesWork, DoesWorkInPart, PrintsRepliesInPart}
use Rattle.stockdesk.specs.Outside.{Outside}
use Rattle.stockdesk.specs.Requests.{FileCut}
use Rattle.stockdesk.specs.Sessions.{IsUnbegun, Session, desk_left}
use Rattle.stockdesk.specs.Work.{WorkCut, WorkInPart, WorkWhole}
use Rattle.stockdesk.specs.declared.session.Fault.{Fault}
use Rattle.command_line.specs.declared.work.Work.{Work}
use Rattle.command_line.specs.declared.work.Work.TheVariants.{Requests, Script, Serve, ServeAtOnce, Sheet}
use Rattle.stockdesk.proofs.Connections.{port_begun, port_unwritten, port_whole}
use Rattle.stockdesk.proofs.SessionParts.{cut_begins, not_unbegun, nothing_read, told_begun}

-- ---- nothing is read or written

nothing_printed : (A : Ledger) (s : Streams) → Good A → Keeps s.writer_old s.writer_new → PrintsRepliesInPart s
nothing_printed A s good writes = record {
  first = A;
  last = A;
  requests = [];
  answered = [];
  left = [];
  written = [];
  unwritten = [];
  good = good;
  split = refl;
  replies = (refl, refl);
  writes = Appends-kept _ _ _ _ (Appends-nil s.writer_old) writes;
}

pub works_nothing : (work : Work) (s : Streams) → IsSilent s → DoesWorkInPart work s
works_nothing Script s silent = (new_ledger, good_new, nothing_read new_ledger s silent)
works_nothing (Requests kind csv together) s (reads, writes) = (reads, nothing_printed new_ledger s good_new writes)
works_nothing (Sheet of) s (reads, writes) = (reads, inl (Appends-kept _ _ _ _ (Appends-nil s.writer_old) writes))
works_nothing (Serve service) s (reads, writes) = (reads, port_unwritten s.writer_old s.writer_new writes)
works_nothing (ServeAtOnce service at_once) s (reads, writes) = (reads, port_unwritten s.writer_old s.writer_new writes)

-- ---- what is cut

-- answers that are cut, by what their requests are
pub cut_of : (Are These : List Request → Type 0) → ((requests : List Request) → Are requests → These requests)
    → (together : Option NonZeroUsize) (fault : Fault) (old new : DeskState) (s : Streams)
    → FileCut Are together fault old new s → FileCut These together fault old new s
cut_of Are These on together fault old new s (inl unread) = inl unread
cut_of Are These on together fault old new s (inr (requests, are, cut)) = inr (requests, on requests are, cut)

module _ {C L R W G T : Type 0} (out : Outside C L R W G T) (fault : Fault) (old new : DeskState) (s : Streams) where
  replies_in_part : (AreIts : List Request → Type 0) (together : Option NonZeroUsize) → Good old.ledger
      → FileCut AreIts together fault old new s → PrintsRepliesInPart s
  replies_in_part AreIts together good (inl (unread, same, kept)) = nothing_printed old.ledger s good kept
  replies_in_part AreIts together good (inr (requests, its, (cause, told, (cut, writes)))) = record {
    first = old.ledger;
    last = cut.behind;
    requests = requests;
    answered = items_of cut.answered ++ items_of cut.last;
    left = items_of cut.left;
    written = cut.lines ++ cut.begun;
    unwritten = cut.unwritten;
    good = good;
    split =
        ap items_of cut.split ∙ items_joined (cut.answered ++ cut.last) cut.left
        ∙ ap (λ (xs : List Item). xs ++ items_of cut.left) (items_joined cut.answered cut.last);
    replies = subst (λ (out : List ℕ).
        RepliesAll old.ledger (items_of cut.answered ++ items_of cut.last) out cut.behind)
        (sym (append_assoc cut.lines cut.begun cut.unwritten))
        (replies_joined (items_of cut.answered) (items_of cut.last) old.ledger cut.before cut.behind cut.lines
        (cut.begun ++ cut.unwritten) cut.replies cut.rest);
    writes = writes;
  }

  -- what was written is a beginning
  pub cut_in_part : (work : Work) → Good old.ledger → old.is_stopped ≡ false → WorkCut out work fault old new s
      → DoesWorkInPart work s
  cut_in_part Script good going cut = (old.ledger, good, cut_begins fault old new s good going cut)
  cut_in_part (Requests kind csv together) good going (reads, cut, blames) = (reads, replies_in_part _ together good cut)
  cut_in_part (Sheet of) good going (reads, same, inl (is, nothing)) = (reads, inl nothing)
  cut_in_part (Sheet of) good going (reads, same, inr (is, begun)) = (reads, inr (old.ledger, good, begun))
  cut_in_part (Serve service) good going (reads, inl (why, cut, same)) =
      (reads, port_begun s.writer_old s.writer_new cut)
  cut_in_part (Serve service) good going (reads, inr (why, some)) =
      (reads, port_whole s.writer_old s.writer_new (some.listens.port, some.listens.told))
  cut_in_part (ServeAtOnce service at_once) good going (reads, inl (why, cut, same)) =
      (reads, port_begun s.writer_old s.writer_new cut)
  cut_in_part (ServeAtOnce service at_once) good going (reads, inr (why, some)) =
      (reads, port_whole s.writer_old s.writer_new (some.gathers.port, some.gathers.told))

  -- a fault of something that was not begun leaves all untouched
  pub cut_untouched : (work : Work) → WorkCut out work fault old new s → IsUnbegun fault → IsSilent s
  cut_untouched Script (cause, told, ends) un = absurd (told_begun cause fault told un)
  cut_untouched (Requests kind csv together) (reads, inl (unread, same, kept), blames) un = (reads, kept)
  cut_untouched (Requests kind csv together) (reads, inr (requests, its, (cause, told, cut)), blames) un =
      absurd (told_begun cause fault told un)
  cut_untouched (Sheet of) (reads, same, inl (is, nothing)) un = absurd (not_unbegun fault _ is refl un)
  cut_untouched (Sheet of) (reads, same, inr (is, begun)) un = absurd (not_unbegun fault _ is refl un)
  cut_untouched (Serve service) (reads, inl (inl is, begun, same)) un = absurd (not_unbegun fault _ is refl un)
  cut_untouched (Serve service) (reads, inl (inr (inl is), begun, same)) un = absurd (not_unbegun fault _ is refl un)
  cut_untouched (Serve service) (reads, inl (inr (inr is), begun, same)) un = absurd (not_unbegun fault _ is refl un)
  cut_untouched (Serve service) (reads, inr (inl is, some)) un = absurd (not_unbegun fault _ is refl un)
  cut_untouched (Serve service) (reads, inr (inr is, some)) un = absurd (not_unbegun fault _ is refl un)
  cut_untouched (ServeAtOnce service at_once) (reads, inl (inl is, begun, same)) un = absurd (not_unbegun fault _ is refl un)
  cut_untouched (ServeAtOnce service at_once) (reads, inl (inr (inl is), begun, same)) un =
      absurd (not_unbegun fault _ is refl un)
  cut_untouched (ServeAtOnce service at_once) (reads, inl (inr (inr is), begun, same)) un =
      absurd (not_unbegun fault _ is refl un)
  cut_untouched (ServeAtOnce service at_once) (reads, inr (inl is, some)) un = absurd (not_unbegun fault _ is refl un)
  cut_untouched (ServeAtOnce service at_once) (reads, inr (inr (inl is), some)) un = absurd (not_unbegun fault _ is refl un)
  cut_untouched (ServeAtOnce service at_once) (reads, inr (inr (inr is), some)) un = absurd (not_unbegun fault _ is refl un)

-- ---- sessions

module _ {K C L R W G T : Type 0} (out : Outside C L R W G T) (on : Session K) (s : Streams) where
  pub works_whole : (work : Work) → WorkWhole out on work s → DoesWork work s
  works_whole Script all = (
    all.on.first.ledger,
    all.on.good,
    (all.on.last, text_written (desk_state on.ghosts all.on.first) (desk_left on all.on.last) s all.on.done),
  )
  works_whole (Requests kind csv together) all =
      (all.on.done.0, (all.on.first.ledger, all.on.last, all.on.done.1.0, all.on.good, all.on.done.1.2))
  works_whole (Sheet of) all = (all.on.done.0, (all.on.first.ledger, all.on.good, all.on.done.2))
  works_whole (Serve service) all = (all.on.done.0, (all.on.done.1.listens.port, all.on.done.1.listens.told))
  works_whole (ServeAtOnce service at_once) all = (all.on.done.0, (all.on.done.1.gathers.port, all.on.done.1.gathers.told))

  module _ (work : Work) (fault : Fault) where
    pub works_in_part : WorkInPart out on work fault s → DoesWorkInPart work s
    works_in_part (inl (refused, silent)) = works_nothing work s silent
    works_in_part (inr cut) =
        cut_in_part out fault (desk_state on.ghosts cut.on.first) (desk_left on cut.on.last) s work cut.on.good
        cut.on.began cut.on.done

    -- where nothing is begun, nothing is read or written
    pub works_untouched : WorkInPart out on work fault s → IsUnbegun fault → IsSilent s
    works_untouched (inl (refused, silent)) un = silent
    works_untouched (inr cut) un =
        cut_untouched out fault (desk_state on.ghosts cut.on.first) (desk_left on cut.on.last) s work cut.on.done un
