-- Many connections at once: how their service ends, and what is found after it.
use Rattle.std.proofs.Common.{◌≡◌, ◌≤◌, ◌⊎◌, ◌∙◌, ◌++◌, Bool, Err, IfErr, List, None, Ok, OnErr, OnOk, Option, Result}
use Rattle.std.proofs.Common.{Some, ap, false, inl, inr, refl, subst, sym, true, true≢false, ℕ}
use Rattle.std.specs.declared.num.NonZeroUsize.{NonZeroUsize}
use Rattle.ledger.specs.Good.{Good}
use Rattle.ledger.specs.Ledger.{Ledger}
use Rattle.ledger.specs.Rows.{Content}
use Rattle.keep.specs.declared.keep.Keep.{Ghosts}
use Rattle.desk.specs.Deferred.{DeferredView, snapshot_off}
use Rattle.desk.specs.Desk.{DeskState, DeskView, Goes, IsStored, LeavesEither, Snapshot, StaysStored, TellsStop}
use Rattle.desk.specs.Desk.{desk_state, going_at, snapshot}
use Rattle.desk.specs.Headline.{LeavesRowsOf}
use Rattle.desk.proofs.FoundAfter.{either_left, stored_left}
use Rattle.rounds.specs.Histories.{AreRounds, order_of}
use Rattle.rounds.specs.Rounds.{AreSaid, IsCutOnce, IsLeftBy, IsOneOrder, Loss}
use Rattle.rounds.specs.Services.{HasMet, HasServed, HasServedEnough, IsKept}
use Rattle.rounds.proofs.Orders.{one_order}
use Rattle.rounds.proofs.Saying.{said_joined}
use Rattle.web.specs.Web.{http}
use Rattle.stockdesk.specs.Connections.{EndsAs, IsCrowdFault, IsFoundAfterMany, Meets}
use Rattle.stockdesk.specs.Outside.{Gathering}
use Rattle.stockdesk.specs.Sessions.{IsNoDesk}
use Rattle.stockdesk.specs.Work.{Ends, EndsWork}
use Rattle.stockdesk.specs.declared.session.Fault.{Fault}
use Rattle.stockdesk.proofs.SessionParts.{not_unbegun}

-- ---- what is found

module _ {G T : Type 0} (g : Gathering G T) (first last : G) (count : ℕ) (old shown : Snapshot) (at : Ledger)
    (start : old ≡ going_at at) where
  -- where no round was lost, what was said leads to what is shown
  found_shown : HasMet http g.remaining g.contents g.doors None first last count old shown → IsFoundAfterMany at shown.ledger
  found_shown met = (
    order_of met.history,
    shown,
    subst (λ (s : Snapshot). AreSaid http s (order_of met.history) shown) start
        (one_order http None old met.history shown met.are_rounds),
    refl,
  )

  module _ (loss : Loss) (met : HasMet http g.remaining g.contents g.doors (Some loss) first last count old shown) where
    cut : IsCutOnce http loss old (order_of met.history) shown
    cut = one_order http (Some loss) old met.history shown met.are_rounds

    found_before : IsFoundAfterMany at loss.before
    found_before = (
      cut.before,
      cut.mid,
      subst (λ (s : Snapshot). AreSaid http s cut.before cut.mid) start cut.are_before,
      ap (λ (l : Loss). l.before) cut.left,
    )

    found_behind : IsFoundAfterMany at loss.behind
    found_behind = (
      cut.before ++ cut.untold,
      cut.last,
      subst (λ (s : Snapshot). AreSaid http s (cut.before ++ cut.untold) cut.last) start
          (said_joined http cut.before cut.untold old cut.mid cut.last cut.are_before cut.are_untold),
      ap (λ (l : Loss). l.behind) cut.left,
    )

began : (old : DeskState) → old.is_stopped ≡ false → snapshot old ≡ going_at old.ledger
began old e = ap (λ (b : Bool). record { ledger = old.ledger; is_stopped = b }) e

many_of : {G T : Type 0} (g : Gathering G T) (first last : G) (count : ℕ) (holds : Content → Type 0)
    (old new : DeskState) (shown : Snapshot)
    → old.is_stopped ≡ false → Good new.ledger → new.is_honest → (new.is_stopped ≡ false → IsStored holds new.leaves new.ledger)
    → (loss : Option Loss) → HasMet http g.remaining g.contents g.doors loss first last count (snapshot old) shown
    → EndsAs loss shown new
    → LeavesRowsOf new.leaves (IsFoundAfterMany old.ledger)
many_of g first last count holds old new shown went good honest stored None met (same, going) =
    stored_left new.ledger (IsFoundAfterMany old.ledger) holds new.leaves good
    (subst (λ (B : Ledger). IsFoundAfterMany old.ledger B) (sym (ap (λ (s : Snapshot). s.ledger) same))
    (found_shown g first last count (snapshot old) shown old.ledger (began old went) met))
    (stored (ap (λ (s : Snapshot). s.is_stopped) same ∙ going))
many_of g first last count holds old new shown went good honest stored (Some loss) met (halted, inl (same, either)) =
    either_left loss.before loss.behind (IsFoundAfterMany old.ledger) new.leaves
    (found_before g first last count (snapshot old) shown old.ledger (began old went) loss met)
    (found_behind g first last count (snapshot old) shown old.ledger (began old went) loss met) (either honest)
many_of g first last count holds old new shown went good honest stored (Some loss) met (halted, inr (at, goes)) =
    stored_left new.ledger (IsFoundAfterMany old.ledger) holds new.leaves good
    (subst (λ (B : Ledger). IsFoundAfterMany old.ledger B) (sym at)
    (found_before g first last count (snapshot old) shown old.ledger (began old went) loss met))
    (stored goes)

-- a stop leaves the ledger behind what was said, or that before the round that was lost
pub many_left : {G T : Type 0} {g : Gathering G T} {first : G} {IsSo : ℕ → Option Loss → Type 0}
    (holds : Content → Type 0) (old new : DeskState) → old.is_stopped ≡ false → Good new.ledger → new.is_honest
    → Meets g first IsSo old new → (new.is_stopped ≡ false → IsStored holds new.leaves new.ledger)
    → LeavesRowsOf new.leaves (IsFoundAfterMany old.ledger)
many_left {g = g} {first = first} holds old new went good honest m stored =
    many_of g first m.last m.count holds old new m.shown went good honest stored m.loss m.met m.ends

-- ---- how a service ends

module _ {K G T : Type 0} (k : Ghosts K) (g : Gathering G T) (first last : G) (IsSo : ℕ → Option Loss → Type 0)
    (desk : DeskView K) (off end : DeskView (DeferredView K))
    (ledger_is : off.ledger ≡ desk.ledger) (stopped_is : off.keep.stopped ≡ false) (was : k.stopped desk.keep ≡ false)
    (good : Good end.ledger) (going : end.keep.stopped ≡ false → k.stopped end.keep.keep ≡ false) where
  abbrev At : Ledger → DeskView K
  At A = record { ledger = A; keep = end.keep.keep }

  -- the desk at the end of it, at that ledger
  abbrev ClosedAt : Ledger → Type 0
  ClosedAt A = Good A × StaysStored k (At A) × Meets g first IsSo (desk_state k desk) (desk_state k (At A))

  -- the desk at the end of it, by its ledger
  abbrev Closed : Type 0
  Closed = (A : Ledger) × ClosedAt A

  module _ (count : ℕ) where
    abbrev Met : Option Loss → Type 0
    Met loss = HasMet http g.remaining g.contents g.doors loss first last count (snapshot (desk_state k desk)) (snapshot_off end)

    goes_on : IsSo count None → end.keep.stopped ≡ false → (loss : Option Loss) → Met loss
        → (k.is_honest end.keep.keep → IsStored (k.holds end.keep.keep) (k.leaves end.keep.keep) end.ledger)
        → ClosedAt end.ledger
    goes_on so goes None met stored = (
      good,
      λ still honest. stored honest,
      record {
        last = last;
        count = count;
        loss = None;
        is_so = so;
        shown = snapshot_off end;
        met = met;
        ends = (λ i. record { ledger = end.ledger; is_stopped = (going goes ∙ sym goes) i }, goes);
      },
    )
    goes_on so goes (Some loss) met stored =
        let cut = one_order http (Some loss) (snapshot (desk_state k desk)) met.history (snapshot_off end) met.are_rounds in
        let halted : end.keep.stopped ≡ true = ap (λ (s : Snapshot). s.is_stopped) cut.stays in
        absurd (true≢false (sym halted ∙ goes))

    is_lost : (loss : Loss) → IsSo count (Some loss) → end.keep.stopped ≡ true → Met (Some loss)
        → IsLeftBy k end.keep.keep loss → Closed
    is_lost loss so halted met (inl (stops, either)) = (
      end.ledger,
      (
        good,
        λ still. absurd (true≢false (sym stops ∙ still)),
        record {
          last = last;
          count = count;
          loss = Some loss;
          is_so = so;
          shown = snapshot_off end;
          met = met;
          ends = (halted, inl (λ i. record { ledger = end.ledger; is_stopped = (stops ∙ sym halted) i }, either));
        },
      ),
    )
    is_lost loss so halted met (inr (goes, good_before, stored)) = (
      loss.before,
      (
        good_before,
        λ still honest. stored honest,
        record {
          last = last;
          count = count;
          loss = Some loss;
          is_so = so;
          shown = snapshot_off end;
          met = met;
          ends = (halted, inr (refl, goes));
        },
      ),
    )

    met_from : (served : HasServed http g.remaining g.contents g.doors k first last count off end) → Met served.loss
    met_from served =
        subst (λ (s : Snapshot).
        HasMet http g.remaining g.contents g.doors served.loss first last count s (snapshot_off end)) start
        served.met
      where
        start : snapshot_off off ≡ snapshot (desk_state k desk)
        start = λ i. record { ledger = ledger_is i; is_stopped = (stopped_is ∙ sym was) i }

    -- where it goes on nothing was lost
    closed_going : IsSo count None → end.keep.stopped ≡ false
        → HasServed http g.remaining g.contents g.doors k first last count off end → ClosedAt end.ledger
    closed_going so goes served = goes_on so goes served.loss (met_from served) (served.kept.stored goes)

    closed : ((loss : Option Loss) → IsSo count loss)
        → HasServed http g.remaining g.contents g.doors k first last count off end → Closed
    closed so served = by end.keep.stopped refl
      where
        by : (b : Bool) → end.keep.stopped ≡ b → Closed
        by false goes = (end.ledger, closed_going (so None) goes served)
        by true halted =
            let (loss, is, left) = served.kept.left halted in
            is_lost loss (so (Some loss)) halted (subst (λ (o : Option Loss). Met o) is (met_from served)) left

-- a fault of a crowd is none of the desk's opening
crowd_opens : (fault : Fault) → IsCrowdFault fault → ¬ IsNoDesk fault
crowd_opens fault (inl is) none = not_unbegun fault _ is refl (inl none)
crowd_opens fault (inr (inl is)) none = not_unbegun fault _ is refl (inl none)
crowd_opens fault (inr (inr is)) none = not_unbegun fault _ is refl (inl none)

abbrev failed : Fault → Result (Unit {0}) Fault
failed fault = Err fault

module _ {K G T : Type 0} (k : Ghosts K) (g : Gathering G T) (first last : G) (connections : ℕ)
    (places : Option NonZeroUsize) (desk : DeskView K) (off end : DeskView (DeferredView K))
    (ledger_is : off.ledger ≡ desk.ledger) (stopped_is : off.keep.stopped ≡ false) (was : k.stopped desk.keep ≡ false)
    (good : Good end.ledger) (going : end.keep.stopped ≡ false → k.stopped end.keep.keep ≡ false)
    (honest : k.is_honest end.keep.keep → k.is_honest desk.keep)
    (stops : Bool) (stops_is : stops ≡ k.stopped end.keep.keep) where
  goes_so : (A : Ledger) → Good A → StaysStored k (record { ledger = A; keep = end.keep.keep })
      → Goes k desk (record { ledger = A; keep = end.keep.keep })
  goes_so A is stored = record {
    untouched = λ halted. absurd (true≢false (sym halted ∙ was));
    good = is;
    stored = stored;
    honest = honest;
  }

  told_stop : (fault : Fault) → (fault ≡ Fault.Store → stops ≡ true) → (stops ≡ true → fault ≡ Fault.Store) → (A : Ledger)
      → TellsStop (failed fault ≡ Err Fault.Store) (desk_state k desk)
      (desk_state k (record { ledger = A; keep = end.keep.keep }))
  told_stop fault stopped told A = record {
    stopped = λ e. sym stops_is ∙ stopped (let same = e in cc same);
    going = λ other. by stops refl other;
  }
    where
      by : (b : Bool) → stops ≡ b → ¬ (failed fault ≡ Err Fault.Store) → k.stopped end.keep.keep ≡ k.stopped desk.keep
      by false e other = sym stops_is ∙ e ∙ sym was
      by true e other = absurd (other (ap (λ f. Err f) (told e)))

  pub crowd_ends : {E : Type 0} (ended : Result (Unit {0}) E) (told : Result (Unit {0}) Fault)
      → OnOk told (OnErr ended ⊥) → OnErr told (OnOk ended ⊥) → IfErr told IsCrowdFault
      → (told ≡ Err Fault.Store → stops ≡ true) → OnErr told (stops ≡ true → told ≡ Err Fault.Store)
      → OnOk ended ((end.keep.stopped ≡ false) × (count : ℕ)
      × HasServedEnough connections places count off.ledger end.ledger
      × HasServed http g.remaining g.contents g.doors k first last count off end)
      → OnErr ended ((count : ℕ) × (count ≤ connections)
      × HasServed http g.remaining g.contents g.doors k first last count off end)
      → Ends k (end.keep.keep, told) desk (λ old new. Meets g first
      (λ count loss. HasServedEnough connections places count old.ledger new.ledger × (loss ≡ None)) old new)
      (λ fault old new. IsCrowdFault fault × Meets g first (λ count loss. count ≤ connections) old new)
  crowd_ends (Ok done) (Ok all) whole cut fault store still (goes, count, enough, served) part =
      let so = subst (λ (A : Ledger). HasServedEnough connections places count A end.ledger) ledger_is enough in
      let (is, stored, meets) =
      closed_going k g first last
      (λ count loss. HasServedEnough connections places count desk.ledger end.ledger × (loss ≡ None)) desk off end
      ledger_is stopped_is was good going count (so, refl) goes served in (
        end.ledger,
        record {
          whole = meets;
          cut = tt;
          desk = tt;
          stop = record { stopped = λ e. absurd (cc e); going = λ other. going goes ∙ sym was };
          goes = goes_so end.ledger is stored;
        },
      )
  crowd_ends (Err e) (Ok all) whole cut fault store still served part = absurd whole
  crowd_ends (Ok done) (Err e) whole cut fault store still served part = absurd cut
  crowd_ends (Err why) (Err e) whole cut fault store still served (count, few, has) =
      let (A, (is, stored, meets)) =
      closed k g first last (λ count loss. count ≤ connections) desk off end ledger_is stopped_is was good going
      count (λ loss. few) has in (
        A,
        record {
          whole = tt;
          cut = (fault, meets);
          desk = crowd_opens e fault;
          stop = told_stop e (λ same. store (ap (λ f. Err f) same)) (λ halted. let same = still halted in cc same) A;
          goes = goes_so A is stored;
        },
      )

-- ---- work, by what it does on a desk

-- what is done is done as something else
pub ends_as : {K : Type 0} (k : Ghosts K) (ended : K × Result (Unit {0}) Fault) (desk : DeskView K)
    (Whole These : (old new : DeskState) → Type 0) (Part Those : Fault → (old new : DeskState) → Type 0)
    → ((old new : DeskState) → Whole old new → These old new)
    → ((fault : Fault) (old new : DeskState) → Part fault old new → Those fault old new)
    → Ends k ended desk Whole Part → Ends k ended desk These Those
ends_as k (keep, Ok all) desk Whole These Part Those on part (A, e) =
    (A, record { whole = on _ _ e.whole; cut = tt; desk = e.desk; stop = e.stop; goes = e.goes })
ends_as k (keep, Err fault) desk Whole These Part Those on part (A, e) =
    (A, record { whole = tt; cut = part fault _ _ e.cut; desk = e.desk; stop = e.stop; goes = e.goes })
