-- How a service goes on.
use Rattle.std.proofs.Common.{◌≡◌, ◌∷◌, ◌++◌, [], ◌∙◌, ◌<◌, ◌≤◌, ℕ, None, arith, ap, false, Err, length, List, Ok}
use Rattle.std.proofs.Common.{Option, Result, Some, refl, set, subst, sym, true}
use Rattle.std.specs.Prelude.{OnErr, OnOk, slice_get}
use Rattle.std.proofs.lemmas.Option.{slice_get_within}
use Rattle.keep.specs.declared.keep.Keep.{Ghosts}
use Rattle.desk.specs.Deferred.{DeferredView, snapshot_off}
use Rattle.desk.specs.Desk.{DeskView, IsStored, Snapshot}
use Rattle.rounds.specs.Crowds.{HubView, IsServing, Listening, closed, entered, unopened, visits_in, waited}
use Rattle.rounds.specs.Histories.{IsHeardBy, IsReached, PlacesView, Visit, begun, heard_in, visit_of}
use Rattle.rounds.specs.Lines.{LineView, Speaks}
use Rattle.rounds.specs.Rounds.{IsLeftBy, Loss, lost_between}
use Rattle.rounds.specs.Services.{HasServed, InService, IsKept}
use Rattle.rounds.proofs.Lists.{get_front, not_false, not_true, set_front}

module _ {C S P T Q A : Type 0} (g : Speaks S P T Q A) (c : Listening C T) (first : C) (loss : Option Loss) (start now : Snapshot)
    (crowd : C) (places : PlacesView (LineView S P T))
    (serving : IsServing g c first loss start now (record { crowd = crowd; places = places })) where
  -- it was waited
  pub waited_more : (then : C) → c.waits crowd then
      → IsServing g c first loss start now (record { crowd = then; places = places })
  waited_more then waits = record { doors = waited serving.doors; pass = (crowd, serving.pass, waits); reached = serving.reached }

  -- one came
  pub entered_more : (then : C) (stream : T) (more : PlacesView (LineView S P T)) → c.comes crowd stream then
      → ((visits : List (Visit T)) → IsReached g loss start now visits places
      → IsReached g loss start now (visits ++ visit_of stream ∷ []) more)
      → IsServing g c first loss start now (record { crowd = then; places = more })
  entered_more then stream more comes seats = record {
    doors = entered serving.doors stream;
    pass = (crowd, serving.pass, comes);
    reached = seats (visits_in serving.doors) serving.reached;
  }

  -- one came to a place, and whoever had been there was closed
  pub entered_for : (then last : C) (stream gone : T) (between more : PlacesView (LineView S P T)) → c.comes crowd stream then
      → c.closes then gone last
      → ((visits : List (Visit T)) → IsReached g loss start now visits places
      → (connection : ℕ) × (came : T) × (slice_get visits connection ≡ Some (visit_of came))
      × IsReached g loss start now (set visits connection (record { came = came; left = Some gone })) between)
      → ((visits : List (Visit T)) → IsReached g loss start now visits between
      → IsReached g loss start now (visits ++ visit_of stream ∷ []) more)
      → IsServing g c first loss start now (record { crowd = last; places = more })
  entered_for then last stream gone between more comes closes leaves seats =
      let visits = visits_in serving.doors in
      let (connection, came, at, reached) = leaves visits serving.reached in
      record {
        doors = closed (entered serving.doors stream) connection came gone;
        pass = (then, (crowd, serving.pass, comes), closes, get_front visits (visit_of stream) (visit_of came) connection at);
        reached = subst (λ (vs : List (Visit T)). IsReached g loss start now vs more)
            (sym (set_front visits (visit_of stream) (visit_of came) (record { came = came; left = Some gone }) connection at))
            (seats (set visits connection (record { came = came; left = Some gone })) reached);
      }

  -- its places are reached otherwise
  pub reached_more : (more : PlacesView (LineView S P T))
      → ((visits : List (Visit T)) → IsReached g loss start now visits places → IsReached g loss start now visits more)
      → IsServing g c first loss start now (record { crowd = crowd; places = more })
  reached_more more goes = record {
    doors = serving.doors;
    pass = serving.pass;
    reached = goes (visits_in serving.doors) serving.reached;
  }

module _ {K C S P T Q A : Type 0} (g : Speaks S P T Q A) (c : Listening C T) (k : Ghosts K) (first : C) (start : Snapshot)
    (old new : DeskView (DeferredView K)) (crowd : C) (places more : PlacesView (LineView S P T)) where
  -- a round is held
  pub round_more : {R E : Type 0} (result : Result R E)
      → OnOk result ((loss : Option Loss) (start : Snapshot) (visits : List (Visit T))
      → IsReached g loss start (snapshot_off old) visits places
      → IsReached g loss start (snapshot_off new) visits more)
      → OnErr result ((loss : Option Loss) (start : Snapshot) (visits : List (Visit T))
      → IsReached g loss start (snapshot_off old) visits places
      → IsReached g (Some (lost_between (snapshot_off old) (snapshot_off new))) start (snapshot_off new) visits more)
      → new.keep.changes ≡ []
      → OnOk result (old.keep.stopped ≡ false → (new.keep.stopped ≡ false)
      × (k.is_honest new.keep.keep → IsStored (k.holds new.keep.keep) (k.leaves new.keep.keep) new.ledger))
      → OnErr result ((old.keep.stopped ≡ false) × (new.keep.stopped ≡ true)
      × IsLeftBy k new.keep.keep (lost_between (snapshot_off old) (snapshot_off new)))
      → (old.keep.stopped ≡ true → (new.ledger ≡ old.ledger) × (new.keep.stopped ≡ true) × (new.keep.keep ≡ old.keep.keep))
      → InService g c k first start old (record { crowd = crowd; places = places })
      → InService g c k first start new (record { crowd = crowd; places = more })
  round_more (Ok r) told untold settled kept lost halts was = record {
    loss = was.loss;
    kept = record {
      settled = settled;
      stored = λ going. (kept (not_true old.keep.stopped (λ halted. let still = (halts halted).1 in absurd (cc)))).1;
      left = λ halted.
          let before : old.keep.stopped ≡ true =
          not_false old.keep.stopped (λ going. let still = (kept going).0 in absurd (cc)) in
          let (l, is, by) = was.kept.left before in (l, is, subst (λ (x : K). IsLeftBy k x l) (sym (halts before).2) by);
    };
    serving = record {
      doors = was.serving.doors;
      pass = was.serving.pass;
      reached = told was.loss start (visits_in was.serving.doors) was.serving.reached;
    };
  }
  round_more (Err e) told untold settled kept lost halts was = record {
    loss = Some (lost_between (snapshot_off old) (snapshot_off new));
    kept = record {
      settled = settled;
      stored = λ going. let halted = lost.1 in absurd (cc);
      left = λ halted. (lost_between (snapshot_off old) (snapshot_off new), refl, lost.2);
    };
    serving = record {
      doors = was.serving.doors;
      pass = was.serving.pass;
      reached = untold was.loss start (visits_in was.serving.doors) was.serving.reached;
    };
  }

module _ {K C S P T Q A : Type 0} (g : Speaks S P T Q A) (c : Listening C T) (k : Ghosts K) (first : C) (start : Snapshot)
    (desk : DeskView (DeferredView K)) where
  -- it goes on between rounds
  pub between : (old new : HubView C (LineView S P T))
      → ((first : C) (loss : Option Loss) (start now : Snapshot) → IsServing g c first loss start now old
      → IsServing g c first loss start now new)
      → InService g c k first start desk old → InService g c k first start desk new
  between old new goes was = record {
    loss = was.loss;
    kept = was.kept;
    serving = goes first was.loss start (snapshot_off desk) was.serving;
  }

  -- all have left, where nobody is at a place
  pub ended : (now : DeskView (DeferredView K)) (hub : HubView C (LineView S P T)) (count : ℕ) → hub.places.connections ≡ count
      → ((place : ℕ) → place < length hub.places.lines → slice_get hub.places.lines place ≡ Some None)
      → InService g c k first (snapshot_off desk) now hub
      → HasServed g.language g.remaining g.contents c k first hub.crowd count desk now
  ended now hub count is free was = record {
    loss = was.loss;
    kept = was.kept;
    met = record {
      doors = was.serving.doors;
      pass = was.serving.pass;
      counted = total;
      history = was.serving.reached.history;
      are_rounds = was.serving.reached.are_rounds;
      told = λ n within. was.serving.reached.told n (subst (λ k. n < k) (sym total) within);
      nobody = λ n behind. was.serving.reached.new n (subst (λ k. k ≤ n) (sym total) behind);
      left = λ n visit e. by n visit.left visit refl e;
    };
  }
    where
      total : length (visits_in was.serving.doors) ≡ count
      total = sym was.serving.reached.count ∙ is

      nobody : (place : ℕ) (v : LineView S P T) → slice_get hub.places.lines place ≡ Some (Some v) → ⊥
      nobody place v e = let none = free place (slice_get_within hub.places.lines place (Some v) e) in absurd (cc)

      by : (n : ℕ) (left : Option T) (visit : Visit T) → visit.left ≡ left
          → slice_get (visits_in was.serving.doors) n ≡ Some visit
          → (stream : T) × (visit.left ≡ Some stream)
          × IsHeardBy g.remaining g.contents visit.came stream (heard_in was.serving.reached.history n)
      by n (Some stream) visit e at =
          (stream, e, was.serving.reached.gone n visit.came stream (at ∙ ap Some (λ i. record { came = visit.came; left = e i })))
      by n None visit e at =
          let there = was.serving.reached.there n visit.came (at ∙ ap Some (λ i. record { came = visit.came; left = e i })) in
          absurd (nobody there.0 there.1 there.2)

-- what is so with an answer, or an error, by its facts
pub on_ok : {R E : Type 0} (r : Result R E) (X Y : Type 0) → OnOk r X → (X → Y) → OnOk r Y
on_ok (Ok r) X Y h f = f h
on_ok (Err e) X Y h f = tt

pub on_err : {R E : Type 0} (r : Result R E) (Y : Type 0) → Y → OnErr r Y
on_err (Ok r) Y h = tt
on_err (Err e) Y h = h

module _ {K C S P T Q A : Type 0} (g : Speaks S P T Q A) (c : Listening C T) (k : Ghosts K) (first : C)
    (desk : DeskView (DeferredView K)) where
  -- before anybody has come
  pub before_all : desk.keep.stopped ≡ false → desk.keep.changes ≡ []
      → (desk.keep.changes ≡ [] → desk.keep.stopped ≡ false → k.is_honest desk.keep.keep
      → IsStored (k.holds desk.keep.keep) (k.leaves desk.keep.keep) desk.ledger)
      → IsKept k None desk
  before_all going settled stored = record {
    settled = settled;
    stored = stored settled;
    left = λ halted. absurd (cc);
  }

  -- nobody was served
  pub none_served : (last : C) → last ≡ first → IsKept k None desk
      → HasServed g.language g.remaining g.contents c k first last 0 desk desk
  none_served last same kept = record {
    loss = None;
    kept = kept;
    met = record {
      doors = unopened;
      pass = same;
      counted = refl;
      history = begun;
      are_rounds = (refl, refl);
      told = λ n within. absurd (omega (arith, within));
      nobody = λ n behind. refl;
      left = λ n visit e. absurd (cc);
    };
  }
