-- A round behind a history.
use Rattle.std.proofs.Common.{◌≡◌, ◌⊎◌, ◌∙◌, ◌<◌, ◌≤◌, ℕ, true, false, List, [], Option, None, Some, ap, arith, inl, inr, leb, length}
use Rattle.std.proofs.Common.{refl, subst, sym}
use Rattle.std.specs.Prelude.{slice_get}
use Rattle.std.proofs.lemmas.Bool.Decides.{leb_tells}
use Rattle.std.proofs.lemmas.Option.{slice_get_within}
use Rattle.desk.specs.Desk.{Snapshot}
use Rattle.desk.specs.Dialogue.{Language}
use Rattle.rounds.specs.Lines.{Heard, IsTold, LineView, Said, Speaks, Stands, with_said}
use Rattle.rounds.specs.Rounds.{AreNext, AtEach, InRound, IsAt, IsForgotten, IsNowhere, IsSameSeat, IsShown, Loss, SameAt}
use Rattle.rounds.specs.Rounds.{heard_with, lost_between, said_on, stopped_at}
use Rattle.rounds.specs.Histories.{AreRounds, History, IsHeardOn, IsReached, IsSeated, PlacesView, Visit, begun, came}
use Rattle.rounds.specs.Histories.{heard_in, kept, lost, visit_of, wrote}
use Rattle.rounds.proofs.Lists.{each_at, each_from, not_true}
use Rattle.rounds.proofs.Saying.{with_none}
use Rattle.rounds.proofs.OneTurn.{apart_by, seat_after, seat_before}

module _ {Q A : Type 0} (L : Language Q A) (loss : Option Loss) (start : Snapshot) where
  -- while the desk goes on nothing was lost
  none_lost : (history : History Q A) (now : Snapshot) → now.is_stopped ≡ false → AreRounds L loss start history now → loss ≡ None
  none_lost begun now going (is, none) = none
  none_lost (came history connection piece) now going are = none_lost history now going are
  none_lost (wrote history connection bytes) now going are = none_lost history now going are
  none_lost (kept history said) now going (mid, are, more, still) =
      none_lost history mid (not_true mid.is_stopped
      (λ halted. let same = ap (λ (s : Snapshot). s.is_stopped) (still halted) in absurd (cc))) are
  none_lost (lost history untold) now going (mid, last, are, before, more, left, is, next) =
      let halted : now.is_stopped ≡ true = ap (λ (s : Snapshot). s.is_stopped) is in absurd (cc)

module _ {S P T Q A : Type 0} (g : Speaks S P T Q A) (loss : Option Loss) (start now : Snapshot) (visits : List (Visit T))
    (old : PlacesView (LineView S P T)) (r : IsReached g loss start now visits old) where
  pub round_begins : InRound g now now old.lines (heard_in r.history)
  round_begins = record {
    said = [];
    are_said = refl;
    apart = r.apart;
    stand = λ p v e. (r.seated p v e).stands;
    told = λ n told. subst (λ (k : Heard Q A). IsTold g.language k) (sym (with_none (heard_in r.history n))) told;
    only = λ n none. refl;
  }

  nobody : (lines : List (Option (LineView S P T))) → AtEach SameAt old.lines lines → (n : ℕ) → length visits ≤ n
      → IsNowhere lines n
  nobody lines seats n le p v e here =
      let (u, u_at, same) = seat_before old.lines lines p v seats e in
      let lt = slice_get_within visits u.connection _ (r.seated p u u_at).visit in absurd (omega (arith, lt, le, here, same.0))

  -- it is kept, and shown
  pub round_kept : (then : Snapshot) (asked shown : List (Option (LineView S P T)))
      → (now.is_stopped ≡ true → then ≡ now) → AtEach SameAt old.lines asked
      → InRound g now then asked (heard_in r.history)
      → AtEach (IsShown g) asked shown
      → IsReached g loss start then visits (record { lines = shown; connections = old.connections })
  round_kept then asked shown still seats round are = record {
    history = kept r.history round.said;
    are_rounds = (now, r.are_rounds, round.are_said, still);
    count = r.count;
    told = λ n lt. round.told n (r.told n lt);
    new = λ n le.
        ap (λ (xs : List (Said Q A)). with_said (heard_in r.history n) xs) (round.only n (nobody asked seats n le))
        ∙ with_none (heard_in r.history n) ∙ r.new n le;
    seated = λ p x e. seated_at p x e;
    apart =
        apart_by old.lines shown (λ p x e.
        let (v, v_at, same, _) = shown_before p x e in
        let (u, u_at, alike) = seat_before old.lines asked p v seats v_at in
        (u, u_at, sym alike.0 ∙ sym same.0)) r.apart;
    there = λ n first e.
        let (p, u, u_at, number) = r.there n first e in let (v, v_at, alike) = seat_after old.lines asked p u seats u_at in
        let (x, x_at, same) = shown_after p v v_at in (p, x, x_at, same.0 ∙ alike.0 ∙ number);
    gone = λ n first last e. let was = r.gone n first last e in record { reads = was.reads; writes = was.writes };
  }
    where
      shown_before : (p : ℕ) (x : LineView S P T) → IsAt shown p x
          → (v : LineView S P T) × IsAt asked p v × IsSameSeat v x
          × ((h : Heard Q A) (said : List (Said Q A)) → Stands g v h said → Stands g x (with_said h said) [])
      shown_before p x e = by (each_at (IsShown g) asked shown p x are e)
        where
          by : ((v : Option (LineView S P T)) × (slice_get asked p ≡ Some v) × IsShown g v (Some x))
              → (v : LineView S P T) × IsAt asked p v × IsSameSeat v x
              × ((h : Heard Q A) (said : List (Said Q A)) → Stands g v h said → Stands g x (with_said h said) [])
          by (None, is, h) = absurd h
          by (Some v, is, h) = (v, is, h.0, h.1)

      shown_after : (p : ℕ) (v : LineView S P T) → IsAt asked p v → (x : LineView S P T) × IsAt shown p x × IsSameSeat v x
      shown_after p v e = by (each_from (IsShown g) asked shown p v are e)
        where
          by : ((x : Option (LineView S P T)) × (slice_get shown p ≡ Some x) × IsShown g (Some v) x)
              → (x : LineView S P T) × IsAt shown p x × IsSameSeat v x
          by (None, is, h) = absurd h
          by (Some x, is, h) = (x, is, h.0)

      seated_at : (p : ℕ) (x : LineView S P T) → IsAt shown p x → IsSeated g visits (heard_with (heard_in r.history) round.said) x
      seated_at p x e =
          let (v, v_at, same, stands) = shown_before p x e in
          let (u, u_at, alike) = seat_before old.lines asked p v seats v_at in
          let was = r.seated p u u_at in
          let number : x.connection ≡ u.connection = same.0 ∙ alike.0 in
          let stream : x.stream ≡ u.stream = same.1 ∙ alike.1 in
          let on : IsHeardOn g was.came x.stream (heard_in r.history x.connection) =
          subst (λ (t : T). IsHeardOn g was.came t (heard_in r.history x.connection)) (sym stream)
          (subst (λ (n : ℕ). IsHeardOn g was.came u.stream (heard_in r.history n)) (sym number) was.on) in
          record {
            came = was.came;
            visit = subst (λ (n : ℕ). slice_get visits n ≡ Some (visit_of was.came)) (sym number) was.visit;
            on = record { reads = on.reads; writes = on.writes };
            stands = subst (λ (n : ℕ). Stands g x (heard_with (heard_in r.history) round.said n) []) (sym same.0)
                (stands (heard_in r.history v.connection) (said_on v.connection round.said) (round.stand p v v_at));
          }

  -- it is lost, and forgotten
  pub round_lost : (is_lost : Option Loss) (then last : Snapshot) (asked left : List (Option (LineView S P T)))
      → now.is_stopped ≡ false
      → is_lost ≡ Some (lost_between now last) → then ≡ stopped_at last.ledger → AtEach SameAt old.lines asked
      → InRound g now last asked (heard_in r.history)
      → AtEach (IsForgotten g) asked left
      → IsReached g is_lost start then visits (record { lines = left; connections = old.connections })
  round_lost is_lost then last asked left going loses stopped seats round are = record {
    history = lost r.history round.said;
    are_rounds = (
      now,
      last,
      subst (λ (l : Option Loss). AreRounds g.language l start r.history now)
          (none_lost g.language loss start r.history now going r.are_rounds) r.are_rounds,
      going,
      round.are_said,
      loses,
      stopped,
      next,
    );
    count = r.count;
    told = r.told;
    new = r.new;
    seated = λ p x e. seated_at p x e;
    apart =
        apart_by old.lines left (λ p x e.
        let (v, v_at, same, _) = left_before p x e in
        let (u, u_at, alike) = seat_before old.lines asked p v seats v_at in
        (u, u_at, sym alike.0 ∙ sym same.0)) r.apart;
    there = λ n first e.
        let (p, u, u_at, number) = r.there n first e in let (v, v_at, alike) = seat_after old.lines asked p u seats u_at in
        let (x, x_at, same) = left_after p v v_at in (p, x, x_at, same.0 ∙ alike.0 ∙ number);
    gone = r.gone;
  }
    where
      next : AreNext g.language (heard_in r.history) round.said
      next n = by (leb_tells (length visits) n)
        where
          by : ((leb (length visits) n ≡ true) × (length visits ≤ n)) ⊎ ((leb (length visits) n ≡ false) × (n < length visits))
              → (said_on n round.said ≡ []) ⊎ IsTold g.language (heard_with (heard_in r.history) round.said n)
          by (inl (is, behind)) = inl (round.only n (nobody asked seats n behind))
          by (inr (is, within)) = inr (round.told n (r.told n within))

      left_after : (p : ℕ) (v : LineView S P T) → IsAt asked p v → (x : LineView S P T) × IsAt left p x × IsSameSeat v x
      left_after p v e = by (each_from (IsForgotten g) asked left p v are e)
        where
          by : ((x : Option (LineView S P T)) × (slice_get left p ≡ Some x) × IsForgotten g (Some v) x)
              → (x : LineView S P T) × IsAt left p x × IsSameSeat v x
          by (None, is, h) = absurd h
          by (Some x, is, h) = (x, is, h.0)

      left_before : (p : ℕ) (x : LineView S P T) → IsAt left p x
          → (v : LineView S P T) × IsAt asked p v × IsSameSeat v x
          × ((h : Heard Q A) (said : List (Said Q A)) → Stands g v h said → Stands g x h [])
      left_before p x e = by (each_at (IsForgotten g) asked left p x are e)
        where
          by : ((v : Option (LineView S P T)) × (slice_get asked p ≡ Some v) × IsForgotten g v (Some x))
              → (v : LineView S P T) × IsAt asked p v × IsSameSeat v x
              × ((h : Heard Q A) (said : List (Said Q A)) → Stands g v h said → Stands g x h [])
          by (None, is, h) = absurd h
          by (Some v, is, h) = (v, is, h.0, h.1)

      seated_at : (p : ℕ) (x : LineView S P T) → IsAt left p x → IsSeated g visits (heard_in r.history) x
      seated_at p x e =
          let (v, v_at, same, stands) = left_before p x e in
          let (u, u_at, alike) = seat_before old.lines asked p v seats v_at in
          let was = r.seated p u u_at in
          let number : x.connection ≡ u.connection = same.0 ∙ alike.0 in
          let stream : x.stream ≡ u.stream = same.1 ∙ alike.1 in
          record {
            came = was.came;
            visit = subst (λ (n : ℕ). slice_get visits n ≡ Some (visit_of was.came)) (sym number) was.visit;
            on = subst (λ (t : T). IsHeardOn g was.came t (heard_in r.history x.connection)) (sym stream)
                (subst (λ (n : ℕ). IsHeardOn g was.came u.stream (heard_in r.history n)) (sym number) was.on);
            stands = subst (λ (n : ℕ). Stands g x (heard_in r.history n) []) (sym same.0)
                (stands (heard_in r.history v.connection) (said_on v.connection round.said) (round.stand p v v_at));
          }
