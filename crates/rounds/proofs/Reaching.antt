-- How a history grows, and what is known behind it.
use Rattle.std.proofs.Common.{◌≡◌, ◌≢◌, ◌⊎◌, ◌∙◌, ◌+◌, ◌<◌, ◌≤◌, ◌++◌, ◌∷◌, ℕ, true, false, List, [], Option, None}
use Rattle.std.proofs.Common.{Some, ap, arith, inl, inr, length, length-append, length-set, refl, set, subst, sym, take}
use Rattle.std.specs.Prelude.{IfSome, Result, Err, Ok, nat_eq, option_map, slice_get}
use Rattle.std.proofs.lemmas.Bool.Decides.{eqb_tells}
use Rattle.std.proofs.lemmas.Option.{slice_get_within}
use Rattle.desk.specs.Desk.{Snapshot}
use Rattle.rounds.specs.Lines.{Heard, IsHeard, IsTold, LineView, Speaks, Stands, unheard, with_piece, with_written}
use Rattle.rounds.specs.Rounds.{HasFailed, IsAt, IsLooked, IsRead, IsWritten, Loss, heard_on}
use Rattle.rounds.specs.declared.phase.Phase.TheVariants.{Gone}
use Rattle.rounds.specs.Histories.{AreRounds, History, IsHeardOn, IsReached, IsSeated, PlacesView, Visit, begun, came}
use Rattle.rounds.specs.Histories.{heard_in, visit_of, wrote}
use Rattle.rounds.proofs.Lists.{all_set, get_end, get_front, get_joined, get_other, get_set, set_still}
use Rattle.rounds.proofs.Saying.{with_none}
use Rattle.rounds.proofs.OneTurn.{apart_by}
use Rattle.rounds.proofs.Standings.{reads_wants, writes_there}
use Rattle.rounds.proofs.Telling.{AreSettled, appends_kept, appends_none, appends_on, at_it, at_other, consumes_kept}
use Rattle.rounds.proofs.Telling.{consumes_none, consumes_on, told_of, told_piece}

-- ---- what is reached

abbrev left_at : {T : Type 0} → Option (Visit T) → Option T
left_at None = None
left_at (Some v) = v.left

-- nobody is anywhere
pub reach_none : {S P T Q A : Type 0} (g : Speaks S P T Q A) (start : Snapshot) (places : PlacesView (LineView S P T))
    → places.connections ≡ 0
    → ((place : ℕ) (v : LineView S P T) → IsAt places.lines place v → ⊥) → IsReached g None start start [] places
reach_none g start places none free = record {
  history = begun;
  are_rounds = (refl, refl);
  count = none;
  told = λ n lt. absurd (omega arith);
  new = λ n le. refl;
  seated = λ p v e. absurd (free p v e);
  apart = λ p q v w e f same. absurd (free p v e);
  there = λ n first e. absurd (cc);
  gone = λ n first last e. absurd (cc);
}

module _ {S P T Q A : Type 0} (g : Speaks S P T Q A) (loss : Option Loss) (start : Snapshot) where
  module _ (now : Snapshot) (visits : List (Visit T)) (old : PlacesView (LineView S P T))
      (r : IsReached g loss start now visits old) where
    number_of : (p : ℕ) (v : LineView S P T) → IsAt old.lines p v → v.connection < length visits
    number_of p v e = slice_get_within visits v.connection _ (r.seated p v e).visit

    still_there : (p : ℕ) (v : LineView S P T) (first last : T) → IsAt old.lines p v
        → slice_get visits v.connection ≡ Some (record { came = first; left = Some last }) → ⊥
    still_there p v first last e gone =
        let there = (r.seated p v e).visit in let none : Some last ≡ None = ap left_at (sym gone ∙ there) in absurd (cc)

    -- something becomes known of the connection at a place
    pub reach_at : (p : ℕ) (v w : LineView S P T) → IsAt old.lines p v → w.connection ≡ v.connection
        → (history : History Q A) (h : Heard Q A)
        → ((n : ℕ) → heard_in history n ≡ heard_on v.connection h (heard_in r.history) n)
        → AreRounds g.language loss start history now
        → (IsTold g.language (heard_in r.history v.connection) → IsTold g.language h)
        → ((first : T) → IsHeardOn g first v.stream (heard_in r.history v.connection) → IsHeardOn g first w.stream h)
        → Stands g w h []
        → IsReached g loss start now visits (record { lines = set old.lines p (Some w); connections = old.connections })
    reach_at p v w e same history h heard rounds told on stands = record {
      history = history;
      are_rounds = rounds;
      count = r.count;
      told = λ n lt. told_at n lt (eqb_tells n c);
      new = λ n le. elsewhere n (λ here. absurd (let lt = number_of p v e in omega arith)) ∙ r.new n le;
      seated = λ q x at_q. all_set (λ k (o : Option (LineView S P T)).
          (x : LineView S P T) → o ≡ Some x → IsSeated g visits (heard_in history) x)
          old.lines p (Some w)
          (λ x is. subst (λ (x : LineView S P T). IsSeated g visits (heard_in history) x)
          (let same_x : w ≡ x = cc in same_x) seated_here)
          (λ k o other at_k x is. seated_there k x other (at_k ∙ ap Some is)) q (Some x) at_q x refl;
      apart = apart_by old.lines (set old.lines p (Some w)) before r.apart;
      there = λ n first is. let (q, x, at_q, number) = r.there n first is in there_at n q x at_q number (eqb_tells q p);
      gone = λ n first last is.
          subst (λ (k : Heard Q A). IsHeardOn g first last k)
          (sym (elsewhere n (λ here. still_there p v first last e
          (subst (λ (m : ℕ). slice_get visits m ≡ Some (record { came = first; left = Some last })) here is))))
          (r.gone n first last is);
    }
      where
        c : ℕ
        c = v.connection

        here_is : heard_in history v.connection ≡ h
        here_is = heard v.connection ∙ at_it v.connection h (heard_in r.history)

        elsewhere : (n : ℕ) → (n ≡ v.connection → ⊥) → heard_in history n ≡ heard_in r.history n
        elsewhere n other = heard n ∙ at_other v.connection n h (heard_in r.history) other

        told_at : (n : ℕ) → n < length visits
            → ((nat_eq n v.connection ≡ true) × (n ≡ v.connection))
            ⊎ ((nat_eq n v.connection ≡ false) × (n ≢ v.connection))
            → IsTold g.language (heard_in history n)
        told_at n lt (inl (_, here)) = subst (λ (m : ℕ). IsTold g.language (heard_in history m)) (sym here)
            (subst (λ (k : Heard Q A). IsTold g.language k) (sym here_is) (told (r.told v.connection (number_of p v e))))
        told_at n lt (inr (_, other)) = subst (λ (k : Heard Q A). IsTold g.language k) (sym (elsewhere n other)) (r.told n lt)

        seated_here : IsSeated g visits (heard_in history) w
        seated_here =
            let was = r.seated p v e in
            let known : heard_in history w.connection ≡ h = ap (λ (n : ℕ). heard_in history n) same ∙ here_is in
            record {
              came = was.came;
              visit = subst (λ (n : ℕ). slice_get visits n ≡ Some (visit_of was.came)) (sym same) was.visit;
              on = subst (λ (k : Heard Q A). IsHeardOn g was.came w.stream k) (sym known) (on was.came was.on);
              stands = subst (λ (k : Heard Q A). Stands g w k []) (sym known) stands;
            }

        seated_there : (k : ℕ) (x : LineView S P T) → (k ≡ p → ⊥) → IsAt old.lines k x → IsSeated g visits (heard_in history) x
        seated_there k x other at_k =
            let was = r.seated k x at_k in
            let known : heard_in history x.connection ≡ heard_in r.history x.connection =
            elsewhere x.connection (λ here. other (r.apart k p x v at_k e here)) in
            record {
              came = was.came;
              visit = was.visit;
              on = subst (λ (n : Heard Q A). IsHeardOn g was.came x.stream n) (sym known) was.on;
              stands = subst (λ (n : Heard Q A). Stands g x n []) (sym known) was.stands;
            }

        there_at : (n q : ℕ) (x : LineView S P T) → IsAt old.lines q x → x.connection ≡ n
            → ((nat_eq q p ≡ true) × (q ≡ p)) ⊎ ((nat_eq q p ≡ false) × (q ≢ p))
            → (q : ℕ) × (y : LineView S P T) × IsAt (set old.lines p (Some w)) q y × (y.connection ≡ n)
        there_at n q x at_q number (inl (_, here)) =
            let at_p : IsAt old.lines p x = subst (λ (k : ℕ). IsAt old.lines k x) here at_q in
            let same_x : v ≡ x = cc in
            (p, w, get_set old.lines p (Some v) (Some w) e, same ∙ ap (λ (y : LineView S P T). y.connection) same_x ∙ number)
        there_at n q x at_q number (inr (_, other)) = (q, x, get_other old.lines p q (Some w) other ∙ at_q, number)

        before : (q : ℕ) (x : LineView S P T) → IsAt (set old.lines p (Some w)) q x
            → (u : LineView S P T) × IsAt old.lines q u × (u.connection ≡ x.connection)
        before q x at_q = all_set (λ k (o : Option (LineView S P T)).
            (x : LineView S P T) → o ≡ Some x
            → (u : LineView S P T) × IsAt old.lines k u × (u.connection ≡ x.connection))
            old.lines p (Some w)
            (λ x is. (v, e, sym same ∙ ap (λ (y : LineView S P T). y.connection) (let same_x : w ≡ x = cc in same_x)))
            (λ k o other at_k x is. (x, at_k ∙ ap Some is, refl)) q (Some x) at_q x refl

    -- a place stays as it was
    reach_same : (p : ℕ) (v : Option (LineView S P T)) → slice_get old.lines p ≡ Some v
        → IsReached g loss start now visits (record { lines = set old.lines p v; connections = old.connections })
    reach_same p v e = subst (λ (lines : List (Option (LineView S P T))).
        IsReached g loss start now visits (record { lines = lines; connections = old.connections }))
        (sym (set_still old.lines p v e)) r

    reach_stayed : (p : ℕ) (v w : Option (LineView S P T)) → slice_get old.lines p ≡ Some v → w ≡ v
        → IsReached g loss start now visits (record { lines = set old.lines p w; connections = old.connections })
    reach_stayed p v w e same = subst (λ (w : Option (LineView S P T)).
        IsReached g loss start now visits (record { lines = set old.lines p w; connections = old.connections }))
        (sym same) (reach_same p v e)

    -- what stands at a place stands so otherwise, and nothing becomes known
    pub reach_still : (p : ℕ) (v w : LineView S P T) → IsAt old.lines p v → w.connection ≡ v.connection
        → ((first : T) (h : Heard Q A) → IsHeardOn g first v.stream h → IsHeardOn g first w.stream h)
        → (Stands g v (heard_in r.history v.connection) [] → Stands g w (heard_in r.history v.connection) [])
        → IsReached g loss start now visits (record { lines = set old.lines p (Some w); connections = old.connections })
    reach_still p v w e same on stands =
        reach_at p v w e same r.history (heard_in r.history v.connection) (λ n. sym (by n (eqb_tells n v.connection)))
        r.are_rounds (λ h. h)
        (λ first h. on first (heard_in r.history v.connection) h) (stands (r.seated p v e).stands)
      where
        by : (n : ℕ)
            → ((nat_eq n v.connection ≡ true) × (n ≡ v.connection))
            ⊎ ((nat_eq n v.connection ≡ false) × (n ≢ v.connection))
            → heard_on v.connection (heard_in r.history v.connection) (heard_in r.history) n ≡ heard_in r.history n
        by n (inl (is, here)) = rw is (ap (λ (m : ℕ). heard_in r.history m) (sym here))
        by n (inr (is, other)) = rw is refl

    -- it is looked for a question there
    pub reach_looked : (p : ℕ) (v w : Option (LineView S P T)) → slice_get old.lines p ≡ Some v → IsLooked g v w
        → IsReached g loss start now visits (record { lines = set old.lines p w; connections = old.connections })
    reach_looked p None None e h = reach_same p None e
    reach_looked p None (Some w) e h = absurd h
    reach_looked p (Some v) None e h = absurd h
    reach_looked p (Some v) (Some w) e (same, stands) =
        reach_still p v w e same.0 (λ first h on. subst (λ (t : T). IsHeardOn g first t h) (sym same.1) on)
        (stands (heard_in r.history v.connection))

    -- its stream has failed
    reach_failed : (p : ℕ) (v w : LineView S P T) → IsAt old.lines p v → v.phase ≢ Gone → HasFailed g v w
        → IsReached g loss start now visits (record { lines = set old.lines p (Some w); connections = old.connections })
    reach_failed p v w e there failed =
        reach_still p v w e failed.connection
        (λ first h on. record {
          reads = consumes_kept _ _ _ _ on.reads failed.reads;
          writes = appends_kept _ _ _ _ on.writes failed.writes;
        })
        (λ stands present. failed.stands (heard_in r.history v.connection) (stands there))

    -- it is read there
    pub reach_read : {E : Type 0} (result : Result (Option ℕ) E) (piece : List ℕ) (p : ℕ) (v w : Option (LineView S P T))
        → slice_get old.lines p ≡ Some v → IsRead g result piece v w
        → IsReached g loss start now visits (record { lines = set old.lines p w; connections = old.connections })
    reach_read (Ok None) piece p v w e (quiet, same) = reach_stayed p v w e same
    reach_read (Ok (Some count)) piece p None w e h = absurd h
    reach_read (Ok (Some count)) piece p (Some v) None e h = absurd h
    reach_read (Ok (Some count)) piece p (Some v) (Some w) e (reads, within, came_so) =
        let wants = reads_wants v reads in
        let is = (r.seated p v e).stands (λ gone. absurd (cc (wants, gone))) in
        let bytes = take count piece in
        reach_at p v w e came_so.connection (came r.history v.connection bytes)
        (with_piece (heard_in r.history v.connection) bytes) (λ n. refl) r.are_rounds
        (told_piece g.language (heard_in r.history v.connection) bytes (is.wants wants).1)
        (λ first on. record {
          reads = consumes_on _ _ _ _ _ on.reads came_so.reads;
          writes = appends_kept _ _ _ _ on.writes came_so.writes;
        })
        (came_so.stands (heard_in r.history v.connection) is)
    reach_read (Err error) piece p None w e h = absurd h
    reach_read (Err error) piece p (Some v) None e h = absurd h
    reach_read (Err error) piece p (Some v) (Some w) e (reads, failed) =
        let wants = reads_wants v reads in reach_failed p v w e (λ gone. absurd (cc (wants, gone))) failed

    -- it is written there
    pub reach_written : {E : Type 0} (result : Result (Option ℕ) E) → AreSettled g → (p : ℕ) (v w : Option (LineView S P T))
        → slice_get old.lines p ≡ Some v → IsWritten g result v w
        → IsReached g loss start now visits (record { lines = set old.lines p w; connections = old.connections })
    reach_written (Ok None) settled p v w e (quiet, same) = reach_stayed p v w e same
    reach_written (Ok (Some count)) settled p None w e h = absurd h
    reach_written (Ok (Some count)) settled p (Some v) None e h = absurd h
    reach_written (Ok (Some count)) settled p (Some v) (Some w) e (writes, within, written) =
        let bytes = take count v.output in
        let h = with_written (heard_in r.history v.connection) bytes in
        let is = written.stands (heard_in r.history v.connection) ((r.seated p v e).stands (writes_there v writes)) in
        reach_at p v w e written.connection (wrote r.history v.connection bytes) h (λ n. refl) r.are_rounds
        (λ told. subst (λ (k : Heard Q A). IsTold g.language k) (with_none h) (told_of g settled w h [] is))
        (λ first on. record {
          reads = consumes_kept _ _ _ _ on.reads written.reads;
          writes = appends_on _ _ _ _ _ on.writes written.writes;
        })
        (λ present. is)
    reach_written (Err error) settled p None w e h = absurd h
    reach_written (Err error) settled p (Some v) None e h = absurd h
    reach_written (Err error) settled p (Some v) (Some w) e (writes, failed) = reach_failed p v w e (writes_there v writes) failed

    -- somebody comes to a place
    pub reach_seat : (p : ℕ) (w : LineView S P T) → slice_get old.lines p ≡ Some None → w.connection ≡ old.connections
        → IsTold g.language unheard → IsHeard g w unheard []
        → IsReached g loss start now (visits ++ visit_of w.stream ∷ [])
        (record { lines = set old.lines p (Some w); connections = old.connections + 1 })
    reach_seat p w free is told stands = record {
      history = r.history;
      are_rounds = r.are_rounds;
      count = ap (λ (n : ℕ). n + 1) r.count ∙ sym (length-append visits (visit_of w.stream ∷ []));
      told = λ n lt. told_at n (omega (arith, lt, length-append visits (visit_of w.stream ∷ []))) (eqb_tells n (length visits));
      new = λ n le. r.new n (omega (arith, le, length-append visits (visit_of w.stream ∷ [])));
      seated = λ q x at_q. all_set (λ k (o : Option (LineView S P T)).
          (x : LineView S P T) → o ≡ Some x → IsSeated g more (heard_in r.history) x)
          old.lines p (Some w)
          (λ x e. subst (λ (x : LineView S P T). IsSeated g more (heard_in r.history) x)
          (let same_x : w ≡ x = cc in same_x) seated_here)
          (λ k o other at_k x e. seated_there k x (at_k ∙ ap Some e)) q (Some x) at_q x refl;
      apart = λ a b v x at_a at_b same. apart_at a b v x same (eqb_tells a p) (eqb_tells b p) at_a at_b;
      there = λ n first e. there_at n first (get_joined visits (visit_of w.stream) _ n e);
      gone = λ n first last e. gone_at n first last (get_joined visits (visit_of w.stream) _ n e);
    }
      where
        more : List (Visit T)
        more = visits ++ visit_of w.stream ∷ []

        number : w.connection ≡ length visits
        number = is ∙ r.count

        nothing : heard_in r.history w.connection ≡ unheard
        nothing = r.new w.connection (omega (arith, number))

        told_at : (n : ℕ) → n < length visits + 1
            → ((nat_eq n (length visits) ≡ true) × (n ≡ length visits))
            ⊎ ((nat_eq n (length visits) ≡ false) × (n ≢ length visits))
            → IsTold g.language (heard_in r.history n)
        told_at n lt (inl (_, last)) = subst (λ (k : Heard Q A). IsTold g.language k) (sym (r.new n (omega (arith, last)))) told
        told_at n lt (inr (_, other)) = r.told n (omega (arith, lt, other))

        seated_here : IsSeated g more (heard_in r.history) w
        seated_here = record {
          came = w.stream;
          visit =
              subst (λ (n : ℕ). slice_get more n ≡ Some (visit_of w.stream)) (sym number)
              (get_end visits (visit_of w.stream));
          on = subst (λ (k : Heard Q A). IsHeardOn g w.stream w.stream k) (sym nothing)
              (record { reads = consumes_none (g.remaining w.stream); writes = appends_none (g.contents w.stream) });
          stands = λ there. subst (λ (k : Heard Q A). IsHeard g w k []) (sym nothing) stands;
        }

        seated_there : (k : ℕ) (x : LineView S P T) → IsAt old.lines k x → IsSeated g more (heard_in r.history) x
        seated_there k x at_k =
            let was = r.seated k x at_k in
            record {
              came = was.came;
              visit = get_front visits (visit_of w.stream) (visit_of was.came) x.connection was.visit;
              on = was.on;
              stands = was.stands;
            }

        -- the one who comes has a number of its own
        new_number : (k : ℕ) (x : LineView S P T) → IsAt old.lines k x → x.connection ≡ w.connection → ⊥
        new_number k x at_k same = let lt = number_of k x at_k in absurd (omega (arith, lt, same, number))

        it_is : (k : ℕ) (x : LineView S P T) → k ≡ p → IsAt (set old.lines p (Some w)) k x → w ≡ x
        it_is k x here e =
            let this : slice_get (set old.lines p (Some w)) p ≡ Some (Some w) = get_set old.lines p None (Some w) free in
            let that : slice_get (set old.lines p (Some w)) p ≡ Some (Some x) =
            subst (λ (q : ℕ). slice_get (set old.lines p (Some w)) q ≡ Some (Some x)) here e in
            cc

        it_was : (k : ℕ) (x : LineView S P T) → (k ≡ p → ⊥) → IsAt (set old.lines p (Some w)) k x → IsAt old.lines k x
        it_was k x other e = sym (get_other old.lines p k (Some w) other) ∙ e

        apart_at : (a b : ℕ) (v x : LineView S P T) → v.connection ≡ x.connection
            → ((nat_eq a p ≡ true) × (a ≡ p)) ⊎ ((nat_eq a p ≡ false) × (a ≢ p))
            → ((nat_eq b p ≡ true) × (b ≡ p)) ⊎ ((nat_eq b p ≡ false) × (b ≢ p))
            → IsAt (set old.lines p (Some w)) a v → IsAt (set old.lines p (Some w)) b x → a ≡ b
        apart_at a b v x same (inl (_, here)) (inl (_, there)) at_a at_b = here ∙ sym there
        apart_at a b v x same (inl (_, here)) (inr (_, other)) at_a at_b =
            absurd (new_number b x (it_was b x other at_b)
            (sym same ∙ ap (λ (y : LineView S P T). y.connection) (sym (it_is a v here at_a))))
        apart_at a b v x same (inr (_, other)) (inl (_, there)) at_a at_b =
            absurd (new_number a v (it_was a v other at_a)
            (same ∙ ap (λ (y : LineView S P T). y.connection) (sym (it_is b x there at_b))))
        apart_at a b v x same (inr (_, other)) (inr (_, others)) at_a at_b =
            r.apart a b v x (it_was a v other at_a) (it_was b x others at_b) same

        there_at : (n : ℕ) (first : T)
            → (slice_get visits n ≡ Some (visit_of first))
            ⊎ ((visit_of first ≡ visit_of w.stream) × (n ≡ length visits))
            → (q : ℕ) × (y : LineView S P T) × IsAt (set old.lines p (Some w)) q y × (y.connection ≡ n)
        there_at n first (inl e) =
            let (q, x, at_q, number) = r.there n first e in (
              q,
              x,
              get_other old.lines p q (Some w)
                  (λ here. let none = subst (λ (k : ℕ). IsAt old.lines k x) here at_q in absurd (cc)) ∙ at_q,
              number,
            )
        there_at n first (inr (_, at_end)) = (p, w, get_set old.lines p None (Some w) free, number ∙ sym at_end)

        gone_at : (n : ℕ) (first last : T)
            → (slice_get visits n ≡ Some (record { came = first; left = Some last }))
            ⊎ ((record { came = first; left = Some last } ≡ visit_of w.stream) × (n ≡ length visits))
            → IsHeardOn g first last (heard_in r.history n)
        gone_at n first last (inl e) = r.gone n first last e
        gone_at n first last (inr (same, at_end)) =
            let none : Some last ≡ None = ap (λ (v : Visit T). v.left) same in absurd (cc)

    -- who is at a place leaves
    pub reach_left : (p : ℕ) (v : LineView S P T) → IsAt old.lines p v
        → (first : T) × (slice_get visits v.connection ≡ Some (visit_of first))
        × IsReached g loss start now (set visits v.connection (record { came = first; left = Some v.stream }))
        (record { lines = set old.lines p None; connections = old.connections })
    reach_left p v e = (
      was.came,
      was.visit,
      record {
        history = r.history;
        are_rounds = r.are_rounds;
        count = r.count ∙ sym (length-set visits v.connection left_so);
        told = λ n lt. r.told n (subst (λ (k : ℕ). n < k) (length-set visits v.connection left_so) lt);
        new = λ n le. r.new n (subst (λ (k : ℕ). k ≤ n) (length-set visits v.connection left_so) le);
        seated = λ q x at_q. all_set (λ k (o : Option (LineView S P T)).
            (x : LineView S P T) → o ≡ Some x → IsSeated g (set visits v.connection left_so) (heard_in r.history) x)
            old.lines p None (λ x is. absurd (cc)) (λ k o other at_k x is. seated_there k x other (at_k ∙ ap Some is)) q
            (Some x) at_q x refl;
        apart = apart_by old.lines (set old.lines p None)
            (λ q x at_q. all_set (λ k (o : Option (LineView S P T)).
            (x : LineView S P T) → o ≡ Some x
            → (u : LineView S P T) × IsAt old.lines k u × (u.connection ≡ x.connection))
            old.lines p None (λ x is. absurd (cc)) (λ k o other at_k x is. (x, at_k ∙ ap Some is, refl)) q (Some x) at_q
            x refl) r.apart;
        there = λ n first is. all_set (λ k (u : Visit T). (first : T) → u ≡ visit_of first
            → (q : ℕ) × (y : LineView S P T) × IsAt (set old.lines p None) q y × (y.connection ≡ k))
            visits v.connection left_so
            (λ first is. let none : Some v.stream ≡ None = ap (λ (u : Visit T). u.left) is in absurd (cc))
            (λ k u other at_k first is. let (q, x, at_q, number) = r.there k first (at_k ∙ ap Some is) in (
              q,
              x,
              get_other old.lines p q None
                  (λ here. other (sym number
                  ∙ ap (λ (y : LineView S P T). y.connection)
                  (it_is x (subst (λ (m : ℕ). IsAt old.lines m x) here at_q)))) ∙ at_q,
              number,
            ))
            n _ is first refl;
        gone = λ n first last is. all_set (λ k (u : Visit T).
            (first last : T) → u ≡ record { came = first; left = Some last }
            → IsHeardOn g first last (heard_in r.history k))
            visits v.connection left_so gone_here
            (λ k u other at_k first last is. r.gone k first last (at_k ∙ ap Some is)) n _ is first last refl;
      },
    )
      where
        was : IsSeated g visits (heard_in r.history) v
        was = r.seated p v e

        left_so : Visit T
        left_so = record { came = was.came; left = Some v.stream }

        seated_there : (k : ℕ) (x : LineView S P T) → (k ≡ p → ⊥) → IsAt old.lines k x
            → IsSeated g (set visits v.connection left_so) (heard_in r.history) x
        seated_there k x other at_k =
            let there = r.seated k x at_k in
            record {
              came = there.came;
              visit =
                  get_other visits v.connection x.connection left_so (λ here. other (r.apart k p x v at_k e here))
                  ∙ there.visit;
              on = there.on;
              stands = there.stands;
            }

        it_is : (x : LineView S P T) → IsAt old.lines p x → x ≡ v
        it_is x at_p = cc

        gone_here : (first last : T) → left_so ≡ record { came = first; left = Some last }
            → IsHeardOn g first last (heard_in r.history v.connection)
        gone_here first last is =
            let one : was.came ≡ first = ap (λ (u : Visit T). u.came) is in
            let both : Some v.stream ≡ Some last = ap (λ (u : Visit T). u.left) is in
            let two : v.stream ≡ last = cc in
            subst (λ (t : T). IsHeardOn g first t (heard_in r.history v.connection)) two
            (subst (λ (t : T). IsHeardOn g t v.stream (heard_in r.history v.connection)) one was.on)

module _ {S P T Q A : Type 0} (g : Speaks S P T Q A) (old : PlacesView (LineView S P T)) (p : ℕ) where
  -- who was at a place has left, if somebody was
  pub has_left : (x : Option (LineView S P T)) (o : Option T) → slice_get old.lines p ≡ Some x → o ≡ option_map (λ l. l.stream) x
      → IfSome o (λ stream.
      (loss : Option Loss) (start now : Snapshot) (visits : List (Visit T)) → IsReached g loss start now visits old
      → (connection : ℕ) × (first : T) × (slice_get visits connection ≡ Some (visit_of first))
      × IsReached g loss start now (set visits connection (record { came = first; left = Some stream }))
      (record { lines = set old.lines p None; connections = old.connections }))
  has_left None o e is =
      subst (λ (o : Option T). IfSome o
      (λ stream.
      (loss : Option Loss) (start now : Snapshot) (visits : List (Visit T))
      → IsReached g loss start now visits old
      → (connection : ℕ) × (first : T) × (slice_get visits connection ≡ Some (visit_of first))
      × IsReached g loss start now (set visits connection (record { came = first; left = Some stream }))
      (record { lines = set old.lines p None; connections = old.connections }))) (sym is) tt
  has_left (Some v) o e is =
      subst (λ (o : Option T). IfSome o
      (λ stream.
      (loss : Option Loss) (start now : Snapshot) (visits : List (Visit T))
      → IsReached g loss start now visits old
      → (connection : ℕ) × (first : T) × (slice_get visits connection ≡ Some (visit_of first))
      × IsReached g loss start now (set visits connection (record { came = first; left = Some stream }))
      (record { lines = set old.lines p None; connections = old.connections }))) (sym is)
      (λ loss start now visits r.
      let (first, at, reached) = reach_left g loss start now visits old r p v e in
      (v.connection, first, at, reached))
