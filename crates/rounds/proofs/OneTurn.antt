-- A round, turn by turn.
use Rattle.std.proofs.Common.{◌≡◌, ◌≢◌, ◌⊎◌, ◌∙◌, ◌++◌, ◌∷◌, ℕ, Bool, true, false, List, [], Option, None, Some, ap}
use Rattle.std.proofs.Common.{inl, inr, refl, set, subst, sym}
use Rattle.std.specs.Prelude.{nat_eq, slice_get}
use Rattle.std.proofs.lemmas.Bool.Decides.{eqb_tells}
use Rattle.desk.specs.Desk.{Snapshot}
use Rattle.rounds.specs.Lines.{Heard, IsTold, LineView, Said, Speaks, Stands, with_said}
use Rattle.rounds.specs.Rounds.{Apart, AreSaid, AtEach, HasTurnAt, InRound, IsAt, IsForgotten, IsNowhere, IsSameSeat}
use Rattle.rounds.specs.Rounds.{IsShown, SameAt, heard_with, said_on}
use Rattle.rounds.proofs.Lists.{all_set, each_at, each_from, each_set, get_other, get_set}
use Rattle.rounds.proofs.Saying.{on_other, on_same, said_more}

-- ---- seats

module _ {S P T : Type 0} where
  pub seat_still : (v : Option (LineView S P T)) → SameAt v v
  seat_still None = tt
  seat_still (Some v) = (refl, refl)

  pub seat_on : (u v w : Option (LineView S P T)) → SameAt u v → SameAt v w → SameAt u w
  seat_on None None None h k = tt
  seat_on None None (Some w) h k = k
  seat_on None (Some v) w h k = absurd h
  seat_on (Some u) None w h k = absurd h
  seat_on (Some u) (Some v) None h k = absurd k
  seat_on (Some u) (Some v) (Some w) (c, s) (d, t) = (d ∙ c, t ∙ s)

  pub seat_shown : {Q A : Type 0} (g : Speaks S P T Q A) (v w : Option (LineView S P T)) → IsShown g v w → SameAt v w
  seat_shown g None None h = tt
  seat_shown g None (Some w) h = absurd h
  seat_shown g (Some v) None h = absurd h
  seat_shown g (Some v) (Some w) h = h.0

  pub seat_forgotten : {Q A : Type 0} (g : Speaks S P T Q A) (v w : Option (LineView S P T)) → IsForgotten g v w → SameAt v w
  seat_forgotten g None None h = tt
  seat_forgotten g None (Some w) h = absurd h
  seat_forgotten g (Some v) None h = absurd h
  seat_forgotten g (Some v) (Some w) h = h.0

  -- who is at a place now was there before, with the same stream
  pub seat_before : (old new : List (Option (LineView S P T))) (p : ℕ) (w : LineView S P T) → AtEach SameAt old new → IsAt new p w
      → (v : LineView S P T) × IsAt old p v × IsSameSeat v w
  seat_before old new p w seats e = by (each_at SameAt old new p w seats e)
    where
      by : ((v : Option (LineView S P T)) × (slice_get old p ≡ Some v) × SameAt v (Some w))
          → (v : LineView S P T) × IsAt old p v × IsSameSeat v w
      by (None, is, same) = absurd same
      by (Some v, is, same) = (v, is, same)

  pub seat_after : (old new : List (Option (LineView S P T))) (p : ℕ) (v : LineView S P T) → AtEach SameAt old new → IsAt old p v
      → (w : LineView S P T) × IsAt new p w × IsSameSeat v w
  seat_after old new p v seats e = by (each_from SameAt old new p v seats e)
    where
      by : ((w : Option (LineView S P T)) × (slice_get new p ≡ Some w) × SameAt (Some v) w)
          → (w : LineView S P T) × IsAt new p w × IsSameSeat v w
      by (None, is, same) = absurd same
      by (Some w, is, same) = (w, is, same)

  -- who is nowhere now was nowhere before
  pub nowhere_before : (lines : List (Option (LineView S P T))) (p n : ℕ) (v w : Option (LineView S P T))
      → slice_get lines p ≡ Some v
      → SameAt v w → IsNowhere (set lines p w) n → IsNowhere lines n
  nowhere_before lines p n v w at_p same none q x at_q here = by (eqb_tells q p)
    where
      at_it : (u : Option (LineView S P T)) → w ≡ u → SameAt (Some x) u → ⊥
      at_it None is h = absurd h
      at_it (Some y) is h = none p y (get_set lines p v w at_p ∙ ap Some is) (h.0 ∙ here)

      by : ((nat_eq q p ≡ true) × (q ≡ p)) ⊎ ((nat_eq q p ≡ false) × (q ≢ p)) → ⊥
      by (inl (_, is)) =
          let at_x : slice_get lines p ≡ Some (Some x) = subst (λ (k : ℕ). slice_get lines k ≡ Some (Some x)) is at_q in
          let is_x : v ≡ Some x = cc in
          at_it w refl (subst (λ (o : Option (LineView S P T)). SameAt o w) is_x same)
      by (inr (_, other)) = none q x (get_other lines p q w other ∙ at_q) here

  pub apart_after : (old new : List (Option (LineView S P T))) → AtEach SameAt old new → Apart old → Apart new
  apart_after old new seats apart p q v w at_p at_q same =
      let (x, x_at, x_same) = seat_before old new p v seats at_p in
      let (y, y_at, y_same) = seat_before old new q w seats at_q in
      apart p q x y x_at y_at (sym x_same.0 ∙ same ∙ y_same.0)

  -- those at the places now were there before, under their numbers
  pub apart_by : (old new : List (Option (LineView S P T)))
      → ((p : ℕ) (v : LineView S P T) → IsAt new p v
      → (u : LineView S P T) × IsAt old p u × (u.connection ≡ v.connection)) → Apart old → Apart new
  apart_by old new before apart p q v w at_p at_q same =
      let (x, x_at, x_same) = before p v at_p in
      let (y, y_at, y_same) = before q w at_q in
      apart p q x y x_at y_at (x_same ∙ same ∙ sym y_same)

-- ---- a turn

module _ {S P T Q A : Type 0} (g : Speaks S P T Q A) where
  -- a turn leaves who is at the place
  pub turn_seat : (is_answered : Bool) (v w : Option (LineView S P T)) (mid now : Snapshot)
      → HasTurnAt g is_answered v w mid now → SameAt v w
  turn_seat is_answered None None mid now h = tt
  turn_seat is_answered None (Some w) mid now h = absurd h
  turn_seat is_answered (Some v) None mid now h = absurd h
  turn_seat is_answered (Some v) (Some w) mid now h = h.0

  module _ (start mid now : Snapshot) (lines : List (Option (LineView S P T))) (heard : ℕ → Heard Q A) (p : ℕ)
      (round : InRound g start mid lines heard) where
    none_more : now ≡ mid → (v w : Option (LineView S P T)) → slice_get lines p ≡ Some v → SameAt v w
        → ((v : LineView S P T) → w ≡ Some v → Stands g v (heard v.connection) (said_on v.connection round.said))
        → InRound g start now (set lines p w) heard
    none_more still was w at_p same here = record {
      said = round.said;
      are_said = subst (λ (s : Snapshot). AreSaid g.language start round.said s) (sym still) round.are_said;
      apart = apart_after lines (set lines p w) (each_set SameAt seat_still lines p was w at_p same) round.apart;
      stand = λ q v e. all_set (λ r (o : Option (LineView S P T)).
          (v : LineView S P T) → o ≡ Some v → Stands g v (heard v.connection) (said_on v.connection round.said))
          lines p w here (λ r o other is v e. round.stand r v (is ∙ ap Some e)) q (Some v) e v refl;
      told = round.told;
      only = λ n none. round.only n (nowhere_before lines p n was w at_p same none);
    }

    -- one more was said on the connection at the place
    one_more : (v w : LineView S P T) → IsAt lines p v → IsSameSeat v w → (s : Said Q A) → s.connection ≡ v.connection
        → g.language.answers mid s.question s.kind s.answer now
        → IsTold g.language (with_said (heard v.connection) (said_on v.connection round.said ++ s ∷ []))
        → Stands g w (heard v.connection) (said_on v.connection round.said ++ s ∷ [])
        → InRound g start now (set lines p (Some w)) heard
    one_more v w at_p same s is answers told stands =
        let n = v.connection in
        let said = round.said ++ s ∷ [] in
        let seats : AtEach SameAt lines (set lines p (Some w)) = each_set SameAt seat_still lines p (Some v) (Some w) at_p same in
        record {
          said = said;
          are_said = said_more g.language round.said s start mid now round.are_said answers;
          apart = apart_after lines (set lines p (Some w)) seats round.apart;
          stand = λ q x e. all_set (λ r (o : Option (LineView S P T)).
              (x : LineView S P T) → o ≡ Some x → Stands g x (heard x.connection) (said_on x.connection said))
              lines p (Some w)
              (λ x e. let same_x : w ≡ x = cc in
              subst (λ (x : LineView S P T). Stands g x (heard x.connection) (said_on x.connection said)) same_x
              (subst (λ (m : ℕ). Stands g w (heard m) (said_on m said)) (sym same.0)
              (subst (λ (xs : List (Said Q A)). Stands g w (heard n) xs) (sym (on_same n round.said s is)) stands)))
              (λ r o other at_r x e.
              let x_at : IsAt lines r x = at_r ∙ ap Some e in
              subst (λ (xs : List (Said Q A)). Stands g x (heard x.connection) xs)
              (sym (on_other x.connection round.said s (λ here. other (round.apart r p x v x_at at_p (sym here ∙ is)))))
              (round.stand r x x_at))
              q (Some x) e x refl;
          told = λ m before. by m before (eqb_tells m n);
          only = λ m none.
              let was = nowhere_before lines p m (Some v) (Some w) at_p same none in
              on_other m round.said s (λ here. was p v at_p (sym is ∙ here)) ∙ round.only m was;
        }
      where
        by : (m : ℕ) → IsTold g.language (heard m)
            → ((nat_eq m v.connection ≡ true) × (m ≡ v.connection))
            ⊎ ((nat_eq m v.connection ≡ false) × (m ≢ v.connection))
            → IsTold g.language (heard_with heard (round.said ++ s ∷ []) m)
        by m before (inl (_, here)) =
            subst (λ (m : ℕ). IsTold g.language (heard_with heard (round.said ++ s ∷ []) m)) (sym here)
            (subst (λ (xs : List (Said Q A)). IsTold g.language (with_said (heard v.connection) xs))
            (sym (on_same v.connection round.said s is)) told)
        by m before (inr (_, other)) =
            subst (λ (xs : List (Said Q A)). IsTold g.language (with_said (heard m) xs))
            (sym (on_other m round.said s (λ here. other (sym here ∙ is)))) (round.told m before)

    -- a place has its turn
    pub turn_more : (is_answered : Bool) (v w : Option (LineView S P T)) → slice_get lines p ≡ Some v
        → HasTurnAt g is_answered v w mid now
        → InRound g start now (set lines p w) heard
    turn_more is_answered None None at_p (none, still) = none_more still None None at_p tt (λ v e. absurd (cc))
    turn_more is_answered None (Some w) at_p h = absurd h
    turn_more is_answered (Some v) None at_p h = absurd h
    turn_more false (Some v) (Some w) at_p (same, turn) =
        let (still, stands) = turn (heard v.connection) (said_on v.connection round.said) (round.stand p v at_p) in
        none_more still (Some v) (Some w) at_p same
        (λ x e. let same_x : w ≡ x = cc in
        subst (λ (x : LineView S P T). Stands g x (heard x.connection) (said_on x.connection round.said)) same_x
        (subst (λ (m : ℕ). Stands g w (heard m) (said_on m round.said)) (sym same.0) stands))
    turn_more true (Some v) (Some w) at_p (same, turn) =
        let (s, is, answers, told, stands) = turn (heard v.connection) (said_on v.connection round.said) (round.stand p v at_p) in
        one_more v w at_p same s is answers told stands
