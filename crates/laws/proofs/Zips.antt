-- Sides one beside the other, before and after, of which one goes on.
use Rattle.ledger.proofs.Prelude.{[], ◌∷◌, Each, List, inl, inr, subst, sym}
use Rattle.std.specs.List.{AllZip}
use Rattle.laws.specs.Deals.{OneGoes, Side}

pub each_one : (Goes : Side → Side → Type 0) (P : Side → Type 0) → ((s t : Side) → Goes s t → P s → P t)
    → (ss ts : List Side) → OneGoes Goes ss ts → Each P ss → Each P ts
each_one Goes P step [] ts h all = absurd h
each_one Goes P step (s ∷ ss) [] h all = absurd h
each_one Goes P step (s ∷ ss) (t ∷ ts) (inl h) all = (step s t h.0 all.0, subst (Each P) (sym h.1) all.1)
each_one Goes P step (s ∷ ss) (t ∷ ts) (inr h) all = (subst P (sym h.0) all.0, each_one Goes P step ss ts h.1 all.1)

pub zip_with : (P : Side → Type 0) (R Q : Side → Side → Type 0) → ((s t : Side) → P s → R s t → Q s t)
    → (ss ts : List Side) → Each P ss → AllZip R ss ts → AllZip Q ss ts
zip_with P R Q step [] [] all zip = tt
zip_with P R Q step [] (t ∷ ts) all zip = absurd zip
zip_with P R Q step (s ∷ ss) [] all zip = absurd zip
zip_with P R Q step (s ∷ ss) (t ∷ ts) all zip = (step s t all.0 zip.0, zip_with P R Q step ss ts all.1 zip.1)

module _ (R : Side → Side → Type 0) (same : (s : Side) → R s s) (in_turn : (s t u : Side) → R s t → R t u → R s u) where
  pub all_same : (ss : List Side) → AllZip R ss ss
  all_same [] = tt
  all_same (s ∷ ss) = (same s, all_same ss)

  pub all_in_turn : (ss ts us : List Side) → AllZip R ss ts → AllZip R ts us → AllZip R ss us
  all_in_turn [] [] us h k = k
  all_in_turn [] (t ∷ ts) us h k = absurd h
  all_in_turn (s ∷ ss) [] us h k = absurd h
  all_in_turn (s ∷ ss) (t ∷ ts) [] h k = absurd k
  all_in_turn (s ∷ ss) (t ∷ ts) (u ∷ us) h k = (in_turn s t u h.0 k.0, all_in_turn ss ts us h.1 k.1)

  pub one_relates : (Goes : Side → Side → Type 0) (P : Side → Type 0) → ((s t : Side) → Goes s t → P s → R s t)
      → (ss ts : List Side) → OneGoes Goes ss ts → Each P ss → AllZip R ss ts
  one_relates Goes P step [] ts h all = absurd h
  one_relates Goes P step (s ∷ ss) [] h all = absurd h
  one_relates Goes P step (s ∷ ss) (t ∷ ts) (inl h) all = (step s t h.0 all.0, subst (AllZip R ss) (sym h.1) (all_same ss))
  one_relates Goes P step (s ∷ ss) (t ∷ ts) (inr h) all =
      (subst (R s) (sym h.0) (same s), one_relates Goes P step ss ts h.1 all.1)
