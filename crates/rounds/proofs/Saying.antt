-- What is said in a round, turn by turn.
use Rattle.std.proofs.Common.{◌≡◌, ◌∙◌, ◌++◌, ◌∷◌, ℕ, Bool, true, false, List, [], ap, append-nil, append_assoc, refl, subst}
use Rattle.std.specs.Prelude.{nat_eq}
use Rattle.std.proofs.lemmas.Bool.{eq-eqb, ne_eqb}
use Rattle.std.proofs.lemmas.List.{map-append}
use Rattle.desk.specs.Desk.{Snapshot}
use Rattle.desk.specs.Dialogue.{Language}
use Rattle.rounds.specs.Lines.{Heard, Said, answers_of, questions_of, with_said}
use Rattle.rounds.specs.Rounds.{AreSaid, said_on}

module _ {Q A : Type 0} (L : Language Q A) where
  pub said_more : (said : List (Said Q A)) (s : Said Q A) (old mid new : Snapshot) → AreSaid L old said mid
      → L.answers mid s.question s.kind s.answer new → AreSaid L old (said ++ s ∷ []) new
  said_more [] s old mid new h a = (new, subst (λ (m : Snapshot). L.answers m s.question s.kind s.answer new) h a, refl)
  said_more (r ∷ said) s old mid new (next, first, rest) a = (next, first, said_more said s next mid new rest a)

  pub said_joined : (xs ys : List (Said Q A)) (old mid new : Snapshot) → AreSaid L old xs mid → AreSaid L mid ys new
      → AreSaid L old (xs ++ ys) new
  said_joined [] ys old mid new h k = subst (λ (s : Snapshot). AreSaid L s ys new) h k
  said_joined (x ∷ xs) ys old mid new (next, first, rest) k = (next, first, said_joined xs ys next mid new rest k)

module _ {Q A : Type 0} where
  on_by : (n : ℕ) (r : Said Q A) (said more both : List (Said Q A)) → said_on n both ≡ said_on n said ++ more → (b : Bool)
      → nat_eq r.connection n ≡ b → said_on n (r ∷ both) ≡ said_on n (r ∷ said) ++ more
  on_by n r said more both rest true is = rw is (ap (λ (xs : List (Said Q A)). r ∷ xs) rest)
  on_by n r said more both rest false is = rw is rest

  pub on_joined : (n : ℕ) (xs ys : List (Said Q A)) → said_on n (xs ++ ys) ≡ said_on n xs ++ said_on n ys
  on_joined n [] ys = refl
  on_joined n (x ∷ xs) ys = on_by n x xs (said_on n ys) (xs ++ ys) (on_joined n xs ys) (nat_eq x.connection n) refl

  pub on_same : (n : ℕ) (said : List (Said Q A)) (s : Said Q A) → s.connection ≡ n
      → said_on n (said ++ s ∷ []) ≡ said_on n said ++ s ∷ []
  on_same n said s e = on_joined n said (s ∷ []) ∙ ap (λ (xs : List (Said Q A)). said_on n said ++ xs) (one n s e)
    where
      one : (n : ℕ) (s : Said Q A) → s.connection ≡ n → said_on n (s ∷ []) ≡ s ∷ []
      one n s e = rw (eq-eqb s.connection n e) refl

  pub on_other : (n : ℕ) (said : List (Said Q A)) (s : Said Q A) → (s.connection ≡ n → ⊥)
      → said_on n (said ++ s ∷ []) ≡ said_on n said
  on_other n said s e =
      on_joined n said (s ∷ []) ∙ ap (λ (xs : List (Said Q A)). said_on n said ++ xs) (none n s e) ∙ append-nil (said_on n said)
    where
      none : (n : ℕ) (s : Said Q A) → (s.connection ≡ n → ⊥) → said_on n (s ∷ []) ≡ []
      none n s e = rw (ne_eqb s.connection n e) refl

  pub with_none : (h : Heard Q A) → with_said h [] ≡ h
  with_none h = rw (append-nil h.questions, append-nil h.answers) refl

  pub with_joined : (h : Heard Q A) (xs ys : List (Said Q A)) → with_said (with_said h xs) ys ≡ with_said h (xs ++ ys)
  with_joined h xs ys =
      rw (
        map-append (λ (s : Said Q A). s.question) xs ys,
        map-append (λ (s : Said Q A). s.answer) xs ys,
        append_assoc h.questions (questions_of xs) (questions_of ys),
        append_assoc h.answers (answers_of xs) (answers_of ys),
      ) refl
