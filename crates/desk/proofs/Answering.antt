-- Answers to questions, one after the other, and the request that stopped the desk.
use Rattle.std.proofs.Common.{◌≡◌, ◌∙◌, ℕ, List, [], ◌∷◌, ◌++◌, ap, append_assoc, refl, subst, sym}
use Rattle.std.specs.List.{AllByRecursion as Each}
use Rattle.words.specs.declared.command.Request.{Request}
use Rattle.desk.specs.Desk.{Snapshot}
use Rattle.desk.specs.Dialogue.{AnswerKind, AreAnswers, IsNoStop, IsStoppedBy, Language, no_memory, ordinary, stopping, text_of}

module _ {Q A : Type 0} (L : Language Q A) where
  -- the answers to the first questions, and then those to others
  pub answers_on : (questions others : List Q) (kinds more : List AnswerKind) (xs ys : List A) (old mid new : Snapshot)
      → AreAnswers L old questions kinds xs mid → AreAnswers L mid others more ys new
      → AreAnswers L old (questions ++ others) (kinds ++ more) (xs ++ ys) new
  answers_on [] others [] more [] ys old mid new h k = subst (λ (s : Snapshot). AreAnswers L s others more ys new) h k
  answers_on (q ∷ questions) others (kind ∷ kinds) more (x ∷ xs) ys old mid new (next, first, rest) k =
      (next, first, answers_on questions others kinds more xs ys next mid new rest k)
  answers_on [] others [] more (x ∷ xs) ys old mid new h k = absurd h
  answers_on [] others (kind ∷ kinds) more xs ys old mid new h k = absurd h
  answers_on (q ∷ questions) others [] more xs ys old mid new h k = absurd h
  answers_on (q ∷ questions) others (kind ∷ kinds) more [] ys old mid new h k = absurd h

  pub text_on : (xs ys : List A) → text_of L (xs ++ ys) ≡ text_of L xs ++ text_of L ys
  text_on [] ys = refl
  text_on (x ∷ xs) ys =
      ap (λ (t : List ℕ). L.text x ++ t) (text_on xs ys) ∙ sym (append_assoc (L.text x) (text_of L xs) (text_of L ys))

  -- the last answer, and those before it
  pub last_answer : (questions : List Q) (kinds : List AnswerKind) (xs : List A) (x : A) (old new : Snapshot)
      → AreAnswers L old questions kinds (xs ++ x ∷ []) new
      → (before : List Q) × (last : Q) × (more : List AnswerKind) × (kind : AnswerKind) × (mid : Snapshot)
      × (questions ≡ before ++ last ∷ []) × AreAnswers L old before more xs mid × L.answers mid last kind x new
  last_answer [] [] [] x old new h = absurd h
  last_answer [] [] (y ∷ xs) x old new h = absurd h
  last_answer [] (kind ∷ kinds) xs x old new h = absurd h
  last_answer (q ∷ questions) [] xs x old new h = absurd h
  last_answer (q ∷ []) (kind ∷ []) [] x old new (mid, first, more) =
      ([], q, [], kind, old, refl, refl, subst (λ (s : Snapshot). L.answers old q kind x s) (sym more) first)
  last_answer (q ∷ r ∷ questions) (kind ∷ []) [] x old new (mid, first, more) = absurd more
  last_answer (q ∷ []) (kind ∷ other ∷ kinds) [] x old new (mid, first, more) = absurd more
  last_answer (q ∷ r ∷ questions) (kind ∷ other ∷ kinds) [] x old new (mid, first, more) = absurd more
  last_answer (q ∷ questions) (kind ∷ kinds) (y ∷ xs) x old new (mid, first, more) =
      let (before, last, others, at, then, split, front, end) = last_answer questions kinds xs x mid new more in
      (q ∷ before, last, kind ∷ others, at, then, ap (λ (qs : List Q). q ∷ qs) split, (mid, first, front), end)

  -- ---- the request that stopped the desk

  -- it stays the first
  pub first_on : (questions others : List Q) (kinds more : List AnswerKind) (xs : List A) (old new : Snapshot)
      (r : Request) → AreAnswers L old questions kinds xs new
      → IsStoppedBy L questions kinds r → IsStoppedBy L (questions ++ others) (kinds ++ more) r
  first_on [] others kinds more xs old new r h s = absurd s
  first_on (q ∷ questions) others [] more xs old new r h s = absurd h
  first_on (q ∷ questions) others (kind ∷ kinds) more [] old new r h s = absurd h
  first_on (q ∷ questions) others (stopping ∷ kinds) more (x ∷ xs) old new r h s = s
  first_on (q ∷ questions) others (ordinary ∷ kinds) more (x ∷ xs) old new r (mid, first, rest) s =
      first_on questions others kinds more xs mid new r rest s
  first_on (q ∷ questions) others (no_memory ∷ kinds) more (x ∷ xs) old new r (mid, first, rest) s =
      first_on questions others kinds more xs mid new r rest s

  -- it is the first where none before it stopped the desk
  pub first_behind : (questions others : List Q) (kinds more : List AnswerKind) (xs : List A) (old new : Snapshot)
      (r : Request) → AreAnswers L old questions kinds xs new → Each IsNoStop kinds
      → IsStoppedBy L others more r → IsStoppedBy L (questions ++ others) (kinds ++ more) r
  first_behind [] others [] more [] old new r h none s = s
  first_behind [] others [] more (x ∷ xs) old new r h none s = absurd h
  first_behind [] others (kind ∷ kinds) more xs old new r h none s = absurd h
  first_behind (q ∷ questions) others [] more xs old new r h none s = absurd h
  first_behind (q ∷ questions) others (kind ∷ kinds) more [] old new r h none s = absurd h
  first_behind (q ∷ questions) others (stopping ∷ kinds) more (x ∷ xs) old new r h none s = absurd (none.0)
  first_behind (q ∷ questions) others (ordinary ∷ kinds) more (x ∷ xs) old new r (mid, first, rest) none s =
      first_behind questions others kinds more xs mid new r rest none.1 s
  first_behind (q ∷ questions) others (no_memory ∷ kinds) more (x ∷ xs) old new r (mid, first, rest) none s =
      first_behind questions others kinds more xs mid new r rest none.1 s

  -- whatever is asked behind it
  pub first_wider : (questions others : List Q) (kinds : List AnswerKind) (r : Request)
      → IsStoppedBy L questions kinds r → IsStoppedBy L (questions ++ others) kinds r
  first_wider [] others kinds r s = absurd s
  first_wider (q ∷ questions) others [] r s = s
  first_wider (q ∷ questions) others (stopping ∷ kinds) r s = s
  first_wider (q ∷ questions) others (ordinary ∷ kinds) r s = first_wider questions others kinds r s
  first_wider (q ∷ questions) others (no_memory ∷ kinds) r s = first_wider questions others kinds r s

  pub each_both : (kinds more : List AnswerKind) → Each IsNoStop kinds → Each IsNoStop more → Each IsNoStop (kinds ++ more)
  each_both [] more h k = k
  each_both (kind ∷ kinds) more h k = (h.0, each_both kinds more h.1 k)
