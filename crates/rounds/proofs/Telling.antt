-- What is told of one connection, and what its stream brought and took.
use Rattle.std.proofs.Common.{◌≡◌, ◌∙◌, ◌++◌, ◌∷◌, ℕ, Bool, true, false, List, [], Option, None, Some, ap, append-nil}
use Rattle.std.proofs.Common.{append_assoc, refl, subst, sym}
use Rattle.std.specs.Io.KnownBytes.{Appends, Consumes, Keeps}
use Rattle.std.proofs.lemmas.Bool.{eq-eqb, ne_eqb}
use Rattle.desk.specs.Dialogue.{Begins, Language, text_of}
use Rattle.rounds.specs.Lines.{Heard, IsHeard, IsTold, LineView, Said, Speaks, answers_of, questions_of, with_piece, with_said}
use Rattle.rounds.specs.Rounds.{heard_on}

-- ---- what is told of one

module _ {Q A : Type 0} (L : Language Q A) where
  pub begins_shorter : (input : List ℕ) (xs ys : List Q) → Begins L input (xs ++ ys) → Begins L input xs
  begins_shorter input xs ys (others, are) =
      (ys ++ others, subst (λ (qs : List Q). L.are_questions input qs) (append_assoc xs ys others) are)

  pub texts_joined : (xs ys : List A) → text_of L (xs ++ ys) ≡ text_of L xs ++ text_of L ys
  texts_joined [] ys = refl
  texts_joined (x ∷ xs) ys =
      ap (λ (bytes : List ℕ). L.text x ++ bytes) (texts_joined xs ys)
      ∙ sym (append_assoc (L.text x) (text_of L xs) (text_of L ys))

  pub told_piece : (h : Heard Q A) (bytes : List ℕ) → h.has_ended ≡ false → IsTold L h → IsTold L (with_piece h bytes)
  told_piece h bytes going is = record {
    first = λ more last. subst (λ (input : List ℕ). Begins L input h.questions) (sym (append_assoc h.read bytes more))
        (is.first (bytes ++ more) (λ ended. absurd (cc)));
    unwritten = is.unwritten;
    text = is.text;
  }

module _ {S P T Q A : Type 0} (g : Speaks S P T Q A) where
  -- whatever comes behind what has come, the first questions are those that were found
  abbrev pub AreSettled : Type 0
  AreSettled = (d : S) (read : List ℕ) (ended : Bool) (questions : List Q) → g.has_found d read ended questions
      → (more : List ℕ) → (ended ≡ true → more ≡ []) → Begins g.language (read ++ more) questions

  pub told_of : AreSettled → (v : LineView S P T) (h : Heard Q A) (said : List (Said Q A)) → IsHeard g v h said
      → IsTold g.language (with_said h said)
  told_of settled v h said is = record {
    first = λ more last. begins_shorter g.language (h.read ++ more) (h.questions ++ questions_of said) is.waiting
        (settled v.dialogue h.read h.has_ended ((h.questions ++ questions_of said) ++ is.waiting) is.found more last);
    unwritten = v.output ++ text_of g.language (answers_of said);
    text =
        texts_joined g.language h.answers (answers_of said)
        ∙ ap (λ (bytes : List ℕ). bytes ++ text_of g.language (answers_of said)) is.text
        ∙ append_assoc h.written v.output (text_of g.language (answers_of said));
  }

-- ---- one connection

module _ {Q A : Type 0} where
  pub at_it : (c : ℕ) (h : Heard Q A) (heard : ℕ → Heard Q A) → heard_on c h heard c ≡ h
  at_it c h heard = rw (eq-eqb c c refl) refl

  pub at_other : (c n : ℕ) (h : Heard Q A) (heard : ℕ → Heard Q A) → (n ≡ c → ⊥) → heard_on c h heard n ≡ heard n
  at_other c n h heard other = rw (ne_eqb n c other) refl

pub consumes_none : (known : Option (List ℕ)) → Consumes known known []
consumes_none None = tt
consumes_none (Some xs) = refl

pub appends_none : (known : Option (List ℕ)) → Appends known known []
appends_none None = tt
appends_none (Some xs) = sym (append-nil xs)

pub consumes_on : (old mid new : Option (List ℕ)) (xs ys : List ℕ) → Consumes old mid xs → Consumes mid new ys
    → Consumes old new (xs ++ ys)
consumes_on None mid new xs ys h k = tt
consumes_on (Some a) None new xs ys h k = absurd h
consumes_on (Some a) (Some b) None xs ys h k = k
consumes_on (Some a) (Some b) (Some c) xs ys h k = h ∙ ap (λ (zs : List ℕ). xs ++ zs) k ∙ sym (append_assoc xs ys c)

pub appends_on : (old mid new : Option (List ℕ)) (xs ys : List ℕ) → Appends old mid xs → Appends mid new ys
    → Appends old new (xs ++ ys)
appends_on None mid new xs ys h k = tt
appends_on (Some a) None new xs ys h k = absurd h
appends_on (Some a) (Some b) None xs ys h k = k
appends_on (Some a) (Some b) (Some c) xs ys h k = k ∙ ap (λ (zs : List ℕ). zs ++ ys) h ∙ append_assoc a xs ys

pub consumes_kept : (old mid new : Option (List ℕ)) (xs : List ℕ) → Consumes old mid xs → Keeps mid new → Consumes old new xs
consumes_kept None mid new xs h k = tt
consumes_kept (Some a) None new xs h k = absurd h
consumes_kept (Some a) (Some b) None xs h k = k
consumes_kept (Some a) (Some b) (Some c) xs h k = h ∙ ap (λ (zs : List ℕ). xs ++ zs) (sym k)

pub appends_kept : (old mid new : Option (List ℕ)) (xs : List ℕ) → Appends old mid xs → Keeps mid new → Appends old new xs
appends_kept None mid new xs h k = tt
appends_kept (Some a) None new xs h k = absurd h
appends_kept (Some a) (Some b) None xs h k = k
appends_kept (Some a) (Some b) (Some c) xs h k = k ∙ h
