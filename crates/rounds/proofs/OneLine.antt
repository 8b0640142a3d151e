-- How one connection stands, from step to step.
use Rattle.std.proofs.Common.{◌≡◌, ◌∙◌, ◌+◌, ◌≤◌, ◌++◌, ◌∷◌, ℕ, zero, suc, Bool, true, false, List, [], add-one, ap}
use Rattle.std.proofs.Common.{append-nil, append_assoc, arith, drop, length, refl, subst, sym, take}
use Rattle.std.specs.Prelude.{slice_index_or}
use Rattle.std.proofs.lemmas.List.{map-append}
use Rattle.desk.specs.Desk.{DeskState, Snapshot, snapshot}
use Rattle.desk.specs.Dialogue.{FailsOne, Language, text_of}
use Rattle.desk.specs.declared.fault.CallFault.{CallFault}
use Rattle.desk.specs.declared.fault.CallFault.TheVariants.{Memory, Stopped}
use Rattle.rounds.specs.declared.phase.Phase.TheVariants.{Asks, Over, Wants}
use Rattle.rounds.specs.Lines.{Ask, Heard, IsHeard, IsTold, LineView, Said, Speaks, answers_of, questions_of}
use Rattle.rounds.specs.Lines.{with_piece, with_said, with_written}
use Rattle.rounds.specs.Rounds.{HasTurn}
use Rattle.rounds.proofs.Telling.{AreSettled, begins_shorter, texts_joined}
use Rattle.rounds.proofs.Saying.{with_none}

-- ---- lists

module _ {X : Type 0} where
  take_suc : (n : ℕ) (xs : List X) → take (suc n) xs ≡ take n xs ++ take 1 (drop n xs)
  take_suc zero [] = refl
  take_suc zero (x ∷ xs) = refl
  take_suc (suc n) [] = refl
  take_suc (suc n) (x ∷ xs) = ap (λ (ys : List X). x ∷ ys) (take_suc n xs)

  pub take_more : (n : ℕ) (xs : List X) → take (n + 1) xs ≡ take n xs ++ take 1 (drop n xs)
  take_more n xs = rw (add-one n) (take_suc n xs)

  drop_suc : (n : ℕ) (xs : List X) → drop (suc n) xs ≡ drop 1 (drop n xs)
  drop_suc zero [] = refl
  drop_suc zero (x ∷ xs) = refl
  drop_suc (suc n) [] = refl
  drop_suc (suc n) (x ∷ xs) = drop_suc n xs

  pub drop_more : (n : ℕ) (xs : List X) → drop (n + 1) xs ≡ drop 1 (drop n xs)
  drop_more n xs = rw (add-one n) (drop_suc n xs)

  pub take_back : (n : ℕ) (xs : List X) → take n xs ++ drop n xs ≡ xs
  take_back zero xs = refl
  take_back (suc n) [] = refl
  take_back (suc n) (x ∷ xs) = ap (λ (ys : List X). x ∷ ys) (take_back n xs)

  pub take_front : (n : ℕ) (xs ys : List X) → n ≤ length xs → take n (xs ++ ys) ≡ take n xs
  take_front zero xs ys le = refl
  take_front (suc n) [] ys le = absurd (omega arith)
  take_front (suc n) (x ∷ xs) ys le = ap (λ (zs : List X). x ∷ zs) (take_front n xs ys (omega arith))

  pub drop_front : (n : ℕ) (xs ys : List X) → n ≤ length xs → drop n (xs ++ ys) ≡ drop n xs ++ ys
  drop_front zero xs ys le = refl
  drop_front (suc n) [] ys le = absurd (omega arith)
  drop_front (suc n) (x ∷ xs) ys le = drop_front n xs ys (omega arith)

  pub drop_all : (n : ℕ) (xs : List X) → length xs ≤ n → drop n xs ≡ []
  drop_all zero [] le = refl
  drop_all zero (x ∷ xs) le = absurd (omega arith)
  drop_all (suc n) [] le = refl
  drop_all (suc n) (x ∷ xs) le = drop_all n xs (omega arith)

  pub drop_first : (n : ℕ) (xs ys : List X) (x d : X) → drop n xs ≡ x ∷ ys → slice_index_or xs n d ≡ x
  drop_first zero [] ys x d e = absurd (cc)
  drop_first zero (z ∷ xs) ys x d e = cc
  drop_first (suc n) [] ys x d e = absurd (cc)
  drop_first (suc n) (z ∷ xs) ys x d e = drop_first n xs ys x d e

-- ---- what is asked

module _ {P Q : Type 0} (asks : P → Q → Type 0) where
  pub asks_joined : (ps rs : List P) (qs ts : List Q) → Ask asks ps qs → Ask asks rs ts → Ask asks (ps ++ rs) (qs ++ ts)
  asks_joined [] rs [] ts h k = k
  asks_joined [] rs (q ∷ qs) ts h k = absurd h
  asks_joined (p ∷ ps) rs [] ts h k = absurd h
  asks_joined (p ∷ ps) rs (q ∷ qs) ts (h, hs) k = (h, asks_joined ps rs qs ts hs k)

  pub asks_none : (qs : List Q) → Ask asks [] qs → qs ≡ []
  asks_none [] h = refl
  asks_none (q ∷ qs) h = absurd h

  pub asks_some : (ps : List P) (qs : List Q) → Ask asks ps qs → length qs ≡ length ps
  asks_some [] [] h = refl
  asks_some [] (q ∷ qs) h = absurd h
  asks_some (p ∷ ps) [] h = absurd h
  asks_some (p ∷ ps) (q ∷ qs) (h, hs) = ap suc (asks_some ps qs hs)

  -- the first that waits
  pub record IsFirst (ps : List P) (qs : List Q) : Type 0 where
    pub held : P
    pub others : List P
    pub question : Q
    pub rest : List Q
    pub are : ps ≡ held ∷ others
    pub questions_are : qs ≡ question ∷ rest
    pub asked : asks held question
    pub are_others : Ask asks others rest

  pub first_of_some : (ps : List P) (qs : List Q) → 1 ≤ length ps → Ask asks ps qs → IsFirst ps qs
  first_of_some [] qs some h = absurd (omega arith)
  first_of_some (p ∷ ps) [] some h = absurd h
  first_of_some (p ∷ ps) (q ∷ qs) some (h, hs) = record {
    held = p;
    others = ps;
    question = q;
    rest = qs;
    are = refl;
    questions_are = refl;
    asked = h;
    are_others = hs;
  }

none_said : {Q A : Type 0} (said : List (Said Q A)) → questions_of said ≡ [] → said ≡ []
none_said [] e = refl
none_said (s ∷ said) e = absurd (cc)

count_said : {Q A : Type 0} (said : List (Said Q A)) → length (questions_of said) ≡ length said
count_said [] = refl
count_said (s ∷ said) = ap suc (count_said said)

-- ---- one line

module _ {S P T Q A : Type 0} (g : Speaks S P T Q A) where
  -- where none is answered in this round, nothing is said
  pub nothing_said : (v : LineView S P T) (h : Heard Q A) (said : List (Said Q A)) → v.asked ≡ [] → IsHeard g v h said → said ≡ []
  nothing_said v h said none is =
      none_said said (asks_none g.asks (questions_of said)
      (subst (λ (ps : List P). Ask g.asks ps (questions_of said)) none is.are_asked))

  pub heard_nothing : (v : LineView S P T) (h : Heard Q A) (said : List (Said Q A)) → v.asked ≡ [] → IsHeard g v h said
      → IsHeard g v h []
  heard_nothing v h said none is = subst (λ (s : List (Said Q A)). IsHeard g v h s) (nothing_said v h said none is) is

  pub shown_nothing : (v : LineView S P T) (h : Heard Q A) (said : List (Said Q A)) → v.asked ≡ [] → IsHeard g v h said
      → IsHeard g v (with_said h said) []
  shown_nothing v h said none is =
      subst (λ (k : Heard Q A). IsHeard g v k []) (sym (ap (with_said h) (nothing_said v h said none is) ∙ with_none h))
      (heard_nothing v h said none is)

  -- a turn of one that is the same connection
  pub turn_from : (is_answered : Bool) (u v w : LineView S P T) (old new : Snapshot) (h : Heard Q A)
      (said : List (Said Q A)) → v.connection ≡ u.connection
      → HasTurn g is_answered v w old new h said → HasTurn g is_answered u w old new h said
  turn_from false u v w old new h said same still = still
  turn_from true u v w old new h said same (s, is, answers, told, stands) = (s, is ∙ same, answers, told, stands)

  -- it is forgotten
  pub heard_forgotten : (v w : LineView S P T) (h : Heard Q A) (said : List (Said Q A)) → IsHeard g v h said
      → w.dialogue ≡ v.dialogue → w.asked ≡ []
      → w.waiting ≡ v.asked ++ v.waiting → w.hidden ≡ [] → w.output ≡ v.output → w.phase ≡ Asks → IsHeard g w h []
  heard_forgotten v w h said is dialogue asked waiting hidden output phase = record {
    waiting = questions_of said ++ is.waiting;
    are_asked = subst (λ (ps : List P). Ask g.asks ps []) (sym asked) tt;
    are_waiting = subst (λ (ps : List P). Ask g.asks ps (questions_of said ++ is.waiting)) (sym waiting)
        (asks_joined g.asks v.asked v.waiting (questions_of said) is.waiting is.are_asked is.are_waiting);
    found = subst (λ (d : S).
        g.has_found d h.read h.has_ended ((h.questions ++ []) ++ (questions_of said ++ is.waiting))) (sym dialogue)
        (subst (λ (qs : List Q). g.has_found v.dialogue h.read h.has_ended qs)
        (append_assoc h.questions (questions_of said) is.waiting
        ∙ ap (λ (qs : List Q). qs ++ (questions_of said ++ is.waiting)) (sym (append-nil h.questions))) is.found);
    text = is.text ∙ ap (λ (bytes : List ℕ). h.written ++ bytes) (sym output);
    hidden = hidden;
    quiet = λ some. absurd (omega arith);
    wants = λ wants. absurd (cc);
    over = λ over. absurd (cc);
  }

  -- it is shown
  pub heard_shown : (v w : LineView S P T) (h : Heard Q A) (said : List (Said Q A)) → IsHeard g v h said
      → 1 ≤ length v.asked → w.dialogue ≡ v.dialogue → w.asked ≡ []
      → w.waiting ≡ v.waiting → w.hidden ≡ [] → w.output ≡ v.hidden → w.phase ≡ v.phase → IsHeard g w (with_said h said) []
  heard_shown v w h said is some dialogue asked waiting hidden output phase =
      let quiet : v.output ≡ [] =
      is.quiet (omega (arith, some, asks_some g.asks v.asked (questions_of said) is.are_asked, count_said said)) in
      let again : (h.questions ++ questions_of said) ++ [] ≡ h.questions ++ questions_of said =
      append-nil (h.questions ++ questions_of said) in
      record {
        waiting = is.waiting;
        are_asked = subst (λ (ps : List P). Ask g.asks ps []) (sym asked) tt;
        are_waiting = subst (λ (ps : List P). Ask g.asks ps is.waiting) (sym waiting) is.are_waiting;
        found = subst (λ (d : S).
            g.has_found d h.read h.has_ended (((h.questions ++ questions_of said) ++ []) ++ is.waiting)) (sym dialogue)
            (subst (λ (qs : List Q). g.has_found v.dialogue h.read h.has_ended (qs ++ is.waiting)) (sym again) is.found);
        text = texts_joined g.language h.answers (answers_of said)
            ∙ ap (λ (bytes : List ℕ). bytes ++ text_of g.language (answers_of said))
            (is.text ∙ ap (λ (bytes : List ℕ). h.written ++ bytes) quiet ∙ append-nil h.written)
            ∙ ap (λ (bytes : List ℕ). h.written ++ bytes) (sym is.hidden ∙ sym output);
        hidden = hidden;
        quiet = λ some. absurd (omega arith);
        wants = λ wants. let (none, going, come) = is.wants (sym phase ∙ wants) in
            (none, going, subst (λ (qs : List Q). g.language.have_come h.read qs) (sym again) come);
        over = λ over. let (none, are, ends) = is.over (sym phase ∙ over) in (
          none,
          subst (λ (qs : List Q). g.language.are_questions h.read qs) (sym again) are,
          subst (λ (qs : List Q). g.language.ends h.has_ended qs) (sym again) ends,
        );
      }

  -- its answer is hidden
  pub hidden_so : (u v w : LineView S P T) (before bytes text : List ℕ) → u ≡ v → before ≡ u.hidden → bytes ≡ text
      → w ≡ record u { asked = u.asked ++ take 1 u.waiting; waiting = drop 1 u.waiting; hidden = before ++ bytes }
      → w ≡ record v { asked = v.asked ++ take 1 v.waiting; waiting = drop 1 v.waiting; hidden = v.hidden ++ text }
  hidden_so u v w before bytes text same was e is =
      is ∙ (λ i. record u { asked = u.asked ++ take 1 u.waiting; waiting = drop 1 u.waiting; hidden = was i ++ e i })
      ∙ (λ i.
      let x = same i in
      record x { asked = x.asked ++ take 1 x.waiting; waiting = drop 1 x.waiting; hidden = x.hidden ++ text })

  -- its next question is answered
  pub heard_answered : (v w : LineView S P T) (h : Heard Q A) (said : List (Said Q A)) → v.phase ≡ Asks → v.output ≡ []
      → (is : IsHeard g v h said)
      → (first : IsFirst g.asks v.waiting is.waiting) → (s : Said Q A) → s.question ≡ first.question
      → w
      ≡ record v {
        asked = v.asked ++ take 1 v.waiting;
        waiting = drop 1 v.waiting;
        hidden = v.hidden ++ g.language.text s.answer;
      } → IsHeard g w h (said ++ s ∷ [])
  heard_answered v w h said phase quiet is first s asked same =
      subst (λ (x : LineView S P T). IsHeard g x h (said ++ s ∷ [])) (sym same) (record {
        waiting = first.rest;
        are_asked = subst (λ (qs : List Q). Ask g.asks (v.asked ++ take 1 v.waiting) qs)
            (sym (map-append (λ (s : Said Q A). s.question) said (s ∷ [])))
            (asks_joined g.asks v.asked (take 1 v.waiting) (questions_of said) (s.question ∷ []) is.are_asked
            (subst (λ (ps : List P). Ask g.asks (take 1 ps) (s.question ∷ [])) (sym first.are)
            (subst (λ (q : Q). g.asks first.held q) (sym asked) first.asked, tt)));
        are_waiting = subst (λ (ps : List P). Ask g.asks (drop 1 ps) first.rest) (sym first.are) first.are_others;
        found = subst (λ (qs : List Q). g.has_found v.dialogue h.read h.has_ended qs) found_so is.found;
        text = is.text;
        hidden = ap (λ (bytes : List ℕ). bytes ++ g.language.text s.answer) is.hidden
            ∙ ap (λ (bytes : List ℕ). text_of g.language (answers_of said) ++ bytes) (sym (append-nil (g.language.text s.answer)))
            ∙ sym (texts_joined g.language (answers_of said) (s.answer ∷ []))
            ∙ ap (text_of g.language) (sym (map-append (λ (s : Said Q A). s.answer) said (s ∷ [])));
        quiet = λ some. quiet;
        wants = λ wants. absurd (cc);
        over = λ over. absurd (cc);
      })
    where
      found_so : (h.questions ++ questions_of said) ++ is.waiting ≡ (h.questions ++ questions_of (said ++ s ∷ [])) ++ first.rest
      found_so =
          ap (λ (qs : List Q). (h.questions ++ questions_of said) ++ qs)
          (first.questions_are ∙ ap (λ (q : Q). q ∷ first.rest) (sym asked))
          ∙ sym (append_assoc (h.questions ++ questions_of said) (s.question ∷ []) first.rest)
          ∙ ap (λ (qs : List Q). qs ++ first.rest) (append_assoc h.questions (questions_of said) (s.question ∷ [])
          ∙ ap (λ (qs : List Q). h.questions ++ qs) (sym (map-append (λ (s : Said Q A). s.question) said (s ∷ []))))

  -- what is told once it is answered
  pub told_answered : AreSettled g → (v : LineView S P T) (h : Heard Q A) (said : List (Said Q A)) → (is : IsHeard g v h said)
      → (first : IsFirst g.asks v.waiting is.waiting) → (s : Said Q A) → s.question ≡ first.question
      → IsTold g.language (with_said h (said ++ s ∷ []))
  told_answered settled v h said is first s asked = record {
    first = λ more last. begins_shorter g.language (h.read ++ more) (h.questions ++ questions_of (said ++ s ∷ [])) first.rest
        (settled v.dialogue h.read h.has_ended ((h.questions ++ questions_of (said ++ s ∷ [])) ++ first.rest)
        (subst (λ (qs : List Q). g.has_found v.dialogue h.read h.has_ended qs) found_so is.found) more last);
    unwritten = v.output ++ text_of g.language (answers_of (said ++ s ∷ []));
    text =
        texts_joined g.language h.answers (answers_of (said ++ s ∷ []))
        ∙ ap (λ (bytes : List ℕ). bytes ++ text_of g.language (answers_of (said ++ s ∷ []))) is.text
        ∙ append_assoc h.written v.output (text_of g.language (answers_of (said ++ s ∷ [])));
  }
    where
      found_so : (h.questions ++ questions_of said) ++ is.waiting ≡ (h.questions ++ questions_of (said ++ s ∷ [])) ++ first.rest
      found_so =
          ap (λ (qs : List Q). (h.questions ++ questions_of said) ++ qs)
          (first.questions_are ∙ ap (λ (q : Q). q ∷ first.rest) (sym asked))
          ∙ sym (append_assoc (h.questions ++ questions_of said) (s.question ∷ []) first.rest)
          ∙ ap (λ (qs : List Q). qs ++ first.rest) (append_assoc h.questions (questions_of said) (s.question ∷ [])
          ∙ ap (λ (qs : List Q). h.questions ++ qs) (sym (map-append (λ (s : Said Q A). s.question) said (s ∷ []))))

  -- a piece has come
  pub heard_piece : (v w : LineView S P T) (h : Heard Q A) (bytes : List ℕ) → v.phase ≡ Wants → w.phase ≡ Asks → IsHeard g v h []
      → w.asked ≡ v.asked → w.waiting ≡ v.waiting → w.hidden ≡ v.hidden → w.output ≡ v.output
      → ((read : List ℕ) (questions : List Q) → g.has_found v.dialogue read false questions → g.language.have_come read questions
      → g.has_found w.dialogue (read ++ bytes) ((with_piece h bytes).has_ended) questions) → IsHeard g w (with_piece h bytes) []
  heard_piece v w h bytes wants asks is asked waiting hidden output taken =
      let (none, going, come) = is.wants wants in
      record {
        waiting = is.waiting;
        are_asked = subst (λ (ps : List P). Ask g.asks ps []) (sym asked) is.are_asked;
        are_waiting = subst (λ (ps : List P). Ask g.asks ps is.waiting) (sym waiting) is.are_waiting;
        found = subst (λ (qs : List Q).
            g.has_found w.dialogue (h.read ++ bytes) ((with_piece h bytes).has_ended) ((h.questions ++ []) ++ qs))
            (sym none)
            (subst (λ (qs : List Q). g.has_found w.dialogue (h.read ++ bytes) ((with_piece h bytes).has_ended) qs)
            (sym (append-nil (h.questions ++ [])))
            (taken h.read (h.questions ++ [])
            (subst (λ (ended : Bool). g.has_found v.dialogue h.read ended (h.questions ++ [])) going
            (subst (λ (qs : List Q). g.has_found v.dialogue h.read h.has_ended qs)
            (ap (λ (qs : List Q). (h.questions ++ []) ++ qs) none ∙ append-nil (h.questions ++ [])) is.found))
            come));
        text = is.text ∙ ap (λ (b : List ℕ). h.written ++ b) (sym output);
        hidden = hidden ∙ is.hidden;
        quiet = λ some. absurd (omega arith);
        wants = λ wants. absurd (cc);
        over = λ over. absurd (cc);
      }

  -- a beginning of the output is written
  pub heard_written : (v w : LineView S P T) (h : Heard Q A) (bytes : List ℕ) → IsHeard g v h []
      → w.dialogue ≡ v.dialogue → w.asked ≡ v.asked
      → w.waiting ≡ v.waiting → w.hidden ≡ v.hidden → w.phase ≡ v.phase → v.output ≡ bytes ++ w.output
      → IsHeard g w (with_written h bytes) []
  heard_written v w h bytes is dialogue asked waiting hidden phase output = record {
    waiting = is.waiting;
    are_asked = subst (λ (ps : List P). Ask g.asks ps []) (sym asked) is.are_asked;
    are_waiting = subst (λ (ps : List P). Ask g.asks ps is.waiting) (sym waiting) is.are_waiting;
    found = subst (λ (d : S). g.has_found d h.read h.has_ended ((h.questions ++ []) ++ is.waiting)) (sym dialogue) is.found;
    text = is.text ∙ ap (λ (b : List ℕ). h.written ++ b) output ∙ sym (append_assoc h.written bytes w.output);
    hidden = hidden ∙ is.hidden;
    quiet = λ some. absurd (omega arith);
    wants = λ wants. is.wants (sym phase ∙ wants);
    over = λ over. is.over (sym phase ∙ over);
  }

  -- a question is found, where none waits
  pub heard_found : (v w : LineView S P T) (h : Heard Q A) (said : List (Said Q A)) (held : P) → IsHeard g v h said
      → v.waiting ≡ [] → w.asked ≡ v.asked
      → w.waiting ≡ held ∷ [] → w.hidden ≡ v.hidden → w.output ≡ v.output → w.phase ≡ Asks
      → ((read : List ℕ) (ended : Bool) (questions : List Q) → g.has_found v.dialogue read ended questions
      → (q : Q) × g.asks held q × g.has_found w.dialogue read ended (questions ++ q ∷ [])) → IsHeard g w h said
  heard_found v w h said held is none asked waiting hidden output phase finds =
      let empty : is.waiting ≡ [] =
      asks_none g.asks is.waiting (subst (λ (ps : List P). Ask g.asks ps is.waiting) none is.are_waiting) in
      let (q, asks, found) = finds h.read h.has_ended (h.questions ++ questions_of said)
      (subst (λ (qs : List Q). g.has_found v.dialogue h.read h.has_ended qs)
      (ap (λ (qs : List Q). (h.questions ++ questions_of said) ++ qs) empty
      ∙ append-nil (h.questions ++ questions_of said)) is.found) in
      record {
        waiting = q ∷ [];
        are_asked = subst (λ (ps : List P). Ask g.asks ps (questions_of said)) (sym asked) is.are_asked;
        are_waiting = subst (λ (ps : List P). Ask g.asks ps (q ∷ [])) (sym waiting) (asks, tt);
        found = found;
        text = is.text ∙ ap (λ (b : List ℕ). h.written ++ b) (sym output);
        hidden = hidden ∙ is.hidden;
        quiet = λ some. output ∙ is.quiet some;
        wants = λ wants. absurd (cc);
        over = λ over. absurd (cc);
      }

  -- none is found: more is wanted, or it is over
  pub heard_paused : (v w : LineView S P T) (h : Heard Q A) (said : List (Said Q A)) → IsHeard g v h said
      → v.waiting ≡ [] → w.asked ≡ v.asked
      → w.waiting ≡ v.waiting → w.hidden ≡ v.hidden → w.output ≡ v.output
      → ((read : List ℕ) (ended : Bool) (questions : List Q) → g.has_found v.dialogue read ended questions
      → g.has_found w.dialogue read ended questions
      × (w.phase ≡ Wants → (ended ≡ false) × g.language.have_come read questions)
      × (w.phase ≡ Over → g.language.are_questions read questions × g.language.ends ended questions)) → IsHeard g w h said
  heard_paused v w h said is none asked waiting hidden output finds =
      let empty : is.waiting ≡ [] =
      asks_none g.asks is.waiting (subst (λ (ps : List P). Ask g.asks ps is.waiting) none is.are_waiting) in
      let same : (h.questions ++ questions_of said) ++ is.waiting ≡ h.questions ++ questions_of said =
      ap (λ (qs : List Q). (h.questions ++ questions_of said) ++ qs) empty ∙ append-nil (h.questions ++ questions_of said) in
      let (found, wants, over) =
      finds h.read h.has_ended (h.questions ++ questions_of said)
      (subst (λ (qs : List Q). g.has_found v.dialogue h.read h.has_ended qs) same is.found) in
      record {
        waiting = is.waiting;
        are_asked = subst (λ (ps : List P). Ask g.asks ps (questions_of said)) (sym asked) is.are_asked;
        are_waiting = subst (λ (ps : List P). Ask g.asks ps is.waiting) (sym waiting) is.are_waiting;
        found = subst (λ (qs : List Q). g.has_found w.dialogue h.read h.has_ended qs) (sym same) found;
        text = is.text ∙ ap (λ (b : List ℕ). h.written ++ b) (sym output);
        hidden = hidden ∙ is.hidden;
        quiet = λ some. output ∙ is.quiet some;
        wants = λ is_so. (empty, (wants is_so).0, (wants is_so).1);
        over = λ is_so. (empty, (over is_so).0, (over is_so).1);
      }

-- memory was refused, and nothing has changed
pub memory_same : {Q A : Type 0} (L : Language Q A) (fault : CallFault) (old : DeskState) (q : Q) (new : DeskState)
    → fault ≡ Memory
    → FailsOne L fault old q new → snapshot new ≡ snapshot old
memory_same L Memory old q new is (ledger, stopped, more) = λ i. record { ledger = ledger i; is_stopped = stopped i }
memory_same L Stopped old q new is h = absurd (cc)
