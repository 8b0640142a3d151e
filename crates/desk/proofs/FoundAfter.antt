-- What an opening finds after a run, after a script, and after many cuts.
use Rattle.std.proofs.Common.{◌≡◌, ◌∙◌, ◌⊎◌, ◌<◌, ◌≤◌, ◌+◌, ◌-◌, ◌++◌, ℕ, List, [], ◌∷◌, Option, None, Some, arith}
use Rattle.std.proofs.Common.{drop, inl, inr, length, refl, subst, sym, take}
use native.Mathlib.Decide.{dec_lt}
use Rattle.std.specs.Prelude.{◌≢◌, ◌↔◌, IfErr, IfOk, IfSome, Result, Ok, Err}
use Rattle.std.proofs.lemmas.List.{length-take-le, take-append-drop, take_at}
use Rattle.std.proofs.Math.Logic.{∥∥₁_elim, ∥∥₁_map}
use Rattle.words.specs.declared.command.Request.{Request}
use Rattle.words.specs.declared.reply.Reply.{Reply}
use Rattle.ledger.specs.Answers.{After, Runs}
use Rattle.ledger.specs.Future.{Honours, HonoursAlways}
use Rattle.ledger.specs.Good.{Good}
use Rattle.ledger.specs.Ledger.{Ledger}
use Rattle.ledger.specs.Rows.{Content, IsRowsOf}
use Rattle.ledger.proofs.EqualRows.{told_by_rows}
use Rattle.ledger.proofs.Runs.{runs_once}
use Rattle.keep.specs.Content.{IsAmong}
use Rattle.keep.specs.declared.keep.Keep.{Ghosts}
use Rattle.desk.specs.Desk.{DeskView, IsStored, LeavesEither}
use Rattle.desk.specs.Opening.{IsOpened, OpensAt, keeper_after}
use Rattle.desk.specs.Headline.{GoesOnWith, IsFoundAfter, LeavesOneOf, LeavesRowsOf, answered}
use Rattle.desk.specs.Resuming.{Resumes, ResumableAt}
use Rattle.desk.specs.declared.fault.OpenFault.{OpenFault}
use Rattle.desk.specs.declared.fault.OpenFault.TheVariants.{Damaged, Memory, NotADesk, OldVersion, Store}
use Rattle.desk.specs.declared.run.Ending.{Ending}
use Rattle.desk.specs.declared.run.Ending.TheVariants.{All, Memory as OutOfMemory, Stopped}
use Rattle.desk.specs.declared.run.Run.{Run}
use Rattle.desk.proofs.Resumption.{few, is_whole, runs_split}

-- ---- what a stop leaves

-- the rows of one ledger
pub stored_left : (M : Ledger) (Is : Ledger → Type 0) (holds : Content → Type 0) (leaves : List Content → Type 0)
    → Good M → Is M → IsStored holds leaves M → LeavesRowsOf leaves Is
stored_left M Is holds leaves good is stored = record { these = stored.rows ∷ []; leaves_these = stored.alone; are_rows = at }
  where
    at : (x : Content) → IsAmong (stored.rows ∷ []) x → (A : Ledger) × Good A × IsRowsOf A x × Is A
    at x (inl same) = (M, good, subst (λ (y : Content). IsRowsOf M y) (sym same) stored.are_rows, is)
    at x (inr never) = absurd never

-- or of two
pub either_left : (M next : Ledger) (Is : Ledger → Type 0) (leaves : List Content → Type 0) → Is M → Is next
    → LeavesEither leaves M next → LeavesRowsOf leaves Is
either_left M next Is leaves is is_next either =
    record { these = either.before ∷ either.after ∷ []; leaves_these = either.either; are_rows = at }
  where
    at : (x : Content) → IsAmong (either.before ∷ either.after ∷ []) x → (A : Ledger) × Good A × IsRowsOf A x × Is A
    at x (inl same) = (M, either.good_before, subst (λ (y : Content). IsRowsOf M y) (sym same) either.are_before, is)
    at x (inr (inl same)) =
        (next, either.good_after, subst (λ (y : Content). IsRowsOf next y) (sym same) either.are_after, is_next)
    at x (inr (inr never)) = absurd never

-- and these ledgers are good
pub good_left : (leaves : List Content → Type 0) (Is : Ledger → Type 0) → LeavesRowsOf leaves Is → LeavesRowsOf leaves Good
good_left leaves Is left = record {
  these = left.these;
  leaves_these = left.leaves_these;
  are_rows = λ x among. let (A, good, rows, is) = left.are_rows x among in (A, good, rows, good);
}

-- ---- what an opening makes of it

-- a fault is one of two, so which it is can be told
one_of_two : (f : OpenFault) → ∥ (f ≡ Memory) ⊎ (f ≡ Store) ∥₁ → (f ≡ Memory) ⊎ (f ≡ Store)
one_of_two Memory h = inl refl
one_of_two Store h = inr refl
one_of_two Damaged h = absurd (∥∥₁_elim h (λ p q. absurd p) neither)
  where
    neither : (Damaged ≡ Memory) ⊎ (Damaged ≡ Store) → ⊥
    neither (inl e) = cc
    neither (inr e) = cc
one_of_two NotADesk h = absurd (∥∥₁_elim h (λ p q. absurd p) neither)
  where
    neither : (NotADesk ≡ Memory) ⊎ (NotADesk ≡ Store) → ⊥
    neither (inl e) = cc
    neither (inr e) = cc
one_of_two OldVersion h = absurd (∥∥₁_elim h (λ p q. absurd p) neither)
  where
    neither : (OldVersion ≡ Memory) ⊎ (OldVersion ≡ Store) → ⊥
    neither (inl e) = cc
    neither (inr e) = cc

-- the rows of what is opened are among those that the stop left
pub opened_rows : {K : Type 0} (g : Ghosts K) (keep : K) (r : Result (DeskView K) (OpenFault × K))
    (these : List Content) → ∥ ((x : Content) × g.holds keep x × IsAmong these x) ∥₁
    → IfOk r (λ desk. IsOpened g keep desk)
    → g.is_honest (keeper_after r) → IfOk r (λ desk. ∥ ((x : Content) × IsAmong these x × IsRowsOf desk.ledger x) ∥₁)
opened_rows g keep (Ok desk) these found opened honest =
    ∥∥₁_map found (λ f.
    let r : ((x : Content) × IsAmong these x × IsRowsOf desk.ledger x) = (f.0, f.2, opened.rows honest f.0 f.1) in
    r)
opened_rows g keep (Err e) these found opened honest = tt

-- with good ledgers left, a refusal is for memory or by the store
pub refused_so : {K : Type 0} (r : Result (DeskView K) (OpenFault × K)) (leaves : List Content → Type 0)
    (Held : Content → Type 0) → (left : LeavesRowsOf leaves Good)
    → ∥ ((x : Content) × Held x × IsAmong left.these x) ∥₁
    → ((A : Ledger) (x : Content) → Good A → IsRowsOf A x → Held x → OpensAt A r)
    → IfErr r (λ e. (e.0 ≡ Memory) ⊎ (e.0 ≡ Store))
refused_so (Ok desk) leaves Held left found opens = tt
refused_so (Err e) leaves Held left found opens =
    one_of_two e.0 (∥∥₁_map found (λ f. let (A, good, rows, is) = left.are_rows f.0 f.2 in opens A f.0 good rows f.1))

-- the ledger that is opened is one of those
pub opened_one : {K : Type 0} (r : Result (DeskView K) (OpenFault × K)) (leaves : List Content → Type 0)
    (Is : Ledger → Type 0) → (left : LeavesRowsOf leaves Is)
    → IfOk r (λ desk. Good desk.ledger × Honours desk.ledger × HonoursAlways desk.ledger)
    → IfOk r (λ desk. ∥ ((x : Content) × IsAmong left.these x × IsRowsOf desk.ledger x) ∥₁) → IfOk r (λ desk. ∥ Is desk.ledger ∥₁)
opened_one (Ok desk) leaves Is left good found =
    ∥∥₁_map found (λ f. let (A, sound, rows, is) = left.are_rows f.0 f.1 in
    subst Is (told_by_rows A desk.ledger f.0 sound good.0 rows f.2) is)
opened_one (Err e) leaves Is left good found = tt

-- another stop leaves what was found alone
pub left_alone : (these : List Content) (Held : Content → Type 0) (leaves : List Content → Type 0)
    → ∥ ((x : Content) × Held x × IsAmong these x) ∥₁ → ((x : Content) → Held x → leaves (x ∷ []))
    → ∥ ((x : Content) × IsAmong these x × leaves (x ∷ [])) ∥₁
left_alone these Held leaves found alone =
    ∥∥₁_map found (λ f. let r : ((x : Content) × IsAmong these x × leaves (x ∷ [])) = (f.0, f.2, alone f.0 f.1) in r)

-- of what is left that is one
left_still : (before after : List Content → Type 0) (Is : Ledger → Type 0) → (left : LeavesRowsOf before Is)
    → ∥ ((x : Content) × IsAmong left.these x × after (x ∷ [])) ∥₁ → ∥ LeavesRowsOf after Is ∥₁
left_still before after Is left found = ∥∥₁_map found one
  where
    one : ((x : Content) × IsAmong left.these x × after (x ∷ [])) → LeavesRowsOf after Is
    one (x, among, leaves) = record { these = x ∷ []; leaves_these = leaves; are_rows = at }
      where
        at : (y : Content) → IsAmong (x ∷ []) y → (A : Ledger) × Good A × IsRowsOf A y × Is A
        at y (inl same) = left.are_rows y (subst (IsAmong left.these) (sym same) among)
        at y (inr never) = absurd never

-- ---- what is found after a stop that left such rows, where the keeper recovers

module _ {K : Type 0} (Honest : K → Type 0) (leaves : List Content → Type 0) (Before : Type 0) (Is : Ledger → Type 0) where
  pub found_of : (o : Option (Result (DeskView K) (OpenFault × K))) → IfSome o (λ r. Honest (keeper_after r) → Before)
      → (Before → LeavesRowsOf leaves Is)
      → IfSome o (λ r.
      Honest (keeper_after r) → (these : List Content) → leaves these
      → IfOk r (λ desk. ∥ ((x : Content) × IsAmong these x × IsRowsOf desk.ledger x) ∥₁))
      → IfSome o (λ r. IfOk r (λ desk. Good desk.ledger × Honours desk.ledger × HonoursAlways desk.ledger))
      → IfSome o (λ r. Honest (keeper_after r) → IfOk r (λ desk. ∥ Is desk.ledger ∥₁))
  found_of None before left found good = tt
  found_of (Some r) before left found good =
      λ honest.
      let those = left (before honest) in
      opened_one r leaves Is those good (found honest those.these those.leaves_these)

  pub refused_of : (o : Option (Result (DeskView K) (OpenFault × K))) → IfSome o (λ r. Honest (keeper_after r) → Before)
      → (Before → LeavesRowsOf leaves Is)
      → IfSome o (λ r. Honest (keeper_after r) → LeavesRowsOf leaves Good → IfErr r (λ e. (e.0 ≡ Memory) ⊎ (e.0 ≡ Store)))
      → IfSome o (λ r. Honest (keeper_after r) → IfErr r (λ e. (e.0 ≡ Memory) ⊎ (e.0 ≡ Store)))
  refused_of None before left refused = tt
  refused_of (Some r) before left refused = λ honest. refused honest (good_left leaves Is (left (before honest)))

  pub left_of : (after : K → List Content → Type 0) (o : Option (Result (DeskView K) (OpenFault × K)))
      → IfSome o (λ r. Honest (keeper_after r) → Before) → (Before → LeavesRowsOf leaves Is)
      → IfSome o (λ r.
      Honest (keeper_after r) → (these : List Content) → leaves these
      → ∥ ((x : Content) × IsAmong these x × after (keeper_after r) (x ∷ [])) ∥₁)
      → IfSome o (λ r. Honest (keeper_after r) → ∥ LeavesRowsOf (after (keeper_after r)) Is ∥₁)
  left_of after None before left found = tt
  left_of after (Some r) before left found =
      λ honest.
      let those = left (before honest) in
      left_still leaves (after (keeper_after r)) Is those (found honest those.these those.leaves_these)

-- what is opened was left by the keeper that is cut off
pub opens_of : {K : Type 0} (g : Ghosts K) (o : Option (Result (DeskView K) (OpenFault × K))) (last cut : K)
    → last ≡ cut → IfSome o (λ r. g.is_honest (keeper_after r) → g.is_honest cut)
    → IfSome o (λ r. g.is_honest (keeper_after r) → LeavesOneOf (g.leaves cut) (g.leaves (keeper_after r)))
    → IfSome o (λ r. g.is_honest (keeper_after r) → g.is_honest last × LeavesOneOf (g.leaves last) (g.leaves (keeper_after r)))
opens_of g None last cut same before left = tt
opens_of g (Some r) last cut same before left = λ honest. (
  subst g.is_honest (sym same) (before honest),
  subst (λ k. LeavesOneOf (g.leaves k) (g.leaves (keeper_after r))) (sym same) (left honest),
)

-- ---- after a run

below : {m n : ℕ} → m ≤ n → m ≢ n → m < n
below {m} {n} le apart = elim (dec_lt m n) [ yes h ↦ h | no h ↦ absurd (apart (omega arith)) ]

-- the ledger after the requests that are answered
told : (A M : Ledger) (rs : List Request) (run : Run) → Runs A (take (answered run) rs) run.replies.items M
    → IsFoundAfter A rs run M
told A M rs run is = record {
  done = answered run;
  none_lost = omega arith;
  one_more = omega arith;
  none_unasked = few A M rs run.replies.items is;
  all_told = λ _. refl;
  after = (run.replies.items, is);
}

-- the one after a request more
one_more_done : (A B : Ledger) (rs : List Request) (run : Run) → run.ending ≡ Stopped → answered run < length rs
    → After A rs (answered run + 1) B → IsFoundAfter A rs run B
one_more_done A B rs run stopped more after = record {
  done = answered run + 1;
  none_lost = omega arith;
  one_more = omega arith;
  none_unasked = omega arith;
  all_told = λ went. absurd (went stopped);
  after = after;
}

pub run_left : (A M : Ledger) (rs : List Request) (run : Run) (holds : Content → Type 0)
    (leaves : List Content → Type 0) → Good M → Runs A (take (answered run) rs) run.replies.items M
    → (run.ending ≢ Stopped → IsStored holds leaves M) → (run.ending ≡ All ↔ answered run ≡ length rs)
    → (run.ending ≡ Stopped → (next : Ledger) × After A rs (answered run + 1) next × LeavesEither leaves M next)
    → LeavesRowsOf leaves (IsFoundAfter A rs run)
run_left A M rs run holds leaves good is stored all either = by run.ending refl
  where
    went : run.ending ≢ Stopped → LeavesRowsOf leaves (IsFoundAfter A rs run)
    went on = stored_left M (IsFoundAfter A rs run) holds leaves good (told A M rs run is) (stored on)

    by : (e : Ending) → run.ending ≡ e → LeavesRowsOf leaves (IsFoundAfter A rs run)
    by All e = went (λ is. cc)
    by OutOfMemory e = went (λ is. cc)
    by Stopped e =
        let more : answered run < length rs = below (few A M rs run.replies.items is) (λ full. let all_told = all.1 full in cc) in
        let (B, after, two) = either e in
        either_left M B (IsFoundAfter A rs run) leaves (told A M rs run is) (one_more_done A B rs run e more after) two

-- ---- resumed behind the last reply

-- a ledger that is found is one at which the run may be resumed
stands_found : (A B : Ledger) (rs : List Request) (run : Run) → IsFoundAfter A rs run B → ResumableAt A rs (answered run + 1) B
stands_found A B rs run found =
    let low = found.none_lost in
    let high = found.one_more in
    let there = found.none_unasked in
    elim (dec_lt (answered run) found.done) [
      | yes more ↦ inr (omega arith, subst (λ i. After A rs i B) (omega arith) found.after)
      | no same ↦ inl (subst (λ i. After A rs i B) (omega arith) found.after)
    ]

-- the replies before the cut are those that the whole run begins with
whole_run : (A M B : Ledger) (rs : List Request) (ps before rest : List Reply) → Runs A (take (length ps) rs) ps M
    → length before ≡ length ps → Runs A rs (before ++ rest) B → Runs A rs (ps ++ rest) B
whole_run A M B rs ps before rest first size run =
    let n : ℕ = length ps in
    let parts =
    runs_split A B (take n rs) (drop n rs) (before ++ rest)
    (subst (λ (xs : List Request). Runs A xs (before ++ rest) B) (sym (take-append-drop n rs)) run) in
    let front : length (take n rs) ≡ n = length-take-le n rs (few A M rs ps first) in
    let same : before ≡ ps =
    sym (take_at before rest (length (take n rs)) (size ∙ sym front))
    ∙ (runs_once A (take n rs) _ ps parts.0 M parts.1 first).0 in
    subst (λ (xs : List Reply). Runs A rs (xs ++ rest) B) same run

-- ---- gone on with

-- what is so of what there is
pub some_of : {X : Type 0} {o : Option X} {x : X} (P : X → Type 0) → o ≡ Some x → IfSome o P → P x
some_of P is all = subst (λ o. IfSome o P) is all

module _ {K : Type 0} (Honest : K → Type 0) (A : Ledger) (rs : List Request) (run : Run)
    (opened : Result (DeskView K) (OpenFault × K)) where
  pub resumed_of : (r : Result (DeskView K × Run) (OpenFault × K)) (k : ℕ) → k ≡ answered run + 1
      → (Honest (keeper_after opened) → IfOk opened (λ desk. ∥ IsFoundAfter A rs run desk.ledger ∥₁))
      → IfOk r (λ after.
      Honest after.0.keep
      → (again : DeskView K) × (opened ≡ Ok again) × Honest again.keep
      × ((B : Ledger) → ResumableAt B rs k again.ledger → Resumes B rs k after.1.replies.items after.0.ledger))
      → IfOk r (λ after. Honest after.0.keep → ∥ Resumes A rs (answered run + 1) after.1.replies.items after.0.ledger ∥₁)
  resumed_of (Ok after) k is found resumed = λ honest. let (again, same, honest_again, goes_on) = resumed honest in
      let there =
      subst (λ (o : Result (DeskView K) (OpenFault × K)).
      Honest (keeper_after o) → IfOk o (λ desk. ∥ IsFoundAfter A rs run desk.ledger ∥₁)) same found
      honest_again in
      ∥∥₁_map there (λ f. subst (λ i. Resumes A rs i after.1.replies.items after.0.ledger) is
      (goes_on A (subst (λ i. ResumableAt A rs i again.ledger) (sym is) (stands_found A again.ledger rs run f))))
  resumed_of (Err e) k is found resumed = tt

  pub whole_of : (r : Result (DeskView K × Run) (OpenFault × K)) (M : Ledger)
      → Runs A (take (answered run) rs) run.replies.items M
      → IfOk r
      (λ after. Honest after.0.keep → ∥ Resumes A rs (answered run + 1) after.1.replies.items after.0.ledger ∥₁)
      → IfOk r (λ after. after.1.ending ≡ All ↔ answered run + answered after.1 ≡ length rs)
      → IfOk r (λ after.
      Honest after.0.keep → after.1.ending ≡ All
      → ∥ Runs A rs (run.replies.items ++ after.1.replies.items) after.0.ledger ∥₁)
  whole_of (Ok after) M first resumed rest = λ honest all. ∥∥₁_map (resumed honest) (λ f.
      let count = rest.0 all in
      let (before, size, runs) = is_whole A after.0.ledger rs (answered run + 1) after.1.replies.items f (omega (arith, count)) in
      whole_run A M after.0.ledger rs run.replies.items before after.1.replies.items first (omega (arith, size)) runs)
  whole_of (Err e) M first resumed rest = tt

  -- it has gone on at a ledger that is found after the run
  pub behind_of : (g : Ghosts K) (r : Result (DeskView K × Run) (OpenFault × K)) (k : ℕ) → k ≡ answered run + 1
      → (Honest (keeper_after opened) → IfOk opened (λ desk. ∥ IsFoundAfter A rs run desk.ledger ∥₁))
      → IfOk r (λ after.
      (next : GoesOnWith g (drop (k - 1) rs) after.1 after.0)
      × (Honest after.0.keep
      → (again : DeskView K) × (opened ≡ Ok again) × Honest again.keep × (next.found ≡ again.ledger)))
      → IfOk r (λ after.
      (next : GoesOnWith g (drop (answered run) rs) after.1 after.0)
      × (Honest after.0.keep → ∥ IsFoundAfter A rs run next.found ∥₁))
  behind_of g (Ok after) k is found (next, same) =
      subst (λ i.
      (next : GoesOnWith g (drop i rs) after.1 after.0)
      × (Honest after.0.keep → ∥ IsFoundAfter A rs run next.found ∥₁)) (omega (arith, is)) (
        next,
        λ honest. let (again, ok, honest_again, at) = same honest in
            let there =
            subst (λ (o : Result (DeskView K) (OpenFault × K)).
            Honest (keeper_after o) → IfOk o (λ desk. ∥ IsFoundAfter A rs run desk.ledger ∥₁)) ok found
            honest_again in
            subst (λ M. ∥ IsFoundAfter A rs run M ∥₁) (sym at) there,
      )
  behind_of g (Err e) k is found behind = tt

  -- or was refused, and a stop leaves rows of such ledgers alone
  pub refused_still : (leaves : K → List Content → Type 0) (r : Result (DeskView K × Run) (OpenFault × K))
      → (Honest (keeper_after opened) → IfErr opened (λ e. (e.0 ≡ Memory) ⊎ (e.0 ≡ Store)))
      → (Honest (keeper_after opened) → ∥ LeavesRowsOf (leaves (keeper_after opened)) (IsFoundAfter A rs run) ∥₁)
      → IfErr r (λ e. opened ≡ Err e)
      → IfErr r (λ e. Honest e.1 → ((e.0 ≡ Memory) ⊎ (e.0 ≡ Store)) × ∥ LeavesRowsOf (leaves e.1) (IsFoundAfter A rs run) ∥₁)
  refused_still leaves (Ok after) refused left same = tt
  refused_still leaves (Err e) refused left same = λ honest. (
    subst (λ (o : Result (DeskView K) (OpenFault × K)).
        Honest (keeper_after o) → IfErr o (λ f. (f.0 ≡ Memory) ⊎ (f.0 ≡ Store))) same refused honest,
    subst (λ (o : Result (DeskView K) (OpenFault × K)).
        Honest (keeper_after o) → ∥ LeavesRowsOf (leaves (keeper_after o)) (IsFoundAfter A rs run) ∥₁) same left honest,
  )

-- how many replies there are in all
pub rest_of : {T E : Type 0} (r : Result (T × Run) E) (k m n : ℕ) → k ≡ m + 1
    → IfOk r (λ after. after.1.ending ≡ All ↔ k + answered after.1 ≡ n + 1)
    → IfOk r (λ after. after.1.ending ≡ All ↔ m + answered after.1 ≡ n)
rest_of (Ok after) k m n is rest = (λ all. let e = rest.0 all in omega (arith, is), λ e. rest.1 (omega (arith, is, e)))
rest_of (Err e) k m n is rest = tt
