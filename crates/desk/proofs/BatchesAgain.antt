-- What is kept under a key stays so: a batch that comes again is answered the same, and changes nothing.
use Rattle.std.proofs.Common.{◌≡◌, ◌∙◌, ◌+◌, ◌-◌, ◌≤◌, ◌⊎◌, Bool, List, [], ◌∷◌, ◌++◌, ℕ, Option, Some, None}
use Rattle.std.proofs.Common.{MatchOption, ap, arith, drop, false, find, if◌then◌else◌, inl, inr, is_some, length, refl}
use Rattle.std.proofs.Common.{subst, sym, take, take-append-drop, true, true≢false}
use lib.Pointwise.{bytes_decides}
use Rattle.std.specs.List.{AllByRecursion as Each}
use Rattle.std.specs.Cmp.Lexicographic.{slice_cmp}
use Rattle.std.specs.Ordering.{is_lt, nat_cmp}
use Rattle.std.specs.Str.{bytes_eq}
use Rattle.words.specs.Spelling.{spelling}
use Rattle.words.specs.declared.command.Request.{Request}
use Rattle.words.specs.declared.reply.Reply.{Reply}
use Rattle.words.specs.declared.reply.Reply.TheVariants.{Done, Refused}
use Rattle.words.specs.declared.reply.Refusal.TheVariants.{KeyReused}
use Rattle.std.proofs.lemmas.List.{length-take-le}
use Rattle.ledger.specs.Answers.{After, Answers, AnswersNew, Runs, same_command}
use Rattle.ledger.specs.Ledger.{Kept, Ledger, insert_in_order, kept_under, places}
use Rattle.ledger.proofs.Runs.{runs_once}
use Rattle.desk.specs.Together.{IsBatch, IsDone, ResumableWithin}
use Rattle.desk.proofs.Batches.{batch_runs}
use Rattle.desk.proofs.Repeats.{kept_then}
use Rattle.desk.proofs.Resumption.{runs_joined, runs_length, runs_split}

-- what is found beside one that is put in
find_past : {X : Type 0} (p : X → Bool) (before : X → X → Bool) (x : X) (xs : List X) → p x ≡ false
    → find p (insert_in_order before x xs) ≡ find p xs
find_past p before x [] other = rw other refl
find_past p before x (y ∷ ys) other = by (before x y) (find_past p before x ys other)
  where
    by : (c : Bool) → find p (insert_in_order before x ys) ≡ find p ys
        → find p (if c then x ∷ y ∷ ys else y ∷ insert_in_order before x ys) ≡ (if p y then Some y else find p ys)
    by true more = rw other refl
    by false more = rw more refl

other_key : (A : Ledger) (j k : List ℕ) (e : Kept) → kept_under A j ≡ None → kept_under A k ≡ Some e → bytes_eq j k ≡ false
other_key A j k e none there = by (bytes_eq j k) refl
  where
    by : (b : Bool) → bytes_eq j k ≡ b → b ≡ false
    by false is = refl
    by true is =
        let same : j ≡ k = (bytes_decides j k).0 is in
        let found : kept_under A j ≡ Some e = subst (λ i. kept_under A i ≡ Some e) (sym same) there in
        absurd (true≢false (ap is_some (sym found ∙ none)))

kept_stays : (A B : Ledger) (r : Request) (reply : Reply) (k : List ℕ) (e : Kept) → Answers A r reply B
    → kept_under A k ≡ Some e → kept_under B k ≡ Some e
kept_stays A B r reply k e h there = by_key (kept_under A r.key) refl h
  where
    by_key : (o : Option Kept) → kept_under A r.key ≡ o
        → MatchOption o (AnswersNew A r reply B)
        (λ k. (reply ≡ (if same_command k.command r.command then Done k.place else Refused KeyReused 0)) × (B ≡ A))
        → kept_under B k ≡ Some e
    by_key (Some other) is (told, same) = subst (λ L. kept_under L k ≡ Some e) (sym same) there
    by_key None is (Some f, failed, left) = subst (λ L. kept_under L k ≡ Some e) (sym left.1) there
    by_key None is (None, passed, left) = subst (λ L. kept_under L k ≡ Some e) (sym left.1)
        (find_past (λ (x : Kept). bytes_eq x.key k) (λ a b. is_lt (slice_cmp nat_cmp a.key b.key))
        (record { key = r.key; place = places A + 1; command = r.command }) A.kept (other_key A r.key k e is there)
        ∙ there)

-- what is done is kept
done_kept : (A B : Ledger) (r : Request) (p : ℕ) → Answers A r (Done p) B
    → (e : Kept) × (kept_under B r.key ≡ Some e) × (same_command e.command r.command ≡ true) × (e.place ≡ p)
done_kept A B r p h = by_key (kept_under A r.key) refl h
  where
    told : (k : Kept) → (b : Bool) → same_command k.command r.command ≡ b
        → Done p ≡ (if b then Done k.place else Refused KeyReused 0)
        → (same_command k.command r.command ≡ true) × (k.place ≡ p)
    told k true same is = (same, cc)
    told k false same is = absurd cc

    by_key : (o : Option Kept) → kept_under A r.key ≡ o
        → MatchOption o (AnswersNew A r (Done p) B)
        (λ k. (Done p ≡ (if same_command k.command r.command then Done k.place else Refused KeyReused 0)) × (B ≡ A))
        → (e : Kept) × (kept_under B r.key ≡ Some e) × (same_command e.command r.command ≡ true) × (e.place ≡ p)
    by_key (Some k) e (is, same) =
        let t = told k (same_command k.command r.command) refl is in
        (k, subst (λ L. kept_under L r.key ≡ Some k) (sym same) e, t.0, t.1)
    by_key None e (Some f, failed, left) = let is = left.0 in absurd cc
    by_key None e (None, passed, left) =
        let is = left.0 in (
          record { key = r.key; place = places A + 1; command = r.command },
          subst (λ L. kept_under L r.key ≡ Some (record { key = r.key; place = places A + 1; command = r.command }))
              (sym left.1) (kept_then A r e),
          (bytes_decides (spelling r.command) (spelling r.command)).1 refl,
          cc,
        )

-- and answered so wherever it is kept
kept_again : (C : Ledger) (r : Request) (p : ℕ) (e : Kept) → kept_under C r.key ≡ Some e
    → same_command e.command r.command ≡ true → e.place ≡ p → Answers C r (Done p) C
kept_again C r p e there same place = rw there (rw same (ap (λ n. Done n) (sym place), refl))

pub runs_keep : (A B : Ledger) (rs : List Request) (ps : List Reply) (k : List ℕ) (e : Kept) → Runs A rs ps B
    → kept_under A k ≡ Some e → kept_under B k ≡ Some e
runs_keep A B [] [] k e same there = subst (λ L. kept_under L k ≡ Some e) (sym same) there
runs_keep A B [] (p ∷ ps) k e h there = absurd h
runs_keep A B (r ∷ rs) [] k e h there = absurd h
runs_keep A B (r ∷ rs) (p ∷ ps) k e (L, first, rest) there = runs_keep L B rs ps k e rest (kept_stays A L r p k e first there)

pub done_again : (A B C : Ledger) (rs : List Request) (ps : List Reply) → Runs A rs ps B → Each IsDone ps
    → ((k : List ℕ) (e : Kept) → kept_under B k ≡ Some e → kept_under C k ≡ Some e) → Runs C rs ps C
done_again A B C [] [] h done keeps = refl
done_again A B C [] (p ∷ ps) h done keeps = absurd h
done_again A B C (r ∷ rs) [] h done keeps = absurd h
done_again A B C (r ∷ rs) (p ∷ ps) (L, first, rest) ((place, is), more) keeps =
    let (e, there, same, at) = done_kept A L r place (subst (λ q. Answers A r q L) is first) in
    let again : Answers C r (Done place) C =
    kept_again C r place e (keeps r.key e (runs_keep L B rs ps r.key e rest there)) same at in
    (C, subst (λ q. Answers C r q C) (sym is) again, done_again L B C rs ps rest more keeps)

pub batch_again : (A B : Ledger) (rs : List Request) (ps : List Reply) → IsBatch A rs ps B → Runs B rs ps B
batch_again A B rs ps h =
    let first = done_again A B B h.first h.told h.done h.all_done (λ k e there. there) in
    subst (λ (xs : List Request). Runs B xs ps B) (sym h.requests_are)
    (subst (λ (qs : List Reply). Runs B (h.first ++ h.behind) qs B) (sym h.replies_are)
    (runs_joined B B B h.first h.behind h.told h.refused first h.rest))

-- who stands behind a batch gets what one who stands before it gets
batch_resumed : (A B last : Ledger) (rs : List Request) (n : ℕ) (told ps : List Reply) → IsBatch A (take n rs) told B
    → Runs B rs ps last → Runs A rs ps last
batch_resumed A B last rs n told ps batch run =
    let parts =
    runs_split B last (take n rs) (drop n rs) ps
    (subst (λ (xs : List Request). Runs B xs ps last) (sym (take-append-drop n rs)) run) in
    let same = runs_once B (take n rs) _ told parts.0 B parts.1 (batch_again A B (take n rs) told batch) in
    let front : Runs A (take n rs) (take (length (take n rs)) ps) B =
    subst (λ (qs : List Reply). Runs A (take n rs) qs B) (sym same.0) (batch_runs A B (take n rs) told batch) in
    subst (λ (xs : List Request). Runs A xs ps last) (take-append-drop n rs)
    (subst (λ (qs : List Reply). Runs A (take n rs ++ drop n rs) qs last) (take-append-drop (length (take n rs)) ps)
    (runs_joined A B last (take n rs) (drop n rs) _ _ front
    (subst (λ L. Runs L (drop n rs) (drop (length (take n rs)) ps) last) same.1 parts.2)))

-- ---- where a run may be resumed that was cut by a failing commit

one_less : (n : ℕ) → n + 1 - 1 ≡ n
one_less n = omega arith

pub fails_within : (A mid B : Ledger) (rs : List Request) (ps untold : List Reply) (count : ℕ)
    → Runs A (take (length ps) rs) ps mid → IsBatch mid (take count (drop (length ps) rs)) untold B
    → ResumableWithin A rs (length ps + 1) mid × ResumableWithin A rs (length ps + 1) B
fails_within A mid B rs ps untold count run batch = (
  (mid, before, inl refl),
  (
    mid,
    before,
    inr (
      count,
      untold,
      subst (λ i. IsBatch mid (take count (drop i rs)) untold B) (sym (one_less (length ps))) batch,
    ),
  ),
)
  where
    before : After A rs (length ps + 1 - 1) mid
    before = (ps, subst (λ i. Runs A (take i rs) ps mid) (sym (one_less (length ps))) run)

pub resumed_within : (A B last : Ledger) (rs : List Request) (k : ℕ) (ps : List Reply) → 1 ≤ k → k ≤ length rs + 1
    → ResumableWithin A rs k B → Runs B (drop (k - 1) rs) ps last
    → (before : List Reply) × (length before + 1 ≡ k) × Runs A rs (before ++ ps) last
resumed_within A B last rs k ps one le (M, (before, first), stands) run =
    let size : length before ≡ k - 1 =
    runs_length A M (take (k - 1) rs) before first ∙ length-take-le (k - 1) rs (omega arith) in (
      before,
      omega (arith, size),
      subst (λ (xs : List Request). Runs A xs (before ++ ps) last) (take-append-drop (k - 1) rs)
          (runs_joined A M last (take (k - 1) rs) (drop (k - 1) rs) before ps first (on stands)),
    )
  where
    on : (B ≡ M) ⊎ ((count : ℕ) × (untold : List Reply) × IsBatch M (take count (drop (k - 1) rs)) untold B)
        → Runs M (drop (k - 1) rs) ps last
    on (inl same) = subst (λ L. Runs L (drop (k - 1) rs) ps last) same run
    on (inr (count, untold, batch)) = batch_resumed M B last (drop (k - 1) rs) count untold ps batch run
