-- A run that is carried out in batches and cut any number of times is the run.
use Rattle.std.proofs.Common.{◌≡◌, ◌∙◌, ◌⊎◌, ◌+◌, ◌-◌, ◌≤◌, ◌++◌, ℕ, List, [], ◌∷◌, Option, Some, None, MatchOption, ap}
use Rattle.std.proofs.Common.{append-nil, append_assoc, arith, drop, flat_map, if◌then◌else◌, inl, inr, length, refl}
use Rattle.std.proofs.Common.{suc, subst, sym, take, take-append-drop, zero}
use Rattle.std.proofs.lemmas.List.{drop-drop, length-append, length-take-le, take_at}
use Rattle.std.proofs.Math.Seq.{drop-length, take-add}
use native.Mathlib.Decide.{dec_lt}
use Rattle.std.specs.List.{AllByRecursion as Each}
use Rattle.words.specs.declared.command.Request.{Request}
use Rattle.words.specs.declared.reply.Reply.{Reply}
use Rattle.words.specs.declared.reply.Reply.TheVariants.{Done, Refused}
use Rattle.words.specs.declared.reply.Refusal.TheVariants.{KeyReused}
use Rattle.ledger.specs.Answers.{Answers, AnswersNew, Runs, same_command}
use Rattle.ledger.specs.Ledger.{Kept, Ledger, kept_under, places}
use Rattle.ledger.specs.Rows.{Content, IsRowsOf}
use Rattle.ledger.specs.Good.{Good}
use Rattle.ledger.proofs.EqualRows.{one_content, told_by_rows}
use Rattle.ledger.proofs.Runs.{runs_once}
use Rattle.desk.specs.Resuming.{Resumes, ResumesAgain, ResumableAt}
use Rattle.desk.specs.Together.{IsBatch, IsDone, ResumesWithin, ResumesWithinAgain, RunsInLists, ResumableWithin}
use Rattle.desk.proofs.BatchesAgain.{done_again, runs_keep}
use Rattle.desk.proofs.Resumption.{resumed_same, runs_joined, runs_length, runs_on, runs_split}

-- ---- what is done from one ledger to another

-- B is M, or stands behind a batch of the first of the requests
abbrev IsWithin : Ledger → List Request → Ledger → Type 0
IsWithin M rs B = (B ≡ M) ⊎ ((count : ℕ) × (untold : List Reply) × IsBatch M (take count rs) untold B)

-- the first of the requests are done, and lead from M to B
abbrev IsDoneTo : Ledger → List Request → Ledger → Type 0
IsDoneTo M rs B = (count : ℕ) × (told : List Reply) × Runs M (take count rs) told B × Each IsDone told

-- a batch leads to where those of it lead that are done
to_done : (M B : Ledger) (rs : List Request) → IsWithin M rs B → IsDoneTo M rs B
to_done M B rs (inl same) = (0, [], same, tt)
to_done M B rs (inr (count, untold, h)) =
    (length h.first, h.told, subst (λ (xs : List Request). Runs M xs h.told B) (sym front) h.done, h.all_done)
  where
    front : take (length h.first) rs ≡ h.first
    front = subst (λ (xs : List Request). take (length h.first) xs ≡ h.first)
        (sym (append_assoc h.first h.behind (drop count rs))
        ∙ ap (λ (xs : List Request). xs ++ drop count rs) (sym h.requests_are) ∙ take-append-drop count rs)
        (take_at h.first (h.behind ++ drop count rs) (length h.first) refl)

from_done : (M B : Ledger) (rs : List Request) → IsDoneTo M rs B → IsWithin M rs B
from_done M B rs (count, told, run, done) = inr (
  count,
  told,
  record {
    first = take count rs;
    behind = [];
    told = told;
    refused = [];
    requests_are = sym (append-nil (take count rs));
    replies_are = sym (append-nil told);
    done = run;
    all_done = done;
    rest = refl;
  },
)

each_take : (n : ℕ) (ps : List Reply) → Each IsDone ps → Each IsDone (take n ps)
each_take zero ps h = tt
each_take (suc n) [] h = tt
each_take (suc n) (p ∷ ps) h = (h.0, each_take n ps h.1)

each_drop : (n : ℕ) (ps : List Reply) → Each IsDone ps → Each IsDone (drop n ps)
each_drop zero ps h = h
each_drop (suc n) [] h = tt
each_drop (suc n) (p ∷ ps) h = each_drop n ps h.1

-- a run from behind what is done, through it and further, is the one from before it
done_past : (A B last : Ledger) (rs ss : List Request) (told ps : List Reply) → Runs A rs told B → Each IsDone told
    → Runs B (rs ++ ss) ps last → Runs A (rs ++ ss) ps last
done_past A B last rs ss told ps first done run =
    let (M, front, more) = runs_split B last rs ss ps run in
    let same = runs_once B rs (take (length rs) ps) told M B front (done_again A B B rs told first done (λ k e there. there)) in
    subst (λ (qs : List Reply). Runs A (rs ++ ss) qs last)
    (ap (λ (qs : List Reply). qs ++ drop (length rs) ps) (sym same.0) ∙ take-append-drop (length rs) ps)
    (runs_joined A B last rs ss told (drop (length rs) ps) first (subst (λ L. Runs L ss (drop (length rs) ps) last) same.1 more))

-- and one that ends within it changes nothing, and has the replies of the one from before it
done_within : (A B C : Ledger) (rs ss : List Request) (told ps : List Reply) → Runs A (rs ++ ss) told B
    → Each IsDone told → Runs B rs ps C
    → (L : Ledger) × Runs A rs ps L × Runs L ss (drop (length rs) told) B × (C ≡ B)
done_within A B C rs ss told ps run done again =
    let (L, front, more) = runs_split A B rs ss told run in
    let back : Runs B rs (take (length rs) told) B =
    done_again A L B rs (take (length rs) told) front (each_take (length rs) told done)
    (λ k e there. runs_keep L B ss (drop (length rs) told) k e more there) in
    let same = runs_once B rs ps (take (length rs) told) C B again back in
    (L, subst (λ (qs : List Reply). Runs A rs qs L) (sym same.0) front, more, same.1)

-- one of two numbers is the other, and some more
differ : (m n : ℕ) → ((more : ℕ) × (n ≡ m + more)) ⊎ ((more : ℕ) × (m ≡ n + more))
differ m n = elim (dec_lt m n) [ yes h ↦ inl (n - m, omega arith) | no h ↦ inr (m - n, omega arith) ]

-- some of the first are done, and then the first again, as many or not: that is to do some of the first
done_twice : (L B C : Ledger) (rs : List Request) → IsDoneTo L rs B → IsDoneTo B rs C → IsDoneTo L rs C
done_twice L B C rs (few, told, run, done) (many, others, again, all) = by (differ few many)
  where
    by : ((more : ℕ) × (many ≡ few + more)) ⊎ ((more : ℕ) × (few ≡ many + more)) → IsDoneTo L rs C
    by (inl (more, is)) =
        let parts : take many rs ≡ take few rs ++ take more (drop few rs) = ap (λ i. take i rs) is ∙ take-add few more rs in (
          many,
          others,
          subst (λ (xs : List Request). Runs L xs others C) (sym parts)
              (done_past L B C (take few rs) (take more (drop few rs)) told others run done
              (subst (λ (xs : List Request). Runs B xs others C) parts again)),
          all,
        )
    by (inr (more, is)) =
        let parts : take few rs ≡ take many rs ++ take more (drop many rs) = ap (λ i. take i rs) is ∙ take-add many more rs in
        let (K, front, rest, same) =
        done_within L B C (take many rs) (take more (drop many rs)) told others
        (subst (λ (xs : List Request). Runs L xs told B) parts run) done again in
        (few, told, subst (λ N. Runs L (take few rs) told N) (sym same) run, done)

-- a run that begins within and is cut within is one that begins before and is cut within
done_on : (M B mid C : Ledger) (rs : List Request) (n : ℕ) (ps : List Reply) → IsDoneTo M rs B
    → Runs B (take n rs) ps mid → IsDoneTo mid (drop n rs) C
    → (L : Ledger) × Runs M (take n rs) ps L × IsDoneTo L (drop n rs) C
done_on M B mid C rs n ps (count, told, first, done) run further = by (differ count n)
  where
    by : ((more : ℕ) × (n ≡ count + more)) ⊎ ((more : ℕ) × (count ≡ n + more))
        → (L : Ledger) × Runs M (take n rs) ps L × IsDoneTo L (drop n rs) C
    by (inl (more, is)) =
        let parts : take n rs ≡ take count rs ++ take more (drop count rs) = ap (λ i. take i rs) is ∙ take-add count more rs in (
          mid,
          subst (λ (xs : List Request). Runs M xs ps mid) (sym parts)
              (done_past M B mid (take count rs) (take more (drop count rs)) told ps first done
              (subst (λ (xs : List Request). Runs B xs ps mid) parts run)),
          further,
        )
    by (inr (more, is)) =
        let parts : take count rs ≡ take n rs ++ take more (drop n rs) = ap (λ i. take i rs) is ∙ take-add n more rs in
        let (L, front, rest, same) =
        done_within M B mid (take n rs) (take more (drop n rs)) told ps
        (subst (λ (xs : List Request). Runs M xs told B) parts first) done run in
        let left : IsDoneTo L (drop n rs) B =
        (more, drop (length (take n rs)) told, rest, each_drop (length (take n rs)) told done) in
        (L, front, done_twice L B C (drop n rs) left (subst (λ N. IsDoneTo N (drop n rs) C) same further))

-- ---- one request more is a batch

done_or_same : (A B : Ledger) (r : Request) (reply : Reply) → Answers A r reply B → IsDone reply ⊎ (B ≡ A)
done_or_same A B r reply h = by_key (kept_under A r.key) h
  where
    by_key : (o : Option Kept)
        → MatchOption o (AnswersNew A r reply B)
        (λ k. (reply ≡ (if same_command k.command r.command then Done k.place else Refused KeyReused 0)) × (B ≡ A))
        → IsDone reply ⊎ (B ≡ A)
    by_key (Some k) (is, same) = inr same
    by_key None (Some f, failed, left) = inr left.1
    by_key None (None, passed, left) = inl (places A + 1, left.0)

one_more : (M B : Ledger) (rs : List Request) (ps : List Reply) → Runs M (take 1 rs) ps B → IsWithin M rs B
one_more M B [] [] same = inl same
one_more M B [] (p ∷ ps) h = absurd h
one_more M B (r ∷ rs) [] h = absurd h
one_more M B (r ∷ rs) (p ∷ q ∷ ps) h = absurd h.2
one_more M B (r ∷ rs) (p ∷ []) (L, answer, same) = by (done_or_same M L r p answer)
  where
    by : IsDone p ⊎ (L ≡ M) → IsWithin M (r ∷ rs) B
    by (inl is_done) = from_done M B (r ∷ rs) (1, p ∷ [], (L, answer, same), (is_done, tt))
    by (inr stays) = inl (same ∙ stays)

pub stands_wider : (A B : Ledger) (rs : List Request) (k : ℕ) → 1 ≤ k → ResumableAt A rs k B → ResumableWithin A rs k B
stands_wider A B rs k one (inl before) = (B, before, inl refl)
stands_wider A B rs k one (inr (le, (done, run))) =
    let n : ℕ = k - 1 in
    let parts : take k rs ≡ take n rs ++ take 1 (drop n rs) = ap (λ i. take i rs) (omega arith) ∙ take-add n 1 rs in
    let (M, first, more) =
    runs_split A B (take n rs) (take 1 (drop n rs)) done
    (subst (λ (xs : List Request). Runs A xs done B) parts run) in
    (M, (take (length (take n rs)) done, first), one_more M B (drop n rs) (drop (length (take n rs)) done) more)

-- ---- one resuming

one_less : (n : ℕ) → n + 1 - 1 ≡ n
one_less n = omega arith

pub resumes_within : (A B mid C : Ledger) (rs : List Request) (k : ℕ) (ps : List Reply) → 1 ≤ k → k ≤ length rs + 1
    → ResumableWithin A rs k B → Runs B (take (length ps) (drop (k - 1) rs)) ps mid
    → ResumableWithin B (drop (k - 1) rs) (length ps + 1) C → ResumesWithin A rs k ps C
resumes_within A B mid C rs k ps one le (M, (before, first), stands) run (N, (qs, other), further) =
    let n : ℕ = k - 1 in
    let m : ℕ = length ps in
    let size : length before ≡ n = runs_length A M (take n rs) before first ∙ length-take-le n rs (omega arith) in
    let reached : N ≡ mid =
    (runs_once B (take m (drop n rs)) qs ps N mid (subst (λ i. Runs B (take i (drop n rs)) qs N) (one_less m) other)
    run).1 in
    let cut : IsWithin mid (drop m (drop n rs)) C =
    subst (λ L. IsWithin L (drop m (drop n rs)) C) reached
    (subst (λ i. IsWithin N (drop i (drop n rs)) C) (one_less m) further) in
    let (L, more, left) =
    done_on M B mid C (drop n rs) m ps (to_done M B (drop n rs) stands) run
    (to_done mid C (drop m (drop n rs)) cut) in
    let whole : Runs A (take (n + m) rs) (before ++ ps) L = runs_on A M L rs n before ps first more in
    let next : n + m ≡ k + m - 1 = omega arith in
    let behind : drop m (drop n rs) ≡ drop (k + m - 1) rs = drop-drop m n rs ∙ ap (λ i. drop i rs) next in
    record {
      before = before;
      last = L;
      counted = omega (arith, size);
      run = subst (λ i. Runs A (take (i + m) rs) (before ++ ps) L) (sym size) whole;
      resumable = (
        L,
        (before ++ ps, subst (λ i. Runs A (take i rs) (before ++ ps) L) next whole),
        subst (λ (xs : List Request). IsWithin L xs C) behind (from_done L C (drop m (drop n rs)) left),
      );
    }

-- ---- resumed again and again

-- the run itself ends before the batch
as_resumed : (A B : Ledger) (rs : List Request) (k : ℕ) (ps : List Reply) (h : ResumesWithin A rs k ps B)
    → Resumes A rs k ps h.last
as_resumed A B rs k ps h =
    let counted = h.counted in
    record {
      before = h.before;
      last = h.last;
      counted = h.counted;
      run = h.run;
      resumable = inl (h.before ++ ps, subst (λ i. Runs A (take i rs) (h.before ++ ps) h.last) (omega arith) h.run);
    }

as_resumed_again : (A B : Ledger) (rs : List Request) (k : ℕ) (given : List (List Reply)) → ResumesWithinAgain A rs k given B
    → (M : Ledger) × ResumesAgain A rs k given M × IsWithin M (drop (k + length (flat_map (λ some. some) given) - 1) rs) B
as_resumed_again A B rs k [] (M, before, stands) = (M, inl before, subst (λ i. IsWithin M (drop i rs) B) (omega arith) stands)
as_resumed_again A B rs k (ps ∷ more) (N, first, rest) =
    let (M, again, stands) = as_resumed_again A B rs (k + length ps) more rest in
    let size : length (ps ++ flat_map (λ some. some) more) ≡ length ps + length (flat_map (λ some. some) more) =
    length-append ps (flat_map (λ some. some) more) in
    (M, (first.last, as_resumed A N rs k ps first, again), subst (λ i. IsWithin M (drop i rs) B) (omega arith) stands)

-- behind the last request nothing is done
none_left : (M B : Ledger) → IsDoneTo M [] B → B ≡ M
none_left M B (zero, [], same, done) = same
none_left M B (zero, p ∷ told, h, done) = absurd h
none_left M B (suc count, [], same, done) = same
none_left M B (suc count, p ∷ told, h, done) = absurd h

pub same_within : (A : Ledger) (rs : List Request) (k : ℕ) (given : List (List Reply)) (replies : List Reply)
    (B last : Ledger) → 1 ≤ k → ResumesWithinAgain A rs k given B
    → k + length (flat_map (λ some. some) given) ≡ length rs + 1 → Runs A rs replies last
    → (flat_map (λ some. some) given ≡ drop (k - 1) replies) × (B ≡ last)
same_within A rs k given replies B last one within all run =
    let (M, again, stands) = as_resumed_again A B rs k given within in
    let same = resumed_same A rs k given replies M last one again all run in
    let behind : drop (k + length (flat_map (λ some. some) given) - 1) rs ≡ [] =
    ap (λ i. drop i rs) (omega arith) ∙ drop-length rs in
    (same.0, none_left M B (to_done M B [] (subst (λ (xs : List Request). IsWithin M xs B) behind stands)) ∙ same.1)

-- ---- lists

pub in_lists : (A B : Ledger) (lists : List (List Request)) (given : List (List Reply)) → RunsInLists A lists given B
    → Runs A (flat_map (λ requests. requests) lists) (flat_map (λ replies. replies) given) B
in_lists A B [] [] same = same
in_lists A B [] (ps ∷ given) h = absurd h
in_lists A B (rs ∷ lists) [] h = absurd h
in_lists A B (rs ∷ lists) (ps ∷ given) (M, first, more) =
    runs_joined A M B rs (flat_map (λ requests. requests) lists) ps (flat_map (λ replies. replies) given) first
    (in_lists M B lists given more)

pub one_by_one : (A B C : Ledger) (rs : List Request) (ps qs : List Reply) → Runs A rs ps B → Runs A rs qs C
    → (ps ≡ qs) × (B ≡ C) × ((x y : Content) → IsRowsOf B x → IsRowsOf C y → x ≡ y)
one_by_one A B C rs ps qs run other =
    let same = runs_once A rs ps qs B C run other in
    (same.0, same.1, λ x y these those. one_content B x y these (subst (λ L. IsRowsOf L y) (sym same.1) those))

-- ---- where a stop came between, what is opened stands so

pub found_within : (A B C D : Ledger) (rs : List Request) (k : ℕ) (x y z : Content) → Good B → Good C → Good D
    → ResumableWithin A rs k B → ResumableWithin A rs k C → IsRowsOf B y → IsRowsOf C z
    → (x ≡ y) ⊎ (x ≡ z) → IsRowsOf D x → ResumableWithin A rs k D
found_within A B C D rs k x y z good_b good_c good_d stands_b stands_c are_b are_c (inl is) are =
    subst (λ L. ResumableWithin A rs k L) (told_by_rows B D x good_b good_d (subst (IsRowsOf B) (sym is) are_b) are) stands_b
found_within A B C D rs k x y z good_b good_c good_d stands_b stands_c are_b are_c (inr is) are =
    subst (λ L. ResumableWithin A rs k L) (told_by_rows C D x good_c good_d (subst (IsRowsOf C) (sym is) are_c) are) stands_c
