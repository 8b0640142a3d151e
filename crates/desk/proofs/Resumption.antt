-- A run that is cut and resumed is the run.
use Rattle.std.proofs.Common.{◌≡◌, ◌∙◌, ◌⊎◌, ◌+◌, ◌-◌, ◌≤◌, ◌++◌, ℕ, List, [], ◌∷◌, ap, append-nil, append_assoc, arith}
use Rattle.std.proofs.Common.{drop, flat_map, inl, inr, length, refl, suc, subst, sym, take, zero}
use Rattle.std.proofs.lemmas.List.{drop_at, length-append, length-drop, length-take, length-take-le, take_at}
use native.Mathlib.Decide.{dec_lt}
use Rattle.std.proofs.Math.Seq.{take-add, take-length}
use Rattle.std.specs.List.{AllByRecursion as Each}
use Rattle.escrow.specs.Codes.{IsKey}
use Rattle.words.specs.Spelling.{IsInRange}
use Rattle.words.specs.declared.command.Request.{Request}
use Rattle.words.specs.declared.reply.Reply.{Reply}
use Rattle.ledger.specs.Answers.{After, Answers, Runs}
use Rattle.ledger.specs.Good.{Good}
use Rattle.ledger.specs.Ledger.{Ledger}
use Rattle.ledger.specs.Rows.{Content, IsRowsOf}
use Rattle.ledger.proofs.Runs.{answered_once, runs_once, runs_stay_good}
use Rattle.ledger.proofs.EqualRows.{told_by_rows}
use Rattle.desk.specs.Desk.{LeavesEither}
use Rattle.desk.specs.Resuming.{LeavesResumable, Resumes, ResumesAgain, ResumableAt}
use Rattle.desk.proofs.Repeats.{repeated}

-- ---- runs

-- each request has a reply
pub runs_length : (A B : Ledger) (rs : List Request) (ps : List Reply) → Runs A rs ps B → length ps ≡ length rs
runs_length A B [] [] h = refl
runs_length A B [] (p ∷ ps) h = absurd h
runs_length A B (r ∷ rs) [] h = absurd h
runs_length A B (r ∷ rs) (p ∷ ps) h = ap suc (runs_length h.0 B rs ps h.2)

-- some requests, and then more
pub runs_joined : (A M B : Ledger) (rs ss : List Request) (ps qs : List Reply) → Runs A rs ps M → Runs M ss qs B
    → Runs A (rs ++ ss) (ps ++ qs) B
runs_joined A M B [] ss [] qs e h = subst (λ L. Runs L ss qs B) e h
runs_joined A M B [] ss (p ∷ ps) qs e h = absurd e
runs_joined A M B (r ∷ rs) ss [] qs e h = absurd e
runs_joined A M B (r ∷ rs) ss (p ∷ ps) qs (L, first, rest) h = (L, first, runs_joined L M B rs ss ps qs rest h)

pub runs_split : (A B : Ledger) (rs ss : List Request) (ps : List Reply) → Runs A (rs ++ ss) ps B
    → (M : Ledger) × Runs A rs (take (length rs) ps) M × Runs M ss (drop (length rs) ps) B
runs_split A B [] ss ps h = (A, refl, h)
runs_split A B (r ∷ rs) ss [] h = absurd h
runs_split A B (r ∷ rs) ss (p ∷ ps) (L, first, rest) = let cut = runs_split L B rs ss ps rest in (cut.0, (L, first, cut.1), cut.2)

-- a run of the first n, and then of m more
pub runs_on : (A M B : Ledger) (rs : List Request) (n : ℕ) (ps qs : List Reply) → Runs A (take n rs) ps M
    → Runs M (take (length qs) (drop n rs)) qs B → Runs A (take (n + length qs) rs) (ps ++ qs) B
runs_on A M B rs n ps qs first more =
    subst (λ (xs : List Request). Runs A xs (ps ++ qs) B) (sym (take-add n (length qs) rs))
    (runs_joined A M B (take n rs) (take (length qs) (drop n rs)) ps qs first more)

-- ---- what was answered already

-- what follows is answered the same, whether the first request of it was answered before or not
again : (M B C : Ledger) (xs : List Request) (q p : List Reply) → Runs M (take 1 xs) q B
    → Runs B (take (length p) xs) p C → 1 ≤ length p → Runs M (take (length p) xs) p C
again M B C xs q [] first more some = absurd (omega arith)
again M B C [] q (p ∷ ps) first more some = absurd more
again M B C (x ∷ xs) [] (p ∷ ps) first more some = absurd first
again M B C (x ∷ xs) (q ∷ q2 ∷ qs) (p ∷ ps) first more some = absurd first.2
again M B C (x ∷ xs) (q ∷ []) (p ∷ ps) (L, answer, same) (N, next, rest) some =
    let before : Answers M x q B = subst (λ K. Answers M x q K) (sym same) answer in
    let one = answered_once B x p q N B next (repeated M B x q before) in
    (B, subst (λ r. Answers M x r B) (sym one.0) before, subst (λ K. Runs K (take (length ps) xs) ps C) one.1 rest)

-- where one stands at number n + 1, the n before it are answered
cut_at : (A B : Ledger) (rs : List Request) (n : ℕ) → n + 1 ≤ length rs → After A rs (n + 1) B
    → (M : Ledger) × (before : List Reply) × (q : List Reply) × (length before ≡ n) × Runs A (take n rs) before M
    × Runs M (take 1 (drop n rs)) q B
cut_at A B rs n le (done, run) =
    let parts =
    runs_split A B (take n rs) (take 1 (drop n rs)) done
    (subst (λ (xs : List Request). Runs A xs done B) (take-add n 1 rs) run) in
    let size : length (take n rs) ≡ n = length-take-le n rs (omega arith) in (
      parts.0,
      take (length (take n rs)) done,
      drop (length (take n rs)) done,
      runs_length A parts.0 (take n rs) _ parts.1 ∙ size,
      parts.1,
      parts.2,
    )

-- ---- one resuming

one_less : (n : ℕ) → n + 1 - 1 ≡ n
one_less n = omega arith

-- some are answered from there: so the n before are, and these behind them
from_before : (A B C : Ledger) (rs : List Request) (n : ℕ) (ps : List Reply) → n ≤ length rs
    → ResumableAt A rs (n + 1) B → Runs B (take (length ps) (drop n rs)) ps C → 1 ≤ length ps
    → (before : List Reply) × (length before ≡ n) × Runs A (take (n + length ps) rs) (before ++ ps) C
from_before A B C rs n ps le (inl (done, first)) more some =
    let run : Runs A (take n rs) done B = subst (λ i. Runs A (take i rs) done B) (one_less n) first in
    (done, runs_length A B (take n rs) done run ∙ length-take-le n rs le, runs_on A B C rs n done ps run more)
from_before A B C rs n ps le (inr (there, after)) more some =
    let (M, before, q, size, first, one) = cut_at A B rs n there after in
    (before, size, runs_on A M C rs n before ps first (again M B C (drop n rs) q ps one more some))

-- the number of the request that is next
next_is : (n m : ℕ) → (n + 1) + m - 1 ≡ n + m
next_is n m = omega arith

resumes_at : (A B C : Ledger) (rs : List Request) (n : ℕ) (ps : List Reply) → n ≤ length rs → ResumableAt A rs (n + 1) B
    → Runs B (take (length ps) (drop n rs)) ps C → Resumes A rs (n + 1) ps C
resumes_at A B C rs n [] le (inl (done, first)) more =
    let run : Runs A (take n rs) done B = subst (λ i. Runs A (take i rs) done B) (one_less n) first in
    let size : length done ≡ n = runs_length A B (take n rs) done run ∙ length-take-le n rs le in
    record {
      before = done;
      last = B;
      counted = ap (λ i. i + 1) size;
      run =
          subst (λ i. Runs A (take i rs) (done ++ []) B) (omega arith)
          (subst (λ (ps : List Reply). Runs A (take n rs) ps B) (sym (append-nil done)) run);
      resumable =
          inl (
            done,
            subst (λ i. Runs A (take i rs) done C) (omega arith)
                (subst (λ L. Runs A (take n rs) done L) (sym more) run),
          );
    }
resumes_at A B C rs n [] le (inr (there, after)) more =
    let (M, before, q, size, first, one) = cut_at A B rs n there after in
    record {
      before = before;
      last = M;
      counted = ap (λ i. i + 1) size;
      run =
          subst (λ i. Runs A (take i rs) (before ++ []) M) (omega arith)
          (subst (λ (ps : List Reply). Runs A (take n rs) ps M) (sym (append-nil before)) first);
      resumable =
          inr (
            omega arith,
            subst (λ i. After A rs i C) (omega arith) (subst (λ L. After A rs (n + 1) L) (sym more) after),
          );
    }
resumes_at A B C rs n (p ∷ ps) le stands more =
    let (before, size, run) = from_before A B C rs n (p ∷ ps) le stands more (omega arith) in
    record {
      before = before;
      last = C;
      counted = ap (λ i. i + 1) size;
      run = subst (λ i. Runs A (take (i + length (p ∷ ps)) rs) (before ++ p ∷ ps) C) (sym size) run;
      resumable =
          inl (
            before ++ p ∷ ps,
            subst (λ i. Runs A (take i rs) (before ++ p ∷ ps) C) (sym (next_is n (length (p ∷ ps)))) run,
          );
    }

before_is : (k : ℕ) → 1 ≤ k → (k - 1) + 1 ≡ k
before_is k le = omega arith

pub resumes : (A B C : Ledger) (rs : List Request) (k : ℕ) (ps : List Reply) → 1 ≤ k → k ≤ length rs + 1
    → ResumableAt A rs k B → Runs B (take (length ps) (drop (k - 1) rs)) ps C → Resumes A rs k ps C
resumes A B C rs k ps one le stands more =
    subst (λ i. Resumes A rs i ps C) (before_is k one)
    (resumes_at A B C rs (k - 1) ps (omega arith) (subst (λ i. ResumableAt A rs i B) (sym (before_is k one)) stands) more)

-- with all answered, it is the whole run
pub is_whole : (A B : Ledger) (rs : List Request) (k : ℕ) (ps : List Reply) → Resumes A rs k ps B
    → k + length ps ≡ length rs + 1 → (before : List Reply) × (length before + 1 ≡ k) × Runs A rs (before ++ ps) B
is_whole A B rs k ps h all = (h.before, h.counted, by h.resumable)
  where
    size : length h.before + length ps ≡ length rs
    size = let e = h.counted in omega arith

    run : Runs A rs (h.before ++ ps) h.last
    run =
        subst (λ (xs : List Request). Runs A xs (h.before ++ ps) h.last) (take-length rs)
        (subst (λ i. Runs A (take i rs) (h.before ++ ps) h.last) size h.run)

    by : ResumableAt A rs (k + length ps) B → Runs A rs (h.before ++ ps) B
    by (inl (done, other)) =
        let there : Runs A rs done B =
        subst (λ (xs : List Request). Runs A xs done B) (take-length rs)
        (subst (λ i. Runs A (take i rs) done B) (omega arith) other) in
        subst (λ L. Runs A rs (h.before ++ ps) L) (runs_once A rs (h.before ++ ps) done h.last B run there).1 run
    by (inr (le, after)) = absurd (omega arith)

-- no more are answered than there are
pub few : (B C : Ledger) (rs : List Request) (ps : List Reply) → Runs B (take (length ps) rs) ps C → length ps ≤ length rs
few B C rs ps run = let e = runs_length B C (take (length ps) rs) ps run in omega (arith, length-take (length ps) rs, e)

fewer : (m n : ℕ) → m ≤ n → (m ≡ n → ⊥) → m + 1 ≤ n
fewer m n le apart = elim (dec_lt m n) [ yes h ↦ omega arith | no h ↦ absurd (apart (omega arith)) ]

-- not all are answered: so there is a next one
pub not_all : (B C : Ledger) (rs : List Request) (k : ℕ) (ps : List Reply) → 1 ≤ k → k ≤ length rs + 1
    → Runs B (take (length ps) (drop (k - 1) rs)) ps C → (length ps ≡ length (drop (k - 1) rs) → ⊥)
    → k + length ps ≤ length rs
not_all B C rs k ps one le run apart =
    let dropped : length (drop (k - 1) rs) ≡ length rs - (k - 1) = length-drop (k - 1) rs in
    let more : length ps + 1 ≤ length (drop (k - 1) rs) =
    fewer (length ps) (length (drop (k - 1) rs)) (few B C (drop (k - 1) rs) ps run) apart in
    omega arith

-- all are answered
pub all_of : (rs : List Request) (k : ℕ) (ps : List Reply) → 1 ≤ k → k ≤ length rs + 1
    → length ps ≡ length (drop (k - 1) rs) → k + length ps ≡ length rs + 1
all_of rs k ps one le all = let dropped : length (drop (k - 1) rs) ≡ length rs - (k - 1) = length-drop (k - 1) rs in omega arith

-- a request more is done than is answered: there the next may be resumed, too
pub one_more_stands : (A B next : Ledger) (rs : List Request) (k : ℕ) (ps : List Reply) → 1 ≤ k
    → k + length ps ≤ length rs → ResumableAt A rs k B → After B (drop (k - 1) rs) (length ps + 1) next
    → ResumableAt A rs (k + length ps) next
one_more_stands A B next rs k ps one le stands (qs, run) =
    let dropped : length (drop (k - 1) rs) ≡ length rs - (k - 1) = length-drop (k - 1) rs in
    let size : length qs ≡ length ps + 1 =
    runs_length B next _ qs run ∙ length-take-le (length ps + 1) (drop (k - 1) rs) (omega arith) in
    let after = from_before A B next rs (k - 1) qs (omega arith)
    (subst (λ i. ResumableAt A rs i B) (sym (before_is k one)) stands)
    (subst (λ i. Runs B (take i (drop (k - 1) rs)) qs next) (sym size) run) (omega arith) in
    inr (le, (after.0 ++ qs, subst (λ i. Runs A (take i rs) (after.0 ++ qs) next) (omega arith) after.2))

-- a stop leaves the rows of the desk's ledger, or those after one request more
pub leaves_resumable : (A B C next : Ledger) (rs : List Request) (k : ℕ) (ps : List Reply)
    (leaves : List Content → Type 0) → 1 ≤ k → k + length ps ≤ length rs → ResumableAt A rs k B
    → Runs B (take (length ps) (drop (k - 1) rs)) ps C → After B (drop (k - 1) rs) (length ps + 1) next
    → LeavesEither leaves C next → LeavesResumable leaves A rs (k + length ps)
leaves_resumable A B C next rs k ps leaves one le stands more after either = record {
  first = C;
  second = next;
  first_resumable = (resumes A B C rs k ps one (omega arith) stands more).resumable;
  second_resumable = one_more_stands A B next rs k ps one le stands after;
  either = either;
}

-- ---- resumed again and again

-- two resumings are one
resumes_joined : (A M C : Ledger) (rs : List Request) (k : ℕ) (ps qs : List Reply) → k + length ps ≤ length rs + 1
    → Resumes A rs k ps M → Resumes A rs (k + length ps) qs C → Resumes A rs k (ps ++ qs) C
resumes_joined A M C rs k ps qs le first second =
    let n : ℕ = length first.before + length ps in
    let counted = first.counted in
    let counted2 = second.counted in
    let size : length second.before ≡ n = omega arith in
    let run : Runs A (take (n + length qs) rs) (second.before ++ qs) second.last =
    subst (λ i. Runs A (take (i + length qs) rs) (second.before ++ qs) second.last) size second.run in
    let parts =
    runs_split A second.last (take n rs) (take (length qs) (drop n rs)) (second.before ++ qs)
    (subst (λ (xs : List Request). Runs A xs (second.before ++ qs) second.last) (take-add n (length qs) rs)
    run) in
    let front : length (take n rs) ≡ n = length-take-le n rs (omega arith) in
    let same : second.before ≡ first.before ++ ps =
    sym (take_at second.before qs (length (take n rs)) (size ∙ sym front))
    ∙ (runs_once A (take n rs) _ (first.before ++ ps) parts.0 first.last parts.1 first.run).0 in
    let both : second.before ++ qs ≡ first.before ++ (ps ++ qs) =
    ap (λ (xs : List Reply). xs ++ qs) same ∙ append_assoc first.before ps qs in
    record {
      before = first.before;
      last = second.last;
      counted = first.counted;
      run =
          subst (λ i. Runs A (take i rs) (first.before ++ (ps ++ qs)) second.last) (omega (arith, length-append ps qs))
          (subst (λ (xs : List Reply). Runs A (take (n + length qs) rs) xs second.last) both run);
      resumable = subst (λ i. ResumableAt A rs i C) (omega (arith, length-append ps qs)) second.resumable;
    }

pub resumed_again : (A B : Ledger) (rs : List Request) (k : ℕ) (given : List (List Reply)) → 1 ≤ k
    → k + length (flat_map (λ some. some) given) ≤ length rs + 1 → ResumesAgain A rs k given B
    → Resumes A rs k (flat_map (λ some. some) given) B
resumed_again A B rs k [] one le stands = resumes A B B rs k [] one (omega arith) stands refl
resumed_again A B rs k (ps ∷ more) one le (M, first, rest) =
    let size : length (ps ++ flat_map (λ some. some) more) ≡ length ps + length (flat_map (λ some. some) more) =
    length-append ps (flat_map (λ some. some) more) in
    resumes_joined A M B rs k ps (flat_map (λ some. some) more) (omega arith) first
    (resumed_again A B rs (k + length ps) more (omega arith) (omega arith) rest)

pub resumed_same : (A : Ledger) (rs : List Request) (k : ℕ) (given : List (List Reply)) (replies : List Reply)
    (B last : Ledger) → 1 ≤ k → ResumesAgain A rs k given B
    → k + length (flat_map (λ some. some) given) ≡ length rs + 1 → Runs A rs replies last
    → (flat_map (λ some. some) given ≡ drop (k - 1) replies) × (B ≡ last)
resumed_same A rs k given replies B last one again all run =
    let whole = is_whole A B rs k (flat_map (λ some. some) given) (resumed_again A B rs k given one (omega arith) again) all in
    let same = runs_once A rs (whole.0 ++ flat_map (λ some. some) given) replies B last whole.2 run in
    let size : length whole.0 ≡ k - 1 = let e = whole.1 in omega arith in (
      sym (drop_at whole.0 (flat_map (λ some. some) given) (k - 1) size)
          ∙ ap (λ (xs : List Reply). drop (k - 1) xs) same.0,
      same.1,
    )

-- ---- after a stop

ranges_take : (rs : List Request) (i : ℕ) → Each (λ r. IsKey r.key × IsInRange r.command) rs
    → Each (λ r. IsKey r.key × IsInRange r.command) (take i rs)
ranges_take rs zero h = tt
ranges_take [] (suc i) h = tt
ranges_take (r ∷ rs) (suc i) h = (h.0, ranges_take rs i h.1)

stands_good : (A B : Ledger) (rs : List Request) (k : ℕ) → Good A → Each (λ r. IsKey r.key × IsInRange r.command) rs
    → ResumableAt A rs k B → Good B
stands_good A B rs k good range (inl (done, run)) =
    runs_stay_good A (take (k - 1) rs) done B good (ranges_take rs (k - 1) range) run
stands_good A B rs k good range (inr (le, (done, run))) = runs_stay_good A (take k rs) done B good (ranges_take rs k range) run

pub found_standing : (A B C D : Ledger) (rs : List Request) (k : ℕ) (x y z : Content) → Good A
    → Each (λ r. IsKey r.key × IsInRange r.command) rs → Good D
    → ResumableAt A rs k B → ResumableAt A rs k C → IsRowsOf B y → IsRowsOf C z → (x ≡ y) ⊎ (x ≡ z) → IsRowsOf D x
    → ResumableAt A rs k D
found_standing A B C D rs k x y z good range found b c these those (inl is) rows =
    subst (λ L. ResumableAt A rs k L)
    (told_by_rows B D y (stands_good A B rs k good range b) found these
    (subst (λ (w : Content). IsRowsOf D w) is rows)) b
found_standing A B C D rs k x y z good range found b c these those (inr is) rows =
    subst (λ L. ResumableAt A rs k L)
    (told_by_rows C D z (stands_good A C rs k good range c) found those
    (subst (λ (w : Content). IsRowsOf D w) is rows)) c
