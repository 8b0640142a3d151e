-- Where a desk goes on: what is kept stays at its place, and the request that took the next place would have been
-- accepted wherever it stood behind the request that took the place before.
use Rattle.ledger.proofs.Passing.{along_any}
use Rattle.ledger.proofs.Prelude.{Answers, AnswersNew, Bool, Done, Each, FirstFailure, Good, IsAccepted, IsInRange}
use Rattle.ledger.proofs.Prelude.{IsKey, Kept, KeyReused, Ledger, List, MatchOption, None, Option, Refusal, Refused}
use Rattle.ledger.proofs.Prelude.{Reply, Request, Runs, Some, [], accept, ap, arith, checks, drop, false, find}
use Rattle.ledger.proofs.Prelude.{if◌then◌else◌, inl, inr, is_lt, is_some, kept_under, nat_cmp, new_key, places, refl}
use Rattle.ledger.proofs.Prelude.{same_command, slice_cmp, subst, suc, sym, take, true≢false, zero, ℕ, ◌+◌, ◌<◌, ◌==◌}
use Rattle.ledger.proofs.Prelude.{◌∙◌, ◌∷◌, ◌≡◌, ◌≤◌, ◌⊎◌}
use Rattle.ledger.specs.Answers.{After}
use Rattle.ledger.proofs.Goodness.{good_answer}
use Rattle.ledger.proofs.Lists.{find-beside, find-new, length-insert, same_number, some_is}
use Rattle.ledger.proofs.Sums.{each-imp}
use Rattle.ledger.proofs.Runs.{accepted_once, answered_once}
use native.Mathlib.Decide.{dec_le}
use Rattle.laws.specs.Walks.{AreInRange, AreKeptBehind, GoesOnBehind, KeepsAt, StandIn, kept_at}

-- ---- one request

-- a request is accepted, or the ledger stays
abbrev pub Steps : Ledger → Request → Ledger → Type 0
Steps A r M = (IsAccepted A r × (M ≡ accept A r)) ⊎ ((IsAccepted A r → ⊥) × (M ≡ A))

pub steps : (A : Ledger) (r : Request) (p : Reply) (M : Ledger) → Answers A r p M → Steps A r M
steps A r p M answer = by (kept_under A r.key) refl answer
  where
    refused : (e : Refusal × ℕ) → p ≡ Refused e.0 e.1 → IsAccepted A r → ⊥
    refused e is accepted = let done = (accepted_once A r p M accepted answer).0 in cc

    found : (o : Option (Refusal × ℕ)) → kept_under A r.key ≡ None → FirstFailure (checks A r.command) o
        → MatchOption o ((p ≡ Done (places A + 1)) × (M ≡ accept A r)) (λ e. (p ≡ Refused e.0 e.1) × (M ≡ A)) → Steps A r M
    found None none first h = inl ((ap is_some none, first), h.1)
    found (Some e) none first h = inr (refused e h.0, h.1)

    by : (o : Option Kept) → kept_under A r.key ≡ o
        → MatchOption o (AnswersNew A r p M)
        (λ k. (p ≡ (if same_command k.command r.command then Done k.place else Refused KeyReused 0)) × (M ≡ A))
        → Steps A r M
    by None none (o, first, h) = found o none first h
    by (Some k) there h = inr ((λ accepted. true≢false (sym (ap is_some there) ∙ accepted.0)), h.1)

goes_good : (A M : Ledger) (r : Request) (p : Reply) → Good A → IsKey r.key × IsInRange r.command → Answers A r p M → Good M
goes_good A M r p good (key, range) answer = good_answer A r p M good key range answer

-- ---- places

none_found : {X : Type 0} (t : X → Bool) (xs : List X) → Each (λ x. t x ≡ false) xs → find t xs ≡ None
none_found t [] h = refl
none_found t (x ∷ xs) h = let more = none_found t xs h.1 in grind arith

less_apart : (m n : ℕ) → m < n → (m == n) ≡ false
less_apart m n h = grind arith

more_apart : (m n : ℕ) → n < m → (m == n) ≡ false
more_apart m n h = grind arith

cases_le : (m n : ℕ) → (m ≤ n) ⊎ (n < m)
cases_le m n = elim (dec_le m n) [ yes h ↦ inl h | no h ↦ inr (omega arith) ]

-- no place behind the last is taken
free : (A : Ledger) (n : ℕ) → Good A → places A < n → Each (λ k. (k.place == n) ≡ false) A.kept
free A n good behind =
    each-imp (λ k h. less_apart k.place n (let most = h.1 in omega arith)) A.kept good.places_in_range

not_behind : (A : Ledger) (n : ℕ) (k : Kept) → Good A → kept_at A n ≡ Some k → n ≤ places A
not_behind A n k good there = by (cases_le n (places A))
  where
    by : (n ≤ places A) ⊎ (places A < n) → n ≤ places A
    by (inl within) = within
    by (inr behind) =
        let none = none_found (λ k. k.place == n) A.kept (free A n good behind) in
        absurd (true≢false (sym (ap is_some there) ∙ ap is_some none))

same_request : (B : Ledger) (n : ℕ) (r s : Request) → KeepsAt B n r → KeepsAt B n s → r ≡ s
same_request B n r s h k =
    let e = some_is _ _ (sym h ∙ k) in λ i. record { key = (e i).key; command = (e i).command }

abbrev pub by_key : Kept → Kept → Bool
by_key k l = is_lt (slice_cmp nat_cmp k.key l.key)

-- an accepted request takes the next place, and leaves what is at the others
one_more : (A : Ledger) (r : Request) → places (accept A r) ≡ places A + 1
one_more A r = length-insert by_key (new_key A r) A.kept

new_there : (A : Ledger) (r : Request) → Good A → KeepsAt (accept A r) (places A + 1) r
new_there A r good =
    find-new (λ k. k.place == (places A + 1)) by_key (new_key A r) A.kept (same_number (places A + 1))
    (free A (places A + 1) good (omega arith))

still_there : (A : Ledger) (r : Request) (n : ℕ) → n ≤ places A → kept_at (accept A r) n ≡ kept_at A n
still_there A r n there =
    find-beside (λ k. k.place == n) by_key (new_key A r) A.kept (more_apart (places A + 1) n (omega arith))

places_step : (A M : Ledger) (r : Request) (p : Reply) → Answers A r p M → places A ≤ places M
places_step A M r p answer = by (steps A r p M answer)
  where
    by : Steps A r M → places A ≤ places M
    by (inl (accepted, is)) = let e = ap places is ∙ one_more A r in omega arith
    by (inr (not, is)) = let e = ap places is in omega arith

-- ---- runs

pub range_take : (i : ℕ) (rs : List Request) → AreInRange rs → AreInRange (take i rs)
range_take zero rs h = tt
range_take (suc i) [] h = tt
range_take (suc i) (r ∷ rs) h = (h.0, range_take i rs h.1)

places_grow : (A B : Ledger) (rs : List Request) (ps : List Reply) → Runs A rs ps B → places A ≤ places B
places_grow A B rs ps run = along_any (λ M. places A ≤ places M)
    (λ M r p N h le. let more = places_step M N r p h in omega arith) A rs ps B run (omega arith)

pub stays : (A B : Ledger) (rs : List Request) (ps : List Reply) (n : ℕ) → n ≤ places A → Runs A rs ps B
    → kept_at B n ≡ kept_at A n
stays A B rs ps n there run = (along_any (λ M. (n ≤ places M) × (kept_at M n ≡ kept_at A n))
    (λ M r p N h k. let more = places_step M N r p h in (omega arith, by M N r k.0 (steps M r p N h) ∙ k.1)) A rs ps B run
    (there, refl)).1
  where
    by : (M N : Ledger) (r : Request) → n ≤ places M → Steps M r N → kept_at N n ≡ kept_at M n
    by M N r there (inl (accepted, is)) = ap (λ L. kept_at L n) is ∙ still_there M r n there
    by M N r there (inr (not, is)) = ap (λ L. kept_at L n) is

-- what is accepted first is kept at the next place, to the end
first_kept : (A M B : Ledger) (r : Request) (rs : List Request) (ps : List Reply) → Good A → M ≡ accept A r → Runs M rs ps B
    → KeepsAt B (places A + 1) r
first_kept A M B r rs ps good is run =
    let e = ap places is ∙ one_more A r in
    stays M B rs ps (places A + 1) (omega arith) run ∙ ap (λ L. kept_at L (places A + 1)) is ∙ new_there A r good

nothing_new : (A B : Ledger) (n : Request) → Good A → B ≡ A → KeepsAt B (places A + 1) n → ⊥
nothing_new A B n good same there =
    omega (arith, not_behind A (places A + 1) _ good (subst (λ L. KeepsAt L (places A + 1) n) same there))

-- the request that took the next place would have been accepted at once
would_be_accepted : (A B : Ledger) (rs : List Request) (ps : List Reply) (n : Request) → Good A → AreInRange rs
    → Runs A rs ps B → KeepsAt B (places A + 1) n → IsAccepted A n
would_be_accepted A B [] [] n good range same there =
    absurd (nothing_new A B n good same there)
would_be_accepted A B [] (p ∷ ps) n good range run there = absurd run
would_be_accepted A B (r ∷ rs) [] n good range run there = absurd run
would_be_accepted A B (r ∷ rs) (p ∷ ps) n good range (M, answer, run) there =
    by (steps A r p M answer) (would_be_accepted M B rs ps n (goes_good A M r p good range.0 answer) range.1 run)
  where
    by : Steps A r M → (KeepsAt B (places M + 1) n → IsAccepted M n) → IsAccepted A n
    by (inl (accepted, is)) more =
        subst (IsAccepted A) (same_request B (places A + 1) r n (first_kept A M B r rs ps good is run) there) accepted
    by (inr (not, is)) more =
        subst (λ L. IsAccepted L n) is (more (subst (λ L. KeepsAt B (places L + 1) n) (sym is) there))

-- a ledger with no place more is the same
ledger_same : (A B : Ledger) (rs : List Request) (ps : List Reply) → places B ≡ places A → Runs A rs ps B → B ≡ A
ledger_same A B [] [] same is = is
ledger_same A B [] (p ∷ ps) same run = absurd run
ledger_same A B (r ∷ rs) [] same run = absurd run
ledger_same A B (r ∷ rs) (p ∷ ps) same (M, answer, run) = by (steps A r p M answer) (λ e. ledger_same M B rs ps e run)
  where
    by : Steps A r M → (places B ≡ places M → B ≡ M) → B ≡ A
    by (inl (accepted, is)) more =
        let e = ap places is ∙ one_more A r in absurd (omega (arith, places_grow M B rs ps run))
    by (inr (not, is)) more = more (same ∙ sym (ap places is)) ∙ is

-- so it is that after fewer requests, too
unchanged : (A B : Ledger) (log : List Request) (i k : ℕ) → k ≤ i → places B ≡ places A → After A log i B → After A log k B
unchanged A B log i zero le same (ps, run) = ([], ledger_same A B (take i log) ps same run)
unchanged A B log zero (suc k) le same after = absurd (omega arith)
unchanged A B [] (suc i) (suc k) le same after = after
unchanged A B (r ∷ log) (suc i) (suc k) le same ([], run) = absurd run
unchanged A B (r ∷ log) (suc i) (suc k) le same (p ∷ ps, (M, answer, run)) =
    let first = places_step A M r p answer in
    let last = places_grow M B (take i log) ps run in
    let (qs, more) = unchanged M B log i k (omega arith) (omega arith) (ps, run) in (p ∷ qs, (M, answer, more))

-- ---- what is kept behind a place

pub some_kept : (A B : Ledger) (rs : List Request) (ps : List Reply) → Good A → AreInRange rs → Runs A rs ps B
    → (kept : List Request) × AreKeptBehind B (places A) kept
some_kept A B [] [] good range same = ([], ap places same)
some_kept A B [] (p ∷ ps) good range run = absurd run
some_kept A B (r ∷ rs) [] good range run = absurd run
some_kept A B (r ∷ rs) (p ∷ ps) good range (M, answer, run) =
    by (steps A r p M answer) (some_kept M B rs ps (goes_good A M r p good range.0 answer) range.1 run)
  where
    by : Steps A r M → (kept : List Request) × AreKeptBehind B (places M) kept
        → (kept : List Request) × AreKeptBehind B (places A) kept
    by (inl (accepted, is)) (kept, more) =
        let behind = subst (λ n. AreKeptBehind B n kept) (ap places is ∙ one_more A r) more in
        (r ∷ kept, (first_kept A M B r rs ps good is run, behind))
    by (inr (not, is)) (kept, more) = (kept, subst (λ n. AreKeptBehind B n kept) (ap places is) more)

pub one_kept : (B : Ledger) (n : ℕ) (xs ys : List Request) → Good B → AreKeptBehind B n xs → AreKeptBehind B n ys → xs ≡ ys
one_kept B n [] [] good h k = refl
one_kept B n [] (y ∷ ys) good all (there, rest) = absurd (omega (arith, not_behind B (n + 1) _ good there))
one_kept B n (x ∷ xs) [] good (there, rest) all = absurd (omega (arith, not_behind B (n + 1) _ good there))
one_kept B n (x ∷ xs) (y ∷ ys) good (here, more) (there, rest) =
    λ i. same_request B (n + 1) x y here there i ∷ one_kept B (n + 1) xs ys good more rest i

-- ---- where the kept ones stand

-- where they stand, and that what was carried out beyond changed nothing
pub record Place (A B : Ledger) (log : List Request) (i : ℕ) (kept : List Request) : Type 0 where
  pub j : ℕ
  pub behind : GoesOnBehind kept log j
  pub most : j ≤ i
  pub stands : (k : ℕ) → j ≤ k → k ≤ i → After A log k B

fewer : (n : Request) (ns log : List Request) → StandIn (n ∷ ns) log → StandIn ns log
fewer n [] log h = tt
fewer n (m ∷ ns) [] h = absurd h
fewer n (m ∷ ns) (r ∷ log) (inl (is, rest)) = inr rest
fewer n (m ∷ ns) (r ∷ log) (inr later) = inr (fewer n (m ∷ ns) log later)

-- the first of them is the log's first request
pub at_first : (n r : Request) (ns log : List Request) (j : ℕ) → r ≡ n → GoesOnBehind ns log j
    → GoesOnBehind (n ∷ ns) (r ∷ log) (suc j)
at_first n r ns log j is h = record { stand = inl (is, h.stand); least = least }
  where
    least : (k : ℕ) → StandIn (n ∷ ns) (take k (r ∷ log)) → suc j ≤ k
    least zero stand = absurd stand
    least (suc k) (inl (same, rest)) = let le = h.least k rest in omega arith
    least (suc k) (inr later) = let le = h.least k (fewer n ns (take k log) later) in omega arith

pub at_later : (n r : Request) (ns log : List Request) (j : ℕ) → (r ≡ n → ⊥) → GoesOnBehind (n ∷ ns) log j
    → GoesOnBehind (n ∷ ns) (r ∷ log) (suc j)
at_later n r ns log j apart h = record { stand = inr h.stand; least = least }
  where
    least : (k : ℕ) → StandIn (n ∷ ns) (take k (r ∷ log)) → suc j ≤ k
    least zero stand = absurd stand
    least (suc k) (inl (same, rest)) = absurd (apart same)
    least (suc k) (inr later) = let le = h.least k later in omega arith

pub at_end : (log : List Request) → GoesOnBehind [] log 0
at_end log = record { stand = tt; least = λ k h. omega arith }

pub nowhere : (n : Request) (ns : List Request) (j : ℕ) → GoesOnBehind (n ∷ ns) [] j → ⊥
nowhere n ns zero h = h.stand
nowhere n ns (suc j) h = h.stand

-- with one request more in front
behind_one : (A M B : Ledger) (r : Request) (p : Reply) (log : List Request) (i : ℕ) (some kept : List Request)
    → Answers A r p M → ((j : ℕ) → GoesOnBehind some log j → GoesOnBehind kept (r ∷ log) (suc j))
    → Place M B log i some → Place A B (r ∷ log) (suc i) kept
behind_one A M B r p log i some kept answer moved place = record {
  j = suc place.j;
  behind = moved place.j place.behind;
  most = let le = place.most in omega arith;
  stands = stands;
}
  where
    stands : (k : ℕ) → suc place.j ≤ k → k ≤ suc i → After A (r ∷ log) k B
    stands zero le most = absurd (omega arith)
    stands (suc k) le most =
        let (ps, run) = place.stands k (omega arith) (omega arith) in (p ∷ ps, (M, answer, run))

pub place : (A B : Ledger) (log : List Request) (i : ℕ) (kept : List Request) → Good A → AreInRange log → After A log i B
    → AreKeptBehind B (places A) kept → Place A B log i kept
place A B log i [] good range after all = record {
  j = 0;
  behind = at_end log;
  most = omega arith;
  stands = λ k le most. unchanged A B log i k most all after;
}
place A B log zero (n ∷ ns) good range ([], same) (there, rest) = absurd (nothing_new A B n good same there)
place A B log zero (n ∷ ns) good range (p ∷ ps, run) all = absurd run
place A B [] (suc i) (n ∷ ns) good range ([], same) (there, rest) = absurd (nothing_new A B n good same there)
place A B [] (suc i) (n ∷ ns) good range (p ∷ ps, run) all = absurd run
place A B (r ∷ log) (suc i) (n ∷ ns) good range ([], run) all = absurd run
place A B (r ∷ log) (suc i) (n ∷ ns) good range (p ∷ ps, (M, answer, run)) (there, rest) =
    by (steps A r p M answer) (λ kept. place M B log i kept (goes_good A M r p good range.0 answer) range.1 (ps, run))
  where
    would : IsAccepted A n
    would =
        let few = range_take (suc i) (r ∷ log) range in
        would_be_accepted A B (take (suc i) (r ∷ log)) (p ∷ ps) n good few (M, answer, run) there

    by : Steps A r M → ((kept : List Request) → AreKeptBehind B (places M) kept → Place M B log i kept)
        → Place A B (r ∷ log) (suc i) (n ∷ ns)
    by (inl (accepted, is)) more =
        let same = same_request B (places A + 1) r n (first_kept A M B r (take i log) ps good is run) there in
        behind_one A M B r p log i ns (n ∷ ns) answer (λ j. at_first n r ns log j same)
        (more ns (subst (λ k. AreKeptBehind B k ns) (sym (ap places is ∙ one_more A r)) rest))
    by (inr (not, is)) more =
        let apart = λ (e : r ≡ n). not (subst (IsAccepted A) (sym e) would) in
        behind_one A M B r p log i (n ∷ ns) (n ∷ ns) answer (λ j. at_later n r ns log j apart)
        (more (n ∷ ns) (subst (λ k. AreKeptBehind B k (n ∷ ns)) (sym (ap places is)) (there, rest)))

-- there is one such place
pub standing : (A B : Ledger) (log : List Request) (i j : ℕ) (kept : List Request) → Place A B log i kept
    → GoesOnBehind kept log j → (j ≤ i) × ((k : ℕ) → j ≤ k → k ≤ i → After A log k B)
standing A B log i j kept place behind =
    let le = behind.least place.j place.behind.stand in
    let ge = place.behind.least j behind.stand in
    let most = place.most in
    (omega arith, λ k first last. place.stands k (omega arith) last)

-- ---- going on

pub goes_on : (A B C : Ledger) (log : List Request) (j : ℕ) (replies : List Reply) → After A log j B → Runs A log replies C
    → Runs B (drop j log) (drop j replies) C
goes_on A B C log zero replies ([], same) run = subst (λ L. Runs L log replies C) (sym same) run
goes_on A B C log zero replies (p ∷ ps, before) run = absurd before
goes_on A B C [] (suc j) [] ([], same) run = run ∙ sym same
goes_on A B C [] (suc j) [] (p ∷ ps, before) run = absurd before
goes_on A B C [] (suc j) (q ∷ qs) after run = absurd run
goes_on A B C (r ∷ log) (suc j) [] after run = absurd run
goes_on A B C (r ∷ log) (suc j) (q ∷ qs) ([], before) run = absurd before
goes_on A B C (r ∷ log) (suc j) (q ∷ qs) (p ∷ ps, (M, answer, before)) (N, other, run) =
    let same = (answered_once A r p q M N answer other).1 in
    goes_on M B C log j qs (ps, before) (subst (λ L. Runs L log qs C) (sym same) run)
