-- What is found after many cuts.
use Rattle.std.proofs.Common.{◌≡◌, ◌∙◌, ◌≤◌, ◌+◌, ◌-◌, ◌++◌, ℕ, List, [], ◌∷◌, ap, append_assoc, arith, drop, drop-drop}
use Rattle.std.proofs.Common.{flat_map, inl, length, map, refl, subst, sym, take}
use native.Mathlib.Decide.{dec_lt}
use Rattle.std.proofs.Math.Seq.{take-add}
use Rattle.std.proofs.lemmas.List.{length-append, length-drop, length-take-le}
use Rattle.words.specs.declared.command.Request.{Request}
use Rattle.words.specs.declared.reply.Reply.{Reply}
use Rattle.ledger.specs.Answers.{After, Runs}
use Rattle.ledger.specs.Ledger.{Ledger}
use Rattle.ledger.proofs.Runs.{runs_once}
use Rattle.desk.specs.Headline.{IsFoundAfter, IsFoundAfterCuts, IsRunOf, all_lines, all_replies, answered}
use Rattle.desk.specs.Replies.{request_line}
use Rattle.desk.specs.Text.{RepliesAll, items_of}
use Rattle.desk.specs.Resuming.{Resumes, ResumesAgain, ResumableAt}
use Rattle.desk.specs.declared.run.Run.{Run}
use Rattle.desk.proofs.OneText.{replies_one}
use Rattle.desk.proofs.Resumption.{few, one_more_stands, resumed_again, resumed_same, resumes}

-- what is found after a part is where the next is to be resumed
found_resumes : (A B M : Ledger) (rs : List Request) (k : ℕ) (run : Run) → 1 ≤ k → k ≤ length rs + 1
    → ResumableAt A rs k B → IsRunOf B (drop (k - 1) rs) run
    → IsFoundAfter B (drop (k - 1) rs) run M → Resumes A rs k run.replies.items M
found_resumes A B M rs k run one le stands is_run found = record {
  before = base.before;
  last = base.last;
  counted = base.counted;
  run = base.run;
  resumable = there;
}
  where
    base : Resumes A rs k run.replies.items is_run.last
    base = resumes A B is_run.last rs k run.replies.items one le stands is_run.replies

    there : ResumableAt A rs (k + answered run) M
    there =
        let dropped : length (drop (k - 1) rs) ≡ length rs - (k - 1) = length-drop (k - 1) rs in
        let low = found.none_lost in
        let high = found.one_more in
        let asked = found.none_unasked in
        elim (dec_lt (answered run) found.done) [
          | yes more ↦
              one_more_stands A B M rs k run.replies.items one (omega arith) stands
              (subst (λ i. After B (drop (k - 1) rs) i M) (omega arith) found.after)
          | no same ↦ same_there (subst (λ i. After B (drop (k - 1) rs) i M) (omega arith) found.after)
        ]
      where
        same_there : After B (drop (k - 1) rs) (answered run) M → ResumableAt A rs (k + answered run) M
        same_there (qs, other) =
            subst (λ (L : Ledger). ResumableAt A rs (k + answered run) L)
            (runs_once B (take (answered run) (drop (k - 1) rs)) run.replies.items qs is_run.last M is_run.replies
            other).1 base.resumable

abbrev given_by : List Run → List (List Reply)
given_by runs = map (λ run. run.replies.items) runs

all_given : (runs : List Run) → flat_map (λ some. some) (given_by runs) ≡ all_replies runs
all_given [] = refl
all_given (run ∷ runs) = ap (λ (xs : List Reply). run.replies.items ++ xs) (all_given runs)

-- no more are answered than there are
few_in_all : (B D : Ledger) (rs : List Request) (runs : List Run) → IsFoundAfterCuts B rs runs D
    → length (all_replies runs) ≤ length rs
few_in_all B D rs [] h = omega arith
few_in_all B D rs (run ∷ runs) (M, is_run, found, more) =
    let first = few B is_run.last rs run.replies.items is_run.replies in
    let rest = few_in_all M D (drop (answered run) rs) runs more in
    let size : length (all_replies (run ∷ runs)) ≡ answered run + length (all_replies runs) =
    length-append run.replies.items (all_replies runs) in
    let dropped : length (drop (answered run) rs) ≡ length rs - answered run = length-drop (answered run) rs in
    omega arith

found_again : (A B D : Ledger) (rs : List Request) (k : ℕ) (runs : List Run) → 1 ≤ k → k ≤ length rs + 1
    → ResumableAt A rs k B → IsFoundAfterCuts B (drop (k - 1) rs) runs D → ResumesAgain A rs k (given_by runs) D
found_again A B D rs k [] one le stands same = subst (λ (L : Ledger). ResumableAt A rs k L) (sym same) stands
found_again A B D rs k (run ∷ runs) one le stands (M, is_run, found, more) =
    let dropped : length (drop (k - 1) rs) ≡ length rs - (k - 1) = length-drop (k - 1) rs in
    let fits = few B is_run.last (drop (k - 1) rs) run.replies.items is_run.replies in
    let step = found_resumes A B M rs k run one le stands is_run found in
    let behind : drop (answered run) (drop (k - 1) rs) ≡ drop (k + answered run - 1) rs =
    drop-drop (answered run) (k - 1) rs
    ∙ ap (λ n. drop n rs) {x = k - 1 + answered run} {y = k + answered run - 1} (omega arith) in (
      M,
      step,
      found_again A M D rs (k + answered run) runs (omega arith) (omega arith) step.resumable
          (subst (λ (xs : List Request). IsFoundAfterCuts M xs runs D) behind more),
    )

from_start : (A D : Ledger) (rs : List Request) (runs : List Run) → IsFoundAfterCuts A rs runs D
    → ResumesAgain A rs 1 (given_by runs) D
from_start A D rs runs h = found_again A A D rs 1 runs (omega arith) (omega arith) (inl ([], refl)) h

pub stands_after_all : (A D : Ledger) (rs : List Request) (runs : List Run) → IsFoundAfterCuts A rs runs D
    → ResumableAt A rs (length (all_replies runs) + 1) D
stands_after_all A D rs runs h =
    let few_given = few_in_all A D rs runs h in
    let size : length (flat_map (λ some. some) (given_by runs)) ≡ length (all_replies runs) =
    ap (λ (xs : List Reply). length xs) (all_given runs) in
    subst (λ i. ResumableAt A rs i D) {x = 1 + length (flat_map (λ some. some) (given_by runs))}
    {y = length (all_replies runs) + 1} (omega arith)
    (resumed_again A D rs 1 (given_by runs) (omega arith) (omega arith) (from_start A D rs runs h)).resumable

pub same_after_all : (A D last : Ledger) (rs : List Request) (runs : List Run) (replies : List Reply)
    → IsFoundAfterCuts A rs runs D → length (all_replies runs) ≡ length rs → Runs A rs replies last
    → (all_replies runs ≡ replies) × (D ≡ last)
same_after_all A D last rs runs replies h all run =
    let size : length (flat_map (λ some. some) (given_by runs)) ≡ length (all_replies runs) =
    ap (λ (xs : List Reply). length xs) (all_given runs) in
    let same = resumed_same A rs 1 (given_by runs) replies D last (omega arith) (from_start A D rs runs h) (omega arith) run in
    (sym (all_given runs) ∙ same.0, same.1)

-- ---- and their lines

-- the lines of replies to requests
abbrev lines_of : List Request → List Reply → List ℕ
lines_of (r ∷ rs) (p ∷ ps) = request_line r.key p ++ lines_of rs ps
lines_of [] ps = []
lines_of (r ∷ rs) [] = []

lines_there : (A B : Ledger) (rs : List Request) (ps : List Reply) → Runs A rs ps B
    → RepliesAll A (items_of rs) (lines_of rs ps) B
lines_there A B [] [] is = (refl, is)
lines_there A B [] (p ∷ ps) is = absurd is
lines_there A B (r ∷ rs) [] is = absurd is
lines_there A B (r ∷ rs) (p ∷ ps) (M, answer, more) =
    (request_line r.key p, M, lines_of rs ps, (p, answer, refl), lines_there M B rs ps more, refl)

lines_joined : (rs more : List Request) (ps qs : List Reply) → length ps ≡ length rs
    → lines_of (rs ++ more) (ps ++ qs) ≡ lines_of rs ps ++ lines_of more qs
lines_joined [] more [] qs e = refl
lines_joined [] more (p ∷ ps) qs e = absurd (omega (arith, e))
lines_joined (r ∷ rs) more [] qs e = absurd (omega (arith, e))
lines_joined (r ∷ rs) more (p ∷ ps) qs e =
    let rest = lines_joined rs more ps qs (omega (arith, e)) in
    ap (λ (xs : List ℕ). request_line r.key p ++ xs) rest
    ∙ sym (append_assoc (request_line r.key p) (lines_of rs ps) (lines_of more qs))

-- those of each part are those of its replies
lines_after_all : (B D : Ledger) (rs : List Request) (runs : List Run) → IsFoundAfterCuts B rs runs D
    → all_lines runs ≡ lines_of (take (length (all_replies runs)) rs) (all_replies runs)
lines_after_all B D rs [] h = refl
lines_after_all B D rs (run ∷ runs) (M, is_run, found, more) =
    let n : ℕ = answered run in
    let m : ℕ = length (all_replies runs) in
    let ps = run.replies.items in
    let qs = all_replies runs in
    let there = lines_there B is_run.last (take n rs) ps is_run.replies in
    let first : run.lines.items ≡ lines_of (take n rs) ps =
    (replies_one (items_of (take n rs)) B run.lines.items (lines_of (take n rs) ps) is_run.last is_run.last is_run.lines
    there).0 in
    let front : length (take n rs) ≡ n = length-take-le n rs (few B is_run.last rs ps is_run.replies) in
    ap (λ (xs : List ℕ). xs ++ all_lines runs) first
    ∙ ap (λ (xs : List ℕ). lines_of (take n rs) ps ++ xs) (lines_after_all M D (drop n rs) runs more)
    ∙ sym (lines_joined (take n rs) (take m (drop n rs)) ps qs (sym front))
    ∙ ap (λ (xs : List Request). lines_of xs (ps ++ qs)) (sym (take-add n m rs))
    ∙ ap (λ i. lines_of (take i rs) (ps ++ qs)) (sym (length-append ps qs))

pub told_after_all : (A D : Ledger) (rs : List Request) (runs : List Run) → IsFoundAfterCuts A rs runs D
    → (last : Ledger) × Runs A (take (length (all_replies runs)) rs) (all_replies runs) last
    × RepliesAll A (items_of (take (length (all_replies runs)) rs)) (all_lines runs) last
told_after_all A D rs runs h =
    let few_given = few_in_all A D rs runs h in
    let given : List Reply = flat_map (λ some. some) (given_by runs) in
    let size : length given ≡ length (all_replies runs) = ap (λ (xs : List Reply). length xs) (all_given runs) in
    let whole = resumed_again A D rs 1 (given_by runs) (omega arith) (omega arith) (from_start A D rs runs h) in
    let first = take (length (all_replies runs)) rs in
    let told : Runs A first (all_replies runs) whole.last =
    subst (λ (ps : List Reply). Runs A (take (length ps) rs) ps whole.last) (all_given runs)
    (from_first A whole.last rs whole.before given whole.counted whole.run) in (
      whole.last,
      told,
      subst (λ (out : List ℕ). RepliesAll A (items_of first) out whole.last) (sym (lines_after_all A D rs runs h))
          (lines_there A whole.last first (all_replies runs) told),
    )
  where
    from_first : (A B : Ledger) (rs : List Request) (before ps : List Reply) → length before + 1 ≡ 1
        → Runs A (take (length before + length ps) rs) (before ++ ps) B → Runs A (take (length ps) rs) ps B
    from_first A B rs [] ps none run = subst (λ i. Runs A (take i rs) ps B) (omega arith) run
    from_first A B rs (q ∷ before) ps none run = absurd (omega (arith, none))
