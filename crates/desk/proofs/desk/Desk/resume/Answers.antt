use Rattle.std.proofs.Common.{◌≡◌, ◌∙◌, ◌-◌, ℕ, List, drop, length, subst, sym, take}
use Rattle.std.proofs.Math.Seq.{take-length}
use Rattle.std.proofs.lemmas.List.{length-drop}
use Rattle.words.specs.declared.command.Request.{Request}
use Rattle.desk.specs.declared.run.Ending.TheVariants.{All, Stopped}
use Rattle.desk.proofs.Resumption.{all_of, is_whole, leaves_resumable, not_all, resumes}
use Rattle.desk.proofs.desk.Desk.resume.Goals as goal

-- a slice up to the end
rest : (i : ℕ) (xs : List Request) → take (length xs - i) (drop i xs) ≡ drop i xs
rest i xs = subst (λ n. take n (drop i xs) ≡ drop i xs) (length-drop i xs) (take-length (drop i xs))

ends_once : Stopped ≡ All → ⊥
ends_once e = cc

pub returns-clause-resumed : goal.returns-clause-resumed
returns-clause-resumed g c A stands =
    let run = rw (rest (c.args.first - 1) c.args.requests.now) at c.run.ensures.replies in
    resumes A _ _ c.args.requests.now c.args.first _ c.requires.counted c.requires.within stands run

pub returns-clause-whole : goal.returns-clause-whole
returns-clause-whole g c is A stands =
    let all = rw (rest (c.args.first - 1) c.args.requests.now) at (c.run.ensures.all.0 is) in
    is_whole A _ c.args.requests.now c.args.first _ (returns-clause-resumed g c A stands)
    (all_of c.args.requests.now c.args.first _ c.requires.counted c.requires.within all)

pub returns-clause-either : goal.returns-clause-either
returns-clause-either g c going is honest A stands =
    let same = rest (c.args.first - 1) c.args.requests.now in
    let run = rw same at c.run.ensures.replies in
    let (next, after, either) = rw same at (c.run.ensures.either going is honest) in
    let apart = λ (e : length c.run.result.replies.items ≡ length (drop (c.args.first - 1) c.args.requests.now)).
    ends_once (sym is ∙ c.run.ensures.all.1 (rw same e)) in
    leaves_resumable A _ _ next c.args.requests.now c.args.first _ _ c.requires.counted
    (not_all _ _ c.args.requests.now c.args.first _ c.requires.counted c.requires.within run apart) stands run after
    either

pub returns-clause-replies : goal.returns-clause-replies
returns-clause-replies g c =
    let same = rest (c.args.first - 1) c.args.requests.now in
    (rw same at c.run.ensures.replies, rw same at c.run.ensures.lines)
