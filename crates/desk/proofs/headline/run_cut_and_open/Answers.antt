use Rattle.std.proofs.Common.{subst, sym}
use Rattle.desk.specs.Headline.{TellsEnding}
use Rattle.desk.proofs.FoundAfter.{found_of, left_of, opens_of, refused_of}
use Rattle.desk.proofs.headline.run_cut_and_open.Goals as goal

pub returns-clause-found : goal.returns-clause-found
returns-clause-found g c =
    let opened = c.cut_and_open-opened in
    found_of g.K.Keep.is_honest _ _ _ opened.result opened.ensures.honest c.run_and_stop-run.ensures.left
    opened.ensures.found opened.ensures.honours

pub returns-clause-refused : goal.returns-clause-refused
returns-clause-refused g c =
    let opened = c.cut_and_open-opened in
    refused_of g.K.Keep.is_honest _ _ _ opened.result opened.ensures.honest c.run_and_stop-run.ensures.left opened.ensures.refused

pub returns-clause-left : goal.returns-clause-left
returns-clause-left g c =
    let opened = c.cut_and_open-opened in
    left_of g.K.Keep.is_honest _ _ _ g.K.Keep.leaves opened.result opened.ensures.honest c.run_and_stop-run.ensures.left
    opened.ensures.left

pub returns-clause-stop : goal.returns-clause-stop
returns-clause-stop g c =
    let run = c.run_and_stop-run in
    let opened = c.cut_and_open-opened in
    let (last, same, goes, runs) = run.ensures.behind in (
      last,
      subst (λ k. TellsEnding g.K.Keep run.result.0 k) (sym same)
          (record { stopped = run.ensures.stopped; going = run.ensures.going }),
      record {
        goes = goes;
        opens = opens_of g.K.Keep opened.result last.keep run.result.1 same opened.ensures.honest opened.ensures.left;
      },
      runs,
    )
