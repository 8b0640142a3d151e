use Rattle.std.proofs.lemmas.Result.{IfErr-weaker}
use Rattle.desk.proofs.FoundAfter.{found_of, left_of, opens_of, refused_of}
use Rattle.desk.proofs.FoundLines.{whole_opened}
use Rattle.desk.proofs.headline.script_cut_and_open.Goals as goal

pub returns-clause-found : goal.returns-clause-found
returns-clause-found g c =
    let opened = c.cut_and_open-opened in
    found_of g.K.Keep.is_honest _ _ _ opened.result opened.ensures.honest c.script_and_stop-ended.ensures.left
    opened.ensures.found opened.ensures.honours

pub returns-clause-refused : goal.returns-clause-refused
returns-clause-refused g c =
    let opened = c.cut_and_open-opened in
    refused_of g.K.Keep.is_honest _ _ _ opened.result opened.ensures.honest c.script_and_stop-ended.ensures.left
    opened.ensures.refused

pub returns-clause-left : goal.returns-clause-left
returns-clause-left g c =
    let opened = c.cut_and_open-opened in
    left_of g.K.Keep.is_honest _ _ _ g.K.Keep.leaves opened.result opened.ensures.honest
    c.script_and_stop-ended.ensures.left opened.ensures.left

pub returns-clause-whole : goal.returns-clause-whole
returns-clause-whole g c =
    let opened = c.cut_and_open-opened in
    whole_opened g.K.Keep.is_honest _ _ _ c.script_and_stop-ended.result.0 opened.result opened.ensures.honest
    c.script_and_stop-ended.ensures.whole opened.ensures.found opened.ensures.honours

pub returns-clause-cut : goal.returns-clause-cut
returns-clause-cut g c =
    let ended = c.script_and_stop-ended in
    let opened = c.cut_and_open-opened in
    IfErr-weaker ended.result.0 _ _ (λ fault told. let (last, same, goes, cut) = told in (
      last,
      record {
        goes = goes;
        opens =
            opens_of g.K.Keep opened.result last.keep ended.result.1 same opened.ensures.honest opened.ensures.left;
      },
      cut,
    )) ended.ensures.cut
