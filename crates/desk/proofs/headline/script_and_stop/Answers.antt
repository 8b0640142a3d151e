use Rattle.std.proofs.Common.{◌≡◌, ◌∙◌, false, subst, sym}
use Rattle.std.proofs.lemmas.Result.{IfErr-weaker}
use Rattle.std.specs.Prelude.{OnOk}
use Rattle.desk.specs.Headline.{IsFoundAfterLines, LeavesRowsOf}
use Rattle.desk.specs.Script.{WritesText}
use Rattle.desk.specs.Streams.{streams}
use Rattle.desk.proofs.FoundLines.{script_left, whole_left}
use Rattle.desk.proofs.headline.script_and_stop.Goals as goal

pub returns-clause-left : goal.returns-clause-left
returns-clause-left g c honest =
    let ended = c.script-ended in
    let still = subst g.K.Keep.is_honest c.into_keep.ensures.keep honest in
    let s =
    streams (g.R.Read.remaining c.args.reader.now) (g.R.Read.remaining ended.new.reader)
    (g.W.Write.contents c.args.writer.now) (g.W.Write.contents ended.new.writer) in
    let left =
    script_left ended.result _ _ s _ c.into_keep.ensures.good c.requires ended.ensures.goes.stored still
    ended.ensures.whole ended.ensures.cut in
    subst (λ k. LeavesRowsOf (g.K.Keep.leaves k) (IsFoundAfterLines c.args.desk.ledger s)) (sym c.into_keep.ensures.keep) left

pub returns-clause-whole : goal.returns-clause-whole
returns-clause-whole g c honest =
    let ended = c.script-ended in
    let still = subst g.K.Keep.is_honest c.into_keep.ensures.keep honest in
    let s =
    streams (g.R.Read.remaining c.args.reader.now) (g.R.Read.remaining ended.new.reader)
    (g.W.Write.contents c.args.writer.now) (g.W.Write.contents ended.new.writer) in
    let left =
    whole_left ended.result _ _ s _ c.into_keep.ensures.good c.requires ended.ensures.goes.stored still
    ended.ensures.whole in
    subst (λ k. OnOk ended.result (LeavesRowsOf (g.K.Keep.leaves k) (λ B. WritesText c.args.desk.ledger B s)))
    (sym c.into_keep.ensures.keep) left

pub returns-clause-going : goal.returns-clause-going
returns-clause-going g c other =
    subst (λ k. g.K.Keep.stopped k ≡ false) (sym c.into_keep.ensures.keep)
    (c.script-ended.ensures.stop.going other ∙ c.requires)

pub returns-clause-cut : goal.returns-clause-cut
returns-clause-cut g c =
    let ended = c.script-ended in
    IfErr-weaker ended.result _ _ (λ fault cut. (ended.new.desk, sym c.into_keep.ensures.keep, ended.ensures.goes, cut))
    ended.ensures.cut
