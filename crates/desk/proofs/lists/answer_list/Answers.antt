use Rattle.std.proofs.Common.{◌≡◌, ◌≢◌, List, rules, subst, take, ℕ}
use Rattle.std.specs.Io.KnownBytes.{Appends}
use Rattle.desk.specs.declared.run.Ending.TheVariants.{Stopped}
use Rattle.desk.proofs.ListLines.{begun_only, memory_behind, stopped_first}
use Rattle.desk.proofs.lists.answer_list.Goals as goal

pub returns-then-eq-clause-cut : goal.returns-then-eq-clause-cut
returns-then-eq-clause-cut g c =
    let is : c.run_list-run.result.ending ≡ Stopped = search rules in
    stopped_first c.args.together _ _ c.args.requests.now c.run_list-run.result (g.W.Write.contents c.args.writer.now)
    (g.W.Write.contents c.args.writer.now) c.requires.going c.requires.few c.run_list-run.ensures.list is

pub returns-in_default-clause-cut : goal.returns-in_default-clause-cut
returns-in_default-clause-cut g c =
    let (count, few, writes) = c.in_default.ensures.beginning in
    let going : c.run_list-run.result.ending ≢ Stopped = λ is. search rules in
    begun_only c.args.together _ _ c.args.requests.now c.run_list-run.result _ _ c.requires.going c.requires.few
    c.run_list-run.ensures.list going count
    (subst (λ (text : List ℕ).
    Appends (g.W.Write.contents c.args.writer.now) (g.W.Write.contents c.write_whole.new.writer) (take count text))
    c.deref.ensures.value writes)

pub returns-then-eq-2-clause-cut : goal.returns-then-eq-2-clause-cut
returns-then-eq-2-clause-cut g c =
    let going : c.run_list-run.result.ending ≢ Stopped = λ is. search rules in
    memory_behind c.args.together _ _ c.args.requests.now c.run_list-run.result _ _ c.requires.going c.requires.few
    c.run_list-run.ensures.list going
    (subst (Appends (g.W.Write.contents c.args.writer.now) (g.W.Write.contents c.write_whole.new.writer))
    c.deref.ensures.value c.in-Ok.ensures.whole)
