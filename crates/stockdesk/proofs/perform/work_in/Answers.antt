use Rattle.std.proofs.lemmas.Result.{IfErr-weaker, on_ok_weaker}
use Rattle.stockdesk.specs.Outside.{outside}
use Rattle.stockdesk.proofs.SessionParts.{on_err, on_error}
use Rattle.stockdesk.proofs.WorkParts.{works_in_part, works_nothing, works_untouched, works_whole}
use Rattle.stockdesk.proofs.perform.work_in.Goals as goal

pub returns-in_err-keep-clause-beginning : goal.returns-in_err-keep-clause-beginning
returns-in_err-keep-clause-beginning g c =
    on_err c.from_residual.result (works_nothing _ _ c.in_err-keep.ensures.unopened)

pub returns-clause-whole : goal.returns-clause-whole
returns-clause-whole g c =
    let out =
    outside (g.M.Machine.opens c.args.machine.now) (g.M.Machine.listens c.args.machine.now)
    (g.M.Machine.gathers c.args.machine.now) g.M.Csv.Read g.M.Listener.Listen g.M.Listener.Reader.Read
    g.M.Listener.Writer.Write g.M.Crowd.Crowd g.M.Crowd.Stream.Stream in
    on_ok_weaker c.in_ok-keep.ended (λ s. works_whole out _ _ _ s) c.in_ok-keep.ensures.whole

pub returns-clause-beginning : goal.returns-clause-beginning
returns-clause-beginning g c =
    let out =
    outside (g.M.Machine.opens c.args.machine.now) (g.M.Machine.listens c.args.machine.now)
    (g.M.Machine.gathers c.args.machine.now) g.M.Csv.Read g.M.Listener.Listen g.M.Listener.Reader.Read
    g.M.Listener.Writer.Write g.M.Crowd.Crowd g.M.Crowd.Stream.Stream in
    on_error c.in_ok-keep.ended _ _ (λ fault s. works_in_part out _ _ _ fault s) c.in_ok-keep.ensures.cut

pub returns-clause-untouched : goal.returns-clause-untouched
returns-clause-untouched g c =
    let out =
    outside (g.M.Machine.opens c.args.machine.now) (g.M.Machine.listens c.args.machine.now)
    (g.M.Machine.gathers c.args.machine.now) g.M.Csv.Read g.M.Listener.Listen g.M.Listener.Reader.Read
    g.M.Listener.Writer.Write g.M.Crowd.Crowd g.M.Crowd.Stream.Stream in
    IfErr-weaker c.in_ok-keep.ended _ _ (λ fault s. works_untouched out _ _ _ fault s) c.in_ok-keep.ensures.cut
