use Rattle.std.proofs.Common.{◌∙◌, None, arith, subst, sym}
use Rattle.desk.specs.Deferred.{snapshot_off}
use Rattle.rounds.specs.Crowds.{listening_to}
use Rattle.rounds.specs.Lines.{speaks}
use Rattle.rounds.specs.Services.{HasServed}
use Rattle.rounds.proofs.Serving.{before_all, between, ended, none_served, on_err, on_ok}
use Rattle.rounds.proofs.service.serve_rounds.Goals as goal

pub returns-in-Err-clause-cut : goal.returns-in-Err-clause-cut
returns-in-Err-clause-cut g c =
    let talk = speaks g.D.Dialogue g.C.Stream.Stream in
    let listen = listening_to g.C.Crowd in (
      0,
      omega arith,
      none_served talk listen g.K.Keep c.args.crowd c.args.desk.now c.in-Err.crowd c.in-Err.ensures.err
          (before_all talk listen g.K.Keep c.args.crowd c.args.desk.now c.requires.goes c.requires.settled
          c.is_kept.ensures.stored),
    )

pub returns-clause-whole : goal.returns-clause-whole
returns-clause-whole g c =
    let talk = speaks g.D.Dialogue g.C.Stream.Stream in
    let listen = listening_to g.C.Crowd in
    let start = snapshot_off c.args.desk.now in
    let kept =
    before_all talk listen g.K.Keep c.args.crowd c.args.desk.now c.requires.goes c.requires.settled
    c.is_kept.ensures.stored in
    let after =
    c.serve-ended.ensures.served c.args.crowd start
    (record { loss = None; kept = kept; serving = c.in-Ok.ensures.serving start }) in
    let closed =
    between talk listen g.K.Keep c.args.crowd start c.serve-ended.new.desk _ c.close_all.new.self
    c.close_all.ensures.served after in
    let count = c.serve-ended.new.self.places.connections in
    on_ok c.serve-ended.result _ _ c.serve-ended.ensures.all (λ all. (
      all.1,
      count,
      all.0,
      subst (λ last. HasServed g.D.Dialogue.language g.C.Stream.Stream.remaining g.C.Stream.Stream.contents listen
          g.K.Keep c.args.crowd last count c.args.desk.now c.serve-ended.new.desk) (sym c.into_crowd.ensures)
          (ended talk listen g.K.Keep c.args.crowd start c.args.desk.now c.serve-ended.new.desk c.close_all.new.self count
          c.close_all.ensures.same.1 c.close_all.ensures.free closed),
    ))

pub returns-clause-cut : goal.returns-clause-cut
returns-clause-cut g c =
    let talk = speaks g.D.Dialogue g.C.Stream.Stream in
    let listen = listening_to g.C.Crowd in
    let start = snapshot_off c.args.desk.now in
    let kept =
    before_all talk listen g.K.Keep c.args.crowd c.args.desk.now c.requires.goes c.requires.settled
    c.is_kept.ensures.stored in
    let after =
    c.serve-ended.ensures.served c.args.crowd start
    (record { loss = None; kept = kept; serving = c.in-Ok.ensures.serving start }) in
    let closed =
    between talk listen g.K.Keep c.args.crowd start c.serve-ended.new.desk _ c.close_all.new.self
    c.close_all.ensures.served after in
    let count = c.serve-ended.new.self.places.connections in
    on_err c.serve-ended.result _ (
      count,
      c.serve-ended.ensures.within,
      subst (λ last. HasServed g.D.Dialogue.language g.C.Stream.Stream.remaining g.C.Stream.Stream.contents listen
          g.K.Keep c.args.crowd last count c.args.desk.now c.serve-ended.new.desk) (sym c.into_crowd.ensures)
          (ended talk listen g.K.Keep c.args.crowd start c.args.desk.now c.serve-ended.new.desk c.close_all.new.self count
          c.close_all.ensures.same.1 c.close_all.ensures.free closed),
    )
