use Rattle.std.proofs.Common.{◌≡◌, [], ◌∷◌, Err, ap, subst}
use Rattle.std.proofs.Math.Logic.{inl, inr}
use Rattle.std.proofs.KnownBytes.{Keeps-refl}
use Rattle.ledger.proofs.EqualRows.{told_by_rows}
use Rattle.ledger.specs.Ledger.{Ledger}
use Rattle.desk.proofs.Faults.{of_error}
use Rattle.desk.proofs.FoundAfter.{stored_left}
use Rattle.desk.specs.Headline.{LeavesRowsOf}
use Rattle.desk.specs.Streams.{streams}
use Rattle.stockdesk.specs.Sessions.{desk_left, session_on}
use Rattle.stockdesk.specs.Work.{IsFoundAfterWork}
use Rattle.stockdesk.proofs.NextSession.{nothing_found, opens_desk, work_left}
use Rattle.stockdesk.proofs.SessionParts.{cut_by, whole_by}
use Rattle.stockdesk.proofs.work.session.Goals as goal

pub returns-in-Err-clause-cut : goal.returns-in-Err-clause-cut
returns-in-Err-clause-cut g c =
    let told = c.from.ensures in
    let why = c.in-Err.ensures.unopened in
    inl (
      record {
        not_a_desk = λ is. why.not_a_desk (told.not_a_desk.0 is);
        old_version = λ is honest x there. g.met.K.Keep.apart _ x (why.old_version (told.old_version.0 is) honest) there;
        damaged = λ is. why.damaged (told.damaged.0 is);
        opening = told.opening;
        stopped = λ is. why.stopped (elim is [
          | inl e ↦ inl (told.store.0 e)
          | inr e ↦ inr (elim e [ inl n ↦ inl (told.not_a_desk.0 n) | inr o ↦ inr (told.old_version.0 o) ])
        ]);
        going = λ is. why.loaded (told.damaged.0 is);
        left = c.in-Err.ensures.left;
      },
      (Keeps-refl _, Keeps-refl _),
    )

pub returns-clause-whole : goal.returns-clause-whole
returns-clause-whole g c =
    let opened = c.in-Ok.ensures.opened in
    let (last, ended) = c.work_on.ensures in
    whole_by (session_on g.K.Keep c.args.keep c.work_on.result.0) c.work_on.result.1 c.in-Ok.desk last _ opened.going
    opened.good (λ honest. opened.rows (ended.goes.honest honest)) ended.stop ended.goes.stored ended.whole

pub returns-clause-cut : goal.returns-clause-cut
returns-clause-cut g c =
    let opened = c.in-Ok.ensures.opened in
    let (last, ended) = c.work_on.ensures in
    of_error c.work_on.result.1 _ _
    (λ fault is cut. inr (cut_by (session_on g.K.Keep c.args.keep c.work_on.result.0) c.work_on.result.1 c.in-Ok.desk
    last _ opened.going opened.good (λ honest. opened.rows (ended.goes.honest honest)) ended.stop ended.goes.stored
    fault is cut ended.desk))
    ended.cut

pub returns-in-Err-clause-old : goal.returns-in-Err-clause-old
returns-in-Err-clause-old g c honest going old =
    let told = c.from.ensures in
    elim (c.in-Err.ensures.only_old honest going old) [
      | inl e ↦ inl (ap (λ f. Err f) (told.old_version.1 e))
      | inr more ↦
          inr (elim more [
            | inl e ↦ inl (ap (λ f. Err f) (told.memory.1 e))
            | inr e ↦ inr (ap (λ f. Err f) (told.store.1 e))
          ])
    ]

pub returns-clause-old : goal.returns-clause-old
returns-clause-old g c honest going old =
    let (last, ended) = c.work_on.ensures in
    absurd (c.in-Ok.ensures.only_old (ended.goes.honest honest) going old)

pub returns-clause-honest : goal.returns-clause-honest
returns-clause-honest g c honest =
    let (last, ended) = c.work_on.ensures in c.in-Ok.ensures.honest (ended.goes.honest honest)

pub returns-in-Err-clause-goes_on : goal.returns-in-Err-clause-goes_on
returns-in-Err-clause-goes_on g c honest A x good rows held alone =
    let told = c.from.ensures in
    record {
      opens =
          opens_desk c.from.result (elim (c.in-Err.ensures.nothing_else honest A x good rows held) [
            | inl e ↦ inl (told.memory.1 e)
            | inr e ↦ inr (told.store.1 e)
          ]);
      leaves = stored_left A _ (g.K.Keep.holds c.args.keep) (g.K.Keep.leaves c.in-Err.keep) good
          (nothing_found (desk_left (session_on g.K.Keep c.args.keep c.in-Err.keep) A) _ (Keeps-refl _, Keeps-refl _)
          c.args.work.now)
          (record {
            rows = x;
            are_rows = rows;
            held = held;
            alone = (c.in-Err.ensures.left honest).adds.adds_nothing (x ∷ []) alone;
          });
    }

pub returns-clause-goes_on : goal.returns-clause-goes_on
returns-clause-goes_on g c honest A x good rows held alone =
    let opened = c.in-Ok.ensures.opened in
    let (last, ended) = c.work_on.ensures in
    let s =
    streams (g.R.Read.remaining c.args.reader.now) (g.R.Read.remaining c.work_on.new.reader)
    (g.W.Write.contents c.args.writer.now) (g.W.Write.contents c.work_on.new.writer) in
    let same : c.in-Ok.desk.ledger ≡ A =
    told_by_rows c.in-Ok.desk.ledger A x opened.good good (opened.rows (ended.goes.honest honest) x held) rows in
    let left =
    work_left _ _ _ s (g.K.Keep.holds c.work_on.result.0) opened.going ended.goes.good honest
    (λ going. ended.goes.stored going honest) c.work_on.result.1 c.args.work.now ended.whole ended.cut
    ended.stop in
    record {
      opens = ended.desk;
      leaves =
          subst (λ (B : Ledger). LeavesRowsOf (g.K.Keep.leaves c.work_on.result.0)
          (IsFoundAfterWork c.args.work.now (desk_left (session_on g.K.Keep c.args.keep c.work_on.result.0) B) s))
          same left;
    }
