use Rattle.std.proofs.Common.{◌≡◌, IfSome, List, None, Option, Some, inl, inr, subst, ℕ}
use Rattle.desk.specs.Streams.{only_written}
use Rattle.desk.proofs.Faults.{of_error}
use Rattle.files.specs.declared.fault.FileFault.{FileFault}
use Rattle.stockdesk.specs.Requests.{IsFileFault, NamesFirstOf}
use Rattle.command_line.specs.declared.work.Kind.{Kind}
use Rattle.stockdesk.specs.declared.session.Fault.{Fault}
use Rattle.stockdesk.proofs.WorkParts.{cut_of}
use Rattle.stockdesk.proofs.requests.answer_file.Goals as goal

-- a record is named that is the first at fault
blamed : (kind : Kind) (number : ℕ) (fault : Fault) (left : Option (List ℕ)) → fault ≡ Fault.BadRecord number
    → IfSome left (λ bytes. (cause : FileFault) × IsFileFault cause fault × NamesFirstOf kind bytes cause)
    → IfSome left (λ bytes. NamesFirstOf kind bytes (FileFault.BadRecord number))
blamed kind number fault None told names = tt
blamed kind number fault (Some bytes) told (cause, is, names) =
    subst (NamesFirstOf kind bytes) ((is.record_at_fault number).0 told) names

pub returns-in-Ok-clause-cut : goal.returns-in-Ok-clause-cut
returns-in-Ok-clause-cut g c =
    of_error c.answer_from.result _ _
    (λ fault is cut. cut_of _ _ (λ requests its. (c.in-Ok.reader, c.in-Ok.ensures, its)) _ fault _ _
    (only_written (g.W.Write.contents c.args.writer.now) (g.W.Write.contents c.answer_from.new.writer)) cut)
    c.answer_from.ensures.cut

pub returns-in-Ok-clause-unread : goal.returns-in-Ok-clause-unread
returns-in-Ok-clause-unread g c =
    of_error c.answer_from.result _ _
    (λ fault is unread number told.
    (c.in-Ok.reader, c.in-Ok.ensures, blamed c.args.kind number fault _ told (unread (inr (number, told)))))
    c.answer_from.ensures.unread

pub returns-in-Err-clause-unread : goal.returns-in-Err-clause-unread
returns-in-Err-clause-unread g c number told = elim c.csv_fault.ensures [ inl is ↦ absurd (cc) | inr is ↦ absurd (cc) ]
