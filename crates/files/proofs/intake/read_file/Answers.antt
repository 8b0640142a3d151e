use Rattle.std.proofs.Common.{◌≡◌, ◌∙◌, ◌+◌, ◌≤◌, ◌∷◌, [], IfSome, ap, arith, inr, length, length-append, refl, sym}
use Rattle.csv.specs.Reading.{source_of}
use Rattle.csv.specs.Records.{fields_of}
use Rattle.ledger.proofs.TestResults.{passed_up}
use Rattle.files.specs.Files.{BeginsFile, FaultsAt, NamesFirst}
use Rattle.files.specs.declared.fault.FileFault.TheVariants.{Io}
use Rattle.files.proofs.NextRecord.{names_given, names_header, names_none, whole_file}
use Rattle.files.proofs.RecordsSoFar.{gave_all, gave_front, gave_more, gave_none}
use Rattle.files.proofs.intake.read_file.Goals as goal

pub loop-number-init : goal.loop-number-init
loop-number-init g c =
    let fr = c.from_reader-records.ensures in
    let e = c.has_headers.ensures in
    let f = c.flexible.ensures in (
      rw (f, e) at fr.trim ∙ c.new.ensures.trim,
      inr (inr (rw (f, e) at fr.has_headers, fr.headers)),
      rw (f, e) at fr.config ∙ c.new.ensures.config,
      gave_none _ _ _
          (λ records. (length records ≡ 0) × BeginsFile g.I.Intake.header (g.I.Intake.took c.args.intake) records)
          fr.source (sym fr.state) (refl, c.requires),
    )

pub returns-in_err-admit-in-Ok-true-clause-bad : goal.returns-in_err-admit-in-Ok-true-clause-bad
returns-in_err-admit-in-Ok-true-clause-bad g c =
    let inv = c.loop-number.invariant in
    let reads = rw c.in-Ok-true.field-0-test at (c.in-Ok-true.ensures.reads inv.0 inv.1) in
    let fault = c.in_err-admit-in-Ok-true.field-0.0 in
    passed_up c.from_residual.result fault
    (λ f. IfSome (g.R.Read.remaining c.args.reader) (λ bytes. NamesFirst g.I.Intake.header g.I.Intake.says bytes f))
    c.from_residual.ensures.1
    (names_given g.I.Intake.header g.I.Intake.says (g.R.Read.remaining c.args.reader) fault
    (gave_front (g.R.Read.remaining c.args.reader) (source_of g.R.Read.remaining c.read_byte_record.new.self)
    c.read_byte_record.new.self.state
    (λ records. (1 ≤ length records) × FaultsAt g.I.Intake.header g.I.Intake.says records fault)
    (gave_more g.R.Read.remaining c.loop-number.records c.read_byte_record.new.self
    (fields_of c.read_byte_record.new.row) (g.R.Read.remaining c.args.reader)
    (λ records.
    (length records ≡ c.loop-number.number)
    × BeginsFile g.I.Intake.header (g.I.Intake.took c.loop-number.intake) records)
    (λ records. (1 ≤ length records) × FaultsAt g.I.Intake.header g.I.Intake.says records fault)
    inv.2 inv.3 reads
    (λ records h. (
      let n = length-append records (fields_of c.read_byte_record.new.row ∷ []) in omega arith,
      c.in_err-admit-in-Ok-true.ensures.bad records h.0 h.1,
    )))))

pub returns-in-Ok-false-clause-bad : goal.returns-in-Ok-false-clause-bad
returns-in-Ok-false-clause-bad g c =
    let inv = c.loop-number.invariant in
    let reads = rw c.in-Ok-false.field-0-test at (c.in-Ok-false.ensures.reads inv.0 inv.1) in
    names_header g.I.Intake.header (g.I.Intake.took c.loop-number.intake) g.I.Intake.says
    (g.R.Read.remaining c.args.reader) c.loop-number.number c.if-number-eq0.true
    (gave_all g.R.Read.remaining c.loop-number.records c.read_byte_record.new.self
    (fields_of c.read_byte_record.new.row) (g.R.Read.remaining c.args.reader)
    (λ records.
    (length records ≡ c.loop-number.number)
    × BeginsFile g.I.Intake.header (g.I.Intake.took c.loop-number.intake) records)
    inv.2 inv.3 reads)

pub returns-in-Ok-false-2-clause-ok : goal.returns-in-Ok-false-2-clause-ok
returns-in-Ok-false-2-clause-ok g c =
    let inv = c.loop-number.invariant in
    let reads = rw c.in-Ok-false.field-0-test at (c.in-Ok-false.ensures.reads inv.0 inv.1) in
    whole_file g.I.Intake.header (g.I.Intake.took c.loop-number.intake) (g.R.Read.remaining c.args.reader)
    c.loop-number.number (omega arith)
    (gave_all g.R.Read.remaining c.loop-number.records c.read_byte_record.new.self
    (fields_of c.read_byte_record.new.row) (g.R.Read.remaining c.args.reader)
    (λ records.
    (length records ≡ c.loop-number.number)
    × BeginsFile g.I.Intake.header (g.I.Intake.took c.loop-number.intake) records)
    inv.2 inv.3 reads)

pub returns-in-Err-clause-bad : goal.returns-in-Err-clause-bad
returns-in-Err-clause-bad g c =
    names_none g.I.Intake.header g.I.Intake.says (g.R.Read.remaining c.args.reader) c.fault_of.result c.fault_of.ensures

pub loop-number-preserved : goal.loop-number-preserved
loop-number-preserved g c =
    let inv = c.loop-number.invariant in
    let reads = rw c.in-Ok-true.field-0-test at (c.in-Ok-true.ensures.reads inv.0 inv.1) in
    let on = c.in-Ok-true.ensures.reads_on c.in-Ok-true.field-0-test in (
      on.1 ∙ inv.0,
      (on.4 inv.1).0,
      on.0 ∙ inv.2,
      gave_more g.R.Read.remaining c.loop-number.records c.read_byte_record.new.self
          (fields_of c.read_byte_record.new.row) (g.R.Read.remaining c.args.reader)
          (λ records.
          (length records ≡ c.loop-number.number)
          × BeginsFile g.I.Intake.header (g.I.Intake.took c.loop-number.intake) records)
          (λ records.
          (length records ≡ c.loop-number.number + 1)
          × BeginsFile g.I.Intake.header (g.I.Intake.took c.admit.new.intake) records)
          inv.2 inv.3 reads
          (λ records h. (
            length-append records (fields_of c.read_byte_record.new.row ∷ []) ∙ ap (λ n. n + 1) h.0,
            c.in_ok-admit-in-Ok-true.ensures.good records h.0 h.1,
          )),
    )

pub returns-clause-bad : goal.returns-clause-bad
returns-clause-bad g c = names_none g.I.Intake.header g.I.Intake.says (g.R.Read.remaining c.args.reader) Io (inr refl)
