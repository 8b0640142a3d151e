-- the records so far are taken in, and those behind them are what the reader has left
use Rattle.std.proofs.Common.{◌≡◌, length}
use Rattle.csv.specs.Reading.{Ready, default_config, source_of}
use Rattle.csv.specs.declared.reader.Trim.TheVariants as trim
use Rattle.files.specs.Files.{BeginsFile}
use Rattle.files.proofs.RecordsSoFar.{Gave}
use Rattle.files.proofs.intake.read_file.Given as goal

abbrev pub invariant-loop-number : goal.invariant-loop-number
invariant-loop-number g l = (l.records.trim ≡ trim.None) × Ready l.records × (l.records.config ≡ default_config)
    × Gave (g.R.Read.remaining l.fn.reader) (source_of g.R.Read.remaining l.records) l.records.state
    (λ records. (length records ≡ l.number) × BeginsFile g.I.Intake.header (g.I.Intake.took l.intake) records)
