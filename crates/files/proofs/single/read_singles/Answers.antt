use Rattle.std.specs.List.{AllZip}
use Rattle.files.proofs.NextRecord.{file_of}
use Rattle.files.proofs.single.read_singles.Goals as goal

pub returns-in-Ok-clause-ok : goal.returns-in-Ok-clause-ok
returns-in-Ok-clause-ok g c =
    file_of g.S.Single.header (AllZip g.S.Single.says)
    (λ rows. AllZip g.S.Single.says rows c.in-Ok.taken.requests.items) c.in-Ok.taken.requests.items
    (g.R.Read.remaining c.args.reader) (λ rows h. h) c.in-Ok.ensures.ok
