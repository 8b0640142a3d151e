use Rattle.std.proofs.Common.{◌∷◌, ◌++◌, [], subst, sym}
use Rattle.std.specs.List.{AllZip}
use Rattle.csv.specs.Records.{fields_of}
use Rattle.words.specs.declared.command.Command.{Command}
use Rattle.files.specs.Files.{under_key}
use Rattle.files.proofs.Zips.{zip_last, zip_push}
use Rattle.files.proofs.single.SinglesIntake.take.Goals as goal
use Rattle.files.proofs.single.SinglesIntake.take.Goals.{in-Ok, in-Err}

pub returns-in_default-clause-fault : goal.returns-in_default-clause-fault
returns-in_default-clause-fault g c = λ bad rows said. record {
  requests = c.args.self.now.requests.items;
  so_far = said;
  fault = λ more whole.
      let (request, is) = zip_last g.S.Single.says rows (fields_of c.args.row.now) more whole in
      c.in_default.ensures.none request is;
}

pub returns-clause-good : goal.returns-clause-good
returns-clause-good g c =
    elim c.match-push.branch [
      | in-Ok w ↦
          rw w.result-is (λ good rows said.
          subst (AllZip g.S.Single.says (rows ++ fields_of c.args.row.now ∷ [])) (sym w.in-Ok.ensures.items)
          (zip_push g.S.Single.says rows c.args.self.now.requests.items (fields_of c.args.row.now)
          (under_key c.in-Some.said.0 c.in_ok-command.command) said
          (subst (λ (k : Command). g.S.Single.says (fields_of c.args.row.now) (under_key c.in-Some.said.0 k))
          (sym c.in_ok-command.ensures) c.in-Some.ensures.some)))
      | in-Err w ↦ rw w.result-is tt
    ]
