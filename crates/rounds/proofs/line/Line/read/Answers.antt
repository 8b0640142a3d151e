use Rattle.std.proofs.Common.{◌≡◌, ◌∙◌, ◌++◌, [], ap, refl, subst, sym, take}
use Rattle.std.specs.Io.KnownBytes.{Consumes, Keeps}
use Rattle.desk.specs.Dialogue.{is_end}
use Rattle.rounds.specs.Lines.{IsHeard, speaks}
use Rattle.rounds.specs.declared.phase.Phase.TheVariants.{Wants}
use Rattle.rounds.proofs.OneLine.{heard_piece}
use Rattle.rounds.proofs.line.Line.read.Goals as goal

pub returns-in-Ok-clause-came : goal.returns-in-Ok-clause-came
returns-in-Ok-clause-came g c =
    let talk = speaks g.D.Dialogue g.S.Stream in
    let bytes = take c.in_ok-count.count c.read_piece.new.piece in
    let wants : c.self.inside.phase ≡ Wants = ap (λ v. v.phase) c.self.view_is ∙ c.requires.wants in
    record {
      connection = ap (λ v. v.connection) c.self.view_is;
      reads =
          subst (λ v. Consumes (g.S.Stream.remaining v.stream) (g.S.Stream.remaining c.read_piece.new.self) bytes)
          c.self.view_is c.in_ok-count.ensures.bytes.0;
      writes =
          subst (λ v. Keeps (g.S.Stream.contents v.stream) (g.S.Stream.contents c.read_piece.new.self)) c.self.view_is
          c.read_piece.ensures.others;
      stands = λ h is there. heard_piece talk _ _ h bytes wants refl
          (subst (λ v. IsHeard talk v h []) (sym c.self.view_is) is) refl refl refl refl
          (λ read questions found come. subst (λ xs.
          g.D.Dialogue.has_found c.take_in.new.self (read ++ xs) (is_end xs) questions) c.front_of.ensures
          (c.in-Ok.ensures.taken read questions found come));
    }

pub returns-in-Err-clause-came : goal.returns-in-Err-clause-came
returns-in-Err-clause-came g c =
    let bytes = take c.in_ok-count.count c.read_piece.new.piece in
    record {
      connection = ap (λ v. v.connection) c.self.view_is;
      reads =
          subst (λ v. Consumes (g.S.Stream.remaining v.stream) (g.S.Stream.remaining c.read_piece.new.self) bytes)
          c.self.view_is c.in_ok-count.ensures.bytes.0;
      writes =
          subst (λ v. Keeps (g.S.Stream.contents v.stream) (g.S.Stream.contents c.read_piece.new.self)) c.self.view_is
          c.read_piece.ensures.others;
      stands = λ h is there. absurd (there refl);
    }
