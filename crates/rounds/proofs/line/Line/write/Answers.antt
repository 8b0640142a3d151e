use Rattle.std.proofs.Common.{◌≡◌, ◌∙◌, ◌+◌, ◌++◌, ap, drop, refl, subst, sym, take}
use Rattle.std.proofs.lemmas.List.{drop-drop}
use Rattle.std.specs.Io.KnownBytes.{Appends}
use Rattle.rounds.specs.Lines.{speaks}
use Rattle.rounds.proofs.OneLine.{heard_written, take_back}
use Rattle.rounds.proofs.line.Line.write.Goals as goal

pub returns-clause-written : goal.returns-clause-written
returns-clause-written g c =
    let talk = speaks g.D.Dialogue g.S.Stream in
    let here = c.self.inside in
    let count = c.in_ok-count.count in
    let items = here.output.items in
    let bytes = take count (drop here.written items) in
    let left : drop here.written items ≡ bytes ++ drop (here.written + count) items =
    sym (take_back count (drop here.written items)) ∙ ap (λ xs. bytes ++ xs) (drop-drop count here.written items) in
    rw (← c.self.view_is) (record {
      connection = refl;
      reads = c.write_some.ensures.others;
      writes = subst (λ xs. Appends (g.S.Stream.contents here.stream) (g.S.Stream.contents c.write_some.new.self) (take count xs))
          (c.rest_of.ensures ∙ ap (drop here.written) c.deref.ensures.value) c.in_ok-count.ensures.bytes;
      output = left;
      stands = λ h is. heard_written talk _ _ h bytes is refl refl refl refl refl left;
    })
