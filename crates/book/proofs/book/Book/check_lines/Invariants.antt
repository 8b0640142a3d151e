use Rattle.ledger.proofs.Prelude.{take}
use Rattle.book.proofs.CheckAnswers.{AreApart, RestDecides}
use Rattle.book.proofs.book.Book.check_lines.Given as goal

abbrev pub invariant-loop-i : goal.invariant-loop-i
invariant-loop-i l = record {
  apart : AreApart (take l.i l.lines);
  rest : RestDecides l.self.ledger l.lines l.i;
}
