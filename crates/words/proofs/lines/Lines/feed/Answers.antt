use Rattle.std.proofs.Common.{List, Option, ℕ, subst, sym}
use Rattle.words.specs.Stream.{EndsBehind}
use Rattle.words.specs.Words.{parts_at}
use Rattle.words.proofs.Cuts.{parts_more}
use Rattle.words.proofs.Pieces.{feeds_none, feeds_some}
use Rattle.words.proofs.lines.Lines.feed.Goals as goal

pub returns-in-Ok-clause-ok : goal.returns-in-Ok-clause-ok
returns-in-Ok-clause-ok c =
    feeds_none _ _ _ _ c.extend.ensures.one c.in_default.ensures.parts c.in-Ok.ensures.ok c.new.ensures.items

pub returns-in-Ok-restart-clause-ok : goal.returns-in-Ok-restart-clause-ok
returns-in-Ok-restart-clause-ok c =
    feeds_some c.args.self.now c.args.piece.now c.in-Some.end.now c.in-Some.after.now c.in-Ok-end_line.first
    c.in-Ok-ended_items.ended.0.items c.restart.new.self
    c.end_line.ensures.one c.in-Some.ensures.parts c.in-Ok-end_line.ensures.ok
    (subst (λ (new : Option (List ℕ)).
    EndsBehind c.in-Ok-end_line.first (parts_at 10 c.in-Some.after.now) c.in-Ok-ended_items.ended.0.items new)
    (sym c.in-Ok-restart.ensures.ok)
    c.in-Ok-ended_items.ensures.items)

pub returns-in_default-end_line-clause-overlong : goal.returns-in_default-end_line-clause-overlong
returns-in_default-end_line-clause-overlong c none one =
    absurd (parts_more 10 c.in-Some.after.now _ _ _ c.in-Some.ensures.parts one)

pub returns-in_default-ended_items-clause-overlong : goal.returns-in_default-ended_items-clause-overlong
returns-in_default-ended_items-clause-overlong c none one =
    absurd (parts_more 10 c.in-Some.after.now _ _ _ c.in-Some.ensures.parts one)
