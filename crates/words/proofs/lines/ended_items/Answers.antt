use Rattle.std.proofs.Common.{[], List, append-nil, subst}
use Rattle.words.specs.Stream.{Ends, pending}
use Rattle.words.specs.Words.{parts_at}
use Rattle.words.specs.declared.item.Item.{Item}
use Rattle.words.proofs.Pieces.{ends_last}
use Rattle.words.proofs.lines.ended_items.Goals as goal

pub returns-clause-items : goal.returns-clause-items
returns-clause-items c =
    let (more, are, ends) = c.loop-line.invariant in (
      more,
      are,
      subst (λ (items : List Item). Ends (parts_at 10 c.args.bytes.now) items (pending c.loop-line.rest.now)) (append-nil more)
          (ends [] (pending c.loop-line.rest.now) (ends_last c.loop-line.rest.now _ c.in_default-cut.ensures.parts)),
    )
