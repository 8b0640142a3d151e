use Rattle.std.proofs.Common.{◌≡◌, ◌∙◌, ◌∷◌, All, List, add-one, ap, arith, length, subst, sym}
use Rattle.std.specs.Vec.Iter.{into_iter_items}
use Rattle.ledger.specs.Changes.{put_content}
use Rattle.ledger.specs.Rows.{Content}
use Rattle.ledger.specs.Tables.{rows_among}
use Rattle.ledger.specs.declared.rows.Change.{Change}
use Rattle.keep.specs.Content.{IsTheRow}
use Rattle.keep.specs.Plain.{HasRoom, shelf_content}
use Rattle.keep.proofs.PlainChanges.{one_first, one_later, put_first, stays_in_order}
use Rattle.keep.proofs.plain.shelf.Shelf.put_all.Goals as goal

pub put-requires-clause-one : goal.put-requires-clause-one
put-requires-clause-one c =
    let left = into_iter_items c.next.new.self in
    one_first c.in-Some.change left
    (subst (λ (cs : List Change). All IsTheRow (rows_among cs).desk) c.in-Some.ensures.steps.0
    c.loop-change.invariant.one)

pub loop-change-preserved : goal.loop-change-preserved
loop-change-preserved c =
    let left = into_iter_items c.next.new.self in
    let split : into_iter_items c.loop-change.change-iterator ≡ c.in-Some.change ∷ left = c.in-Some.ensures.steps.0 in
    let one = subst (λ (cs : List Change). All IsTheRow (rows_among cs).desk) split c.loop-change.invariant.one in
    let room = subst (λ (cs : List Change). HasRoom (length cs) c.loop-change.self) split c.loop-change.invariant.room in
    let longer : length (into_iter_items c.loop-change.change-iterator) ≡ length (c.in-Some.change ∷ left) =
    ap (λ (cs : List Change). length cs) split in
    record {
      long = omega (arith, longer, c.loop-change.invariant.long, c.in-Some.ensures.steps.1);
      order =
          stays_in_order c.in-Some.change c.loop-change.self c.put.new.self (one_first c.in-Some.change left one)
          c.put.ensures.put c.loop-change.invariant.order;
      one = one_later c.in-Some.change left one;
      room = c.put.ensures.room (length left) (rw add-one room);
      put =
          ap (λ (x : Content). put_content (rows_among left) x) c.put.ensures.put
          ∙ sym (put_first c.in-Some.change left (shelf_content c.loop-change.self))
          ∙ ap (λ (cs : List Change). put_content (rows_among cs) (shelf_content c.loop-change.self)) (sym split)
          ∙ c.loop-change.invariant.put;
    }
