use Rattle.std.proofs.Common.{◌≡◌, ◌∙◌, ◌∷◌, All, List, ap, arith, length, rules, subst, sym}
use Rattle.std.specs.Vec.Iter.{into_iter_items}
use Rattle.ledger.specs.Rows.{Content}
use Rattle.ledger.specs.Tables.{rows_among}
use Rattle.ledger.specs.declared.rows.Change.{Change}
use Rattle.ledger.specs.Changes.{put_content}
use Rattle.keep.specs.Content.{IsTheRow, with_changes}
use Rattle.keep.proofs.PlainChanges.{one_first, one_later, put_first}
use Rattle.desk.proofs.OneRow.{desk_taken, put_taken}
use Rattle.desk.proofs.PutOff.{copies_same}
use Rattle.desk.proofs.copies.put_off.Goals as goal

pub loop-copy-init : goal.loop-copy-init
loop-copy-init c =
    let copies = c.in_ok-copies.copies.items in
    let all : into_iter_items c.into_iter-copy-iterator.result ≡ copies =
    c.into_iter-copy-iterator.ensures.into_iter_gives.0 in
    let same : rows_among copies ≡ rows_among c.args.changes.now = copies_same _ _ c.in_ok-copies.ensures.same in
    record {
      desk =
          subst (λ (cs : List Change). All IsTheRow (rows_among cs).desk) (sym c.reserve.ensures.items)
          c.requires.before;
      one =
          subst (λ (cs : List Change). All IsTheRow (rows_among cs).desk) (sym all)
          (subst (λ (rows : Content). All IsTheRow rows.desk) (sym same) c.requires.more);
      room = search rules;
      put = λ x.
          let kept = c.reserve.new.self.items in
          ap (λ (cs : List Change). with_changes cs (with_changes kept x)) all
          ∙ ap (λ (rows : Content). put_content rows (with_changes kept x)) same
          ∙ ap (λ (cs : List Change). with_changes c.args.changes.now (with_changes cs x)) c.reserve.ensures.items;
    }

pub loop-copy-preserved : goal.loop-copy-preserved
loop-copy-preserved c =
    let left = into_iter_items c.next.new.self in
    let split : into_iter_items c.loop-copy.copy-iterator ≡ c.in-Some.copy ∷ left = c.in-Some.ensures.steps.0 in
    let one = subst (λ (cs : List Change). All IsTheRow (rows_among cs).desk) split c.loop-copy.invariant.one in
    let longer : length (into_iter_items c.loop-copy.copy-iterator) ≡ length (c.in-Some.copy ∷ left) =
    ap (λ (cs : List Change). length cs) split in
    record {
      desk = desk_taken _ _ _ c.put_one.ensures.taken c.loop-copy.invariant.desk (one_first c.in-Some.copy left one);
      one = one_later c.in-Some.copy left one;
      room = omega (arith, longer, c.loop-copy.invariant.room, c.put_one.ensures.len, c.put_one.ensures.capacity);
      put = λ x.
          ap (λ (y : Content). with_changes left y) (put_taken _ _ _ x c.put_one.ensures.taken)
          ∙ sym (put_first c.in-Some.copy left (with_changes c.loop-copy.kept.items x))
          ∙ ap (λ (cs : List Change). with_changes cs (with_changes c.loop-copy.kept.items x)) (sym split)
          ∙ c.loop-copy.invariant.put x;
    }
