use Rattle.index.proofs.Prelude.{[], ◌++◌, ◌∙◌, ◌∷◌, ◌≡◌, IsPermutation-refl, add-one, ap, arith, at_indexes, insert}
use Rattle.index.proofs.Prelude.{length, range_with_len, subst, zero-add}
use Rattle.std.proofs.lemmas.List.Edits.{insert_end}
use Rattle.std.proofs.lemmas.List.FromFn.{length-range_with_len}
use Rattle.index.proofs.KeyPlaces.{at_indexes-all, range_more}
use Rattle.index.proofs.in_order.InOrder.from_sorted.Goals as goal

pub insert-requires : goal.insert-requires
insert-requires g c =
    let len = ap length c.loop-index.invariant.0 ∙ length-range_with_len 0 c.loop-index.index in
    record {
      place = omega (arith, len);
      room = omega (arith, len, c.loop-index.invariant.1, c.loop-index-test.true, c.len-index-end.ensures);
    }

pub loop-index-preserved : goal.loop-index-preserved
loop-index-preserved g c =
    let i = c.loop-index.index in
    let appended : insert (range_with_len 0 i) i i ≡ range_with_len 0 i ++ i ∷ [] =
    subst (λ n. insert (range_with_len 0 i) n i ≡ range_with_len 0 i ++ i ∷ []) (length-range_with_len 0 i)
    (insert_end (range_with_len 0 i) i) in (
      rw (add-one, range_more 0 i, zero-add)
          (c.insert.ensures.items ∙ ap (λ l. insert l i i) c.loop-index.invariant.0 ∙ appended),
      omega (arith, c.insert.ensures.capacity, c.loop-index.invariant.1),
      omega (arith, c.insert.ensures.capacity, c.loop-index.invariant.2),
    )

pub invariant_of-result : goal.invariant_of-result
invariant_of-result g c =
    let all : c.loop-index.order.items ≡ range_with_len 0 (length c.args.entries.items) =
    c.loop-index.invariant.0 ∙ ap (range_with_len 0) (omega (arith, c.args.entries.ok.0)) in
    rw all (record { each_once = IsPermutation-refl _; rising = rw (at_indexes-all c.args.entries.items) c.requires })

pub returns : goal.returns
returns g c =
    let all : c.loop-index.order.items ≡ range_with_len 0 (length c.args.entries.items) =
    c.loop-index.invariant.0 ∙ ap (range_with_len 0) (omega (arith, c.args.entries.ok.0)) in
    ap (at_indexes c.args.entries.items) all ∙ at_indexes-all c.args.entries.items
