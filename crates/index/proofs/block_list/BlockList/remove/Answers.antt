use Rattle.std.proofs.Common.{deque_capacity}
use Rattle.index.proofs.Prelude.{◌*◌, ◌+◌, ◌<◌, ◌∙◌, ◌≤◌, ap, arith, length, map, refl, subst, sym}
use Rattle.index.proofs.Blocks.{is_index, is_within, length-joined}
use Rattle.index.proofs.TakenOut.{begins, closes, goes_on, has_first, is_next, one_short, roomy, sizes_as_before}
use Rattle.index.proofs.TakenOut.{sizes_stay, taken}
use Rattle.index.proofs.block_list.BlockList.remove.Goals as goal

pub index_mut-requires : goal.index_mut-requires
index_mut-requires g c =
    let inside = c.self.inside in
    let short = subst (λ v. c.args.place < length v.items) (sym c.self.view_is) c.requires.place in
    omega (arith, is_index _ deque_capacity _ inside.blocks.items _ c.self.invariant short, inside.blocks.ok.0)

pub take_out-item-requires : goal.take_out-item-requires
take_out-item-requires g c =
    let short = subst (λ v. c.args.place < length v.items) (sym c.self.view_is) c.requires.place in
    omega (arith, is_within _ deque_capacity _ c.self.inside.blocks.items _ c.self.invariant short _ c.index_mut.ensures.value)

pub overflow_sub-self : goal.overflow_sub-self
overflow_sub-self g c =
    let short = subst (λ v. c.args.place < length v.items) (sym c.self.view_is) c.requires.place in
    omega (arith, short, length-joined _ (map (λ b. b.items) c.self.inside.blocks.items) c.self.invariant.filled)

pub loop-index-init : goal.loop-index-init
loop-index-init g c =
    let short = subst (λ v. c.args.place < length v.items) (sym c.self.view_is) c.requires.place in
    let there = c.index_mut.ensures.value in
    let out = c.take_out-item.ensures in
    let way = begins _ _ c.self.inside.blocks.items _ c.self.invariant short there _ out.storage out.items in
    (rw (← c.self.view_is) way, refl, refl, refl, refl)

pub invariant_of-self : goal.invariant_of-self
invariant_of-self g c =
    let l = c.loop-index in
    let last : l.self-inside.len < 1024 * (l.index + 1) = omega (arith, c.loop-index-test.false, l.invariant.1) in
    closes _ _ l.self-inside.blocks.items l.invariant.0 last

pub index_mut-requires-in-loop-index : goal.index_mut-requires-in-loop-index
index_mut-requires-in-loop-index g c =
    let l = c.loop-index in
    let more : 1024 * (l.index + 1) ≤ l.self-inside.len = omega (arith, c.loop-index-test.true, l.invariant.1) in
    omega (arith, is_next _ _ l.self-inside.blocks.items l.invariant.0 more, l.self-inside.blocks.ok.0)

pub take_out-next-requires : goal.take_out-next-requires
take_out-next-requires g c =
    let l = c.loop-index in
    let more : 1024 * (l.index + 1) ≤ l.self-inside.len = omega (arith, c.loop-index-test.true, l.invariant.1) in
    has_first _ _ l.self-inside.blocks.items l.invariant.0 more c.index_mut-in-loop-index.ensures.value

pub index_mut-requires-in-loop-index-2 : goal.index_mut-requires-in-loop-index-2
index_mut-requires-in-loop-index-2 g c =
    let l = c.loop-index in
    let more : 1024 * (l.index + 1) ≤ l.self-inside.len = omega (arith, c.loop-index-test.true, l.invariant.1) in
    omega (arith, is_next _ _ l.self-inside.blocks.items l.invariant.0 more, l.self-inside.blocks.ok.0)

pub put_in-requires-clause-place : goal.put_in-requires-clause-place
put_in-requires-clause-place g c =
    let l = c.loop-index in
    let more : 1024 * (l.index + 1) ≤ l.self-inside.len = omega (arith, c.loop-index-test.true, l.invariant.1) in
    let next = c.index_mut-in-loop-index.ensures.value in
    let here = c.index_mut-in-loop-index-2.ensures.value in
    omega (arith, one_short _ _ l.self-inside.blocks.items l.invariant.0 more next c.take_out-next.ensures.storage here)

pub put_in-requires-clause-room : goal.put_in-requires-clause-room
put_in-requires-clause-room g c =
    let l = c.loop-index in
    let more : 1024 * (l.index + 1) ≤ l.self-inside.len = omega (arith, c.loop-index-test.true, l.invariant.1) in
    let next = c.index_mut-in-loop-index.ensures.value in
    let here = c.index_mut-in-loop-index-2.ensures.value in
    let short = one_short _ _ l.self-inside.blocks.items l.invariant.0 more next c.take_out-next.ensures.storage here in
    omega (arith, short, roomy _ _ l.self-inside.blocks.items l.invariant.0 more next c.take_out-next.ensures.storage here)

pub loop-index-preserved : goal.loop-index-preserved
loop-index-preserved g c =
    let l = c.loop-index in
    let more : 1024 * (l.index + 1) ≤ l.self-inside.len = omega (arith, c.loop-index-test.true, l.invariant.1) in
    let next = c.index_mut-in-loop-index.ensures.value in
    let here = c.index_mut-in-loop-index-2.ensures.value in
    let out = c.take_out-next.ensures in
    let put = c.put_in.ensures in
    let sizes = sizes_as_before _ _ l.self-inside.blocks.items l.invariant.0 more next out.storage here put.storage in (
      goes_on _ _ l.self-inside.blocks.items l.invariant.0 more next out.storage here put.storage _ out.item out.items put.items,
      l.invariant.1,
      l.invariant.2,
      l.invariant.3,
      sizes ∙ l.invariant.4,
    )

pub returns-clause-item : goal.returns-clause-item
returns-clause-item g c =
    let short = subst (λ v. c.args.place < length v.items) (sym c.self.view_is) c.requires.place in
    let there = c.index_mut.ensures.value in
    rw (← c.self.view_is) (taken _ _ c.self.inside.blocks.items _ c.self.invariant short there _ c.take_out-item.ensures.item)

pub returns-clause-items : goal.returns-clause-items
returns-clause-items g c = c.loop-index.invariant.0.are

pub returns-clause-storage : goal.returns-clause-storage
returns-clause-storage g c =
    let short = subst (λ v. c.args.place < length v.items) (sym c.self.view_is) c.requires.place in
    let out = c.take_out-item in
    let there = c.index_mut.ensures.value in
    let sizes = sizes_stay _ _ c.self.inside.blocks.items _ c.self.invariant short there out.new.block out.ensures.storage in
    rw (c.loop-index.invariant.3, c.loop-index.invariant.4, sizes) (ap (λ v. v.storage) c.self.view_is)
