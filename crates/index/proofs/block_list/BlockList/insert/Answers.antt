use Rattle.std.proofs.Common.{◌/◌, ◌%◌}
use Rattle.index.proofs.Prelude.{◌*◌, ◌+◌, ◌<◌, ◌∙◌, ◌≡◌, ◌≤◌, ap, arith, insert, length, map, refl, subst, sym}
use Rattle.std.proofs.lemmas.List.{length-map}
use Rattle.index.specs.BlockList.{joined}
use Rattle.index.proofs.Blocks.{at_first, fits_in, is_block, length-joined, len, lie_still, put_in, roomy, sizes_stay, through}
use Rattle.index.proofs.block_list.BlockList.insert.Goals as goal

pub loop-self-init : goal.loop-self-init
loop-self-init g c =
    let inside = c.self.inside in
    let blocks = map (λ b. b.items) inside.blocks.items in
    let filled = c.self.invariant.filled in
    let old = ap (λ v. v.items) c.self.view_is in
    let within = subst (λ v. c.args.place ≤ length v.items) (sym c.self.view_is) c.requires.place in
    let room = subst (λ v. length v.items < v.capacity) (sym c.self.view_is) c.requires.room in
    let all = length-joined inside.len blocks filled in
    let place : 1024 * (c.args.place / 1024) + c.args.place % 1024 ≡ c.args.place = omega arith in (
      record {
        becomes =
            at_first inside.len blocks (c.args.place / 1024) (c.args.place % 1024) c.args.item filled
            (omega (arith, within, all, place)) ∙ ap (λ p. insert (joined blocks) p c.args.item) place
            ∙ ap (λ l. insert l c.args.place c.args.item) old;
        lie = c.self.invariant;
        room = omega (arith, room, all, length-map inside.blocks.items (λ b. b.items), inside.blocks.ok.0);
        begun = omega (arith, within, all, place);
        within = omega arith;
      },
      refl,
      refl,
      refl,
      refl,
    )

pub index-requires : goal.index-requires
index-requires g c =
    omega (
      arith,
      is_block _ _ _ _ c.loop-self.self-inside.blocks.items _ _ _ c.loop-self.invariant.0,
      c.loop-self.self-inside.blocks.ok.0,
    )

pub index_mut-requires : goal.index_mut-requires
index_mut-requires g c =
    omega (
      arith,
      is_block _ _ _ _ c.loop-self.self-inside.blocks.items _ _ _ c.loop-self.invariant.0,
      c.loop-self.self-inside.blocks.ok.0,
    )

pub push_through-item-requires-clause-full : goal.push_through-item-requires-clause-full
push_through-item-requires-clause-full g c =
    omega (
      arith,
      len _ _ _ _ c.loop-self.self-inside.blocks.items _ _ _ c.loop-self.invariant.0 c.index.result.now
          c.index.ensures,
      len _ _ _ _ c.loop-self.self-inside.blocks.items _ _ _ c.loop-self.invariant.0 c.index_mut.result.now
          c.index_mut.ensures.value,
      c.len.ensures,
      c.loop-self-test.true,
      c.index.result.now.ok.0,
    )

pub push_through-item-requires-clause-room : goal.push_through-item-requires-clause-room
push_through-item-requires-clause-room g c =
    roomy _ _ _ _ c.loop-self.self-inside.blocks.items _ _ _ c.loop-self.invariant.0 c.index_mut.result.now
    c.index_mut.ensures.value

pub loop-self-smaller : goal.loop-self-smaller
loop-self-smaller g c =
    omega (
      arith,
      is_block _ _ _ _ c.loop-self.self-inside.blocks.items _ _ _ c.loop-self.invariant.0,
      c.loop-self.self-inside.blocks.ok.0,
    )

pub loop-self-preserved : goal.loop-self-preserved
loop-self-preserved g c =
    let full : length c.index_mut.result.now.items ≡ 1024 =
    omega (
      arith,
      len _ _ _ _ c.loop-self.self-inside.blocks.items _ _ _ c.loop-self.invariant.0 c.index.result.now
          c.index.ensures,
      len _ _ _ _ c.loop-self.self-inside.blocks.items _ _ _ c.loop-self.invariant.0 c.index_mut.result.now
          c.index_mut.ensures.value,
      c.len.ensures,
      c.loop-self-test.true,
      c.index.result.now.ok.0,
    ) in (
      through _ _ _ _ c.loop-self.self-inside.blocks.items _ _ _ c.loop-self.invariant.0 c.index_mut.result.now
          c.index_mut.ensures.value c.push_through-item.new.block c.push_through-item.ensures.storage
          c.push_through-item.result full c.push_through-item.ensures.items,
      c.loop-self.invariant.1,
      c.loop-self.invariant.2,
      c.loop-self.invariant.3,
      sizes_stay _ _ _ _ c.loop-self.self-inside.blocks.items _ _ _ c.loop-self.invariant.0 c.index_mut.result.now
          c.index_mut.ensures.value c.push_through-item.new.block c.push_through-item.ensures.storage
          ∙ c.loop-self.invariant.4,
    )

pub index_mut-requires-2 : goal.index_mut-requires-2
index_mut-requires-2 g c =
    omega (
      arith,
      is_block _ _ _ _ c.loop-self.self-inside.blocks.items _ _ _ c.loop-self.invariant.0,
      c.loop-self.self-inside.blocks.ok.0,
    )

pub put_in-requires-clause-place : goal.put_in-requires-clause-place
put_in-requires-clause-place g c =
    fits_in _ _ _ _ c.loop-self.self-inside.blocks.items _ _ _ c.loop-self.invariant.0 c.index_mut-2.result.now
    c.index_mut-2.ensures.value

pub put_in-requires-clause-room : goal.put_in-requires-clause-room
put_in-requires-clause-room g c =
    omega (
      arith,
      len _ _ _ _ c.loop-self.self-inside.blocks.items _ _ _ c.loop-self.invariant.0 c.index.result.now
          c.index.ensures,
      len _ _ _ _ c.loop-self.self-inside.blocks.items _ _ _ c.loop-self.invariant.0 c.index_mut-2.result.now
          c.index_mut-2.ensures.value,
      c.len.ensures,
      c.loop-self-test.false,
      c.index.result.now.ok.0,
      c.index_mut-2.result.now.ok.0,
      roomy _ _ _ _ c.loop-self.self-inside.blocks.items _ _ _ c.loop-self.invariant.0 c.index_mut-2.result.now
          c.index_mut-2.ensures.value,
    )

pub overflow_add-self : goal.overflow_add-self
overflow_add-self g c = omega (arith, c.loop-self.invariant.0.room, c.loop-self.invariant.0.lie.few)

pub invariant_of-self : goal.invariant_of-self
invariant_of-self g c =
    let short : length c.index_mut-2.result.now.items < 1024 =
    omega (
      arith,
      len _ _ _ _ c.loop-self.self-inside.blocks.items _ _ _ c.loop-self.invariant.0 c.index.result.now
          c.index.ensures,
      len _ _ _ _ c.loop-self.self-inside.blocks.items _ _ _ c.loop-self.invariant.0 c.index_mut-2.result.now
          c.index_mut-2.ensures.value,
      c.len.ensures,
      c.loop-self-test.false,
      c.index.result.now.ok.0,
    ) in
    lie_still _ _ _ _ c.loop-self.self-inside.blocks.items _ _ _ c.loop-self.invariant.0 c.index_mut-2.result.now
    c.index_mut-2.ensures.value c.put_in.new.block c.put_in.ensures.storage short c.put_in.ensures.items

pub returns-clause-items : goal.returns-clause-items
returns-clause-items g c =
    put_in _ _ _ _ c.loop-self.self-inside.blocks.items _ _ _ c.loop-self.invariant.0 c.index_mut-2.result.now
    c.index_mut-2.ensures.value c.put_in.new.block c.put_in.ensures.storage c.put_in.ensures.items

pub returns-clause-storage : goal.returns-clause-storage
returns-clause-storage g c =
    rw (
      sizes_stay _ _ _ _ c.loop-self.self-inside.blocks.items _ _ _ c.loop-self.invariant.0 c.index_mut-2.result.now
          c.index_mut-2.ensures.value c.put_in.new.block c.put_in.ensures.storage,
      c.loop-self.invariant.3,
      c.loop-self.invariant.4,
    )
    (ap (λ v. v.storage) c.self.view_is)
