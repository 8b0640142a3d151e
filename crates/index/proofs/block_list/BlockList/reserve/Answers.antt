use Rattle.std.proofs.Common.{deque_capacity}
use Rattle.index.proofs.Prelude.{◌-◌, ◌<◌, ◌∙◌, ◌≡◌, ◌^◌, ap, arith, length, map, rules, sym}
use Rattle.std.proofs.lemmas.List.{length-map}
use Rattle.index.proofs.Blocks.{length-joined, lie_in_more}
use Rattle.index.proofs.block_list.BlockList.reserve.Goals as goal

pub overflow_sub-room : goal.overflow_sub-room
overflow_sub-room g c =
    let items = ap (λ v. length v.items) (sym c.self.view_is) ∙ length-joined _ _ c.self.invariant.filled in
    omega (arith, items, c.capacity.ensures.value, c.capacity.ensures.fits)

pub loop-preserved : goal.loop-preserved
loop-preserved g c =
    let lie = c.loop.invariant in
    let items = ap (λ v. length v.items) (sym c.self.view_is) ∙ length-joined _ _ c.self.invariant.filled in
    let capacity = ap (λ v. v.capacity) (sym c.self.view_is) in
    let few : length c.loop.self-inside.blocks.items < 2 ^ 22 =
    omega (
      arith,
      lie.3,
      c.if-saturating_sub-additional.false,
      items,
      capacity,
      c.loop-test.true,
      c.div_ceil-end.ensures,
      c.saturating_sub.ensures,
      c.capacity.ensures.value,
      c.loop.self-inside.blocks.ok.0,
    ) in
    let more =
    lie_in_more (λ b. b.items) deque_capacity c.loop.self-inside.len c.loop.self-inside.blocks.items
    c.in_ok-with_capacity.field-0 lie.0 few c.in_ok-with_capacity.ensures.items
    c.in_ok-with_capacity.ensures.capacity in
    let pushed = c.in_ok-push.ensures.items in (
      rw pushed more.0,
      lie.1,
      rw pushed (more.1 ∙ lie.2),
      omega (arith, c.in_ok-push.ensures.len, lie.3),
      λ none. absurd (omega (arith, none)),
    )

pub returns-then-saturating_sub-additional-clause-full : goal.returns-then-saturating_sub-additional-clause-full
returns-then-saturating_sub-additional-clause-full g c =
    let items = ap (λ v. length v.items) (sym c.self.view_is) ∙ length-joined _ _ c.self.invariant.filled in
    let capacity = ap (λ v. v.capacity) (sym c.self.view_is) in
    let full : c.args.self.now.capacity - length c.args.self.now.items < c.args.additional =
    omega (
      arith,
      items,
      capacity,
      c.if-saturating_sub-additional.true,
      c.saturating_sub.ensures,
      c.self.invariant.few,
      length-map c.self.inside.blocks.items (λ b. b.items),
      c.self.inside.blocks.ok.0,
    ) in
    search rules

pub returns-in_err-with_capacity-clause-full : goal.returns-in_err-with_capacity-clause-full
returns-in_err-with_capacity-clause-full g c =
    let items = ap (λ v. length v.items) (sym c.self.view_is) ∙ length-joined _ _ c.self.invariant.filled in
    let capacity = ap (λ v. v.capacity) (sym c.self.view_is) in
    let full : c.args.self.now.capacity - length c.args.self.now.items < c.args.additional =
    omega (
      arith,
      items,
      capacity,
      c.loop-test.true,
      c.div_ceil-end.ensures,
      c.saturating_sub.ensures,
      c.capacity.ensures.value,
    ) in
    search rules

pub returns-in_err-push-clause-full : goal.returns-in_err-push-clause-full
returns-in_err-push-clause-full g c =
    let items = ap (λ v. length v.items) (sym c.self.view_is) ∙ length-joined _ _ c.self.invariant.filled in
    let capacity = ap (λ v. v.capacity) (sym c.self.view_is) in
    let full : c.args.self.now.capacity - length c.args.self.now.items < c.args.additional =
    omega (
      arith,
      items,
      capacity,
      c.loop-test.true,
      c.div_ceil-end.ensures,
      c.saturating_sub.ensures,
      c.capacity.ensures.value,
    ) in
    search rules

pub returns-clause-ok : goal.returns-clause-ok
returns-clause-ok g c =
    let items = ap (λ v. length v.items) (sym c.self.view_is) ∙ length-joined _ _ c.self.invariant.filled in
    let capacity = ap (λ v. v.capacity) (sym c.self.view_is) in
    let loop = c.loop.invariant in
    let now = length-joined c.loop.self-inside.len (map (λ b. b.items) c.loop.self-inside.blocks.items) loop.0.filled in
    omega (
      arith,
      items,
      capacity,
      now,
      loop.1,
      loop.3,
      c.loop-test.false,
      c.div_ceil-end.ensures,
      c.saturating_sub.ensures,
      c.capacity.ensures.value,
      c.capacity.ensures.fits,
    )

pub returns-in_err-with_capacity-clause-still : goal.returns-in_err-with_capacity-clause-still
returns-in_err-with_capacity-clause-still g c = λ there.
    let items = ap (λ v. length v.items) (sym c.self.view_is) ∙ length-joined _ _ c.self.invariant.filled in
    let capacity = ap (λ v. v.capacity) (sym c.self.view_is) in
    absurd (omega (
      arith,
      there,
      items,
      capacity,
      c.loop-test.true,
      c.div_ceil-end.ensures,
      c.saturating_sub.ensures,
      c.capacity.ensures.value,
    ))

pub returns-in_err-push-clause-still : goal.returns-in_err-push-clause-still
returns-in_err-push-clause-still g c = λ there.
    let items = ap (λ v. length v.items) (sym c.self.view_is) ∙ length-joined _ _ c.self.invariant.filled in
    let capacity = ap (λ v. v.capacity) (sym c.self.view_is) in
    absurd (omega (
      arith,
      there,
      items,
      capacity,
      c.loop-test.true,
      c.div_ceil-end.ensures,
      c.saturating_sub.ensures,
      c.capacity.ensures.value,
    ))

pub returns-clause-still : goal.returns-clause-still
returns-clause-still g c = λ there.
    let items = ap (λ v. length v.items) (sym c.self.view_is) ∙ length-joined _ _ c.self.invariant.filled in
    let capacity = ap (λ v. v.capacity) (sym c.self.view_is) in
    let none : c.loop.counter ≡ 0 =
    omega (
      arith,
      there,
      items,
      capacity,
      c.loop-test.false,
      c.div_ceil-end.ensures,
      c.saturating_sub.ensures,
      c.capacity.ensures.value,
    ) in
    rw (c.loop.invariant.4 none) c.self.view_is
