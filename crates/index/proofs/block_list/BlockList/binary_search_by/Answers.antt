use Rattle.std.proofs.Common.{of_calls}
use Rattle.std.proofs.lemmas.Fn.{called}
use Rattle.index.proofs.Prelude.{arith, refl, sym, ◌∙◌}
use Rattle.index.proofs.Search.{answered, behind, found, in_front}
use Rattle.index.proofs.block_list.BlockList.binary_search_by.Goals as goal

pub loop-low-preserved-in-Less : goal.loop-low-preserved-in-Less
loop-low-preserved-in-Less g c = (
  omega arith,
  omega arith,
  search of_calls,
  λ ord h.
      let before = c.loop-low.invariant.3 ord h in
      let now = answered g.F.FnMut ord _ _ _ _ (called g.F.FnMut c.f.ensures refl) before.0 in (
        now.1,
        behind ord c.args.self.now.items c.loop-low.low c.loop-low.high _ before.1 c.get.result.now c.get.ensures
            (sym now.0 ∙ c.in-Less.is),
      ),
)

pub loop-low-preserved : goal.loop-low-preserved
loop-low-preserved g c = (
  omega arith,
  omega arith,
  search of_calls,
  λ ord h.
      let before = c.loop-low.invariant.3 ord h in
      let now = answered g.F.FnMut ord _ _ _ _ (called g.F.FnMut c.f.ensures refl) before.0 in (
        now.1,
        in_front ord c.args.self.now.items c.loop-low.low c.loop-low.high _ before.1 c.get.result.now c.get.ensures
            (sym now.0 ∙ c.in-Greater.is),
      ),
)

pub returns-in-Equal-clause-position : goal.returns-in-Equal-clause-position
returns-in-Equal-clause-position g c = λ ord h.
    let now = answered g.F.FnMut ord _ _ _ _ (called g.F.FnMut c.f.ensures refl) (c.loop-low.invariant.3 ord h).0 in
    found ord c.args.self.now.items _ c.get.result.now c.get.ensures (sym now.0 ∙ c.in-Equal.is)
