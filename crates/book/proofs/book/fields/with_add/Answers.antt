use Rattle.ledger.proofs.Prelude.{arith, ints, refl}
use Rattle.book.proofs.book.fields.with_add.Goals as goal

pub overflow_sub-inf : goal.overflow_sub-inf
overflow_sub-inf c = omega (arith, ints)

pub restored-requires : goal.restored-requires
restored-requires c = (omega (arith, ints), omega (arith, ints), omega (arith, ints), omega (arith, ints))

pub returns : goal.returns
returns c =
    rw c.restored.ensures (record {
      lo = refl;
      hi = refl;
      value = omega (arith, ints);
      takes = omega (arith, ints);
      adds = omega (arith, ints);
    })
