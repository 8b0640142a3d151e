-- A transaction of no rows, behind one that is done, leaves what was. Controls of wrong bodies read this.
use Rattle.std.proofs.Common.{List, [], arith}
use Rattle.sqlite.specs.State.{State, HasCleanDisk, Survives}
use Rattle.sqlite.proofs.StateLemmas.{survives_then}
use Rattle.ledger.specs.declared.rows.Change.{Change}
use Rattle.ledger.specs.Rows.{Content}
use Rattle.sql_keep.specs.StoreContent.{Holds, IsContent}
use Rattle.keep.specs.Content.{with_changes}
use Rattle.sql_keep.specs.Transactions.{AreChanged, Committed, IsSettled}

pub put_then_nothing : (old mid new : State) (changes : List Change) → Committed old mid changes → Committed mid new []
    → Committed old new changes
put_then_nothing old mid new changes first second =
    record {
      is_open = second.is_open;
      settled = second.settled;
      is = λ x held. second.is (with_changes changes x) (first.is x held);
    }

pub survives_nothing : (old mid new : State) (changes : List Change) → (HasCleanDisk mid → Committed old mid changes)
    → Survives old mid (AreChanged old.now changes) → Survives mid new (AreChanged mid.now [])
    → Survives old new (AreChanged old.now changes)
survives_nothing old mid new changes first before behind =
    survives_then old mid new _ _ _ (λ _ trees is. is)
    (λ clean trees is x held. is (with_changes changes x) ((first (omega (arith, clean, behind.clean))).is x held)) before behind

pub made_then_nothing : (x : Content) (mid new : State) → IsSettled (λ db. Holds db x) mid → Committed mid new []
    → IsSettled (λ db. Holds db x) new
made_then_nothing x mid new first second = record {
  is_open = second.is_open;
  settled = second.settled;
  is = second.is x first.is;
}

pub survives_made : (x : Content) (old mid new : State) → (HasCleanDisk mid → IsSettled (λ db. Holds db x) mid)
    → Survives old mid (λ trees. IsContent trees x) → Survives mid new (AreChanged mid.now [])
    → Survives old new (λ trees. IsContent trees x)
survives_made x old mid new first before behind =
    survives_then old mid new _ _ _ (λ _ trees is. is)
    (λ clean trees is. is x (first (omega (arith, clean, behind.clean))).is) before behind

-- what a proof reads where nothing more is put in
pub ruleset nothing_more = (put_then_nothing, survives_nothing, made_then_nothing, survives_made)
