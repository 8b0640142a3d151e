use Rattle.ledger.proofs.Prelude.{◌+◌, ◌<◌, ◌≡◌, ◌≤◌, List, OrderCells, arith, get_or, length, map, refl, set, subst, sym, ℕ}
use Rattle.ledger.specs.declared.rows.FirmRow.{FirmRow}
use Rattle.book.proofs.Prelude.{Head, head_row}
use Rattle.book.proofs.Marks.{MarkedSoFar, all_marked, all_named, step_if_named, step_if_unnamed}
use Rattle.ledger.proofs.TestResults.{true_not_false}
use Rattle.book.proofs.book.tables.marks.mark.Goals as goal
use Rattle.book.proofs.book.tables.marks.mark.Goals.{then-is_named, else-is_named}

pub loop-head-init : goal.loop-head-init
loop-head-init c = record { within = omega arith; same = refl; marked = refl; left = λ t. t }

pub loop-head-preserved : goal.loop-head-preserved
loop-head-preserved c =
    let cells : List OrderCells = map head_row c.args.heads.now in
    let heads : List Head = c.loop-head.heads in
    let i : ℕ = c.loop-head.head-index in
    let rows : List FirmRow = c.args.rows.now in
    let next : ℕ = c.loop-head.next in
    let head : Head = get_or heads i c.head-item.result in
    let new : Head = record head { firm = c.is_of-is_named.result } in
    let within : i < length heads = omega arith in
    elim c.if-is_named.branch [
      | then-is_named w ↦ subst (MarkedSoFar cells (set heads i new) (i + 1) rows) (sym w.next-is)
          (step_if_named cells heads i c.head-item.result new rows next c.loop-head.invariant within refl
          w.if-is_named.true (c.is_of-is_named.ensures.0 w.if-is_named.true))
      | else-is_named w ↦ subst (MarkedSoFar cells (set heads i new) (i + 1) rows) (sym w.next-is)
          (step_if_unnamed cells heads i c.head-item.result new rows next c.loop-head.invariant within refl
          w.if-is_named.false (λ named. true_not_false (c.is_of-is_named.ensures.1 named) w.if-is_named.false))
    ]

pub returns-clause-marked : goal.returns-clause-marked
returns-clause-marked c t =
    let past : length c.loop-head.heads ≤ c.loop-head.head-index = omega arith in
    let all : c.loop-head.next ≡ length c.args.rows.now = grind arith in
    all_marked (map head_row c.args.heads.now) c.loop-head.heads c.loop-head.head-index c.args.rows.now c.loop-head.next
    c.loop-head.invariant past all

pub returns-clause-damaged : goal.returns-clause-damaged
returns-clause-damaged c less heads sorted same rows = grind (arith, all_named)
