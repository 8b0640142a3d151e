use Rattle.ledger.proofs.Prelude.{[], ◌++◌, ◌+◌, ◌<◌, ◌∙◌, ◌∷◌, ◌≡◌, LineCells, List, Order, ap, arith, drop, drop-drop}
use Rattle.ledger.proofs.Prelude.{flat_map, get_or, length, length-drop, line_cells, lines_from, map, map-append}
use Rattle.ledger.proofs.Prelude.{order_lines, subst, sym, ℕ}
use Rattle.book.proofs.Prelude.{BeginsOther, Head, IsLineTold, OrderEntry, head_of, order_of}
use Rattle.ledger.specs.declared.rows.LineRow.{LineRow}
use Rattle.book.proofs.LineGroups.{Tail, drop-step, left_step, lines_step, none_left, tail-first}
use Rattle.ledger.proofs.Lists.{zip-drop, zip-length, take-step}
use Rattle.ledger.proofs.TestResults.{passed_up}
use Rattle.book.proofs.book.tables.group.group.Goals as goal

pub behind-lines_left-requires : goal.behind-lines_left-requires
behind-lines_left-requires c = grind (arith, (zip-length IsLineTold c.args.lines.now c.args.rows.now c.requires))

pub lines_of_order-requires : goal.lines_of_order-requires
lines_of_order-requires c = grind (arith, (zip-drop IsLineTold c.loop-head.start c.args.lines.now c.args.rows.now c.requires))

-- the heads that are left begin with this one
left_here : (heads : List Head) (i : ℕ) (head : Head) (rows : List LineCells) → i < length heads
    → head ≡ get_or heads i head → Tail (drop i heads) rows → Tail (head ∷ drop (i + 1) heads) rows
left_here heads i head rows within is t =
    subst (λ hs. Tail hs rows) (drop-step heads i head within ∙ ap (λ (h : Head). h ∷ drop (i + 1) heads) (sym is)) t

pub returns-in_err-own-clause-damaged : goal.returns-in_err-own-clause-damaged
returns-in_err-own-clause-damaged c =
    passed_up c.from_residual.result c.in_err-own.field-0.0 _ c.from_residual.ensures.1 (λ is orders sorted tell.
    let head = c.head-item.result in
    let left =
    left_here c.args.heads.now c.loop-head.head-index head (map line_cells (drop c.loop-head.start c.args.rows.now))
    c.loop-head-test.true c.head-item.is (c.loop-head.invariant.left orders sorted tell) in
    let first =
    tail-first head (drop (c.loop-head.head-index + 1) c.args.heads.now)
    (map line_cells (drop c.loop-head.start c.args.rows.now)) left in
    c.in_err-own.ensures.damaged is first.own first.rest first.others
    (first.lines_are ∙ ap (map line_cells) (sym c.behind-rows_left.ensures)))

pub returns-then-start-rows-clause-damaged : goal.returns-then-start-rows-clause-damaged
returns-then-start-rows-clause-damaged c _ orders sorted tell =
    grind (
      arith,
      (none_left c.args.heads.now c.loop-head.head-index c.args.rows.now c.loop-head.start c.loop-head-test.false
          c.loop-head.invariant.within c.if-start-rows.true (c.loop-head.invariant.left orders sorted tell)),
    )

pub loop-head-preserved : goal.loop-head-preserved
loop-head-preserved c =
    let head = c.head-item.result in
    let own = c.in_ok-own.own.items in
    let i = c.loop-head.head-index in
    let start = c.loop-head.start in
    let rows = drop start c.args.rows.now in
    let same = c.behind-rows_left.ensures in
    let told =
    subst (λ (rows : List LineRow).
    lines_from head.number 1 own ++ map line_cells (drop (length own) rows) ≡ map line_cells rows) same
    c.in_ok-own.ensures.told in
    let end = subst (λ (rows : List LineRow). BeginsOther head.number (drop (length own) rows)) same c.in_ok-own.ensures.end in
    let further : drop (length own) rows ≡ drop (start + c.len-start.result) c.args.rows.now =
    drop-drop (length own) start c.args.rows.now ∙ ap (λ k. drop k c.args.rows.now) (omega arith) in
    let order : ℕ × OrderEntry = (
      head.number,
      record {
        kind = head.kind;
        until = head.until;
        state = head.state;
        firm = head.firm;
        lines = c.in_ok-own.own;
      },
    ) in
    let pushed : map order_of c.push.new.self.items ≡ map order_of c.loop-head.orders.items ++ order_of order ∷ [] =
    ap (map order_of) c.in-Ok-push.ensures.items ∙ map-append order_of c.loop-head.orders.items (order ∷ []) in
    record {
      within =
          let own_within = c.in_ok-own.ensures.within in
          let left = ap (λ (rows : List LineRow). length rows) same in
          let long = length-drop start c.args.rows.now in
          let before = c.loop-head.invariant.within in
          omega arith;
      heads = ap (map head_of) pushed ∙ map-append head_of (map order_of c.loop-head.orders.items) (order_of order ∷ [])
          ∙ ap (λ (hs : List Head). hs ++ head_of (order_of order) ∷ []) c.loop-head.invariant.heads
          ∙ sym (take-step c.args.heads.now i head c.loop-head-test.true c.head-item.is);
      lines = subst (λ (os : List Order).
          flat_map order_lines os ++ map line_cells (drop (start + c.len-start.result) c.args.rows.now)
          ≡ map line_cells c.args.rows.now) (sym pushed)
          (subst (λ (left : List LineRow).
          flat_map order_lines (map order_of c.loop-head.orders.items ++ order_of order ∷ []) ++ map line_cells left
          ≡ map line_cells c.args.rows.now) further
          (lines_step (map order_of c.loop-head.orders.items) (order_of order) (map line_cells (drop (length own) rows))
          (map line_cells rows) (map line_cells c.args.rows.now) c.loop-head.invariant.lines
          told));
      left = λ orders sorted tell. subst (λ (left : List LineRow).
          Tail (drop (i + 1) c.args.heads.now) (map line_cells left)) further
          (left_step head (drop (i + 1) c.args.heads.now) own rows told end
          (left_here c.args.heads.now i head (map line_cells rows) c.loop-head-test.true c.head-item.is
          (c.loop-head.invariant.left orders sorted tell)));
    }
