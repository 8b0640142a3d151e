use Rattle.ledger.proofs.Prelude.{[], ◌∷◌, None, Some, Refusal, ap, inl, inr, is_some, no_field, refl, sym, true≢false}
use Rattle.book.proofs.CheckAnswers.{fails_with, cut_short, full_decides, go_on, moving_decides, no}
use Rattle.book.proofs.FieldRows.{moved_found}
use Rattle.book.proofs.RunningNumbers.{grants, move_granted, refuses}
use Rattle.ledger.proofs.Steps.{moves_alone}
use Rattle.book.specs.inner.Checking.{bound_checks}
use Rattle.book.proofs.book.Book.check_moving.Goals as goal

pub returns-then-is_full : goal.returns-then-is_full
returns-then-is_full c k is = full_decides c.args.self.now.ledger k (ap is_some is) (c.is_full.ensures.0 c.if-is_full.true)

pub returns-in_err-field : goal.returns-in_err-field
returns-in_err-field c k is =
    let A = c.args.self.now.ledger in
    let n = c.args.name.now in
    let w = c.args.way in
    let q = c.args.qty in
    let x = c.in_err-field.field-0.0 in
    fails_with _ _ c.from_residual.result x c.from_residual.ensures.1
    (moving_decides A k n w q (Some x) is (no c.is_full.ensures c.if-is_full.false) c.in_err-field.ensures.good
    (cut_short (no_field A n 0 ∷ []) (bound_checks w A n q 0) x c.in_err-field.ensures.found))

pub returns-in-Ok : goal.returns-in-Ok
returns-in-Ok c k is =
    let A = c.args.self.now.ledger in
    let n = c.args.name.now in
    let w = c.args.way in
    let q = c.args.qty in
    let f = c.in_ok-field.field in
    let up = c.in_ok-field.ensures.up_to_date in
    let found = c.in_ok-field.ensures.found in (
      moving_decides A k n w q None is (no c.is_full.ensures c.if-is_full.false) c.in_ok-field.ensures.good
          (go_on (no_field A n 0 ∷ []) (bound_checks w A n q 0) None found.0
          (inr (grants A n f w q up found.1 (move_granted f.quantity w q (c.in-Ok.ensures.granted.0 refl)), refl))),
      (moved_found A k n w q f c.at_once.new.self is up found.1 c.in-Ok.ensures.ok, (moves_alone k (n, w, q) is).unordered, is),
    )

pub returns-in-Err : goal.returns-in-Err
returns-in-Err c k is =
    let A = c.args.self.now.ledger in
    let n = c.args.name.now in
    let w = c.args.way in
    let q = c.args.qty in
    let f = c.in_ok-field.field in
    let found = c.in_ok-field.ensures.found in
    moving_decides A k n w q (Some (c.refusal_of.result, 0)) is (no c.is_full.ensures c.if-is_full.false)
    c.in_ok-field.ensures.good
    (go_on (no_field A n 0 ∷ []) (bound_checks w A n q 0) (Some (c.refusal_of.result, 0)) found.0
    (inl (
      refuses A n f w q c.in_ok-field.ensures.good c.in_ok-field.ensures.up_to_date found.1
          (λ safe. true≢false (sym (c.in-Err.ensures.granted.1 safe.1))),
      ap (λ (r : Refusal). Some (r, 0)) (c.refusal_of.ensures w c.in-Err.ensures.bound),
    )))
