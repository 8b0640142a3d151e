-- The rows of the next ledger, by the changes of a plan.
use Rattle.std.proofs.Common.{◌≡◌, [], ◌∷◌, List, subst, sym}
use Rattle.escrow.specs.Codes.{IsKey}
use Rattle.words.specs.Spelling.{IsInRange}
use Rattle.ledger.specs.Changes.{put_content}
use Rattle.ledger.specs.Good.{Good}
use Rattle.ledger.specs.Ledger.{Ledger}
use Rattle.ledger.specs.Next.{accept}
use Rattle.book.specs.Plans.{Fits, PlanView}
use Rattle.ledger.specs.Rows.{Content, IsRowsOf}
use Rattle.ledger.specs.Tables.{rows_among}
use Rattle.ledger.specs.declared.rows.Change.{Change}
use Rattle.keep.specs.Content.{with_changes}
use Rattle.ledger.proofs.Goodness.{good_accept}
use Rattle.ledger.proofs.EqualRows.{a_content}
use Rattle.ledger.proofs.Runs.{no_key}
use Rattle.desk.specs.Desk.{IsStored, LeavesEither}

-- the ledger after the plan is good
pub good_next : (A : Ledger) (plan : PlanView) → Good A → IsKey plan.request.key → IsInRange plan.request.command
    → Fits A plan → Good (accept A plan.request)
good_next A plan g key range fits = good_accept A plan.request g key range (no_key _ fits.accepted.0) fits.accepted.1

-- the plan's rows, put into those of the ledger, are those of the next one
pub next_rows : (A : Ledger) (plan : PlanView) (C : Content) → Good A → IsKey plan.request.key
    → IsInRange plan.request.command → Fits A plan → IsRowsOf A C
    → IsRowsOf (accept A plan.request) (put_content plan.changes C)
next_rows A plan C g key range fits x =
    let D : (D : Content) × IsRowsOf (accept A plan.request) D =
    a_content (accept A plan.request) (good_next A plan g key range fits) in
    subst (IsRowsOf (accept A plan.request)) (sym (fits.changes.suffice C D.0 x D.1)) D.1

-- a commit that fails leaves the rows of the ledger or of the next one
pub leaves_either : (A : Ledger) (plan : PlanView) (changes : List Change) → Good A → IsKey plan.request.key
    → IsInRange plan.request.command → Fits A plan
    → rows_among changes ≡ plan.changes → (holds : Content → Type 0) (old new : List Content → Type 0) → IsStored holds old A
    → ((x : Content) → holds x → old (x ∷ []) → new (x ∷ with_changes changes x ∷ []))
    → LeavesEither new A (accept A plan.request)
leaves_either A plan changes g key range fits same holds old new stored either = record {
  good_before = g;
  good_after = good_next A plan g key range fits;
  before = stored.rows;
  after = with_changes changes stored.rows;
  are_before = stored.are_rows;
  are_after =
      subst (λ rows. IsRowsOf (accept A plan.request) (put_content rows stored.rows)) (sym same)
      (next_rows A plan stored.rows g key range fits stored.are_rows);
  either = either stored.rows stored.held stored.alone;
}

-- a commit keeps the rows of the next ledger
pub stored_next : (A B : Ledger) (plan : PlanView) (changes : List Change) → Good A → IsKey plan.request.key
    → IsInRange plan.request.command → Fits A plan
    → rows_among changes ≡ plan.changes → B ≡ accept A plan.request
    → (holds holds_new : Content → Type 0) (old new : List Content → Type 0) → IsStored holds old A
    → ((x : Content) → holds x → holds_new (with_changes changes x)) → ((x : Content) → holds_new x → new (x ∷ []))
    → IsStored holds_new new B
stored_next A B plan changes g key range fits same is_next holds holds_new old new stored put alone = record {
  rows = with_changes changes stored.rows;
  are_rows = subst (λ L. IsRowsOf L (with_changes changes stored.rows)) (sym is_next)
      (subst (λ rows. IsRowsOf (accept A plan.request) (put_content rows stored.rows)) (sym same)
      (next_rows A plan stored.rows g key range fits stored.are_rows));
  held = put stored.rows stored.held;
  alone = alone (with_changes changes stored.rows) (put stored.rows stored.held);
}
