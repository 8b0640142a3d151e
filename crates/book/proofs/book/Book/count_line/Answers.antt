use Rattle.book.proofs.Prelude.{Counts, LieWithin, field_of, line_seen, lines_before, step_seen, FieldEntry}
use Rattle.ledger.specs.declared.order.Line.{Line}
use Rattle.ledger.proofs.Prelude.{Name, Option, [], ap, changes_stock, insert_entry, name_cmp, option_copied, refl}
use Rattle.ledger.proofs.Prelude.{share_before, share_step, slice_get, subst, sym, ◌∙◌, ◌∷◌, ◌≡◌, Ledger, ShareStep}
use Rattle.ledger.proofs.Prelude.{Step, false, true}
use Rattle.book.proofs.ChangedFields.{becoming_is, line_counted, line_skipped, on_ok}
use Rattle.book.proofs.book.Book.count_line.Goals as goal

pub returns-then-not-changes_stock : goal.returns-then-not-changes_stock
returns-then-not-changes_stock c nr =
    let s : Step = step_seen (option_copied c.args.before) c.args.after.now in
    let old = slice_get (lines_before (option_copied c.args.before)) c.args.place in let l = c.args.line.now in
    let is : changes_stock s (line_seen nr old l) ≡ false =
    ap (λ (x : Option Line). changes_stock s (line_seen nr x l)) (sym c.line_before-old.ensures)
    ∙ sym (c.changes_stock.ensures nr) ∙ c.if-not-changes_stock.true in
    line_skipped c.args.self.now.ledger (share_step s (line_seen nr old l)) c.args.fields.now.entries is
    (c.requires.may nr).2.alike.0

pub with_share-entry-requires-clause-within : goal.with_share-entry-requires-clause-within
with_share-entry-requires-clause-within c =
    let A : Ledger = c.args.self.now.ledger in
    let s : Step = step_seen (option_copied c.args.before) c.args.after.now in
    let x : ShareStep =
    share_step s
    (line_seen 0 (slice_get (lines_before (option_copied c.args.before)) c.args.place) c.args.line.now) in
    let v = c.field_so_far-entry.result in let may = c.requires.may 0 in
    let before = c.share_before-counted.ensures.share c.args.after.now.0 ∙ ap (share_before s.before) c.line_before-old.ensures in
    let counts = subst (λ (n : Name). Counts A may.0 (n, v)) c.name-name.ensures (c.field_so_far-entry.ensures may.0 may.1) in
    rw (before, c.share_of-counts.ensures.share)
    (subst (LieWithin v.quantity.lo v.quantity.hi) (sym (becoming_is A may.0 x v counts))
    (may.2.within (x ∷ []) [] refl (field_of (x.name, v)) counts.there))

pub returns : goal.returns
returns c = on_ok c.put.result (λ put nr.
    let A : Ledger = c.args.self.now.ledger in
    let s : Step = step_seen (option_copied c.args.before) c.args.after.now in
    let x : ShareStep =
    share_step s
    (line_seen nr (slice_get (lines_before (option_copied c.args.before)) c.args.place) c.args.line.now) in
    let v = c.field_so_far-entry.result in
    let is : x.changes ≡ true =
    ap (λ (y : Option Line). changes_stock s (line_seen nr y c.args.line.now)) (sym c.line_before-old.ensures)
    ∙ sym (c.changes_stock.ensures nr) ∙ c.if-not-changes_stock.false in
    let before = c.share_before-counted.ensures.share c.args.after.now.0 ∙ ap (share_before s.before) c.line_before-old.ensures in
    let new : FieldEntry = record { start = v.start; quantity = c.with_share-entry.result } in
    line_counted A x v c.with_share-entry.result c.args.fields.now.entries c.put.new.fields.entries is
    (λ done counts. subst (λ (n : Name). Counts A done (n, v)) c.name-name.ensures (c.field_so_far-entry.ensures done counts))
    (rw (before, c.share_of-counts.ensures.share) at c.with_share-entry.ensures)
    (put ∙ ap (λ (n : Name). insert_entry name_cmp c.args.fields.now.entries n new) c.name-name.ensures)) c.put.ensures
