-- Where two rows that are put in have one key, the later one alone may stand at the place of the earlier.
use Rattle.std.proofs.Common.{◌≡◌, ◌∙◌, ℕ, zero, suc, List, [], ◌∷◌, ◌++◌, All, Equal, Less, ap, arith, inl, inr}
use Rattle.std.proofs.Common.{length, refl, set, subst, sym}
use Rattle.std.specs.List.{AllWithin}
use Rattle.std.proofs.lemmas.Cmp.{alike_right}
use Rattle.std.proofs.lemmas.List.Elements.{All-append}
use Rattle.std.specs.declared.cmp.Ordering.{Ordering}
use Rattle.std.specs.declared.cmp.Ordering.TheVariants.{Greater}
use Rattle.std.specs.Cmp.{IsTotalOrder}
use Rattle.std.specs.Ordering.{ordering_reverse}
use Rattle.ledger.specs.Changes.{put_row}
use Rattle.ledger.proofs.Puts.{put_in_turn}
use Rattle.ledger.specs.Rows.{Content, DeskCells, FieldCells, desk_cmp, field_cmp}
use Rattle.ledger.specs.Tables.{desk_cells, field_cells, rows_among}
use Rattle.ledger.specs.declared.rows.Change.{Change}
use Rattle.ledger.specs.declared.rows.Change.TheVariants as change
use Rattle.keep.specs.Content.{IsTheRow, with_changes}
use Rattle.keep.specs.declared.table_row.TableName.TheVariants as table
use Rattle.keep.proofs.KeyOrders.{key_cmp_total}
use Rattle.keep.proofs.PlainChanges.{one_first, one_later, put_first}
use Rattle.desk.specs.Deferred.{IsLastOfKey, IsOfOneKey, IsTakenIn}
use Rattle.desk.proofs.Batches.{desk_joined}

-- ---- the rows of one table

module _ {R : Type 0} (cmp : R → R → Ordering) (o : IsTotalOrder cmp) where
  turned : (a b : R) → cmp a b ≡ Less → cmp b a ≡ Greater
  turned a b e = o.antisymm b a ∙ ap ordering_reverse e

  -- putting a row in after one with its key is putting it in
  pub put_over : (row old : R) (xs : List R) → cmp row old ≡ Equal
      → put_row cmp row (put_row cmp old xs) ≡ put_row cmp row xs
  put_over row old [] e = rw e refl
  put_over row old (x ∷ xs) e = by (cmp old x) refl (put_over row old xs e)
    where
      by : (r : Ordering) → cmp old x ≡ r → put_row cmp row (put_row cmp old xs) ≡ put_row cmp row xs
          → put_row cmp row (put_row cmp old (x ∷ xs)) ≡ put_row cmp row (x ∷ xs)
      by Less is more = let also : cmp row x ≡ Less = o.congr row old x e ∙ is in simp (is, also, e)
      by Equal is more = let also : cmp row x ≡ Equal = o.congr row old x e ∙ is in simp (is, also, e)
      by Greater is more =
          let also : cmp row x ≡ Greater = o.congr row old x e ∙ is in simp (is, also) (ap (λ ys. x ∷ ys) more)

  lower_and_higher : (a b : R) (xs : List R) → cmp a b ≡ Less
      → put_row cmp a (put_row cmp b xs) ≡ put_row cmp b (put_row cmp a xs)
  lower_and_higher a b [] e = simp (e, turned a b e)
  lower_and_higher a b (x ∷ xs) e = by (cmp b x) (cmp a x) refl refl (lower_and_higher a b xs e)
    where
      by : (r s : Ordering) → cmp b x ≡ r → cmp a x ≡ s
          → put_row cmp a (put_row cmp b xs) ≡ put_row cmp b (put_row cmp a xs)
          → put_row cmp a (put_row cmp b (x ∷ xs)) ≡ put_row cmp b (put_row cmp a (x ∷ xs))
      by Less s is also more = let low : cmp a x ≡ Less = o.trans a b x e is in simp (e, turned a b e, is, low)
      by Equal s is also more =
          let low : cmp a x ≡ Less = sym (alike_right o b x a is) ∙ e in simp (e, turned a b e, is, low)
      by Greater Less is also more = simp (turned a b e, is, also)
      by Greater Equal is also more = simp (turned a b e, is, also)
      by Greater Greater is also more = simp (is, also) (ap (λ ys. x ∷ ys) more)

  -- rows with different keys go in in either order
  pub either_order : (a b : R) (xs : List R) → ¬ (cmp a b ≡ Equal)
      → put_row cmp a (put_row cmp b xs) ≡ put_row cmp b (put_row cmp a xs)
  either_order a b xs apart = by (cmp a b) refl
    where
      by : (r : Ordering) → cmp a b ≡ r → put_row cmp a (put_row cmp b xs) ≡ put_row cmp b (put_row cmp a xs)
      by Less is = lower_and_higher a b xs is
      by Equal is = absurd (apart is)
      by Greater is = sym (lower_and_higher b a xs (o.antisymm b a ∙ ap ordering_reverse is))

-- ---- the rows of all tables

-- the content with one row more put in
abbrev put : Change → Content → Content
put row x = with_changes (row ∷ []) x

over : (row old : Change) (x : Content) → IsOfOneKey row old → put row (put old x) ≡ put row x
over (change.Desk row) (change.Desk old) x e =
    ap (λ (rows : List DeskCells). record x { desk = rows })
    (put_over desk_cmp (key_cmp_total table.Desk) (desk_cells row) (desk_cells old) x.desk e)
over (change.Field row) (change.Field old) x e =
    ap (λ (rows : List FieldCells). record x { fields = rows })
    (put_over field_cmp (key_cmp_total table.Field) (field_cells row) (field_cells old) x.fields e)
over (change.Desk row) (change.Field old) x e = absurd e
over (change.Desk row) (change.Move old) x e = absurd e
over (change.Desk row) (change.Order old) x e = absurd e
over (change.Desk row) (change.Line old) x e = absurd e
over (change.Desk row) (change.Kept old) x e = absurd e
over (change.Desk row) (change.Firm old) x e = absurd e
over (change.Field row) (change.Desk old) x e = absurd e
over (change.Field row) (change.Move old) x e = absurd e
over (change.Field row) (change.Order old) x e = absurd e
over (change.Field row) (change.Line old) x e = absurd e
over (change.Field row) (change.Kept old) x e = absurd e
over (change.Field row) (change.Firm old) x e = absurd e
over (change.Move row) old x e = absurd e
over (change.Order row) old x e = absurd e
over (change.Line row) old x e = absurd e
over (change.Kept row) old x e = absurd e
over (change.Firm row) old x e = absurd e

-- a row that may take the place of one goes in before or after any row with another key
beside : (row one other : Change) (x : Content) → IsOfOneKey row one → ¬ IsOfOneKey row other
    → put row (put other x) ≡ put other (put row x)
beside (change.Desk row) one (change.Desk other) x e apart =
    ap (λ (rows : List DeskCells). record x { desk = rows })
    (either_order desk_cmp (key_cmp_total table.Desk) (desk_cells row) (desk_cells other) x.desk apart)
beside (change.Field row) one (change.Field other) x e apart =
    ap (λ (rows : List FieldCells). record x { fields = rows })
    (either_order field_cmp (key_cmp_total table.Field) (field_cells row) (field_cells other) x.fields apart)
beside (change.Desk row) one (change.Field other) x e apart = refl
beside (change.Desk row) one (change.Move other) x e apart = refl
beside (change.Desk row) one (change.Order other) x e apart = refl
beside (change.Desk row) one (change.Line other) x e apart = refl
beside (change.Desk row) one (change.Kept other) x e apart = refl
beside (change.Desk row) one (change.Firm other) x e apart = refl
beside (change.Field row) one (change.Desk other) x e apart = refl
beside (change.Field row) one (change.Move other) x e apart = refl
beside (change.Field row) one (change.Order other) x e apart = refl
beside (change.Field row) one (change.Line other) x e apart = refl
beside (change.Field row) one (change.Kept other) x e apart = refl
beside (change.Field row) one (change.Firm other) x e apart = refl
beside (change.Move row) one other x e apart = absurd e
beside (change.Order row) one other x e apart = absurd e
beside (change.Line row) one other x e apart = absurd e
beside (change.Kept row) one other x e apart = absurd e
beside (change.Firm row) one other x e apart = absurd e

beside_all : (row one : Change) (others : List Change) (x : Content) → IsOfOneKey row one
    → AllWithin (λ other. ¬ IsOfOneKey row other) others 0 (length others)
    → put row (with_changes others x) ≡ with_changes others (put row x)
beside_all row one [] x e apart = refl
beside_all row one (other ∷ others) x e apart =
    ap (λ (y : Content). put row y) (put_first other others x)
    ∙ beside_all row one others (put other x) e (λ k d low high. apart (suc k) d (omega arith) (omega arith))
    ∙ ap (λ (y : Content). with_changes others y)
    (beside row one other x e (apart zero other (omega arith) (omega arith)))
    ∙ sym (put_first other others (put row x))

-- the place of the last row with its key will do, instead of that behind all
put_in_place : (row : Change) (kept : List Change) (place : ℕ) (x : Content) → IsLastOfKey row kept place
    → with_changes (set kept place row) x ≡ with_changes (row ∷ []) (with_changes kept x)
put_in_place row [] place x is = absurd (omega (arith, is.within))
put_in_place row (old ∷ kept) zero x is =
    put_first row kept x
    ∙ ap (λ (y : Content). with_changes kept y) (sym (over row old x (is.here old)))
    ∙ sym (beside_all row old kept (put old x) (is.here old)
    (λ k d low high. is.last (suc k) d (omega arith) (omega arith)))
    ∙ ap (λ (y : Content). put row y) (sym (put_first old kept x))
put_in_place row (old ∷ kept) (suc place) x is =
    put_first old (set kept place row) x
    ∙ put_in_place row kept place (put old x) (record {
      within = omega (arith, is.within);
      here = is.here;
      last = λ k d low high. is.last (suc k) d (omega arith) (omega arith);
    })
    ∙ ap (λ (y : Content). put row y) (sym (put_first old kept x))

-- ---- a row that is taken in

-- it is put in behind all others
pub put_taken : (row : Change) (before after : List Change) (x : Content) → IsTakenIn row before after
    → with_changes after x ≡ with_changes (row ∷ []) (with_changes before x)
put_taken row before after x (inl (place, is, e)) =
    ap (λ (rows : List Change). with_changes rows x) e ∙ put_in_place row before place x is
put_taken row before after x (inr (none, e)) =
    ap (λ (rows : List Change). with_changes rows x) e ∙ put_in_turn before (row ∷ []) x

desk_of_both : (xs ys : List Change) → All IsTheRow (rows_among xs).desk → All IsTheRow (rows_among ys).desk
    → All IsTheRow (rows_among (xs ++ ys)).desk
desk_of_both xs ys h k =
    subst (λ (rows : List DeskCells). All IsTheRow rows) (sym (desk_joined xs ys))
    (All-append IsTheRow (rows_among xs).desk (rows_among ys).desk h k)

desk_in_place : (row : Change) (kept : List Change) (place : ℕ) → All IsTheRow (rows_among kept).desk
    → All IsTheRow (rows_among (row ∷ [])).desk → All IsTheRow (rows_among (set kept place row)).desk
desk_in_place row [] place h k = h
desk_in_place row (old ∷ kept) zero h k = desk_of_both (row ∷ []) kept k (one_later old kept h)
desk_in_place row (old ∷ kept) (suc place) h k =
    desk_of_both (old ∷ []) (set kept place row) (one_first old kept h)
    (desk_in_place row kept place (one_later old kept h) k)

-- each row of `desk` is still the one row
pub desk_taken : (row : Change) (before after : List Change) → IsTakenIn row before after
    → All IsTheRow (rows_among before).desk → All IsTheRow (rows_among (row ∷ [])).desk
    → All IsTheRow (rows_among after).desk
desk_taken row before after (inl (place, is, e)) h k =
    subst (λ (rows : List Change). All IsTheRow (rows_among rows).desk) (sym e) (desk_in_place row before place h k)
desk_taken row before after (inr (none, e)) h k =
    subst (λ (rows : List Change). All IsTheRow (rows_among rows).desk) (sym e) (desk_of_both before (row ∷ []) h k)
