-- The next ledger: the rows that an accepted request changes.
use Rattle.book.proofs.Prelude.{BookView, ChangesTo, Inside, kept_of, ledger_of, view_of}
use Rattle.ledger.proofs.Prelude.{Bool, Content, FieldCells, Good, IsAccepted, IsInRange, IsKey, IsRowsOf, Ledger, List}
use Rattle.ledger.proofs.Prelude.{Request, [], accept, ap, arith, changed_rows, changes_field, count_by, desk_row}
use Rattle.ledger.proofs.Prelude.{field_row, field_rows, filter, if◌then◌else◌, length, map, name_of, no_content}
use Rattle.ledger.proofs.Prelude.{places, put_content, refl, subst, sym, ℕ, ◌+◌, ◌∙◌, ◌∷◌, ◌≡◌, ◌≤◌}
use Rattle.ledger.specs.declared.limits.TheConstants.{MAX_PLACES}
use Rattle.ledger.proofs.EqualRows.{one_content, rows_are, rows_of}
use Rattle.ledger.proofs.Goodness.{good_accept}
use Rattle.ledger.proofs.Lists.{counted, filter-each, length-insert, length-of-map}
use Rattle.ledger.proofs.NextContent.{changes_suffice}
use Rattle.ledger.proofs.Runs.{no_key}
use Rattle.ledger.proofs.Sums.{each}

-- ---- how many are counted

pub viewed : {X Y : Type 0} (view : X → Y) (p : Y → Bool) (xs : List X)
    → count_by p (map view xs) ≡ count_by (λ x. p (view x)) xs
viewed view p [] = refl
viewed view p (x ∷ xs) =
    counted p (view x) (map view xs) ∙ ap (λ n. (if p (view x) then 1 else 0) + n) (viewed view p xs)
    ∙ sym (counted (λ x. p (view x)) x xs)

-- ---- the rows that change

fields_changed : (A : Ledger) (r : Request)
    → filter (λ (row : FieldCells). changes_field A r.command (name_of row.branch row.article))
    (map (field_row (accept A r)) (accept A r).fields) ≡ field_rows A r
fields_changed A r =
    sym (filter-each (λ (row : FieldCells). changes_field A r.command (name_of row.branch row.article))
    (field_row (accept A r)) (field_row (accept A r)) (λ f. changes_field A r.command f.name) (accept A r).fields
    (each (λ f. refl) (accept A r).fields) (each (λ f e. refl) (accept A r).fields))

-- the rows that the book makes for the request
abbrev pub rows_made : Ledger → Request → Content
rows_made A r = record (changed_rows A r no_content) { desk = desk_row (accept A r) ∷ []; fields = field_rows A r }

-- they are those that change
pub changes_to : (A : Ledger) (r : Request) (rows : Content) → Good A → IsKey r.key → IsInRange r.command
    → IsAccepted A r → rows ≡ rows_made A r → ChangesTo A r rows
changes_to A r rows g key range ok is = record {
  changed = changed;
  suffice =
      λ C D x y. ap (λ (new : Content). put_content new C) (changed D y)
      ∙ changes_suffice A r C D g key range (no_key _ ok.0) ok.1 x y;
  desk = ap (λ (rows : Content). rows.desk) is;
}
  where
    changed : (D : Content) → IsRowsOf (accept A r) D → rows ≡ changed_rows A r D
    changed D y =
        let next_is =
        one_content (accept A r) (rows_of (accept A r)) D
        (rows_are (accept A r) (good_accept A r g key range (no_key _ ok.0) ok.1)) y in
        is ∙ (λ i. record (rows_made A r) { fields = sym (fields_changed A r) i }) ∙ ap (changed_rows A r) next_is

-- ---- what the book knows as it makes them

pub good_now : (b : Inside) (v : BookView) → view_of b ≡ v → Good (ledger_of b) → Good v.ledger
good_now b v e g = subst (λ (v : BookView). Good v.ledger) e g

pub good_next : (b : Inside) (v : BookView) (r : Request) → view_of b ≡ v → Good (ledger_of b) → IsKey r.key
    → IsInRange r.command → IsAccepted v.ledger r → Good (accept v.ledger r)
good_next b v r e g key range ok = good_accept v.ledger r (good_now b v e g) key range (no_key _ ok.0) ok.1

-- the place of the command is there
pub place_fits : (A : Ledger) (r : Request) → Good (accept A r) → places A + 1 ≤ MAX_PLACES
place_fits A r g = grind (arith, length-insert)

pub place_is : (b : Inside) (v : BookView) (n : ℕ) → view_of b ≡ v → n ≡ length b.kept.entries
    → n + 1 ≡ places v.ledger + 1
place_is b v n e is = cc ((length-of-map kept_of b.kept.entries))
