use Rattle.ledger.proofs.Prelude.{◌≡◌, Bor, Each, Field, IfSome, Ledger, List, MatchOption, Name, None, Option, Some}
use Rattle.ledger.proofs.Prelude.{arith, is_at, lookup, name_cmp, option_copied, option_map, sym}
use Rattle.book.proofs.Prelude.{FieldEntry, IsUpToDate, field_of, ledger_of}
use Rattle.book.proofs.KeyPlaces.{field_found}
use Rattle.book.proofs.ChangedFields.{each_at_name}
use Rattle.book.proofs.book.Book.field_entry.Goals as goal

told : (name : Name) (result : Option (Bor FieldEntry)) (there : Option FieldEntry) (found : Option Field)
    → option_copied result ≡ there → found ≡ option_map (λ v. field_of (name, v)) there
    → MatchOption result (found ≡ None) (λ entry. found ≡ Some (field_of (name, entry.now)))
told name None there found is e = rw (← is) at e
told name (Some r) there found is e = rw (← is) at e

up : (A : Ledger) (name : Name) (l : List (Name × FieldEntry)) (result : Option (Bor FieldEntry))
    → Each (IsUpToDate A) l → option_copied result ≡ lookup (is_at (name_cmp name)) l
    → IfSome result (λ entry. IsUpToDate A (name, entry.now))
up A name l None all is = tt
up A name l (Some r) all is = each_at_name (IsUpToDate A) name l r.now all (sym is)

pub returns-clause-found : goal.returns-clause-found
returns-clause-found c = grind (arith, field_found, told)

pub returns-clause-up_to_date : goal.returns-clause-up_to_date
returns-clause-up_to_date c =
    rw (← c.self.view_is) (up (ledger_of c.self.inside) c.args.name.now c.self.inside.fields.entries c.get.result
    c.self.invariant.1 c.get.ensures)
