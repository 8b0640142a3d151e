use Rattle.ledger.proofs.Prelude.{◌≡◌, Err, Name, Ok, always_returns_same, name_cmp, of_calls, rules}
use Rattle.book.proofs.Prelude.{entry_name}
use Rattle.book.proofs.SumsOnFields.{searched}
use Rattle.book.proofs.book.tables.sums.field_index.Goals as goal

pub returns-in-Ok : goal.returns-in-Ok
returns-in-Ok c =
    let name : Name = c.args.name in
    searched name c.args.fields.now c.requires (Ok c.in-Ok.place) c.in-Ok.ensures.bound
    (c.in-Ok.ensures.position (λ entry. name_cmp (entry_name entry) name)
    (always_returns_same _ (λ a r. r ≡ name_cmp (entry_name a.0.now) name) _ (λ a r f k. search (rules, of_calls))))

pub returns-in-Err : goal.returns-in-Err
returns-in-Err c =
    let name : Name = c.args.name in
    searched name c.args.fields.now c.requires (Err c.in-Err.field-0) c.in-Err.ensures.bound
    (c.in-Err.ensures.position (λ entry. name_cmp (entry_name entry) name)
    (always_returns_same _ (λ a r. r ≡ name_cmp (entry_name a.0.now) name) _ (λ a r f k. search (rules, of_calls))))
