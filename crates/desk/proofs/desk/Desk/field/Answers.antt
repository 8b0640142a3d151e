use Rattle.std.proofs.Common.{MatchOption, None, subst, ◌≡◌}
use Rattle.std.specs.Option.{IsSomeAnd}
use Rattle.ledger.specs.Ledger.{field_named, name_of}
use Rattle.book.specs.Views.{ShowsField}
use Rattle.desk.proofs.desk.Desk.field.Goals as goal

pub returns : goal.returns
returns g c =
    subst (λ d. MatchOption c.field.result (field_named d.ledger (name_of c.args.branch c.args.article) ≡ None)
    (λ view.
    IsSomeAnd (field_named d.ledger (name_of c.args.branch c.args.article)) (λ f. ShowsField d.ledger f view)))
    c.self.view_is c.field.ensures
