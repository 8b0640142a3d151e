use Rattle.std.proofs.Common.{◌∙◌, sym, true≢false}
use Rattle.csv.specs.Records.{fields_of}
use Rattle.files.proofs.OrdersSoFar.{no_line_more, no_row, took_first, took_line, took_next}
use Rattle.files.proofs.Zips.{ok_imp}
use Rattle.files.proofs.orders.OrdersIntake.take.Goals as goal

pub returns-in_default-clause-fault : goal.returns-in_default-clause-fault
returns-in_default-clause-fault c = λ bad rows took. no_row c.args.self.now.done.items c.args.self.now.last
    (fields_of c.args.row.now) c.in_default.ensures.none rows took

pub returns-in_default-take-clause-good : goal.returns-in_default-take-clause-good
returns-in_default-take-clause-good c = λ good rows took.
    took_first c.args.self.now.done.items c.args.self.now.last c.in_ok-begin.field-0 c.in-Some.row
    (fields_of c.args.row.now) (sym c.take.ensures.value ∙ c.in_default-take.is) c.in_ok-begin.ensures
    c.in-Some.ensures.some rows took

pub returns-then-has_key-clause-good : goal.returns-then-has_key-clause-good
returns-then-has_key-clause-good c =
    ok_imp c.go_on.result _ _ c.go_on.ensures.good (λ good h yes rows took.
    took_line c.args.self.now.done.items c.go_on.new.self.done.items c.args.self.now.last c.go_on.new.self.last
    c.in-Some-take.order c.in-Some.row (fields_of c.args.row.now)
    (sym c.take.ensures.value ∙ c.in-Some-take.is) (sym (c.has_key.ensures.0 c.if-has_key.true)) (h yes).0
    c.go_on.ensures.done (h yes).1 c.in-Some.ensures.some rows took)

pub returns-then-has_key-clause-fault : goal.returns-then-has_key-clause-fault
returns-then-has_key-clause-fault c =
    ok_imp c.go_on.result _ _ c.go_on.ensures.fault (λ good h bad rows took.
    no_line_more c.args.self.now.done.items c.args.self.now.last c.in-Some-take.order c.in-Some.row
    (fields_of c.args.row.now) (sym c.take.ensures.value ∙ c.in-Some-take.is)
    (sym (c.has_key.ensures.0 c.if-has_key.true)) (h bad) c.in-Some.ensures.some rows took)

pub returns-clause-good : goal.returns-clause-good
returns-clause-good c = λ good rows took.
    took_next c.args.self.now.done.items c.push.new.self.items c.args.self.now.last c.in-Some-take.order
    c.in_ok-begin-2.field-0 c.in_ok-request.request c.in-Some.row (fields_of c.args.row.now)
    (sym c.take.ensures.value ∙ c.in-Some-take.is)
    (λ key. true≢false (sym (c.has_key.ensures.1 (sym key)) ∙ c.if-has_key.false))
    c.in_ok-request.ensures c.in-Ok.ensures.items c.in_ok-begin-2.ensures c.in-Some.ensures.some rows took
