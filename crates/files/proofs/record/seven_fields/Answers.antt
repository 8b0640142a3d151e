use Rattle.std.proofs.Common.{◌≢◌, arith, length}
use Rattle.csv.specs.Records.{fields_of}
use Rattle.files.proofs.Fields.{seven, if_none, past}
use Rattle.files.proofs.record.seven_fields.Goals as goal

pub returns-in_err-first-clause-none : goal.returns-in_err-first-clause-none
returns-in_err-first-clause-none c =
    let few : length (fields_of c.args.row.now) ≢ 7 = λ size.
    let p = past (fields_of c.args.row.now) 0 c.in_err-first.ensures.value in omega arith in
    if_none _ _ few

pub returns-in_err-second-clause-none : goal.returns-in_err-second-clause-none
returns-in_err-second-clause-none c =
    let few : length (fields_of c.args.row.now) ≢ 7 = λ size.
    let p = past (fields_of c.args.row.now) 1 c.in_err-second.ensures.value in omega arith in
    if_none _ _ few

pub returns-in_err-third-clause-none : goal.returns-in_err-third-clause-none
returns-in_err-third-clause-none c =
    let few : length (fields_of c.args.row.now) ≢ 7 = λ size.
    let p = past (fields_of c.args.row.now) 2 c.in_err-third.ensures.value in omega arith in
    if_none _ _ few

pub returns-in_err-fourth-clause-none : goal.returns-in_err-fourth-clause-none
returns-in_err-fourth-clause-none c =
    let few : length (fields_of c.args.row.now) ≢ 7 = λ size.
    let p = past (fields_of c.args.row.now) 3 c.in_err-fourth.ensures.value in omega arith in
    if_none _ _ few

pub returns-in_err-fifth-clause-none : goal.returns-in_err-fifth-clause-none
returns-in_err-fifth-clause-none c =
    let few : length (fields_of c.args.row.now) ≢ 7 = λ size.
    let p = past (fields_of c.args.row.now) 4 c.in_err-fifth.ensures.value in omega arith in
    if_none _ _ few

pub returns-in_err-sixth-clause-none : goal.returns-in_err-sixth-clause-none
returns-in_err-sixth-clause-none c =
    let few : length (fields_of c.args.row.now) ≢ 7 = λ size.
    let p = past (fields_of c.args.row.now) 5 c.in_err-sixth.ensures.value in omega arith in
    if_none _ _ few

pub returns-in_err-seventh-clause-none : goal.returns-in_err-seventh-clause-none
returns-in_err-seventh-clause-none c =
    let few : length (fields_of c.args.row.now) ≢ 7 = λ size.
    let p = past (fields_of c.args.row.now) 6 c.in_err-seventh.ensures.value in omega arith in
    if_none _ _ few

pub returns-clause-some : goal.returns-clause-some
returns-clause-some c =
    seven (fields_of c.args.row.now) _ _ _ _ _ _ _ (omega arith) c.in_ok-first.ensures.value
    c.in_ok-second.ensures.value c.in_ok-third.ensures.value c.in_ok-fourth.ensures.value
    c.in_ok-fifth.ensures.value c.in_ok-sixth.ensures.value c.in_ok-seventh.ensures.value
