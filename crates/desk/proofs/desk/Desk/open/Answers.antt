use Rattle.std.proofs.Common.{◌≢◌, inl, inr, subst, sym}
use Rattle.ledger.specs.Good.{Good}
use Rattle.ledger.specs.Ledger.{Ledger}
use Rattle.ledger.specs.Rows.{IsRowsOf}
use Rattle.ledger.specs.Tables.{content_of}
use Rattle.ledger.proofs.Futures.{honours_always}
use Rattle.ledger.proofs.Runs.{honours_if_good}
use Rattle.ledger.proofs.EqualRows.{told_by_rows}
use Rattle.desk.specs.declared.fault.OpenFault.TheVariants.{Damaged, NotADesk, OldVersion, Store}
use Rattle.desk.proofs.desk.Desk.open.Given.{Over}
use Rattle.desk.proofs.desk.Desk.open.Goals as goal

-- another fault than that of damaged rows
not_a_desk : Damaged ≢ NotADesk
not_a_desk e = cc

not_old : Damaged ≢ OldVersion
not_old e = cc

not_the_store : Damaged ≢ Store
not_the_store e = cc

found : (g : Over) (c : goal.In-Ok-of_tables g) → IsRowsOf c.in-Ok-of_tables.book.ledger (content_of c.in-Ok.tables)
found g c = subst (IsRowsOf c.in-Ok-of_tables.book.ledger) (cc) c.in-Ok-of_tables.ensures.ok.1

damaged : (g : Over) (c : goal.In-Err-Damaged g) (A : Ledger) → Good A → IsRowsOf A (content_of c.in-Ok.tables) → ⊥
damaged g c A good rows = c.in-Err-Damaged.ensures.damaged c.in-Err-Damaged.field-0-is A good (subst (IsRowsOf A) (cc) rows)

pub returns-in-Ok-of_tables-clause-nothing_else : goal.returns-in-Ok-of_tables-clause-nothing_else
returns-in-Ok-of_tables-clause-nothing_else g c honest A x good rows held =
    told_by_rows c.in-Ok-of_tables.book.ledger A x c.in-Ok-of_tables.ensures.ok.0 good
    (subst (IsRowsOf c.in-Ok-of_tables.book.ledger) ((c.in-Ok.ensures.found honest).one x held) (found g c)) rows

pub invariant_of-result : goal.invariant_of-result
invariant_of-result g c = record {
  good = c.in-Ok-of_tables.ensures.ok.0;
  stored = λ going honest. record {
    rows = content_of c.in-Ok.tables;
    are_rows = found g c;
    held = (c.in-Ok.ensures.found honest).content;
    alone = (c.in-Ok.ensures.found honest).alone;
  };
}

pub returns-in-Ok-of_tables-clause-opened : goal.returns-in-Ok-of_tables-clause-opened
returns-in-Ok-of_tables-clause-opened g c =
    let good = c.in-Ok-of_tables.ensures.ok.0 in
    record {
      good = good;
      honours = honours_if_good _ good;
      always = honours_always _ good;
      going = c.in-Ok.ensures.goes.ok;
      stored = λ honest. record {
        rows = content_of c.in-Ok.tables;
        are_rows = found g c;
        held = ((c.in-Ok.ensures.found honest).same (content_of c.in-Ok.tables)).1 (c.in-Ok.ensures.found honest).content;
        alone = (c.in-Ok.ensures.found honest).alone;
      };
      rows = λ honest x held.
          subst (IsRowsOf c.in-Ok-of_tables.book.ledger) ((c.in-Ok.ensures.found honest).one x held) (found g c);
    }

pub returns-in-Err-Damaged-clause-nothing_else : goal.returns-in-Err-Damaged-clause-nothing_else
returns-in-Err-Damaged-clause-nothing_else g c honest A x good rows held =
    absurd (damaged g c A good (subst (IsRowsOf A) (sym ((c.in-Ok.ensures.found honest).one x held)) rows))

pub returns-in-Err-Damaged-clause-unopened : goal.returns-in-Err-Damaged-clause-unopened
returns-in-Err-Damaged-clause-unopened g c = record {
  damaged = λ is honest x held A good rows.
      damaged g c A good (subst (IsRowsOf A) (sym ((c.in-Ok.ensures.found honest).one x held)) rows);
  loaded = λ is. c.in-Ok.ensures.goes.ok;
  not_a_desk = λ is. absurd (not_a_desk is);
  old_version = λ is. absurd (not_old is);
  stopped = λ is. elim is [
    | inl e ↦ absurd (not_the_store e)
    | inr more ↦ elim more [ inl e ↦ absurd (not_a_desk e) | inr e ↦ absurd (not_old e) ]
  ];
}

pub returns-in-Ok-of_tables-clause-left : goal.returns-in-Ok-of_tables-clause-left
returns-in-Ok-of_tables-clause-left g c honest = record {
  same = λ going. (c.in-Ok.ensures.found honest).same;
  adds = c.in-Ok.ensures.left honest;
}

pub returns-in-Ok-of_tables-clause-other : goal.returns-in-Ok-of_tables-clause-other
returns-in-Ok-of_tables-clause-other g c going =
    let told = c.in-Ok.ensures.other going in
    record {
      nameless = λ no. let is = (told.nameless no).0 in absurd (cc);
      other = λ names none. let is = (told.other names none).0 in absurd (cc);
    }
