-- How a desk goes on from call to call.
use Rattle.std.proofs.Common.{◌∙◌, IsTrue, refl, subst, sym}
use Rattle.ledger.specs.Good.{Good}
use Rattle.keep.specs.declared.keep.Keep.{Ghosts}
use Rattle.desk.specs.Desk.{DeskView, Goes, StaysStored}

module _ {K : Type 0} (g : Ghosts K) where
  -- nothing is called
  pub goes_same : (desk : DeskView K) → Good desk.ledger → StaysStored g desk → Goes g desk desk
  goes_same desk good stored = record { untouched = λ halted. refl; good = good; stored = stored; honest = λ h. h }

  -- one call, and then another
  pub goes_on : (old mid new : DeskView K) → Goes g old mid → Goes g mid new → Goes g old new
  goes_on old mid new first then = record {
    untouched = λ halted.
        let same = first.untouched halted in
        then.untouched (subst (λ (d : DeskView K). IsTrue (g.stopped d.keep)) (sym same) halted) ∙ same;
    good = then.good;
    stored = then.stored;
    honest = λ h. first.honest (then.honest h);
  }
