-- A desk whose commits are put off, from call to call.
use Rattle.std.proofs.Common.{◌≡◌, ◌≢◌, ◌∙◌, [], Bool, ap, false, inl, inr, refl, true}
use Rattle.desk.specs.Deferred.{DeferredView}
use Rattle.desk.specs.Desk.{DeskView, StaysSet}
use Rattle.rounds.specs.Rounds.{OnlyPutsOff}
use Rattle.rounds.proofs.Lists.{not_true}

module _ {K : Type 0} where
  kept_behind : (old new : DeskView (DeferredView K)) → StaysSet (λ a b. b.keep ≡ a.keep) old new → new.keep.keep ≡ old.keep.keep
  kept_behind old new (inl e) = ap (λ d. d.keep.keep) e
  kept_behind old new (inr e) = e

  pub off_so : (old new : DeskView (DeferredView K)) → StaysSet (λ a b. b.keep ≡ a.keep) old new
      → (old.keep.stopped ≡ true → new ≡ old)
      → OnlyPutsOff old new
  off_so old new set untouched = record { keep = kept_behind old new set; untouched = untouched }

  pub off_same : (desk : DeskView (DeferredView K)) → OnlyPutsOff desk desk
  off_same desk = record { keep = refl; untouched = λ stopped. refl }

  pub off_on : (old mid new : DeskView (DeferredView K)) → OnlyPutsOff old mid → OnlyPutsOff mid new → OnlyPutsOff old new
  off_on old mid new h k = record {
    keep = k.keep ∙ h.keep;
    untouched = λ stopped.
        let same = h.untouched stopped in k.untouched (ap (λ d. d.keep.stopped) same ∙ stopped) ∙ same;
  }

  -- a desk in whose round something was put off was not stopped before
  pub going_before : (old mid : DeskView (DeferredView K)) (was : Bool) → was ≡ old.keep.stopped → OnlyPutsOff old mid
      → old.keep.changes ≡ []
      → (was ≡ true → mid.keep.changes ≢ []) → old.keep.stopped ≡ false
  going_before old mid was is off settled some = not_true old.keep.stopped (λ halted.
      some (is ∙ halted) (ap (λ d. d.keep.changes) (off.untouched halted) ∙ settled))
