use Rattle.ledger.proofs.Prelude.{◌≡◌, Bor, Kept, List, MatchOption, None, Option, Some, option_copied, option_map, ℕ}
use Rattle.book.proofs.Prelude.{KeptEntry, kept_of}
use Rattle.book.proofs.KeyPlaces.{kept_found}
use Rattle.book.proofs.book.Book.kept_entry.Goals as goal

told : (key : List ℕ) (result : Option (Bor KeptEntry)) (there : Option KeptEntry) (found : Option Kept)
    → option_copied result ≡ there → found ≡ option_map (λ v. kept_of (key, v)) there
    → MatchOption result (found ≡ None) (λ entry. found ≡ Some (kept_of (key, entry.now)))
told key None there found is e = rw (← is) at e
told key (Some r) there found is e = rw (← is) at e

pub returns : goal.returns
returns c =
    rw (← c.self.view_is)
    (told c.args.key c.get.result _ _ c.get.ensures (kept_found c.args.key c.self.inside.kept.entries))
