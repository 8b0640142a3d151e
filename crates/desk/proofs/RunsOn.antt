-- A run with a request more.
use Rattle.std.proofs.Common.{◌++◌, ◌∷◌, [], List, refl, subst}
use Rattle.words.specs.declared.command.Request.{Request}
use Rattle.words.specs.declared.reply.Reply.{Reply}
use Rattle.ledger.specs.Answers.{Answers, Runs}
use Rattle.ledger.specs.Ledger.{Ledger}

pub runs_on : (A M B : Ledger) (rs : List Request) (ps : List Reply) (r : Request) (p : Reply) → Runs A rs ps M
    → Answers M r p B → Runs A (rs ++ r ∷ []) (ps ++ p ∷ []) B
runs_on A M B [] [] r p e h = (B, subst (λ (L : Ledger). Answers L r p B) e h, refl)
runs_on A M B [] (q ∷ ps) r p e h = absurd e
runs_on A M B (x ∷ rs) [] r p e h = absurd e
runs_on A M B (x ∷ rs) (q ∷ ps) r p (L, first, rest) h = (L, first, runs_on L M B rs ps r p rest h)
