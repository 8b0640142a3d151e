use Rattle.std.proofs.Common.{◌≡◌, ◌∷◌, [], List, ℕ, ap, arith, length, length-append, subst, sym}
use Rattle.words.specs.Words.{parts_at}
use Rattle.words.proofs.Pieces.{onto}
use Rattle.words.proofs.lines.Lines.extend.Goals as goal

pub invariant_of-self-2 : goal.invariant_of-self-2
invariant_of-self-2 c =
    let items = c.in-Ok.ensures.items in (
      omega (arith, simp length-append at (ap length items)),
      subst (λ (bytes : List ℕ). parts_at 10 bytes ≡ bytes ∷ []) (sym items)
          (onto c.self.inside.rest.items c.args.piece.now c.args.piece.now [] c.self.invariant.1 c.requires),
    )
