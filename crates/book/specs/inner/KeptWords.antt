-- The words of a kept key, as bytes.
use Rattle.std.specs.Prelude.{ℕ, List}
use Rattle.std.proofs.Common.{sym, ◌∙◌}
use Rattle.std.proofs.Props.{props}
use Rattle.std.specs.Coded.{Coded-set, coded_list, coded_ℕ, ×_prop}
use mathlib.Core.HLevel.{Σ_prop_path}
use Rattle.words.proofs.OneItem.{spelling_one}
use Rattle.words.specs.OpenLines.{AreOpenLines}
use Rattle.words.specs.Spelling.{IsInRange, Spells}
use Rattle.words.specs.declared.command.Command.{Command}
use Rattle.words.specs.declared.command.Command.TheVariants as command
use Rattle.words.specs.declared.open_line.OpenLine.{OpenLine}

-- a command that these bytes spell
abbrev pub Spelled : List ℕ → Type 0
Spelled bytes = (c : Command) × Spells c bytes

lines-prop : (lines : List OpenLine) → IsProp (AreOpenLines lines)
lines-prop lines = hlevel props

range-prop : (c : Command) → IsProp (IsInRange c)
range-prop (command.Field b a lo hi start) = hlevel props
range-prop (command.Deliver b a q) = hlevel props
range-prop (command.Writeoff b a q) = hlevel props
range-prop (command.Rebound b a lo hi) = hlevel props
range-prop (command.Open n until lines) = hlevel (props, lines-prop)
range-prop (command.Transfer n until a from to q) = hlevel props
range-prop (command.More n way b a q) = hlevel props
range-prop (command.Use n b a q) = hlevel props
range-prop (command.Release n b a q) = hlevel props
range-prop (command.Commit n) = hlevel props
range-prop (command.Abort n) = hlevel props
range-prop (command.Firm n) = hlevel props
range-prop (command.Expire now) = hlevel props

-- the bytes spell at most one command
pub Spelled-prop : (bytes : List ℕ) → IsProp (Spelled bytes)
Spelled-prop bytes (c, h) (d, k) =
    Σ_prop_path (λ c. ×_prop (range-prop c) (Coded-set (coded_list coded_ℕ) _ _))
    (spelling_one c d h.0 k.0 (sym h.1 ∙ k.1))
