-- What an order line counts for in the stock of its field, before a command and after it.
use Rattle.std.specs.Prelude.{ℤ, pos, ◌-ℤ◌, Bool, List, Option, None, Some, flat_map, map, if◌then◌else◌}
use Rattle.std.specs.Option.{option_map_or}
use Rattle.escrow.specs.Codes.{IsKey}
use Rattle.escrow.specs.declared.quantity.Way.{Way}
use Rattle.words.specs.Spelling.{IsInRange}
use Rattle.words.specs.declared.command.Command.{Command}
use Rattle.words.specs.declared.command.Request.{Request}
use Rattle.ledger.specs.Answers.{IsAccepted}
use Rattle.ledger.specs.Good.{Good}
use Rattle.ledger.specs.Ledger.{Ledger, Name, Order, line_name, same_name}
use Rattle.ledger.specs.Next.{accept}
use Rattle.ledger.specs.Outcomes.{Part, share_of, total}
use Rattle.ledger.specs.Steps.{LineStep, Step, changes_stock, lines_of, steps_of}
use Rattle.ledger.specs.declared.order.Line.{Line}
use Rattle.ledger.specs.declared.order.Share.{Share}

-- ---- the fields that a request changes

-- The request is in range and is accepted at a good ledger, and the next ledger is good.
pub record Accepts (A : Ledger) (r : Request) : Type 0 where
  pub accepted : IsAccepted A r
  pub key : IsKey r.key
  pub range : IsInRange r.command
  pub before : Good A
  pub after : Good (accept A r)

-- ---- what the lines count for

abbrev pub no_share : Share
no_share = record { settled = 0; held = 0 }

-- what a line counts for in the stock of its field, before a step and after it, and whether that stock changes
pub record ShareStep : Type 0 where
  pub name : Name
  pub way : Way
  pub before : Share
  pub after : Share
  pub changes : Bool

-- what a line counted for, if there were such an order and such a line
abbrev pub share_before : Option Order → Option Line → Share
share_before None l = no_share
share_before (Some o) l = option_map_or (share_of o.state o.firm) l no_share

abbrev pub share_step : Step → LineStep → ShareStep
share_step s l = record {
  name = line_name l.after;
  way = l.after.way;
  before = share_before s.before l.before;
  after = share_of s.after.state s.after.firm l.after;
  changes = changes_stock s l;
}

-- these steps for the lines of one order, and for those of all orders that the command opens or changes
abbrev pub shares_of_step : Step → List ShareStep
shares_of_step s = map (share_step s) (lines_of s)

abbrev pub share_steps : Ledger → Command → List ShareStep
share_steps A c = flat_map shares_of_step (steps_of A c)

-- what these steps together add to that part of a field's stock
abbrev pub added_on : Part → Name → List ShareStep → ℤ
added_on part f steps =
    total (λ s. if same_name f s.name then part s.way s.after -ℤ part s.way s.before else pos 0) steps
