-- Plans as the book sees them: parts, and the rows that change.
use Rattle.std.specs.Prelude.{◌≡◌, pos, [], ◌∷◌, map, option_map}
use Rattle.escrow.specs.Codes.{IsKey}
use Rattle.words.specs.Spelling.{IsInRange}
use Rattle.book.specs.Model.{entry_row, move_of, order_of, slots_of}
use Rattle.ledger.specs.Next.{move_made}
use Rattle.book.specs.Plans.{PlanView}
use Rattle.ledger.specs.Rows.{Content}
use Rattle.book.specs.declared.book.plan.PlanParts.{PlanParts}

-- the plan of these parts, which changes these rows
abbrev pub plan_of : PlanParts → Content → PlanView
plan_of p changes = record {
  request = record { key = p.key; command = p.words };
  place = p.place;
  orders = map order_of p.orders.items;
  line_slots = map slots_of p.orders.items;
  changes = changes;
}

-- The rows and the command say what else the parts hold: the clock, the fields, and the move. Key and words are in range.
pub record AreTold (p : PlanParts) (changes : Content) : Type 0 where
  pub key : IsKey p.key
  pub range : IsInRange p.words
  pub clock : map (λ row. row.clock) changes.desk ≡ pos p.clock ∷ []
  pub fields : map entry_row p.fields.entries ≡ changes.fields
  pub moved : option_map move_of p.moved ≡ move_made p.place p.words
