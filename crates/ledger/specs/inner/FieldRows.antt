-- The rows of the fields, computed as sums over the ledger's entries.
use Rattle.std.specs.Prelude.{ℤ, pos, ◌+ℤ◌, ◌-ℤ◌, List, [], ◌∷◌, flat_map, if◌then◌else◌}
use Rattle.std.specs.Option.{option_map_or}
use Rattle.words.specs.declared.command.Command.{Command}
use Rattle.words.specs.declared.command.Request.{Request}
use Rattle.ledger.specs.Changes.{changes_field}
use Rattle.ledger.specs.Held.{held_to_add, held_to_take}
use Rattle.ledger.specs.Ledger.{Field as FieldOf, Ledger, Name, same_name}
use Rattle.ledger.specs.Next.{accept, moved_at_once}
use Rattle.ledger.specs.Outcomes.{settled, signed}
use Rattle.ledger.specs.Rows.{FieldCells}

-- what the command itself moves on the field
abbrev pub moved_by_command : Name → Command → ℤ
moved_by_command f c = option_map_or (λ m. if same_name f m.0 then signed m.1 m.2 else pos 0) (moved_at_once c) (pos 0)

-- the row of a field: the infimum is the value less all that is held to take, the supremum the value plus all that is
-- held to add
abbrev pub field_row : Ledger → FieldOf → FieldCells
field_row A f =
    record {
      branch = f.name.branch;
      article = f.name.article;
      lo = pos f.lo;
      hi = pos f.hi;
      start = pos f.start;
      value = settled A f;
      inf = settled A f -ℤ held_to_take A f.name;
      sup = settled A f +ℤ held_to_add A f.name;
    }

-- the rows of all fields that the request makes or changes
abbrev pub field_rows : Ledger → Request → List FieldCells
field_rows A r =
    flat_map (λ f. if changes_field A r.command f.name then field_row (accept A r) f ∷ [] else []) (accept A r).fields
