-- What an accepted command does to the orders, in steps. A step has an order as it was before the command, if it was
-- there, and as it is after. These two alone say which rows of orders, lines and firm marks are written, and of which
-- fields a row is written since the lines of orders change their numbers. Moves, and what a command does to a field
-- itself, have no step.
use Rattle.std.specs.Prelude.{ℕ, ◌+◌, Bool, true, ◌&&◌, ◌||◌, not, ◌==◌, List, [], ◌∷◌, flat_map, map, Option, None}
use Rattle.std.specs.Prelude.{Some, if◌then◌else◌}
use Rattle.std.specs.Option.{option_map_or}
use Rattle.words.specs.declared.command.Command.{Command}
use Rattle.ledger.specs.declared.order.Line.{Line}
use Rattle.ledger.specs.Ledger.{Ledger, Order, is_open}
use Rattle.ledger.specs.Next.{Changes, Effect, Nothing, Opens, effect}

-- an order as it was before the command, if it was there, and as it is after
pub record Step : Type 0 where
  pub before : Option Order
  pub after : Order

-- the step that opens an order, and the step that changes one
abbrev pub opening : Order → Step
opening o = record { before = None; after = o }

abbrev pub turn : Order → Order → Step
turn b a = record { before = Some b; after = a }

abbrev pub steps : Effect → List Order → List Step
steps Nothing orders = []
steps (Opens o) orders = opening o ∷ []
steps (Changes names change) orders = flat_map (λ o. if names o then turn o (change o) ∷ [] else []) orders

-- the steps that a command makes
abbrev pub steps_of : Ledger → Command → List Step
steps_of A c = steps (effect c) A.orders

-- the orders that the command opens or changes, as they are after it
abbrev pub orders_made : Ledger → Command → List Order
orders_made A c = map (λ s. s.after) (steps_of A c)

-- ---- lines

-- an order line as it was before the command, if it was there, and as it is after, with its number in the order
pub record LineStep : Type 0 where
  pub nr : ℕ
  pub before : Option Line
  pub after : Line

-- lines stay at their places, and new ones come at the end
abbrev pub line_steps : ℕ → List Line → List Line → List LineStep
line_steps nr before [] = []
line_steps nr [] (l ∷ ls) = record { nr = nr; before = None; after = l } ∷ line_steps (nr + 1) [] ls
line_steps nr (b ∷ bs) (l ∷ ls) = record { nr = nr; before = Some b; after = l } ∷ line_steps (nr + 1) bs ls

-- the lines of the order
abbrev pub lines_of : Step → List LineStep
lines_of s = line_steps 1 (option_map_or (λ o. o.lines) s.before []) s.after.lines

-- ---- what differs

-- the order is new, or ends
abbrev pub changes_state : Step → Bool
changes_state s = option_map_or (λ o. is_open o && not (is_open s.after)) s.before true

-- the order becomes firm
abbrev pub becomes_firm : Step → Bool
becomes_firm s = s.after.firm && option_map_or (λ o. not o.firm) s.before true

-- the line is new, or holds another amount
abbrev pub changes_held : LineStep → Bool
changes_held l = option_map_or (λ b. not (b.held == l.after.held)) l.before true

-- the line is new, or one of its amounts changes
abbrev pub changes_line : LineStep → Bool
changes_line l = changes_held l || option_map_or (λ b. not (b.used == l.after.used)) l.before true

-- The numbers of the line's field are made anew, also where they come out as they were: the order is new, ends or becomes
-- firm, or else the line holds another amount or, where the order is firm, has used another.
abbrev pub changes_stock : Step → LineStep → Bool
changes_stock s l = changes_state s || becomes_firm s || changes_held l || (s.after.firm && changes_line l)
