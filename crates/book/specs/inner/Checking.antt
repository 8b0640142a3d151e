-- The parts of the checks of commands, as the book makes them.
use Rattle.std.specs.Prelude.{ℕ, ◌≡◌, ◌≤◌, ◌≢◌, List, [], ◌∷◌, IsNone, IsSomeAnd, MatchResult, None, Option, Result}
use Rattle.std.specs.Prelude.{Some, length, option_map, true}
use Rattle.escrow.specs.declared.quantity.Way.{Way}
use Rattle.escrow.specs.declared.quantity.Way.TheVariants.{Add, Take}
use Rattle.words.specs.declared.command.Command.{Command}
use Rattle.words.specs.declared.command.Command.TheVariants.{Abort, Commit, Expire, Firm, More, Release, Use}
use Rattle.words.specs.Kinds.{is_opening}
use Rattle.words.specs.declared.reply.Refusal.{Refusal}
use Rattle.words.specs.declared.reply.Refusal.TheVariants.{OtherWay, TooLittle, TooManyLines, TooMuch}
use Rattle.words.specs.declared.limits.TheConstants.{MAX_ORDER_LINES}
use Rattle.book.specs.Model.{entry_row, order_of}
use Rattle.ledger.specs.inner.FieldRows.{field_rows}
use Rattle.ledger.specs.Answers.{Check, FirstFailure, check}
use Rattle.ledger.specs.Held.{BreaksBound}
use Rattle.ledger.specs.Ledger.{Ledger, Name, Order, line_on, order_numbered}
use Rattle.ledger.specs.Next.{Nothing, effect, moved_at_once}
use Rattle.ledger.specs.inner.Shares.{Accepts}
use Rattle.book.specs.declared.book.FieldEntry.{FieldEntry}
use Rattle.book.specs.declared.book.checks.Found.{Found}
use Rattle.book.specs.declared.book.checks.Found.TheVariants as found

-- the refusal and the line of the first check that fails, or, where none fails, something with the property
abbrev pub Finds : {T : Type 0} → List Check → (T → Type 0) → Result T (Refusal × ℕ) → Type 0
Finds cs P result = MatchResult result (λ x. FirstFailure cs None × P x) (λ failure. FirstFailure cs (Some failure))

-- the number of the order that the command changes, if it changes one by its number
abbrev pub changed_number : Command → Option ℕ
changed_number (More n way b a q) = Some n
changed_number (Use n b a q) = Some n
changed_number (Release n b a q) = Some n
changed_number (Commit n) = Some n
changed_number (Abort n) = Some n
changed_number (Firm n) = Some n
changed_number c = None

-- the entry is that of the one field that the command, once accepted, makes or changes, as it is then
abbrev pub IsOnly : Ledger → Command → Name × FieldEntry → Type 0
IsOnly A c e = (key : List ℕ) → Accepts A (record { key = key; command = c })
    → entry_row e ∷ [] ≡ field_rows A (record { key = key; command = c })

-- what was found is the order under that number
abbrev pub IsOrderFound : Ledger → ℕ → Found → Type 0
IsOrderFound A n (found.Order m o) = (m ≡ n) × (order_numbered A m ≡ Some (order_of (m, o.now)))
IsOrderFound A n x = ⊥

-- What the checks of the command found is what it changes: its own field, the order under its number, or the clock.
-- Where it opens an order, there is nothing to be found.
abbrev pub IsFound : Ledger → Command → Found → Type 0
IsFound A c found.Nothing = is_opening c ≡ true
IsFound A c (found.Clock now) = c ≡ Expire now
IsFound A c (found.Field e moved) =
    IsOnly A c e × (effect c ≡ Nothing) × (moved_at_once c ≡ option_map (λ m. (e.0, m.0, m.1)) moved)
IsFound A c (found.Order n o) = (changed_number c ≡ Some n) × (order_numbered A n ≡ Some (order_of (n, o.now)))

-- if the order has a line on the field, it has the way; else there is room for one more line
abbrev pub hold_checks : Order → Way → Name → List Check
hold_checks o way f = check (IsSomeAnd (line_on o f) (λ l. l.way ≢ way)) OtherWay
    ∷ check (IsNone (line_on o f) × (MAX_ORDER_LINES ≤ length o.lines)) TooManyLines ∷ []

-- how an amount is refused that breaks a bound
abbrev pub refusal_of : Way → Refusal
refusal_of Take = TooLittle
refusal_of Add = TooMuch

-- the check of a bound, said about the ledger as it is
abbrev pub bound_checks : Way → Ledger → Name → ℕ → ℕ → List Check
bound_checks way A f q line = record { fails = BreaksBound way A f q; refusal = refusal_of way; line = line } ∷ []
