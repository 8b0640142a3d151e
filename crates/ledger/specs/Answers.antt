-- How a request is answered, and which ledger it leaves. The checks of its command are made in their order, and the
-- first that fails decides.
use Rattle.std.specs.Prelude.{ℕ, Bool, ◌+◌, ◌<◌, ◌≤◌, ◌≡◌, ◌≢◌, List, [], ◌∷◌, ◌++◌, length, take, Option, Some, None}
use Rattle.std.specs.Prelude.{IsSome, IsNone, IsSomeAnd, IsTrue, IsFalse, ◌⊎◌, MatchOption, if◌then◌else◌}
use Rattle.std.specs.Str.{bytes_eq}
use Rattle.escrow.specs.declared.quantity.Way.{Way}
use Rattle.escrow.specs.declared.quantity.Way.TheVariants as way
use Rattle.words.specs.declared.open_line.OpenLine.{OpenLine}
use Rattle.words.specs.declared.command.Command.{Command}
use Rattle.words.specs.declared.command.Command.TheVariants.{Field, Deliver, Writeoff, Rebound, Open, Transfer, More}
use Rattle.words.specs.declared.command.Command.TheVariants.{Use, Release, Commit, Abort, Firm, Expire}
use Rattle.words.specs.declared.command.Request.{Request}
use Rattle.words.specs.declared.reply.Refusal.{Refusal}
use Rattle.words.specs.declared.reply.Refusal.TheVariants as refusal
use Rattle.words.specs.declared.reply.Reply.{Reply}
use Rattle.words.specs.declared.reply.Reply.TheVariants.{Done, Refused}
use Rattle.words.specs.Spelling.{spelling}
use Rattle.words.specs.declared.limits.TheConstants.{MAX_ORDER_LINES}
use Rattle.ledger.specs.declared.limits.TheConstants.{MAX_FIELDS, MAX_ORDERS, MAX_PLACES}
use Rattle.ledger.specs.declared.order.Kind.TheVariants as kind
use Rattle.ledger.specs.declared.order.Line.{Line}
use Rattle.ledger.specs.Ledger.{Name, Order, Ledger, places, is_open, is_transfer, open_orders, field_named}
use Rattle.ledger.specs.Ledger.{order_numbered, line_on, kept_under, name_of}
use Rattle.ledger.specs.Outcomes.{FallsBelow, RisesAbove}
use Rattle.ledger.specs.Next.{next, accept, with_order, new_order, transfer_lines}

-- a check: when it fails, and what is answered then
pub record Check : Type 1 where
  pub fails : Type 0
  pub refusal : Refusal
  pub line : ℕ

-- the refusal and the line of the first check that fails, or none
abbrev pub FirstFailure : List Check → Option (Refusal × ℕ) → Type 0
FirstFailure [] found = found ≡ None
FirstFailure (c ∷ cs) found = (c.fails × (found ≡ Some (c.refusal, c.line))) ⊎ ((c.fails → ⊥) × FirstFailure cs found)

-- a check that is not one of a line
abbrev pub check : Type 0 → Refusal → Check
check fails r = record { fails = fails; refusal = r; line = 0 }

-- So many places more do not fit beside those taken and those that open orders have set aside for their end.
abbrev pub full : Ledger → ℕ → Check
full A more = check (MAX_PLACES < places A + open_orders A + more) refusal.Full

-- there is no such field
abbrev pub no_field : Ledger → Name → ℕ → Check
no_field A f line = record { fails = IsNone (field_named A f); refusal = refusal.NoField; line = line }

-- B is the ledger that is tested: the one with the order line, the amount or the other bounds in it. A take fails where
-- some outcome of B is below the field's lower bound, an add where some outcome of B is above its upper bound.
abbrev pub bound : Way → Ledger → Name → ℕ → Check
bound way.Take B f line = record { fails = FallsBelow B f; refusal = refusal.TooLittle; line = line }
bound way.Add B f line = record { fails = RisesAbove B f; refusal = refusal.TooMuch; line = line }

-- there is no such order
abbrev pub no_order : Ledger → ℕ → Check
no_order A n = check (IsNone (order_numbered A n)) refusal.NoOrder

-- P holds of the order under that number
abbrev pub OfOrder : Ledger → ℕ → (Order → Type 0) → Type 0
OfOrder A n P = IsSomeAnd (order_numbered A n) P

-- the order has ended
abbrev pub ended : Ledger → ℕ → Check
ended A n = check (OfOrder A n (λ o. IsFalse (is_open o))) refusal.Ended

-- the order is firm
abbrev pub firm : Ledger → ℕ → Check
firm A n = check (OfOrder A n (λ o. IsTrue o.firm)) refusal.Firm

-- P holds of the line that the order under that number has on that field
abbrev pub OfLine : Ledger → ℕ → Name → (Line → Type 0) → Type 0
OfLine A n f P = OfOrder A n (λ o. IsSomeAnd (line_on o f) P)

-- the order has no line on the field
abbrev pub not_held : Ledger → ℕ → Name → Check
not_held A n f = check (OfOrder A n (λ o. IsNone (line_on o f))) refusal.NotHeld

-- more than what the order's line holds and has not used
abbrev pub over_use : Ledger → ℕ → Name → ℕ → Check
over_use A n f q = check (OfLine A n f (λ l. l.held < l.used + q)) refusal.OverUse

-- The checks of order lines, one after the other; `before` are the lines that the order has by then. Each line is
-- tested at the ledger in which the order has those lines and this one.
abbrev pub line_checks : Ledger → (List OpenLine → Order) → List OpenLine → List OpenLine → List Check
line_checks A order before [] = []
line_checks A order before (l ∷ ls) = let f = name_of l.branch l.article in
    record { fails = IsSome (line_on (order before) f); refusal = refusal.SameField; line = length before + 1 }
    ∷ no_field A f (length before + 1)
    ∷ bound l.way (with_order (order (before ++ l ∷ [])) A) f (length before + 1)
    ∷ line_checks A order (before ++ l ∷ []) ls

-- The checks of a new order, but for those of its lines. The order needs a place for the command, and one that is set
-- aside for its end.
abbrev pub order_checks : Ledger → ℕ → ℕ → List Check
order_checks A n until = full A 2 ∷ check (MAX_ORDERS ≤ length A.orders) refusal.Full
    ∷ check (IsSome (order_numbered A n)) refusal.OrderThere ∷ check (until ≤ A.clock) refusal.Past ∷ []

-- the checks of other bounds of a field that is there; the ledger tested has these bounds
abbrev pub bounds_checks : Ledger → Name → ℕ → ℕ → List Check
bounds_checks A f lo hi = let B = next A (Rebound f.branch f.article lo hi) in
    check (hi < lo) refusal.BadBounds ∷ bound way.Take B f 0 ∷ bound way.Add B f 0 ∷ []

-- the checks of a command that moves a field's value at once; the ledger tested is the next one
abbrev pub moving_checks : Ledger → Command → Way → Name → List Check
moving_checks A c w f = full A 1 ∷ no_field A f 0 ∷ bound w (next A c) f 0 ∷ []

-- the checks of a use and of a release, both of a part of what the order's line holds
abbrev pub part_checks : Ledger → ℕ → Name → ℕ → List Check
part_checks A n f q = full A 1 ∷ no_order A n ∷ ended A n ∷ not_held A n f ∷ over_use A n f q ∷ []

-- the checks of a commit: there is an open order under that number
abbrev pub open_checks : Ledger → ℕ → List Check
open_checks A n = no_order A n ∷ ended A n ∷ []

-- the checks of an abort: there is an open order under that number, and it is not firm
abbrev pub loose_checks : Ledger → ℕ → List Check
loose_checks A n = no_order A n ∷ ended A n ∷ firm A n ∷ []

-- the checks of a command, in their order
abbrev pub checks : Ledger → Command → List Check
checks A (Field b a lo hi start) = full A 1 ∷ check (MAX_FIELDS ≤ length A.fields) refusal.Full
    ∷ check (IsSome (field_named A (name_of b a))) refusal.FieldThere
    ∷ check ((lo ≤ start) × (start ≤ hi) → ⊥) refusal.BadBounds ∷ []
checks A (Deliver b a q) = moving_checks A (Deliver b a q) way.Add (name_of b a)
checks A (Writeoff b a q) = moving_checks A (Writeoff b a q) way.Take (name_of b a)
checks A (Rebound b a lo hi) = let f = name_of b a in full A 1 ∷ no_field A f 0 ∷ bounds_checks A f lo hi
checks A (Open n until lines) = order_checks A n until ++ line_checks A (new_order n kind.Plain until) [] lines
checks A (Transfer n until a from to q) = order_checks A n until
    ++ line_checks A (new_order n kind.Transfer until) [] (transfer_lines a from to q)
checks A (More n way b a q) = let f = name_of b a in
    full A 1 ∷ no_order A n ∷ ended A n ∷ firm A n
    ∷ check (OfOrder A n (λ o. IsTrue (is_transfer o))) refusal.TransferFixed
    ∷ no_field A f 0
    ∷ check (OfLine A n f (λ l. l.way ≢ way)) refusal.OtherWay
    ∷ check (OfOrder A n (λ o. IsNone (line_on o f) × (MAX_ORDER_LINES ≤ length o.lines))) refusal.TooManyLines
    ∷ bound way (next A (More n way b a q)) f 0 ∷ []
checks A (Use n b a q) = part_checks A n (name_of b a) q
checks A (Release n b a q) = part_checks A n (name_of b a) q
checks A (Commit n) = open_checks A n
checks A (Abort n) = loose_checks A n
checks A (Firm n) = full A 1 ∷ loose_checks A n
checks A (Expire now) = full A 1 ∷ check (now < A.clock) refusal.ClockBack ∷ []

-- two commands are the same if their spellings are; for commands in range that is equality, by a law
abbrev pub same_command : Command → Command → Bool
same_command c d = bytes_eq (spelling c) (spelling d)

-- the answer under a key that is not kept: the first check that fails, or the next place
abbrev pub AnswersNew : Ledger → Request → Reply → Ledger → Type 0
AnswersNew A r reply B = (found : Option (Refusal × ℕ)) × FirstFailure (checks A r.command) found
    × MatchOption found ((reply ≡ Done (places A + 1)) × (B ≡ accept A r)) (λ e. (reply ≡ Refused e.0 e.1) × (B ≡ A))

-- The request is answered with the reply, and B is the ledger after it. Under a key that is kept, the same command
-- gets its old place again, and another command is refused.
abbrev pub Answers : Ledger → Request → Reply → Ledger → Type 0
Answers A r reply B = MatchOption (kept_under A r.key) (AnswersNew A r reply B)
    (λ k. (reply ≡ (if same_command k.command r.command then Done k.place else Refused refusal.KeyReused 0)) × (B ≡ A))

-- the command is accepted: its key is not kept, and no check fails
abbrev pub IsAccepted : Ledger → Request → Type 0
IsAccepted A r = IsNone (kept_under A r.key) × FirstFailure (checks A r.command) None

-- A run: the requests are answered with the replies, in their order, and B is the ledger after them.
abbrev pub Runs : Ledger → List Request → List Reply → Ledger → Type 0
Runs A [] [] B = B ≡ A
Runs A (r ∷ rs) (reply ∷ replies) B = (M : Ledger) × Answers A r reply M × Runs M rs replies B
Runs A [] (reply ∷ replies) B = ⊥
Runs A (r ∷ rs) [] B = ⊥

-- the ledger after the first i requests
abbrev pub After : Ledger → List Request → ℕ → Ledger → Type 0
After A rs i B = (replies : List Reply) × Runs A (take i rs) replies B
