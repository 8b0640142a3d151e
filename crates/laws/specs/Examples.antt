-- The worked examples of the desk's rules: scripts from a new desk, with the reply to each request and the numbers
-- that the ledger then shows.
use Prim.Native.String.{String}
use Rattle.std.specs.Prelude.{ℕ, pos, ◌≡◌, List, [], ◌∷◌, IsSomeAnd, codes}
use Rattle.std.specs.List.{AllByRecursion as Each}
use Rattle.escrow.specs.declared.quantity.Way.{Way}
use Rattle.escrow.specs.declared.quantity.Way.TheVariants.{Take, Add}
use Rattle.words.specs.declared.open_line.OpenLine.{OpenLine}
use Rattle.words.specs.declared.command.Command.{Command}
use Rattle.words.specs.declared.command.Command.TheVariants.{Abort, Commit, Deliver, Expire, Field, Firm, More, Open}
use Rattle.words.specs.declared.command.Command.TheVariants.{Rebound, Release, Transfer, Use}
use Rattle.words.specs.declared.command.Request.{Request}
use Rattle.words.specs.declared.reply.Refusal.TheVariants as refusal
use Rattle.words.specs.declared.reply.Refusal.TheVariants.{KeyReused, FieldThere, NoOrder, NoField, BadBounds}
use Rattle.words.specs.declared.reply.Refusal.TheVariants.{OrderThere, Ended, Past, SameField, OtherWay, TooLittle}
use Rattle.words.specs.declared.reply.Refusal.TheVariants.{TooMuch, NotHeld, OverUse, TransferFixed, ClockBack}
use Rattle.words.specs.declared.reply.Reply.{Reply}
use Rattle.words.specs.declared.reply.Reply.TheVariants.{Done, Refused}
use Rattle.ledger.specs.Ledger.{Ledger, field_named, name_of}
use Rattle.ledger.specs.Outcomes.{settled, article_total, IsInfimum, IsSupremum}
use Rattle.ledger.specs.Answers.{Answers}

-- numbers that a ledger shows: the settled value, the infimum and the supremum of a field, or the total of an article
pub data Numbers : Type 0 where
  numbers : (branch article : List ℕ) (value infimum supremum : ℕ) → Numbers
  total : (article : List ℕ) (amount : ℕ) → Numbers

-- The field is there and has these numbers; the article has this total.
abbrev pub Shows : Ledger → Numbers → Type 0
Shows A (numbers branch article value infimum supremum) = IsSomeAnd (field_named A (name_of branch article))
    (λ f. (settled A f ≡ pos value) × IsInfimum A f (pos infimum) × IsSupremum A f (pos supremum))
Shows A (total article amount) = article_total A article ≡ pos amount

-- a line of a script: a request, its reply, and numbers that the ledger then shows; an empty list says nothing about
-- them
pub record Step : Type 0 where
  pub request : Request
  pub reply : Reply
  pub seen : List Numbers

-- Each request gets this reply at the ledger that those before it leave, and leaves these numbers.
abbrev pub Plays : Ledger → List Step → Type 0
Plays A [] = Unit {0}
Plays A (s ∷ ss) = (B : Ledger) × Answers A s.request s.reply B × Each (Shows B) s.seen × Plays B ss

-- ---- how the scripts are written

-- a line of a script, which begins with its key
abbrev step : String → Command → Reply → List Numbers → Step
step key c reply seen = record { request = record { key = codes key; command = c }; reply = reply; seen = seen }

-- an order line
abbrev line : Way → List ℕ → List ℕ → ℕ → OpenLine
line w b a q = record { way = w; branch = b; article = a; qty = q }

-- the codes of branches and of articles, these written without their hyphen
abbrev N1 : List ℕ
N1 = codes "N1"

abbrev N2 : List ℕ
N2 = codes "N2"

abbrev A1 : List ℕ
A1 = codes "A-1"

abbrev B2 : List ℕ
B2 = codes "B-2"

abbrev B9 : List ℕ
B9 = codes "B-9"

abbrev C3 : List ℕ
C3 = codes "C-3"

abbrev D1 : List ℕ
D1 = codes "D-1"

abbrev E1 : List ℕ
E1 = codes "E-1"

-- ---- the scripts

-- One field from its start to its last expiry.
abbrev pub long_script : List Step
long_script = step "K1" (Field N1 A1 0 100 40) (Done 1) (numbers N1 A1 40 40 40 ∷ [])
    ∷ step "K2" (Open 7 120 (line Take N1 A1 35 ∷ [])) (Done 2) (numbers N1 A1 40 5 40 ∷ [])
    ∷ step "K3" (Open 8 120 (line Take N1 A1 6 ∷ [])) (Refused TooLittle 1) (numbers N1 A1 40 5 40 ∷ [])
    ∷ step "K4" (Open 8 120 (line Take N1 A1 5 ∷ [])) (Done 3) (numbers N1 A1 40 0 40 ∷ [])
    ∷ step "K5" (Deliver N1 A1 60) (Done 4) (numbers N1 A1 100 60 100 ∷ [])
    ∷ step "K6" (Deliver N1 A1 1) (Refused TooMuch 0) []
    ∷ step "K7" (Use 7 N1 A1 20) (Done 5) []
    ∷ step "K8" (Commit 7) (Done 6) (numbers N1 A1 80 75 80 ∷ [])
    -- the key stays kept, though the order has ended
    ∷ step "K2" (Open 7 120 (line Take N1 A1 35 ∷ [])) (Done 2) []
    ∷ step "K2" (Open 7 120 (line Take N1 A1 36 ∷ [])) (Refused KeyReused 0) []
    ∷ step "K9" (Expire 120) (Done 7) (numbers N1 A1 80 80 80 ∷ [])
    ∷ step "K10" (Open 9 120 (line Take N1 A1 1 ∷ [])) (Refused Past 0) []
    ∷ step "K11" (Open 9 500 (line Take N1 A1 5 ∷ line Take N1 B9 1 ∷ [])) (Refused NoField 2)
    (numbers N1 A1 80 80 80 ∷ [])
    ∷ []

-- A field that can neither fall nor rise, and one whose bounds are the wrong way round.
abbrev pub tight_bounds : List Step
tight_bounds = step "Z1" (Field N1 D1 5 5 5) (Done 1) []
    ∷ step "Z2" (Open 40 500 (line Take N1 D1 1 ∷ [])) (Refused TooLittle 1) []
    ∷ step "Z3" (Open 40 500 (line Add N1 D1 1 ∷ [])) (Refused TooMuch 1) []
    ∷ step "Z4" (Field N1 E1 5 4 5) (Refused BadBounds 0) []
    ∷ []

-- A transfer that commits, and one that expires.
abbrev pub transfer : List Step
transfer = step "T1" (Field N1 A1 0 100 40) (Done 1) []
    ∷ step "T2" (Field N2 A1 0 50 5) (Done 2) (total A1 45 ∷ [])
    ∷ step "T3" (Transfer 20 900 A1 N1 N2 10) (Done 3) (numbers N1 A1 40 30 40 ∷ numbers N2 A1 5 5 15 ∷ [])
    ∷ step "T4" (Use 20 N2 A1 4) (Done 4) []
    ∷ step "T5" (More 20 Take N1 A1 1) (Refused TransferFixed 0) []
    ∷ step "T6" (Commit 20) (Done 5) (numbers N1 A1 36 36 36 ∷ numbers N2 A1 9 9 9 ∷ total A1 45 ∷ [])
    ∷ step "T7" (Transfer 21 900 A1 N1 N1 1) (Refused SameField 2) []
    ∷ step "T8" (Transfer 22 900 A1 N2 N1 9) (Done 6) (numbers N1 A1 36 36 45 ∷ numbers N2 A1 9 0 9 ∷ [])
    ∷ step "T9" (Release 22 N1 A1 4) (Done 7) (numbers N1 A1 36 36 41 ∷ numbers N2 A1 9 4 9 ∷ [])
    ∷ step "T10" (Expire 899) (Done 8) []
    ∷ step "T11" (Expire 900) (Done 9) (numbers N1 A1 36 36 36 ∷ numbers N2 A1 9 9 9 ∷ [])
    ∷ step "T12" (Expire 899) (Refused ClockBack 0) []
    ∷ step "T13" (Expire 900) (Done 10) []
    ∷ []

-- Parts of an order go back, and then all of it.
abbrev pub release_and_abort : List Step
release_and_abort = step "P1" (Field N1 A1 0 100 40) (Done 1) []
    ∷ step "P2" (Field N1 B2 0 10 0) (Done 2) []
    ∷ step "P3" (Open 5 300 (line Take N1 A1 10 ∷ [])) (Done 3) []
    ∷ step "P4" (More 5 Take N1 A1 5) (Done 4) (numbers N1 A1 40 25 40 ∷ [])
    ∷ step "P5" (More 5 Add N1 A1 1) (Refused OtherWay 0) []
    ∷ step "P6" (More 5 Add N1 B2 10) (Done 5) (numbers N1 B2 0 0 10 ∷ [])
    ∷ step "P7" (Use 5 N1 A1 6) (Done 6) []
    ∷ step "P8" (Release 5 N1 A1 10) (Refused OverUse 0) []
    ∷ step "P9" (Release 5 N1 A1 9) (Done 7) (numbers N1 A1 40 34 40 ∷ [])
    ∷ step "P10" (Use 5 N1 C3 1) (Refused NotHeld 0) []
    ∷ step "P11" (Deliver N1 B2 1) (Refused TooMuch 0) []
    ∷ step "P12" (Abort 5) (Done 8) (numbers N1 A1 40 40 40 ∷ numbers N1 B2 0 0 0 ∷ [])
    ∷ step "P13" (Use 5 N1 A1 1) (Refused Ended 0) []
    ∷ []

-- A field gets other bounds while an order is open.
abbrev pub other_bounds : List Step
other_bounds = step "B1" (Field N1 A1 0 100 40) (Done 1) []
    ∷ step "B2" (Open 7 500 (line Take N1 A1 35 ∷ [])) (Done 2) (numbers N1 A1 40 5 40 ∷ [])
    ∷ step "B3" (Rebound N1 A1 6 39) (Refused TooLittle 0) []
    ∷ step "B4" (Rebound N1 A1 5 39) (Refused TooMuch 0) []
    ∷ step "B5" (Rebound N1 A1 41 40) (Refused BadBounds 0) []
    ∷ step "B6" (Rebound N1 B9 0 1) (Refused NoField 0) []
    ∷ step "B7" (Rebound N1 A1 5 40) (Done 3) (numbers N1 A1 40 5 40 ∷ [])
    ∷ step "B8" (Deliver N1 A1 1) (Refused TooMuch 0) []
    ∷ []

-- What a firm order has used is settled at once; it is neither aborted nor expired.
abbrev pub firm_order : List Step
firm_order = step "H1" (Field N1 A1 0 50 40) (Done 1) []
    ∷ step "H2" (Open 7 120 (line Take N1 A1 15 ∷ [])) (Done 2) (numbers N1 A1 40 25 40 ∷ [])
    ∷ step "H3" (Use 7 N1 A1 10) (Done 3) (numbers N1 A1 40 25 40 ∷ [])
    ∷ step "H4" (Deliver N1 A1 20) (Refused TooMuch 0) []
    ∷ step "H5" (Firm 7) (Done 4) (numbers N1 A1 30 25 30 ∷ [])
    ∷ step "H6" (Firm 7) (Refused refusal.Firm 0) []
    ∷ step "H7" (Abort 7) (Refused refusal.Firm 0) []
    ∷ step "H8" (More 7 Take N1 A1 1) (Refused refusal.Firm 0) []
    ∷ step "H4" (Deliver N1 A1 20) (Done 5) (numbers N1 A1 50 45 50 ∷ [])
    ∷ step "H9" (Expire 120) (Done 6) (numbers N1 A1 50 45 50 ∷ [])
    ∷ step "H10" (Use 7 N1 A1 2) (Done 7) (numbers N1 A1 48 45 48 ∷ [])
    ∷ step "H11" (Commit 7) (Done 8) (numbers N1 A1 48 48 48 ∷ [])
    ∷ step "H12" (Firm 7) (Refused Ended 0) []
    ∷ step "H13" (Firm 8) (Refused NoOrder 0) []
    ∷ []

-- A transfer that is made firm, used, not expired, and commits: the article's total stays.
abbrev pub firm_transfer : List Step
firm_transfer = step "T1" (Field N1 A1 0 100 40) (Done 1) []
    ∷ step "T2" (Field N2 A1 0 50 5) (Done 2) (total A1 45 ∷ [])
    ∷ step "T3" (Transfer 20 900 A1 N1 N2 10) (Done 3) (numbers N1 A1 40 30 40 ∷ numbers N2 A1 5 5 15 ∷ [])
    ∷ step "T4" (Use 20 N2 A1 4) (Done 4) (numbers N1 A1 40 30 40 ∷ numbers N2 A1 5 5 15 ∷ [])
    ∷ step "T5" (Firm 20) (Done 5) (numbers N1 A1 36 30 36 ∷ numbers N2 A1 9 9 15 ∷ total A1 45 ∷ [])
    ∷ step "T6" (Use 20 N1 A1 3) (Done 6) (numbers N1 A1 33 30 33 ∷ numbers N2 A1 12 12 15 ∷ total A1 45 ∷ [])
    ∷ step "T7" (Expire 900) (Done 7) (numbers N1 A1 33 30 33 ∷ numbers N2 A1 12 12 15 ∷ total A1 45 ∷ [])
    ∷ step "T8" (Release 20 N2 A1 1) (Done 8) (numbers N1 A1 33 31 33 ∷ numbers N2 A1 12 12 14 ∷ [])
    ∷ step "T9" (Commit 20) (Done 9) (numbers N1 A1 33 33 33 ∷ numbers N2 A1 12 12 12 ∷ total A1 45 ∷ [])
    ∷ []

-- Of two checks that fail, the earlier one is told. Each refused request here fails two checks or more, between which no
-- other check can fail with both. (A desk that is full, and an order of 64 lines, are left out.)
abbrev pub two_checks_fail : List Step
two_checks_fail = step "C1" (Field N1 A1 0 100 40) (Done 1) []
    ∷ step "C2" (Field N2 A1 0 50 5) (Done 2) []
    ∷ step "C3" (Open 7 500 (line Take N1 A1 10 ∷ [])) (Done 3) (numbers N1 A1 40 30 40 ∷ [])
    ∷ step "C4" (Transfer 20 500 A1 N1 N2 1) (Done 4) (numbers N1 A1 40 29 40 ∷ [])
    ∷ step "C5" (Firm 20) (Done 5) []
    ∷ step "C6" (Transfer 21 500 A1 N1 N2 1) (Done 6) (numbers N1 A1 40 28 40 ∷ [])
    -- of all commands
    ∷ step "C1" (Field N1 A1 0 100 41) (Refused KeyReused 0) []
    -- of `field` and `rebound`
    ∷ step "C7" (Field N1 A1 5 4 5) (Refused FieldThere 0) []
    ∷ step "C8" (Rebound N1 B9 5 4) (Refused NoField 0) []
    ∷ step "C9" (Rebound N1 A1 40 39) (Refused BadBounds 0) []
    ∷ step "C10" (Rebound N1 A1 29 39) (Refused TooLittle 0) []
    -- of `open` and `transfer`
    ∷ step "C11" (Open 7 0 (line Take N1 A1 1 ∷ [])) (Refused OrderThere 0) []
    ∷ step "C12" (Open 8 0 (line Take N1 B9 1 ∷ [])) (Refused Past 0) []
    ∷ step "C13" (Open 8 0 (line Take N1 A1 99 ∷ [])) (Refused Past 0) []
    ∷ step "C14" (Open 8 500 (line Take N1 B9 1 ∷ line Take N1 B9 1 ∷ [])) (Refused NoField 1) []
    ∷ step "C15" (Open 8 500 (line Take N1 A1 99 ∷ line Take N1 A1 1 ∷ [])) (Refused TooLittle 1) []
    ∷ step "C16" (Open 8 500 (line Take N1 A1 1 ∷ line Take N1 A1 99 ∷ [])) (Refused SameField 2) []
    ∷ step "C17" (Transfer 7 0 A1 N1 N1 1) (Refused OrderThere 0) []
    ∷ step "C18" (Transfer 22 500 A1 N1 N1 99) (Refused TooLittle 1) []
    -- of `more`
    ∷ step "C19" (More 9 Take N1 B9 1) (Refused NoOrder 0) []
    ∷ step "C20" (More 20 Take N1 A1 1) (Refused refusal.Firm 0) []
    ∷ step "C21" (More 21 Take N1 B9 1) (Refused TransferFixed 0) []
    -- of orders that have ended
    ∷ step "C22" (Firm 7) (Done 7) []
    ∷ step "C23" (Commit 7) (Done 8) []
    ∷ step "C24" (Abort 7) (Refused Ended 0) []
    ∷ step "C25" (Firm 7) (Refused Ended 0) []
    ∷ step "C26" (More 7 Take N1 A1 1) (Refused Ended 0) []
    ∷ step "C27" (Commit 21) (Done 9) []
    ∷ step "C28" (More 21 Take N1 B9 1) (Refused Ended 0) []
    ∷ step "C29" (Use 7 N1 B9 1) (Refused Ended 0) []
    ∷ step "C30" (Release 7 N1 A1 99) (Refused Ended 0) []
    ∷ []
