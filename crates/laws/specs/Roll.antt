-- What it means that a ledger stands for another, as one that is rolled up does, and which requests the two answer
-- alike.
use Rattle.std.specs.Prelude.{ℕ, ◌+◌, ◌<◌, ◌≡◌, ◌≢◌, Bool, List, [], ◌∷◌, Option, None, Some, IsFalse, IsSome}
use Rattle.std.specs.Prelude.{IsSomeAnd, IsTrue, MatchOption, ◌⊎◌, false}
use Rattle.std.specs.List.{AllByRecursion as Each, AllZip}
use Rattle.words.specs.declared.command.Request.{Request}
use Rattle.words.specs.declared.reply.Refusal.{Refusal}
use Rattle.words.specs.declared.reply.Refusal.TheVariants as refusal
use Rattle.words.specs.declared.reply.Reply.{Reply}
use Rattle.words.specs.declared.reply.Reply.TheVariants.{Done, Refused}
use Rattle.ledger.specs.declared.order.Line.{Line}
use Rattle.ledger.specs.Answers.{Answers, Check}
use Rattle.ledger.specs.Held.{held_to_add, held_to_take}
use Rattle.ledger.specs.Ledger.{Field, Kept, Ledger, Order, is_open, is_settled, kept_under, order_numbered, places}
use Rattle.ledger.specs.Outcomes.{settled}
use Rattle.ledger.specs.Rolled.{gone, is_recent_deal, rolled, stays}
use Rattle.laws.specs.Deals.{Names}

-- ---- what it means that one ledger stands for another

-- The field g of B stands for the field f of A.
pub record FieldStands (A B : Ledger) (f g : Field) : Type 0 where
  pub name : g.name ≡ f.name
  pub lo : g.lo ≡ f.lo
  pub hi : g.hi ≡ f.hi
  pub settled : settled B g ≡ settled A f

-- all that open orders hold on the field is the same, too, and so are the infimum and the supremum
pub record FieldHolds (A B : Ledger) (f g : Field) : Type 0 where
  pub stands : FieldStands A B f g
  pub takes : held_to_take B g.name ≡ held_to_take A f.name
  pub adds : held_to_add B g.name ≡ held_to_add A f.name

-- The line m stands for the line l. They hold the same beyond what they have used; where what their order uses is not
-- settled, they have used the same.
pub record LineStands (settled : Bool) (l m : Line) : Type 0 where
  pub way : m.way ≡ l.way
  pub branch : m.branch ≡ l.branch
  pub article : m.article ≡ l.article
  pub rest : m.held + l.used ≡ l.held + m.used
  pub loose : settled ≡ false → m.used ≡ l.used

pub record OrderStands (o p : Order) : Type 0 where
  pub number : p.number ≡ o.number
  pub kind : p.kind ≡ o.kind
  pub until : p.until ≡ o.until
  pub state : p.state ≡ o.state
  pub firm : p.firm ≡ o.firm
  pub lines : AllZip (LineStands (is_settled o)) o.lines p.lines

-- The orders ps stand for the orders os, of which some that have ended are left out.
abbrev pub OrdersStand : List Order → List Order → Type 0
OrdersStand [] [] = Unit {0}
OrdersStand [] (p ∷ ps) = ⊥
OrdersStand (o ∷ os) [] = IsFalse (is_open o) × OrdersStand os []
OrdersStand (o ∷ os) (p ∷ ps) =
    (OrderStands o p × OrdersStand os ps) ⊎ (IsFalse (is_open o) × OrdersStand os (p ∷ ps))

-- The key is kept d places lower, with its command.
pub record KeptStands (d : ℕ) (k j : Kept) : Type 0 where
  pub place : k.place ≡ j.place + d
  pub command : j.command ≡ k.command

-- What B keeps under a key stands for what A keeps under it. Where B keeps nothing, A keeps nothing either, or the key
-- at one of the first d places.
abbrev pub KeyStands : ℕ → Option Kept → Option Kept → Type 0
KeyStands d in_A in_B = MatchOption in_B (MatchOption in_A (Unit {0}) (λ k. k.place < d + 1))
    (λ j. IsSomeAnd in_A (λ k. KeptStands d k j))

-- B stands for A, d places lower.
pub record StandsFor (d : ℕ) (A B : Ledger) : Type 0 where
  pub clock : B.clock ≡ A.clock
  pub fields : AllZip (FieldStands A B) A.fields B.fields
  pub orders : OrdersStand A.orders B.orders
  pub places : places A ≡ places B + d
  pub kept : (key : List ℕ) → KeyStands d (kept_under A key) (kept_under B key)

-- ---- requests that are answered alike

-- B knows the key of the request, and the order that it names, where A knows them.
pub record Knows (A B : Ledger) (r : Request) : Type 0 where
  pub key : IsSome (kept_under A r.key) → IsSome (kept_under B r.key)
  pub order : (n : ℕ) → Names r.command n → IsSome (order_numbered A n) → IsSome (order_numbered B n)

-- The request names no key and no order that go where A is rolled up with its last K keys. Its key is not kept, or at
-- one of the last K places. The order that it names is not there, is open, or is one of a recent deal.
pub record NamesNothingGone (K : ℕ) (A : Ledger) (r : Request) : Type 0 where
  pub key : MatchOption (kept_under A r.key) (Unit {0}) (λ k. gone K A < k.place)
  pub order : (n : ℕ) → Names r.command n
      → MatchOption (order_numbered A n) (Unit {0}) (λ o. IsTrue (stays (is_recent_deal K A) o))

-- the reply, with its place d higher
abbrev pub raise_reply : ℕ → Reply → Reply
raise_reply d (Done place) = Done (place + d)
raise_reply d (Refused refusal line) = Refused refusal line

-- ---- checks, whether the ledger is full or not

-- the first check that fails and the refusal of which is not that the ledger is full, or none
abbrev pub FirstButFull : List Check → Option (Refusal × ℕ) → Type 0
FirstButFull [] found = found ≡ None
FirstButFull (c ∷ cs) found = ((c.refusal ≡ refusal.Full) × FirstButFull cs found)
    ⊎ ((c.refusal ≢ refusal.Full)
    × ((c.fails × (found ≡ Some (c.refusal, c.line))) ⊎ ((c.fails → ⊥) × FirstButFull cs found)))

-- no check finds the ledger full
abbrev pub NoneFull : List Check → Type 0
NoneFull [] = Unit {0}
NoneFull (c ∷ cs) = (c.refusal ≡ refusal.Full → c.fails → ⊥) × NoneFull cs

-- ---- rolls in between

-- what comes to a desk: a request, or that it is rolled up with its last K keys
pub data Event : Type 0 where
  Comes : Request → Event
  Rolls : ℕ → Event

-- the requests among them
abbrev pub requests_among : List Event → List Request
requests_among [] = []
requests_among (Comes r ∷ events) = r ∷ requests_among events
requests_among (Rolls K ∷ events) = requests_among events

-- A run with rolls in between: the desk goes from A through the events, and B is its ledger then. Before the run d
-- places have gone, and each reply is told with its place as many higher as places have gone by then.
abbrev pub RunsWithRolls : ℕ → Ledger → List Event → List Reply → Ledger → Type 0
RunsWithRolls d A [] [] B = B ≡ A
RunsWithRolls d A [] (told ∷ more) B = ⊥
RunsWithRolls d A (Comes r ∷ events) [] B = ⊥
RunsWithRolls d A (Comes r ∷ events) (told ∷ more) B =
    (reply : Reply) × (N : Ledger) × Answers A r reply N × (told ≡ raise_reply d reply)
    × RunsWithRolls d N events more B
RunsWithRolls d A (Rolls K ∷ events) told B = RunsWithRolls (d + gone K A) (rolled K A) events told B

-- at each roll, the requests that come after it name nothing that goes
abbrev pub NothingGoneIsNamed : Ledger → List Event → Type 0
NothingGoneIsNamed A [] = Unit {0}
NothingGoneIsNamed A (Comes r ∷ events) = (reply : Reply) (N : Ledger) → Answers A r reply N
    → NothingGoneIsNamed N events
NothingGoneIsNamed A (Rolls K ∷ events) = Each (NamesNothingGone K A) (requests_among events)
    × NothingGoneIsNamed (rolled K A) events
