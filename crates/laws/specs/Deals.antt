-- A deal between desks: under one number there is an order at each. Together the orders move all that they hold or
-- nothing, whatever stops where. The first desk's commit decides. Each command of the deal rests on a fact which, by
-- a law, stays once it is so. So the command may come late, twice, or from two that carry the deal on at once.
use Rattle.std.specs.Prelude.{ℕ, ◌+◌, ◌<◌, ◌≤◌, ◌≡◌, ℤ, pos, ◌+ℤ◌, List, [], ◌∷◌, length, ◌⊎◌, IsSome, IsNone, IsTrue}
use Rattle.std.specs.Prelude.{IsFalse, if◌then◌else◌}
use Rattle.std.specs.Str.{bytes_eq}
use Rattle.std.specs.List.{AllByRecursion as Each}
use Rattle.std.specs.Option.{option_map_or}
use Rattle.escrow.specs.Codes.{IsKey}
use Rattle.escrow.specs.declared.quantity.Way.TheVariants.{Add}
use Rattle.words.specs.Spelling.{IsInRange}
use Rattle.words.specs.declared.open_line.OpenLine.{OpenLine}
use Rattle.words.specs.declared.command.Command.{Command}
use Rattle.words.specs.declared.command.Command.TheVariants.{Open, Transfer, More, Use, Release, Commit, Abort, Firm, Expire}
use Rattle.words.specs.declared.command.Request.{Request}
use Rattle.words.specs.declared.reply.Reply.{Reply}
use Rattle.words.specs.declared.reply.Reply.TheVariants.{Done}
use Rattle.ledger.specs.declared.limits.TheConstants.{MAX_PLACES}
use Rattle.ledger.specs.Good.{Good}
use Rattle.ledger.specs.Ledger.{Field as FieldOf, Ledger, Name, Order, is_open, is_settled, kept_under, name_of}
use Rattle.ledger.specs.Ledger.{open_orders, order_numbered, places, same_name}
use Rattle.ledger.specs.Outcomes.{part_of, settled, settled_part, share_of, signed, total}
use Rattle.ledger.specs.Answers.{Answers, OfOrder}

-- one side of a deal: what the order at the desk is to move, and the desk's ledger
pub record Side : Type 0 where
  pub lines : List OpenLine
  pub ledger : Ledger

-- a deal, as it stands at one time
pub record Deal : Type 0 where
  -- the number of its orders at all desks
  pub number : ℕ
  -- the moment of the other desks' orders, to which no expiry comes there
  pub until : ℕ
  -- the desk whose commit decides
  pub first : Side
  pub others : List Side

-- ---- what stays once it is so

-- the order is there
abbrev pub IsThere : ℕ → Side → Type 0
IsThere n s = IsSome (order_numbered s.ledger n)

abbrev pub AllUsed : Order → Type 0
AllUsed o = Each (λ l. l.used ≡ l.held) o.lines

-- the order has ended, and what it used is settled
abbrev pub IsCommitted : Order → Type 0
IsCommitted o = IsFalse (is_open o) × IsTrue (is_settled o)

-- the order has ended, and nothing is settled
abbrev pub IsAborted : Order → Type 0
IsAborted o = IsFalse (is_open o) × IsFalse (is_settled o)

-- the order has used all that it holds
abbrev pub HasUsed : ℕ → Side → Type 0
HasUsed n s = OfOrder s.ledger n AllUsed

abbrev pub HasCommitted : ℕ → Side → Type 0
HasCommitted n s = OfOrder s.ledger n IsCommitted

abbrev pub HasAborted : ℕ → Side → Type 0
HasAborted n s = OfOrder s.ledger n IsAborted

-- what holds for the order at s holds for it at t
pub record Keeps (n : ℕ) (s t : Side) : Type 0 where
  pub there : IsThere n s → IsThere n t
  pub used : HasUsed n s → HasUsed n t
  pub committed : HasCommitted n s → HasCommitted n t
  pub aborted : HasAborted n s → HasAborted n t

-- ---- what a desk may be sent

-- the facts on which the commands of an order rest
pub record Guards : Type 1 where
  -- for an opening until that moment
  pub opens : ℕ → Type 0
  pub commits : Type 0
  pub aborts : Type 0
  -- for an expiry at that moment
  pub expires : ℕ → Type 0

-- The first order may be committed once all orders have used all. It may be opened until any moment, and ended at
-- any.
abbrev pub first_guards : Deal → Guards
first_guards d = record {
  opens = λ until. Unit {0};
  commits = HasUsed d.number d.first × Each (HasUsed d.number) d.others;
  aborts = Unit {0};
  expires = λ now. Unit {0};
}

-- Another order may be opened once the first is there, and may be ended as the first has ended.
abbrev pub other_guards : Deal → Guards
other_guards d = record {
  opens = λ until. IsThere d.number d.first × (until ≡ d.until);
  commits = HasCommitted d.number d.first;
  aborts = HasAborted d.number d.first;
  expires = λ now. now < d.until;
}

-- the command names the order
abbrev pub Names : Command → ℕ → Type 0
Names (Open m until lines) n = m ≡ n
Names (Transfer m until a from to q) n = m ≡ n
Names (More m way b a q) n = m ≡ n
Names (Use m b a q) n = m ≡ n
Names (Release m b a q) n = m ≡ n
Names (Commit m) n = m ≡ n
Names (Abort m) n = m ≡ n
Names (Firm m) n = m ≡ n
Names c n = ⊥

-- Whether a command may be sent, by the guards of an order of these lines. A command that does not name the order may
-- always be sent, and so may each use.
abbrev pub MaySend : ℕ → List OpenLine → Guards → Command → Type 0
MaySend n lines g (Open m until opened) = m ≡ n → g.opens until × (opened ≡ lines)
MaySend n lines g (Use m b a q) = Unit {0}
MaySend n lines g (Commit m) = m ≡ n → g.commits
MaySend n lines g (Abort m) = m ≡ n → g.aborts
MaySend n lines g (Expire now) = g.expires now
MaySend n lines g c = Names c n → ⊥

-- ---- what the desks answer, in the order in which they do

-- A request that may be sent comes to the desk of s, which answers it; t is that side after the answer.
pub record IsAnswered (n : ℕ) (g : Guards) (r : Request) (reply : Reply) (s t : Side) : Type 0 where
  pub may : MaySend n s.lines g r.command
  pub answers : Answers s.ledger r reply t.ledger
  pub lines : t.lines ≡ s.lines

-- one of the sides goes on to another, and the others stay
abbrev pub OneGoes : (Side → Side → Type 0) → List Side → List Side → Type 0
OneGoes Goes [] ts = ⊥
OneGoes Goes (s ∷ ss) [] = ⊥
OneGoes Goes (s ∷ ss) (t ∷ ts) = (Goes s t × (ts ≡ ss)) ⊎ ((t ≡ s) × OneGoes Goes ss ts)

-- the first desk, or one of the others, is sent a request and answers it
pub data Turn : Type 0 where
  AtFirst : Request → Reply → Turn
  AtOther : Request → Reply → Turn

-- the deal goes from d to e, by requests each of which may be sent when it arrives
abbrev pub Course : Deal → List Turn → Deal → Type 0
Course d [] e = e ≡ d
Course d (AtFirst r reply ∷ turns) e =
    (t : Side) × IsAnswered d.number (first_guards d) r reply d.first t × Course (record d { first = t }) turns e
Course d (AtOther r reply ∷ turns) e =
    (ts : List Side) × OneGoes (IsAnswered d.number (other_guards d) r reply) d.others ts
    × Course (record d { others = ts }) turns e

-- no desk has had an order under the number
abbrev pub IsNew : Deal → Type 0
IsNew d = IsNone (order_numbered d.first.ledger d.number) × Each (λ s. IsNone (order_numbered s.ledger d.number)) d.others

-- ---- where a deal can stand

-- what the order has moved on the field, up or down, if that is settled
abbrev pub moved_under : Ledger → ℕ → Name → ℤ
moved_under A n f = option_map_or (part_of settled_part f) (order_numbered A n) (pos 0)

-- what the lines are to move on the field
abbrev pub moved_by_lines : Name → List OpenLine → ℤ
moved_by_lines f lines =
    total (λ l. if same_name f (name_of l.branch l.article) then signed l.way l.qty else pos 0) lines

-- under each key that is not kept, the desk accepts the command, and then this holds
abbrev pub IsTaken : Side → Command → (Side → Type 0) → Type 0
IsTaken s c Then = (key : List ℕ) → IsNone (kept_under s.ledger key)
    → (A : Ledger) × Answers s.ledger (record { key = key; command = c }) (Done (places s.ledger + 1)) A
    × Then (record s { ledger = A })

-- Nothing is moved there; and if the order is open, it can be aborted, also at a full desk.
pub record HasMovedNothing (n : ℕ) (s : Side) : Type 0 where
  pub moved : (f : Name) → moved_under s.ledger n f ≡ pos 0
  pub aborts : OfOrder s.ledger n (λ o. IsTrue (is_open o)) → IsTaken s (Abort n) (HasAborted n)

-- all is moved there, and the order is committed
pub record HasMovedAll (n : ℕ) (s : Side) : Type 0 where
  pub moved : (f : Name) → moved_under s.ledger n f ≡ moved_by_lines f s.lines
  pub committed : HasCommitted n s

-- Nothing is moved there yet. The desk does not refuse the commit that moves all there, also when it is full.
pub record IsUnderWay (n : ℕ) (s : Side) : Type 0 where
  pub moved : (f : Name) → moved_under s.ledger n f ≡ pos 0
  pub commits : IsTaken s (Commit n) (HasMovedAll n)

abbrev pub NothingMoved : Deal → Type 0
NothingMoved d = HasMovedNothing d.number d.first × Each (HasMovedNothing d.number) d.others

-- all is moved at the first desk, and at each other desk all is moved or under way
abbrev pub AllMovedOrUnderWay : Deal → Type 0
AllMovedOrUnderWay d =
    HasMovedAll d.number d.first × Each (λ s. HasMovedAll d.number s ⊎ IsUnderWay d.number s) d.others

abbrev pub AllMoved : Deal → Type 0
AllMoved d = HasMovedAll d.number d.first × Each (HasMovedAll d.number) d.others

-- ---- how it is ended

abbrev pub IsDone : Reply → Type 0
IsDone reply = (place : ℕ) × (reply ≡ Done place)

-- a commit or an abort of one of the orders, which is done
abbrev pub IsEnd : ℕ → Turn → Type 0
IsEnd n (AtFirst r reply) = (r.command ≡ Abort n) × IsDone reply
IsEnd n (AtOther r reply) = ((r.command ≡ Commit n) ⊎ (r.command ≡ Abort n)) × IsDone reply

-- the order is not open
abbrev pub IsOver : ℕ → Side → Type 0
IsOver n s = OfOrder s.ledger n (λ o. IsTrue (is_open o)) → ⊥

-- There is a course of such commands that brings the deal to its end, no more of them than there are desks: then all is
-- moved, or nothing.
pub record ComesToAnEnd (d : Deal) : Type 0 where
  pub turns : List Turn
  pub end : Deal
  pub course : Course d turns end
  pub ends : Each (IsEnd d.number) turns
  pub few : length turns ≤ length d.others + 1
  pub over : IsOver d.number end.first × Each (IsOver d.number) end.others
  pub so : NothingMoved end ⊎ AllMoved end

-- the key is not kept at the desk
abbrev pub IsFree : List ℕ → Side → Type 0
IsFree key s = IsNone (kept_under s.ledger key)

-- ---- what a deal does to stock

-- the request, in range, names the order
abbrev pub IsOwnRequest : ℕ → Request → Type 0
IsOwnRequest n r = Names r.command n × IsKey r.key × IsInRange r.command

abbrev pub IsOwn : ℕ → Turn → Type 0
IsOwn n (AtFirst r reply) = IsOwnRequest n r
IsOwn n (AtOther r reply) = IsOwnRequest n r

-- from s to t each field's settled value changes by what the order has moved there
abbrev pub ChangesByOrder : ℕ → Side → Side → Type 0
ChangesByOrder n s t = (f : FieldOf) → settled t.ledger f ≡ settled s.ledger f +ℤ moved_under t.ledger n f.name

-- what the lines are to move of the article
abbrev pub article_of_lines : List ℕ → List OpenLine → ℤ
article_of_lines a lines = total (λ l. if bytes_eq l.article a then signed l.way l.qty else pos 0) lines

-- what the order has moved of the article, if that is settled
abbrev pub article_of_order : List ℕ → Order → ℤ
article_of_order a o =
    total (λ l. if bytes_eq l.article a then settled_part l.way (share_of o.state o.firm l) else pos 0) o.lines

abbrev pub article_moved : ℕ → List ℕ → Side → ℤ
article_moved n a s = option_map_or (article_of_order a) (order_numbered s.ledger n) (pos 0)

-- what the orders at all desks together have moved of the article
abbrev pub moved_in_all : Deal → List ℕ → ℤ
moved_in_all d a = article_moved d.number a d.first +ℤ total (article_moved d.number a) d.others

-- A transfer: the other desks only add, and together they add as much of each article as the first takes, less what the
-- first adds.
pub record IsTransfer (d : Deal) : Type 0 where
  pub adds : Each (λ s. Each (λ l. l.way ≡ Add) s.lines) d.others
  pub even : (a : List ℕ) → article_of_lines a d.first.lines +ℤ total (λ s. article_of_lines a s.lines) d.others ≡ pos 0

-- ---- how it goes through

-- The ledger is good; the order is open and has used nothing; there is a place free and a key for each use; and the keys
-- are not kept.
pub record IsReady (n : ℕ) (commit : List ℕ) (uses : List (List ℕ)) (s : Side) : Type 0 where
  pub good : Good s.ledger
  pub live : OfOrder s.ledger n (λ o. IsTrue (is_open o))
  pub unused : OfOrder s.ledger n (λ o. Each (λ l. l.used ≡ 0) o.lines)
  pub room : places s.ledger + open_orders s.ledger + length s.lines ≤ MAX_PLACES
  pub enough : length s.lines ≤ length uses
  pub commit_free : IsFree commit s
  pub uses_free : Each (λ key. IsFree key s) uses

-- some course leads on to an end at which all is moved
pub record GoesThrough (d : Deal) : Type 0 where
  pub turns : List Turn
  pub end : Deal
  pub course : Course d turns end
  pub all : AllMoved end
