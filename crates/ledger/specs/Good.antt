-- The good ledgers: codes and numbers are in range, all that an entry names is there, the limits are kept, and every
-- field is safe. It is not asked whether the kept commands would lead to the ledger.
use Rattle.std.specs.Prelude.{◌+◌, ◌≤◌, ◌≡◌, ◌≢◌, List, [], ◌∷◌, length, map, nat_abs, IsTrue, IsSome, nat_eq}
use Rattle.std.specs.Ordering.{nat_cmp}
use Rattle.std.specs.Cmp.Lexicographic.{slice_cmp}
use Rattle.std.specs.List.{AllByRecursion as Each, IsDistinct}
use Rattle.std.specs.List.Sorted.{IsStrictlySortedBy}
use Rattle.escrow.specs.declared.quantity.Way.TheVariants.{Take, Add}
use Rattle.escrow.specs.Codes.{IsBranch, IsArticle, IsKey}
use Rattle.escrow.specs.Ranges.{IsLevel, IsMoment, IsOrderNo, IsQty}
use Rattle.words.specs.Spelling.{IsInRange}
use Rattle.words.specs.declared.limits.TheConstants.{MAX_ORDER_LINES}
use Rattle.ledger.specs.declared.limits.TheConstants.{MAX_FIELDS, MAX_ORDERS, MAX_PLACES}
use Rattle.ledger.specs.declared.order.State.TheVariants.{Aborted}
use Rattle.ledger.specs.declared.order.Line.{Line}
use Rattle.ledger.specs.Ledger.{Field, Move, Order, Kept, Ledger, places, name_cmp, same_name, line_name, is_transfer}
use Rattle.ledger.specs.Ledger.{open_orders, field_named}
use Rattle.ledger.specs.Outcomes.{IsSafe}

-- a good field: its codes have their forms, and its numbers are levels
pub record IsGoodField (f : Field) : Type 0 where
  pub branch : IsBranch f.name.branch
  pub article : IsArticle f.name.article
  pub lo : IsLevel f.lo
  pub hi : IsLevel f.hi
  pub start : IsLevel f.start

-- a good move: its place is taken, its field is there, and its amount is a quantity, up or down
pub record IsGoodMove (A : Ledger) (m : Move) : Type 0 where
  pub first : 1 ≤ m.place
  pub last : m.place ≤ places A
  pub field : IsSome (field_named A m.field)
  pub size : IsQty (nat_abs m.amount)

-- a good order line: its field is there, and no more is used than is held
pub record IsGoodLine (A : Ledger) (l : Line) : Type 0 where
  pub field : IsSome (field_named A (line_name l))
  pub held : IsLevel l.held
  pub used : l.used ≤ l.held

-- two lines: a take, then an add of the same article, with equal held and equal used
abbrev pub IsTransferPair : List Line → Type 0
IsTransferPair (l ∷ m ∷ []) =
    (l.way ≡ Take) × (m.way ≡ Add) × (l.article ≡ m.article) × (l.held ≡ m.held) × (l.used ≡ m.used)
IsTransferPair ls = ⊥

-- a good order: it has 1 to 64 good lines on different fields, a transfer exactly its pair; a firm order was not
-- aborted
pub record IsGoodOrder (A : Ledger) (o : Order) : Type 0 where
  pub number : IsOrderNo o.number
  pub until : IsMoment o.until
  pub some : 1 ≤ length o.lines
  pub few : length o.lines ≤ MAX_ORDER_LINES
  pub lines : Each (IsGoodLine A) o.lines
  -- no two lines are on one field
  pub apart : IsDistinct same_name (map line_name o.lines)
  pub transfer : IsTrue (is_transfer o) → IsTransferPair o.lines
  -- only an open or a committed order is firm
  pub firm : IsTrue o.firm → o.state ≢ Aborted

-- a good kept key: the key has its form, and the command is in range
pub record IsGoodKept (k : Kept) : Type 0 where
  pub key : IsKey k.key
  pub command : IsInRange k.command

pub record Good (A : Ledger) : Type 0 where
  pub clock : IsMoment A.clock
  pub fields : Each IsGoodField A.fields
  pub fields_in_order : IsStrictlySortedBy name_cmp (map (λ f. f.name) A.fields)
  pub few_fields : length A.fields ≤ MAX_FIELDS
  pub moves : Each (IsGoodMove A) A.moves
  pub moves_in_order : IsStrictlySortedBy nat_cmp (map (λ m. m.place) A.moves)
  pub orders : Each (IsGoodOrder A) A.orders
  pub orders_in_order : IsStrictlySortedBy nat_cmp (map (λ o. o.number) A.orders)
  pub few_orders : length A.orders ≤ MAX_ORDERS
  pub kept : Each IsGoodKept A.kept
  pub kept_in_order : IsStrictlySortedBy (slice_cmp nat_cmp) (map (λ k. k.key) A.kept)
  -- the places are from 1 to the number of kept keys, and no two are the same: so each is there once
  pub places_in_range : Each (λ k. (1 ≤ k.place) × (k.place ≤ places A)) A.kept
  pub places_apart : IsDistinct nat_eq (map (λ k. k.place) A.kept)
  pub places_fit : places A + open_orders A ≤ MAX_PLACES
  pub safe : IsSafe A
