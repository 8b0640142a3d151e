-- What a view of a field, an order or a kept key shows.
use Rattle.std.specs.Prelude.{ℕ, pos, ◌≡◌, ◌&&◌, Option, find, nat_le}
use Rattle.book.specs.declared.book.views.FieldView.{FieldView}
use Rattle.book.specs.declared.book.views.KeptView.{KeptView}
use Rattle.book.specs.declared.book.views.OrderView.{OrderView}
use Rattle.ledger.specs.Ledger.{Field, Kept, Ledger, Order, is_open, name_of, shown_state}
use Rattle.words.specs.Spelling.{spelling}
use Rattle.ledger.specs.Outcomes.{IsInfimum, IsSupremum, settled}

-- the field's name and bounds, its settled value, and its infimum and supremum over the outcomes of the open orders
pub record ShowsField (A : Ledger) (f : Field) (view : FieldView) : Type 0 where
  pub name : name_of view.branch view.article ≡ f.name
  pub lo : view.lo ≡ f.lo
  pub hi : view.hi ≡ f.hi
  pub value : pos view.value ≡ settled A f
  pub inf : IsInfimum A f (pos view.inf)
  pub sup : IsSupremum A f (pos view.sup)

-- the first open order from that number on
abbrev pub open_from : Ledger → ℕ → Option Order
open_from A number = find (λ o. is_open o && nat_le number o.number) A.orders

-- the view shows all of the order
pub record ShowsOrder (o : Order) (view : OrderView) : Type 0 where
  pub number : view.number ≡ o.number
  pub kind : view.kind ≡ o.kind
  pub until : view.until ≡ o.until
  pub state : view.state ≡ shown_state o.state o.firm
  pub lines : view.lines.now ≡ o.lines

-- the view shows the place under a key, and the spelling of its command
pub record ShowsKept (k : Kept) (view : KeptView) : Type 0 where
  pub place : view.place ≡ k.place
  pub words : view.words.now ≡ spelling k.command
