-- The object of an order that is shown.
use Rattle.std.proofs.Common.{◌≡◌, ◌∙◌, ℕ, false, List, [], ◌∷◌, ap, map, refl}
use Rattle.serde_json.specs.Data.{Data}
use Rattle.serde_json.specs.View.{items_of}
use Rattle.serde_json.specs.Written.{compact_text, has_float, items_have_float}
use Rattle.ledger.specs.Ledger.{Order, shown_state}
use Rattle.book.specs.Views.{ShowsOrder}
use Rattle.book.specs.declared.book.views.OrderView.{OrderView}
use Rattle.ledger.specs.declared.order.Kind.{Kind}
use Rattle.ledger.specs.declared.order.Line.{Line}
use Rattle.ledger.specs.declared.order.Standing.{Standing}
use Rattle.web.specs.Objects.{line_object, order_object, shown_object, view_object}

lines_have_no_float : (lines : List Line) → items_have_float (items_of (map line_object lines)) ≡ false
lines_have_no_float [] = refl
lines_have_no_float (l ∷ ls) = lines_have_no_float ls

shown_has_no_float_in : (number : ℕ) (kind : Kind) (until : ℕ) (state : Standing) (lines : List Line)
    → has_float (shown_object number kind until state lines) ≡ false
shown_has_no_float_in number kind until state lines = rw (lines_have_no_float lines)

shown_one : (o : Order) (view : OrderView) → ShowsOrder o view → view_object view ≡ order_object o
shown_one o view h = λ i. shown_object (h.number i) (h.kind i) (h.until i) (h.state i) (h.lines i)

pub order_has_none : (o : Order) → has_float (order_object o) ≡ false
order_has_none o = shown_has_no_float_in o.number o.kind o.until (shown_state o.state o.firm) o.lines

pub shown_has_no_float : (view : OrderView) (value : Data) → value ≡ view_object view → has_float value ≡ false
shown_has_no_float view value e =
    ap has_float e ∙ shown_has_no_float_in view.number view.kind view.until view.state view.lines.now

pub shown_text : (o : Order) (view : OrderView) (value : Data) → value ≡ view_object view → ShowsOrder o view
    → compact_text value ≡ compact_text (order_object o)
shown_text o view value e h = ap compact_text (e ∙ shown_one o view h)
