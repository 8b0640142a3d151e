-- For an input there are not two texts.
use Rattle.std.proofs.Common.{◌≡◌, ◌∙◌, ℕ, pos, List, [], ◌∷◌, ◌++◌, Option, None, Some, MatchOption, ap, sym, subst}
use Rattle.words.proofs.OneFeed.{feeds_one}
use Rattle.words.specs.declared.item.Item.{Item}
use Rattle.words.specs.declared.item.Item.TheVariants.{AskField, AskOrder, Bad, Request}
use Rattle.ledger.specs.Ledger.{Field, Ledger, Name, Order, field_named, order_numbered, name_of}
use Rattle.book.specs.Views.{ShowsField}
use Rattle.book.specs.declared.book.views.FieldView.{FieldView}
use Rattle.ledger.proofs.Bounds.{inf_unique, sup_unique}
use Rattle.ledger.proofs.Runs.{answered_once}
use Rattle.desk.specs.Replies.{AnswersField, field_line, none_line, order_line, request_line}
use Rattle.desk.specs.Text.{AreItems, IsText, Replies, RepliesAll, unended}

view_one : (A : Ledger) (f : Field) (v w : FieldView) → ShowsField A f v → ShowsField A f w → field_line v ≡ field_line w
view_one A f v w h k =
    let name = h.name ∙ sym k.name in
    let branch : v.branch ≡ w.branch = ap (λ (n : Name). n.branch) name in
    let article : v.article ≡ w.article = ap (λ (n : Name). n.article) name in
    let lo = h.lo ∙ sym k.lo in
    let hi = h.hi ∙ sym k.hi in
    let value = h.value ∙ sym k.value in
    let inf = inf_unique A f (pos v.inf) (pos w.inf) h.inf k.inf in
    let sup = sup_unique A f (pos v.sup) (pos w.sup) h.sup k.sup in
    cc (branch, article, lo, hi, value, inf, sup)

field_one : (A : Ledger) (found : Option Field) (x y : List ℕ)
    → MatchOption found (x ≡ none_line) (λ f. AnswersField A f x)
    → MatchOption found (y ≡ none_line) (λ f. AnswersField A f y) → x ≡ y
field_one A None x y h k = h ∙ sym k
field_one A (Some f) x y (v, shows, e) (w, shows', e') = e ∙ view_one A f v w shows shows' ∙ sym e'

order_one : (found : Option Order) (x y : List ℕ) → MatchOption found (x ≡ none_line) (λ o. x ≡ order_line o)
    → MatchOption found (y ≡ none_line) (λ o. y ≡ order_line o) → x ≡ y
order_one None x y h k = h ∙ sym k
order_one (Some o) x y h k = h ∙ sym k

reply_one : (old : Ledger) (item : Item) (x y : List ℕ) (B C : Ledger) → Replies old item x B → Replies old item y C
    → (x ≡ y) × (B ≡ C)
reply_one old (Request r) x y B C h k =
    let same = answered_once old r h.0 k.0 B C h.1 k.1 in (h.2 ∙ ap (request_line r.key) same.0 ∙ sym k.2, same.1)
reply_one old (AskField b a) x y B C h k = (field_one old (field_named old (name_of b a)) x y h.0 k.0, h.1 ∙ sym k.1)
reply_one old (AskOrder n) x y B C h k = (order_one (order_numbered old n) x y h.0 k.0, h.1 ∙ sym k.1)
reply_one old Bad x y B C h k = (h.0 ∙ sym k.0, h.1 ∙ sym k.1)

pub replies_one : (items : List Item) (old : Ledger) (x y : List ℕ) (B C : Ledger) → RepliesAll old items x B
    → RepliesAll old items y C → (x ≡ y) × (B ≡ C)
replies_one [] old x y B C h k = (h.0 ∙ sym k.0, h.1 ∙ sym k.1)
replies_one (item ∷ items) old x y B C (line, mid, rest, replies, more, e) (line', mid', rest', replies', more', e') =
    let same = reply_one old item line line' mid mid' replies replies' in
    let f =
    replies_one items mid rest rest' B C more
    (subst (λ (ledger : Ledger). RepliesAll ledger items rest' C) (sym same.1) more') in
    (e ∙ ap (λ (l : List ℕ). l ++ rest) same.0 ∙ ap (λ (r : List ℕ). line' ++ r) f.0 ∙ sym e', f.1)

-- an input has not two lists of items
items_one : (input : List ℕ) (xs ys : List Item) → AreItems input xs → AreItems input ys → xs ≡ ys
items_one input xs ys h k =
    let same = feeds_one (Some []) h.rest k.rest input h.ended k.ended h.feeds k.feeds in
    h.all ∙ ap (λ (zs : List Item). zs ++ unended h.rest) same.0
    ∙ ap (λ (rest : Option (List ℕ)). k.ended ++ unended rest) same.1 ∙ sym k.all

pub text_one : (old : Ledger) (input out other : List ℕ) (B C : Ledger) → IsText old input out B
    → IsText old input other C → (out ≡ other) × (B ≡ C)
text_one old input out other B C h k =
    let same = items_one input h.items k.items h.are_items k.are_items in
    replies_one k.items old out other B C (subst (λ (xs : List Item). RepliesAll old xs out B) same h.replies) k.replies
