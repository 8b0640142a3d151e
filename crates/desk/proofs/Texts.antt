-- Replies to items, and then to more.
use Rattle.std.proofs.Common.{◌∙◌, ℕ, List, [], ◌∷◌, ◌++◌, ap, append-nil, append_assoc, refl, sym, subst}
use Rattle.words.specs.declared.item.Item.{Item}
use Rattle.ledger.specs.Ledger.{Ledger}
use Rattle.desk.specs.Text.{Replies, RepliesAll}

-- the replies to some items, and then to more
pub replies_joined : (xs ys : List Item) (old mid new : Ledger) (out more : List ℕ) → RepliesAll old xs out mid
    → RepliesAll mid ys more new → RepliesAll old (xs ++ ys) (out ++ more) new
replies_joined [] ys old mid new out more first second =
    subst (λ (text : List ℕ). RepliesAll old ys (text ++ more) new) (sym first.0)
    (subst (λ (ledger : Ledger). RepliesAll ledger ys more new) first.1 second)
replies_joined (x ∷ xs) ys old mid new out more (line, after, rest, reply, others, e) second = (
  line,
  after,
  rest ++ more,
  reply,
  replies_joined xs ys after mid new rest more others second,
  ap (λ (text : List ℕ). text ++ more) e ∙ append_assoc line rest more,
)

-- a reply more
pub replies_more : (xs : List Item) (x : Item) (old mid new : Ledger) (out line : List ℕ) → RepliesAll old xs out mid
    → Replies mid x line new → RepliesAll old (xs ++ x ∷ []) (out ++ line) new
replies_more xs x old mid new out line first second =
    replies_joined xs (x ∷ []) old mid new out line first (line, new, [], second, (refl, refl), sym (append-nil line))
