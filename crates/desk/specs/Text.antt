-- What a desk writes for what it reads.
use Rattle.std.specs.Prelude.{◌≡◌, ℕ, List, [], ◌∷◌, ◌++◌, Option, None, Some, map}
use Rattle.words.specs.Stream.{Feeds}
use Rattle.words.specs.declared.command.Request.{Request as RequestOf}
use Rattle.words.specs.declared.item.Item.{Item}
use Rattle.words.specs.declared.item.Item.TheVariants.{AskField, AskOrder, Bad, Request}
use Rattle.words.specs.declared.reply.Reply.{Reply}
use Rattle.ledger.specs.Answers.{Answers}
use Rattle.ledger.specs.Ledger.{Ledger}
use Rattle.desk.specs.Replies.{AnswersFieldAsk, AnswersOrderAsk, bad_line, request_line}

-- the line that is written for an item, and the ledger after it
abbrev pub Replies : Ledger → Item → List ℕ → Ledger → Type 0
Replies old (Request r) line new = (reply : Reply) × Answers old r reply new × (line ≡ request_line r.key reply)
Replies old (AskField b a) line new = AnswersFieldAsk old b a line × (new ≡ old)
Replies old (AskOrder n) line new = AnswersOrderAsk old n line × (new ≡ old)
Replies old Bad line new = (line ≡ bad_line) × (new ≡ old)

-- the lines for the items in their order, and the ledger after them
abbrev pub RepliesAll : Ledger → List Item → List ℕ → Ledger → Type 0
RepliesAll old [] out new = (out ≡ []) × (new ≡ old)
RepliesAll old (item ∷ items) out new =
    (line : List ℕ) × (mid : Ledger) × (rest : List ℕ) × Replies old item line mid × RepliesAll mid items rest new
    × (out ≡ line ++ rest)

-- requests, as the items of a script
abbrev pub items_of : List RequestOf → List Item
items_of requests = map (λ r. Request r) requests

-- if anything stands behind the last newline, it is a bad line more
abbrev pub unended : Option (List ℕ) → List Item
unended None = Bad ∷ []
unended (Some []) = []
unended (Some (byte ∷ bytes)) = Bad ∷ []

-- The items of an input: those of the lines that end in it, and a bad one for bytes behind the last newline.
pub record AreItems (input : List ℕ) (items : List Item) : Type 0 where
  pub ended : List Item
  pub rest : Option (List ℕ)
  pub feeds : Feeds (Some []) input ended rest
  pub all : items ≡ ended ++ unended rest

-- The text that is written for an input: the lines for its items, in their order. It leads from one ledger to the
-- other.
pub record IsText (old : Ledger) (input out : List ℕ) (new : Ledger) : Type 0 where
  pub items : List Item
  pub are_items : AreItems input items
  pub replies : RepliesAll old items out new
