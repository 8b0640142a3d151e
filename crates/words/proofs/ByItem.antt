-- What a line says, by its words.
use Rattle.std.proofs.Common.{◌≡◌, ◌∙◌, ◌⊎◌, ℕ, List, [], ◌∷◌, ◌++◌, ap, codes, decimal, inl, inr, refl, sym}
use Rattle.escrow.specs.Codes.{IsArticle, IsBranch, IsKey}
use Rattle.escrow.specs.Ranges.{IsOrderNo}
use Rattle.words.specs.Items.{IsOpeningLine, IsRequest, MayWantMemory, Says}
use Rattle.words.specs.OpenLines.{line_words, way_word}
use Rattle.words.specs.Spelling.{IsOpening, Spells, command_words}
use Rattle.words.specs.Words.{spaced, words_of}
use Rattle.words.specs.declared.command.Command.{Command}
use Rattle.words.specs.declared.command.Command.TheVariants.{Abort, Commit, Deliver, Expire, Field, Firm, More, Open}
use Rattle.words.specs.declared.command.Command.TheVariants.{Rebound, Release, Transfer, Use, Writeoff}
use Rattle.words.specs.declared.command.Request.{Request as RequestOf}
use Rattle.words.specs.declared.item.Item.{Item}
use Rattle.words.specs.declared.item.Item.TheVariants.{AskField, AskOrder, Bad, Request}
use Rattle.words.proofs.Cuts.{parts_some}
use Rattle.words.proofs.OrderLines.{behind}
use Rattle.words.proofs.LineWords.{line_of, words-ask_field, words-ask_order, words-command, words-request}

-- a command has a first word
command_first : (c : Command) → (verb : List ℕ) × (words : List (List ℕ)) × (command_words c ≡ verb ∷ words)
command_first (Field b a lo hi start) = (codes "field", b ∷ a ∷ decimal lo ∷ decimal hi ∷ decimal start ∷ [], refl)
command_first (Deliver b a qty) = (codes "deliver", b ∷ a ∷ decimal qty ∷ [], refl)
command_first (Writeoff b a qty) = (codes "writeoff", b ∷ a ∷ decimal qty ∷ [], refl)
command_first (Rebound b a lo hi) = (codes "rebound", b ∷ a ∷ decimal lo ∷ decimal hi ∷ [], refl)
command_first (Open n until lines) = (codes "open", decimal n ∷ decimal until ∷ line_words lines, refl)
command_first (Transfer n until a from to qty) =
    (codes "transfer", decimal n ∷ decimal until ∷ a ∷ from ∷ to ∷ decimal qty ∷ [], refl)
command_first (More n way b a qty) = (codes "more", decimal n ∷ way_word way ∷ b ∷ a ∷ decimal qty ∷ [], refl)
command_first (Use n b a qty) = (codes "use", decimal n ∷ b ∷ a ∷ decimal qty ∷ [], refl)
command_first (Release n b a qty) = (codes "release", decimal n ∷ b ∷ a ∷ decimal qty ∷ [], refl)
command_first (Commit n) = (codes "commit", decimal n ∷ [], refl)
command_first (Abort n) = (codes "abort", decimal n ∷ [], refl)
command_first (Firm n) = (codes "firm", decimal n ∷ [], refl)
command_first (Expire now) = (codes "expire", decimal now ∷ [], refl)

-- the words of a line that is a request
pub words_of_request : (line : List ℕ) (r : RequestOf) → IsRequest line r → words_of line ≡ r.key ∷ command_words r.command
words_of_request line r h = ap words_of h.2 ∙ words-request r.key r.command h.0 h.1

-- no key stands first
pub request_none : (line : List ℕ)
    → ((key word : List ℕ) (words : List (List ℕ)) → IsKey key → words_of line ≡ key ∷ word ∷ words → ⊥)
    → (r : RequestOf) → IsRequest line r → ⊥
request_none line none r h =
    let first = command_first r.command in
    none r.key first.0 first.1 h.0 (words_of_request line r h ∙ ap (λ (ws : List (List ℕ)). r.key ∷ ws) first.2)

-- a key stands first, and a command behind it
pub request_found : (line rest key : List ℕ) (c : Command) → IsKey key → words_of line ≡ key ∷ words_of rest
    → Spells c rest → IsRequest line (record { key = key; command = c })
request_found line rest key c h e s = (
  h,
  s.0,
  line_of line (key ∷ command_words c)
      (e ∙ ap (λ (ws : List (List ℕ)). key ∷ ws) (ap words_of s.1 ∙ words-command c s.0)),
)

-- a key stands first, and no command behind it
pub request_bad : (line rest key : List ℕ) → words_of line ≡ key ∷ words_of rest → ((c : Command) → Spells c rest → ⊥)
    → (r : RequestOf) → IsRequest line r → ⊥
request_bad line rest key e bad r h =
    bad r.command (h.1, line_of rest (command_words r.command) (behind (words_of line) e (words_of_request line r h)))

-- a key stands first, and what begins as an `open` does behind it
request_opening : (line rest key : List ℕ) → IsKey key → words_of line ≡ key ∷ words_of rest → IsOpening rest → IsOpeningLine line
request_opening line rest key h e opening = (key, rest, h, opening, by (words_of rest) (parts_some 32 rest) refl)
  where
    by : (ws : List (List ℕ)) → (ws ≡ [] → ⊥) → words_of rest ≡ ws → line ≡ spaced (key ∷ rest ∷ [])
    by [] some f = absurd (some refl)
    by (w ∷ ws) some f =
        line_of line (key ∷ w ∷ ws) (e ∙ ap (λ (x : List (List ℕ)). key ∷ x) f)
        ∙ ap (λ (bytes : List ℕ). key ++ 32 ∷ bytes) (sym (line_of rest (w ∷ ws) f))

-- a key stands first, and a command behind it or what begins as an `open` does
pub request_wanted : (line rest key : List ℕ) → IsKey key → words_of line ≡ key ∷ words_of rest
    → ((c : Command) × Spells c rest) ⊎ IsOpening rest → MayWantMemory line
request_wanted line rest key h e (inl (c, s)) = inl (record { key = key; command = c }, request_found line rest key c h e s)
request_wanted line rest key h e (inr opening) = inr (request_opening line rest key h e opening)

-- a line that is no ask and no request says nothing
pub says_none : (line : List ℕ)
    → ((b a : List ℕ) → IsBranch b → IsArticle a → words_of line ≡ codes "?" ∷ codes "field" ∷ b ∷ a ∷ [] → ⊥)
    → ((n : ℕ) → IsOrderNo n → words_of line ≡ codes "?" ∷ codes "order" ∷ decimal n ∷ [] → ⊥)
    → ((r : RequestOf) → IsRequest line r → ⊥) → (item : Item) → Says line item → ⊥
says_none line field order request (Request r) says = request r says
says_none line field order request (AskField b a) says =
    field b a says.0 says.1 (ap words_of says.2 ∙ words-ask_field b a says.0 says.1)
says_none line field order request (AskOrder n) says = order n says.0 (ap words_of says.1 ∙ words-ask_order n says.0)
says_none line field order request Bad says = says
