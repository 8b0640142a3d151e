-- Each line is an item.
use Rattle.std.proofs.Common.{◌≡◌, ◌∙◌, ℕ, ◌≤◌, List, [], ◌∷◌, ap, arith, codes, decimal, inl, inr, length, subst, sym}
use Rattle.std.specs.Str.Parse.{digits_value}
use Rattle.std.proofs.lemmas.Fmt.{decimal_is_IsNumeral}
use Rattle.escrow.specs.Codes.{IsArticle, IsBranch, IsKey}
use Rattle.escrow.specs.Ranges.{IsOrderNo}
use Rattle.words.specs.Items.{IsItem, longest_line}
use Rattle.words.specs.Spelling.{IsInRange, command_words}
use Rattle.words.specs.Words.{words_of}
use Rattle.words.specs.declared.command.Command.{Command}
use Rattle.words.specs.declared.command.Request.{Request as RequestOf}
use Rattle.words.specs.declared.item.Item.{Item}
use Rattle.words.specs.declared.item.Item.TheVariants.{AskField, AskOrder, Bad, Request}
use Rattle.words.proofs.ByItem.{says_none, words_of_request}
use Rattle.words.proofs.Decisions.{Decided, decided_article, decided_both, decided_branch, decided_by, decided_in_range}
use Rattle.words.proofs.Decisions.{decided_key, decided_le, decided_order_no, decided_word, decided_words}
use Rattle.words.proofs.OneItem.{command_of, command_of-command_words}
use Rattle.words.proofs.LineWords.{line_of}

-- ---- requests

-- the words are a command's
abbrev CommandWords : List (List ℕ) → Type 0
CommandWords words = (c : Command) × IsInRange c × (words ≡ command_words c)

-- only one command can have the words, the one that they give back
decided_command : (words : List (List ℕ)) → Decided (CommandWords words)
decided_command words = decided_by to from (decided_both (decided_in_range c) (decided_words words (command_words c)))
  where
    c : Command
    c = command_of words

    to : IsInRange c × (words ≡ command_words c) → CommandWords words
    to h = (c, h.0, h.1)

    from : CommandWords words → IsInRange c × (words ≡ command_words c)
    from (d, range, e) =
        let same : d ≡ c = sym (command_of-command_words d range) ∙ ap command_of (sym e) in
        (subst IsInRange same range, e ∙ ap command_words same)

-- the words are a request's
abbrev RequestWords : List (List ℕ) → Type 0
RequestWords words = (r : RequestOf) × IsKey r.key × IsInRange r.command × (words ≡ r.key ∷ command_words r.command)

decided_request : (words : List (List ℕ)) → Decided (RequestWords words)
decided_request [] = inr (λ h. cc (h.3))
decided_request (k ∷ words) = decided_by to from (decided_both (decided_key k) (decided_command words))
  where
    to : IsKey k × CommandWords words → RequestWords (k ∷ words)
    to h = (record { key = k; command = h.1.0 }, h.0, h.1.1, ap (λ (ws : List (List ℕ)). k ∷ ws) h.1.2)

    from : RequestWords (k ∷ words) → IsKey k × CommandWords words
    from (r, key, range, e) = let x : r.key ≡ k = cc e in (subst IsKey x key, (r.command, range, cc e))

-- ---- asks

-- the words are those of an ask for a field
abbrev FieldWords : List (List ℕ) → Type 0
FieldWords words = (b : List ℕ) × (a : List ℕ) × IsBranch b × IsArticle a × (words ≡ codes "?" ∷ codes "field" ∷ b ∷ a ∷ [])

decided_field : (words : List (List ℕ)) → Decided (FieldWords words)
decided_field [] = inr (λ h. cc (h.4))
decided_field (m ∷ []) = inr (λ h. cc (h.4))
decided_field (m ∷ n ∷ []) = inr (λ h. cc (h.4))
decided_field (m ∷ n ∷ b ∷ []) = inr (λ h. cc (h.4))
decided_field (m ∷ n ∷ b ∷ a ∷ []) =
    decided_by to from (decided_both (decided_both (decided_word m (codes "?")) (decided_word n (codes "field")))
    (decided_both (decided_branch b) (decided_article a)))
  where
    to : ((m ≡ codes "?") × (n ≡ codes "field")) × (IsBranch b × IsArticle a) → FieldWords (m ∷ n ∷ b ∷ a ∷ [])
    to h = let e : m ≡ codes "?" = h.0.0 in let f : n ≡ codes "field" = h.0.1 in (b, a, h.1.0, h.1.1, cc (e, f))

    from : FieldWords (m ∷ n ∷ b ∷ a ∷ []) → ((m ≡ codes "?") × (n ≡ codes "field")) × (IsBranch b × IsArticle a)
    from (b', a', h, k, e) =
        let x : b' ≡ b = cc e in let y : a' ≡ a = cc e in ((cc e, cc e), (subst IsBranch x h, subst IsArticle y k))
decided_field (m ∷ n ∷ b ∷ a ∷ w ∷ words) = inr (λ h. cc (h.4))

-- the words are those of an ask for an order
abbrev OrderWords : List (List ℕ) → Type 0
OrderWords words = (n : ℕ) × IsOrderNo n × (words ≡ codes "?" ∷ codes "order" ∷ decimal n ∷ [])

decided_order : (words : List (List ℕ)) → Decided (OrderWords words)
decided_order [] = inr (λ h. cc (h.2))
decided_order (m ∷ []) = inr (λ h. cc (h.2))
decided_order (m ∷ v ∷ []) = inr (λ h. cc (h.2))
decided_order (m ∷ v ∷ w ∷ []) =
    decided_by to from (decided_both (decided_both (decided_word m (codes "?")) (decided_word v (codes "order")))
    (decided_both (decided_order_no n) (decided_word w (decimal n))))
  where
    -- only one number can have the text, the one that its digits write
    n : ℕ
    n = digits_value 10 w

    to : ((m ≡ codes "?") × (v ≡ codes "order")) × (IsOrderNo n × (w ≡ decimal n)) → OrderWords (m ∷ v ∷ w ∷ [])
    to h =
        let e : m ≡ codes "?" = h.0.0 in
        let f : v ≡ codes "order" = h.0.1 in
        let g : w ≡ decimal n = h.1.1 in
        (n, h.1.0, cc (e, f, g))

    from : OrderWords (m ∷ v ∷ w ∷ []) → ((m ≡ codes "?") × (v ≡ codes "order")) × (IsOrderNo n × (w ≡ decimal n))
    from (k, range, e) =
        let text : w ≡ decimal k = cc e in
        let same : k ≡ n = sym (decimal_is_IsNumeral k (omega (arith, range.1))).1 ∙ ap (digits_value 10) (sym text) in
        ((cc e, cc e), (subst IsOrderNo same range, text ∙ ap decimal same))
decided_order (m ∷ v ∷ w ∷ x ∷ words) = inr (λ h. cc (h.2))

-- ---- lines

pub some_item : (line : List ℕ) → (item : Item) × IsItem line item
some_item line =
    by (decided_le (length line) longest_line) (decided_field (words_of line)) (decided_order (words_of line))
    (decided_request (words_of line))
  where
    by : Decided (length line ≤ longest_line) → Decided (FieldWords (words_of line))
        → Decided (OrderWords (words_of line)) → Decided (RequestWords (words_of line))
        → (item : Item) × IsItem line item
    by (inr long) field order request = (Bad, λ item short says. long short)
    by (inl short) (inl (b, a, h, k, e)) order request = (AskField b a, (short, (h, k, line_of line _ e)))
    by (inl short) (inr field) (inl (n, h, e)) request = (AskOrder n, (short, (h, line_of line _ e)))
    by (inl short) (inr field) (inr order) (inl (r, key, range, e)) = (Request r, (short, (key, range, line_of line _ e)))
    by (inl short) (inr field) (inr order) (inr request) = (
      Bad,
      λ item fits. says_none line (λ b a h k e. field (b, a, h, k, e)) (λ n h e. order (n, h, e))
          (λ r h. request (r, h.0, h.1, words_of_request line r h)) item,
    )
