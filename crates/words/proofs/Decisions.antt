-- Facts of which it is known whether they hold.
use Rattle.std.proofs.Common.{◌≡◌, ℕ, ◌≤◌, ◌<◌, Bool, true, false, List, [], ◌∷◌, length, get_or, ◌⊎◌, inl, inr, refl}
use Rattle.std.proofs.Common.{sym, arith, true≢false}
use Rattle.std.specs.List.{AllByRecursion as Each, list_all}
use Rattle.std.proofs.lemmas.List.Elements.{All-from_recursion, recursion_from_All}
use native.Mathlib.Decide.{dec_le, dec_lt}
use Rattle.escrow.specs.Codes.{IsArticle, IsBranch, IsKey, is_article_byte, is_branch_byte, is_key_byte}
use Rattle.escrow.specs.Ranges.{IsLevel, IsMoment, IsOrderNo, IsQty}
use Rattle.escrow.specs.declared.limits.TheConstants.{MAX_ARTICLE_LEN, MAX_BRANCH_LEN, MAX_KEY_LEN, MAX_LEVEL}
use Rattle.escrow.specs.declared.limits.TheConstants.{MAX_MOMENT, MAX_ORDER_NO, MAX_QTY}
use Rattle.words.specs.OpenLines.{AreOpenLines, IsOpenLine, most_lines}
use Rattle.words.specs.Spelling.{IsInRange}
use Rattle.words.specs.declared.command.Command.{Command}
use Rattle.words.specs.declared.command.Command.TheVariants.{Abort, Commit, Deliver, Expire, Field, Firm, More, Open}
use Rattle.words.specs.declared.command.Command.TheVariants.{Rebound, Release, Transfer, Use, Writeoff}
use Rattle.words.specs.declared.open_line.OpenLine.{OpenLine}

abbrev pub Decided : Type 0 → Type 0
Decided P = P ⊎ (P → ⊥)

pub decided_by : {P Q : Type 0} → (P → Q) → (Q → P) → Decided P → Decided Q
decided_by to from (inl p) = inl (to p)
decided_by to from (inr n) = inr (λ q. n (from q))

pub decided_both : {P Q : Type 0} → Decided P → Decided Q → Decided (P × Q)
decided_both (inl p) (inl q) = inl (p, q)
decided_both (inl p) (inr n) = inr (λ h. n h.1)
decided_both (inr n) d = inr (λ h. n h.0)

pub decided_not : {P : Type 0} → Decided P → Decided (P → ⊥)
decided_not (inl p) = inr (λ n. n p)
decided_not (inr n) = inl n

pub decided_bool : (b c : Bool) → Decided (b ≡ c)
decided_bool true true = inl refl
decided_bool true false = inr (λ e. true≢false e)
decided_bool false true = inr (λ e. true≢false (sym e))
decided_bool false false = inl refl

-- ---- numbers

pub decided_le : (m n : ℕ) → Decided (m ≤ n)
decided_le m n = elim (dec_le m n) [ yes h ↦ inl h | no h ↦ inr h ]

pub decided_lt : (m n : ℕ) → Decided (m < n)
decided_lt m n = elim (dec_lt m n) [ yes h ↦ inl h | no h ↦ inr h ]

decided_number : (m n : ℕ) → Decided (m ≡ n)
decided_number m n =
    decided_by (λ (h : (m ≤ n) × (n ≤ m)). omega (arith, h.0, h.1)) (λ (e : m ≡ n). (omega arith, omega arith))
    (decided_both (decided_le m n) (decided_le n m))

decided_level : (n : ℕ) → Decided (IsLevel n)
decided_level n = decided_le n MAX_LEVEL

decided_qty : (n : ℕ) → Decided (IsQty n)
decided_qty n = decided_both (decided_le 1 n) (decided_le n MAX_QTY)

decided_moment : (n : ℕ) → Decided (IsMoment n)
decided_moment n = decided_le n MAX_MOMENT

pub decided_order_no : (n : ℕ) → Decided (IsOrderNo n)
decided_order_no n = decided_both (decided_le 1 n) (decided_le n MAX_ORDER_NO)

-- ---- words and codes

pub decided_word : (v w : List ℕ) → Decided (v ≡ w)
decided_word [] [] = inl refl
decided_word [] (y ∷ ys) = inr (λ e. cc e)
decided_word (x ∷ xs) [] = inr (λ e. cc e)
decided_word (x ∷ xs) (y ∷ ys) =
    decided_by {P = (x ≡ y) × (xs ≡ ys)} (λ h. cc (h.0, h.1)) (λ e. (cc e, cc e))
    (decided_both (decided_number x y) (decided_word xs ys))

pub decided_words : (vs ws : List (List ℕ)) → Decided (vs ≡ ws)
decided_words [] [] = inl refl
decided_words [] (w ∷ ws) = inr (λ e. cc e)
decided_words (v ∷ vs) [] = inr (λ e. cc e)
decided_words (v ∷ vs) (w ∷ ws) =
    decided_by {P = (v ≡ w) × (vs ≡ ws)} (λ h. cc (h.0, h.1)) (λ e. (cc e, cc e))
    (decided_both (decided_word v w) (decided_words vs ws))

pub decided_branch : (bytes : List ℕ) → Decided (IsBranch bytes)
decided_branch bytes =
    decided_by (λ h. record { some = h.0.0; fits = h.0.1; each = h.1 }) (λ (h : IsBranch bytes). ((h.some, h.fits), h.each))
    (decided_both (decided_both (decided_lt 0 (length bytes)) (decided_le (length bytes) MAX_BRANCH_LEN))
    (decided_bool (list_all is_branch_byte bytes) true))

pub decided_article : (bytes : List ℕ) → Decided (IsArticle bytes)
decided_article bytes =
    decided_by (λ h. record { some = h.0.0; fits = h.0.1; first = h.1.0; each = h.1.1 })
    (λ (h : IsArticle bytes). ((h.some, h.fits), (h.first, h.each)))
    (decided_both (decided_both (decided_lt 0 (length bytes)) (decided_le (length bytes) MAX_ARTICLE_LEN))
    (decided_both (decided_not (decided_number (get_or bytes 0 0) 45)) (decided_bool (list_all is_article_byte bytes) true)))

pub decided_key : (bytes : List ℕ) → Decided (IsKey bytes)
decided_key bytes =
    decided_by (λ h. record { some = h.0.0; fits = h.0.1; each = h.1 }) (λ (h : IsKey bytes). ((h.some, h.fits), h.each))
    (decided_both (decided_both (decided_lt 0 (length bytes)) (decided_le (length bytes) MAX_KEY_LEN))
    (decided_bool (list_all is_key_byte bytes) true))

-- a field and a quantity
decided_move : (b a : List ℕ) (qty : ℕ) → Decided ((IsBranch b × IsArticle a) × IsQty qty)
decided_move b a qty = decided_both (decided_both (decided_branch b) (decided_article a)) (decided_qty qty)

-- ---- the lines of an `open`

decided_open_line : (line : OpenLine) → Decided (IsOpenLine line)
decided_open_line line =
    decided_by (λ h. record { branch = h.0.0; article = h.0.1; qty = h.1 })
    (λ (h : IsOpenLine line). ((h.branch, h.article), h.qty)) (decided_move line.branch line.article line.qty)

decided_each : (lines : List OpenLine) → Decided (Each IsOpenLine lines)
decided_each [] = inl tt
decided_each (line ∷ lines) =
    decided_by (λ h. (h.0, h.1)) (λ h. (h.0, h.1)) (decided_both (decided_open_line line) (decided_each lines))

decided_open_lines : (lines : List OpenLine) → Decided (AreOpenLines lines)
decided_open_lines lines =
    decided_by (λ h. record { some = h.0.0; fits = h.0.1; each = All-from_recursion IsOpenLine lines h.1 })
    (λ (h : AreOpenLines lines). ((h.some, h.fits), recursion_from_All IsOpenLine lines h.each))
    (decided_both (decided_both (decided_le 1 (length lines)) (decided_le (length lines) most_lines)) (decided_each lines))

-- ---- commands

-- a number of an order, a field and a quantity
abbrev IsPart : ℕ → List ℕ → List ℕ → ℕ → Type 0
IsPart n b a qty = IsOrderNo n × IsBranch b × IsArticle a × IsQty qty

decided_part : (n : ℕ) (b a : List ℕ) (qty : ℕ) → Decided (IsPart n b a qty)
decided_part n b a qty =
    decided_by {Q = IsPart n b a qty} (λ h. (h.0, h.1.0.0, h.1.0.1, h.1.1)) (λ h. (h.0, ((h.1, h.2), h.3)))
    (decided_both (decided_order_no n) (decided_move b a qty))

pub decided_in_range : (c : Command) → Decided (IsInRange c)
decided_in_range (Field b a lo hi start) =
    decided_by {Q = IsInRange (Field b a lo hi start)} (λ h. (h.0.0, h.0.1, h.1.0, h.1.1.0, h.1.1.1))
    (λ h. ((h.0, h.1), (h.2, (h.3, h.4))))
    (decided_both (decided_both (decided_branch b) (decided_article a))
    (decided_both (decided_level lo) (decided_both (decided_level hi) (decided_level start))))
decided_in_range (Deliver b a qty) =
    decided_by {Q = IsInRange (Deliver b a qty)} (λ h. (h.0.0, h.0.1, h.1)) (λ h. ((h.0, h.1), h.2))
    (decided_move b a qty)
decided_in_range (Writeoff b a qty) =
    decided_by {Q = IsInRange (Writeoff b a qty)} (λ h. (h.0.0, h.0.1, h.1)) (λ h. ((h.0, h.1), h.2))
    (decided_move b a qty)
decided_in_range (Rebound b a lo hi) =
    decided_by {Q = IsInRange (Rebound b a lo hi)} (λ h. (h.0.0, h.0.1, h.1.0, h.1.1)) (λ h. ((h.0, h.1), (h.2, h.3)))
    (decided_both (decided_both (decided_branch b) (decided_article a)) (decided_both (decided_level lo) (decided_level hi)))
decided_in_range (Open n until lines) =
    decided_by {Q = IsInRange (Open n until lines)} (λ h. (h.0.0, h.0.1, h.1)) (λ h. ((h.0, h.1), h.2))
    (decided_both (decided_both (decided_order_no n) (decided_moment until)) (decided_open_lines lines))
decided_in_range (Transfer n until a from to qty) =
    decided_by {Q = IsInRange (Transfer n until a from to qty)}
    (λ h. (h.0.0, h.0.1, h.1.0.1, h.1.0.0, h.1.1.0, h.1.1.1)) (λ h. ((h.0, h.1), ((h.3, h.2), (h.4, h.5))))
    (decided_both (decided_both (decided_order_no n) (decided_moment until))
    (decided_both (decided_both (decided_branch from) (decided_article a))
    (decided_both (decided_branch to) (decided_qty qty))))
decided_in_range (More n way b a qty) = decided_part n b a qty
decided_in_range (Use n b a qty) = decided_part n b a qty
decided_in_range (Release n b a qty) = decided_part n b a qty
decided_in_range (Commit n) = decided_order_no n
decided_in_range (Abort n) = decided_order_no n
decided_in_range (Firm n) = decided_order_no n
decided_in_range (Expire now) = decided_moment now
