-- A line is one item: the words of a command give it back.
use Rattle.std.proofs.Common.{◌≡◌, ◌∙◌, ℕ, ◌^◌, ◌<◌, List, [], ◌∷◌, ap, arith, codes, decimal, if◌then◌else◌, refl, subst, sym}
use Rattle.std.specs.List.{AllByRecursion as Each}
use Rattle.std.specs.Str.{bytes_eq}
use Rattle.std.specs.Str.Parse.{digits_value}
use Rattle.std.proofs.lemmas.Fmt.{decimal_is_IsNumeral}
use Rattle.std.proofs.lemmas.List.Elements.{recursion_from_All}
use Rattle.escrow.specs.Codes.{IsKey}
use Rattle.escrow.specs.declared.quantity.Way.{Way}
use Rattle.escrow.specs.declared.quantity.Way.TheVariants.{Add, Take}
use Rattle.words.specs.Items.{IsItem, IsRequest, Says}
use Rattle.words.specs.OpenLines.{IsOpenLine, line_words, way_word}
use Rattle.words.specs.Spelling.{IsInRange, command_words, spelling}
use Rattle.words.specs.Words.{words_of}
use Rattle.words.specs.declared.command.Command.{Command}
use Rattle.words.specs.declared.command.Command.TheVariants.{Abort, Commit, Deliver, Expire, Field, Firm, More, Open}
use Rattle.words.specs.declared.command.Command.TheVariants.{Rebound, Release, Transfer, Use, Writeoff}
use Rattle.words.specs.declared.command.Request.{Request as RequestOf}
use Rattle.words.specs.declared.item.Item.{Item}
use Rattle.words.specs.declared.item.Item.TheVariants.{AskField, AskOrder, Bad, Request}
use Rattle.words.specs.declared.open_line.OpenLine.{OpenLine}
use Rattle.words.proofs.ByItem.{words_of_request}
use Rattle.words.proofs.LineWords.{words-ask_field, words-ask_order, words-command}

-- ---- the command of the words; words that are no command's give some command

value : List ℕ → ℕ
value ds = digits_value 10 ds

way_of : List ℕ → Way
way_of w = if bytes_eq w (codes "take") then Take else Add

lines_of : List (List ℕ) → List OpenLine
lines_of (w ∷ b ∷ a ∷ q ∷ rest) = record { way = way_of w; branch = b; article = a; qty = value q } ∷ lines_of rest
lines_of ws = []

of_6 : (List ℕ → List ℕ → List ℕ → List ℕ → List ℕ → List ℕ → Command) → List (List ℕ) → Command
of_6 f (a ∷ b ∷ c ∷ d ∷ e ∷ g ∷ []) = f a b c d e g
of_6 f ws = Expire 0

of_5 : (List ℕ → List ℕ → List ℕ → List ℕ → List ℕ → Command) → List (List ℕ) → Command
of_5 f (a ∷ b ∷ c ∷ d ∷ e ∷ []) = f a b c d e
of_5 f ws = Expire 0

of_4 : (List ℕ → List ℕ → List ℕ → List ℕ → Command) → List (List ℕ) → Command
of_4 f (a ∷ b ∷ c ∷ d ∷ []) = f a b c d
of_4 f ws = Expire 0

of_3 : (List ℕ → List ℕ → List ℕ → Command) → List (List ℕ) → Command
of_3 f (a ∷ b ∷ c ∷ []) = f a b c
of_3 f ws = Expire 0

of_1 : (List ℕ → Command) → List (List ℕ) → Command
of_1 f (a ∷ []) = f a
of_1 f ws = Expire 0

open_of : List (List ℕ) → Command
open_of (n ∷ u ∷ ls) = Open (value n) (value u) (lines_of ls)
open_of ws = Expire 0

pub command_of : List (List ℕ) → Command
command_of [] = Expire 0
command_of (w ∷ ws) =
    if bytes_eq w (codes "field") then of_5 (λ b a lo hi start. Field b a (value lo) (value hi) (value start)) ws
    else (if bytes_eq w (codes "deliver") then of_3 (λ b a q. Deliver b a (value q)) ws
    else (if bytes_eq w (codes "writeoff") then of_3 (λ b a q. Writeoff b a (value q)) ws
    else (if bytes_eq w (codes "rebound") then of_4 (λ b a lo hi. Rebound b a (value lo) (value hi)) ws
    else (if bytes_eq w (codes "open") then open_of ws
    else (if bytes_eq w (codes "transfer") then of_6 (λ n u a from to q. Transfer (value n) (value u) a from to (value q)) ws
    else (if bytes_eq w (codes "more") then of_5 (λ n way b a q. More (value n) (way_of way) b a (value q)) ws
    else (if bytes_eq w (codes "use") then of_4 (λ n b a q. Use (value n) b a (value q)) ws
    else (if bytes_eq w (codes "release") then of_4 (λ n b a q. Release (value n) b a (value q)) ws
    else (if bytes_eq w (codes "commit") then of_1 (λ n. Commit (value n)) ws
    else (if bytes_eq w (codes "abort") then of_1 (λ n. Abort (value n)) ws
    else (if bytes_eq w (codes "firm") then of_1 (λ n. Firm (value n)) ws
    else of_1 (λ n. Expire (value n)) ws)))))))))))

-- ---- it is the one

value-decimal : (n : ℕ) → n < 2 ^ 64 → value (decimal n) ≡ n
unfolding value
value-decimal n h = (decimal_is_IsNumeral n h).1

way_of-way_word : (w : Way) → way_of (way_word w) ≡ w
unfolding way_of
way_of-way_word Take = refl
way_of-way_word Add = refl

lines_of-line_words : (ls : List OpenLine) → Each IsOpenLine ls → lines_of (line_words ls) ≡ ls
unfolding lines_of
lines_of-line_words [] h = refl
lines_of-line_words (l ∷ ls) h =
    let w = way_of-way_word l.way in
    let q = value-decimal l.qty (let x = h.0.qty in omega arith) in
    let r = lines_of-line_words ls h.1 in
    λ i. record { way = w i; branch = l.branch; article = l.article; qty = q i } ∷ r i

pub command_of-command_words : (c : Command) → IsInRange c → command_of (command_words c) ≡ c
unfolding command_of of_1 of_3 of_4 of_5 of_6 open_of
command_of-command_words (Field b a lo hi start) h =
    let x = value-decimal lo (let q = h.2 in omega arith) in
    let y = value-decimal hi (let q = h.3 in omega arith) in
    let z = value-decimal start (let q = h.4 in omega arith) in
    λ i. Field b a (x i) (y i) (z i)
command_of-command_words (Deliver b a q) h = let x = value-decimal q (let y = h.2.1 in omega arith) in λ i. Deliver b a (x i)
command_of-command_words (Writeoff b a q) h = let x = value-decimal q (let y = h.2.1 in omega arith) in λ i. Writeoff b a (x i)
command_of-command_words (Rebound b a lo hi) h =
    let x = value-decimal lo (let q = h.2 in omega arith) in
    let y = value-decimal hi (let q = h.3 in omega arith) in
    λ i. Rebound b a (x i) (y i)
command_of-command_words (Open n until lines) h =
    let x = value-decimal n (let y = h.0.1 in omega arith) in let u = value-decimal until (let y = h.1 in omega arith) in
    let r = lines_of-line_words lines (recursion_from_All IsOpenLine lines h.2.each) in λ i. Open (x i) (u i) (r i)
command_of-command_words (Transfer n until a from to q) h =
    let x = value-decimal n (let y = h.0.1 in omega arith) in
    let u = value-decimal until (let y = h.1 in omega arith) in
    let z = value-decimal q (let y = h.5.1 in omega arith) in
    λ i. Transfer (x i) (u i) a from to (z i)
command_of-command_words (More n way b a q) h =
    let x = value-decimal n (let y = h.0.1 in omega arith) in
    let w = way_of-way_word way in
    let z = value-decimal q (let y = h.3.1 in omega arith) in
    λ i. More (x i) (w i) b a (z i)
command_of-command_words (Use n b a q) h =
    let x = value-decimal n (let y = h.0.1 in omega arith) in
    let z = value-decimal q (let y = h.3.1 in omega arith) in
    λ i. Use (x i) b a (z i)
command_of-command_words (Release n b a q) h =
    let x = value-decimal n (let y = h.0.1 in omega arith) in
    let z = value-decimal q (let y = h.3.1 in omega arith) in
    λ i. Release (x i) b a (z i)
command_of-command_words (Commit n) h = let x = value-decimal n (let y = h.1 in omega arith) in λ i. Commit (x i)
command_of-command_words (Abort n) h = let x = value-decimal n (let y = h.1 in omega arith) in λ i. Abort (x i)
command_of-command_words (Firm n) h = let x = value-decimal n (let y = h.1 in omega arith) in λ i. Firm (x i)
command_of-command_words (Expire now) h = let x = value-decimal now (let y = h in omega arith) in λ i. Expire (x i)

-- commands of the same words are one
pub command_one : (c d : Command) → IsInRange c → IsInRange d → command_words c ≡ command_words d → c ≡ d
command_one c d h k e = sym (command_of-command_words c h) ∙ ap command_of e ∙ command_of-command_words d k

-- and so are commands of the same spelling
pub spelling_one : (c d : Command) → IsInRange c → IsInRange d → spelling c ≡ spelling d → c ≡ d
spelling_one c d h k e = command_one c d h k (sym (words-command c h) ∙ ap words_of e ∙ words-command d k)

-- ---- a line is one item

first_one : (v w : List ℕ) (vs ws : List (List ℕ)) → v ∷ vs ≡ w ∷ ws → v ≡ w
first_one v w vs ws e = cc e

rest_one : (v w : List ℕ) (vs ws : List (List ℕ)) → v ∷ vs ≡ w ∷ ws → vs ≡ ws
rest_one v w vs ws e = cc e

number_one : (m n : ℕ) → m < 2 ^ 64 → n < 2 ^ 64 → decimal m ≡ decimal n → m ≡ n
number_one m n h k e = sym (value-decimal m h) ∙ ap value e ∙ value-decimal n k

-- no key is the mark of an ask
no_mark : (k : List ℕ) → IsKey k → k ≡ codes "?" → ⊥
no_mark k h e = bad (subst IsKey e h)
  where
    bad : IsKey (codes "?") → ⊥
    bad h = (cc (h.each))

field_words : (line b a : List ℕ) → Says line (AskField b a) → words_of line ≡ codes "?" ∷ codes "field" ∷ b ∷ a ∷ []
field_words line b a h = ap words_of h.2 ∙ words-ask_field b a h.0 h.1

order_words : (line : List ℕ) (n : ℕ) → Says line (AskOrder n) → words_of line ≡ codes "?" ∷ codes "order" ∷ decimal n ∷ []
order_words line n h = ap words_of h.1 ∙ words-ask_order n h.0

request_one : (line : List ℕ) (r s : RequestOf) → IsRequest line r → IsRequest line s → r ≡ s
request_one line r s h k =
    let e = sym (words_of_request line r h) ∙ words_of_request line s k in
    let key = first_one r.key s.key (command_words r.command) (command_words s.command) e in
    let command =
    command_one r.command s.command h.1 k.1
    (rest_one r.key s.key (command_words r.command) (command_words s.command) e) in
    λ i. record { key = key i; command = command i }

-- a request is no ask
no_ask : (line : List ℕ) (r : RequestOf) (ws : List (List ℕ)) → IsRequest line r → words_of line ≡ codes "?" ∷ ws → ⊥
no_ask line r ws h e =
    no_mark r.key h.0 (first_one r.key (codes "?") (command_words r.command) ws (sym (words_of_request line r h) ∙ e))

field_order : (b a : List ℕ) (n : ℕ) → codes "?" ∷ codes "field" ∷ b ∷ a ∷ [] ≡ codes "?" ∷ codes "order" ∷ decimal n ∷ [] → ⊥
field_order b a n e = (cc e)

says_one : (line : List ℕ) (i j : Item) → Says line i → Says line j → i ≡ j
says_one line (Request r) (Request s) h k = ap Request (request_one line r s h k)
says_one line (Request r) (AskField b a) h k = absurd (no_ask line r _ h (field_words line b a k))
says_one line (Request r) (AskOrder n) h k = absurd (no_ask line r _ h (order_words line n k))
says_one line (AskField b a) (Request r) h k = absurd (no_ask line r _ k (field_words line b a h))
says_one line (AskField b a) (AskField b' a') h k = let e = sym (field_words line b a h) ∙ field_words line b' a' k in cc e
says_one line (AskField b a) (AskOrder n) h k = absurd (field_order b a n (sym (field_words line b a h) ∙ order_words line n k))
says_one line (AskOrder n) (Request r) h k = absurd (no_ask line r _ k (order_words line n h))
says_one line (AskOrder n) (AskField b a) h k = absurd (field_order b a n (sym (field_words line b a k) ∙ order_words line n h))
says_one line (AskOrder n) (AskOrder m) h k =
    let e = sym (order_words line n h) ∙ order_words line m k in
    ap AskOrder (number_one n m (let x = h.0 in omega arith) (let x = k.0 in omega arith) (cc e))
says_one line Bad j h k = absurd h
says_one line i Bad h k = absurd k

pub item_one : (line : List ℕ) (i j : Item) → IsItem line i → IsItem line j → i ≡ j
item_one line (Request r) (Request s) h k = says_one line (Request r) (Request s) h.1 k.1
item_one line (Request r) (AskField b a) h k = says_one line (Request r) (AskField b a) h.1 k.1
item_one line (Request r) (AskOrder n) h k = says_one line (Request r) (AskOrder n) h.1 k.1
item_one line (Request r) Bad h k = absurd (k (Request r) h.0 h.1)
item_one line (AskField b a) (Request s) h k = says_one line (AskField b a) (Request s) h.1 k.1
item_one line (AskField b a) (AskField b' a') h k = says_one line (AskField b a) (AskField b' a') h.1 k.1
item_one line (AskField b a) (AskOrder n) h k = says_one line (AskField b a) (AskOrder n) h.1 k.1
item_one line (AskField b a) Bad h k = absurd (k (AskField b a) h.0 h.1)
item_one line (AskOrder m) (Request s) h k = says_one line (AskOrder m) (Request s) h.1 k.1
item_one line (AskOrder m) (AskField b a) h k = says_one line (AskOrder m) (AskField b a) h.1 k.1
item_one line (AskOrder m) (AskOrder n) h k = says_one line (AskOrder m) (AskOrder n) h.1 k.1
item_one line (AskOrder m) Bad h k = absurd (k (AskOrder m) h.0 h.1)
item_one line Bad (Request s) h k = absurd (h (Request s) k.0 k.1)
item_one line Bad (AskField b a) h k = absurd (h (AskField b a) k.0 k.1)
item_one line Bad (AskOrder n) h k = absurd (h (AskOrder n) k.0 k.1)
item_one line Bad Bad h k = refl
