-- The orders of an order file, row by row: how a row more goes on, and where none can.
use Rattle.std.proofs.Common.{◌≡◌, ◌≢◌, ◌⊎◌, ◌∙◌, ◌+◌, ◌≤◌, ℕ, List, [], ◌∷◌, ◌++◌, length, map, All, ap, append_assoc}
use Rattle.std.proofs.Common.{arith, bytes_eq, codes, decimal, if◌then◌else◌, inl, inr, length-append, refl, subst, sym}
use Rattle.std.specs.Prelude.{⊤}
use Rattle.std.specs.List.{AllByRecursion as Each}
use Rattle.std.proofs.lemmas.Fmt.{decimal_injective}
use Rattle.std.proofs.lemmas.List.Elements.{All-from_recursion, All-push, recursion_from_All}
use Rattle.escrow.specs.Codes.{IsKey}
use Rattle.escrow.specs.Ranges.{IsMoment, IsOrderNo}
use Rattle.escrow.specs.declared.quantity.Way.{Way}
use Rattle.escrow.specs.declared.quantity.Way.TheVariants.{Add, Take}
use Rattle.words.specs.OpenLines.{IsOpenLine, line_words, most_lines, way_word}
use Rattle.words.specs.declared.command.Command.TheVariants.{Open}
use Rattle.words.specs.declared.command.Request.{Request}
use Rattle.words.specs.declared.open_line.OpenLine.{OpenLine}
use Rattle.files.specs.Files.{Record}
use Rattle.files.specs.Orders.{IsOrder, IsOtherKey, SayOrders, order_row}
use Rattle.files.specs.Rows.{Continues, IsRow, order_of_row, request_of, with_line}
use Rattle.files.specs.declared.orders.OpenOrder.{OpenOrder}
use Rattle.files.specs.declared.orders.Row.{Row}

-- ---- each record is a row

abbrev pub IsSomeRow : Record → Type 0
IsSomeRow fields = (row : Row) × IsRow fields row

each_of_append : {X : Type 0} (P : X → Type 0) (xs ys : List X) → Each P xs → Each P ys → Each P (xs ++ ys)
each_of_append P [] ys h k = k
each_of_append P (x ∷ xs) ys h k = (h.0, each_of_append P xs ys h.1 k)

each_last : {X : Type 0} (P : X → Type 0) (xs : List X) (x : X) → Each P (xs ++ x ∷ []) → P x
each_last P [] x h = h.0
each_last P (y ∷ ys) x h = each_last P ys x h.1

each_back : {X : Type 0} (P : X → Type 0) (xs ys : List X) → Each P (xs ++ ys) → Each P ys
each_back P [] ys h = h
each_back P (x ∷ xs) ys h = each_back P xs ys h.1

lines_of : (rows : List Record) (r : Request) (o : IsOrder rows r) → Each IsOpenLine o.lines
lines_of rows r o = recursion_from_All IsOpenLine o.lines o.lines_form.each

rows_of_lines : (key : List ℕ) (n u : ℕ) (lines : List OpenLine) → IsKey key → IsOrderNo n → IsMoment u
    → Each IsOpenLine lines → Each IsSomeRow (map (order_row key n u) lines)
rows_of_lines key n u [] k o m h = tt
rows_of_lines key n u (l ∷ ls) k o m h = (
  (
    record { key = key; number = n; until = u; line = l },
    record { key_form = k; number_range = o; until_range = m; line_form = h.0; fields_are = refl },
  ),
  rows_of_lines key n u ls k o m h.1,
)

rows_of_order : (rows : List Record) (r : Request) → IsOrder rows r → Each IsSomeRow rows
rows_of_order rows r o =
    subst (Each IsSomeRow) (sym o.records)
    (rows_of_lines r.key o.number o.until o.lines o.key_form o.number_range o.until_range (lines_of rows r o))

each_is_row : (rows : List Record) (requests : List Request) → SayOrders rows requests → Each IsSomeRow rows
each_is_row rows [] e = subst (Each IsSomeRow) (sym e) tt
each_is_row rows (r ∷ rs) (first, rest, split, order, other, more) =
    subst (Each IsSomeRow) (sym split)
    (each_of_append IsSomeRow first rest (rows_of_order first r order) (each_is_row rest rs more))

-- the last record is a row
pub last_is_row : (rows : List Record) (fields : Record) (requests : List Request)
    → SayOrders (rows ++ fields ∷ []) requests → IsSomeRow fields
last_is_row rows fields requests h = each_last IsSomeRow rows fields (each_is_row (rows ++ fields ∷ []) requests h)

-- ---- a row has one reading

way_of : List ℕ → Way
way_of word = if bytes_eq word (codes "take") then Take else Add

way_of-way_word : (w : Way) → way_of (way_word w) ≡ w
unfolding way_of
way_of-way_word Take = refl
way_of-way_word Add = refl

way_one : (v w : Way) → way_word v ≡ way_word w → v ≡ w
way_one v w e = sym (way_of-way_word v) ∙ ap way_of e ∙ way_of-way_word w

line_made : Way → List ℕ → List ℕ → ℕ → OpenLine
line_made w b a q = record { way = w; branch = b; article = a; qty = q }

made_same : (v w : Way) (b c a d : List ℕ) (p q : ℕ) → v ≡ w → b ≡ c → a ≡ d → p ≡ q → line_made v b a p ≡ line_made w c d q
made_same v w b c a d p q e f g h = cc

line_same : (l m : OpenLine) → l.way ≡ m.way → l.branch ≡ m.branch → l.article ≡ m.article → l.qty ≡ m.qty → l ≡ m
unfolding line_made
line_same l m e f g h = made_same l.way m.way l.branch m.branch l.article m.article l.qty m.qty e f g h

line_one : (l m : OpenLine) → IsOpenLine l → IsOpenLine m → line_words (l ∷ []) ≡ line_words (m ∷ []) → l ≡ m
line_one l m h k e =
    let w : way_word l.way ≡ way_word m.way = cc in
    let b : l.branch ≡ m.branch = cc in
    let a : l.article ≡ m.article = cc in
    let q : decimal l.qty ≡ decimal m.qty = cc in
    line_same l m (way_one l.way m.way w) b a
    (decimal_injective l.qty m.qty (let x = h.qty in omega arith) (let x = k.qty in omega arith) q)

-- two orders at the front of the same records are the same but for their lines
fronts_same : (k j : List ℕ) (n m u v : ℕ) (xs ys : List OpenLine) (a b : List Record) → 1 ≤ length xs → 1 ≤ length ys
    → IsOrderNo n → IsOrderNo m → IsMoment u → IsMoment v
    → map (order_row k n u) xs ++ a ≡ map (order_row j m v) ys ++ b → (k ≡ j) × (n ≡ m) × (u ≡ v)
fronts_same k j n m u v [] ys a b some more hn hm hu hv e = absurd (omega arith)
fronts_same k j n m u v (x ∷ xs) [] a b some more hn hm hu hv e = absurd (omega arith)
fronts_same k j n m u v (x ∷ xs) (y ∷ ys) a b some more hn hm hu hv e =
    let key : k ≡ j = cc in
    let number : decimal n ≡ decimal m = cc in
    let until : decimal u ≡ decimal v = cc in
    (key, decimal_injective n m (omega arith) (omega arith) number, decimal_injective u v (omega arith) (omega arith) until)

-- ---- the key of the first row

-- the first of these records, if there is one, has another key
abbrev pub StartsOther : List ℕ → List Record → Type 0
StartsOther key [] = ⊤
StartsOther key ([] ∷ rows) = ⊤
StartsOther key ((field ∷ fields) ∷ rows) = field ≢ key

starts_in : (key k : List ℕ) (n u : ℕ) (lines : List OpenLine) (rest : List Record) → 1 ≤ length lines → k ≢ key
    → StartsOther key (map (order_row k n u) lines ++ rest)
starts_in key k n u [] rest some h = absurd (omega arith)
starts_in key k n u (l ∷ ls) rest some h = h

-- records that begin with an order under another key
starts_with : (key : List ℕ) (rows behind : List Record) (r : Request) (rs : List Request) → r.key ≢ key
    → SayOrders rows (r ∷ rs) → StartsOther key (rows ++ behind)
starts_with key rows behind r rs h (first, rest, split, order, other, more) =
    let e : map (order_row r.key order.number order.until) order.lines ++ (rest ++ behind) ≡ rows ++ behind =
    ap (λ xs. xs ++ (rest ++ behind)) (sym order.records) ∙ sym (append_assoc first rest behind)
    ∙ ap (λ xs. xs ++ behind) (sym split) in
    subst (StartsOther key) e (starts_in key r.key order.number order.until order.lines (rest ++ behind) order.lines_form.some h)

pub starts_other : (key : List ℕ) (rows : List Record) (requests : List Request) → IsOtherKey key requests
    → SayOrders rows requests → StartsOther key rows
starts_other key rows [] h e = subst (StartsOther key) (sym e) tt
starts_other key rows (r ∷ rs) h say = subst (StartsOther key) (append_end rows) (starts_with key rows [] r rs h say)
  where
    append_end : (xs : List Record) → xs ++ [] ≡ xs
    append_end [] = refl
    append_end (x ∷ xs) = ap (λ ys. x ∷ ys) (append_end xs)

starts_behind : (key : List ℕ) (rows behind : List Record) (ds : List Request) (q : Request)
    → IsOtherKey key (ds ++ q ∷ []) → SayOrders rows (ds ++ q ∷ []) → StartsOther key (rows ++ behind)
starts_behind key rows behind [] q other say = starts_with key rows behind q [] other say
starts_behind key rows behind (d ∷ ds) q other say = starts_with key rows behind d (ds ++ q ∷ []) other say

-- ---- two readings of the same records

-- the one whose order ends where another key begins has the lines of the other, and maybe more
ahead : (key : List ℕ) (n u : ℕ) (xs ys : List OpenLine) (a b : List Record) → Each IsOpenLine xs → Each IsOpenLine ys
    → StartsOther key b
    → map (order_row key n u) xs ++ a ≡ map (order_row key n u) ys ++ b
    → (zs : List OpenLine) × (ys ≡ xs ++ zs) × (a ≡ map (order_row key n u) zs ++ b)
ahead key n u [] ys a b hx hy other e = (ys, refl, e)
ahead key n u (x ∷ xs) [] a b hx hy other e = absurd ((subst (StartsOther key) (sym e) other) refl)
ahead key n u (x ∷ xs) (y ∷ ys) a b hx hy other e =
    let words : line_words (x ∷ []) ≡ line_words (y ∷ []) = cc in
    let tails : map (order_row key n u) xs ++ a ≡ map (order_row key n u) ys ++ b = cc in
    let same = line_one x y hx.0 hy.0 words in
    let (zs, longer, rest) = ahead key n u xs ys a b hx.1 hy.1 other tails in
    (zs, ap (λ l. l ∷ ys) (sym same) ∙ ap (λ ls. x ∷ ls) longer, rest)

-- an order's request
pub record Agree (rows other_rows : List Record) (r s : Request) (o : IsOrder rows r) (p : IsOrder other_rows s)
    (a b : List Record) : Type 0 where
  pub more : List OpenLine
  pub lines : p.lines ≡ o.lines ++ more
  pub rest : a ≡ map (order_row r.key o.number o.until) more ++ b
  pub key : r.key ≡ s.key
  pub number : o.number ≡ p.number
  pub until : o.until ≡ p.until

pub agree : (first other : List Record) (r s : Request) (o : IsOrder first r) (p : IsOrder other s) (a b : List Record)
    (ss : List Request) → IsOtherKey s.key ss → SayOrders b ss
    → first ++ a ≡ other ++ b → Agree first other r s o p a b
agree first other r s o p a b ss apart say e =
    let e1 : map (order_row r.key o.number o.until) o.lines ++ a ≡ map (order_row s.key p.number p.until) p.lines ++ b =
    ap (λ xs. xs ++ a) (sym o.records) ∙ e ∙ ap (λ xs. xs ++ b) p.records in
    let (key, number, until) =
    fronts_same r.key s.key o.number p.number o.until p.until o.lines p.lines a b o.lines_form.some
    p.lines_form.some o.number_range p.number_range o.until_range p.until_range e1 in
    let e2 : map (order_row r.key o.number o.until) o.lines ++ a ≡ map (order_row r.key o.number o.until) p.lines ++ b =
    rw (← key, ← number, ← until) at e1 in
    let starts : StartsOther r.key b = subst (λ k. StartsOther k b) (sym key) (starts_other s.key b ss apart say) in
    let (more, lines, rest) =
    ahead r.key o.number o.until o.lines p.lines a b (lines_of first r o) (lines_of other s p) starts e2 in
    record { more = more; lines = lines; rest = rest; key = key; number = number; until = until }

not_empty : {X : Type 0} (xs : List X) (x : X) → xs ++ x ∷ [] ≡ [] → ⊥
not_empty [] x e = absurd (cc)
not_empty (y ∷ ys) x e = absurd (cc)

-- ---- what a row more can be

-- the record is a row under another key than the last order's, or one line more of that order
abbrev pub Follows : OpenOrder → Record → Type 0
Follows o fields = (row : Row) × IsRow fields row × ((row.key ≢ o.key) ⊎ ((row.key ≡ o.key) × Continues o row))

-- the row ends the last order, or has another key
ending : (fields : Record) (o : OpenOrder) (first other rest : List Record) (s : Request) (ss : List Request)
    (order : IsOrder first (request_of o)) (order2 : IsOrder other s)
    → IsOtherKey s.key ss → SayOrders rest ss → (zs : List OpenLine) → order2.lines ≡ order.lines ++ zs
    → fields ∷ [] ≡ map (order_row o.key order.number order.until) zs ++ rest → o.key ≡ s.key → Follows o fields
ending fields o first other rest s ss order order2 apart say [] lines e key =
    let said : SayOrders (fields ∷ []) ss = subst (λ xs. SayOrders xs ss) (sym e) say in
    let (row, is_row) = (each_is_row (fields ∷ []) ss said).0 in
    let starts : StartsOther s.key (order_row row.key row.number row.until row.line ∷ []) =
    subst (λ f. StartsOther s.key (f ∷ [])) is_row.fields_are (starts_other s.key (fields ∷ []) ss apart said) in
    (row, is_row, inl (λ same. starts (same ∙ key)))
ending fields o first other rest s ss order order2 apart say (z ∷ []) lines e key =
    let same : ◌≡◌ (Open o.number o.until o.lines) (Open order.number order.until order.lines) = order.command in
    let number : o.number ≡ order.number = cc in
    let until : o.until ≡ order.until = cc in
    let old : o.lines ≡ order.lines = cc in
    let fields_are : fields ≡ order_row o.key order.number order.until z = cc in
    let line : IsOpenLine z = each_last IsOpenLine order.lines z (subst (Each IsOpenLine) lines (lines_of other s order2)) in
    let longer : length order2.lines ≡ length order.lines + 1 = ap length lines ∙ length-append order.lines (z ∷ []) in
    let fits = order2.lines_form.fits in
    let size : length o.lines ≡ length order.lines = ap length old in (
      record { key = o.key; number = order.number; until = order.until; line = z },
      record {
        key_form = order.key_form;
        number_range = order.number_range;
        until_range = order.until_range;
        line_form = line;
        fields_are = fields_are;
      },
      inr (refl, (sym number, sym until, omega arith)),
    )
ending fields o first other rest s ss order order2 apart say (z ∷ y ∷ zs) lines e key = absurd (cc)

pub next_row : (rows : List Record) (fields : Record) (done : List Request) (o : OpenOrder) (more : List Request)
    → SayOrders rows (done ++ request_of o ∷ []) → SayOrders (rows ++ fields ∷ []) more → Follows o fields
next_row rows fields [] o [] h k = absurd (not_empty rows fields k)
next_row rows fields [] o (s ∷ ss) (first, rest, split, order, other, none) (first2, rest2, split2, order2, other2, say2) =
    let e : first ++ (fields ∷ []) ≡ first2 ++ rest2 =
    ap (λ xs. first ++ (xs ++ fields ∷ [])) (sym none) ∙ sym (append_assoc first rest (fields ∷ []))
    ∙ ap (λ xs. xs ++ fields ∷ []) (sym split) ∙ split2 in
    let a = agree first first2 (request_of o) s order order2 (fields ∷ []) rest2 ss other2 say2 e in
    ending fields o first first2 rest2 s ss order order2 other2 say2 a.more a.lines a.rest a.key
next_row rows fields (d ∷ ds) o [] h k = absurd (not_empty rows fields k)
next_row rows fields (d ∷ ds) o (s ∷ ss) (first, rest, split, order, other, say) (first2, rest2, split2, order2, other2, say2) =
    let e : first ++ (rest ++ fields ∷ []) ≡ first2 ++ rest2 =
    sym (append_assoc first rest (fields ∷ [])) ∙ ap (λ xs. xs ++ fields ∷ []) (sym split) ∙ split2 in
    let a = agree first first2 d s order order2 (rest ++ fields ∷ []) rest2 ss other2 say2 e in
    by a.more a.rest (λ same. next_row rest fields ds o ss say (subst (λ xs. SayOrders xs ss) (sym same) say2))
  where
    by : (zs : List OpenLine) → rest ++ fields ∷ [] ≡ map (order_row d.key order.number order.until) zs ++ rest2
        → (rest ++ fields ∷ [] ≡ rest2 → Follows o fields) → Follows o fields
    by [] e go = go e
    by (z ∷ zs) e go =
        absurd ((subst (StartsOther d.key) e (starts_behind d.key rest (fields ∷ []) ds (request_of o) other say)) refl)

-- ---- a row more

-- the order of one row
order_of_one : (fields : Record) (row : Row) → IsRow fields row → IsOrder (fields ∷ []) (request_of (order_of_row row))
order_of_one fields row h = record {
  number = row.number;
  until = row.until;
  lines = row.line ∷ [];
  command = refl;
  key_form = h.key_form;
  number_range = h.number_range;
  until_range = h.until_range;
  lines_form = record {
    some = omega arith;
    fits = omega arith;
    each = All-from_recursion IsOpenLine (row.line ∷ []) (h.line_form, tt);
  };
  records = ap (λ f. f ∷ []) h.fields_are;
}

-- the first row
pub first_row : (fields : Record) (row : Row) → IsRow fields row → SayOrders (fields ∷ []) (request_of (order_of_row row) ∷ [])
first_row fields row h = (fields ∷ [], [], refl, order_of_one fields row h, tt, refl)

other_more : (key : List ℕ) (ds : List Request) (q r : Request) → IsOtherKey key (ds ++ q ∷ [])
    → IsOtherKey key ((ds ++ q ∷ []) ++ r ∷ [])
other_more key [] q r h = h
other_more key (d ∷ ds) q r h = h

other_same : (key : List ℕ) (ds : List Request) (q r : Request) → q.key ≡ r.key → IsOtherKey key (ds ++ q ∷ [])
    → IsOtherKey key (ds ++ r ∷ [])
other_same key [] q r e h = λ k. h (e ∙ k)
other_same key (d ∷ ds) q r e h = h

-- a row under another key begins an order
pub begins : (rows : List Record) (fields : Record) (row : Row) (done : List Request) (o : OpenOrder)
    → SayOrders rows (done ++ request_of o ∷ []) → IsRow fields row → row.key ≢ o.key
    → SayOrders (rows ++ fields ∷ []) ((done ++ request_of o ∷ []) ++ request_of (order_of_row row) ∷ [])
begins rows fields row [] o (first, rest, split, order, other, none) h apart = (
  first,
  fields ∷ [],
  ap (λ xs. xs ++ fields ∷ []) split ∙ append_assoc first rest (fields ∷ [])
      ∙ ap (λ xs. first ++ (xs ++ fields ∷ [])) none,
  order,
  apart,
  first_row fields row h,
)
begins rows fields row (d ∷ ds) o (first, rest, split, order, other, say) h apart = (
  first,
  rest ++ fields ∷ [],
  ap (λ xs. xs ++ fields ∷ []) split ∙ append_assoc first rest (fields ∷ []),
  order,
  other_more d.key ds (request_of o) (request_of (order_of_row row)) other,
  begins rest fields row ds o say h apart,
)

map-push : (f : OpenLine → Record) (xs : List OpenLine) (x : OpenLine) → map f (xs ++ x ∷ []) ≡ map f xs ++ f x ∷ []
map-push f [] x = refl
map-push f (y ∷ ys) x = ap (λ l. f y ∷ l) (map-push f ys x)

longer_order : (first : List Record) (fields : Record) (row : Row) (o : OpenOrder) → IsOrder first (request_of o)
    → IsRow fields row → row.key ≡ o.key → row.number ≡ o.number → row.until ≡ o.until
    → length o.lines + 1 ≤ most_lines → IsOrder (first ++ fields ∷ []) (request_of (with_line o row.line))
longer_order first fields row o order h key number until fits =
    let same : ◌≡◌ (Open o.number o.until o.lines) (Open order.number order.until order.lines) = order.command in
    let n : o.number ≡ order.number = cc in
    let u : o.until ≡ order.until = cc in
    let old : o.lines ≡ order.lines = cc in
    let each : All IsOpenLine o.lines = subst (All IsOpenLine) (sym old) order.lines_form.each in
    let before : first ≡ map (order_row o.key o.number o.until) o.lines = rw (← n, ← u, ← old) at order.records in
    let last : fields ≡ order_row o.key o.number o.until row.line = rw (key, number, until) at h.fields_are in
    let size : length (o.lines ++ row.line ∷ []) ≡ length o.lines + 1 = length-append o.lines (row.line ∷ []) in
    record {
      number = o.number;
      until = o.until;
      lines = o.lines ++ row.line ∷ [];
      command = refl;
      key_form = order.key_form;
      number_range = subst IsOrderNo (sym n) order.number_range;
      until_range = subst IsMoment (sym u) order.until_range;
      lines_form = record {
        some = omega arith;
        fits = omega arith;
        each = All-push IsOpenLine o.lines row.line each h.line_form;
      };
      records =
          ap (λ xs. xs ++ fields ∷ []) before ∙ ap (λ f. map (order_row o.key o.number o.until) o.lines ++ f ∷ []) last
          ∙ sym (map-push (order_row o.key o.number o.until) o.lines row.line);
    }

-- a row under the same key is a line more of the last order
pub goes_on : (rows : List Record) (fields : Record) (row : Row) (done : List Request) (o : OpenOrder)
    → SayOrders rows (done ++ request_of o ∷ []) → IsRow fields row → row.key ≡ o.key → row.number ≡ o.number
    → row.until ≡ o.until
    → length o.lines + 1 ≤ most_lines → SayOrders (rows ++ fields ∷ []) (done ++ request_of (with_line o row.line) ∷ [])
goes_on rows fields row [] o (first, rest, split, order, other, none) h key number until fits = (
  first ++ fields ∷ [],
  [],
  ap (λ xs. xs ++ fields ∷ []) split ∙ append_assoc first rest (fields ∷ [])
      ∙ ap (λ xs. first ++ (xs ++ fields ∷ [])) none ∙ sym (append_end (first ++ fields ∷ [])),
  longer_order first fields row o order h key number until fits,
  tt,
  refl,
)
  where
    append_end : (xs : List Record) → xs ++ [] ≡ xs
    append_end [] = refl
    append_end (x ∷ xs) = ap (λ ys. x ∷ ys) (append_end xs)
goes_on rows fields row (d ∷ ds) o (first, rest, split, order, other, say) h key number until fits = (
  first,
  rest ++ fields ∷ [],
  ap (λ xs. xs ++ fields ∷ []) split ∙ append_assoc first rest (fields ∷ []),
  order,
  other_same d.key ds (request_of o) (request_of (with_line o row.line)) refl other,
  goes_on rest fields row ds o say h key number until fits,
)
