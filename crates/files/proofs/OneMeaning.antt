-- What files say is one list, and their records in front of others say something.
use Rattle.std.proofs.Common.{◌≡◌, ◌⊎◌, ◌∙◌, ◌≤◌, ℕ, List, [], ◌∷◌, ◌++◌, length, map, ap, arith, decimal, inl, inr}
use Rattle.std.proofs.Common.{refl, subst, sym}
use Rattle.std.specs.List.{AllZip, AllByRecursion as Each}
use Rattle.std.proofs.lemmas.Fmt.{decimal_injective}
use Rattle.std.proofs.lemmas.List.Elements.{All-from_recursion, recursion_from_All}
use Rattle.words.specs.OpenLines.{IsOpenLine}
use Rattle.words.specs.declared.command.Command.{Command}
use Rattle.words.specs.declared.command.Command.TheVariants.{Deliver, Open, Rebound}
use Rattle.words.specs.declared.command.Request.{Request}
use Rattle.words.specs.declared.open_line.OpenLine.{OpenLine}
use Rattle.files.specs.Bounds.{IsRebound, SayBounds}
use Rattle.files.specs.Deliveries.{IsDelivery, SayDeliveries}
use Rattle.files.specs.Files.{Record}
use Rattle.files.specs.Orders.{IsOrder, IsOtherKey, SayOrders, order_row}
use Rattle.files.proofs.OrderGroups.{StartsOther, agree, starts_other}
use Rattle.files.proofs.OneReading.{SaysOne}

-- ---- requests by their parts

request_made : List ℕ → Command → Request
request_made k c = record { key = k; command = c }

made_same : (k j : List ℕ) (c d : Command) → k ≡ j → c ≡ d → request_made k c ≡ request_made j d
made_same k j c d e f = cc

request_same : (x y : Request) → x.key ≡ y.key → x.command ≡ y.command → x ≡ y
unfolding request_made
request_same x y e f = made_same x.key y.key x.command y.command e f

-- ---- deliveries

delivery_one : (row : Record) (x y : Request) → IsDelivery row x → IsDelivery row y → x ≡ y
delivery_one row x y h k =
    let e : x.key ∷ h.branch ∷ h.article ∷ decimal h.qty ∷ [] ≡ y.key ∷ k.branch ∷ k.article ∷ decimal k.qty ∷ [] =
    sym h.fields ∙ k.fields in
    let key : x.key ≡ y.key = cc in
    let branch : h.branch ≡ k.branch = cc in
    let article : h.article ≡ k.article = cc in
    let digits : decimal h.qty ≡ decimal k.qty = cc in
    let qty = decimal_injective h.qty k.qty (let a = h.qty_range in omega arith) (let a = k.qty_range in omega arith) digits in
    let command : ◌≡◌ {A = Command} (Deliver h.branch h.article h.qty) (Deliver k.branch k.article k.qty) = cc in
    request_same x y key (h.command ∙ command ∙ sym k.command)

-- ---- files of which each record is a request

module _ (Says : Record → Request → Type 0) (one : (row : Record) (x y : Request) → Says row x → Says row y → x ≡ y) where
  all_one : (rows : List Record) (xs ys : List Request) → AllZip Says rows xs → AllZip Says rows ys → xs ≡ ys
  all_one [] [] [] h k = refl
  all_one [] [] (y ∷ ys) h k = absurd k
  all_one [] (x ∷ xs) ys h k = absurd h
  all_one (r ∷ rs) [] ys h k = absurd h
  all_one (r ∷ rs) (x ∷ xs) [] h k = absurd k
  all_one (r ∷ rs) (x ∷ xs) (y ∷ ys) h k = ap (λ z. z ∷ xs) (one r x y h.0 k.0) ∙ ap (λ l. y ∷ l) (all_one rs xs ys h.1 k.1)

  all_front : (rows behind : List Record) (xs : List Request) → AllZip Says (rows ++ behind) xs
      → (ys : List Request) × AllZip Says rows ys
  all_front [] behind xs h = ([], tt)
  all_front (r ∷ rs) behind [] h = absurd h
  all_front (r ∷ rs) behind (x ∷ xs) h = let (ys, said) = all_front rs behind xs h.1 in (x ∷ ys, (h.0, said))

  singles_say_one : SaysOne (AllZip Says)
  singles_say_one = record { one = all_one; front = all_front }

pub deliveries_say_one : SaysOne SayDeliveries
deliveries_say_one = singles_say_one IsDelivery delivery_one

-- ---- other bounds

rebound_one : (row : Record) (x y : Request) → IsRebound row x → IsRebound row y → x ≡ y
rebound_one row x y h k =
    let e : x.key ∷ h.branch ∷ h.article ∷ decimal h.lo ∷ decimal h.hi ∷ []
    ≡ y.key ∷ k.branch ∷ k.article ∷ decimal k.lo ∷ decimal k.hi ∷ [] =
    sym h.fields ∙ k.fields in
    let key : x.key ≡ y.key = cc in
    let branch : h.branch ≡ k.branch = cc in
    let article : h.article ≡ k.article = cc in
    let low : decimal h.lo ≡ decimal k.lo = cc in
    let high : decimal h.hi ≡ decimal k.hi = cc in
    let lo = decimal_injective h.lo k.lo (let a = h.lo_range in omega arith) (let a = k.lo_range in omega arith) low in
    let hi = decimal_injective h.hi k.hi (let a = h.hi_range in omega arith) (let a = k.hi_range in omega arith) high in
    let command : ◌≡◌ {A = Command} (Rebound h.branch h.article h.lo h.hi) (Rebound k.branch k.article k.lo k.hi) = cc in
    request_same x y key (h.command ∙ command ∙ sym k.command)

pub bounds_say_one : SaysOne SayBounds
bounds_say_one = singles_say_one IsRebound rebound_one

-- ---- orders

append_end : {X : Type 0} (xs : List X) → xs ++ [] ≡ xs
append_end [] = refl
append_end (x ∷ xs) = ap (λ ys. x ∷ ys) (append_end xs)

-- an order has a record
has_row : (first : List Record) (r : Request) → IsOrder first r → (rest : List Record) → first ++ rest ≡ [] → ⊥
has_row first r o rest e = by o.lines o.lines_form.some (ap (λ xs. xs ++ rest) (sym o.records) ∙ e)
  where
    by : (lines : List OpenLine) → 1 ≤ length lines → map (order_row r.key o.number o.until) lines ++ rest ≡ [] → ⊥
    by [] some e = absurd (omega arith)
    by (l ∷ ls) some e = absurd (cc)

orders_one : (rows : List Record) (xs ys : List Request) → SayOrders rows xs → SayOrders rows ys → xs ≡ ys
orders_one rows [] [] h k = refl
orders_one rows [] (y ∷ ys) h (first, rest, split, order, other, say) = absurd (has_row first y order rest (sym split ∙ h))
orders_one rows (x ∷ xs) [] (first, rest, split, order, other, say) k = absurd (has_row first x order rest (sym split ∙ k))
orders_one rows (x ∷ xs) (y ∷ ys) (first, rest, split, order, other, say) (first2, rest2, split2, order2, other2, say2) =
    let a = agree first first2 x y order order2 rest rest2 ys other2 say2 (sym split ∙ split2) in
    by a.more a.lines a.rest a.key a.number a.until
    (λ same. orders_one rest xs ys say (subst (λ l. SayOrders l ys) (sym same) say2))
  where
    by : (more : List OpenLine) → order2.lines ≡ order.lines ++ more
        → rest ≡ map (order_row x.key order.number order.until) more ++ rest2 → x.key ≡ y.key
        → order.number ≡ order2.number
        → order.until ≡ order2.until → (rest ≡ rest2 → xs ≡ ys) → x ∷ xs ≡ y ∷ ys
    by [] lines same key number until tails =
        let equal : order.lines ≡ order2.lines = sym (lines ∙ append_end order.lines) in
        let command : ◌≡◌ {A = Command} (Open order.number order.until order.lines)
        (Open order2.number order2.until order2.lines) =
        cc in
        let head = request_same x y key (order.command ∙ command ∙ sym order2.command) in
        ap (λ z. z ∷ xs) head ∙ ap (λ l. y ∷ l) (tails same)
    by (z ∷ zs) lines same key number until tails =
        absurd ((subst (StartsOther x.key) same (starts_other x.key rest xs other say)) refl)

-- two ways to cut the same records in two
halves : (xs ys zs ws : List Record) → xs ++ ys ≡ zs ++ ws
    → ((m : List Record) × (zs ≡ xs ++ m)) ⊎ ((m : List Record) × (xs ≡ zs ++ m) × (ws ≡ m ++ ys))
halves [] ys zs ws e = inl (zs, refl)
halves (x ∷ xs) ys [] ws e = inr (x ∷ xs, refl, sym e)
halves (x ∷ xs) ys (z ∷ zs) ws e = by (halves xs ys zs ws tails)
  where
    tails : xs ++ ys ≡ zs ++ ws
    tails = cc

    head : x ≡ z
    head = cc

    by : ((m : List Record) × (zs ≡ xs ++ m)) ⊎ ((m : List Record) × (xs ≡ zs ++ m) × (ws ≡ m ++ ys))
        → ((m : List Record) × (z ∷ zs ≡ (x ∷ xs) ++ m))
        ⊎ ((m : List Record) × (x ∷ xs ≡ (z ∷ zs) ++ m) × (ws ≡ m ++ ys))
    by (inl (m, longer)) = inl (m, ap (λ a. a ∷ zs) (sym head) ∙ ap (λ l. x ∷ l) longer)
    by (inr (m, longer, rest)) = inr (m, ap (λ a. a ∷ xs) head ∙ ap (λ l. z ∷ l) longer, rest)

-- the lines of the first records of an order
front_lines : (f : OpenLine → Record) (lines : List OpenLine) (xs m : List Record) → map f lines ≡ xs ++ m
    → (front : List OpenLine) × (xs ≡ map f front) × (length front ≤ length lines)
    × (Each IsOpenLine lines → Each IsOpenLine front)
front_lines f lines [] m e = ([], refl, omega arith, λ h. tt)
front_lines f [] (x ∷ xs) m e = absurd (cc)
front_lines f (l ∷ ls) (x ∷ xs) m e =
    let head : f l ≡ x = cc in
    let tail : map f ls ≡ xs ++ m = cc in
    let (front, same, fits, each) = front_lines f ls xs m tail in
    (l ∷ front, ap (λ a. a ∷ xs) (sym head) ∙ ap (λ r. f l ∷ r) same, omega arith, λ h. (h.0, each h.1))

-- the first records of an order, one at least, are an order
front_order : (x : Record) (xs m first : List Record) (r : Request) → IsOrder first r → first ≡ (x ∷ xs) ++ m
    → (s : Request) × IsOrder (x ∷ xs) s × (s.key ≡ r.key)
front_order x xs m first r order e =
    let (front, same, fits, each) =
    front_lines (order_row r.key order.number order.until) order.lines (x ∷ xs) m (sym order.records ∙ e) in
    by front same fits each
  where
    by : (front : List OpenLine) → x ∷ xs ≡ map (order_row r.key order.number order.until) front
        → length front ≤ length order.lines → (Each IsOpenLine order.lines → Each IsOpenLine front)
        → (s : Request) × IsOrder (x ∷ xs) s × (s.key ≡ r.key)
    by [] same fits each = absurd (cc)
    by (l ∷ ls) same fits each =
        let most = order.lines_form.fits in (
          record { key = r.key; command = Open order.number order.until (l ∷ ls) },
          record {
            number = order.number;
            until = order.until;
            lines = l ∷ ls;
            command = refl;
            key_form = order.key_form;
            number_range = order.number_range;
            until_range = order.until_range;
            lines_form = record {
              some = omega arith;
              fits = omega arith;
              each =
                  All-from_recursion IsOpenLine (l ∷ ls)
                  (each (recursion_from_All IsOpenLine order.lines order.lines_form.each));
            };
            records = same;
          },
          refl,
        )

-- requests that begin under the key of those requests, if they begin at all
abbrev BeginsAs : List Request → List Request → Type 0
BeginsAs requests front = (key : List ℕ) → IsOtherKey key requests → IsOtherKey key front

front_says : (requests : List Request) (rows behind : List Record) → SayOrders (rows ++ behind) requests
    → (front : List Request) × SayOrders rows front × BeginsAs requests front
front_says requests [] behind h = ([], refl, λ key other. tt)
front_says [] (x ∷ xs) behind h = absurd (cc)
front_says (r ∷ rs) (x ∷ xs) behind (first, rest, split, order, other, say) =
    by (halves (x ∷ xs) behind first rest split) (λ m e. front_says rs m behind (subst (λ l. SayOrders l rs) e say))
  where
    by : ((m : List Record) × (first ≡ (x ∷ xs) ++ m)) ⊎ ((m : List Record) × (x ∷ xs ≡ first ++ m) × (rest ≡ m ++ behind))
        → ((m : List Record) → rest ≡ m ++ behind → (front : List Request) × SayOrders m front × BeginsAs rs front)
        → (front : List Request) × SayOrders (x ∷ xs) front × BeginsAs (r ∷ rs) front
    by (inl (m, longer)) more =
        let (s, cut, key) = front_order x xs m first r order longer in
        (s ∷ [], (x ∷ xs, [], sym (append_end (x ∷ xs)), cut, tt, refl), λ k apart e. apart (sym key ∙ e))
    by (inr (m, longer, same)) more =
        let (front, said, begins) = more m same in
        (r ∷ front, (first, m, longer, order, begins r.key other, said), λ k apart. apart)

orders_front : (rows behind : List Record) (xs : List Request) → SayOrders (rows ++ behind) xs
    → (ys : List Request) × SayOrders rows ys
orders_front rows behind xs h = let (front, said, begins) = front_says xs rows behind h in (front, said)

pub orders_say_one : SaysOne SayOrders
orders_say_one = record { one = orders_one; front = orders_front }
