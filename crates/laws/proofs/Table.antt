-- The rows that each command changes, told from the steps that it makes.
use Rattle.ledger.proofs.Prelude.{[], ◌&&◌, ◌++◌, ◌+◌, ◌-◌, ◌==◌, ◌||◌, ◌∙◌, ◌∷◌, ◌≡◌, ◌≤◌, Bool, Changes, Command}
use Rattle.ledger.proofs.Prelude.{Content, Each, FirstFailure, Good, IsInRange, IsSomeAnd, Ledger, LineCells, List}
use Rattle.ledger.proofs.Prelude.{Move, Name, None, Nothing, OpenLine, Opens, Option, Order, Request, Some, Step}
use Rattle.ledger.proofs.Prelude.{add_hold, amount_row, amount_rows, ap, append-nil, arith, becomes_firm, change_lines}
use Rattle.ledger.proofs.Prelude.{changed_rows, changes_field, changes_held, changes_line, changes_state, changes_stock}
use Rattle.ledger.proofs.Prelude.{checks, effect, expires, false, filter, firm_row, flat_map, hold_more, if◌then◌else◌}
use Rattle.ledger.proofs.Prelude.{is_open, is_some, is_transfer, kept_row, line_name, line_on, line_row, line_steps}
use Rattle.ledger.proofs.Prelude.{lines_from, lines_of, list_any, lower_held, map, mark_row, move_made, move_row}
use Rattle.ledger.proofs.Prelude.{name_of, new_key, new_line, not, numbered, on, open_state, option_map_or}
use Rattle.ledger.proofs.Prelude.{order_numbered, order_row, own_field, places, raise_held, raise_used, refl, same_name}
use Rattle.ledger.proofs.Prelude.{set_firm, set_state, state_row, steps, steps_of, subst, sym, true, ℕ, find}
use Rattle.ledger.proofs.Prelude.{MayHoldMore, opening, turn}
use Rattle.ledger.specs.declared.order.State.TheVariants.{Aborted, Committed}
use Rattle.ledger.specs.declared.order.Line.{Line}
use Rattle.ledger.specs.declared.order.State.{State}
use Rattle.std.specs.Prelude.{option_to_list}
use Rattle.ledger.proofs.Steps.{touched, one_step}
use Rattle.ledger.specs.Rows.{MoveCells}
use Rattle.laws.specs.RowsByCommand.{TableRows, has_line_on, has_part_on, no_rows, of_order, opened_rows, part_rows}
use Rattle.laws.specs.RowsByCommand.{rows_by_command, rows_told}
use Rattle.ledger.proofs.Lists.{each-found, found_passes, number_is, or_nothing, same_number}
use Rattle.ledger.proofs.NextContent.{new_amounts}
use Rattle.ledger.proofs.Sums.{each, each-imp, none_found}
use Rattle.ledger.proofs.FieldNames.{same_self, name_is}
use Rattle.ledger.proofs.Passing.{AllPass, Usable, all_pass, loose_there, open_there, takes_more, usable_there}
use Rattle.ledger.proofs.Falls.{fit_from_good, left_on}
use Rattle.escrow.specs.Escrow.{moved}
use Rattle.words.specs.declared.command.Command.TheVariants as command

-- ---- the changed rows, table by table

pub record HasRows (A : Ledger) (c : Command) (t : TableRows) : Type 0 where
  pub fields : (f : Name) → changes_field A c f ≡ t.fields f
  pub moves : map move_row (option_to_list (move_made (places A + 1) c)) ≡ t.moves
  pub orders : flat_map state_row (steps_of A c) ≡ t.orders
  pub lines : flat_map amount_rows (steps_of A c) ≡ t.lines
  pub firms : flat_map mark_row (steps_of A c) ≡ t.firms

pub all_told : (A : Ledger) (r : Request) → HasRows A r.command (rows_by_command A r.command) → (next : Content)
    → changed_rows A r next ≡ rows_told A r next
all_told A r has next = λ i. record {
  desk = next.desk;
  fields = filter (λ row. has.fields (name_of row.branch row.article) i) next.fields;
  moves = has.moves i;
  orders = has.orders i;
  lines = has.lines i;
  kept = kept_row (new_key A r) ∷ [];
  firms = has.firms i;
}

-- the step changes the stock of the field
abbrev touches : Name → Step → Bool
touches f s = list_any (λ l. on f l.after && changes_stock s l) (lines_of s)

-- a command that changes no order
own_rows : (A : Ledger) (c : Command) (n : Name) (moves : List MoveCells) → own_field c ≡ Some n → effect c ≡ Nothing
    → map move_row (option_to_list (move_made (places A + 1) c)) ≡ moves
    → HasRows A c (record no_rows { fields = λ f. same_name f n; moves = moves })
own_rows A c n moves own unordered moved = record {
  fields =
      λ f. touched A c f
      ∙ (λ i. option_map_or (same_name f) (own i) false || list_any (touches f) (steps (unordered i) A.orders))
      ∙ or_nothing (same_name f n);
  moves = moved;
  orders = ap (λ e. flat_map state_row (steps e A.orders)) unordered;
  lines = ap (λ e. flat_map amount_rows (steps e A.orders)) unordered;
  firms = ap (λ e. flat_map mark_row (steps e A.orders)) unordered;
}

-- ---- commands of one step

-- the rows that the step changes
record StepRows (s : Step) (t : TableRows) : Type 0 where
  fields : (f : Name) → touches f s ≡ t.fields f
  orders : state_row s ≡ t.orders
  lines : amount_rows s ≡ t.lines
  firms : mark_row s ≡ t.firms

one_rows : (A : Ledger) (c : Command) (s : Step) (t : TableRows) → own_field c ≡ None
    → move_made (places A + 1) c ≡ None → t.moves ≡ [] → steps_of A c ≡ s ∷ [] → StepRows s t → HasRows A c t
one_rows A c s t own unmoved moves is rows = record {
  fields =
      λ f. touched A c f ∙ (λ i. option_map_or (same_name f) (own i) false || list_any (touches f) (is i))
      ∙ or_nothing _ ∙ rows.fields f;
  moves = ap (λ (m : Option Move). map move_row (option_to_list m)) unmoved ∙ sym moves;
  orders = ap (flat_map state_row) is ∙ append-nil (state_row s) ∙ rows.orders;
  lines = ap (flat_map amount_rows) is ∙ append-nil (amount_rows s) ∙ rows.lines;
  firms = ap (flat_map mark_row) is ∙ append-nil (mark_row s) ∙ rows.firms;
}

-- A command that changes the order under a number: what its checks know of it tells the rows of its step.
order_rows : (A : Ledger) (c : Command) (n : ℕ) (change : Order → Order) (rows : Order → TableRows) (P : Order → Type 0)
    → own_field c ≡ None → move_made (places A + 1) c ≡ None → effect c ≡ Changes (numbered n) change
    → ((o : Order) → (rows o).moves ≡ []) → Good A → IsSomeAnd (order_numbered A n) P
    → ((o : Order) → order_numbered A n ≡ Some o → P o → StepRows (turn o (change o)) (rows o))
    → HasRows A c (of_order A n rows)
order_rows A c n change rows P own unmoved changes moves good there step = by (order_numbered A n) refl there
  where
    by : (x : Option Order) → order_numbered A n ≡ x → IsSomeAnd x P → HasRows A c (option_map_or rows x no_rows)
    by None is there = absurd there
    by (Some o) is there =
        one_rows A c (turn o (change o)) (rows o) own unmoved (moves o) (ap (λ e. steps e A.orders) changes
        ∙ one_step n change A.orders good.orders_in_order
        ∙ ap (λ x. option_map_or (λ o. turn o (change o) ∷ []) x []) is) (step o is there)

-- ---- lines whose fields all change

and_true : (x : Bool) → (x && true) ≡ x
and_true x = grind arith

not_both : (x : Bool) → (x && not x) ≡ false
not_both x = grind arith

-- where the state or the mark changes, so do all fields of its lines
all_fields : (s : Step) (f : Name) (nr : ℕ) (bs ls : List Line) → (changes_state s || becomes_firm s) ≡ true
    → list_any (λ l. on f l.after && changes_stock s l) (line_steps nr bs ls) ≡ list_any (on f) ls
all_fields s f nr bs [] e = refl
all_fields s f nr [] (l ∷ ls) e =
    (λ i. (on f l && (e i || true || (s.after.firm && true))) || all_fields s f (nr + 1) [] ls e i)
    ∙ ap (λ b. b || list_any (on f) ls) (and_true (on f l))
all_fields s f nr (b ∷ bs) (l ∷ ls) e =
    (λ i. (on f l && (e i || not (b.held == l.held) || (s.after.firm && changes_line
    (record { nr = nr; before = Some b; after = l })))) || all_fields s f (nr + 1) bs ls e i)
    ∙ ap (λ b. b || list_any (on f) ls) (and_true (on f l))

-- lines that stay have no new rows
no_amounts : (n nr : ℕ) (ls : List Line) → flat_map (amount_row n) (line_steps nr ls ls) ≡ []
no_amounts n nr [] = refl
no_amounts n nr (l ∷ ls) = let more = no_amounts n (nr + 1) ls in grind (arith, same_number)

-- ---- a new order

opens_rows : (A : Ledger) (c : Command) (o : Order) → own_field c ≡ None → move_made (places A + 1) c ≡ None
    → effect c ≡ Opens o → o.firm ≡ false
    → HasRows A c (opened_rows o)
opens_rows A c o own unmoved opens loose =
    one_rows A c (opening o) _ own unmoved refl (ap (λ e. steps e A.orders) opens) (record {
      fields = λ f. all_fields (opening o) f 1 [] o.lines refl;
      orders = refl;
      lines = new_amounts o.number 1 o.lines;
      firms = ap (λ b. if b && true then firm_row o.number ∷ [] else []) loose;
    })

-- ---- an order that ends, or becomes firm

end_step : (o : Order) (state : State) → is_open o ≡ true → open_state state ≡ false
    → StepRows (turn o (set_state state o))
    (record no_rows { fields = λ f. has_line_on f o; orders = order_row (set_state state o) ∷ [] })
end_step o state unended ends = record {
  fields =
      λ f. all_fields (turn o (set_state state o)) f 1 o.lines o.lines
      (or_true (is_open o) (open_state state) (o.firm && not o.firm) unended ends);
  orders =
      ap (λ b. if b then order_row (set_state state o) ∷ [] else []) (and_not_true (is_open o) (open_state state) unended ends);
  lines = no_amounts o.number 1 o.lines;
  firms = ap (λ b. if b then firm_row o.number ∷ [] else []) (not_both o.firm);
}
  where
    and_not_true : (x y : Bool) → x ≡ true → y ≡ false → (x && not y) ≡ true
    and_not_true x y d e = grind arith

    or_true : (x y z : Bool) → x ≡ true → y ≡ false → ((x && not y) || z) ≡ true
    or_true x y z d e = grind arith

firm_step : (o : Order) → o.firm ≡ false
    → StepRows (turn o (set_firm o)) (record no_rows { fields = λ f. has_line_on f o; firms = firm_row o.number ∷ [] })
firm_step o loose = record {
  fields = λ f. all_fields (turn o (set_firm o)) f 1 o.lines o.lines (marked (is_open o) loose);
  orders = ap (λ b. if b then order_row (set_firm o) ∷ [] else []) (not_both (is_open o));
  lines = no_amounts o.number 1 o.lines;
  firms = ap (λ b. if not b then firm_row o.number ∷ [] else []) loose;
}
  where
    marked : (x : Bool) → o.firm ≡ false → ((x && not x) || not o.firm) ≡ true
    marked x e = grind arith

-- ---- orders that expire

module _ (now : ℕ) where
  abbrev ending : List Order → List Step
  ending os = steps (Changes (expires now) (set_state Aborted)) os

  abbrev end : Order → Step
  end o = turn o (set_state Aborted o)

  ends : (o : Order) → expires now o ≡ true
      → StepRows (end o) (record no_rows { fields = λ f. has_line_on f o; orders = order_row (set_state Aborted o) ∷ [] })
  ends o e = end_step o Aborted (grind arith) refl

  -- all that expire, one after the other
  all_end : (os : List Order) → Each (λ o. expires now o ≡ true) os
      → ((f : Name) → list_any (touches f) (map end os) ≡ list_any (has_line_on f) os)
      × (flat_map state_row (map end os) ≡ map (λ o. order_row (set_state Aborted o)) os)
      × (flat_map amount_rows (map end os) ≡ []) × (flat_map mark_row (map end os) ≡ [])
  all_end [] all = ((λ f. refl), refl, refl, refl)
  all_end (o ∷ os) all = let one = ends o all.0 in let more = all_end os all.1 in (
    λ f i. one.fields f i || more.0 f i,
    λ i. one.orders i ++ more.1 i,
    λ i. one.lines i ++ more.2 i,
    λ i. one.firms i ++ more.3 i,
  )

  ending_is : (os : List Order)
      → (ending os ≡ map end (filter (expires now) os)) × Each (λ o. expires now o ≡ true) (filter (expires now) os)
  ending_is [] = (refl, tt)
  ending_is (o ∷ os) = by (expires now o) refl (ending_is os)
    where
      by : (b : Bool) → expires now o ≡ b
          → (ending os ≡ map end (filter (expires now) os)) × Each (λ o. expires now o ≡ true) (filter (expires now) os)
          → ((if b then end o ∷ [] else []) ++ ending os
          ≡ map end (if b then o ∷ filter (expires now) os else filter (expires now) os))
          × Each (λ o. expires now o ≡ true) (if b then o ∷ filter (expires now) os else filter (expires now) os)
      by true e more = ((λ i. end o ∷ more.0 i), (e, more.1))
      by false e more = more

  expired_rows : (A : Ledger) → HasRows A (command.Expire now) (record no_rows {
    fields = λ f. list_any (has_line_on f) (filter (expires now) A.orders);
    orders = map (λ o. order_row (set_state Aborted o)) (filter (expires now) A.orders);
  })
  expired_rows A = let is = ending_is A.orders in let rows = all_end (filter (expires now) A.orders) is.1 in record {
    fields = λ f. touched A (command.Expire now) f ∙ ap (list_any (touches f)) is.0 ∙ rows.0 f;
    moves = refl;
    orders = ap (flat_map state_row) is.0 ∙ rows.1;
    lines = ap (flat_map amount_rows) is.0 ∙ rows.2;
    firms = ap (flat_map mark_row) is.0 ∙ rows.3;
  }

-- ---- a part of what a line holds is used, or is released

-- the fields of an order whose lines change in their places
lines_fields : (s : Step) (f : Name) (new : Line → Line) (changed : Line → Bool) (nr : ℕ) (ls : List Line)
    → ((l : Line) → on f (new l) ≡ on f l)
    → Each (λ l. changes_stock s (record { nr = 0; before = Some l; after = new l }) ≡ changed l) ls
    → list_any (λ t. on f t.after && changes_stock s t) (line_steps nr ls (map new ls)) ≡ list_any (λ l. on f l && changed l) ls
lines_fields s f new changed nr [] same h = refl
lines_fields s f new changed nr (l ∷ ls) same h =
    λ i. (same l i && h.0 i) || lines_fields s f new changed (nr + 1) ls same h.1 i

-- their rows, chosen by their fields
lines_rows : (n : ℕ) (new : Line → Line) (chosen : Name → Bool) (nr : ℕ) (ls : List Line)
    → Each (λ l. changes_line (record { nr = 0; before = Some l; after = new l }) ≡ chosen (line_name (new l))) ls
    → flat_map (amount_row n) (line_steps nr ls (map new ls))
    ≡ filter (λ row. chosen (name_of row.branch row.article)) (lines_from n nr (map new ls))
lines_rows n new chosen nr [] h = refl
lines_rows n new chosen nr (l ∷ ls) h =
    (λ i. (if h.0 i then line_row n nr (new l) ∷ [] else []) ++ lines_rows n new chosen (nr + 1) ls h.1 i)
    ∙ by (chosen (line_name (new l))) _
  where
    by : (b : Bool) (rows : List LineCells)
        → (if b then line_row n nr (new l) ∷ [] else []) ++ rows ≡ (if b then line_row n nr (new l) ∷ rows else rows)
    by true rows = refl
    by false rows = refl

-- what a use and a release do to the amounts of a line of which so much is left: a release changes what it holds
record IsPartly (change : Line → Line) (q : ℕ) (releases : Bool) : Type 0 where
  name : (l : Line) → line_name (change l) ≡ line_name l
  line : (l : Line) → l.used + q ≤ l.held → changes_line (record { nr = 0; before = Some l; after = change l }) ≡ true
  held : (l : Line) → l.used + q ≤ l.held
      → changes_held (record { nr = 0; before = Some l; after = change l }) ≡ releases

other_below : (q u h : ℕ) → 1 ≤ q → u + q ≤ h → (h == h - q) ≡ false
other_below q u h some left = grind arith

other_above : (q u : ℕ) → 1 ≤ q → (u == u + q) ≡ false
other_above q u some = grind arith

used_partly : (q : ℕ) → 1 ≤ q → IsPartly (raise_used q) q false
used_partly q some = record {
  name = λ l. refl;
  line = λ l left. grind (arith, other_above);
  held = λ l left. grind (arith, same_number);
}

released_partly : (q : ℕ) → 1 ≤ q → IsPartly (lower_held q) q true
released_partly q some = record {
  name = λ l. refl;
  line = λ l left. grind (arith, other_below);
  held = λ l left. grind (arith, other_below);
}

module _ (change : Line → Line) (q : ℕ) (releases : Bool) (is : IsPartly change q releases) (part : Name) (o : Order) where
  abbrev new : Line → Line
  new l = if is_transfer o || on part l then change l else l

  abbrev step : Step
  step = turn o (change_lines part change o)

  new_name : (l : Line) → line_name (new l) ≡ line_name l
  new_name l = by (is_transfer o || on part l)
    where
      by : (b : Bool) → line_name (if b then change l else l) ≡ line_name l
      by true = is.name l
      by false = refl

  new_amount : (l : Line) → ((is_transfer o || on part l) ≡ true → l.used + q ≤ l.held)
      → changes_line (record { nr = 0; before = Some l; after = new l }) ≡ (is_transfer o || on part l)
  new_amount l left = by (is_transfer o || on part l) left
    where
      by : (b : Bool) → (b ≡ true → l.used + q ≤ l.held)
          → changes_line (record { nr = 0; before = Some l; after = if b then change l else l }) ≡ b
      by true left = is.line l (left refl)
      by false left = grind (arith, same_number)

  new_stock : (l : Line) → ((is_transfer o || on part l) ≡ true → l.used + q ≤ l.held)
      → changes_stock step (record { nr = 0; before = Some l; after = new l })
      ≡ ((releases || o.firm) && (is_transfer o || on part l))
  new_stock l left = by (is_transfer o || on part l) left
    where
      sides : (a m h c t b : Bool) → h ≡ (t && b) → c ≡ b
          → (((a && not a) || (m && not m)) || h || (m && c)) ≡ ((t || m) && b)
      sides a m h c t b e d = grind arith

      by : (b : Bool) → (b ≡ true → l.used + q ≤ l.held)
          → changes_stock step (record { nr = 0; before = Some l; after = if b then change l else l })
          ≡ ((releases || o.firm) && b)
      by true left =
          sides (is_open o) o.firm _ _ releases true (is.held l (left refl) ∙ sym (and_true releases)) (is.line l (left refl))
      by false left =
          sides (is_open o) o.firm _ _ releases false (grind (arith, same_number)) (grind (arith, same_number))

  part_step : (left : Each (λ l. (is_transfer o || on part l) ≡ true → l.used + q ≤ l.held) o.lines)
      → StepRows step (record no_rows {
        fields = λ f. (releases || o.firm) && has_part_on part f o;
        lines = part_rows part (change_lines part change o);
      })
  part_step left = record {
    fields =
        λ f. lines_fields step f new (λ l. (releases || o.firm) && (is_transfer o || on part l)) 1 o.lines
        (λ l. ap (same_name f) (new_name l)) (each-imp (λ l left. new_stock l left) o.lines left)
        ∙ apart f (releases || o.firm) o.lines;
    orders = ap (λ b. if b then order_row (change_lines part change o) ∷ [] else []) (not_both (is_open o));
    lines =
        lines_rows o.number new (λ g. is_transfer o || same_name part g) 1 o.lines
        (each-imp (λ l left. new_amount l left ∙ ap (λ g. is_transfer o || same_name part g) (sym (new_name l))) o.lines left);
    firms = ap (λ b. if b then firm_row o.number ∷ [] else []) (not_both o.firm);
  }
    where
      apart : (f : Name) (b : Bool) (ls : List Line)
          → list_any (λ l. on f l && (b && (is_transfer o || on part l))) ls
          ≡ (b && list_any (λ l. on f l && (is_transfer o || on part l)) ls)
      apart f b [] = grind arith
      apart f b (l ∷ ls) = let more = apart f b ls in grind arith

-- what is left of the lines that change
part_left : (A : Ledger) (n : ℕ) (part : Name) (q : ℕ) (o : Order) → Good A → order_numbered A n ≡ Some o
    → Usable part q o
    → Each (λ l. (is_transfer o || on part l) ≡ true → l.used + q ≤ l.held) o.lines
part_left A n part q o good is usable =
    left_on part q o (each-found _ (numbered n) o A.orders (fit_from_good A good).orders is) usable

-- ---- more on an order

-- the step of an order that holds more
abbrev step_more : OpenLine → Order → Step
step_more l o = turn o (add_hold l o)

raised : (q x : ℕ) → 1 ≤ q → (x == x + q) ≡ false
raised q x h = grind arith

-- the amounts of a line that holds more
held_line : (o a : Order) (nr : ℕ) (m : Line) (q : ℕ) (b : Bool) → 1 ≤ q → is_open o ≡ true → o.firm ≡ false
    → a.state ≡ o.state → a.firm ≡ o.firm
    → changes_stock (turn o a) (record { nr = nr; before = Some m; after = if b then raise_held q m else m }) ≡ b
held_line o a nr m q b some unended loose state firm = grind (arith, raised)

both_on : (f g : Name) (m : Line) → (on g m && on f m) ≡ (same_name g f && on f m)
both_on f g m = by (on f m) refl
  where
    by : (b : Bool) → on f m ≡ b → (on g m && b) ≡ (same_name g f && b)
    by true e = ap (λ (n : Name). same_name g n && true) (sym (name_is f (line_name m) e))
    by false e = grind arith

module _ (l : OpenLine) (o : Order) (some : 1 ≤ l.qty) (unended : is_open o ≡ true) (loose : o.firm ≡ false) (g : Name) where
  abbrev f : Name
  f = name_of l.branch l.article

  abbrev held : List Line → Order
  held ls = record o { lines = ls }

  held_there : (a : Order) → a.state ≡ o.state → a.firm ≡ o.firm → (nr : ℕ) (ls : List Line)
      → list_any (λ t. on g t.after && changes_stock (turn o a) t)
      (line_steps nr ls (map (λ m. if on f m then raise_held l.qty m else m) ls)) ≡ (same_name g f && list_any (on f) ls)
  held_there a state firm nr [] = grind arith
  held_there a state firm nr (m ∷ ms) =
      (λ i.
      (on_kept (on f m) i && held_line o a nr m l.qty (on f m) some unended loose state firm i)
      || held_there a state firm (nr + 1) ms i)
      ∙ joined (on g m) (on f m) (same_name g f) (list_any (on f) ms) (both_on f g m)
    where
      on_kept : (b : Bool) → on g (if b then raise_held l.qty m else m) ≡ on g m
      on_kept true = refl
      on_kept false = refl

      joined : (x y z w : Bool) → (x && y) ≡ (z && y) → ((x && y) || (z && w)) ≡ (z && (y || w))
      joined x y z w e = grind arith

  held_new : (a : Order) → a.state ≡ o.state → a.firm ≡ o.firm → (nr : ℕ) (ls : List Line)
      → list_any (λ t. on g t.after && changes_stock (turn o a) t) (line_steps nr ls (ls ++ new_line l ∷ [])) ≡ same_name g f
  held_new a state firm nr [] = grind arith
  held_new a state firm nr (m ∷ ms) =
      (λ i. (on g m && held_line o a nr m l.qty false some unended loose state firm i) || held_new a state firm (nr + 1) ms i)
      ∙ none (on g m) (same_name g f)
    where
      none : (x y : Bool) → ((x && false) || y) ≡ y
      none x y = grind arith

  there_any : (ls : List Line) → is_some (find (on f) ls) ≡ list_any (on f) ls
  there_any [] = refl
  there_any (m ∷ ms) = let more = there_any ms in grind arith

  held_fields : list_any (λ t. on g t.after && changes_stock (step_more l o) t) (lines_of (step_more l o)) ≡ same_name g f
  held_fields = by (is_some (line_on o f)) refl
    where
      and_true : (x : Bool) → (x && true) ≡ x
      and_true x = grind arith

      result : Bool → Order
      result b = if b then hold_more f l.qty o else record o { lines = o.lines ++ new_line l ∷ [] }

      by : (b : Bool) → is_some (line_on o f) ≡ b
          → list_any (λ t. on g t.after && changes_stock (turn o (result b)) t) (lines_of (turn o (result b))) ≡ same_name g f
      by true e =
          held_there (result true) refl refl 1 o.lines ∙ ap (λ b. same_name g f && b) (sym (there_any o.lines) ∙ e)
          ∙ and_true (same_name g f)
      by false e = held_new (result false) refl refl 1 o.lines

-- the row of a line behind those that stay
pushed_rows : (n : ℕ) (chosen : Name → Bool) (l : Line) (nr : ℕ) (ls : List Line) → chosen (line_name l) ≡ true
    → Each (λ m. chosen (line_name m) ≡ false) ls
    → flat_map (amount_row n) (line_steps nr ls (ls ++ l ∷ []))
    ≡ filter (λ row. chosen (name_of row.branch row.article)) (lines_from n nr (ls ++ l ∷ []))
pushed_rows n chosen l nr [] own off = rw own refl
pushed_rows n chosen l nr (m ∷ ms) own off =
    let more = pushed_rows n chosen l (nr + 1) ms own off.1 in grind (arith, same_number)

more_step : (l : OpenLine) (o : Order) → 1 ≤ l.qty → is_open o ≡ true → o.firm ≡ false → is_transfer o ≡ false
    → StepRows (step_more l o) (record no_rows {
      fields = λ f. same_name f (name_of l.branch l.article);
      lines = part_rows (name_of l.branch l.article) (add_hold l o);
    })
more_step l o some unended loose plain =
    let rest = by (line_on o part) refl in record {
      fields = λ g. held_fields l o some unended loose g;
      orders = rest.0;
      lines = rest.1;
      firms = rest.2;
    }
  where
    part : Name
    part = name_of l.branch l.article

    result : Bool → Order
    result b = if b then hold_more part l.qty o else record o { lines = o.lines ++ new_line l ∷ [] }

    stays : (b : Bool) → state_row (turn o (result b)) ≡ []
    stays true = ap (λ b. if b then order_row (result true) ∷ [] else []) (not_both (is_open o))
    stays false = ap (λ b. if b then order_row (result false) ∷ [] else []) (not_both (is_open o))

    unmarked : (b : Bool) → mark_row (turn o (result b)) ≡ []
    unmarked true = ap (λ b. if b then firm_row o.number ∷ [] else []) (not_both o.firm)
    unmarked false = ap (λ b. if b then firm_row o.number ∷ [] else []) (not_both o.firm)

    chosen : Name → Bool
    chosen g = is_transfer o || same_name part g

    raised : (m : Line) (b : Bool) → on part m ≡ b
        → changes_line (record { nr = 0; before = Some m; after = if b then raise_held l.qty m else m })
        ≡ chosen (line_name (if b then raise_held l.qty m else m))
    raised m true e = grind (arith, other_above)
    raised m false e = grind (arith, same_number)

    by : (x : Option Line) → line_on o part ≡ x
        → (state_row (turn o (result (is_some x))) ≡ []) × (amount_rows (turn o (result (is_some x))) ≡ part_rows part
        (result (is_some x))) × (mark_row (turn o (result (is_some x))) ≡ [])
    by None e = (
      stays false,
      pushed_rows o.number chosen (new_line l) 1 o.lines (λ i. plain i || same_self part i)
          (each-imp (λ m off. (λ i. plain i || off i)) o.lines (none_found (on part) o.lines e)),
      unmarked false,
    )
    by (Some m) e = (
      stays true,
      lines_rows o.number (λ m. if on part m then raise_held l.qty m else m) chosen 1 o.lines
          (each (λ m. raised m (on part m) refl) o.lines),
      unmarked true,
    )

-- ---- the table

pub table_holds : (A : Ledger) (c : Command) → Good A → IsInRange c → FirstFailure (checks A c) None
    → HasRows A c (rows_by_command A c)
table_holds A c good range passed = by c range (all_pass (checks A c) passed)
  where
    by : (c : Command) → IsInRange c → AllPass (checks A c) → HasRows A c (rows_by_command A c)
    by (command.Field b a lo hi start) range p =
        own_rows A (command.Field b a lo hi start) (name_of b a) _ refl refl refl
    by (command.Deliver b a q) range p =
        own_rows A (command.Deliver b a q) (name_of b a) _ refl refl refl
    by (command.Writeoff b a q) range p =
        own_rows A (command.Writeoff b a q) (name_of b a) _ refl refl refl
    by (command.Rebound b a lo hi) range p =
        own_rows A (command.Rebound b a lo hi) (name_of b a) _ refl refl refl
    by (command.Open n until lines) range p =
        opens_rows A (command.Open n until lines) _ refl refl refl refl
    by (command.Transfer n until a from to q) range p =
        opens_rows A (command.Transfer n until a from to q) _ refl refl refl refl
    by (command.More n way b a q) range p =
        let f = name_of b a in
        let l : OpenLine = record { way = way; branch = b; article = a; qty = q } in
        order_rows A (command.More n way b a q) n (add_hold l) _ (MayHoldMore f way) refl refl refl (λ o. refl) good
        (takes_more f way _ p.1.0 p.1.1.0 p.1.1.1.0 p.1.1.1.1.0 p.1.1.1.1.1.1.0)
        (λ o is may. more_step l o range.3.0 may.0 may.1 may.2)
    by (command.Use n b a q) range p = let f = name_of b a in
        order_rows A (command.Use n b a q) n (change_lines f (raise_used q)) _ (Usable f q) refl refl refl (λ o. refl) good
        (usable_there f q _ p.1.0 p.1.1.0 p.1.1.1.0 p.1.1.1.1.0)
        (λ o is may. part_step (raise_used q) q false (used_partly q range.3.0) f o (part_left A n f q o good is may))
    by (command.Release n b a q) range p = let f = name_of b a in
        order_rows A (command.Release n b a q) n (change_lines f (lower_held q)) _ (Usable f q) refl refl refl (λ o. refl) good
        (usable_there f q _ p.1.0 p.1.1.0 p.1.1.1.0 p.1.1.1.1.0)
        (λ o is may. part_step (lower_held q) q true (released_partly q range.3.0) f o (part_left A n f q o good is may))
    by (command.Commit n) range p =
        order_rows A (command.Commit n) n (set_state Committed) _ (λ o. is_open o ≡ true) refl refl refl (λ o. refl) good
        (open_there _ p.0 p.1.0) (λ o is e. end_step o Committed e refl)
    by (command.Abort n) range p =
        order_rows A (command.Abort n) n (set_state Aborted) _ (λ o. is_open o ≡ true) refl refl refl (λ o. refl) good
        (open_there _ p.0 p.1.0) (λ o is e. end_step o Aborted e refl)
    by (command.Firm n) range p =
        order_rows A (command.Firm n) n set_firm _ (λ o. (is_open o ≡ true) × (o.firm ≡ false)) refl refl refl (λ o. refl) good
        (loose_there _ p.1.0 p.1.1.0 p.1.1.1.0)
        (λ o is may. subst (λ m.
        StepRows (turn o (set_firm o)) (record no_rows { fields = λ f. has_line_on f o; firms = firm_row m ∷ [] }))
        (number_is o.number n (found_passes (numbered n) o A.orders is)) (firm_step o may.1))
    by (command.Expire now) range p = expired_rows now A
