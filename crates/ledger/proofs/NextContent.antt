-- The rows that an accepted command changes, put into the ledger's rows, give the rows of the next ledger.
use Rattle.ledger.proofs.Prelude.{Bool, Command, Content, DeskCells, Each, Equal, Field, FieldCells, FirmCells}
use Rattle.ledger.proofs.Prelude.{FirstFailure, Good, IsInRange, IsKey, IsRowsOf, IsStrictlySortedBy, IsTotalOrder}
use Rattle.ledger.proofs.Prelude.{Ledger, Line, LineCells, List, Name, None, Order, OrderCells, Ordering, Request, Some}
use Rattle.ledger.proofs.Prelude.{[], accept, amount_row, amount_rows, ap, arith, changed_rows, changes_field, checks}
use Rattle.ledger.proofs.Prelude.{common_steps, desk_row, effect, false, field_cmp, field_row, filter, firm_cmp}
use Rattle.ledger.proofs.Prelude.{firm_rows, flat_map, if◌then◌else◌, insert_in_order, int_cmp_total, ints, is_lt}
use Rattle.ledger.proofs.Prelude.{kept_cmp, kept_row, kept_under, line_cmp, line_name, line_row, line_steps, lines_from}
use Rattle.ledger.proofs.Prelude.{map, map-map, mark_row, move_cmp, move_made, move_row, name_cmp, name_of, nat_cmp}
use Rattle.ledger.proofs.Prelude.{nat_list_cmp_total, new_key, next, not, on_total, opening, order_cmp, order_lines}
use Rattle.ledger.proofs.Prelude.{order_row, places, pos, put_content, put_rows, refl, slice_cmp, state_row, steps_of}
use Rattle.ledger.proofs.Prelude.{subst, sym, then_total, tied_itself, true, turn, ℕ, ◌+◌, ◌==◌, ◌||◌, ◌∙◌, ◌∷◌, ◌≡◌}
use Rattle.words.specs.declared.command.Command.TheVariants as command
use Rattle.std.specs.Prelude.{option_to_list}
use Rattle.ledger.specs.Rows.{desk_cmp}
use Rattle.ledger.specs.Next.{with_bounds}
use Rattle.ledger.proofs.Sums.{each}
use Rattle.ledger.proofs.Goodness.{good_accept}
use Rattle.ledger.proofs.Safety.{bounding, bounding_name}
use Rattle.ledger.proofs.Puts.{Follows, follows-insert, follows-join, follows-map, follows-new, follows-one}
use Rattle.ledger.proofs.Puts.{follows-push, follows-same, put_all, steps_put}
use Rattle.ledger.proofs.EqualRows.{fields_sorted, firms_sorted, kept_sorted, lines_sorted, moves_sorted, one_content}
use Rattle.ledger.proofs.EqualRows.{orders_sorted, rows_are, rows_of}
use Rattle.ledger.proofs.Lists.{number_is, or_false}
use Rattle.ledger.proofs.Steps.{Goes, Grows, SameNumbers, and_not, effect_goes, not_not, same_numbers, state_same}
use Rattle.ledger.proofs.FieldNames.{other_way, same_self}

field_cmp_total : IsTotalOrder field_cmp
field_cmp_total =
    then_total (on_total (λ r. r.branch) nat_list_cmp_total) (on_total (λ r. r.article) nat_list_cmp_total)

move_cmp_total : IsTotalOrder move_cmp
move_cmp_total = on_total (λ r. r.place) int_cmp_total

order_cmp_total : IsTotalOrder order_cmp
order_cmp_total = on_total (λ r. r.number) int_cmp_total

line_cmp_total : IsTotalOrder line_cmp
line_cmp_total = then_total (on_total (λ r. r.number) int_cmp_total) (on_total (λ r. r.nr) int_cmp_total)

kept_cmp_total : IsTotalOrder kept_cmp
kept_cmp_total = on_total (λ r. r.reqkey) nat_list_cmp_total

firm_cmp_total : IsTotalOrder firm_cmp
firm_cmp_total = on_total (λ r. r.number) int_cmp_total

pub flat-one : {X R : Type 0} (f : X → R) (xs : List X) → flat_map (λ x. f x ∷ []) xs ≡ map f xs
flat-one f [] = refl
flat-one f (x ∷ xs) = ap (λ rows. f x ∷ rows) (flat-one f xs)

-- ---- orders, and their rows

state_follows : (b a : Order) → Goes b a
    → Follows order_cmp (state_row (turn b a)) (order_row b ∷ []) (order_row a ∷ [])
state_follows b a goes = grind (arith, ints, common_steps, follows-one, state_same, and_not)

-- ---- lines

line_follows : (n nr : ℕ) (b l : Line) → l.way ≡ b.way → line_name l ≡ line_name b
    → Follows line_cmp (amount_row n (record { nr = nr; before = Some b; after = l })) (line_row n nr b ∷ [])
    (line_row n nr l ∷ [])
line_follows n nr b l way name =
    follows-one line_cmp (not (b.held == l.held) || not (b.used == l.used)) (line_row n nr b) (line_row n nr l)
    (rw (tied_itself int_cmp_total (pos n)) (tied_itself int_cmp_total (pos nr))) same
  where
    same : (not (b.held == l.held) || not (b.used == l.used)) ≡ false → line_row n nr b ≡ line_row n nr l
    same e =
        let both = or_false _ _ e in
        let held = number_is b.held l.held (not_not _ both.0) in
        let used = number_is b.used l.used (not_not _ both.1) in
        λ i. line_row n nr (record {
          way = sym way i;
          branch = (sym name i).branch;
          article = (sym name i).article;
          held = held i;
          used = used i;
        })

pub new_amounts : (n nr : ℕ) (ls : List Line) → flat_map (amount_row n) (line_steps nr [] ls) ≡ lines_from n nr ls
new_amounts n nr [] = refl
new_amounts n nr (l ∷ ls) = grind (arith, ints, common_steps, (new_amounts n (nr + 1) ls))

amounts_follow : (n nr : ℕ) (bs ls : List Line) → Grows bs ls
    → Follows line_cmp (flat_map (amount_row n) (line_steps nr bs ls)) (lines_from n nr bs) (lines_from n nr ls)
amounts_follow n nr [] ls grows =
    subst (λ (rows : List LineCells). Follows line_cmp rows [] (lines_from n nr ls)) (sym (new_amounts n nr ls))
    (follows-new line_cmp (lines_from n nr ls))
amounts_follow n nr (b ∷ bs) [] grows = absurd grows
amounts_follow n nr (b ∷ bs) (l ∷ ls) grows =
    follows-join line_cmp (amount_row n (record { nr = nr; before = Some b; after = l })) (line_row n nr b ∷ [])
    (line_row n nr l ∷ []) _ _ _ (line_follows n nr b l grows.0.0 grows.0.1) (amounts_follow n (nr + 1) bs ls grows.1)

lines_follow : (b a : Order) → Goes b a → Follows line_cmp (amount_rows (turn b a)) (order_lines b) (order_lines a)
lines_follow b a goes = grind (arith, ints, common_steps, amounts_follow)

new_lines_follow : (o : Order) → Follows line_cmp (amount_rows (opening o)) [] (order_lines o)
new_lines_follow o = amounts_follow o.number 1 [] o.lines tt

-- ---- marks of firm orders

mark_follows : (b a : Order) → Goes b a → Follows firm_cmp (mark_row (turn b a)) (firm_rows b) (firm_rows a)
mark_follows b a goes = grind (arith, ints, common_steps, follows-same, follows-new)

new_mark_follows : (o : Order) → Follows firm_cmp (mark_row (opening o)) [] (firm_rows o)
new_mark_follows o = grind (arith, ints, common_steps, follows-new, follows-same)

-- ---- moves

moves_follow : (A : Ledger) (c : Command)
    → Follows move_cmp (map move_row (option_to_list (move_made (places A + 1) c))) (map move_row A.moves)
    (map move_row (next A c).moves)
moves_follow A c = grind (arith, ints, common_steps, follows-same, follows-push)

-- ---- fields

abbrev RowChosen : (Name → Bool) → FieldCells → Bool
RowChosen chosen row = chosen (name_of row.branch row.article)

same_row : (A B : Ledger) (f : Field) → SameNumbers A B f → field_row A f ≡ field_row B f
same_row A B f same = grind (arith, ints, common_steps)

same_key : (A B : Ledger) (f g : Field) → g.name ≡ f.name → field_cmp (field_row B g) (field_row A f) ≡ Equal
same_key A B f g e =
    ap (λ (n : Name). field_cmp (record (field_row B g) { branch = n.branch; article = n.article }) (field_row A f)) e
    ∙ tied_itself field_cmp_total (field_row A f)

field_inserted : (chosen : Name → Bool) (old new : Field → FieldCells) (p : Field → Field → Bool) (n : Field) (fs : List Field)
    → RowChosen chosen (new n) ≡ true
    → Each (λ f. (field_cmp (new f) (old f) ≡ Equal) × (RowChosen chosen (new f) ≡ false → old f ≡ new f)) fs
    → Follows field_cmp (filter (RowChosen chosen) (map new (insert_in_order p n fs))) (map old fs)
    (map new (insert_in_order p n fs))
field_inserted chosen old new p n [] is all = grind (arith, follows-new)
field_inserted chosen old new p n (f ∷ fs) is all =
    grind (arith, follows-join, follows-new, follows-one, follows-map, (field_inserted chosen old new p n fs is all.1))

-- a row then has the key of the one before, and is that one where the field does not change
abbrev RowKept : Ledger → Command → (Field → Field) → Field → Type 0
RowKept A c new f = (field_cmp (field_row (next A c) (new f)) (field_row A f) ≡ Equal)
    × (changes_field A c (new f).name ≡ false → field_row A f ≡ field_row (next A c) (new f))

abbrev NumbersKept : Ledger → Command → Type 0
NumbersKept A c = (f : Field) → changes_field A c f.name ≡ false → SameNumbers A (next A c) f

rows_kept : (A : Ledger) (c : Command) (new : Field → Field) → NumbersKept A c → ((f : Field) → (new f).name ≡ f.name)
    → ((f : Field) → changes_field A c f.name ≡ false → new f ≡ f) → Each (RowKept A c new) A.fields
rows_kept A c new numbers name same = each (λ f. (
  same_key A (next A c) f (new f) (name f),
  λ e.
      let off = subst (λ (n : Name). changes_field A c n ≡ false) (name f) e in
      same_row A (next A c) f (numbers f off) ∙ ap (field_row (next A c)) (sym (same f off)),
)) A.fields

-- among the rows of fields, those that the command changes follow those before
abbrev FieldsFollow : Ledger → Command → Type 0
FieldsFollow A c =
    Follows field_cmp (filter (RowChosen (changes_field A c)) (map (field_row (next A c)) (next A c).fields))
    (map (field_row A) A.fields) (map (field_row (next A c)) (next A c).fields)

fields_follow : (A : Ledger) (c : Command) → NumbersKept A c → FieldsFollow A c
fields_follow A (command.Field b a lo hi start) numbers =
    let c : Command = command.Field b a lo hi start in
    field_inserted (changes_field A c) (field_row A) (field_row (next A c)) (λ f g. is_lt (name_cmp f.name g.name)) _ A.fields
    (rw (same_self (name_of b a)) refl) (rows_kept A c (λ f. f) numbers (λ f. refl) (λ f e. refl))
fields_follow A (command.Rebound b a lo hi) numbers =
    let c : Command = command.Rebound b a lo hi in let f = name_of b a in let chosen = RowChosen (changes_field A c) in
    subst (λ (ys : List FieldCells). Follows field_cmp (filter chosen ys) (map (field_row A) A.fields) ys)
    (sym (map-map (field_row (next A c)) (bounding f lo hi) A.fields))
    (follows-map field_cmp chosen (field_row A) (λ g. field_row (next A c) (bounding f lo hi g)) A.fields
    (rows_kept A c (bounding f lo hi) numbers (bounding_name f lo hi)
    (λ g e. ap (λ t. if t then with_bounds lo hi g else g) (other_way g.name f (or_false _ _ e).0))))
fields_follow A c numbers =
    follows-map field_cmp (RowChosen (changes_field A c)) (field_row A) (field_row (next A c)) A.fields
    (rows_kept A c (λ f. f) numbers (λ f. refl) (λ f e. refl))

-- ---- the law

desk_put : (a b : DeskCells) (us vs : List DeskCells) → a.one ≡ pos 1 → b.one ≡ pos 1 → us ≡ a ∷ [] → vs ≡ b ∷ []
    → put_rows desk_cmp vs us ≡ vs
desk_put a b us vs p q e d = cc

placed : {R : Type 0} (cmp : R → R → Ordering) → IsTotalOrder cmp → (new xs ys us vs : List R) → us ≡ xs → vs ≡ ys
    → IsStrictlySortedBy cmp ys → Follows cmp new xs ys → put_rows cmp new us ≡ vs
placed cmp o new xs ys us vs e d s f = ap (put_rows cmp new) e ∙ put_all cmp o new xs ys s f ∙ sym d

pub changes_suffice : (A : Ledger) (r : Request) (C D : Content) → Good A → IsKey r.key → IsInRange r.command
    → kept_under A r.key ≡ None → FirstFailure (checks A r.command) None
    → IsRowsOf A C → IsRowsOf (accept A r) D → put_content (changed_rows A r D) C ≡ D
changes_suffice A r C D g key range none h x y =
    let B : Ledger = accept A r in
    let k : Good B = good_accept A r g key range none h in
    let goes = effect_goes A r.command g.orders_in_order h in
    let desk = desk_put (desk_row A) (desk_row B) C.desk D.desk refl refl x.desk y.desk in
    let before : C.fields ≡ map (field_row A) A.fields =
    ap (λ (C : Content). C.fields) (one_content A C (rows_of A) x (rows_are A g)) in
    let after : D.fields ≡ map (field_row B) B.fields =
    ap (λ (C : Content). C.fields) (one_content B D (rows_of B) y (rows_are B k)) in
    let fields = (λ i. put_rows field_cmp (filter (RowChosen (changes_field A r.command)) (after i)) (before i))
    ∙ put_all field_cmp field_cmp_total _ _ _
    (subst (IsStrictlySortedBy field_cmp) after (fields_sorted B B.fields D.fields k.fields_in_order y.fields))
    (fields_follow A r.command (λ f e. same_numbers A r.command f g h e)) ∙ sym after in
    let moves =
    placed move_cmp move_cmp_total _ _ _ C.moves D.moves x.moves y.moves (moves_sorted B k)
    (moves_follow A r.command) in
    let single = flat-one order_row B.orders in
    let orders =
    ap (put_rows order_cmp (flat_map state_row (steps_of A r.command)))
    (x.orders ∙ sym (flat-one order_row A.orders))
    ∙ steps_put OrderCells order_cmp (λ o. order_row o ∷ []) state_row (λ o. follows-new order_cmp (order_row o ∷ []))
    state_follows order_cmp_total
    (effect r.command) A.orders (subst (IsStrictlySortedBy order_cmp) (sym single) (orders_sorted B k)) goes
    ∙ single ∙ sym y.orders in
    let lines = ap (put_rows line_cmp (flat_map amount_rows (steps_of A r.command))) x.lines
    ∙ steps_put LineCells line_cmp order_lines amount_rows new_lines_follow lines_follow line_cmp_total
    (effect r.command) A.orders
    (lines_sorted B.orders k.orders_in_order) goes ∙ sym y.lines in
    let kept = placed kept_cmp kept_cmp_total _ _ _ C.kept D.kept x.kept y.kept (kept_sorted B k)
    (follows-insert kept_cmp kept_row (λ a b. is_lt (slice_cmp nat_cmp a.key b.key)) (new_key A r) A.kept) in
    let firms = ap (put_rows firm_cmp (flat_map mark_row (steps_of A r.command))) x.firms
    ∙ steps_put FirmCells firm_cmp firm_rows mark_row new_mark_follows mark_follows firm_cmp_total (effect r.command) A.orders
    (firms_sorted B.orders k.orders_in_order) goes ∙ sym y.firms in
    λ i. record {
      desk = desk i;
      fields = fields i;
      moves = moves i;
      orders = orders i;
      lines = lines i;
      kept = kept i;
      firms = firms i;
    }
