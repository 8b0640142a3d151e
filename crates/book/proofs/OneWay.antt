-- What the lines of an accepted command count for all falls or all rises: so on the way each field stays within its bounds.
use Rattle.ledger.proofs.Prelude.{Accepts, Add, Bool, Changes, Command, Contains, Each, Effect, Field, FirstFailure}
use Rattle.ledger.proofs.Prelude.{Good, IsSome, IsSomeAnd, Ledger, List, MAX_ORDER_LINES, Name, None, Nothing, OpenLine}
use Rattle.ledger.proofs.Prelude.{Option, Order, Request, ShareStep, Some, Step, Take, Way, [], accept, add_hold}
use Rattle.ledger.proofs.Prelude.{add_part, added_on, ap, append-nil, append_assoc, arith, checks, effect, false}
use Rattle.ledger.proofs.Prelude.{field_named, find, flat_map, flat_map-append, held_to_add, held_to_take, hold_more}
use Rattle.ledger.proofs.Prelude.{if◌then◌else◌, inl, inr, ints, is_open, is_some, length, line_name, line_on}
use Rattle.ledger.proofs.Prelude.{line_steps, map, map-append, moved_by_command, name_of, new_line, new_order, next}
use Rattle.ledger.proofs.Prelude.{no_content, numbered, on, opening, option_map_or, order_numbered, orders_made}
use Rattle.ledger.proofs.Prelude.{own_field, pos, raise_held, refl, rows_among, same_name, settled, settled_part}
use Rattle.ledger.proofs.Prelude.{settled_state, share_of, share_step, share_steps, shares_of_step, steps, steps_of}
use Rattle.ledger.proofs.Prelude.{subst, sym, take_part, transfer_lines, true, turn, ℕ, ℤ, ◌++◌, ◌+ℤ◌, ◌+◌, ◌-ℤ◌, ◌∙◌}
use Rattle.ledger.proofs.Prelude.{◌∷◌, ◌≡◌, ◌≤ℤ◌, ◌≤◌, ◌⊎◌}
use Rattle.book.proofs.Prelude.{Adds, CountsAll, CountsMore, IsMadeBy, LieWithin, Made, MayCount, MayMake, joined}
use Rattle.book.proofs.Prelude.{numbers_with, order_of, step_rows}
use Rattle.ledger.proofs.Falls.{Falls, all_fall, fields_there, lowers, made_each}
use Rattle.ledger.specs.declared.order.Line.{Line}
use Rattle.ledger.specs.declared.order.Share.{Share}
use Rattle.ledger.specs.declared.order.State.TheVariants.{Open}
use Rattle.ledger.specs.declared.order.Kind.TheVariants.{Plain, Transfer}
use Rattle.book.proofs.ShownNumbers.{Contains-of_find}
use Rattle.ledger.proofs.Steps.{adds_next, alike, one_step, state_same, steps_go, takes_next, value_next}
use Rattle.ledger.proofs.Sums.{each-append, total-append, each-imp}
use Rattle.ledger.proofs.Passing.{all_pass, loose_there}
use Rattle.book.proofs.RunningNumbers.{bounds_at}
use Rattle.book.proofs.ChangedFields.{adds_on, counts-none, counts-nothing, counts-then, may-first, may-then}
use Rattle.ledger.proofs.Lists.{each-left, each-right, each-unmap}
use Rattle.book.proofs.FieldRows.{keeps_fields}
use Rattle.words.specs.declared.command.Command.TheVariants as command

-- ---- steps that fall, and steps that rise

-- no less is held, and nothing more is settled
record Rises (s : ShareStep) : Type 0 where
  settled : s.after.settled ≡ s.before.settled
  held : s.before.held ≤ s.after.held

-- what rising steps add: nothing that is settled, and nothing less that is held
record Higher (settled takes adds : ℤ) : Type 0 where
  settled_stays : settled ≡ pos 0
  takes_rise : pos 0 ≤ℤ takes
  adds_rise : pos 0 ≤ℤ adds

share_rises : (b : Bool) (w : Way) (x y : Share) → y.settled ≡ x.settled → x.held ≤ y.held
    → Higher (if b then settled_part w y -ℤ settled_part w x else pos 0)
    (if b then take_part w y -ℤ take_part w x else pos 0) (if b then add_part w y -ℤ add_part w x else pos 0)
share_rises true Take x y s h =
    record { settled_stays = omega (arith, ints); takes_rise = omega (arith, ints); adds_rise = omega (arith, ints) }
share_rises true Add x y s h =
    record { settled_stays = omega (arith, ints); takes_rise = omega (arith, ints); adds_rise = omega (arith, ints) }
share_rises false w x y s h =
    record { settled_stays = refl; takes_rise = omega (arith, ints); adds_rise = omega (arith, ints) }

rise : (f : Name) (xs : List ShareStep) → Each Rises xs
    → Higher (added_on settled_part f xs) (added_on take_part f xs) (added_on add_part f xs)
rise f [] all =
    record { settled_stays = refl; takes_rise = omega (arith, ints); adds_rise = omega (arith, ints) }
rise f (x ∷ xs) all =
    let one = share_rises (same_name f x.name) x.way x.before x.after all.0.settled all.0.held in let more = rise f xs all.1 in
    record { settled_stays = omega (arith, ints); takes_rise = omega (arith, ints); adds_rise = omega (arith, ints) }

abbrev AllOneWay : List ShareStep → Type 0
AllOneWay xs = Each Falls xs ⊎ Each Rises xs

-- the other ledger has the numbers that the steps add up to
abbrev Reaches : Ledger → List ShareStep → Ledger → Field → Type 0
Reaches A xs B f = (settled B f ≡ settled A f +ℤ added_on settled_part f.name xs)
    × (held_to_take B f.name ≡ held_to_take A f.name +ℤ added_on take_part f.name xs)
    × (held_to_add B f.name ≡ held_to_add A f.name +ℤ added_on add_part f.name xs)

-- between two good ledgers
stays_within : (A B : Ledger) (f : Field) (xs ys : List ShareStep) → Good A → Good B → Contains A.fields f
    → Contains B.fields f
    → Reaches A (xs ++ ys) B f → AllOneWay (xs ++ ys) → LieWithin f.lo f.hi (numbers_with A f xs)
stays_within A B f xs ys good next here there reaches one_way = by one_way
  where
    by : AllOneWay (xs ++ ys) → LieWithin f.lo f.hi (numbers_with A f xs)
    by (inl falls) =
        let a = bounds_at A f good here in let b = bounds_at B f next there in let r = reaches in
        let first = lowers f.name xs (each-left Falls xs ys falls) in
        let last = lowers f.name ys (each-right Falls xs ys falls) in
        let s = total-append (adds_on settled_part f.name) xs ys in
        let t = total-append (adds_on take_part f.name) xs ys in
        let d = total-append (adds_on add_part f.name) xs ys in
        record { low = omega (arith, ints); takes = omega (arith, ints); adds = omega (arith, ints); high = omega (arith, ints) }
    by (inr rises) =
        let a = bounds_at A f good here in let b = bounds_at B f next there in let r = reaches in
        let first = rise f.name xs (each-left Rises xs ys rises) in
        let last = rise f.name ys (each-right Rises xs ys rises) in
        let s = total-append (adds_on settled_part f.name) xs ys in
        let t = total-append (adds_on take_part f.name) xs ys in
        let d = total-append (adds_on add_part f.name) xs ys in
        record { low = omega (arith, ints); takes = omega (arith, ints); adds = omega (arith, ints); high = omega (arith, ints) }

-- ---- commands that ask for stock

new_rise : (o : Order) (nr : ℕ) (ls : List Line) → o.state ≡ Open → o.firm ≡ false
    → Each Rises (map (share_step (opening o)) (line_steps nr [] ls))
new_rise o nr [] unended loose = tt
new_rise o nr (l ∷ ls) unended loose = (
  record { settled = λ i. if settled_state (unended i) (loose i) then l.used else 0; held = omega arith },
  new_rise o (nr + 1) ls unended loose,
)

-- the step of an order to one with other lines
abbrev relined : Order → List Line → Step
relined o ls = turn o (record o { lines = ls })

module _ (o : Order) (unended : o.state ≡ Open) (loose : o.firm ≡ false) where
  -- a line that holds no less
  line_rises : (ls : List Line) (nr : ℕ) (b l : Line) → b.held ≤ l.held
      → Rises (share_step (relined o ls) (record { nr = nr; before = Some b; after = l }))
  line_rises ls nr b l more = rw (share b, share l) (record { settled = refl; held = more })
    where
      share : (l : Line) → share_of o.state o.firm l ≡ record { settled = 0; held = l.held }
      share l = λ i. share_of (unended i) (loose i) l

  raised_rise : (f : Name) (q : ℕ) (all : List Line) (nr : ℕ) (ls : List Line)
      → Each Rises (map (share_step (relined o all)) (line_steps nr ls (map (λ m. if on f m then raise_held q m else m) ls)))
  raised_rise f q all nr [] = tt
  raised_rise f q all nr (m ∷ ms) =
      (line_rises all nr m (if on f m then raise_held q m else m) (grind arith), raised_rise f q all (nr + 1) ms)

  pushed_rise : (l : Line) (all : List Line) (nr : ℕ) (ls : List Line)
      → Each Rises (map (share_step (relined o all)) (line_steps nr ls (ls ++ l ∷ [])))
  pushed_rise l all nr [] =
      (record { settled = λ i. if settled_state (unended i) (loose i) then l.used else 0; held = omega arith }, tt)
  pushed_rise l all nr (m ∷ ms) = (line_rises all nr m m (omega arith), pushed_rise l all (nr + 1) ms)

  more_rise : (l : OpenLine) → Each Rises (shares_of_step (turn o (add_hold l o)))
  more_rise l = by (is_some (line_on o (name_of l.branch l.article)))
    where
      by : (b : Bool) → Each Rises (shares_of_step (record {
        before = Some o;
        after = if b then hold_more (name_of l.branch l.article) l.qty o
            else record o { lines = o.lines ++ new_line l ∷ [] };
      }))
      by true =
          let f = name_of l.branch l.article in
          raised_rise f l.qty (map (λ m. if on f m then raise_held l.qty m else m) o.lines) 1 o.lines
      by false = pushed_rise (new_line l) (o.lines ++ new_line l ∷ []) 1 o.lines

more_rises : (A : Ledger) (n : ℕ) (l : OpenLine) → Good A
    → IsSomeAnd (order_numbered A n) (λ o. (is_open o ≡ true) × (o.firm ≡ false))
    → Each Rises (flat_map shares_of_step (steps (Changes (numbered n) (add_hold l)) A.orders))
more_rises A n l good there = rw (one_step n (add_hold l) A.orders good.orders_in_order) (by (order_numbered A n) there)
  where
    by : (x : Option Order) → IsSomeAnd x (λ o. (is_open o ≡ true) × (o.firm ≡ false))
        → Each Rises (flat_map shares_of_step (option_map_or (λ o. turn o (add_hold l o) ∷ []) x []))
    by None there = absurd there
    by (Some o) there = each-append Rises (shares_of_step (turn o (add_hold l o))) []
        (more_rise o (state_same Open o.state refl there.0) there.1 l) tt

one_way : (A : Ledger) (key : List ℕ) (c : Command) → Accepts A (record { key = key; command = c })
    → AllOneWay (share_steps A c)
one_way A key (command.Field b x lo hi start) a = inl tt
one_way A key (command.Deliver b x q) a = inl tt
one_way A key (command.Writeoff b x q) a = inl tt
one_way A key (command.Rebound b x lo hi) a = inl tt
one_way A key (command.Open n until lines) a =
    let o = new_order n Plain until lines in
    inr (each-append Rises (shares_of_step (opening o)) [] (new_rise o 1 o.lines refl refl) tt)
one_way A key (command.Transfer n until x from to q) a =
    let o = new_order n Transfer until (transfer_lines x from to q) in
    inr (each-append Rises (shares_of_step (opening o)) [] (new_rise o 1 o.lines refl refl) tt)
one_way A key (command.More n way b x q) a =
    let p = all_pass (checks A (command.More n way b x q)) a.accepted.1 in
    let l : OpenLine = record { way = way; branch = b; article = x; qty = q } in
    inr (more_rises A n l a.before (loose_there (order_numbered A n) p.1.0 p.1.1.0 p.1.1.1.0))
one_way A key c a = inl (all_fall A (record { key = key; command = c }) a tt)

-- ---- what an accepted command may make

reaches : (A : Ledger) (c : Command) (f : Field) → Good A → FirstFailure (checks A c) None → own_field c ≡ None
    → Reaches A (share_steps A c) (next A c) f
reaches A c f good passed own =
    let goes = steps_go A c good.orders_in_order passed in
    let none = not_moved c own in let value = value_next A c goes f in
    (omega (arith, ints), takes_next A c goes f.name, adds_next A c goes f.name)
  where
    not_moved : (c : Command) → own_field c ≡ None → moved_by_command f.name c ≡ pos 0
    not_moved c own = grind arith

-- a command that does something to orders makes no field, and moves no value at once
no_own : (c : Command) → (effect c ≡ Nothing → ⊥) → own_field c ≡ None
no_own c ordered = grind arith

may_make : (A : Ledger) (r : Request) (made : Made) → Accepts A r → own_field r.command ≡ None
    → made.fields.entries ≡ [] → MayMake A (steps_of A r.command) made
may_make A r made accepts own empty = record {
  short = each-unmap (λ (o : Order). length o.lines ≤ MAX_ORDER_LINES) (λ (s : Step). s.after) (steps_of A c)
      (made_each (λ o. length o.lines ≤ MAX_ORDER_LINES) (effect c) A.orders (each-imp (λ o x. x.few) _ accepts.after.orders));
  there =
      each-unmap (λ (o : Order). Each (λ l. IsSome (field_named A (line_name l))) o.lines) (λ (s : Step). s.after) (steps_of A c)
      (fields_there A r accepts (keeps_fields A c own));
  count = (
    [],
    subst (CountsAll A []) (sym empty) (counts-none A),
    record {
      within = λ front rest e f there.
          stays_within A (accept A r) f front rest accepts.before accepts.after (Contains-of_find _ A.fields f there)
          (Contains-of_find _ (next A c).fields f (ap (find (λ g. same_name f.name g.name)) (keeps_fields A c own) ∙ there))
          (subst (λ xs. Reaches A xs (accept A r) f) (sym e) (reaches A c f accepts.before accepts.accepted.1 own))
          (subst AllOneWay (sym e) (one_way A r.key c accepts));
      alike = alike A c (steps_go A c accepts.before.orders_in_order accepts.accepted.1);
    },
  );
}
  where
    c : Command
    c = r.command

-- the same of an effect that is the command's
pub may_steps : (A : Ledger) (r : Request) (made : Made) (e : Effect) → Accepts A r → e ≡ effect r.command
    → (e ≡ Nothing → ⊥)
    → made.fields.entries ≡ [] → MayMake A (steps e A.orders) made
may_steps A r made e accepts is ordered empty = subst (λ (e : Effect). MayMake A (steps e A.orders) made) (sym is)
    (may_make A r made accepts (no_own r.command (λ none. ordered (is ∙ none))) empty)

-- ---- steps made one after the other

pub adds-nothing : (A : Ledger) (a : Made) → Adds A [] a a
adds-nothing A a = record {
  orders = sym (append-nil (map order_of a.orders.items));
  fields = counts-nothing A a.fields.entries;
  changes = grind (arith, append-nil);
}

pub adds-then : (A : Ledger) (xs ys : List Step) (a b d : Made) → Adds A xs a b → Adds A ys b d → Adds A (xs ++ ys) a d
adds-then A xs ys a b d first more = record {
  orders =
      more.orders ∙ ap (λ os. os ++ map (λ s. s.after) ys) first.orders
      ∙ append_assoc _ (map (λ s. s.after) xs) (map (λ s. s.after) ys)
      ∙ ap (λ os. map order_of a.orders.items ++ os) (sym (map-append (λ s. s.after) xs ys));
  fields =
      subst (λ zs. CountsMore A zs a.fields.entries d.fields.entries) (sym (flat_map-append shares_of_step xs ys))
      (counts-then A _ _ _ _ _ first.fields more.fields);
  changes = grind (arith, append_assoc, flat_map-append);
}

-- what may be made may be in parts
pub makes-first : (A : Ledger) (xs ys : List Step) (a : Made) → MayMake A (xs ++ ys) a → MayMake A xs a
makes-first A xs ys a may = record {
  short = each-left _ xs ys may.short;
  there = each-left _ xs ys may.there;
  count =
      may-first A _ (flat_map shares_of_step ys) _
      (subst (λ zs. MayCount A zs a.fields.entries) (flat_map-append shares_of_step xs ys) may.count);
}

pub makes-then : (A : Ledger) (xs ys : List Step) (a b : Made) → MayMake A (xs ++ ys) a → Adds A xs a b → MayMake A ys b
makes-then A xs ys a b may first = record {
  short = each-right _ xs ys may.short;
  there = each-right _ xs ys may.there;
  count =
      may-then A (flat_map shares_of_step xs) _ _ _ (subst (λ zs. MayCount A zs a.fields.entries)
      (flat_map-append shares_of_step xs ys) may.count) first.fields;
}

pub made_by : (A : Ledger) (c : Command) (a b : Made) → map order_of a.orders.items ≡ [] → a.fields.entries ≡ []
    → rows_among a.changes.items ≡ no_content → Adds A (steps_of A c) a b → IsMadeBy A c b
made_by A c a b orders fields changes adds = record {
  orders = adds.orders ∙ ap (λ os. os ++ orders_made A c) orders;
  fields = adds.fields [] (subst (CountsAll A []) (sym fields) (counts-none A));
  changes = adds.changes ∙ ap (λ rows. joined rows (step_rows (steps_of A c))) changes;
}
