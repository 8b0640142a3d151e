-- Where two ledgers accept the same command, and the one stood for the other, it still does.
use Rattle.ledger.proofs.Prelude.{Bool, Each, IsFalse, List, Name, OpenLine, Order, Way, [], add_hold, ap, arith}
use Rattle.ledger.proofs.Prelude.{change_lines, false, hold_more, if◌then◌else◌, inl, inr, ints, is_open, is_settled}
use Rattle.ledger.proofs.Prelude.{is_some, is_transfer, line_name, line_on, lower_held, map, name_of, new_line, on}
use Rattle.ledger.proofs.Prelude.{open_state, part_of, pos, raise_held, raise_used, refl, same_name, set_firm}
use Rattle.ledger.proofs.Prelude.{set_state, settled_part, settled_state, signed, subst, sym, total, transfer_kind}
use Rattle.ledger.proofs.Prelude.{true, true≢false, ◌++◌, ◌+ℤ◌, ◌+◌, ◌||◌, ◌∙◌, ◌∷◌, ◌≡◌, ◌≤◌, ℕ, ℤ}
use Rattle.std.specs.List.{AllZip}
use Rattle.ledger.specs.declared.order.Line.{Line}
use Rattle.ledger.specs.declared.order.State.{State}
use Rattle.ledger.specs.declared.order.State.TheVariants.{Aborted, Committed, Open}
use Rattle.ledger.proofs.Falls.{Fine, left_on}
use Rattle.ledger.proofs.Lists.{zip-push}
use Rattle.ledger.proofs.Passing.{Usable}
use Rattle.ledger.proofs.Steps.{Goes, no_settled}
use Rattle.ledger.proofs.Sums.{each, total-push, total-zero}
use Rattle.laws.specs.Roll.{LineStands, OrderStands, OrdersStand}
use Rattle.laws.proofs.Standing.{name-same}
use Rattle.laws.proofs.Alike.{line_both}
use Rattle.laws.proofs.SameChecks.{both-some}

-- ---- what the lines of an order have used on a field

abbrev used_line : Name → Line → ℤ
used_line f l = if on f l then signed l.way l.used else pos 0

abbrev pub used_on : Name → Order → ℤ
used_on f o = total (used_line f) o.lines

by_flag : (f : Name) (b : Bool) (ls : List Line)
    → total (λ l. if on f l then signed l.way (if b then l.used else 0) else pos 0) ls
    ≡ (if b then total (used_line f) ls else pos 0)
by_flag f true ls = refl
by_flag f false ls = total-zero _ ls (each (λ l. zero_if (on f l) l.way) ls)
  where
    zero_if : (b : Bool) (w : Way) → (if b then signed w 0 else pos 0) ≡ pos 0
    zero_if true w = no_settled w
    zero_if false w = refl

-- where the order is not firm, the same is used
same_used : (f : Name) (firm : Bool) → firm ≡ false → (ls ms : List Line) → AllZip (LineStands firm) ls ms
    → total (used_line f) ms ≡ total (used_line f) ls
same_used f firm e [] [] s = refl
same_used f firm e [] (m ∷ ms) s = absurd s
same_used f firm e (l ∷ ls) [] s = absurd s
same_used f firm e (l ∷ ls) (m ∷ ms) s =
    λ i. (if same_name f (name-same firm l m s.0 i) then signed (s.0.way i) (s.0.loose e i) else pos 0)
    +ℤ same_used f firm e ls ms s.1 i

-- what is settled differs as what is used
pub settled_apart : (f : Name) (o p : Order) → OrderStands o p
    → part_of settled_part f o +ℤ used_on f p ≡ part_of settled_part f p +ℤ used_on f o
settled_apart f o p s =
    let here = by_flag f (is_settled o) o.lines in
    let there : part_of settled_part f p ≡ (if is_settled o then used_on f p else pos 0) =
    by_flag f (is_settled p) p.lines ∙ (λ i. if settled_state (s.state i) (s.firm i) then used_on f p else pos 0) in
    by (is_settled o) refl here there
  where
    by : (b : Bool) → is_settled o ≡ b
        → part_of settled_part f o ≡ (if b then used_on f o else pos 0)
        → part_of settled_part f p ≡ (if b then used_on f p else pos 0)
        → part_of settled_part f o +ℤ used_on f p ≡ part_of settled_part f p +ℤ used_on f o
    by true e here there = omega (arith, ints)
    by false e here there =
        let same = same_used f (is_settled o) e o.lines p.lines s.lines in omega (arith, ints)

-- ---- orders that change alike

-- an order that the change names goes on as the one that stands for it, and as much more is used
abbrev pub Turns : (Order → Bool) → (Order → Order) → Order → Type 0
Turns names change o = names o ≡ true → (p : Order) → OrderStands o p → OrderStands (change o) (change p)
    × ((f : Name) → used_on f (change o) +ℤ used_on f p ≡ used_on f (change p) +ℤ used_on f o)

abbrev pub NamesAlike : (Order → Bool) → Type 0
NamesAlike names = (o p : Order) → OrderStands o p → names p ≡ names o

abbrev pub after : (Order → Bool) → (Order → Order) → List Order → List Order
after names change os = map (λ o. if names o then change o else o) os

-- an order that has ended does not change
ended_stays : (names : Order → Bool) (change : Order → Order) (o : Order) → IsFalse (is_open o)
    → (names o ≡ true → Goes o (change o)) → (if names o then change o else o) ≡ o
ended_stays names change o closed go = by (names o) go
  where
    by : (b : Bool) → (b ≡ true → Goes o (change o)) → (if b then change o else o) ≡ o
    by true go = absurd (true≢false (sym (go refl).unended ∙ closed))
    by false go = refl

one_stands : (names : Order → Bool) (change : Order → Order) → NamesAlike names → (o p : Order) → OrderStands o p
    → Turns names change o → OrderStands (if names o then change o else o) (if names p then change p else p)
one_stands names change alike o p s turns = by (names o) refl (names p) (alike o p s)
  where
    by : (b : Bool) → names o ≡ b → (c : Bool) → c ≡ names o
        → OrderStands (if b then change o else o) (if c then change p else p)
    by true e true d = (turns e p s).0
    by true e false d = absurd (true≢false (sym (d ∙ e)))
    by false e true d = absurd (true≢false (d ∙ e))
    by false e false d = s

one_settles : (names : Order → Bool) (change : Order → Order) → NamesAlike names → (f : Name) (o p : Order)
    → OrderStands o p → Turns names change o
    → part_of settled_part f (if names o then change o else o) +ℤ part_of settled_part f p
    ≡ part_of settled_part f (if names p then change p else p) +ℤ part_of settled_part f o
one_settles names change alike f o p s turns = by (names o) refl (names p) (alike o p s)
  where
    by : (b : Bool) → names o ≡ b → (c : Bool) → c ≡ names o
        → part_of settled_part f (if b then change o else o) +ℤ part_of settled_part f p
        ≡ part_of settled_part f (if c then change p else p) +ℤ part_of settled_part f o
    by true e true d =
        let t = turns e p s in
        let was = settled_apart f o p s in
        let now = settled_apart f (change o) (change p) t.0 in
        let more = t.1 f in
        omega (arith, ints)
    by true e false d = absurd (true≢false (sym (d ∙ e)))
    by false e true d = absurd (true≢false (d ∙ e))
    by false e false d = omega (arith, ints)

module _ (names : Order → Bool) (change : Order → Order) (alike : NamesAlike names) where
  pub changed_stand : (os ps : List Order) → OrdersStand os ps
      → Each (λ o. names o ≡ true → Goes o (change o)) os → Each (Turns names change) os
      → OrdersStand (after names change os) (after names change ps)
  changed_stand [] [] s go turns = tt
  changed_stand [] (p ∷ ps) s go turns = absurd s
  changed_stand (o ∷ os) [] s go turns = (
    ap is_open (ended_stays names change o s.0 go.0) ∙ s.0,
    changed_stand os [] s.1 go.1 turns.1,
  )
  changed_stand (o ∷ os) (p ∷ ps) (inl s) go turns =
      inl (one_stands names change alike o p s.0 turns.0, changed_stand os ps s.1 go.1 turns.1)
  changed_stand (o ∷ os) (p ∷ ps) (inr s) go turns = inr (
    ap is_open (ended_stays names change o s.0 go.0) ∙ s.0,
    changed_stand os (p ∷ ps) s.1 go.1 turns.1,
  )

  pub changed_settle : (f : Name) (os ps : List Order) → OrdersStand os ps
      → Each (λ o. names o ≡ true → Goes o (change o)) os → Each (Turns names change) os
      → total (part_of settled_part f) (after names change os) +ℤ total (part_of settled_part f) ps
      ≡ total (part_of settled_part f) (after names change ps) +ℤ total (part_of settled_part f) os
  changed_settle f [] [] s go turns = refl
  changed_settle f [] (p ∷ ps) s go turns = absurd s
  changed_settle f (o ∷ os) [] s go turns =
      let same = ap (part_of settled_part f) (ended_stays names change o s.0 go.0) in
      let more = changed_settle f os [] s.1 go.1 turns.1 in
      omega (arith, ints)
  changed_settle f (o ∷ os) (p ∷ ps) (inl s) go turns =
      let one = one_settles names change alike f o p s.0 turns.0 in
      let more = changed_settle f os ps s.1 go.1 turns.1 in
      omega (arith, ints)
  changed_settle f (o ∷ os) (p ∷ ps) (inr s) go turns =
      let same = ap (part_of settled_part f) (ended_stays names change o s.0 go.0) in
      let more = changed_settle f os (p ∷ ps) s.1 go.1 turns.1 in
      omega (arith, ints)

-- ---- an order that ends, or becomes firm

lines_settled : (b : Bool) (ls ms : List Line) → AllZip (LineStands b) ls ms → AllZip (LineStands true) ls ms
lines_settled b [] [] s = tt
lines_settled b [] (m ∷ ms) s = absurd s
lines_settled b (l ∷ ls) [] s = absurd s
lines_settled b (l ∷ ls) (m ∷ ms) s = (
  record {
    way = s.0.way;
    branch = s.0.branch;
    article = s.0.article;
    rest = s.0.rest;
    loose = λ e. absurd (true≢false e);
  },
  lines_settled b ls ms s.1,
)

pub commits_alike : (o p : Order) → OrderStands o p
    → OrderStands (set_state Committed o) (set_state Committed p)
    × ((f : Name) → used_on f (set_state Committed o) +ℤ used_on f p ≡ used_on f (set_state Committed p) +ℤ used_on f o)
commits_alike o p t = (
  record {
    number = t.number;
    kind = t.kind;
    until = t.until;
    state = refl;
    firm = t.firm;
    lines = lines_settled (is_settled o) o.lines p.lines t.lines;
  },
  λ f. omega (arith, ints),
)

loose_open : (s : State) (m : Bool) → open_state s ≡ true → m ≡ false → settled_state s m ≡ false
loose_open Open m e d = d
loose_open Committed m e d = absurd (true≢false (sym e))
loose_open Aborted m e d = refl

pub aborts_alike : (o p : Order) → (is_open o ≡ true) × (o.firm ≡ false) → OrderStands o p
    → OrderStands (set_state Aborted o) (set_state Aborted p)
    × ((f : Name) → used_on f (set_state Aborted o) +ℤ used_on f p ≡ used_on f (set_state Aborted p) +ℤ used_on f o)
aborts_alike o p x t = (
  record {
    number = t.number;
    kind = t.kind;
    until = t.until;
    state = refl;
    firm = t.firm;
    lines = subst (λ b. AllZip (LineStands b) o.lines p.lines) (loose_open o.state o.firm x.0 x.1) t.lines;
  },
  λ f. omega (arith, ints),
)

firm_settled : (s : State) → open_state s ≡ true → settled_state s true ≡ true
firm_settled Open e = refl
firm_settled Committed e = refl
firm_settled Aborted e = e

pub firms_alike : (o p : Order) → is_open o ≡ true → OrderStands o p
    → OrderStands (set_firm o) (set_firm p)
    × ((f : Name) → used_on f (set_firm o) +ℤ used_on f p ≡ used_on f (set_firm p) +ℤ used_on f o)
firms_alike o p x t = (
  record {
    number = t.number;
    kind = t.kind;
    until = t.until;
    state = t.state;
    firm = refl;
    lines = subst (λ b. AllZip (LineStands b) o.lines p.lines) (sym (firm_settled o.state x))
        (lines_settled (is_settled o) o.lines p.lines t.lines);
  },
  λ f. omega (arith, ints),
)

-- ---- lines that change alike

signed_pairs : (b : Bool) (w : Way) (x y z u : ℕ) → x + y ≡ z + u
    → (if b then signed w x else pos 0) +ℤ (if b then signed w y else pos 0)
    ≡ (if b then signed w z else pos 0) +ℤ (if b then signed w u else pos 0)
signed_pairs b w x y z u e = grind (arith, ints)

-- What a change does to a line of which P holds: it leaves its field and way, and what stands for it goes on alike.
pub record ChangesAlike (P : Line → Type 0) (change : Line → Line) : Type 0 where
  pub name : (l : Line) → line_name (change l) ≡ line_name l
  pub way : (l : Line) → (change l).way ≡ l.way
  pub stands : (firm : Bool) (l m : Line) → P l → LineStands firm l m → LineStands firm (change l) (change m)
  pub more : (firm : Bool) (l m : Line) → P l → LineStands firm l m
      → (change l).used + m.used ≡ (change m).used + l.used

module _ (P : Line → Type 0) (change : Line → Line) (c : ChangesAlike P change) (firm : Bool) (f : Name) where
  -- the lines that change
  abbrev new : Bool → Line → Line
  new t l = if t || on f l then change l else l

  line_turns : (t u : Bool) → u ≡ t → (l m : Line) → LineStands firm l m → ((t || on f l) ≡ true → P l)
      → LineStands firm (new t l) (new u m)
      × ((g : Name) → used_line g (new t l) +ℤ used_line g m ≡ used_line g (new u m) +ℤ used_line g l)
  line_turns t u e l m s may =
      by (t || on f l) refl (u || on f m) (λ i. e i || same_name f (name-same firm l m s i))
    where
      sums : P l → (g : Name) → used_line g (change l) +ℤ used_line g m ≡ used_line g (change m) +ℤ used_line g l
      sums p g =
          let a : used_line g (change l) ≡ (if on g l then signed l.way (change l).used else pos 0) =
          λ i. if same_name g (c.name l i) then signed (c.way l i) (change l).used else pos 0 in
          let b : used_line g m ≡ (if on g l then signed l.way m.used else pos 0) =
          λ i. if same_name g (name-same firm l m s i) then signed (s.way i) m.used else pos 0 in
          let n = c.name m ∙ name-same firm l m s in let w = c.way m ∙ s.way in
          let d : used_line g (change m) ≡ (if on g l then signed l.way (change m).used else pos 0) =
          λ i. if same_name g (n i) then signed (w i) (change m).used else pos 0 in
          let e = signed_pairs (on g l) l.way (change l).used m.used (change m).used l.used (c.more firm l m p s) in
          omega (arith, ints)

      by : (b : Bool) → (t || on f l) ≡ b → (d : Bool) → d ≡ (t || on f l)
          → LineStands firm (if b then change l else l) (if d then change m else m)
          × ((g : Name) → used_line g (if b then change l else l) +ℤ used_line g m
          ≡ used_line g (if d then change m else m) +ℤ used_line g l)
      by true x true y = (c.stands firm l m (may x) s, sums (may x))
      by true x false y = absurd (true≢false (sym (y ∙ x)))
      by false x true y = absurd (true≢false (y ∙ x))
      by false x false y = (s, λ g. omega (arith, ints))

  lines_turn : (t u : Bool) → u ≡ t → (ls ms : List Line) → AllZip (LineStands firm) ls ms
      → Each (λ l. (t || on f l) ≡ true → P l) ls
      → AllZip (LineStands firm) (map (new t) ls) (map (new u) ms)
      × ((g : Name) → total (used_line g) (map (new t) ls) +ℤ total (used_line g) ms
      ≡ total (used_line g) (map (new u) ms) +ℤ total (used_line g) ls)
  lines_turn t u e [] [] s may = (tt, λ g. refl)
  lines_turn t u e [] (m ∷ ms) s may = absurd s
  lines_turn t u e (l ∷ ls) [] s may = absurd s
  lines_turn t u e (l ∷ ls) (m ∷ ms) s may =
      let one = line_turns t u e l m s.0 may.0 in let more = lines_turn t u e ls ms s.1 may.1 in
      ((one.0, more.0), λ g. let a = one.1 g in let b = more.1 g in omega (arith, ints))

pub use_alike : (q : ℕ) → ChangesAlike (λ l. l.used + q ≤ l.held) (raise_used q)
use_alike q = record {
  name = λ l. refl;
  way = λ l. refl;
  stands = λ firm l m p s. record {
    way = s.way;
    branch = s.branch;
    article = s.article;
    rest = (let e = s.rest in omega arith);
    loose = λ x. ap (λ n. n + q) (s.loose x);
  };
  more = λ firm l m p s. omega arith;
}

pub release_alike : (q : ℕ) → ChangesAlike (λ l. l.used + q ≤ l.held) (lower_held q)
release_alike q = record {
  name = λ l. refl;
  way = λ l. refl;
  stands = λ firm l m p s. record {
    way = s.way;
    branch = s.branch;
    article = s.article;
    rest = (let e = s.rest in omega arith);
    loose = s.loose;
  };
  more = λ firm l m p s. omega arith;
}

raise_alike : (q : ℕ) → ChangesAlike (λ l. Unit {0}) (raise_held q)
raise_alike q = record {
  name = λ l. refl;
  way = λ l. refl;
  stands = λ firm l m p s. record {
    way = s.way;
    branch = s.branch;
    article = s.article;
    rest = (let e = s.rest in omega arith);
    loose = s.loose;
  };
  more = λ firm l m p s. omega arith;
}

with_lines : (o p : Order) (ls ms : List Line) → OrderStands o p → AllZip (LineStands (is_settled o)) ls ms
    → OrderStands (record o { lines = ls }) (record p { lines = ms })
with_lines o p ls ms s lines =
    record { number = s.number; kind = s.kind; until = s.until; state = s.state; firm = s.firm; lines = lines }

pub part_turns : (q : ℕ) (change : Line → Line) → ChangesAlike (λ l. l.used + q ≤ l.held) change
    → (f : Name) (o p : Order)
    → Fine o → Usable f q o → OrderStands o p
    → OrderStands (change_lines f change o) (change_lines f change p)
    × ((g : Name) → used_on g (change_lines f change o) +ℤ used_on g p ≡ used_on g (change_lines f change p)
    +ℤ used_on g o)
part_turns q change c f o p fine usable s =
    let lines = lines_turn (λ l. l.used + q ≤ l.held) change c (is_settled o) f (is_transfer o) (is_transfer p)
    (ap transfer_kind s.kind) o.lines p.lines s.lines (left_on f q o fine usable) in
    (with_lines o p _ _ s lines.0, lines.1)

line_new : (firm : Bool) (l : Line) → LineStands firm l l
line_new firm l = record { way = refl; branch = refl; article = refl; rest = refl; loose = λ e. refl }

pub lines_new : (firm : Bool) (ls : List Line) → AllZip (LineStands firm) ls ls
lines_new firm [] = tt
lines_new firm (l ∷ ls) = (line_new firm l, lines_new firm ls)

pub hold_turns : (l : OpenLine) (o p : Order) → OrderStands o p
    → OrderStands (add_hold l o) (add_hold l p)
    × ((g : Name) → used_on g (add_hold l o) +ℤ used_on g p ≡ used_on g (add_hold l p) +ℤ used_on g o)
hold_turns l o p s =
    let f : Name = name_of l.branch l.article in
    by (is_some (line_on o f)) (is_some (line_on p f)) refl
    (iff_same _ _ (both-some (LineStands (is_settled o)) (line_on o f) (line_on p f) (line_both o p s f)))
  where
    iff_same : (b c : Bool) → (b ≡ true → c ≡ true) × (c ≡ true → b ≡ true) → c ≡ b
    iff_same true c h = h.0 refl
    iff_same false true h = sym (h.1 refl)
    iff_same false false h = refl

    held : Bool → Order → Order
    held b o = if b then hold_more (name_of l.branch l.article) l.qty o
        else record o { lines = o.lines ++ new_line l ∷ [] }

    by : (b c : Bool) → b ≡ b → c ≡ b
        → OrderStands (held b o) (held c p)
        × ((g : Name) → used_on g (held b o) +ℤ used_on g p ≡ used_on g (held c p) +ℤ used_on g o)
    by true true e d =
        let lines = lines_turn (λ l. Unit {0}) (raise_held l.qty) (raise_alike l.qty) (is_settled o)
        (name_of l.branch l.article)
        false false refl o.lines p.lines s.lines (each (λ l _. tt) o.lines) in
        (with_lines o p _ _ s lines.0, lines.1)
    by true false e d = absurd (true≢false (sym d))
    by false true e d = absurd (true≢false d)
    by false false e d = (
      with_lines o p _ _ s (zip-push (LineStands (is_settled o)) o.lines p.lines (new_line l) (new_line l) s.lines
          (line_new (is_settled o) (new_line l))),
      λ g. (
          let a = total-push (used_line g) o.lines (new_line l) in
          let b = total-push (used_line g) p.lines (new_line l) in
          omega (arith, ints)
          ),
    )
