-- A command that asks for no stock: what its lines count for only falls, so that each field keeps its room.
use Rattle.ledger.proofs.Prelude.{Aborted, Accepts, Add, AsksNoStock, Bool, Changes, Command, Committed, Each, Effect}
use Rattle.ledger.proofs.Prelude.{Field, FirstFailure, Good, IsGoodOrder, IsSome, IsSomeAnd, IsTransferPair, IsTrue}
use Rattle.ledger.proofs.Prelude.{Ledger, Line, List, MatchOption, Name, None, Nothing, Open, Opens, Option, Order}
use Rattle.ledger.proofs.Prelude.{Request, Share, ShareStep, Some, State, Step, Take, Way, [], accept, add_part}
use Rattle.ledger.proofs.Prelude.{added_on, ap, arith, change_lines, checks, common_steps, effect, expires, false}
use Rattle.ledger.proofs.Prelude.{field_named, find, if◌then◌else◌, insert_in_order, ints, is_open, is_transfer}
use Rattle.ledger.proofs.Prelude.{line_name, lower_held, map, moved_by_command, name_of, nat_lt, next, numbered, on}
use Rattle.ledger.proofs.Prelude.{open_state, order_numbered, orders_after, pos, raise_used, refl, same_name, set_firm}
use Rattle.ledger.proofs.Prelude.{set_state, settled_part, share_of, share_steps, shares_of_step, steps, steps_of}
use Rattle.ledger.proofs.Prelude.{subst, sym, take_part, true, true≢false, ℕ, ℤ, ◌+ℤ◌, ◌+◌, ◌-ℤ◌, ◌-◌, ◌||◌, ◌∙◌, ◌∷◌}
use Rattle.ledger.proofs.Prelude.{◌≡◌, ◌≤ℤ◌, ◌≤◌}
use Rattle.ledger.specs.Next.{fields_after}
use Rattle.ledger.proofs.Bounds.{HasRoom, Sound, room_from_safe}
use Rattle.ledger.proofs.FieldNames.{at_line, one_on, one_on-map}
use Rattle.ledger.proofs.Lists.{NumbersInOrder, at_number}
use Rattle.ledger.proofs.Passing.{AllPass, Usable, all_pass, loose_there, open_there, usable_there}
use Rattle.ledger.proofs.Steps.{Goes, StepGoes, adds_next, after_turns, changes_each, commits, effect_goes, expired}
use Rattle.ledger.proofs.Steps.{firm_goes, lines_go, numbers_after, shares_from, state_goes, step_if, takes_next, turns}
use Rattle.ledger.proofs.Steps.{value_next}
use Rattle.ledger.proofs.Sums.{each, each-both, each-flat, each-imp, each-insert, each-map}
use Rattle.words.specs.declared.command.Command.TheVariants as command

-- ---- what holds of each order of the next ledger holds of those that the command makes

inserted : {X : Type 0} (P : X → Type 0) (p : X → X → Bool) (x : X) (xs : List X) → Each P (insert_in_order p x xs)
    → P x
inserted P p x [] all = all.0
inserted P p x (y ∷ ys) all = by (p x y) all (λ k. inserted P p x ys k)
  where
    by : (b : Bool) → Each P (if b then x ∷ y ∷ ys else y ∷ insert_in_order p x ys)
        → (Each P (insert_in_order p x ys) → P x) → P x
    by true all more = all.0
    by false all more = more all.1

changed_each : (P : Order → Type 0) (names : Order → Bool) (change : Order → Order) (os : List Order)
    → Each P (after_turns names change os) → Each P (map (λ s. s.after) (turns names change os))
changed_each P names change [] all = tt
changed_each P names change (o ∷ os) all = grind (arith, ints, common_steps, (changed_each P names change os all.1))

pub made_each : (P : Order → Type 0) (e : Effect) (os : List Order) → Each P (orders_after e os)
    → Each P (map (λ s. s.after) (steps e os))
made_each P Nothing os all = tt
made_each P (Opens o) os all = (inserted P (λ a b. nat_lt a.number b.number) o os all, tt)
made_each P (Changes names change) os all = changed_each P names change os all

-- what holds of each order, and of those that the command makes, holds of each order then
pub after_each : (P : Order → Type 0) (e : Effect) (os : List Order) → Each P os → Each (λ s. P s.after) (steps e os)
    → Each P (orders_after e os)
after_each P Nothing os all new = all
after_each P (Opens o) os all new = grind (arith, ints, common_steps, each-insert)
after_each P (Changes names change) [] all new = tt
after_each P (Changes names change) (o ∷ os) all new =
    grind (arith, ints, common_steps, (after_each P (Changes names change) os all.1))

-- what holds of each order holds of those that are there before the steps
pub before_each : (P : Order → Type 0) (e : Effect) (os : List Order) → Each P os
    → Each (λ s. MatchOption s.before (Unit {0}) P) (steps e os)
before_each P Nothing os all = tt
before_each P (Opens o) os all = (tt, tt)
before_each P (Changes names change) os all = grind (arith, ints, common_steps, changes_each, each-imp)

-- ---- what stays true under every future

pub record Fine (o : Order) : Type 0 where
  pub sound : Sound o
  pub pair : IsTrue (is_transfer o) → IsTransferPair o.lines

pub record Fit (A : Ledger) : Type 0 where
  pub orders : Each Fine A.orders
  pub numbers : NumbersInOrder A
  pub room : Each (HasRoom A) A.fields

pub sound_from_good : (A : Ledger) (o : Order) → IsGoodOrder A o → Sound o
sound_from_good A o g =
    record { used = each-imp (λ l h. h.used) o.lines g.lines; one = λ f. one_on f o.lines g.apart }

pub sounds_from_good : (A : Ledger) → Good A → Each Sound A.orders
sounds_from_good A g = each-imp (λ o x. sound_from_good A o x) A.orders g.orders

pub fit_from_good : (A : Ledger) → Good A → Fit A
fit_from_good A g = record {
  orders = each-imp (λ o x. record { sound = sound_from_good A o x; pair = x.transfer }) A.orders g.orders;
  numbers = g.orders_in_order;
  room = room_from_safe A (sounds_from_good A g) g.safe;
}

-- ---- lines that fall

-- no more is held, no less used, and no more used than held
abbrev pub LineFalls : Line → Line → Type 0
LineFalls b l = (l.held ≤ b.held) × (b.used ≤ l.used) × (l.used ≤ l.held)

abbrev pub LinesFall : List Line → List Line → Type 0
LinesFall [] [] = Unit {0}
LinesFall [] (l ∷ ls) = ⊥
LinesFall (b ∷ bs) [] = ⊥
LinesFall (b ∷ bs) (l ∷ ls) = LineFalls b l × LinesFall bs ls

pub record OrderFalls (b a : Order) : Type 0 where
  pub goes : Goes b a
  pub lines : LinesFall b.lines a.lines
  pub fine : Fine a

abbrev pub StepFalls : Step → Type 0
StepFalls s = MatchOption s.before ⊥ (λ b. OrderFalls b s.after)

lines_fall : (h : Line → Line) (ls : List Line) → Each (λ l. LineFalls l (h l)) ls → LinesFall ls (map h ls)
lines_fall h [] falls = tt
lines_fall h (l ∷ ls) falls = (falls.0, lines_fall h ls falls.1)

lines_stay : (ls : List Line) → Each (λ l. l.used ≤ l.held) ls → LinesFall ls ls
lines_stay [] within = tt
lines_stay (l ∷ ls) within = ((omega arith, omega arith, within.0), lines_stay ls within.1)

-- the end of an order, and a `firm`
ended_falls : (s : State) (o : Order) → (s ≡ Aborted → o.firm ≡ false) → Fine o → is_open o ≡ true
    → OrderFalls o (set_state s o)
ended_falls s o loose fine e = record {
  goes = state_goes s o loose e;
  lines = lines_stay o.lines fine.sound.used;
  fine = record { sound = record { used = fine.sound.used; one = fine.sound.one }; pair = fine.pair };
}

firm_falls : (o : Order) → Fine o → is_open o ≡ true → OrderFalls o (set_firm o)
firm_falls o fine e = record {
  goes = firm_goes o e;
  lines = lines_stay o.lines fine.sound.used;
  fine = record { sound = record { used = fine.sound.used; one = fine.sound.one }; pair = fine.pair };
}

-- what a use and a release of so much do to a line
record Closes (q : ℕ) (change : Line → Line) : Type 0 where
  same : (l : Line) → ((change l).way ≡ l.way) × (line_name (change l) ≡ line_name l)
  falls : (l : Line) → l.used + q ≤ l.held → LineFalls l (change l)
  pair : (l m : Line) → l.held ≡ m.held → l.used ≡ m.used
      → ((change l).held ≡ (change m).held) × ((change l).used ≡ (change m).used)

use_closes : (q : ℕ) → Closes q (raise_used q)
use_closes q = record {
  same = λ l. (refl, refl);
  falls = λ l h. (omega arith, omega arith, h);
  pair = λ l m a b. (a, ap (λ n. n + q) b);
}

release_closes : (q : ℕ) → Closes q (lower_held q)
release_closes q = record {
  same = λ l. (refl, refl);
  falls = λ l h. (omega arith, omega arith, omega arith);
  pair = λ l m a b. (ap (λ n. n - q) a, b);
}

pub left_on : (f : Name) (q : ℕ) (o : Order) → Fine o → Usable f q o
    → Each (λ l. (is_transfer o || on f l) ≡ true → l.used + q ≤ l.held) o.lines
left_on f q o fine u = step (is_transfer o) refl
  where
    step : (b : Bool) → is_transfer o ≡ b → Each (λ l. (b || on f l) ≡ true → l.used + q ≤ l.held) o.lines
    step true e = each-imp (λ l h _. h) o.lines (grind arith)
    step false e = at_line (λ l. l.used + q ≤ l.held) f o.lines (fine.sound.one f) u.1

changed_falls : (f : Name) (q : ℕ) (change : Line → Line) (o : Order) → Closes q change → Fine o → Usable f q o
    → OrderFalls o (change_lines f change o)
changed_falls f q change o closes fine u = record {
  goes = lines_go f change o closes.same u.0;
  lines = lines_fall new o.lines all;
  fine = record {
    sound = record {
      used = each-map (λ l. l.used ≤ l.held) new o.lines (each-imp (λ l x. x.2) o.lines all);
      one = λ g. one_on-map g new o.lines (each name o.lines) (fine.sound.one g);
    };
    pair = λ t. pair t (is_transfer o) t o.lines (fine.pair t);
  };
}
  where
    new : Line → Line
    new l = if is_transfer o || on f l then change l else l

    name : (l : Line) → line_name (new l) ≡ line_name l
    name l = by (is_transfer o || on f l)
      where
        by : (b : Bool) → line_name (if b then change l else l) ≡ line_name l
        by true = (closes.same l).1
        by false = refl

    one : (b : Bool) (l : Line) → l.used ≤ l.held → (b ≡ true → l.used + q ≤ l.held)
        → LineFalls l (if b then change l else l)
    one true l within left = closes.falls l (left refl)
    one false l within left = (omega arith, omega arith, within)

    all : Each (λ l. LineFalls l (new l)) o.lines
    all = each-both (λ l within left. one (is_transfer o || on f l) l within left) o.lines fine.sound.used
        (left_on f q o fine u)

    pair : IsTrue (is_transfer o) → (t : Bool) → IsTrue t → (ls : List Line) → IsTransferPair ls
        → IsTransferPair (map (λ l. if t || on f l then change l else l) ls)
    pair e t is ls p = grind (arith, closes.same, closes.pair)

-- each command of a future

numbered_fall : (A : Ledger) (n : ℕ) (change : Order → Order) (P : Order → Type 0) → Fit A
    → ((o : Order) → Fine o → P o → OrderFalls o (change o)) → IsSomeAnd (order_numbered A n) P
    → Each StepFalls (steps (Changes (numbered n) change) A.orders)
numbered_fall A n change P fit falls there = changes_each StepFalls (numbered n) change A.orders
    (each-both (λ o fine x e. falls o fine (x e)) A.orders fit.orders (at_number P n A.orders fit.numbers there))

pub steps_fall : (A : Ledger) (c : Command) → Fit A → FirstFailure (checks A c) None → AsksNoStock c
    → Each StepFalls (steps_of A c)
steps_fall A c fit passed asks = by c asks (all_pass (checks A c) passed)
  where
    by : (c : Command) → AsksNoStock c → AllPass (checks A c) → Each StepFalls (steps_of A c)
    by (command.Use n b a q) asks p = numbered_fall A n (change_lines (name_of b a) (raise_used q))
        (Usable (name_of b a) q) fit
        (λ o fine u. changed_falls (name_of b a) q (raise_used q) o (use_closes q) fine u)
        (usable_there (name_of b a) q (order_numbered A n) p.1.0 p.1.1.0 p.1.1.1.0 p.1.1.1.1.0)
    by (command.Release n b a q) asks p = numbered_fall A n (change_lines (name_of b a) (lower_held q))
        (Usable (name_of b a) q) fit
        (λ o fine u. changed_falls (name_of b a) q (lower_held q) o (release_closes q) fine u)
        (usable_there (name_of b a) q (order_numbered A n) p.1.0 p.1.1.0 p.1.1.1.0 p.1.1.1.1.0)
    by (command.Commit n) asks p = numbered_fall A n (set_state Committed) (λ o. is_open o ≡ true) fit
        (λ o fine e. ended_falls Committed o (λ s. absurd (commits s)) fine e)
        (open_there (order_numbered A n) p.0 p.1.0)
    by (command.Abort n) asks p = numbered_fall A n (set_state Aborted)
        (λ o. (is_open o ≡ true) × (o.firm ≡ false)) fit (λ o fine x. ended_falls Aborted o (λ s. x.1) fine x.0)
        (loose_there (order_numbered A n) p.0 p.1.0 p.1.1.0)
    by (command.Firm n) asks p =
        numbered_fall A n set_firm (λ o. is_open o ≡ true) fit firm_falls
        (open_there (order_numbered A n) p.1.0 p.1.1.0)
    by (command.Expire now) asks p = changes_each StepFalls (expires now) (set_state Aborted) A.orders
        (each-imp (λ o fine e. let x = expired now o e in ended_falls Aborted o
        (λ s. x.1) fine x.0) A.orders fit.orders)
    by c asks p = absurd asks

pub step_goes : (s : Step) → StepFalls s → StepGoes s
step_goes s falls = grind (arith, ints, common_steps)

-- ---- shares that fall

pub record ShareFalls (before after : Share) : Type 0 where
  pub settled : before.settled ≤ after.settled
  pub used : after.settled + after.held ≤ before.settled + before.held

share_falls : (s t : State) (m n : Bool) (b l : Line) → open_state s ≡ true → (m ≡ true → n ≡ true)
    → (t ≡ Aborted → n ≡ false) → LineFalls b l → ShareFalls (share_of s m b) (share_of t n l)
share_falls Open Open true n b l unended firm loose falls = grind (arith, ints, common_steps)
share_falls Open Open false n b l unended firm loose falls = grind arith
share_falls Open Committed m n b l unended firm loose falls = grind arith
share_falls Open Aborted true n b l unended firm loose falls = absurd (true≢false (sym (firm refl) ∙ loose refl))
share_falls Open Aborted false n b l unended firm loose falls = record { settled = omega arith; used = omega arith }
share_falls Committed t m n b l unended firm loose falls = absurd (true≢false (sym unended))
share_falls Aborted t m n b l unended firm loose falls = absurd (true≢false (sym unended))

-- the line counts so then
abbrev pub Falls : ShareStep → Type 0
Falls x = ShareFalls x.before x.after

step_shares : (s : Step) → StepFalls s → Each Falls (shares_of_step s)
step_shares s falls = by s.before falls
  where
    go : (b : Order) → OrderFalls b s.after → (nr : ℕ) (bs ls : List Line) → LinesFall bs ls
        → Each Falls (shares_from (Some b) s.after nr bs ls)
    go b falls nr [] [] lines = tt
    go b falls nr [] (l ∷ ls) lines = absurd lines
    go b falls nr (m ∷ ms) [] lines = absurd lines
    go b falls nr (m ∷ ms) (l ∷ ls) lines = (
      share_falls b.state s.after.state b.firm s.after.firm m l falls.goes.unended falls.goes.firm falls.goes.loose
          lines.0,
      go b falls (nr + 1) ms ls lines.1,
    )

    by : (b : Option Order) → MatchOption b ⊥ (λ b. OrderFalls b s.after)
        → Each Falls (shares_of_step (record { before = b; after = s.after }))
    by None falls = absurd falls
    by (Some b) falls = go b falls 1 b.lines s.after.lines falls.lines

shares_fall : (A : Ledger) (c : Command) → Each StepFalls (steps_of A c) → Each Falls (share_steps A c)
shares_fall A c falls = each-flat _ shares_of_step (steps_of A c) (each-imp step_shares (steps_of A c) falls)

pub all_fall : (A : Ledger) (r : Request) → Accepts A r → AsksNoStock r.command → Each Falls (share_steps A r.command)
all_fall A r accepts asks = grind (arith, ints, common_steps, shares_fall, steps_fall, fit_from_good)

-- ---- the room of each field

-- where shares fall, the least that a field comes to rises, the most falls, and so does what is held
pub record Lower (settled takes adds : ℤ) : Type 0 where
  pub takes_fall : takes ≤ℤ pos 0
  pub adds_fall : adds ≤ℤ pos 0
  pub least : takes ≤ℤ settled
  pub most : (settled +ℤ adds) ≤ℤ pos 0

share_lowers : (b : Bool) (w : Way) (x y : Share) → ShareFalls x y
    → Lower (if b then settled_part w y -ℤ settled_part w x else pos 0)
    (if b then take_part w y -ℤ take_part w x else pos 0) (if b then add_part w y -ℤ add_part w x else pos 0)
share_lowers true Take x y falls = grind (arith, ints, common_steps)
share_lowers true Add x y falls = grind (arith, ints, common_steps)
share_lowers false w x y falls = record {
  takes_fall = omega (arith, ints);
  adds_fall = omega (arith, ints);
  least = omega (arith, ints);
  most = omega (arith, ints);
}

pub lowers : (f : Name) (xs : List ShareStep) → Each Falls xs
    → Lower (added_on settled_part f xs) (added_on take_part f xs) (added_on add_part f xs)
lowers f [] falls =
    record {
      takes_fall = omega (arith, ints);
      adds_fall = omega (arith, ints);
      least = omega (arith, ints);
      most = omega (arith, ints);
    }
lowers f (x ∷ xs) falls =
    let one = share_lowers (same_name f x.name) x.way x.before x.after falls.0 in let more = lowers f xs falls.1 in
    record {
      takes_fall = omega (arith, ints);
      adds_fall = omega (arith, ints);
      least = omega (arith, ints);
      most = omega (arith, ints);
    }

moves_nothing : (f : Name) (c : Command) → AsksNoStock c → moved_by_command f c ≡ pos 0
moves_nothing f c asks = grind arith

pub fields_stay : (c : Command) (fs : List Field) → AsksNoStock c → fields_after c fs ≡ fs
fields_stay c fs asks = grind arith

pub fit-accept : (A : Ledger) (key : List ℕ) (c : Command) → AsksNoStock c → Fit A → FirstFailure (checks A c) None
    → Fit (accept A (record { key = key; command = c }))
fit-accept A key c asks fit passed = record {
  orders = after_each Fine (effect c) A.orders fit.orders (each-imp fine (steps_of A c) falls);
  numbers = numbers_after (effect c) A.orders (effect_goes A c fit.numbers passed) fit.numbers;
  room = subst (Each (HasRoom (next A c))) (sym (fields_stay c A.fields asks)) (each-imp room A.fields fit.room);
}
  where
    falls : Each StepFalls (steps_of A c)
    falls = steps_fall A c fit passed asks

    goes : Each StepGoes (steps_of A c)
    goes = each-imp step_goes (steps_of A c) falls

    fine : (s : Step) → StepFalls s → Fine s.after
    fine s h = by s.before h
      where
        by : (b : Option Order) → MatchOption b ⊥ (λ b. OrderFalls b s.after) → Fine s.after
        by None h = absurd h
        by (Some b) h = h.fine

    room : (f : Field) → HasRoom A f → HasRoom (next A c) f
    room f r =
        let low = r.0 in let high = r.1 in
        let sum = lowers f.name (share_steps A c) (shares_fall A c falls) in
        let none = moves_nothing f.name c asks in
        let value = value_next A c goes f in let takes = takes_next A c goes f.name in
        let adds = adds_next A c goes f.name in
        (omega (arith, ints), omega (arith, ints))

-- ---- the fields of the lines are there

pub fields_there : (A : Ledger) (r : Request) → Accepts A r → (next A r.command).fields ≡ A.fields
    → Each (λ o. Each (λ l. IsSome (field_named A (line_name l))) o.lines)
    (map (λ s. s.after) (steps (effect r.command) A.orders))
fields_there A r accepts same =
    made_each (λ o. Each (λ l. IsSome (field_named A (line_name l))) o.lines) (effect r.command) A.orders
    (each-imp (λ o x. each-imp
    (λ l y. subst (λ fs. IsSome (find (λ e. same_name (line_name l) e.name) fs)) same y.field) o.lines x.lines)
    (next A r.command).orders accepts.after.orders)
