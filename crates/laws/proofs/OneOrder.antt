-- What a command that keeps its guard does to the order under a number.
use Rattle.ledger.proofs.Prelude.{Answers, Bool, Changes, Command, Each, Effect, FirstFailure, IfSome, IsFalse, IsNone}
use Rattle.ledger.proofs.Prelude.{IsSome, IsSomeAnd, Ledger, List, Name, None, Nothing, OpenLine, Opens, Option, Order}
use Rattle.ledger.proofs.Prelude.{Reply, Request, Some, [], add_hold, ap, arith, change_lines, checks, effect, expires}
use Rattle.ledger.proofs.Prelude.{false, find, if◌then◌else◌, inl, inr, is_open, is_settled, is_transfer, map, name_of}
use Rattle.ledger.proofs.Prelude.{nat_lt, new_line, new_order, next, numbered, on, option_map, order_numbered}
use Rattle.ledger.proofs.Prelude.{raise_used, refl, subst, sym, transfer_kind, transfer_lines, true, true≢false, ℕ, ◌+◌}
use Rattle.ledger.proofs.Prelude.{◌==◌, ◌∙◌, ◌∷◌, ◌≡◌, ◌≢◌, ◌≤◌, ◌⊎◌}
use Rattle.words.specs.declared.command.Command.TheVariants as command
use Rattle.ledger.specs.declared.order.Kind.TheVariants.{Plain, Transfer}
use Rattle.ledger.specs.declared.order.Line.{Line}
use Rattle.ledger.specs.Next.{insert_order}
use Rattle.ledger.proofs.Passing.{AllPass, Usable, all_pass, answered, open_there, usable_there}
use Rattle.ledger.proofs.Lists.{find-beside, find-new, found_passes}
use Rattle.ledger.proofs.Steps.{found_changed}
use Rattle.ledger.proofs.Sums.{each, each-imp, each-map, none_found}
use Rattle.laws.specs.Deals.{AllUsed, Guards, IsAborted, IsCommitted, MaySend}

-- ---- the order under a number, in a list where orders change or one is put in

pub same_number : (a b : ℕ) → (a == b) ≡ true → a ≡ b
same_number a b e = grind arith

pub other_number : (a b : ℕ) → a ≢ b → (a == b) ≡ false
other_number a b e = grind arith

pub number_is : (n : ℕ) (o : Order) (os : List Order) → find (λ o. o.number == n) os ≡ Some o → o.number ≡ n
number_is n o os found = same_number o.number n (found_passes (numbered n) o os found)

pub beside : (n : ℕ) (x : Order) → (x.number == n) ≡ false → (os : List Order)
    → find (numbered n) (insert_order x os) ≡ find (numbered n) os
beside n x other os = find-beside (numbered n) (λ a b. nat_lt a.number b.number) x os other

-- ---- the order of a side

abbrev pub held_line : Line → OpenLine
held_line l = record { way = l.way; branch = l.branch; article = l.article; qty = l.held }

-- it holds what its opening asked for, is no transfer and not firm, and settles nothing while it is open
pub record AsOpened (lines : List OpenLine) (Lasts : ℕ → Type 0) (o : Order) : Type 0 where
  pub held : map held_line o.lines ≡ lines
  pub plain : is_transfer o ≡ false
  pub loose : o.firm ≡ false
  pub unsettled : is_open o ≡ true → is_settled o ≡ false
  pub lasts : Lasts o.until

-- what it becomes by one command
pub record Goes (lines : List OpenLine) (Lasts : ℕ → Type 0) (g : Guards) (o p : Order) : Type 0 where
  pub opened : AsOpened lines Lasts p
  pub used : AllUsed o → AllUsed p
  pub over : is_open o ≡ false → (is_open p ≡ false) × (is_settled p ≡ is_settled o)
  pub committed : IsCommitted p → IsCommitted o ⊎ g.commits
  pub aborted : IsAborted p → IsAborted o ⊎ g.aborts

-- likewise where there may be none before, and none behind
pub record Steps (lines : List OpenLine) (Lasts : ℕ → Type 0) (g : Guards) (x y : Option Order) : Type 0 where
  pub opened : IfSome y (AsOpened lines Lasts)
  pub there : IsSome x → IsSome y
  pub comes : IsSome y → IsSome x ⊎ ((until : ℕ) × g.opens until)
  pub used : IsSomeAnd x AllUsed → IsSomeAnd y AllUsed
  pub stays_committed : IsSomeAnd x IsCommitted → IsSomeAnd y IsCommitted
  pub stays_aborted : IsSomeAnd x IsAborted → IsSomeAnd y IsAborted
  pub committed : IsSomeAnd y IsCommitted → IsSomeAnd x IsCommitted ⊎ g.commits
  pub aborted : IsSomeAnd y IsAborted → IsSomeAnd x IsAborted ⊎ g.aborts

-- which orders an effect changes, and how
abbrev pub changes : Effect → Order → Order
changes (Changes names change) o = change o
changes Nothing o = o
changes (Opens p) o = o

-- ---- a use

held_stays : (q : ℕ) (t : Line → Bool) (ls : List Line)
    → map held_line (map (λ l. if t l then raise_used q l else l) ls) ≡ map held_line ls
held_stays q t [] = refl
held_stays q t (l ∷ ls) = λ i. one (t l) i ∷ held_stays q t ls i
  where
    one : (b : Bool) → held_line (if b then raise_used q l else l) ≡ held_line l
    one true = refl
    one false = refl

-- nothing is left to use
none_left : (f : Name) (q : ℕ) (ls : List Line) → Each (λ l. l.used ≡ l.held) ls
    → IsSomeAnd (find (on f) ls) (λ l. l.used + q ≤ l.held) → q ≡ 0
none_left f q [] all h = absurd h
none_left f q (l ∷ ls) all h = by (on f l) h (none_left f q ls all.1)
  where
    none : (u v : ℕ) → u ≡ v → u + q ≤ v → q ≡ 0
    none u v e h = omega arith

    by : (b : Bool) → IsSomeAnd (if b then Some l else find (on f) ls) (λ l. l.used + q ≤ l.held)
        → (IsSomeAnd (find (on f) ls) (λ l. l.used + q ≤ l.held) → q ≡ 0) → q ≡ 0
    by true h more = none l.used l.held all.0 h
    by false h more = more h

raised : (q : ℕ) (t : Line → Bool) (ls : List Line) → q ≡ 0 → Each (λ l. l.used ≡ l.held) ls
    → Each (λ l. l.used ≡ l.held) (map (λ l. if t l then raise_used q l else l) ls)
raised q t ls none all = each-map (λ l. l.used ≡ l.held) (λ l. if t l then raise_used q l else l) ls
    (each-imp (λ l e. one l (t l) e) ls all)
  where
    more : (u v : ℕ) → u ≡ v → u + q ≡ v
    more u v e = omega arith

    one : (l : Line) (b : Bool) → l.used ≡ l.held
        → (if b then raise_used q l else l).used ≡ (if b then raise_used q l else l).held
    one l true e = more l.used l.held e
    one l false e = e

-- ---- an order that is there

-- what the checks of a use leave
usable : (A : Ledger) (n : ℕ) (b a : List ℕ) (q : ℕ) → AllPass (checks A (command.Use n b a q))
    → IsSomeAnd (order_numbered A n) (Usable (name_of b a) q)
usable A n b a q p = usable_there (name_of b a) q (order_numbered A n) p.1.0 p.1.1.0 p.1.1.1.0 p.1.1.1.1.0

pub more_number : (l : OpenLine) (o : Order) → (add_hold l o).number ≡ o.number
more_number l o = grind arith

module _ (n : ℕ) (lines : List OpenLine) (Lasts : ℕ → Type 0) (g : Guards)
    (due : (v now : ℕ) → Lasts v → g.expires now → v ≤ now → g.aborts)
    (A : Ledger) (o : Order) (there : order_numbered A n ≡ Some o) (opened : AsOpened lines Lasts o) where
  abbrev Becomes : Option Order → Type 0
  Becomes x = (p : Order) × (x ≡ Some p) × Goes lines Lasts g o p

  stays : Becomes (Some o)
  stays = (o, refl, rests)
    where
      rests : Goes lines Lasts g o o
      rests = record {
        opened = opened;
        used = λ h. h;
        over = λ e. (e, refl);
        committed = λ h. inl h;
        aborted = λ h. inl h;
      }

  at : (m : ℕ) (P : Order → Type 0) → m ≡ n → IsSomeAnd (order_numbered A m) P → P o
  at m P e h = subst (λ x. IsSomeAnd x P) there (subst (λ k. IsSomeAnd (order_numbered A k) P) e h)

  changing : (names : Order → Bool) (change : Order → Order) → ((o : Order) → (change o).number ≡ o.number)
      → (names o ≡ true → Goes lines Lasts g o (change o))
      → Becomes (find (λ o. o.number == n) (map (λ o. if names o then change o else o) A.orders))
  changing names change same step = subst Becomes
      (sym (found_changed n names change A.orders (each (λ o _. same o) A.orders) ∙ ap (option_map _) there)) (by (names o) refl)
    where
      by : (b : Bool) → names o ≡ b → Becomes (Some (if b then change o else o))
      by true e = (change o, refl, step e)
      by false e = stays

  one : (m : ℕ) (change : Order → Order) → ((o : Order) → (change o).number ≡ o.number)
      → (m ≡ n → Goes lines Lasts g o (change o))
      → Becomes (find (λ o. o.number == n) (map (λ o. if numbered m o then change o else o) A.orders))
  one m change same step = changing (numbered m) change same
      (λ e. step (sym (same_number o.number m e) ∙ number_is n o A.orders there))

  beside_it : (p : Order) → (IsSome (order_numbered A p.number) → ⊥)
      → Becomes (find (λ o. o.number == n) (insert_order p A.orders))
  beside_it p none = subst Becomes (sym (beside n p (other_number p.number n apart) A.orders ∙ there)) stays
    where
      apart : p.number ≢ n
      apart e = none (subst (λ k. IsSome (order_numbered A k)) (sym e) (subst IsSome (sym there) refl))

  live : (m : ℕ) → m ≡ n → (IsNone (order_numbered A m) → ⊥) → (IsSomeAnd (order_numbered A m) (λ o. IsFalse (is_open o)) → ⊥)
      → is_open o ≡ true
  live m e some left = at m (λ o. is_open o ≡ true) e (open_there (order_numbered A m) some left)

  both : {P : Type 0} → is_open o ≡ true → is_open o ≡ false → P
  both t f = absurd (true≢false (sym t ∙ f))

  uses : (f : Name) (q : ℕ) → Usable f q o → Goes lines Lasts g o (change_lines f (raise_used q) o)
  uses f q h = record {
    opened = record {
      held = held_stays q _ o.lines ∙ opened.held;
      plain = opened.plain;
      loose = opened.loose;
      unsettled = opened.unsettled;
      lasts = opened.lasts;
    };
    used = λ all. raised q _ o.lines (none_left f q o.lines all h.1) all;
    over = λ e. both h.0 e;
    committed = λ k. inl k;
    aborted = λ k. inl k;
  }

  -- an order that is not open, and otherwise the same
  ended : (p : Order) → p.lines ≡ o.lines → p.kind ≡ o.kind → p.firm ≡ o.firm → p.until ≡ o.until → is_open p ≡ false
      → AsOpened lines Lasts p
  ended p same_lines same_kind same_firm same_until over = record {
    held = ap (map held_line) same_lines ∙ opened.held;
    plain = ap transfer_kind same_kind ∙ opened.plain;
    loose = same_firm ∙ opened.loose;
    unsettled = λ e. absurd (true≢false (sym e ∙ over));
    lasts = subst Lasts (sym same_until) opened.lasts;
  }

  commits : (m : ℕ) → is_open o ≡ true → g.commits → Goes lines Lasts g o (changes (effect (command.Commit m)) o)
  commits m still_live ok = record {
    opened = ended (changes (effect (command.Commit m)) o) refl refl refl refl refl;
    used = λ all. all;
    over = λ e. both still_live e;
    committed = λ k. inr ok;
    aborted = λ k. absurd (true≢false k.1);
  }

  aborts : (now : ℕ) → is_open o ≡ true → g.aborts → Goes lines Lasts g o (changes (effect (command.Expire now)) o)
  aborts now still_live ok = record {
    opened = ended (changes (effect (command.Expire now)) o) refl refl refl refl refl;
    used = λ all. all;
    over = λ e. both still_live e;
    committed = λ k. absurd (true≢false (sym k.1));
    aborted = λ k. inr ok;
  }

  expiry : (now : ℕ) → g.expires now → expires now o ≡ true → Goes lines Lasts g o (changes (effect (command.Expire now)) o)
  expiry now ok e = aborts now is_live (due o.until now opened.lasts ok is_due)
    where
      is_live : is_open o ≡ true
      is_live = grind arith

      is_due : o.until ≤ now
      is_due = grind arith

  pub goes_on : (c : Command) → MaySend n lines g c → FirstFailure (checks A c) None → Becomes (order_numbered (next A c) n)
  goes_on c may passed = by c may (all_pass (checks A c) passed)
    where
      by : (c : Command) → MaySend n lines g c → AllPass (checks A c) → Becomes (order_numbered (next A c) n)
      by (command.Open m v ls) may p =
          beside_it (new_order m Plain v ls) p.1.1.0
      by (command.Transfer m v a from to q) may p =
          beside_it (new_order m Transfer v (transfer_lines a from to q)) p.1.1.0
      by (command.Use m b a q) may p = one m (change_lines (name_of b a) (raise_used q)) (λ o. refl)
          (λ e. uses (name_of b a) q (at m (Usable (name_of b a) q) e (usable A m b a q p)))
      by (command.Commit m) may p =
          one m (changes (effect (command.Commit m))) (λ o. refl) (λ e. commits m (live m e p.0 p.1.0) (may e))
      by (command.Abort m) may p =
          one m (changes (effect (command.Abort m))) (λ o. refl) (λ e. aborts 0 (live m e p.0 p.1.0) (may e))
      by (command.Expire now) may p =
          changing (expires now) (changes (effect (command.Expire now))) (λ o. refl) (expiry now may)
      by (command.More m way b a q) may p =
          one m (changes (effect (command.More m way b a q))) (λ o. more_number _ o) (λ e. absurd (may e))
      by (command.Release m b a q) may p =
          one m (changes (effect (command.Release m b a q))) (λ o. refl) (λ e. absurd (may e))
      by (command.Firm m) may p = one m (changes (effect (command.Firm m))) (λ o. refl) (λ e. absurd (may e))
      by c may p = subst Becomes (sym there) stays

-- ---- no order is there yet

new_held : (ls : List OpenLine) → map held_line (map new_line ls) ≡ ls
new_held [] = refl
new_held (l ∷ ls) = ap (λ ms. l ∷ ms) (new_held ls)

module _ (n : ℕ) (lines : List OpenLine) (Lasts : ℕ → Type 0) (g : Guards) (lasts : (v : ℕ) → g.opens v → Lasts v)
    (A : Ledger) (none : order_numbered A n ≡ None) where
  -- the order that is new
  abbrev Comes : Option Order → Type 0
  Comes x = (x ≡ None) ⊎ ((o : Order) × (x ≡ Some o) × AsOpened lines Lasts o × (is_open o ≡ true) × g.opens o.until)

  still : (names : Order → Bool) (change : Order → Order) → ((o : Order) → (change o).number ≡ o.number)
      → Comes (find (λ o. o.number == n) (map (λ o. if names o then change o else o) A.orders))
  still names change same =
      inl (found_changed n names change A.orders (each (λ o _. same o) A.orders) ∙ ap (option_map _) none)

  fresh : (m v : ℕ) (ls : List OpenLine) → g.opens v → ls ≡ lines → AsOpened lines Lasts (new_order m Plain v ls)
  fresh m v ls ok same = record {
    held = new_held ls ∙ same;
    plain = refl;
    loose = refl;
    unsettled = λ h. refl;
    lasts = lasts v ok;
  }

  pub comes_to : (c : Command) → MaySend n lines g c → Comes (order_numbered (next A c) n)
  comes_to (command.Open m v ls) may = by (m == n) refl
    where
      by : (b : Bool) → (m == n) ≡ b → Comes (order_numbered (next A (command.Open m v ls)) n)
      by true e = let k = may (same_number m n e) in let o = new_order m Plain v ls in
          inr (
            o,
            find-new (numbered n) (λ a b. nat_lt a.number b.number) o A.orders e
                (none_found (numbered n) A.orders none),
            fresh m v ls k.0 k.1,
            refl,
            k.0,
          )
      by false e = inl (beside n (new_order m Plain v ls) e A.orders ∙ none)
  comes_to (command.Transfer m v a from to q) may =
      inl (beside n (new_order m Transfer v (transfer_lines a from to q)) (other_number m n may) A.orders ∙ none)
  comes_to (command.More m way b a q) may = still _ _ (λ o. more_number _ o)
  comes_to (command.Use m b a q) may = still _ _ (λ o. refl)
  comes_to (command.Release m b a q) may = still _ _ (λ o. refl)
  comes_to (command.Commit m) may = still _ _ (λ o. refl)
  comes_to (command.Abort m) may = still _ _ (λ o. refl)
  comes_to (command.Firm m) may = still _ _ (λ o. refl)
  comes_to (command.Expire now) may = still _ _ (λ o. refl)
  comes_to c may = inl none

-- ---- both together, and an answer

module _ (n : ℕ) (lines : List OpenLine) (Lasts : ℕ → Type 0) (g : Guards) (lasts : (v : ℕ) → g.opens v → Lasts v)
    (due : (v now : ℕ) → Lasts v → g.expires now → v ≤ now → g.aborts) where
  abbrev StepsTo : Option Order → Option Order → Type 0
  StepsTo x y = Steps lines Lasts g x y

  rests : (x : Option Order) → IfSome x (AsOpened lines Lasts) → StepsTo x x
  rests x opened = record {
    opened = opened;
    there = λ h. h;
    comes = λ h. inl h;
    used = λ h. h;
    stays_committed = λ h. h;
    stays_aborted = λ h. h;
    committed = λ h. inl h;
    aborted = λ h. inl h;
  }

  goes : (o p : Order) → Goes lines Lasts g o p → StepsTo (Some o) (Some p)
  goes o p k = record {
    opened = k.opened;
    there = λ h. refl;
    comes = λ h. inl refl;
    used = k.used;
    stays_committed = λ h. let over = k.over h.0 in (over.0, over.1 ∙ h.1);
    stays_aborted = λ h. let over = k.over h.0 in (over.0, over.1 ∙ h.1);
    committed = k.committed;
    aborted = k.aborted;
  }

  comes : (o : Order) → AsOpened lines Lasts o → is_open o ≡ true → g.opens o.until → StepsTo None (Some o)
  comes o opened live ok = record {
    opened = opened;
    there = λ h. refl;
    comes = λ h. inr (o.until, ok);
    used = λ h. absurd h;
    stays_committed = λ h. absurd h;
    stays_aborted = λ h. absurd h;
    committed = λ h. absurd (true≢false (sym live ∙ h.0));
    aborted = λ h. absurd (true≢false (sym live ∙ h.0));
  }

  pub one_steps : (A : Ledger) (c : Command) → MaySend n lines g c → FirstFailure (checks A c) None
      → (x : Option Order) → order_numbered A n ≡ x → IfSome x (AsOpened lines Lasts) → StepsTo x (order_numbered (next A c) n)
  one_steps A c may passed None e opened = by (comes_to n lines Lasts g lasts A e c may)
    where
      by : (order_numbered (next A c) n ≡ None)
          ⊎ ((o : Order) × (order_numbered (next A c) n ≡ Some o) × AsOpened lines Lasts o × (is_open o ≡ true) × g.opens o.until)
          → StepsTo None (order_numbered (next A c) n)
      by (inl still) = subst (StepsTo None) (sym still) (rests None tt)
      by (inr (o, is, opened, live, ok)) = subst (StepsTo None) (sym is) (comes o opened live ok)
  one_steps A c may passed (Some o) e opened =
      let k = goes_on n lines Lasts g due A o e opened c may passed in
      subst (StepsTo (Some o)) (sym k.1) (goes o k.0 k.2)

module _ (n : ℕ) (lines : List OpenLine) (Lasts : ℕ → Type 0) (g : Guards) (lasts : (v : ℕ) → g.opens v → Lasts v)
    (due : (v now : ℕ) → Lasts v → g.expires now → v ≤ now → g.aborts) where
  pub answer_steps : (A : Ledger) (r : Request) (reply : Reply) (M : Ledger) → MaySend n lines g r.command → Answers A r reply M
      → IfSome (order_numbered A n) (AsOpened lines Lasts) → Steps lines Lasts g (order_numbered A n) (order_numbered M n)
  answer_steps A r reply M may h opened =
      answered A r reply M (λ B. Steps lines Lasts g (order_numbered A n) (order_numbered B n)) h
      (rests n lines Lasts g lasts due (order_numbered A n) opened)
      (λ passed. one_steps n lines Lasts g lasts due A r.command may passed (order_numbered A n) refl opened)
