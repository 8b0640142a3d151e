-- Where a ledger stands for another, the checks of a command find the same in both.
use Rattle.ledger.proofs.Prelude.{Add, Bool, BreaksBound, Command, Each, Field, Good, IsDistinct, IsFalse, IsNone}
use Rattle.ledger.proofs.Prelude.{IsSome, IsSomeAnd, IsStrictlySortedBy, IsTrue, Ledger, List, Name, None, OpenLine}
use Rattle.ledger.proofs.Prelude.{Option, Order, Some, Take, Way, [], ap, arith, bound, checks, false, field_named}
use Rattle.ledger.proofs.Prelude.{find, full, held_to_add, held_to_take, if◌then◌else◌, inl, inr, ints, is_open}
use Rattle.ledger.proofs.Prelude.{is_settled, is_some, is_transfer, length, line_checks, line_name, line_on, map}
use Rattle.ledger.proofs.Prelude.{nat_cmp, new_line, new_order, next, no_field, numbered, on, order_checks}
use Rattle.ledger.proofs.Prelude.{order_numbered, pos, refl, same_name, settled, sym, transfer_lines}
use Rattle.ledger.proofs.Prelude.{transfer_kind, true, true≢false, with_order, ◌++◌, ◌+ℤ◌, ◌+◌, ◌-ℤ◌, ◌<ℤ◌, ◌<◌, ◌==◌}
use Rattle.ledger.proofs.Prelude.{◌↔◌, ◌∙◌, ◌∷◌, ◌≡◌, ◌≢◌, ◌≤◌, ◌⊎◌, ℕ, MAX_ORDER_LINES}
use Rattle.words.specs.declared.command.Command.TheVariants as command
use Rattle.words.specs.declared.reply.Refusal.TheVariants as refusal
use Rattle.ledger.specs.declared.order.Kind.{Kind}
use Rattle.ledger.specs.declared.order.Kind.TheVariants.{Plain, Transfer}
use Rattle.ledger.specs.declared.order.Line.{Line}
use Rattle.ledger.specs.Answers.{ended, firm, no_order, part_checks}
use Rattle.ledger.proofs.Asks.{fresh-push, line_test, more_test, moved_test}
use Rattle.ledger.proofs.Falls.{sounds_from_good}
use Rattle.ledger.proofs.FieldNames.{OneOn, line_field}
use Rattle.ledger.proofs.GoodParts.{apart_lines}
use Rattle.ledger.proofs.Lists.{none_after, zip-length}
use Rattle.ledger.proofs.Passing.{none_if_not_some, takes_more}
use Rattle.ledger.proofs.Safety.{high_test, low_test}
use Rattle.laws.specs.Deals.{Names}
use Rattle.laws.specs.Roll.{FieldStands, LineStands, OrderStands, OrdersStand, StandsFor}
use Rattle.laws.proofs.Standing.{adds-same, count-same, fewer, name-same, open-same, takes-same}
use Rattle.laws.proofs.SameChecks.{Both, both-none, both-some, both-and, both-found, then_iff, back_iff, not_iff}
use Rattle.laws.proofs.SameChecks.{both_iff, equal_iff, Alike, AllAlike, no_order_full, ended_full, firm_full}
use Rattle.laws.proofs.SameChecks.{fixed_full, way_full, field_full, alike}

-- ---- orders found under their numbers

none_stands : (n : ℕ) (os ps : List Order) → OrdersStand os ps → Each (λ o. (o.number == n) ≡ false) os
    → find (numbered n) ps ≡ None
none_stands n [] [] s none = refl
none_stands n [] (p ∷ ps) s none = absurd s
none_stands n (o ∷ os) [] s none = refl
none_stands n (o ∷ os) (p ∷ ps) (inl s) none =
    let e : (p.number == n) ≡ false = ap (λ m. m == n) s.0.number ∙ none.0 in
    rw e (none_stands n os ps s.1 none.1)
none_stands n (o ∷ os) (p ∷ ps) (inr s) none = none_stands n os (p ∷ ps) s.1 none.1

-- the order is there in both, or it has ended in the one and is not there in the other
abbrev pub LeftOut : Option Order → Option Order → Type 0
LeftOut x y = IsSomeAnd x (λ o. IsFalse (is_open o)) × (y ≡ None)

pub order_found : (n : ℕ) (os ps : List Order) → OrdersStand os ps
    → IsStrictlySortedBy nat_cmp (map (λ o. o.number) os)
    → Both OrderStands (find (numbered n) os) (find (numbered n) ps)
    ⊎ LeftOut (find (numbered n) os) (find (numbered n) ps)
unfolding IsStrictlySortedBy
order_found n [] [] s sorted = inl tt
order_found n [] (p ∷ ps) s sorted = absurd s
order_found n (o ∷ os) [] s sorted = by (o.number == n) (order_found n os [] s.1 sorted.1)
  where
    by : (b : Bool) → Both OrderStands (find (numbered n) os) None ⊎ LeftOut (find (numbered n) os) None
        → Both OrderStands (if b then Some o else find (numbered n) os) None
        ⊎ LeftOut (if b then Some o else find (numbered n) os) None
    by true more = inr (s.0, refl)
    by false more = more
order_found n (o ∷ os) (p ∷ ps) (inl s) sorted =
    by (o.number == n) (p.number == n) (ap (λ m. m == n) s.0.number) (order_found n os ps s.1 sorted.1)
  where
    by : (b c : Bool) → c ≡ b
        → Both OrderStands (find (numbered n) os) (find (numbered n) ps)
        ⊎ LeftOut (find (numbered n) os) (find (numbered n) ps)
        → Both OrderStands (if b then Some o else find (numbered n) os) (if c then Some p else find (numbered n) ps)
        ⊎ LeftOut (if b then Some o else find (numbered n) os) (if c then Some p else find (numbered n) ps)
    by true true e more = inl s.0
    by true false e more = absurd (true≢false (sym e))
    by false true e more = absurd (true≢false e)
    by false false e more = more
order_found n (o ∷ os) (p ∷ ps) (inr s) sorted =
    by (o.number == n) refl (order_found n os (p ∷ ps) s.1 sorted.1)
  where
    by : (b : Bool) → (o.number == n) ≡ b
        → Both OrderStands (find (numbered n) os) (find (numbered n) (p ∷ ps))
        ⊎ LeftOut (find (numbered n) os) (find (numbered n) (p ∷ ps))
        → Both OrderStands (if b then Some o else find (numbered n) os) (find (numbered n) (p ∷ ps))
        ⊎ LeftOut (if b then Some o else find (numbered n) os) (find (numbered n) (p ∷ ps))
    by true e more = inr (s.0, none_stands n os (p ∷ ps) s.1 (none_after n o os e sorted.0))
    by false e more = more

-- ---- the same of two orders that stand

module _ (o p : Order) (s : OrderStands o p) where
  pub line_both : (f : Name) → Both (LineStands (is_settled o)) (line_on o f) (line_on p f)
  line_both f = both-found (LineStands (is_settled o)) (on f) (on f)
      (λ l m t. ap (same_name f) (name-same (is_settled o) l m t))
      o.lines p.lines s.lines

  ended_iff : IsFalse (is_open o) ↔ IsFalse (is_open p)
  ended_iff = equal_iff (is_open o) (is_open p) false (sym (open-same o p s))

  firm_iff : IsTrue o.firm ↔ IsTrue p.firm
  firm_iff = equal_iff o.firm p.firm true (sym s.firm)

  transfer_iff : IsTrue (is_transfer o) ↔ IsTrue (is_transfer p)
  transfer_iff = equal_iff (is_transfer o) (is_transfer p) true (sym (ap transfer_kind s.kind))

  none_iff : (f : Name) → IsNone (line_on o f) ↔ IsNone (line_on p f)
  none_iff f = both-none (LineStands (is_settled o)) (line_on o f) (line_on p f) (line_both f)

  line_iff : (f : Name) (P Q : Line → Type 0) → ((l m : Line) → LineStands (is_settled o) l m → P l ↔ Q m)
      → IsSomeAnd (line_on o f) P ↔ IsSomeAnd (line_on p f) Q
  line_iff f P Q iff = both-and (LineStands (is_settled o)) P Q iff (line_on o f) (line_on p f) (line_both f)

  many_iff : (MAX_ORDER_LINES ≤ length o.lines) ↔ (MAX_ORDER_LINES ≤ length p.lines)
  many_iff = let e = zip-length (LineStands (is_settled o)) o.lines p.lines s.lines in
      (λ h. omega arith, λ h. omega arith)

-- what a line has left
left_iff : (firm : Bool) (q : ℕ) (l m : Line) → LineStands firm l m → (l.held < l.used + q) ↔ (m.held < m.used + q)
left_iff firm q l m s = let e = s.rest in (λ h. omega arith, λ h. omega arith)

-- ---- the checks of a command

of_bounds : (w : Way) (f : Name) (line : ℕ) (C D : Ledger) → (bound w C f line).fails ↔ (bound w D f line).fails
    → Alike (bound w C f line) (bound w D f line)
of_bounds Take f line C D iff = (refl, refl, iff.1, inl iff.0)
of_bounds Add f line C D iff = (refl, refl, iff.1, inl iff.0)

module _ (d : ℕ) (A B : Ledger) (good : Good A) (gb : Good B) (s : StandsFor d A B) where
  field_both : (n : Name) → Both (FieldStands A B) (field_named A n) (field_named B n)
  field_both n = both-found (FieldStands A B) (λ f. same_name n f.name) (λ f. same_name n f.name)
      (λ f g t. ap (same_name n) t.name) A.fields B.fields s.fields

  -- bounds

  takes_are : (f g : Field) → FieldStands A B f g → held_to_take B g.name ≡ held_to_take A f.name
  takes_are f g t = takes-same A B g.name s.orders ∙ ap (held_to_take A) t.name

  adds_are : (f g : Field) → FieldStands A B f g → held_to_add B g.name ≡ held_to_add A f.name
  adds_are f g t = adds-same A B g.name s.orders ∙ ap (held_to_add A) t.name

  breaks_iff : (w : Way) (n : Name) (q : ℕ) → BreaksBound w A n q ↔ BreaksBound w B n q
  breaks_iff Take n q = both-and (FieldStands A B) _ _ (λ f g t.
      let v = t.settled in let h = takes_are f g t in let lo = t.lo in
      ((λ k. omega (arith, ints)), λ k. omega (arith, ints))) (field_named A n) (field_named B n) (field_both n)
  breaks_iff Add n q = both-and (FieldStands A B) _ _ (λ f g t.
      let v = t.settled in let h = adds_are f g t in let hi = t.hi in
      ((λ k. omega (arith, ints)), λ k. omega (arith, ints))) (field_named A n) (field_named B n) (field_both n)

  low_iff : (n : Name) (lo : ℕ) → IsSomeAnd (field_named A n) (λ f. (settled A f -ℤ held_to_take A f.name) <ℤ pos lo)
      ↔ IsSomeAnd (field_named B n) (λ f. (settled B f -ℤ held_to_take B f.name) <ℤ pos lo)
  low_iff n lo = both-and (FieldStands A B) _ _ (λ f g t.
      let v = t.settled in let h = takes_are f g t in
      ((λ k. omega (arith, ints)), λ k. omega (arith, ints))) (field_named A n) (field_named B n) (field_both n)

  high_iff : (n : Name) (hi : ℕ) → IsSomeAnd (field_named A n) (λ f. pos hi <ℤ (settled A f +ℤ held_to_add A f.name))
      ↔ IsSomeAnd (field_named B n) (λ f. pos hi <ℤ (settled B f +ℤ held_to_add B f.name))
  high_iff n hi = both-and (FieldStands A B) _ _ (λ f g t.
      let v = t.settled in let h = adds_are f g t in
      ((λ k. omega (arith, ints)), λ k. omega (arith, ints))) (field_named A n) (field_named B n) (field_both n)

  -- one check each

  full_alike : (more : ℕ) → Alike (full A more) (full B more)
  full_alike more =
      let p = s.places in let c = count-same A.orders B.orders s.orders in
      (refl, refl, (λ h. omega arith), inr (refl, refl))

  no_field_alike : (n : Name) (line : ℕ) → Alike (no_field A n line) (no_field B n line)
  no_field_alike n line =
      alike _ _ refusal.NoField line (both-none (FieldStands A B) (field_named A n) (field_named B n) (field_both n))

  -- the order that the command names
  module _ (n : ℕ) (there : IsSome (order_numbered A n) → IsSome (order_numbered B n)) where
    order_both : Both OrderStands (order_numbered A n) (order_numbered B n)
    order_both = by (order_found n A.orders B.orders s.orders good.orders_in_order)
      where
        known : (x y : Option Order) → (IsSome x → IsSome y) → LeftOut x y → Both OrderStands x y
        known None y there left = absurd left.0
        known (Some o) y there left = absurd (true≢false (sym (there refl) ∙ ap is_some left.1))

        by : Both OrderStands (order_numbered A n) (order_numbered B n)
            ⊎ LeftOut (order_numbered A n) (order_numbered B n)
            → Both OrderStands (order_numbered A n) (order_numbered B n)
        by (inl h) = h
        by (inr h) = known (order_numbered A n) (order_numbered B n) there h

    order_iff : (P Q : Order → Type 0) → ((o p : Order) → OrderStands o p → P o ↔ Q p)
        → IsSomeAnd (order_numbered A n) P ↔ IsSomeAnd (order_numbered B n) Q
    order_iff P Q iff = both-and OrderStands P Q iff (order_numbered A n) (order_numbered B n) order_both

    no_order_alike : Alike (no_order A n) (no_order B n)
    no_order_alike =
        alike _ _ refusal.NoOrder 0 (both-none OrderStands (order_numbered A n) (order_numbered B n) order_both)

    ended_alike : Alike (ended A n) (ended B n)
    ended_alike = alike _ _ refusal.Ended 0 (order_iff _ _ ended_iff)

    firm_alike : Alike (firm A n) (firm B n)
    firm_alike = alike _ _ refusal.Firm 0 (order_iff _ _ firm_iff)

    part_alike : (f : Name) (q : ℕ) → AllAlike (part_checks A n f q) (part_checks B n f q)
    part_alike f q = (
      full_alike 1,
      λ p0. (
        no_order_alike,
        λ p1. (
          ended_alike,
          λ p2. (
            alike _ _ refusal.NotHeld 0 (order_iff _ _ (λ o p t. none_iff o p t f)),
            λ p3. (
              alike _ _ refusal.OverUse 0 (order_iff _ _ (λ o p t. line_iff o p t f _ _ (left_iff (is_settled o) q))),
              λ p4. tt,
            ),
          ),
        ),
      ),
    )

    more_alike : (w : Way) (b a : List ℕ) (q : ℕ)
        → AllAlike (checks A (command.More n w b a q)) (checks B (command.More n w b a q))
    more_alike w b a q = (
      full_alike 1,
      λ p0. (
        no_order_alike,
        λ p1. (
          ended_alike,
          λ p2. (
            firm_alike,
            λ p3. (
              alike _ _ refusal.TransferFixed 0 (order_iff _ _ transfer_iff),
              λ p4. (
                no_field_alike (line_field l) 0,
                λ p5. (
                  alike _ _ refusal.OtherWay 0 way_iff,
                  λ p6. (
                    alike _ _ refusal.TooManyLines 0
                        (order_iff _ _ (λ o p t. both_iff (none_iff o p t (line_field l)) (many_iff o p t))),
                    λ p7. (
                      bound_alike (p1 no_order_full) (p2 ended_full) (p3 firm_full) (p4 fixed_full)
                          (p6 way_full),
                      λ p8. tt,
                    ),
                  ),
                ),
              ),
            ),
          ),
        ),
      ),
    )
      where
        l : OpenLine
        l = record { way = w; branch = b; article = a; qty = q }

        way_iff : IsSomeAnd (order_numbered A n) (λ o. IsSomeAnd (line_on o (line_field l)) (λ m. m.way ≢ w))
            ↔ IsSomeAnd (order_numbered B n) (λ o. IsSomeAnd (line_on o (line_field l)) (λ m. m.way ≢ w))
        way_iff = order_iff _ _ (λ o p t. line_iff o p t (line_field l) _ _
            (λ l m u. not_iff (equal_iff l.way m.way w (sym u.way))))

        bound_alike : (IsNone (order_numbered A n) → ⊥)
            → (IsSomeAnd (order_numbered A n) (λ o. IsFalse (is_open o)) → ⊥)
            → (IsSomeAnd (order_numbered A n) (λ o. IsTrue o.firm) → ⊥)
            → (IsSomeAnd (order_numbered A n) (λ o. IsTrue (is_transfer o)) → ⊥)
            → (IsSomeAnd (order_numbered A n) (λ o. IsSomeAnd (line_on o (line_field l)) (λ m. m.way ≢ w)) → ⊥)
            → Alike (bound w (next A (command.More n w b a q)) (line_field l) 0)
            (bound w (next B (command.More n w b a q)) (line_field l) 0)
        bound_alike p1 p2 p3 p4 p6 =
            let mayA = takes_more (line_field l) w (order_numbered A n) p1 p2 p3 p4 p6 in
            let mayB = takes_more (line_field l) w (order_numbered B n)
            ((not_iff (both-none OrderStands (order_numbered A n) (order_numbered B n) order_both)).0 p1)
            ((not_iff (order_iff _ _ ended_iff)).0 p2) ((not_iff (order_iff _ _ firm_iff)).0 p3)
            ((not_iff (order_iff _ _ transfer_iff)).0 p4) ((not_iff way_iff).0 p6) in
            of_bounds w (line_field l) 0 (next A (command.More n w b a q)) (next B (command.More n w b a q))
            (then_iff (more_test A n l (sounds_from_good A good) good.orders_in_order mayA 0)
            (then_iff (breaks_iff w (line_field l) q)
            (back_iff (more_test B n l (sounds_from_good B gb) gb.orders_in_order mayB 0))))

  -- the lines of a new order, each beside those before it
  lines_alike : (n : ℕ) (k : Kind) (u : ℕ) (before ls : List OpenLine) → ((g : Name) → OneOn g (map new_line before))
      → AllAlike (line_checks A (new_order n k u) before ls) (line_checks B (new_order n k u) before ls)
  lines_alike n k u before [] one = tt
  lines_alike n k u before (l ∷ ls) one = (
    (refl, refl, (λ h. h), inl (λ h. h)),
    λ p0. (
      no_field_alike (line_field l) (length before + 1),
      λ p1. (
        of_bounds l.way (line_field l) (length before + 1) (with_order (new_order n k u (before ++ l ∷ [])) A)
            (with_order (new_order n k u (before ++ l ∷ [])) B)
            (then_iff (line_test A n k u before l (length before + 1) good apart (none (p0 field_full)))
            (then_iff (breaks_iff l.way (line_field l) l.qty)
            (back_iff (line_test B n k u before l (length before + 1) gb apart (none (p0 field_full)))))),
        λ p2. lines_alike n k u (before ++ l ∷ []) ls
            (fresh-push before l one (none_if_not_some (find (on (line_field l)) (map new_line before))
            (p0 field_full))),
      ),
    ),
  )
    where
      apart : IsDistinct same_name (map line_name (map new_line before))
      apart = apart_lines (map new_line before) one

      none : (IsSome (find (on (line_field l)) (map new_line before)) → ⊥)
          → IsNone (find (on (line_field l)) (map new_line before))
      none p = ap is_some (none_if_not_some (find (on (line_field l)) (map new_line before)) p)

  opening_alike : (n : ℕ) (k : Kind) (u : ℕ) (ls : List OpenLine)
      → (IsSome (order_numbered A n) → IsSome (order_numbered B n))
      → AllAlike (order_checks A n u ++ line_checks A (new_order n k u) [] ls)
      (order_checks B n u ++ line_checks B (new_order n k u) [] ls)
  opening_alike n k u ls there =
      let less = fewer A.orders B.orders s.orders in let clock = s.clock in (
        full_alike 2,
        λ p0. (
          (refl, refl, (λ h. omega arith), inr (refl, refl)),
          λ p1. (
            alike _ _ refusal.OrderThere 0
                (both-some OrderStands (order_numbered A n) (order_numbered B n) (order_both n there)),
            λ p2. (
              (refl, refl, (λ h. omega arith), inl (λ h. omega arith)),
              λ p3. lines_alike n k u [] ls (λ g. tt),
            ),
          ),
        ),
      )

  moved_alike : (w : Way) (n : Name) (q : ℕ) (C D : Ledger) → (bound w C n 0).fails ↔ BreaksBound w A n q
      → (bound w D n 0).fails ↔ BreaksBound w B n q
      → AllAlike (full A 1 ∷ no_field A n 0 ∷ bound w C n 0 ∷ []) (full B 1 ∷ no_field B n 0 ∷ bound w D n 0 ∷ [])
  moved_alike w n q C D x y = (
    full_alike 1,
    λ p0. (
      no_field_alike n 0,
      λ p1. (of_bounds w n 0 C D (then_iff x (then_iff (breaks_iff w n q) (back_iff y))), λ p2. tt),
    ),
  )

  pub checks_alike : (c : Command)
      → ((n : ℕ) → Names c n → IsSome (order_numbered A n) → IsSome (order_numbered B n))
      → AllAlike (checks A c) (checks B c)
  checks_alike (command.Field b a lo hi start) there =
      let n : Name = record { branch = b; article = a } in
      let many = zip-length (FieldStands A B) A.fields B.fields s.fields in (
        full_alike 1,
        λ p0. (
          (refl, refl, (λ h. omega arith), inl (λ h. omega arith)),
          λ p1. (
            alike _ _ refusal.FieldThere 0
                (both-some (FieldStands A B) (field_named A n) (field_named B n) (field_both n)),
            λ p2. ((refl, refl, (λ h. h), inl (λ h. h)), λ p3. tt),
          ),
        ),
      )
  checks_alike (command.Deliver b a q) there =
      let n : Name = record { branch = b; article = a } in
      moved_alike Add n q (next A (command.Deliver b a q)) (next B (command.Deliver b a q))
      (moved_test A n q 0 (sounds_from_good A good) Add) (moved_test B n q 0 (sounds_from_good B gb) Add)
  checks_alike (command.Writeoff b a q) there =
      let n : Name = record { branch = b; article = a } in
      moved_alike Take n q (next A (command.Writeoff b a q)) (next B (command.Writeoff b a q))
      (moved_test A n q 0 (sounds_from_good A good) Take) (moved_test B n q 0 (sounds_from_good B gb) Take)
  checks_alike (command.Rebound b a lo hi) there =
      let n : Name = record { branch = b; article = a } in
      let C : Ledger = next A (command.Rebound b a lo hi) in let D : Ledger = next B (command.Rebound b a lo hi) in (
        full_alike 1,
        λ p0. (
          no_field_alike n 0,
          λ p1. (
            (refl, refl, (λ h. h), inl (λ h. h)),
            λ p2. (
              of_bounds Take n 0 C D (then_iff (low_test A n lo hi (sounds_from_good A good))
                  (then_iff (low_iff n lo) (back_iff (low_test B n lo hi (sounds_from_good B gb))))),
              λ p3. (
                of_bounds Add n 0 C D (then_iff (high_test A n lo hi (sounds_from_good A good))
                    (then_iff (high_iff n hi) (back_iff (high_test B n lo hi (sounds_from_good B gb))))),
                λ p4. tt,
              ),
            ),
          ),
        ),
      )
  checks_alike (command.Open n until lines) there = opening_alike n Plain until lines (there n refl)
  checks_alike (command.Transfer n until a from to q) there =
      opening_alike n Transfer until (transfer_lines a from to q) (there n refl)
  checks_alike (command.More n w b a q) there = more_alike n (there n refl) w b a q
  checks_alike (command.Use n b a q) there = part_alike n (there n refl) (record { branch = b; article = a }) q
  checks_alike (command.Release n b a q) there = part_alike n (there n refl) (record { branch = b; article = a }) q
  checks_alike (command.Commit n) there =
      (no_order_alike n (there n refl), λ p0. (ended_alike n (there n refl), λ p1. tt))
  checks_alike (command.Abort n) there = (
    no_order_alike n (there n refl),
    λ p0. (ended_alike n (there n refl), λ p1. (firm_alike n (there n refl), λ p2. tt)),
  )
  checks_alike (command.Firm n) there = (
    full_alike 1,
    λ p. (
      no_order_alike n (there n refl),
      λ p0. (ended_alike n (there n refl), λ p1. (firm_alike n (there n refl), λ p2. tt)),
    ),
  )
  checks_alike (command.Expire now) there =
      let clock = s.clock in (full_alike 1, λ p0. ((refl, refl, (λ h. omega arith), inl (λ h. omega arith)), λ p1. tt))
