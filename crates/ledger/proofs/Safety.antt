-- Every accepted command leaves a good ledger safe.
use Rattle.ledger.proofs.Prelude.{Add, Bool, Command, Each, FallsBelow, Field, FirstFailure, Good, IsSafe, IsSome}
use Rattle.ledger.proofs.Prelude.{IsSomeAnd, IsStrictlySortedBy, Ledger, List, Name, None, Option, Part, Plain, Request}
use Rattle.ledger.proofs.Prelude.{RisesAbove, Take, Transfer, Way, [], accept, add_part, arith, bound, checks}
use Rattle.ledger.proofs.Prelude.{common_steps, false, field_named, find, held_to_add, held_to_take, if◌then◌else◌}
use Rattle.ledger.proofs.Prelude.{ints, is_lt, line_name, map, name_cmp, name_of, next, option_map, order_numbered}
use Rattle.ledger.proofs.Prelude.{part_of, pos, refl, same_name, settled, settled_part, subst, sym, take_part, total}
use Rattle.ledger.proofs.Prelude.{transfer_lines, true, true≢false, ℕ, ℤ, ◌+ℤ◌, ◌-ℤ◌, ◌<ℤ◌, ◌↔◌, ◌∙◌, ◌∷◌, ◌≡◌, ◌≤◌}
use Rattle.words.specs.declared.command.Command.TheVariants as command
use Rattle.ledger.proofs.Sums.{each-both, each-imp, each-insert, each-map, total-zero}
use Rattle.ledger.proofs.Bounds.{HasRoom, Sound, safe_from_room}
use Rattle.words.specs.declared.command.Command.TheVariants.{Rebound}
use Rattle.ledger.specs.Next.{with_bounds}
use Rattle.ledger.proofs.GoodParts.{StillThere}
use Rattle.ledger.proofs.FieldNames.{InOrder, name_is}
use Rattle.ledger.proofs.Passing.{AllPass, all_pass, takes_more}
use Rattle.ledger.proofs.Falls.{Fit, fit-accept, fit_from_good, sounds_from_good}
use Rattle.ledger.proofs.Asks.{Beyond, Room, Within, bound_iff, room_moved, room_order, room_raised, room_side, within_tested}

-- ---- a field with other bounds: what stays, and its checks as comparisons with the ledger before

-- the field, with other bounds where it has the name
abbrev pub bounding : Name → ℕ → ℕ → Field → Field
bounding n lo hi f = if same_name n f.name then with_bounds lo hi f else f

bounded_name : (b : Bool) (lo hi : ℕ) (f : Field) → (if b then with_bounds lo hi f else f).name ≡ f.name
bounded_name b lo hi f = grind arith

pub bounding_name : (n : Name) (lo hi : ℕ) (f : Field) → (bounding n lo hi f).name ≡ f.name
bounding_name n lo hi f = bounded_name (same_name n f.name) lo hi f

pub bounding_names : (n : Name) (lo hi : ℕ) (fs : List Field)
    → map (λ f. f.name) (map (bounding n lo hi) fs) ≡ map (λ f. f.name) fs
bounding_names n lo hi [] = refl
bounding_names n lo hi (f ∷ fs) = λ i. bounding_name n lo hi f i ∷ bounding_names n lo hi fs i

-- what is found under a name is what was found, with its bounds
pub found_bounded : (m n : Name) (lo hi : ℕ) (fs : List Field)
    → find (λ e. same_name m e.name) (map (bounding n lo hi) fs)
    ≡ option_map (bounding n lo hi) (find (λ e. same_name m e.name) fs)
found_bounded m n lo hi [] = refl
found_bounded m n lo hi (f ∷ fs) = grind (arith, ints, common_steps, (found_bounded m n lo hi fs), bounding_name)

some_mapped : {X : Type 0} (h : X → X) (o : Option X) → IsSome o → IsSome (option_map h o)
some_mapped h o some = grind arith

-- each field that is there is there still
pub still_bounded : (A B : Ledger) (n : Name) (lo hi : ℕ) → B.fields ≡ map (bounding n lo hi) A.fields
    → StillThere A B
still_bounded A B n lo hi is m some = grind (arith, ints, common_steps, found_bounded, some_mapped)

-- what holds of the field of that name with other bounds
pub some_bounded : (n : Name) (lo hi : ℕ) (P : Field → Type 0) (fs : List Field)
    → IsSomeAnd (find (λ e. same_name n e.name) (map (bounding n lo hi) fs)) P
    ↔ IsSomeAnd (find (λ e. same_name n e.name) fs) (λ f. P (with_bounds lo hi f))
some_bounded n lo hi P [] = (λ h. h, λ h. h)
some_bounded n lo hi P (f ∷ fs) = grind (arith, (some_bounded n lo hi P fs))

abbrev rebounded : Ledger → Name → ℕ → ℕ → Ledger
rebounded A n lo hi = next A (Rebound n.branch n.article lo hi)

rebound_iff : (w : Way) (A : Ledger) (n : Name) (lo hi : ℕ) → Each Sound A.orders
    → (bound w (rebounded A n lo hi) n 0).fails
    ↔ IsSomeAnd (field_named A n) (λ f. Beyond w (rebounded A n lo hi) (with_bounds lo hi f))
rebound_iff w A n lo hi sound =
    let B : Ledger = rebounded A n lo hi in
    let test = bound_iff w B n 0 sound in let some = some_bounded n lo hi (Beyond w B) A.fields in
    (λ h. some.0 (test.0 h), λ h. test.1 (some.1 h))

pub low_test : (A : Ledger) (n : Name) (lo hi : ℕ) → Each Sound A.orders
    → FallsBelow (rebounded A n lo hi) n
    ↔ IsSomeAnd (field_named A n) (λ f. (settled A f -ℤ held_to_take A f.name) <ℤ pos lo)
low_test = rebound_iff Take

pub high_test : (A : Ledger) (n : Name) (lo hi : ℕ) → Each Sound A.orders
    → RisesAbove (rebounded A n lo hi) n
    ↔ IsSomeAnd (field_named A n) (λ f. pos hi <ℤ (settled A f +ℤ held_to_add A f.name))
high_test = rebound_iff Add

-- other bounds that pass their checks leave every field its room
room_bounds : (A : Ledger) (n : Name) (lo hi : ℕ) → Each Sound A.orders → InOrder A → Room A
    → (FallsBelow (rebounded A n lo hi) n → ⊥) → (RisesAbove (rebounded A n lo hi) n → ⊥) → Room (rebounded A n lo hi)
room_bounds A n lo hi sound sorted room low high =
    each-both (λ f l h. (l, h)) B.fields (side Take low) (side Add high)
  where
    B : Ledger
    B = rebounded A n lo hi

    other : (w : Way) (f : Field) (b : Bool) → same_name n f.name ≡ b → Within w A f
        → same_name n (if b then with_bounds lo hi f else f).name ≡ false
        → Within w B (if b then with_bounds lo hi f else f)
    other w f true e r d = absurd (true≢false (sym e ∙ d))
    other Take f false e r d = r
    other Add f false e r d = r

    side : (w : Way) → ((bound w B n 0).fails → ⊥) → Each (Within w B) B.fields
    side w pass = within_tested w B n 0 sound
        (subst (IsStrictlySortedBy name_cmp) (sym (bounding_names n lo hi A.fields)) sorted) pass
        (each-map (λ f. same_name n f.name ≡ false → Within w B f) (bounding n lo hi) A.fields
        (each-imp (λ f r. other w f (same_name n f.name) refl (room_side w A f r)) A.fields room))

-- ---- every accepted command leaves a good ledger safe

pub not_true : (b : Bool) → (b ≡ true → ⊥) → b ≡ false
not_true b h = grind arith

pub not_false : (b : Bool) → (b ≡ false → ⊥) → b ≡ true
not_false b h = grind arith

-- A new field has had no move and no line.

pub not_there : (A : Ledger) (name other : Name) → (IsSome (field_named A name) → ⊥) → IsSome (field_named A other)
    → same_name name other ≡ false
not_there A name other none some =
    not_true (same_name name other)
    (λ e. none (subst (λ g. IsSome (field_named A g)) (sym (name_is name other e)) some))

-- its value is its start, and nothing is held on it
pub nothing_on : (A : Ledger) (f : Field) → Good A → (IsSome (field_named A f.name) → ⊥)
    → (settled A f ≡ pos f.start) × (held_to_take A f.name ≡ pos 0) × (held_to_add A f.name ≡ pos 0)
nothing_on A f good none =
    let used = no_orders settled_part in (omega (arith, ints, moves), no_orders take_part, no_orders add_part)
  where
    off : (b : Bool) (z : ℤ) → b ≡ false → (if b then z else pos 0) ≡ pos 0
    off b z e = cc

    moves : total (λ m. if same_name f.name m.field then m.amount else pos 0) A.moves ≡ pos 0
    moves = total-zero _ A.moves
        (each-imp (λ m x. off _ m.amount (not_there A f.name m.field none x.field)) A.moves good.moves)

    no_orders : (part : Part) → total (part_of part f.name) A.orders ≡ pos 0
    no_orders part = total-zero _ A.orders
        (each-imp (λ o x. total-zero _ o.lines
        (each-imp (λ l y. off _ _ (not_there A f.name (line_name l) none y.field)) o.lines x.lines)) A.orders good.orders)

room_field : (A : Ledger) (f : Field) → Good A → (IsSome (field_named A f.name) → ⊥)
    → (((f.lo ≤ f.start) × (f.start ≤ f.hi) → ⊥) → ⊥) → HasRoom A f
room_field A f good none between = grind (arith, ints, common_steps, nothing_on)

room_accept : (A : Ledger) (key : List ℕ) (c : Command) → Good A → FirstFailure (checks A c) None
    → Room (accept A (record { key = key; command = c }))
room_accept A key c good passed = by c passed (all_pass (checks A c) passed)
  where
    fit : Fit A
    fit = fit_from_good A good

    sound : Each Sound A.orders
    sound = sounds_from_good A good

    by : (c : Command) → FirstFailure (checks A c) None → AllPass (checks A c)
        → Room (accept A (record { key = key; command = c }))
    by (command.Field b a lo hi start) h p =
        let f : Field = record { name = name_of b a; lo = lo; hi = hi; start = start } in
        each-insert (HasRoom A) (λ f g. is_lt (name_cmp f.name g.name)) f A.fields
        (room_field A f good p.1.1.0 p.1.1.1.0) fit.room
    by (command.Deliver b a q) h p = room_moved A (name_of b a) q 0 sound Add good.fields_in_order fit.room p.1.1.0
    by (command.Writeoff b a q) h p = room_moved A (name_of b a) q 0 sound Take good.fields_in_order fit.room p.1.1.0
    by (command.Rebound b a lo hi) h p =
        room_bounds A (name_of b a) lo hi sound good.fields_in_order fit.room p.1.1.1.0 p.1.1.1.1.0
    by (command.Open n until lines) h p =
        (room_order A n Plain until sound good.fields_in_order lines fit.room p.1.1.1.1).0
    by (command.Transfer n until a from to q) h p =
        (room_order A n Transfer until sound good.fields_in_order (transfer_lines a from to q) fit.room p.1.1.1.1).0
    by (command.More n way b a q) h p =
        room_raised A n (record { way = way; branch = b; article = a; qty = q }) sound good.orders_in_order
        (takes_more (name_of b a) way
        (order_numbered A n) p.1.0 p.1.1.0 p.1.1.1.0 p.1.1.1.1.0 p.1.1.1.1.1.1.0) 0 good.fields_in_order fit.room
        p.1.1.1.1.1.1.1.1.0
    by c h p = (fit-accept A key c tt fit h).room

-- whatever is accepted, the ledger stays safe
pub safe_after : (A : Ledger) (r : Request) → Good A → FirstFailure (checks A r.command) None → IsSafe (accept A r)
safe_after A r g h = safe_from_room (accept A r) (room_accept A r.key r.command g h)
