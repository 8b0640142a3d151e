-- A ledger that stands for another: what its orders hold, and how many there are.
use Rattle.ledger.proofs.Prelude.{Bool, IsFalse, Ledger, List, Name, Order, Part, Way, [], ap, arith, count_by, false}
use Rattle.ledger.proofs.Prelude.{held_to_add, held_to_take, if_add, if_take, if◌then◌else◌, inl, inr, ints, is_open}
use Rattle.ledger.proofs.Prelude.{length, line_name, name_of, on, open_state, part_of, pos, refl, same_name}
use Rattle.ledger.proofs.Prelude.{settled_state, total, true, true≢false, unsettled, ◌+ℤ◌, ◌∙◌, ◌∷◌, ◌≡◌, ◌≤◌, ℕ, ℤ}
use Rattle.ledger.specs.declared.order.Line.{Line}
use Rattle.ledger.specs.declared.order.State.{State}
use Rattle.ledger.specs.declared.order.State.TheVariants.{Aborted, Committed, Open}
use Rattle.ledger.proofs.Lists.{counted}
use Rattle.ledger.proofs.Sums.{each, total-zero}
use Rattle.std.specs.List.{AllZip}
use Rattle.laws.specs.Roll.{LineStands, OrderStands, OrdersStand}

-- ---- what is held

-- a part that counts what is held
abbrev pub by_held : (Way → ℕ → ℤ) → Part
by_held h w s = h w s.held

-- what a line of such an order counts for
abbrev pub counts : (Way → ℕ → ℤ) → Name → State → Bool → Line → ℤ
counts h f state firm l = if on f l then h l.way (if open_state state then unsettled firm l l.held else 0) else pos 0

left-same : (firm : Bool) (l m : Line) → LineStands firm l m → unsettled firm m m.held ≡ unsettled firm l l.held
left-same true l m s = let e = s.rest in omega arith
left-same false l m s = let e = s.rest in let u = s.loose refl in omega arith

held-same : (state : State) (firm : Bool) (l m : Line) → LineStands (settled_state state firm) l m
    → (if open_state state then unsettled firm m m.held else 0)
    ≡ (if open_state state then unsettled firm l l.held else 0)
held-same Open firm l m s = left-same firm l m s
held-same Committed firm l m s = refl
held-same Aborted firm l m s = refl

pub name-same : (b : Bool) (l m : Line) → LineStands b l m → line_name m ≡ line_name l
name-same b l m s = λ i. name_of (s.branch i) (s.article i)

line-same : (h : Way → ℕ → ℤ) (f : Name) (state : State) (firm : Bool) (l m : Line)
    → LineStands (settled_state state firm) l m → counts h f state firm m ≡ counts h f state firm l
line-same h f state firm l m s =
    λ i. if same_name f (name-same (settled_state state firm) l m s i) then h (s.way i) (held-same state firm l m s i)
    else pos 0

lines-same : (h : Way → ℕ → ℤ) (f : Name) (state : State) (firm : Bool) (ls ms : List Line)
    → AllZip (LineStands (settled_state state firm)) ls ms
    → total (counts h f state firm) ms ≡ total (counts h f state firm) ls
lines-same h f state firm [] [] s = refl
lines-same h f state firm [] (m ∷ ms) s = absurd s
lines-same h f state firm (l ∷ ls) [] s = absurd s
lines-same h f state firm (l ∷ ls) (m ∷ ms) s =
    λ i. line-same h f state firm l m s.0 i +ℤ lines-same h f state firm ls ms s.1 i

order-same : (h : Way → ℕ → ℤ) (f : Name) (o p : Order) → OrderStands o p
    → part_of (by_held h) f p ≡ part_of (by_held h) f o
order-same h f o p s =
    (λ i. total (counts h f (s.state i) (s.firm i)) p.lines) ∙ lines-same h f o.state o.firm o.lines p.lines s.lines

pub ended-none : (h : Way → ℕ → ℤ) → ((w : Way) → h w 0 ≡ pos 0) → (f : Name) (o : Order) → IsFalse (is_open o)
    → part_of (by_held h) f o ≡ pos 0
ended-none h none f o closed = total-zero _ o.lines (each (λ l. one l (on f l) (is_open o) closed) o.lines)
  where
    one : (l : Line) (b c : Bool) → IsFalse c
        → (if b then h l.way (if c then unsettled o.firm l l.held else 0) else pos 0) ≡ pos 0
    one l true false e = none l.way
    one l false false e = refl
    one l b true e = absurd (true≢false e)

pub holds-same : (h : Way → ℕ → ℤ) → ((w : Way) → h w 0 ≡ pos 0) → (f : Name) (os ps : List Order)
    → OrdersStand os ps → total (part_of (by_held h) f) ps ≡ total (part_of (by_held h) f) os
holds-same h none f [] [] s = refl
holds-same h none f [] (p ∷ ps) s = absurd s
holds-same h none f (o ∷ os) [] s =
    let more = holds-same h none f os [] s.1 in let gone = ended-none h none f o s.0 in omega (arith, ints)
holds-same h none f (o ∷ os) (p ∷ ps) (inl s) =
    let more = holds-same h none f os ps s.1 in let same = order-same h f o p s.0 in omega (arith, ints)
holds-same h none f (o ∷ os) (p ∷ ps) (inr s) =
    let more = holds-same h none f os (p ∷ ps) s.1 in let gone = ended-none h none f o s.0 in omega (arith, ints)

no_take : (w : Way) → pos (if_take w 0) ≡ pos 0
no_take w = grind arith

no_add : (w : Way) → pos (if_add w 0) ≡ pos 0
no_add w = grind arith

pub takes-same : (A B : Ledger) (f : Name) → OrdersStand A.orders B.orders → held_to_take B f ≡ held_to_take A f
takes-same A B f s = holds-same (λ w n. pos (if_take w n)) no_take f A.orders B.orders s

pub adds-same : (A B : Ledger) (f : Name) → OrdersStand A.orders B.orders → held_to_add B f ≡ held_to_add A f
adds-same A B f s = holds-same (λ w n. pos (if_add w n)) no_add f A.orders B.orders s

-- ---- how many

pub open-same : (o p : Order) → OrderStands o p → is_open p ≡ is_open o
open-same o p s = ap open_state s.state

pub count-same : (os ps : List Order) → OrdersStand os ps → count_by is_open ps ≡ count_by is_open os
count-same [] [] s = refl
count-same [] (p ∷ ps) s = absurd s
count-same (o ∷ os) [] s =
    let more = count-same os [] s.1 in let c = counted is_open o os in let e : is_open o ≡ false = s.0 in grind arith
count-same (o ∷ os) (p ∷ ps) (inl s) =
    let more = count-same os ps s.1 in let e = open-same o p s.0 in
    let c = counted is_open o os in let d = counted is_open p ps in grind arith
count-same (o ∷ os) (p ∷ ps) (inr s) =
    let more = count-same os (p ∷ ps) s.1 in let c = counted is_open o os in let e : is_open o ≡ false = s.0 in
    grind arith

pub fewer : (os ps : List Order) → OrdersStand os ps → length ps ≤ length os
fewer [] [] s = omega arith
fewer [] (p ∷ ps) s = absurd s
fewer (o ∷ os) [] s = omega arith
fewer (o ∷ os) (p ∷ ps) (inl s) = let more = fewer os ps s.1 in omega arith
fewer (o ∷ os) (p ∷ ps) (inr s) = let more = fewer os (p ∷ ps) s.1 in omega arith

-- one more that has ended
pub skip : (o : Order) (os ps : List Order) → IsFalse (is_open o) → OrdersStand os ps → OrdersStand (o ∷ os) ps
skip o os [] closed s = (closed, s)
skip o os (p ∷ ps) closed s = inr (closed, s)
