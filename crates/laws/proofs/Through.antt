-- Where all orders of a deal are open and each desk has places, it goes through.
use Rattle.ledger.proofs.Prelude.{[], ◌++◌, ◌+◌, ◌∙◌, ◌∷◌, ◌≡◌, Bool, Done, Each, IsDistinct, IsNone, IsSomeAnd, Ledger}
use Rattle.ledger.proofs.Prelude.{List, Order, Reply, Some, accept, bytes_decides, bytes_eq, false, true, is_open}
use Rattle.ledger.proofs.Prelude.{kept_under, map, order_numbered, places, refl, subst, sym, true≢false, ℕ, inl}
use Rattle.words.specs.declared.command.Command.TheVariants as command
use Rattle.ledger.proofs.Runs.{accepted_answered}
use Rattle.ledger.proofs.Sums.{each-both, each-imp}
use Rattle.laws.specs.Deals.{AllUsed, AtFirst, AtOther, Course, Deal, GoesThrough, HasCommitted, HasUsed, IsAnswered}
use Rattle.laws.specs.Deals.{IsCommitted, IsFree, IsOver, IsReady, Side, Turn, first_guards}
use Rattle.laws.proofs.AllOrNothing.{changed, commit_passes, under}
use Rattle.laws.proofs.Ends.{IsAtOther, after_first, all_moved, beside_one, over_if, with_others}
use Rattle.laws.proofs.Together.{Stands, stands_along}
use Rattle.laws.proofs.Uses.{AllUses, OneUse, UsesRun, ready_uses, use_of}

pub course_append : (d e f : Deal) (ts us : List Turn) → Course d ts e → Course e us f → Course d (ts ++ us) f
course_append d e f [] us h k = subst (λ x. Course x us f) h k
course_append d e f (AtFirst r reply ∷ ts) us (t, h, more) k =
    (t, h, course_append (record d { first = t }) e f ts us more k)
course_append d e f (AtOther r reply ∷ ts) us (ss, h, more) k =
    (ss, h, course_append (record d { others = ss }) e f ts us more k)

-- ---- the uses at one desk, as turns

-- the side with that ledger
abbrev pub with_ledger : Side → Ledger → Side
with_ledger s A = record s { ledger = A }

abbrev at_first : ℕ → OneUse → Turn
at_first n u = AtFirst (use_of n u) (Done u.place)

abbrev at_other : ℕ → OneUse → Turn
at_other n u = AtOther (use_of n u) (Done u.place)

uses_first : (d : Deal) (us : List OneUse) (A B : Ledger) → UsesRun d.number us A B
    → Course (record d { first = with_ledger d.first A }) (map (at_first d.number) us)
    (record d { first = with_ledger d.first B })
uses_first d [] A B run = λ i. record d { first = with_ledger d.first (run i) }
uses_first d (u ∷ us) A B (M, answers, run) =
    (with_ledger d.first M, record { may = tt; answers = answers; lines = refl }, uses_first d us M B run)

uses_other : (d : Deal) (s : Side) (ss : List Side) (us : List OneUse) (A B : Ledger) → UsesRun d.number us A B
    → Course (with_others d (with_ledger s A ∷ ss)) (map (at_other d.number) us) (with_others d (with_ledger s B ∷ ss))
uses_other d s ss [] A B run = λ i. with_others d (with_ledger s (run i) ∷ ss)
uses_other d s ss (u ∷ us) A B (M, answers, run) =
    (with_ledger s M ∷ ss, inl (record { may = tt; answers = answers; lines = refl }, refl), uses_other d s ss us M B run)

all_at_other : (n : ℕ) (us : List OneUse) → Each IsAtOther (map (at_other n) us)
all_at_other n [] = tt
all_at_other n (u ∷ us) = (tt, all_at_other n us)

both_at_other : (ts us : List Turn) → Each IsAtOther ts → Each IsAtOther us → Each IsAtOther (ts ++ us)
both_at_other [] us h k = k
both_at_other (t ∷ ts) us h k = (h.0, both_at_other ts us h.1 k)

-- ---- at each of the others

record OthersUse (d : Deal) (commit : List ℕ) (ss : List Side) : Type 0 where
  turns : List Turn
  ts : List Side
  course : Course (with_others d ss) turns (with_others d ts)
  others : Each IsAtOther turns
  used : Each (HasUsed d.number) ts
  free : Each (IsFree commit) ts

has_used : (n : ℕ) (s : Side) (A : Ledger) (o : Order) → order_numbered A n ≡ Some o → AllUsed o → HasUsed n (with_ledger s A)
has_used n s A o e all = subst (λ x. IsSomeAnd x AllUsed) (sym e) all

others_use : (d : Deal) (commit : List ℕ) (ss : List Side) → Each (λ s. AllUses d.number commit s.ledger) ss
    → OthersUse d commit ss
others_use d commit [] all = record { turns = []; ts = []; course = refl; others = tt; used = tt; free = tt }
others_use d commit (s ∷ ss) (one, all) =
    let rest = others_use d commit ss all in
    let t : Side = with_ledger s one.ledger in
    let turns : List Turn = map (at_other d.number) one.uses in record {
      turns = turns ++ rest.turns;
      ts = t ∷ rest.ts;
      course = course_append (with_others d (s ∷ ss)) (with_others d (t ∷ ss)) (with_others d (t ∷ rest.ts)) turns rest.turns
          (uses_other d s ss one.uses s.ledger one.ledger one.run)
          (beside_one d t ss rest.turns rest.ts rest.others rest.course);
      others = both_at_other turns rest.turns (all_at_other d.number one.uses) rest.others;
      used = (has_used d.number s one.ledger one.order one.there one.used, rest.used);
      free = (one.free, rest.free);
    }

-- ---- the first desk's commit, and what follows

-- all orders have used all
record AllUsedThere (d : Deal) (commit : List ℕ) : Type 0 where
  turns : List Turn
  ledger : Ledger
  ts : List Side
  course : Course d turns (record d { first = with_ledger d.first ledger; others = ts })
  order : Order
  there : order_numbered ledger d.number ≡ Some order
  live : is_open order ≡ true
  used : AllUsed order
  free : IsNone (kept_under ledger commit)
  used_others : Each (HasUsed d.number) ts
  free_others : Each (IsFree commit) ts

all_use : (d : Deal) (commit : List ℕ) → AllUses d.number commit d.first.ledger
    → Each (λ s. AllUses d.number commit s.ledger) d.others → AllUsedThere d commit
all_use d commit first others =
    let k = others_use d commit d.others others in
    let d1 : Deal = with_others d k.ts in
    let turns : List Turn = map (at_first d.number) first.uses in record {
      turns = k.turns ++ turns;
      ledger = first.ledger;
      ts = k.ts;
      course = course_append d d1 (record d1 { first = with_ledger d.first first.ledger }) k.turns turns k.course
          (uses_first d1 first.uses d.first.ledger first.ledger first.run);
      order = first.order;
      there = first.there;
      live = first.live;
      used = first.used;
      free = first.free;
      used_others = k.used;
      free_others = k.free;
    }

pub through : (d : Deal) (commit : List ℕ) → Stands d → AllUses d.number commit d.first.ledger
    → Each (λ s. AllUses d.number commit s.ledger) d.others → GoesThrough d
through d commit now first others =
    let k = all_use d commit first others in
    let request = under commit (command.Commit d.number) in
    let reply : Reply = Done (places k.ledger + 1) in
    let f : Side = with_ledger d.first (accept k.ledger request) in
    let d2 : Deal = record d { first = with_ledger d.first k.ledger; others = k.ts } in
    let d3 : Deal = record d { first = f; others = k.ts } in
    let answered : IsAnswered d.number (first_guards d2) request reply d2.first f = record {
      may = λ _. (has_used d.number d.first k.ledger k.order k.there k.used, k.used_others);
      answers = accepted_answered k.ledger request (k.free, commit_passes k.ledger d.number k.order k.there k.live);
      lines = refl;
    } in
    let committing : Course d2 (AtFirst request reply ∷ []) d3 = (f, answered, refl) in
    let before : Course d (k.turns ++ AtFirst request reply ∷ []) d3 =
    course_append d d2 d3 k.turns (AtFirst request reply ∷ []) k.course committing in
    let behind : Stands d3 = stands_along d (k.turns ++ AtFirst request reply ∷ []) d3 before now in
    let is : HasCommitted d.number f = subst (λ x. IsSomeAnd x IsCommitted)
    (sym (changed k.ledger d.number request.command k.order (λ o. refl) k.there)) (refl, refl) in
    let over : IsOver d.number f = over_if (order_numbered f.ledger d.number) (inl is) in
    let ends = after_first d3 commit behind over k.free_others in
    let e : Deal = with_others d3 ends.ts in record {
      turns = (k.turns ++ AtFirst request reply ∷ []) ++ ends.turns;
      end = e;
      course = course_append d d3 e (k.turns ++ AtFirst request reply ∷ []) ends.turns before ends.course;
      all = all_moved e (stands_along d3 ends.turns e ends.course behind) is ends.over;
    }

-- no two of the keys are equal, by whichever comes first
turned : (commit : List ℕ) (uses : List (List ℕ)) → Each (λ k. bytes_eq commit k ≡ false) uses
    → Each (λ k. bytes_eq k commit ≡ false) uses
turned commit uses h = each-imp (λ k e. one k (bytes_eq k commit) refl e) uses h
  where
    one : (k : List ℕ) (b : Bool) → bytes_eq k commit ≡ b → bytes_eq commit k ≡ false → bytes_eq k commit ≡ false
    one k false e h = e
    one k true e h = absurd (true≢false (sym (itself k)
        ∙ subst (λ x. bytes_eq x k ≡ false) (sym ((bytes_decides k commit).0 e)) h))
      where
        itself : (k : List ℕ) → bytes_eq k k ≡ true
        itself k = (bytes_decides k k).1 refl

pub goes_through : (d : Deal) (commit : List ℕ) (uses : List (List ℕ)) → Stands d → IsDistinct bytes_eq (commit ∷ uses)
    → IsReady d.number commit uses d.first → Each (IsReady d.number commit uses) d.others → GoesThrough d
unfolding IsDistinct
goes_through d commit uses now apart first others = through d commit now
    (ready_uses d.number commit uses (λ v. Unit {0}) d.first now.first.opened apart.1 (turned commit uses apart.0) first)
    (each-both
    (λ s b ready. ready_uses d.number commit uses (λ v. v ≡ d.until) s b.opened apart.1 (turned commit uses apart.0) ready)
    d.others now.others others)
