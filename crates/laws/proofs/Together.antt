-- What holds between the first order of a deal and the others, along a course.
use Rattle.ledger.proofs.Prelude.{[], ◌<◌, ◌∷◌, ◌≡◌, ◌≤◌, Each, IfSome, IsNone, IsSome, IsSomeAnd, List, None, OpenLine}
use Rattle.ledger.proofs.Prelude.{Option, Order, Reply, Request, arith, inl, inr, order_numbered, subst, sym, ℕ}
use Rattle.std.specs.List.{AllZip}
use Rattle.ledger.proofs.Lists.{each-all}
use Rattle.ledger.proofs.Sums.{each-both, each-imp}
use Rattle.laws.specs.Deals.{AtFirst, AtOther, Course, Deal, Guards, HasAborted, HasCommitted, HasUsed, IsAnswered}
use Rattle.laws.specs.Deals.{IsNew, IsThere, Keeps, OneGoes, Side, Turn, first_guards, other_guards}
use Rattle.laws.proofs.OneOrder.{AsOpened, Steps, answer_steps}
use Rattle.laws.proofs.Zips.{all_in_turn, all_same, each_one, one_relates}

-- the first order, which may be opened until any moment
pub record First (n : ℕ) (s : Side) : Type 0 where
  pub opened : IfSome (order_numbered s.ledger n) (AsOpened s.lines (λ v. Unit {0}))
  pub used : HasCommitted n s → HasUsed n s

-- another order, beside the first
pub record Beside (n until : ℕ) (first s : Side) : Type 0 where
  pub opened : IfSome (order_numbered s.ledger n) (AsOpened s.lines (λ v. v ≡ until))
  pub there : IsThere n s → IsThere n first
  pub used : HasCommitted n first → HasUsed n s
  pub committed : HasCommitted n s → HasCommitted n first
  pub aborted : HasAborted n s → HasAborted n first

pub record Stands (d : Deal) : Type 0 where
  pub first : First d.number d.first
  pub others : Each (Beside d.number d.until d.first) d.others

-- ---- one answer

-- the order of one side by an answer, where the moments of its opening are these
abbrev pub SideSteps : ℕ → (ℕ → Type 0) → Guards → Side → Side → Type 0
SideSteps n Lasts g s t = Steps s.lines Lasts g (order_numbered s.ledger n) (order_numbered t.ledger n)

keeps : (n : ℕ) (Lasts : ℕ → Type 0) (g : Guards) (s t : Side) → SideSteps n Lasts g s t → Keeps n s t
keeps n Lasts g s t k = record { there = k.there; used = k.used; committed = k.stays_committed; aborted = k.stays_aborted }

too_late : (x y z : ℕ) → x ≡ y → z < y → x ≤ z → ⊥
too_late x y z e h k = omega arith

first_steps : (d : Deal) (r : Request) (reply : Reply) (t : Side) → First d.number d.first
    → IsAnswered d.number (first_guards d) r reply d.first t → SideSteps d.number (λ v. Unit {0}) (first_guards d) d.first t
first_steps d r reply t now h = answer_steps d.number d.first.lines (λ v. Unit {0}) (first_guards d) (λ v ok. tt)
    (λ v moment ok come late. tt) d.first.ledger r reply t.ledger h.may h.answers now.opened

other_steps : (d : Deal) (r : Request) (reply : Reply) (s t : Side) → Beside d.number d.until d.first s
    → IsAnswered d.number (other_guards d) r reply s t → SideSteps d.number (λ v. v ≡ d.until) (other_guards d) s t
other_steps d r reply s t now h = answer_steps d.number s.lines (λ v. v ≡ d.until) (other_guards d) (λ v ok. ok.1)
    (λ v moment is come late. absurd (too_late v d.until moment is come late))
    s.ledger r reply t.ledger h.may h.answers now.opened

opened_at : (x : Option Order) (Lasts : ℕ → Type 0) (ls ms : List OpenLine) → ms ≡ ls → IfSome x (AsOpened ls Lasts)
    → IfSome x (AsOpened ms Lasts)
opened_at x Lasts ls ms same opened = subst (λ k. IfSome x (AsOpened k Lasts)) (sym same) opened

pub at_first : (d : Deal) (r : Request) (reply : Reply) (t : Side) → Stands d
    → IsAnswered d.number (first_guards d) r reply d.first t → Stands (record d { first = t })
at_first d r reply t now h = record {
  first = record {
    opened = opened_at (order_numbered t.ledger d.number) (λ v. Unit {0}) d.first.lines t.lines h.lines k.opened;
    used = used;
  };
  others = each-both (λ s b u. beside s b u) d.others now.others
      (each-all (λ (c : HasCommitted d.number t) s. HasUsed d.number s) d.others all_used);
}
  where
    k : SideSteps d.number (λ v. Unit {0}) (first_guards d) d.first t
    k = first_steps d r reply t now.first h

    used : HasCommitted d.number t → HasUsed d.number t
    used c = elim (k.committed c) [ inl before ↦ k.used (now.first.used before) | inr ok ↦ k.used ok.0 ]

    all_used : HasCommitted d.number t → Each (HasUsed d.number) d.others
    all_used c = elim (k.committed c) [ inl before ↦ each-imp (λ s b. b.used before) d.others now.others | inr ok ↦ ok.1 ]

    beside : (s : Side) → Beside d.number d.until d.first s → (HasCommitted d.number t → HasUsed d.number s)
        → Beside d.number d.until t s
    beside s b u = record {
      opened = b.opened;
      there = λ h. k.there (b.there h);
      used = u;
      committed = λ c. k.stays_committed (b.committed c);
      aborted = λ a. k.stays_aborted (b.aborted a);
    }

beside_next : (d : Deal) (r : Request) (reply : Reply) (s t : Side) → IsAnswered d.number (other_guards d) r reply s t
    → Beside d.number d.until d.first s → Beside d.number d.until d.first t
beside_next d r reply s t h b = record {
  opened = opened_at (order_numbered t.ledger d.number) (λ v. v ≡ d.until) s.lines t.lines h.lines k.opened;
  there = λ c. elim (k.comes c) [ inl before ↦ b.there before | inr (until, ok) ↦ ok.0 ];
  used = λ c. k.used (b.used c);
  committed = λ c. elim (k.committed c) [ inl before ↦ b.committed before | inr ok ↦ ok ];
  aborted = λ c. elim (k.aborted c) [ inl before ↦ b.aborted before | inr ok ↦ ok ];
}
  where
    k : SideSteps d.number (λ v. v ≡ d.until) (other_guards d) s t
    k = other_steps d r reply s t b h

pub at_other : (d : Deal) (r : Request) (reply : Reply) (ts : List Side) → Stands d
    → OneGoes (IsAnswered d.number (other_guards d) r reply) d.others ts → Stands (record d { others = ts })
at_other d r reply ts now h = record {
  first = now.first;
  others = each_one (IsAnswered d.number (other_guards d) r reply) (Beside d.number d.until d.first)
      (λ s t k b. beside_next d r reply s t k b) d.others ts h now.others;
}

-- ---- along a course

pub stands_along : (d : Deal) (turns : List Turn) (e : Deal) → Course d turns e → Stands d → Stands e
stands_along d [] e h now = subst Stands (sym h) now
stands_along d (AtFirst r reply ∷ turns) e (t, h, more) now =
    stands_along (record d { first = t }) turns e more (at_first d r reply t now h)
stands_along d (AtOther r reply ∷ turns) e (ts, h, more) now =
    stands_along (record d { others = ts }) turns e more (at_other d r reply ts now h)

pub none_is : (x : Option Order) → IsNone x → x ≡ None
none_is x h = grind arith

pub starts : (d : Deal) → IsNew d → Stands d
starts d new = record {
  first = record { opened = not_there d.first new.0 _; used = λ c. absurd (gone d.first new.0 _ c) };
  others = each-imp (λ s none. record {
    opened = not_there s none _;
    there = λ h. absurd (nowhere s none h);
    used = λ c. absurd (gone d.first new.0 _ c);
    committed = λ c. absurd (gone s none _ c);
    aborted = λ c. absurd (gone s none _ c);
  }) d.others new.1;
}
  where
    not_there : (s : Side) → IsNone (order_numbered s.ledger d.number) → (P : Order → Type 0)
        → IfSome (order_numbered s.ledger d.number) P
    not_there s none P = subst (λ x. IfSome x P) (sym (none_is (order_numbered s.ledger d.number) none)) tt

    gone : (s : Side) → IsNone (order_numbered s.ledger d.number) → (P : Order → Type 0)
        → IsSomeAnd (order_numbered s.ledger d.number) P → ⊥
    gone s none P h = subst (λ x. IsSomeAnd x P) (none_is (order_numbered s.ledger d.number) none) h

    nowhere : (s : Side) → IsNone (order_numbered s.ledger d.number) → IsThere d.number s → ⊥
    nowhere s none h = none_some (order_numbered s.ledger d.number) none h
      where
        none_some : (x : Option Order) → IsNone x → IsSome x → ⊥
        none_some x a b = grind arith

-- ---- what stays

same : (n : ℕ) (s : Side) → Keeps n s s
same n s = record { there = λ h. h; used = λ h. h; committed = λ h. h; aborted = λ h. h }

in_turn : (n : ℕ) (s t u : Side) → Keeps n s t → Keeps n t u → Keeps n s u
in_turn n s t u h k = record {
  there = λ x. k.there (h.there x);
  used = λ x. k.used (h.used x);
  committed = λ x. k.committed (h.committed x);
  aborted = λ x. k.aborted (h.aborted x);
}

-- at each desk
abbrev KeepsAll : Deal → Deal → Type 0
KeepsAll d e = Keeps d.number d.first e.first × AllZip (Keeps d.number) d.others e.others

keep_along : (d : Deal) (turns : List Turn) (e : Deal) → Course d turns e → Stands d → KeepsAll d e
keep_along d [] e h now = subst (KeepsAll d) (sym h)
    (same d.number d.first, all_same (Keeps d.number) (same d.number) (in_turn d.number) d.others)
keep_along d (AtFirst r reply ∷ turns) e (t, h, more) now =
    let k = keep_along (record d { first = t }) turns e more (at_first d r reply t now h) in
    let one = keeps d.number (λ v. Unit {0}) (first_guards d) d.first t (first_steps d r reply t now.first h) in
    (in_turn d.number d.first t e.first one k.0, k.1)
keep_along d (AtOther r reply ∷ turns) e (ts, h, more) now =
    let k = keep_along (record d { others = ts }) turns e more (at_other d r reply ts now h) in
    let one = one_relates (Keeps d.number) (same d.number) (in_turn d.number)
    (IsAnswered d.number (other_guards d) r reply) (Beside d.number d.until d.first)
    (λ s t j b. keeps d.number (λ v. v ≡ d.until) (other_guards d) s t (other_steps d r reply s t b j))
    d.others ts h now.others in
    (k.0, all_in_turn (Keeps d.number) (same d.number) (in_turn d.number) d.others ts e.others one k.1)

pub guards_stay : (c d : Deal) (turns more : List Turn) (e : Deal) → IsNew c → Course c turns d → Course d more e → KeepsAll d e
guards_stay c d turns more e new h k = keep_along d more e k (stands_along c turns d h (starts c new))
