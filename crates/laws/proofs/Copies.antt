-- Which of a log's entries are carried out: late ones leave no trace.
use Rattle.ledger.proofs.Prelude.{[], ◌++◌, ◌<◌, ◌∙◌, ◌∷◌, ◌≡◌, ◌≤◌, Bool, Contains, Each, IsInRange, IsKey, Ledger, List}
use Rattle.ledger.proofs.Prelude.{Reply, Request, Runs, ap, append-nil, append_assoc, arith, bytes_decides, bytes_eq}
use Rattle.ledger.proofs.Prelude.{false, if◌then◌else◌, inl, inr, kept_under, map-append, new_key, refl, subst, sym, true}
use Rattle.ledger.proofs.Prelude.{ℕ}
use Rattle.ledger.proofs.Lists.{any_none, each-unmap, find-beside}
use Rattle.ledger.proofs.Sums.{each-both, each-map}
use Rattle.ledger.proofs.Runs.{runs_once}
use Rattle.std.proofs.lemmas.List.Elements.{All-contains, All-from_recursion, Contains-append_left}
use Rattle.laws.specs.Late.{Entry, carried, carried_on, is_late, overtakes, requests}
use Rattle.laws.specs.Walks.{AreInRange}
use Rattle.laws.proofs.Places.{Steps, by_key, steps}

-- ---- one entry

-- an entry that is not late was asked for behind each of its key
asked_behind : (before : List Entry) (e x : Entry) → is_late before x ≡ false → Contains before e
    → x.request.key ≡ e.request.key → e.position ≤ x.base
asked_behind before e x fresh there same =
    let apart : overtakes e x ≡ false =
    All-contains Apart before e (All-from_recursion Apart before (any_none (λ b. overtakes b x) before fresh)) there in
    let key = (bytes_decides e.request.key x.request.key).1 (sym same) in
    grind arith
  where
    Apart : Entry → Type 0
    Apart b = overtakes b x ≡ false

is_so : (before : List Entry) (e x : Entry) → Contains before e → x.request.key ≡ e.request.key → x.base < e.position
    → is_late before x ≡ true
is_so before e x there same older = by (is_late before x) refl
  where
    by : (b : Bool) → is_late before x ≡ b → b ≡ true
    by true is = refl
    by false is = let le = asked_behind before e x is there same in absurd (omega arith)

-- ---- the log

carried_on-append : (before log more : List Entry)
    → carried_on before (log ++ more) ≡ carried_on (carried_on before log) more
carried_on-append before [] more = refl
carried_on-append before (e ∷ log) more = carried_on-append (if is_late before e then before else before ++ e ∷ []) log more

-- what is carried out of more entries
pub record Added (before more after : List Entry) : Type 1 where
  pub rest : List Entry
  pub same : after ≡ before ++ rest
  pub fresh : (e : Entry) → Contains before e → Each (λ x. x.request.key ≡ e.request.key → e.position ≤ x.base) rest
  pub among : (P : Entry → Type 0) → Each P more → Each P rest

pub added : (before more : List Entry) → Added before more (carried_on before more)
added before [] = record { rest = []; same = sym (append-nil before); fresh = λ e there. tt; among = λ P all. tt }
added before (x ∷ more) = by (is_late before x) refl (added before more) (added (before ++ x ∷ []) more)
  where
    by : (b : Bool) → is_late before x ≡ b → Added before more (carried_on before more)
        → Added (before ++ x ∷ []) more (carried_on (before ++ x ∷ []) more)
        → Added before (x ∷ more) (carried_on (if b then before else before ++ x ∷ []) more)
    by true is late fresh =
        record { rest = late.rest; same = late.same; fresh = late.fresh; among = λ P all. late.among P all.1 }
    by false is late fresh = record {
      rest = x ∷ fresh.rest;
      same = fresh.same ∙ append_assoc before (x ∷ []) fresh.rest;
      fresh = λ e there.
          (asked_behind before e x is there, fresh.fresh e (Contains-append_left before (x ∷ []) e there));
      among = λ P all. (all.0, fresh.among P all.1);
    }

-- a log that grows
pub grown : (log more : List Entry) → Added (carried log) more (carried (log ++ more))
grown log more = subst (Added (carried log) more) (sym (carried_on-append [] log more)) (added (carried log) more)

pub passed_over : (log more : List Entry) (e x : Entry) → Contains (carried log) e → x.request.key ≡ e.request.key
    → x.base < e.position → carried (log ++ x ∷ more) ≡ carried (log ++ more)
passed_over log more e x there same older =
    carried_on-append [] log (x ∷ more)
    ∙ ap (λ b. carried_on (if b then carried log else carried log ++ x ∷ []) more) (is_so (carried log) e x there same older)
    ∙ sym (carried_on-append [] log more)

pub range : (log : List Entry) → AreInRange (requests log) → AreInRange (requests (carried log))
range log all =
    let a = added [] log in
    subst (λ es. AreInRange (requests es)) (sym a.same)
    (each-map InRange (λ e. e.request) a.rest
    (a.among (λ e. InRange e.request) (each-unmap InRange (λ e. e.request) log all)))
  where
    InRange : Request → Type 0
    InRange r = IsKey r.key × IsInRange r.command

-- ---- ledgers

runs_split : (A C : Ledger) (rs ss : List Request) (qs : List Reply) → Runs A (rs ++ ss) qs C
    → (M : Ledger) × (first rest : List Reply) × Runs A rs first M × Runs M ss rest C
runs_split A C [] ss qs run = (A, [], qs, refl, run)
runs_split A C (r ∷ rs) ss [] run = absurd run
runs_split A C (r ∷ rs) ss (q ∷ qs) (L, answer, run) =
    let (M, first, rest, before, behind) = runs_split L C rs ss qs run in (M, q ∷ first, rest, (L, answer, before), behind)

differ : (xs ys : List ℕ) → (xs ≡ ys → ⊥) → bytes_eq xs ys ≡ false
differ xs ys apart = by (bytes_eq xs ys) refl
  where
    by : (b : Bool) → bytes_eq xs ys ≡ b → b ≡ false
    by true is = absurd (apart ((bytes_decides xs ys).0 is))
    by false is = refl

-- requests under other keys
others : (B C : Ledger) (key : List ℕ) (rs : List Request) (qs : List Reply) → Each (λ r. r.key ≡ key → ⊥) rs
    → Runs B rs qs C → kept_under C key ≡ kept_under B key
others B C key [] [] apart same = ap (λ L. kept_under L key) same
others B C key [] (q ∷ qs) apart run = absurd run
others B C key (r ∷ rs) [] apart run = absurd run
others B C key (r ∷ rs) (q ∷ qs) apart (M, answer, run) = others M C key rs qs apart.1 run ∙ by (steps B r q M answer)
  where
    by : Steps B r M → kept_under M key ≡ kept_under B key
    by (inl (accepted, is)) =
        ap (λ L. kept_under L key) is
        ∙ find-beside (λ k. bytes_eq k.key key) by_key (new_key B r) B.kept (differ r.key key apart.0)
    by (inr (not, is)) = ap (λ L. kept_under L key) is

pub kept_stays : (A B C : Ledger) (log more : List Entry) (e : Entry) (ps qs : List Reply) → Contains (carried log) e
    → Each (λ x. x.request.key ≡ e.request.key → x.base < e.position) more → Runs A (requests (carried log)) ps B
    → Runs A (requests (carried (log ++ more))) qs C → kept_under C e.request.key ≡ kept_under B e.request.key
kept_stays A B C log more e ps qs there older before whole =
    let (M, first, last, begun, ended) = runs_split A C (requests (carried log)) (requests a.rest) qs parts in
    let same = (runs_once A (requests (carried log)) first ps M B begun before).1 in
    others B C e.request.key (requests a.rest) last (each-map (λ r. r.key ≡ e.request.key → ⊥) (λ x. x.request) a.rest apart)
    (subst (λ L. Runs L (requests a.rest) last C) same ended)
  where
    a : Added (carried log) more (carried (log ++ more))
    a = grown log more

    parts : Runs A (requests (carried log) ++ requests a.rest) qs C
    parts = subst (λ rs. Runs A rs qs C) (ap requests a.same ∙ map-append (λ x. x.request) (carried log) a.rest) whole

    apart : Each (λ x. x.request.key ≡ e.request.key → ⊥) a.rest
    apart = each-both (λ x least most same. let l = least same in let m = most same in omega arith) a.rest (a.fresh e there)
        (a.among (λ x. x.request.key ≡ e.request.key → x.base < e.position) older)
