-- What is answered: each request once, at a good ledger always, and in whole runs.
use Rattle.ledger.proofs.Prelude.{Add, Answers, AnswersNew, AsksNoStock, Check, Command, Done, Each, Field}
use Rattle.ledger.proofs.Prelude.{FirstFailure, Good, IsAccepted, IsDistinct, IsFuture, IsGoodField, IsHonoured}
use Rattle.ledger.proofs.Prelude.{IsInRange, IsKey, IsNone, IsSomeAnd, IsStrictlySortedBy, Kept, KeyReused, Kind}
use Rattle.ledger.proofs.Prelude.{Ledger, List, MatchOption, MayHoldMore, Name, None, OpenLine, Option, Plain, Refusal}
use Rattle.ledger.proofs.Prelude.{Refused, Reply, Request, Runs, Some, Take, Transfer, Way, [], accept, add_hold, ap}
use Rattle.ledger.proofs.Prelude.{arith, bound, bytes_decides, checks, dec_le, find, held_to_add, held_to_take}
use Rattle.ledger.proofs.Prelude.{if◌then◌else◌, inl, inr, ints, kept_under, length, line_checks, line_name, map}
use Rattle.ledger.proofs.Prelude.{new_ledger, new_line, new_order, next, on, order_numbered, places, pos, refl}
use Rattle.ledger.proofs.Prelude.{same_command, settled, spelling, spelling_one, subst, suc, sym, take, transfer_lines}
use Rattle.ledger.proofs.Prelude.{true, with_order, zero, ℕ, ◌++◌, ◌+ℤ◌, ◌+◌, ◌-ℤ◌, ◌<◌, ◌↔◌, ◌∙◌, ◌∷◌, ◌≡◌, ◌≤ℤ◌, ◌≤◌}
use Rattle.ledger.proofs.Prelude.{◌⊎◌}
use Rattle.words.specs.declared.command.Command.TheVariants as command
use Rattle.ledger.specs.Future.{Honours}
use Rattle.ledger.proofs.Futures.{fit-answer, stands_if_fit}
use native.Mathlib.Decide.{dec_lt}
use Rattle.ledger.proofs.Sums.{change_order, each-both}
use Rattle.ledger.proofs.Bounds.{HasRoom, Sound, falls_below_iff, held_least, rises_above_iff, room_from_safe}
use Rattle.ledger.specs.Answers.{After}
use Rattle.ledger.proofs.Goodness.{good_answer}
use Rattle.ledger.proofs.FieldNames.{OneOn}
use Rattle.ledger.proofs.Passing.{along, none_if_not_some, takes_more}
use Rattle.ledger.proofs.Falls.{Fit, fit_from_good, sounds_from_good}
use Rattle.ledger.proofs.Asks.{fresh-push, fresh-sound, sound_more, with_sound}

-- ---- each request has one answer, and each request of a future has an answer

first_once : (cs : List Check) (a b : Option (Refusal × ℕ)) → FirstFailure cs a → FirstFailure cs b → a ≡ b
first_once [] a b h k = h ∙ sym k
first_once (c ∷ cs) a b (inl h) (inl k) = h.1 ∙ sym k.1
first_once (c ∷ cs) a b (inl h) (inr k) = absurd (k.0 h.0)
first_once (c ∷ cs) a b (inr h) (inl k) = absurd (h.0 k.0)
first_once (c ∷ cs) a b (inr h) (inr k) = first_once cs a b h.1 k.1

Left : Ledger → Request → Option (Refusal × ℕ) → Reply → Ledger → Type 0
Left A r found reply B =
    MatchOption found ((reply ≡ Done (places A + 1)) × (B ≡ accept A r)) (λ e. (reply ≡ Refused e.0 e.1) × (B ≡ A))

pub answered_once : (A : Ledger) (r : Request) (p q : Reply) (B C : Ledger) → Answers A r p B → Answers A r q C
    → (p ≡ q) × (B ≡ C)
unfolding Left
answered_once A r p q B C h k = grind (arith, Left, first_once)

pub no_key : (o : Option Kept) → IsNone o → o ≡ None
no_key b e = grind arith

-- an accepted request is done at the next place
pub accepted_answered : (A : Ledger) (r : Request) → IsAccepted A r → Answers A r (Done (places A + 1)) (accept A r)
accepted_answered A r (none, passed) = rw (no_key (kept_under A r.key) none) (None, passed, (refl, refl))

pub accepted_once : (A : Ledger) (r : Request) (reply : Reply) (B : Ledger) → IsAccepted A r → Answers A r reply B
    → (reply ≡ Done (places A + 1)) × (B ≡ accept A r)
accepted_once A r reply B accepted h =
    answered_once A r reply (Done (places A + 1)) B (accept A r) h (accepted_answered A r accepted)

-- each check fails or does not
abbrev AllDecided : List Check → Type 0
AllDecided [] = Unit {0}
AllDecided (c ∷ cs) = (c.fails ⊎ (c.fails → ⊥)) × AllDecided cs

first_is : (cs : List Check) → AllDecided cs → (found : Option (Refusal × ℕ)) × FirstFailure cs found
first_is [] d = (None, refl)
first_is (c ∷ cs) d = by d.0 (first_is cs d.1)
  where
    by : c.fails ⊎ (c.fails → ⊥) → (found : Option (Refusal × ℕ)) × FirstFailure cs found
        → (found : Option (Refusal × ℕ)) × FirstFailure (c ∷ cs) found
    by (inl h) r = (Some (c.refusal, c.line), inl (h, refl))
    by (inr h) r = (r.0, inr (h, r.1))

-- what the checks find is answered
pub answers_found : (A : Ledger) (r : Request)
    → (found : Option (Refusal × ℕ)) × FirstFailure (checks A r.command) found
    → (reply : Reply) × (B : Ledger) × Answers A r reply B
answers_found A r first = by_key (kept_under A r.key)
  where
    by_found : (found : Option (Refusal × ℕ)) → FirstFailure (checks A r.command) found
        → (reply : Reply) × (B : Ledger) × AnswersNew A r reply B
    by_found None f = (Done (places A + 1), accept A r, (None, f, (refl, refl)))
    by_found (Some e) f = (Refused e.0 e.1, A, (Some e, f, (refl, refl)))

    by_key : (o : Option Kept)
        → (reply : Reply) × (B : Ledger)
        × MatchOption o (AnswersNew A r reply B)
        (λ k.
        (reply ≡ (if same_command k.command r.command then Done k.place else Refused KeyReused 0))
        × (B ≡ A))
    by_key None = by_found first.0 first.1
    by_key (Some k) = (if same_command k.command r.command then Done k.place else Refused KeyReused 0, A, (refl, refl))

answered : (A : Ledger) (r : Request) → AsksNoStock r.command → (reply : Reply) × (B : Ledger) × Answers A r reply B
answered A r w = answers_found A r (first_is (checks A r.command) (grind arith))

honoured : (A : Ledger) (rs : List Request) → IsFuture rs → Fit A
    → (replies : List Reply) × (B : Ledger) × Runs A rs replies B × IsHonoured B
honoured A [] w fit = ([], A, refl, stands_if_fit A fit)
honoured A (r ∷ rs) w fit = let a = answered A r w.0 in let t = honoured a.1 rs w.1 (fit-answer A r a.0 a.1 w.0 fit a.2) in
    (a.0 ∷ t.0, t.1, (a.1, a.2, t.2), t.3)

pub honours_if_good : (A : Ledger) → Good A → Honours A
honours_if_good A g rs w = honoured A rs w (fit_from_good A g)

-- ---- at a good ledger every request has an answer

abbrev Decided : Type 0 → Type 0
Decided P = P ⊎ (P → ⊥)

abbrev Found : List Check → Type 0
Found cs = (found : Option (Refusal × ℕ)) × FirstFailure cs found

-- each check is decided, where those before it do not fail
abbrev InTurn : List Check → Type 0
InTurn [] = Unit {0}
InTurn (c ∷ cs) = Decided c.fails × ((c.fails → ⊥) → InTurn cs)

in_turn : (cs : List Check) → InTurn cs → Found cs
in_turn [] d = (None, refl)
in_turn (c ∷ cs) d = by d.0 (λ h. in_turn cs (d.1 h))
  where
    by : Decided c.fails → ((c.fails → ⊥) → Found cs) → Found (c ∷ cs)
    by (inl h) rest = (Some (c.refusal, c.line), inl (h, refl))
    by (inr h) rest = let r = rest h in (r.0, inr (h, r.1))

dec_less : (m n : ℕ) → Decided (m < n)
dec_less m n = elim (dec_lt m n) [ yes h ↦ inl h | no h ↦ inr h ]

dec_upto : (m n : ℕ) → Decided (m ≤ n)
dec_upto m n = elim (dec_le m n) [ yes h ↦ inl h | no h ↦ inr h ]

dec_bound : (w : Way) (B : Ledger) (f : Name) (i : ℕ) → Each Sound B.orders → Decided (bound w B f i).fails
dec_bound b x f i s = grind (arith, falls_below_iff, rises_above_iff)

found_lines : (A : Ledger) (n : ℕ) (k : Kind) (u : ℕ) (before ls : List OpenLine) → Each Sound A.orders
    → ((g : Name) → OneOn g (map new_line before)) → InTurn (line_checks A (new_order n k u) before ls)
found_lines A n k u before [] s one = tt
found_lines A n k u before (l ∷ ls) s one = (
  (grind arith),
  λ same. (
    (grind arith),
    λ there.
        let one' : (g : Name) → OneOn g (map new_line (before ++ l ∷ [])) =
        fresh-push before l one
        (none_if_not_some (find (on (line_name (new_line l))) (map new_line before)) same) in (
          (dec_bound l.way (with_order (new_order n k u (before ++ l ∷ [])) A) (line_name (new_line l)) (length before + 1)
              (with_sound A (new_order n k u (before ++ l ∷ [])) (fresh-sound n k u (before ++ l ∷ []) one') s)),
          λ _. found_lines A n k u (before ++ l ∷ []) ls s one',
        ),
  ),
)

found : (A : Ledger) (c : Command) → Good A → InTurn (checks A c)
found A (command.Field b a lo hi start) g =
    ((dec_less _ _), λ _. ((dec_upto _ _), λ _. ((grind arith), λ _. ((grind arith), λ _. tt))))
found A (command.Deliver b a q) g = (
  (dec_less _ _),
  λ _. (
    (grind arith),
    λ _. (
      (dec_bound Add (next A (command.Deliver b a q)) (record { branch = b; article = a }) 0
          (sounds_from_good A g)),
      λ _. tt,
    ),
  ),
)
found A (command.Writeoff b a q) g = (
  (dec_less _ _),
  λ _. (
    (grind arith),
    λ _. (
      (dec_bound Take (next A (command.Writeoff b a q)) (record { branch = b; article = a }) 0
          (sounds_from_good A g)),
      λ _. tt,
    ),
  ),
)
found A (command.Rebound b a lo hi) g =
    let B : Ledger = next A (command.Rebound b a lo hi) in
    let f : Name = record { branch = b; article = a } in
    let s = sounds_from_good A g in (
      (dec_less _ _),
      λ _. (
        (grind arith),
        λ _. ((dec_less _ _), λ _. ((dec_bound Take B f 0 s), λ _. ((dec_bound Add B f 0 s), λ _. tt))),
      ),
    )
found A (command.Open n until lines) g = (
  (dec_less _ _),
  λ _. (
    (dec_upto _ _),
    λ _. (
      (grind arith),
      λ _. ((dec_upto _ _), λ _. found_lines A n Plain until [] lines (sounds_from_good A g) (λ _. tt)),
    ),
  ),
)
found A (command.Transfer n until a from to q) g = (
  (dec_less _ _),
  λ _. (
    (dec_upto _ _),
    λ _. (
      (grind arith),
      λ _. (
        (dec_upto _ _),
        λ _. found_lines A n Transfer until [] (transfer_lines a from to q) (sounds_from_good A g)
            (λ _. tt),
      ),
    ),
  ),
)
found A (command.More n way b a q) g =
    let f : Name = record { branch = b; article = a } in
    let l : OpenLine = record { way = way; branch = b; article = a; qty = q } in (
      (dec_less _ _),
      λ _. (
        (grind arith),
        λ p1. (
          (grind arith),
          λ p2. (
            (grind arith),
            λ loose. (
              (grind arith),
              λ p3. (
                (grind arith),
                λ _. (
                  (grind arith),
                  λ p5. (
                    (grind arith),
                    λ _. (
                      (dec_bound way (next A (command.More n way b a q)) f 0
                          (more_sound l (takes_more f way (order_numbered A n) p1 p2 loose p3 p5))),
                      λ _. tt,
                    ),
                  ),
                ),
              ),
            ),
          ),
        ),
      ),
    )
  where
    more_sound : (l : OpenLine) → IsSomeAnd (order_numbered A n) (MayHoldMore (line_name (new_line l)) l.way)
        → Each Sound (change_order n (add_hold l) A).orders
    more_sound l t = sound_more A n l (sounds_from_good A g) g.orders_in_order t
found A (command.Use n b a q) g = grind arith
found A (command.Release n b a q) g = grind arith
found A (command.Commit n) g = ((grind arith), λ _. ((grind arith), λ _. tt))
found A (command.Abort n) g = ((grind arith), λ _. ((grind arith), λ _. ((grind arith), λ _. tt)))
found A (command.Firm n) g = ((dec_less _ _), λ _. ((grind arith), λ _. ((grind arith), λ _. ((grind arith), λ _. tt))))
found A (command.Expire now) g = ((dec_less _ _), λ _. ((dec_less _ _), λ _. tt))

pub answered_if_good : (A : Ledger) (r : Request) → Good A → (reply : Reply) × (B : Ledger) × Answers A r reply B
answered_if_good A r g = answers_found A r (in_turn (checks A r.command) (found A r.command g))

-- ---- whole runs from a good ledger, and the numbers of a good ledger's fields

-- the same text is the same command
pub same_is : (c d : Command) → IsInRange c → IsInRange d → (same_command c d ≡ true) ↔ (c ≡ d)
same_is c d h k = (
  (λ e. spelling_one c d h k ((bytes_decides (spelling c) (spelling d)).0 e)),
  (λ e. (bytes_decides (spelling c) (spelling d)).1 (ap spelling e)),
)

abbrev InRanges : List Request → Type 0
InRanges rs = Each (λ r. IsKey r.key × IsInRange r.command) rs

pub runs_once : (A : Ledger) (rs : List Request) (ps qs : List Reply) (B C : Ledger) → Runs A rs ps B → Runs A rs qs C
    → (ps ≡ qs) × (B ≡ C)
runs_once A [] [] [] B C h k = (refl, h ∙ sym k)
runs_once A [] (p ∷ ps) qs B C h k = absurd h
runs_once A [] [] (q ∷ qs) B C h k = absurd k
runs_once A (r ∷ rs) [] qs B C h k = absurd h
runs_once A (r ∷ rs) (p ∷ ps) [] B C h k = absurd k
runs_once A (r ∷ rs) (p ∷ ps) (q ∷ qs) B C h k =
    let a = answered_once A r p q h.0 k.0 h.1 k.1 in
    let b = runs_once k.0 rs ps qs B C (subst (λ M. Runs M rs ps B) a.1 h.2) k.2 in ((λ i. a.0 i ∷ b.0 i), b.1)

pub runs_stay_good : (A : Ledger) (rs : List Request) (ps : List Reply) (B : Ledger) → Good A → InRanges rs
    → Runs A rs ps B → Good B
runs_stay_good A rs ps B g w h =
    along (λ r. IsKey r.key × IsInRange r.command) Good (λ A r p M k h g. good_answer A r p M g k.0 k.1 h) A rs ps B w h g

pub a_run : (A : Ledger) (rs : List Request) → Good A → InRanges rs → (ps : List Reply) × (B : Ledger) × Runs A rs ps B
a_run A [] g w = ([], A, refl)
a_run A (r ∷ rs) g w =
    let a = answered_if_good A r g in
    let b = a_run a.1 rs (good_answer A r a.0 a.1 g w.0.0 w.0.1 a.2) w.1 in
    (a.0 ∷ b.0, b.1, (a.1, a.2, b.2))

ranges_take : (rs : List Request) (i : ℕ) → InRanges rs → InRanges (take i rs)
ranges_take rs zero h = tt
ranges_take [] (suc i) h = tt
ranges_take (r ∷ rs) (suc i) h = (h.0, ranges_take rs i h.1)

pub after_there : (A : Ledger) (rs : List Request) (i : ℕ) → Good A → InRanges rs → (B : Ledger) × After A rs i B
after_there A rs i g w = let run = a_run A (take i rs) g (ranges_take rs i w) in (run.1, (run.0, run.2))

pub after_once : (A : Ledger) (rs : List Request) (i : ℕ) (B C : Ledger) → After A rs i B → After A rs i C → B ≡ C
after_once A rs i B C h k = (runs_once A (take i rs) h.0 k.0 B C h.1 k.1).1

-- all numbers of a field are levels, in their order
pub in_order : (A : Ledger) → Good A
    → Each (λ f.
    (pos f.lo ≤ℤ (settled A f -ℤ held_to_take A f.name)) × ((settled A f -ℤ held_to_take A f.name) ≤ℤ settled A f)
    × (settled A f ≤ℤ (settled A f +ℤ held_to_add A f.name)) × ((settled A f +ℤ held_to_add A f.name) ≤ℤ pos f.hi)
    × (f.hi ≤ 1000000000)) A.fields
in_order A g = each-both (λ f r x. one f r x) A.fields (room_from_safe A (sounds_from_good A g) g.safe) g.fields
  where
    one : (f : Field) → HasRoom A f → IsGoodField f
        → (pos f.lo ≤ℤ (settled A f -ℤ held_to_take A f.name)) × ((settled A f -ℤ held_to_take A f.name) ≤ℤ settled A f)
        × (settled A f ≤ℤ (settled A f +ℤ held_to_add A f.name))
        × ((settled A f +ℤ held_to_add A f.name) ≤ℤ pos f.hi) × (f.hi ≤ 1000000000)
    one f r x =
        let held = held_least A f.name in
        let take = held.0 in
        let add = held.1 in
        (r.0, omega (arith, ints), omega (arith, ints), r.1, x.hi)

-- the ledger of a new desk is good
pub good_new : Good new_ledger
unfolding IsStrictlySortedBy IsDistinct
good_new = grind arith
