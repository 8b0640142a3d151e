-- Scripts are played by computing: a script whose replies and numbers are those computed is played as it stands.
use Rattle.ledger.proofs.Prelude.{Answers, AnswersNew, Check, Done, Each, Field, FirstFailure, IsInfimum, IsSomeAnd}
use Rattle.ledger.proofs.Prelude.{IsSupremum, Kept, KeyReused, Ledger, List, MatchOption, None, Option, Refusal}
use Rattle.ledger.proofs.Prelude.{Refused, Reply, Request, Some, [], accept, ap, arith, article_total, checks}
use Rattle.ledger.proofs.Prelude.{field_named, held_to_add, held_to_take, if◌then◌else◌, inl, inr, kept_under, map}
use Rattle.ledger.proofs.Prelude.{places, pos, refl, same_command, settled, subst, ℕ, ℤ, ◌+ℤ◌, ◌+◌, ◌-ℤ◌, ◌∷◌, ◌≡◌}
use Rattle.laws.specs.Examples.{Numbers, Plays, Shows, Step, numbers, total}
use Rattle.ledger.proofs.Bounds.{inf_is, sup_is}
use Rattle.laws.proofs.Tests.{AllTested, Sounds, Tested, fails, holds, if_sounds, sounds, tested, unknown}

-- ---- the answer to a request, where the tests find it

-- the first check that fails, or that none does
abbrev pub Found : List Check → Type 0
Found cs = (found : Option (Refusal × ℕ)) × FirstFailure cs found

abbrev pub first_or : (c : Check) (cs : List Check) → Tested c.fails → Option (Found cs) → Option (Found (c ∷ cs))
first_or c cs (holds h) rest = Some (Some (c.refusal, c.line), inl (h, refl))
first_or c cs (fails h) None = None
first_or c cs (fails h) (Some r) = Some (r.0, inr (h, r.1))
first_or c cs unknown rest = None

abbrev pub first_failure : (cs : List Check) → AllTested cs → Option (Found cs)
first_failure [] t = Some (None, refl)
first_failure (c ∷ cs) t = first_or c cs t.0 (first_failure cs t.1)

abbrev pub Answered : Ledger → Request → Type 0
Answered A r = (reply : Reply) × (B : Ledger) × Answers A r reply B

abbrev pub by_found : (A : Ledger) (r : Request) (found : Option (Refusal × ℕ))
    → FirstFailure (checks A r.command) found → (reply : Reply) × (B : Ledger) × AnswersNew A r reply B
by_found A r None f = (Done (places A + 1), accept A r, (None, f, (refl, refl)))
by_found A r (Some e) f = (Refused e.0 e.1, A, (Some e, f, (refl, refl)))

abbrev pub by_new : (A : Ledger) (r : Request) → Option (Found (checks A r.command))
    → Option ((reply : Reply) × (B : Ledger) × AnswersNew A r reply B)
by_new A r None = None
by_new A r (Some f) = Some (by_found A r f.0 f.1)

abbrev pub by_key : (A : Ledger) (r : Request) (o : Option Kept)
    → Option ((reply : Reply) × (B : Ledger)
    × MatchOption o (AnswersNew A r reply B)
    (λ k. (reply ≡ (if same_command k.command r.command then Done k.place else Refused KeyReused 0)) × (B ≡ A)))
by_key A r None = by_new A r (first_failure (checks A r.command) (tested A r.command))
by_key A r (Some k) = Some (if same_command k.command r.command then Done k.place else Refused KeyReused 0, A, (refl, refl))

abbrev pub answered : (A : Ledger) (r : Request) → Option (Answered A r)
answered A r = by_key A r (kept_under A r.key)

-- ---- what is seen, and what is wanted

-- the value, the infimum and the supremum; nothing of a ledger whose orders are not seen to be sound
abbrev pub field_seen : (A : Ledger) → Tested (Sounds A) → Option Field → List ℤ
field_seen A (holds s) (Some f) =
    settled A f ∷ (settled A f -ℤ held_to_take A f.name) ∷ (settled A f +ℤ held_to_add A f.name) ∷ []
field_seen A (holds s) None = []
field_seen A (fails s) o = []
field_seen A unknown o = []

abbrev pub seen_at : Ledger → Numbers → List ℤ
seen_at A (numbers branch article value infimum supremum) =
    field_seen A (if_sounds A) (field_named A (record { branch = branch; article = article }))
seen_at A (total article amount) = article_total A article ∷ []

abbrev pub wanted : Numbers → List ℤ
wanted (numbers branch article value infimum supremum) = pos value ∷ pos infimum ∷ pos supremum ∷ []
wanted (total article amount) = pos amount ∷ []

shows : (A : Ledger) (n : Numbers) → seen_at A n ≡ wanted n → Shows A n
shows A (total article amount) e = cc
shows A (numbers branch article value infimum supremum) e =
    by (if_sounds A) (field_named A (record { branch = branch; article = article })) e
  where
    by : (t : Tested (Sounds A)) (o : Option Field) → field_seen A t o ≡ pos value ∷ pos infimum ∷ pos supremum ∷ []
        → IsSomeAnd o (λ f. (settled A f ≡ pos value) × IsInfimum A f (pos infimum) × IsSupremum A f (pos supremum))
    by (holds s) (Some f) e = grind (arith, (inf_is A (sounds A s) f), (sup_is A (sounds A s) f), sounds)
    by (holds s) None e = absurd cc
    by (fails s) o e = absurd cc
    by unknown o e = absurd cc

each_shows : (A : Ledger) (ns : List Numbers) → map (seen_at A) ns ≡ map wanted ns → Each (Shows A) ns
each_shows A [] e = tt
each_shows A (n ∷ ns) e = (shows A n cc, each_shows A ns cc)

-- ---- whole scripts

-- the reply to each request and what is seen then, up to a request whose answer the tests do not find
abbrev pub told_by : (s : Step) (A : Ledger) → (Ledger → List (Reply × List (List ℤ))) → Option (Answered A s.request)
    → List (Reply × List (List ℤ))
told_by s A rest None = []
told_by s A rest (Some a) = (a.0, map (seen_at a.1) s.seen) ∷ rest a.1

abbrev pub told : List Step → Ledger → List (Reply × List (List ℤ))
told [] A = []
told (s ∷ ss) A = told_by s A (told ss) (answered A s.request)

-- the replies that the script has, and what it wants to be seen
abbrev pub script : List Step → List (Reply × List (List ℤ))
script ss = map (λ s. (s.reply, map wanted s.seen)) ss

-- where all that is told is what the script has, it is played as it stands
pub plays : (ss : List Step) (A : Ledger) → told ss A ≡ script ss → Plays A ss
plays [] A e = tt
plays (s ∷ ss) A e = by (plays ss) (answered A s.request) e
  where
    by : ((B : Ledger) → told ss B ≡ script ss → Plays B ss) → (a : Option (Answered A s.request))
        → told_by s A (told ss) a ≡ script (s ∷ ss) → Plays A (s ∷ ss)
    by rest None e = absurd cc
    by rest (Some a) e =
        let line : ◌≡◌ {A = Reply × List (List ℤ)} (a.0, map (seen_at a.1) s.seen) (s.reply, map wanted s.seen) = cc in
        let reply : a.0 ≡ s.reply = ap (λ p. p.0) line in
        (a.1, subst (λ p. Answers A s.request p a.1) reply a.2, each_shows a.1 s.seen (ap (λ p. p.1) line), rest a.1 cc)
