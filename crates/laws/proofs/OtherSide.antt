-- Where a log has a roll in it: what a desk keeps tells on which side of it the desk stands.
use Rattle.ledger.proofs.Prelude.{Good, IsSomeAnd, Kept, Ledger, List, None, Option, Request, Some, ap, arith, kept_under}
use Rattle.std.specs.Prelude.{min}
use Rattle.ledger.proofs.Prelude.{places, subst, sym, take, ℕ, ◌<◌, ◌==◌, ◌∙◌, ◌≡◌, ◌≤◌}
use Rattle.ledger.specs.Answers.{After}
use Rattle.ledger.specs.Rolled.{gone, is_recent_deal, rolled}
use Rattle.ledger.proofs.Lists.{each-found, some_is}
use Rattle.laws.specs.Roll.{KeptStands, KeyStands}
use Rattle.laws.specs.Walks.{KeepsAt}
use Rattle.laws.proofs.Places.{stays}
use Rattle.laws.proofs.Recent.{kept_self}
use Rattle.laws.proofs.Rolled.{good_left, places_left, stands_left}

-- what is kept at a place is kept under its key
under_key : (A : Ledger) (n : ℕ) (r : Request) → Good A → KeepsAt A n r
    → kept_under A r.key ≡ Some (record { key = r.key; place = n; command = r.command })
under_key A n r good there =
    each-found (λ k. kept_under A k.key ≡ Some k) (λ k. k.place == n) _ A.kept (kept_self A.kept good.kept_in_order) there

-- behind a roll at which a key stayed and one went, another request is kept at the first place than before
pub sides_differ : (K : ℕ) (A B : Ledger) (log : List Request) (i : ℕ) (r s : Request) → Good A → 1 ≤ K → K < places A
    → After (rolled K A) log i B → KeepsAt A 1 r → KeepsAt B 1 s → r.key ≡ s.key → ⊥
sides_differ K A B log i r s good some fewer (replies, run) before behind same =
    apart (kept_under A s.key) (ap (kept_under A) (sym same) ∙ under_key A 1 r good before)
    (subst (λ j. KeyStands (gone K A) (kept_under A s.key) j) (under_key (rolled K A) 1 s rolled_good there)
    ((stands_left (is_recent_deal K A) K A good).kept s.key))
  where
    rolled_good : Good (rolled K A)
    rolled_good = good_left (is_recent_deal K A) K A good

    has_one : 1 ≤ places (rolled K A)
    has_one = let e : places (rolled K A) ≡ min K (places A) = places_left (is_recent_deal K A) K A good in omega (arith, e)

    there : KeepsAt (rolled K A) 1 s
    there = sym (stays (rolled K A) B (take i log) replies 1 has_one run) ∙ behind

    apart : (x : Option Kept) → x ≡ Some (record { key = r.key; place = 1; command = r.command })
        → IsSomeAnd x (λ k. KeptStands (gone K A) k (record { key = s.key; place = 1; command = s.command })) → ⊥
    apart None is stands = stands
    apart (Some k) is stands =
        let first : k.place ≡ 1 = ap (λ l. l.place) (some_is k _ is) in
        let lower = stands.place in
        omega (arith, first, lower)
