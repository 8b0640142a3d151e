-- A desk that is rolled up any number of times between its requests.
use Rattle.ledger.proofs.Prelude.{Each, Field, Good, IsInRange, IsKey, Kept, Ledger, List, None, Option, Order, Refused}
use Rattle.ledger.proofs.Prelude.{Reply, Request, Runs, Some, [], ap, arith, inl, kept_under, refl, subst, sym, ◌+◌}
use Rattle.ledger.proofs.Prelude.{◌∙◌, ◌∷◌, ◌≡◌, ◌≢◌, ℕ}
use Rattle.std.specs.List.{AllZip}
use Rattle.words.specs.declared.reply.Refusal.TheVariants as refusal
use Rattle.ledger.specs.Rolled.{gone, is_recent_deal, rolled}
use Rattle.ledger.proofs.Goodness.{good_answer}
use Rattle.ledger.proofs.Lists.{each-two}
use Rattle.ledger.proofs.Runs.{answered_if_good, answered_once}
use Rattle.ledger.proofs.Sums.{each, each-imp}
use Rattle.laws.specs.Roll.{NothingGoneIsNamed, NamesNothingGone, Comes, Event, FieldStands, KeyStands, Knows}
use Rattle.laws.specs.Roll.{OrdersStand, Rolls, RunsWithRolls, StandsFor, raise_reply, requests_among}
use Rattle.laws.proofs.Meeting.{stand_in_turn}
use Rattle.laws.proofs.Recent.{knows_last}
use Rattle.laws.proofs.Rolled.{good_left, stands_left}
use Rattle.laws.proofs.Staying.{answer_stays, order_new}

-- what one knows that knows what another knows
knows_in_turn : (A B C : Ledger) (r : Request) → Knows A B r → Knows B C r → Knows A C r
knows_in_turn A B C r k l = record {
  key = λ some. l.key (k.key some);
  order = λ n named some. l.order n named (k.order n named some);
}

pub rolled_between : (d : ℕ) (A B : Ledger) (events : List Event) (replies : List Reply) (M : Ledger) → Good A → Good B
    → Each (λ r. IsKey r.key × IsInRange r.command) (requests_among events) → StandsFor d A B
    → Each (Knows A B) (requests_among events) → NothingGoneIsNamed B events → Runs A (requests_among events) replies M
    → Each (λ reply. reply ≢ Refused refusal.Full 0) replies
    → (e : ℕ) × (N : Ledger) × RunsWithRolls d B events replies N × StandsFor e M N
rolled_between d A B [] [] M good gb range s knows asks run room =
    (d, B, refl, subst (λ X. StandsFor d X B) (sym run) s)
rolled_between d A B [] (p ∷ ps) M good gb range s knows asks run room = absurd run
rolled_between d A B (Comes r ∷ events) [] M good gb range s knows asks run room = absurd run
rolled_between d A B (Comes r ∷ events) (p ∷ ps) M good gb range s knows asks run room =
    let a = answer_stays d A B r p run.0 good gb s knows.0 run.1 room.0 in
    let gm = good_answer A r p run.0 good range.0.0 range.0.1 run.1 in
    let gn = good_answer B r a.reply a.next gb range.0.0 range.0.1 a.answers in
    let more = rolled_between d run.0 a.next events ps M gm gn range.1 a.stands
    (each-imp a.knows (requests_among events) knows.1) (asks a.reply a.next a.answers) run.2 room.1 in
    (more.0, more.1, (a.reply, a.next, a.answers, a.raised, more.2), more.3)
rolled_between d A B (Rolls K ∷ events) replies M good gb range s knows asks run room =
    rolled_between (d + gone K B) A (rolled K B) events replies M good (good_left (is_recent_deal K B) K B gb) range
    (stand_in_turn d (gone K B) A B (rolled K B) s (stands_left (is_recent_deal K B) K B gb))
    (each-imp (λ r h. knows_in_turn A B (rolled K B) r h.0 (knows_last K B gb r h.1)) (requests_among events)
    (each-two (Knows A B) (NamesNothingGone K B) (requests_among events) knows asks.0)) asks.1 run room

-- ---- a ledger stands for itself

orders_stand_as_is : (os : List Order) → OrdersStand os os
orders_stand_as_is [] = tt
orders_stand_as_is (o ∷ os) = inl (order_new o, orders_stand_as_is os)

fields_stand_as_is : (A : Ledger) (fs : List Field) → AllZip (FieldStands A A) fs fs
fields_stand_as_is A [] = tt
fields_stand_as_is A (f ∷ fs) = (record { name = refl; lo = refl; hi = refl; settled = refl }, fields_stand_as_is A fs)

stands_as_is : (A : Ledger) → StandsFor 0 A A
stands_as_is A = record {
  clock = refl;
  fields = fields_stand_as_is A A.fields;
  orders = orders_stand_as_is A.orders;
  places = omega arith;
  kept = λ key. key_stands (kept_under A key);
}
  where
    key_stands : (x : Option Kept) → KeyStands 0 x x
    key_stands None = tt
    key_stands (Some k) = record { place = omega arith; command = refl }

knows_as_is : (A : Ledger) (r : Request) → Knows A A r
knows_as_is A r = record { key = λ some. some; order = λ n named some. some }

-- a desk that is rolled up gives the replies of one that never is
pub replies_as_never_rolled : (A : Ledger) (events : List Event) (replies : List Reply) (M : Ledger) → Good A
    → Each (λ r. IsKey r.key × IsInRange r.command) (requests_among events) → NothingGoneIsNamed A events
    → Runs A (requests_among events) replies M → Each (λ reply. reply ≢ Refused refusal.Full 0) replies
    → (d : ℕ) × (B : Ledger) × RunsWithRolls 0 A events replies B × StandsFor d M B
replies_as_never_rolled A events replies M good range asks run room =
    rolled_between 0 A A events replies M good good range (stands_as_is A)
    (each (λ r. knows_as_is A r) (requests_among events)) asks run room

-- ---- such a run is there, and is one

pub rolled_run : (d : ℕ) (A : Ledger) (events : List Event) → Good A
    → Each (λ r. IsKey r.key × IsInRange r.command) (requests_among events)
    → (told : List Reply) × (B : Ledger) × RunsWithRolls d A events told B
rolled_run d A [] good range = ([], A, refl)
rolled_run d A (Comes r ∷ events) good range =
    let a = answered_if_good A r good in
    let more = rolled_run d a.1 events (good_answer A r a.0 a.1 good range.0.0 range.0.1 a.2) range.1 in
    (raise_reply d a.0 ∷ more.0, more.1, (a.0, a.1, a.2, refl, more.2))
rolled_run d A (Rolls K ∷ events) good range =
    rolled_run (d + gone K A) (rolled K A) events (good_left (is_recent_deal K A) K A good) range

pub rolled_once : (d : ℕ) (A : Ledger) (events : List Event) (ps qs : List Reply) (B C : Ledger)
    → RunsWithRolls d A events ps B → RunsWithRolls d A events qs C → (ps ≡ qs) × (B ≡ C)
rolled_once d A [] [] [] B C h k = (refl, h ∙ sym k)
rolled_once d A [] (p ∷ ps) qs B C h k = absurd h
rolled_once d A [] [] (q ∷ qs) B C h k = absurd k
rolled_once d A (Comes r ∷ events) [] qs B C h k = absurd h
rolled_once d A (Comes r ∷ events) (p ∷ ps) [] B C h k = absurd k
rolled_once d A (Comes r ∷ events) (p ∷ ps) (q ∷ qs) B C h k =
    let one = answered_once A r h.0 k.0 h.1 k.1 h.2 k.2 in
    let more = rolled_once d k.1 events ps qs B C (subst (λ N. RunsWithRolls d N events ps B) one.1 h.4) k.4 in
    let same : p ≡ q = h.3 ∙ ap (raise_reply d) one.0 ∙ sym k.3 in
    ((λ i. same i ∷ more.0 i), more.1)
rolled_once d A (Rolls K ∷ events) ps qs B C h k = rolled_once (d + gone K A) (rolled K A) events ps qs B C h k
