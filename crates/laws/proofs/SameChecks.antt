-- Entries that are both there or neither, and checks that find the same, but for a full ledger.
use Rattle.ledger.proofs.Prelude.{Bool, Check, FirstFailure, IsNone, IsSome, IsSomeAnd, List, None, Option, Refusal}
use Rattle.ledger.proofs.Prelude.{Some, [], ap, false, find, full, if◌then◌else◌, inl, inr, is_some, refl, sym, true}
use Rattle.ledger.proofs.Prelude.{true≢false, ◌↔◌, ◌∙◌, ◌∷◌, ◌≡◌, ◌≢◌, ◌⊎◌, ℕ}
use Rattle.std.specs.List.{AllZip}
use Rattle.words.specs.declared.reply.Refusal.TheVariants as refusal
use Rattle.laws.specs.Roll.{FirstButFull, NoneFull}

-- ---- two entries, both there or neither

abbrev pub Both : {X Y : Type 0} → (X → Y → Type 0) → Option X → Option Y → Type 0
Both R None None = Unit {0}
Both R None (Some y) = ⊥
Both R (Some x) None = ⊥
Both R (Some x) (Some y) = R x y

module _ {X Y : Type 0} (R : X → Y → Type 0) where
  pub both-none : (x : Option X) (y : Option Y) → Both R x y → IsNone x ↔ IsNone y
  both-none None None h = (λ e. e, λ e. e)
  both-none None (Some y) h = absurd h
  both-none (Some x) None h = absurd h
  both-none (Some x) (Some y) h = (λ e. e, λ e. e)

  pub both-some : (x : Option X) (y : Option Y) → Both R x y → IsSome x ↔ IsSome y
  both-some None None h = (λ e. e, λ e. e)
  both-some None (Some y) h = absurd h
  both-some (Some x) None h = absurd h
  both-some (Some x) (Some y) h = (λ e. e, λ e. e)

  pub both-and : (P : X → Type 0) (Q : Y → Type 0) → ((x : X) (y : Y) → R x y → P x ↔ Q y) → (x : Option X)
      → (y : Option Y) → Both R x y → IsSomeAnd x P ↔ IsSomeAnd y Q
  both-and P Q iff None None h = (λ e. e, λ e. e)
  both-and P Q iff None (Some y) h = absurd h
  both-and P Q iff (Some x) None h = absurd h
  both-and P Q iff (Some x) (Some y) h = iff x y h

  pub both-found : (p : X → Bool) (q : Y → Bool) → ((x : X) (y : Y) → R x y → q y ≡ p x) → (xs : List X) (ys : List Y)
      → AllZip R xs ys → Both R (find p xs) (find q ys)
  both-found p q same [] [] h = tt
  both-found p q same [] (y ∷ ys) h = absurd h
  both-found p q same (x ∷ xs) [] h = absurd h
  both-found p q same (x ∷ xs) (y ∷ ys) h = by (p x) (q y) (same x y h.0) (both-found p q same xs ys h.1)
    where
      by : (b c : Bool) → c ≡ b → Both R (find p xs) (find q ys)
          → Both R (if b then Some x else find p xs) (if c then Some y else find q ys)
      by true true e more = h.0
      by true false e more = absurd (true≢false (sym e))
      by false true e more = absurd (true≢false e)
      by false false e more = more

pub then_iff : {P Q R : Type 0} → P ↔ Q → Q ↔ R → P ↔ R
then_iff a b = (λ p. b.0 (a.0 p), λ r. a.1 (b.1 r))

pub back_iff : {P Q : Type 0} → P ↔ Q → Q ↔ P
back_iff a = (a.1, a.0)

pub not_iff : {P Q : Type 0} → P ↔ Q → (P → ⊥) ↔ (Q → ⊥)
not_iff a = (λ n q. n (a.1 q), λ n p. n (a.0 p))

pub both_iff : {P Q R S : Type 0} → P ↔ Q → R ↔ S → (P × R) ↔ (Q × S)
both_iff a b = (λ h. (a.0 h.0, b.0 h.1), λ h. (a.1 h.0, b.1 h.1))

pub equal_iff : {X : Type 0} (a b c : X) → a ≡ b → (a ≡ c) ↔ (b ≡ c)
equal_iff a b c e = (λ h. sym e ∙ h, λ h. e ∙ h)

-- ---- checks that find the same, but for a full ledger

abbrev pub Alike : Check → Check → Type 0
Alike c d = (d.refusal ≡ c.refusal) × (d.line ≡ c.line) × (d.fails → c.fails)
    × ((c.fails → d.fails) ⊎ ((c.refusal ≡ refusal.Full) × (c.line ≡ 0)))

abbrev pub AllAlike : List Check → List Check → Type 0
AllAlike [] [] = Unit {0}
AllAlike [] (d ∷ ds) = ⊥
AllAlike (c ∷ cs) [] = ⊥
AllAlike (c ∷ cs) (d ∷ ds) = Alike c d × ((c.refusal ≢ refusal.Full → c.fails → ⊥) → AllAlike cs ds)

pub found_alike : (cs ds : List Check) → AllAlike cs ds → (found : Option (Refusal × ℕ))
    → found ≢ Some (refusal.Full, 0) → FirstFailure cs found → FirstFailure ds found
found_alike [] [] a found room h = h
found_alike [] (d ∷ ds) a found room h = absurd a
found_alike (c ∷ cs) [] a found room h = absurd a
found_alike (c ∷ cs) (d ∷ ds) a found room (inl h) = by a.0.3
  where
    by : (c.fails → d.fails) ⊎ ((c.refusal ≡ refusal.Full) × (c.line ≡ 0)) → FirstFailure (d ∷ ds) found
    by (inl to) = inl (to h.0, h.1 ∙ (λ i. Some (sym a.0.0 i, sym a.0.1 i)))
    by (inr full) = absurd (room (h.1 ∙ (λ i. Some (full.0 i, full.1 i))))
found_alike (c ∷ cs) (d ∷ ds) a found room (inr h) =
    inr ((λ f. h.0 (a.0.2 f)), found_alike cs ds (a.1 (λ _. h.0)) found room h.1)

-- the other ledger has room: it finds what this one finds but for a full ledger
pub found_roomy : (cs ds : List Check) → AllAlike cs ds → (found : Option (Refusal × ℕ)) → FirstButFull cs found
    → NoneFull ds → FirstFailure ds found
found_roomy [] [] a found h room = h
found_roomy [] (d ∷ ds) a found h room = absurd a
found_roomy (c ∷ cs) [] a found h room = absurd a
found_roomy (c ∷ cs) (d ∷ ds) a found (inl h) room =
    inr (room.0 (a.0.0 ∙ h.0), found_roomy cs ds (a.1 (λ ne. absurd (ne h.0))) found h.1 room.1)
found_roomy (c ∷ cs) (d ∷ ds) a found (inr (ne, inl h)) room = by a.0.3
  where
    by : (c.fails → d.fails) ⊎ ((c.refusal ≡ refusal.Full) × (c.line ≡ 0)) → FirstFailure (d ∷ ds) found
    by (inl to) = inl (to h.0, h.1 ∙ (λ i. Some (sym a.0.0 i, sym a.0.1 i)))
    by (inr full) = absurd (ne full.0)
found_roomy (c ∷ cs) (d ∷ ds) a found (inr (ne, inr h)) room =
    inr ((λ f. h.0 (a.0.2 f)), found_roomy cs ds (a.1 (λ _. h.0)) found h.1 room.1)

-- where the other passes, this one does, too, if it has room
pub back_alike : (cs ds : List Check) → AllAlike cs ds → FirstFailure ds None → NoneFull cs → FirstFailure cs None
back_alike [] [] a h room = h
back_alike [] (d ∷ ds) a h room = absurd a
back_alike (c ∷ cs) [] a h room = absurd a
back_alike (c ∷ cs) (d ∷ ds) a (inl h) room = absurd (true≢false (sym (ap is_some h.1)))
back_alike (c ∷ cs) (d ∷ ds) a (inr h) room =
    let passes : c.fails → ⊥ = by a.0.3 in
    inr (passes, back_alike cs ds (a.1 (λ _. passes)) h.1 room.1)
  where
    by : (c.fails → d.fails) ⊎ ((c.refusal ≡ refusal.Full) × (c.line ≡ 0)) → c.fails → ⊥
    by (inl to) f = h.0 (to f)
    by (inr full) f = room.0 full.0 f

pub no_order_full : refusal.NoOrder ≢ refusal.Full
no_order_full e = cc

pub ended_full : refusal.Ended ≢ refusal.Full
ended_full e = cc

pub firm_full : refusal.Firm ≢ refusal.Full
firm_full e = cc

pub fixed_full : refusal.TransferFixed ≢ refusal.Full
fixed_full e = cc

pub way_full : refusal.OtherWay ≢ refusal.Full
way_full e = cc

pub field_full : refusal.SameField ≢ refusal.Full
field_full e = cc

-- the same check of other ledgers
pub alike : (P Q : Type 0) (r : Refusal) (line : ℕ) → P ↔ Q
    → Alike (record { fails = P; refusal = r; line = line }) (record { fails = Q; refusal = r; line = line })
alike P Q r line iff = (refl, refl, iff.1, inl iff.0)
