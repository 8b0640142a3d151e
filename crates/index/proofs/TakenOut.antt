-- An item taken out of blocks: its block is one short, and takes the first item of the next, which is then one short.
use Rattle.index.proofs.Prelude.{Each, List, Some, [], add-one, append_assoc, ap, arith, get_or, insert, length}
use Rattle.index.proofs.Prelude.{length-append, length-set, map, none-some, option_map, refl, same_Some, set, slice_get}
use Rattle.index.proofs.Prelude.{slice_get-map, slice_get_read, subst, suc, sym, zero, ℕ, ◌++◌, ◌+◌, ◌*◌, ◌-◌, ◌<◌, ◌^◌}
use Rattle.index.proofs.Prelude.{◌∙◌, ◌∷◌, ◌≡◌, ◌≤◌}
use Rattle.std.specs.Prelude.{min}
use Rattle.std.proofs.Common.{◌/◌, ◌%◌}
use Rattle.std.specs.List.{remove}
use Rattle.std.proofs.lemmas.List.{length-map, map-set}
use Rattle.std.proofs.lemmas.List.Edits.{insert_end, length-remove, remove-append_left, remove-append_right}
use Rattle.index.specs.BlockList.{IsFilled, IsInBlocks, joined}
use Rattle.index.proofs.Blocks.{each_at, fits, is_index, is_within, length-joined, length_at, read, same_sizes, there}

-- n items fill these blocks one after another, but the k-th takes one fewer
abbrev pub IsOneShort : {T : Type 0} → ℕ → List (List T) → ℕ → Type 0
IsOneShort n [] k = n ≡ 0
IsOneShort n (b ∷ bs) zero = (length b ≡ min n 1023) × IsFilled (n - 1023) bs
IsOneShort n (b ∷ bs) (suc k) = (length b ≡ min n 1024) × IsOneShort (n - 1024) bs k

module _ {T : Type 0} where
  -- an item taken out of the k-th block
  opened : (n : ℕ) (bs : List (List T)) (k : ℕ) (b c : List T)
      → IsFilled n bs → slice_get bs k ≡ Some b → length c + 1 ≡ length b → 1024 * k < n → IsOneShort (n - 1) (set bs k c) k
  opened n [] k b c h there fewer begun = absurd (none-some _ there)
  opened n (a ∷ bs) zero b c h there fewer begun =
      let rest : n - 1024 ≡ n - 1 - 1023 = omega arith in
      (omega (arith, fewer, ap length (same_Some _ _ there), h.0), subst (λ m. IsFilled m bs) rest h.1)
  opened n (a ∷ bs) (suc k) b c h there fewer begun =
      let rest : n - 1024 - 1 ≡ n - 1 - 1024 = omega arith in (
        omega (arith, h.0, begun),
        subst (λ m. IsOneShort m (set bs k c) k) rest
            (opened (n - 1024) bs k b c h.1 there fewer (omega (arith, begun))),
      )

  joined-remove : (n : ℕ) (bs : List (List T)) (k i : ℕ) (b : List T)
      → IsFilled n bs → slice_get bs k ≡ Some b → i < length b
      → joined (set bs k (remove b i)) ≡ remove (joined bs) (1024 * k + i)
  joined-remove n [] k i b h there short = absurd (none-some _ there)
  joined-remove n (a ∷ bs) zero i b h there short =
      let place : 1024 * 0 + i ≡ i = omega arith in
      rw (place, same_Some _ _ there) (sym (remove-append_left b (joined bs) i short))
  joined-remove n (a ∷ bs) (suc k) i b h there short =
      let full : length a ≡ 1024 = omega (arith, h.0, short, length_at (n - 1024) bs k b h.1 there) in
      let place : 1024 * suc k + i - 1024 ≡ 1024 * k + i = omega arith in
      let behind = joined-remove (n - 1024) bs k i b h.1 there short in
      rw (remove-append_right a (joined bs) 1024 (1024 * suc k + i) full (omega arith), place) (ap (λ l. a ++ l) behind)

  -- ---- where more items stand behind

  next_block : (n : ℕ) (bs : List (List T)) (k : ℕ) → IsOneShort n bs k → 1024 * suc k ≤ n → suc k < length bs
  next_block n [] k h more = absurd (omega (arith, h, more))
  next_block n (b ∷ bs) zero h more = omega (arith, more, fits (n - 1023) bs h.1)
  next_block n (b ∷ bs) (suc k) h more = omega (arith, next_block (n - 1024) bs k h.1 (omega (arith, more)))

  next_item : (n : ℕ) (bs : List (List T)) (k : ℕ) (c : List T)
      → IsOneShort n bs k → slice_get bs (suc k) ≡ Some c → 1024 * suc k ≤ n → 0 < length c
  next_item n [] k c h there more = absurd (none-some _ there)
  next_item n (b ∷ bs) zero c h there more = omega (arith, more, length_at (n - 1023) bs 0 c h.1 there)
  next_item n (b ∷ bs) (suc k) c h there more = next_item (n - 1024) bs k c h.1 there (omega (arith, more))

  length_short : (n : ℕ) (bs : List (List T)) (k : ℕ) (b c : List T)
      → IsOneShort n bs k → slice_get (set bs (suc k) c) k ≡ Some b → 1024 * suc k ≤ n → length b ≡ 1023
  length_short n [] k b c h there more = absurd (none-some _ there)
  length_short n (a ∷ bs) zero b c h there more = omega (arith, more, ap length (same_Some _ _ there), h.0)
  length_short n (a ∷ bs) (suc k) b c h there more = length_short (n - 1024) bs k b c h.1 there (omega (arith, more))

  -- the first of them moves up: the items are the same, and the next block is one short
  moved_up : (n : ℕ) (bs : List (List T)) (k : ℕ) (b c rest : List T) (x : T)
      → IsOneShort n bs k → slice_get bs (suc k) ≡ Some c → c ≡ x ∷ rest → slice_get (set bs (suc k) rest) k ≡ Some b
      → 1024 * suc k ≤ n
      → IsOneShort n (set (set bs (suc k) rest) k (b ++ x ∷ [])) (suc k)
      × (joined (set (set bs (suc k) rest) k (b ++ x ∷ [])) ≡ joined bs)
  moved_up n [] k b c rest x h next is here more = absurd (none-some _ next)
  moved_up n (a ∷ []) zero b c rest x h next is here more = absurd (none-some _ next)
  moved_up n (a ∷ d ∷ bs) zero b c rest x h next is here more =
      let first = same_Some _ _ here in
      let second = same_Some _ _ next ∙ is in
      let left : n - 1023 - 1024 ≡ n - 1024 - 1023 = omega arith in (
        (
          omega (arith, length-append b (x ∷ []), ap length first, h.0, more),
          (omega (arith, ap length second, h.1.0, more), subst (λ m. IsFilled m bs) left h.1.1),
        ),
        rw (first, second) (append_assoc b (x ∷ []) (rest ++ joined bs)),
      )
  moved_up n (a ∷ bs) (suc k) b c rest x h next is here more =
      let behind = moved_up (n - 1024) bs k b c rest x h.1 next is here (omega (arith, more)) in
      ((h.0, behind.0), ap (λ l. a ++ l) behind.1)

  -- ---- where none do

  closed : (n : ℕ) (bs : List (List T)) (k : ℕ) → IsOneShort n bs k → n < 1024 * suc k → IsFilled n bs
  closed n [] k h last = h
  closed n (b ∷ bs) zero h last =
      let rest : n - 1023 ≡ n - 1024 = omega (arith, last) in
      (omega (arith, h.0, last), subst (λ m. IsFilled m bs) rest h.1)
  closed n (b ∷ bs) (suc k) h last = (h.0, closed (n - 1024) bs k h.1 (omega (arith, last)))

first_and_rest : {T : Type 0} (l : List T) (x : T) → slice_get l 0 ≡ Some x → l ≡ x ∷ remove l 0
first_and_rest [] x there = absurd (none-some _ there)
first_and_rest (y ∷ l) x there = ap (λ z. z ∷ l) (same_Some _ _ there)

-- the n items that are left are those that are to be, and the k-th block is one short
pub record IsClosingUp {T : Type 0} (goal : List T) (n : ℕ) (blocks : List (List T)) (capacities : List ℕ) (k : ℕ) : Type 0 where
  pub are : joined blocks ≡ goal
  pub filled : IsOneShort n blocks k
  pub roomy : Each (λ c. 1024 ≤ c) capacities
  pub few : length blocks ≤ 2 ^ 22

-- ---- an item taken out, in a list of blocks

module _
    {X T : Type 0} (items : X → List T) (capacity : X → ℕ) {n : ℕ} (xs : List X) (place : ℕ)
    (lie : IsInBlocks n (map items xs) (map capacity xs)) (short : place < length (joined (map items xs)))
    {b : X} (is : b ≡ get_or xs (place / 1024) b) where
  in_list : place / 1024 < length xs
  in_list = is_index items capacity n xs place lie short

  block : slice_get (map items xs) (place / 1024) ≡ Some (items b)
  block = there items xs (place / 1024) b in_list is

  within : place % 1024 < length (items b)
  within = is_within items capacity n xs place lie short b is

  whole : 1024 * (place / 1024) + place % 1024 ≡ place
  whole = omega arith

  pub taken : (x : T) → slice_get (items b) (place % 1024) ≡ Some x → slice_get (joined (map items xs)) place ≡ Some x
  taken x out =
      subst (λ p. slice_get (joined (map items xs)) p ≡ Some x) whole
      (read n (map items xs) _ _ (items b) lie.filled block within ∙ out)

  module _ (c : X) (same_size : capacity c ≡ capacity b) where
    abbrev pub left : List X
    left = set xs (place / 1024) c

    pub sizes_stay : map capacity left ≡ map capacity xs
    sizes_stay = same_sizes capacity xs (place / 1024) b c in_list is same_size

    pub begins : items c ≡ remove (items b) (place % 1024)
        → IsClosingUp (remove (joined (map items xs)) place) (n - 1) (map items left) (map capacity left) (place / 1024)
    begins out =
        let fewer : length (items c) + 1 ≡ length (items b) =
        ap (λ l. length l + 1) out ∙ length-remove (items b) (place % 1024) within in
        let begun : 1024 * (place / 1024) < n = omega (arith, short, length-joined n (map items xs) lie.filled) in
        let as_many = length-set (map items xs) (place / 1024) (items c) in
        let removed = joined-remove n (map items xs) _ _ (items b) lie.filled block within in
        rw (sizes_stay, map-set items xs (place / 1024) c) (record {
          are = rw out (removed ∙ ap (remove (joined (map items xs))) whole);
          filled = opened n (map items xs) (place / 1024) (items b) (items c) lie.filled block fewer begun;
          roomy = lie.roomy;
          few = rw as_many lie.few;
        })

-- ---- a step of the closing up

module _
    {X T : Type 0} (items : X → List T) (capacity : X → ℕ) {goal : List T} {n : ℕ} (xs : List X) {k : ℕ}
    (way : IsClosingUp goal n (map items xs) (map capacity xs) k) where
  -- no step is left
  pub closes : n < 1024 * (k + 1) → IsInBlocks n (map items xs) (map capacity xs)
  closes last = record {
    filled = closed n (map items xs) k way.filled (omega (arith, last));
    roomy = way.roomy;
    few = way.few;
  }

  module _ (more : 1024 * (k + 1) ≤ n) where
    pub is_next : k + 1 < length xs
    is_next = omega (arith, next_block n (map items xs) k way.filled (omega (arith, more)), length-map xs items)

    module _ {c : X} (is : c ≡ get_or xs (k + 1) c) where
      next : slice_get (map items xs) (suc k) ≡ Some (items c)
      next = rw add-one at (there items xs (k + 1) c is_next is)

      pub has_first : 0 < length (items c)
      has_first = next_item n (map items xs) k (items c) way.filled next (omega (arith, more))

      module _ {rest : X} (rest_size : capacity rest ≡ capacity c) where
        abbrev pub shorter : List X
        shorter = set xs (k + 1) rest

        shorter_items : map items shorter ≡ set (map items xs) (suc k) (items rest)
        shorter_items = rw (map-set items xs (k + 1) rest, add-one)

        shorter_sizes : map capacity shorter ≡ map capacity xs
        shorter_sizes = same_sizes capacity xs (k + 1) c rest is_next is rest_size

        is_here : k < length shorter
        is_here = rw (length-set xs (k + 1) rest) (omega (arith, is_next))

        module _ {b : X} (is_b : b ≡ get_or shorter k b) where
          here : slice_get (set (map items xs) (suc k) (items rest)) k ≡ Some (items b)
          here = rw shorter_items at (there items shorter k b is_here is_b)

          pub one_short : length (items b) ≡ 1023
          one_short = length_short n (map items xs) k (items b) (items rest) way.filled here (omega (arith, more))

          size : slice_get (map capacity shorter) k ≡ Some (capacity b)
          size = slice_get-map capacity shorter k ∙ ap (option_map capacity) (slice_get_read shorter _ k b refl is_here is_b)

          pub roomy : 1024 ≤ capacity b
          roomy = each_at (λ c. 1024 ≤ c) (map capacity shorter) k (capacity b) (rw shorter_sizes way.roomy) size

          module _ {full : X} (full_size : capacity full ≡ capacity b) where
            abbrev pub moved : List X
            moved = set shorter k full

            pub sizes_as_before : map capacity moved ≡ map capacity xs
            sizes_as_before = same_sizes capacity shorter k b full is_here is_b full_size ∙ shorter_sizes

            pub goes_on : (x : T) → slice_get (items c) 0 ≡ Some x → items rest ≡ remove (items c) 0
                → items full ≡ insert (items b) 1023 x
                → IsClosingUp goal n (map items moved) (map capacity moved) (k + 1)
            goes_on x first out put =
                let whole : items c ≡ x ∷ items rest = rw out (first_and_rest (items c) x first) in
                let last : items full ≡ items b ++ x ∷ [] =
                put ∙ ap (λ i. insert (items b) i x) (sym one_short) ∙ insert_end (items b) x in
                let up =
                moved_up n (map items xs) k (items b) (items c) (items rest) x way.filled next whole here
                (omega (arith, more)) in
                let as_many = length-set (set (map items xs) (suc k) (items rest)) k (items b ++ x ∷ []) in
                rw (sizes_as_before, map-set items shorter k full, shorter_items, add-one, last) (record {
                  are = up.1 ∙ way.are;
                  filled = up.0;
                  roomy = way.roomy;
                  few = rw (as_many, length-set (map items xs) (suc k) (items rest)) way.few;
                })
