-- Items in blocks, each full but the last.
use Rattle.index.proofs.Prelude.{Each, List, Some, [], add-one, append_assoc, ap, arith, get_or, insert, length}
use Rattle.index.proofs.Prelude.{length-append, length-set, map, map-append, none-some, option_map, refl, same_Some}
use Rattle.index.proofs.Prelude.{set, slice_get, slice_get-map, slice_get_read, subst, suc, sym, zero, zero-add, ℕ}
use Rattle.index.proofs.Prelude.{◌++◌, ◌+◌, ◌*◌, ◌-◌, ◌<◌, ◌^◌, ◌∙◌, ◌∷◌, ◌≡◌, ◌≤◌}
use Rattle.std.specs.Prelude.{min}
use Rattle.std.proofs.Common.{drop, take}
use Rattle.std.proofs.Math.Seq.{drop-append_seam, take-append_seam}
use Rattle.std.proofs.Common.{◌/◌, ◌%◌}
use Rattle.std.proofs.lemmas.List.{length-drop, length-map, map-set, set-append_left, set-append_right}
use Rattle.std.proofs.lemmas.List.Edits.{insert-append_left, insert-append_right, length-insert}
use Rattle.index.specs.BlockList.{IsFilled, IsInBlocks, joined}

pub length-joined : {T : Type 0} (n : ℕ) (bs : List (List T)) → IsFilled n bs → length (joined bs) ≡ n
length-joined n [] h = sym h
length-joined n (b ∷ bs) h = omega (arith, length-append b (joined bs), h.0, length-joined (n - 1024) bs h.1)

pub fits : {T : Type 0} (n : ℕ) (bs : List (List T)) → IsFilled n bs → n ≤ 1024 * length bs
fits n [] h = omega (arith, h)
fits n (b ∷ bs) h = omega (arith, fits (n - 1024) bs h.1)

-- an item put in by turning a block: to the front, the item before it, and back
pub turned_back : {T : Type 0} (s l : List T) (place n : ℕ) (x : T) → place ≤ length s → n + place ≡ length s + 1
    → l ≡ x ∷ (drop place s ++ take place s) → drop n l ++ take n l ≡ insert s place x
turned_back s l place n x within whole is =
    let behind = x ∷ drop place s in
    let len : n ≡ length behind = omega (arith, length-drop place s) in
    rw (is, len) (ap (λ r. r ++ take (length behind) (behind ++ take place s)) (drop-append_seam behind (take place s))
    ∙ ap (λ r. take place s ++ r) (take-append_seam behind (take place s)))

-- ---- the k-th block

pub length_at : {T : Type 0} (n : ℕ) (bs : List (List T)) (k : ℕ) (b : List T) → IsFilled n bs → slice_get bs k ≡ Some b
    → length b ≡ min (n - 1024 * k) 1024
length_at n [] k b h there = absurd (none-some _ there)
length_at n (a ∷ bs) zero b h there = let left : n - 1024 * 0 ≡ n = omega arith in rw (← same_Some _ _ there, left) h.0
length_at n (a ∷ bs) (suc k) b h there =
    let left : n - 1024 - 1024 * k ≡ n - 1024 * suc k = omega arith in
    rw (length_at (n - 1024) bs k b h.1 there, left) refl

-- as an index reads it from a list of blocks
module _ {X T : Type 0} (items : X → List T) where
  pub there : (xs : List X) (k : ℕ) (x : X) → k < length xs → x ≡ get_or xs k x → slice_get (map items xs) k ≡ Some (items x)
  there xs k x short is = slice_get-map items xs k ∙ ap (option_map items) (slice_get_read xs _ k x refl short is)

get-left : {T : Type 0} (a b : List T) (i : ℕ) → i < length a → slice_get (a ++ b) i ≡ slice_get a i
get-left [] b i h = absurd (omega arith)
get-left (x ∷ a) b zero h = refl
get-left (x ∷ a) b (suc i) h = get-left a b i (omega arith)

get-right : {T : Type 0} (a b : List T) (i : ℕ) → slice_get (a ++ b) (length a + i) ≡ slice_get b i
get-right [] b i = ap (slice_get b) (zero-add i)
get-right (x ∷ a) b i = let step : length (x ∷ a) + i ≡ suc (length a + i) = omega arith in rw step (get-right a b i)

-- the item at a place stands in its block
pub read : {T : Type 0} (n : ℕ) (bs : List (List T)) (k i : ℕ) (b : List T) → IsFilled n bs → slice_get bs k ≡ Some b
    → i < length b → slice_get (joined bs) (1024 * k + i) ≡ slice_get b i
read n [] k i b h there short = absurd (none-some _ there)
read n (a ∷ bs) zero i b h there short =
    let place : 1024 * 0 + i ≡ i = omega arith in
    let same = same_Some _ _ there in
    rw (place, ← same) (get-left a (joined bs) i (rw same short))
read n (a ∷ bs) (suc k) i b h there short =
    let full : length a ≡ 1024 = omega (arith, h.0, short, length_at (n - 1024) bs k b h.1 there) in
    let place : 1024 * suc k + i ≡ length a + (1024 * k + i) = omega (arith, full) in
    rw place (get-right a (joined bs) (1024 * k + i) ∙ read (n - 1024) bs k i b h.1 there short)

-- ---- an item that goes to a place of the k-th block on

abbrev pub pending : {T : Type 0} → List (List T) → ℕ → ℕ → T → List T
pending bs zero place x = insert (joined bs) place x
pending [] (suc k) place x = x ∷ []
pending (b ∷ bs) (suc k) place x = b ++ pending bs k place x

-- the items as they are to be, while one of them goes to a place of the k-th block
pub record IsOnTheWay {T : Type 0} (goal : List T) (n : ℕ) (blocks : List (List T)) (capacities : List ℕ) (k place : ℕ)
    (x : T) : Type 0 where
  pub becomes : pending blocks k place x ≡ goal
  pub lie : IsInBlocks n blocks capacities
  pub room : n < 1024 * length blocks
  pub begun : 1024 * k + place ≤ n
  pub within : place < 1024

pub at_first : {T : Type 0} (n : ℕ) (bs : List (List T)) (k i : ℕ) (x : T) → IsFilled n bs → 1024 * k + i ≤ n
    → pending bs k i x ≡ insert (joined bs) (1024 * k + i) x
at_first n bs zero i x h within = let place : 1024 * 0 + i ≡ i = omega arith in rw place refl
at_first n [] (suc k) i x h within = absurd (omega (arith, h))
at_first n (b ∷ bs) (suc k) i x h within =
    let full : length b ≡ 1024 = omega (arith, h.0) in
    let place : 1024 * suc k + i - 1024 ≡ 1024 * k + i = omega arith in
    rw (insert-append_right b (joined bs) 1024 (1024 * suc k + i) x full (omega arith), place)
    (ap (λ l. b ++ l) (at_first (n - 1024) bs k i x h.1 (omega arith)))

-- through a full block, whose last item goes on to the next
pub passed : {T : Type 0} (bs : List (List T)) (k i : ℕ) (x last : T) (b c : List T) → slice_get bs k ≡ Some b
    → i ≤ length b → c ++ last ∷ [] ≡ insert b i x → pending (set bs k c) (suc k) 0 last ≡ pending bs k i x
passed [] k i x last b c there within put = absurd (none-some _ there)
passed (a ∷ bs) zero i x last b c there within put =
    let same = same_Some _ _ there in
    rw (same, insert-append_left b (joined bs) i x within, ← put) (sym (append_assoc c (last ∷ []) (joined bs)))
passed (a ∷ bs) (suc k) i x last b c there within put = ap (λ l. a ++ l) (passed bs k i x last b c there within put)

-- into the block that has room
pub arrived : {T : Type 0} (bs : List (List T)) (k i : ℕ) (x : T) (b c : List T) → slice_get bs k ≡ Some b
    → i ≤ length b → c ≡ insert b i x → joined (set bs k c) ≡ pending bs k i x
arrived [] k i x b c there within put = absurd (none-some _ there)
arrived (a ∷ bs) zero i x b c there within put = rw (same_Some _ _ there, put) (sym (insert-append_left b (joined bs) i x within))
arrived (a ∷ bs) (suc k) i x b c there within put = ap (λ l. a ++ l) (arrived bs k i x b c there within put)

-- ---- what stays

pub filled_as_before : {T : Type 0} (n : ℕ) (bs : List (List T)) (k : ℕ) (b c : List T) → IsFilled n bs
    → slice_get bs k ≡ Some b → length c ≡ length b → IsFilled n (set bs k c)
filled_as_before n [] k b c h there same = h
filled_as_before n (a ∷ bs) zero b c h there same = (same ∙ ap length (sym (same_Some _ _ there)) ∙ h.0, h.1)
filled_as_before n (a ∷ bs) (suc k) b c h there same = (h.0, filled_as_before (n - 1024) bs k b c h.1 there same)

pub one_more : {T : Type 0} (n : ℕ) (bs : List (List T)) (k : ℕ) (b c : List T) → IsFilled n bs
    → slice_get bs k ≡ Some b → 1024 * k ≤ n → length b < 1024 → length c ≡ length b + 1 → IsFilled (n + 1) (set bs k c)
one_more n [] k b c h there begun short more = absurd (none-some _ there)
one_more n (a ∷ bs) zero b c h there begun short more =
    let len : length b ≡ min n 1024 = rw (← same_Some _ _ there) h.0 in
    let rest : n - 1024 ≡ n + 1 - 1024 = omega (arith, len, short) in
    (omega (arith, more, len, short), subst (λ m. IsFilled m bs) rest h.1)
one_more n (a ∷ bs) (suc k) b c h there begun short more =
    let rest : n - 1024 + 1 ≡ n + 1 - 1024 = omega (arith, begun) in (
      omega (arith, h.0, begun),
      subst (λ m. IsFilled m (set bs k c)) rest (one_more (n - 1024) bs k b c h.1 there (omega arith) short more),
    )

-- an empty block more
block_more : {T : Type 0} (n : ℕ) (bs : List (List T)) → IsFilled n bs → IsFilled n (bs ++ [] ∷ [])
block_more n [] h = (omega (arith, h), omega (arith, h))
block_more n (b ∷ bs) h = (h.0, block_more (n - 1024) bs h.1)

joined_more : {T : Type 0} (bs : List (List T)) → joined (bs ++ [] ∷ []) ≡ joined bs
joined_more [] = refl
joined_more (b ∷ bs) = ap (λ l. b ++ l) (joined_more bs)

pub each_set : (P : ℕ → Type 0) (l : List ℕ) (i x : ℕ) → Each P l → P x → Each P (set l i x)
each_set P [] i x all p = tt
each_set P (y ∷ l) zero x all p = (p, all.1)
each_set P (y ∷ l) (suc i) x all p = (all.0, each_set P l i x all.1 p)

pub each_at : (P : ℕ → Type 0) (l : List ℕ) (i x : ℕ) → Each P l → slice_get l i ≡ Some x → P x
each_at P [] i x all there = absurd (none-some _ there)
each_at P (y ∷ l) zero x all there = subst P (same_Some _ _ there) all.0
each_at P (y ∷ l) (suc i) x all there = each_at P l i x all.1 there

-- another block of the same size
pub same_sizes : {X : Type 0} (capacity : X → ℕ) (xs : List X) (k : ℕ) (b c : X) → k < length xs → b ≡ get_or xs k b
    → capacity c ≡ capacity b → map capacity (set xs k c) ≡ map capacity xs
same_sizes capacity [] k b c short is same = absurd (omega arith)
same_sizes capacity (x ∷ xs) zero b c short is same = ap (λ n. n ∷ map capacity xs) (same ∙ ap capacity is)
same_sizes capacity (x ∷ xs) (suc k) b c short is same =
    ap (λ l. capacity x ∷ l) (same_sizes capacity xs k b c (omega arith) is same)

-- ---- one step of the way, in a list of blocks

module _ {X T : Type 0} (items : X → List T) (capacity : X → ℕ) (goal : List T) (n : ℕ) (xs : List X) (k place : ℕ)
    (x : T) (way : IsOnTheWay goal n (map items xs) (map capacity xs) k place x) where
  -- there is such a block
  pub is_block : k < length xs
  is_block = omega (arith, way.room, way.begun, length-map xs items)

  module _ (b : X) (is : b ≡ get_or xs k b) where
    here : slice_get (map items xs) k ≡ Some (items b)
    here = there items xs k b is_block is

    pub len : length (items b) ≡ min (n - 1024 * k) 1024
    len = length_at n (map items xs) k (items b) way.lie.filled here

    pub fits_in : place ≤ length (items b)
    fits_in = omega (arith, len, way.begun, way.within)

    pub roomy : 1024 ≤ capacity b
    roomy =
        each_at (λ c. 1024 ≤ c) (map capacity xs) k (capacity b) way.lie.roomy
        (slice_get-map capacity xs k ∙ ap (option_map capacity) (slice_get_read xs _ k b refl is_block is))

    module _ (c : X) (same_size : capacity c ≡ capacity b) where
      few : length (set (map items xs) k (items c)) ≤ 2 ^ 22
      few = rw (length-set (map items xs) k (items c)) way.lie.few

      roomy_still : Each (λ c. 1024 ≤ c) (set (map capacity xs) k (capacity c))
      roomy_still = each_set (λ c. 1024 ≤ c) (map capacity xs) k (capacity c) way.lie.roomy (omega (arith, roomy, same_size))

      pub sizes_stay : map capacity (set xs k c) ≡ map capacity xs
      sizes_stay = same_sizes capacity xs k b c is_block is same_size

      pub through : (last : T) → length (items b) ≡ 1024 → items c ++ last ∷ [] ≡ insert (items b) place x
          → IsOnTheWay goal n (map items (set xs k c)) (map capacity (set xs k c)) (k + 1) 0 last
      through last full put =
          let same : length (items c) ≡ length (items b) =
          omega (
            arith,
            ap length put,
            length-append (items c) (last ∷ []),
            length-insert (items b) place x fits_in,
          ) in
          rw (map-set items xs k c, map-set capacity xs k c, add-one) (record {
            becomes = passed (map items xs) k place x last (items b) (items c) here fits_in put ∙ way.becomes;
            lie = record {
              filled = filled_as_before n (map items xs) k (items b) (items c) way.lie.filled here same;
              roomy = roomy_still;
              few = few;
            };
            room = rw (length-set (map items xs) k (items c)) way.room;
            begun = omega (arith, len, full);
            within = omega arith;
          })

      pub put_in : items c ≡ insert (items b) place x → joined (map items (set xs k c)) ≡ goal
      put_in put = rw (map-set items xs k c) (arrived (map items xs) k place x (items b) (items c) here fits_in put ∙ way.becomes)

      pub lie_still : length (items b) < 1024 → items c ≡ insert (items b) place x
          → IsInBlocks (n + 1) (map items (set xs k c)) (map capacity (set xs k c))
      lie_still short put =
          let more : length (items c) ≡ length (items b) + 1 = ap length put ∙ length-insert (items b) place x fits_in in
          rw (map-set items xs k c, map-set capacity xs k c) (record {
            filled = one_more n (map items xs) k (items b) (items c) way.lie.filled here (omega (arith, way.begun)) short more;
            roomy = roomy_still;
            few = few;
          })

-- ---- the item at a place

-- another item at a place of the k-th block
joined-set : {T : Type 0} (n : ℕ) (bs : List (List T)) (k i : ℕ) (b : List T) (x : T) → IsFilled n bs
    → slice_get bs k ≡ Some b → i < length b → joined (set bs k (set b i x)) ≡ set (joined bs) (1024 * k + i) x
joined-set n [] k i b x h there short = absurd (none-some _ there)
joined-set n (a ∷ bs) zero i b x h there short =
    let place : 1024 * 0 + i ≡ i = omega arith in
    rw (place, same_Some _ _ there) (sym (set-append_left b (joined bs) i x short))
joined-set n (a ∷ bs) (suc k) i b x h there short =
    let full : length a ≡ 1024 = omega (arith, h.0, short, length_at (n - 1024) bs k b h.1 there) in
    let place : 1024 * suc k + i - 1024 ≡ 1024 * k + i = omega arith in
    rw (set-append_right a (joined bs) 1024 (1024 * suc k + i) x full (omega arith), place)
    (ap (λ l. a ++ l) (joined-set (n - 1024) bs k i b x h.1 there short))

module _ {X T : Type 0} (items : X → List T) (capacity : X → ℕ) (n : ℕ) (xs : List X) (place : ℕ)
    (lie : IsInBlocks n (map items xs) (map capacity xs)) (short : place < length (joined (map items xs))) where
  -- its block
  pub is_index : place / 1024 < length xs
  is_index =
      omega (
        arith,
        short,
        length-joined n (map items xs) lie.filled,
        fits n (map items xs) lie.filled,
        length-map xs items,
      )

  module _ (b : X) (is : b ≡ get_or xs (place / 1024) b) where
    block : slice_get (map items xs) (place / 1024) ≡ Some (items b)
    block = there items xs (place / 1024) b is_index is

    -- and its place there
    pub is_within : place % 1024 < length (items b)
    is_within =
        omega (
          arith,
          short,
          length-joined n (map items xs) lie.filled,
          length_at n (map items xs) (place / 1024) (items b) lie.filled block,
        )

    whole : 1024 * (place / 1024) + place % 1024 ≡ place
    whole = omega arith

    pub found : (x : T) → x ≡ get_or (items b) (place % 1024) x → slice_get (joined (map items xs)) place ≡ Some x
    found x read_there =
        subst (λ p. slice_get (joined (map items xs)) p ≡ Some x) whole
        (read n (map items xs) _ _ (items b) lie.filled block is_within
        ∙ slice_get_read (items b) _ _ x refl is_within read_there)

    -- another item there
    module _ (c : X) (x : T) (put : items c ≡ set (items b) (place % 1024) x) where
      pub set_there : joined (map items (set xs (place / 1024) c)) ≡ set (joined (map items xs)) place x
      set_there =
          rw (map-set items xs (place / 1024) c, put)
          (joined-set n (map items xs) _ _ (items b) x lie.filled block is_within
          ∙ ap (λ p. set (joined (map items xs)) p x) whole)

      pub lie_as_before : capacity c ≡ capacity b
          → IsInBlocks n (map items (set xs (place / 1024) c)) (map capacity (set xs (place / 1024) c))
      lie_as_before same =
          let wide : 1024 ≤ capacity b =
          each_at (λ c. 1024 ≤ c) (map capacity xs) (place / 1024) (capacity b) lie.roomy
          (slice_get-map capacity xs (place / 1024)
          ∙ ap (option_map capacity) (slice_get_read xs _ _ b refl is_index is)) in
          rw (map-set items xs (place / 1024) c, map-set capacity xs (place / 1024) c) (record {
            filled =
                filled_as_before n (map items xs) (place / 1024) (items b) (items c) lie.filled block
                (ap length put ∙ length-set (items b) (place % 1024) x);
            roomy = each_set (λ c. 1024 ≤ c) (map capacity xs) (place / 1024) (capacity c) lie.roomy (omega (arith, wide, same));
            few = rw (length-set (map items xs) (place / 1024) (items c)) lie.few;
          })

-- ---- a block more

each_more : (P : ℕ → Type 0) (l : List ℕ) (x : ℕ) → Each P l → P x → Each P (l ++ x ∷ [])
each_more P [] x all p = (p, tt)
each_more P (y ∷ l) x all p = (all.0, each_more P l x all.1 p)

pub lie_in_more : {X T : Type 0} (items : X → List T) (capacity : X → ℕ) (n : ℕ) (xs : List X) (b : X)
    → IsInBlocks n (map items xs) (map capacity xs) → length xs < 2 ^ 22 → items b ≡ [] → 1024 ≤ capacity b
    → IsInBlocks n (map items (xs ++ b ∷ [])) (map capacity (xs ++ b ∷ []))
    × (joined (map items (xs ++ b ∷ [])) ≡ joined (map items xs))
lie_in_more items capacity n xs b lie few empty wide =
    rw (map-append items xs (b ∷ []), map-append capacity xs (b ∷ []), empty) (
      record {
        filled = block_more n (map items xs) lie.filled;
        roomy = each_more (λ c. 1024 ≤ c) (map capacity xs) (capacity b) lie.roomy wide;
        few = omega (arith, few, length-append (map items xs) ([] ∷ []), length-map xs items);
      },
      joined_more (map items xs),
    )
