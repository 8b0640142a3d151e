-- The records that a reader has given so far, where its bytes are known, and those that are still to come.
use Rattle.std.proofs.Common.{◌≡◌, ◌≤◌, ◌-◌, ℕ, zero, suc, List, [], ◌∷◌, ◌++◌, length, Option, Some, None, refl, subst}
use Rattle.std.proofs.Common.{arith, IfSome, true, false, Bool, if◌then◌else◌}
use Rattle.std.specs.Prelude.{option_map}
use Rattle.csv.specs.Machine.{Read, ends_at_end, field_after, fields_after, is_end, next_record, step}
use Rattle.csv.specs.Reading.{AreRecords, Reached, ReadRecord, default_config, source_of, strip_bom}
use Rattle.csv.specs.declared.parser.Config.{Config}
use Rattle.csv.specs.declared.parser.State.{State}
use Rattle.csv.specs.declared.parser.State.TheVariants as st
use Rattle.csv.specs.declared.reader.Reader.{Reader}
use Rattle.csv.proofs.ReadFacts.{rows-end, rows-more}
use Rattle.files.specs.Files.{AreRecordsOf, Record}

-- ---- every text has its records

-- the bytes behind a record are fewer than those before it; at the end there are none
shorter : (cfg : Config) (s : State) (fields : List (List ℕ)) (field xs : List ℕ) (p : Read)
    → next_record cfg s fields field xs ≡ Some p → length p.2 ≤ length xs - 1
unfolding next_record
shorter cfg s fields field [] p e = at_end (ends_at_end s) e
  where
    at_end : (b : Bool) → (if b then Some (fields ++ (field ∷ []), st.StartRecord, []) else None) ≡ Some p
        → length p.2 ≤ length {A = ℕ} [] - 1
    at_end true h =
        let same : ◌≡◌ {A = Read} (fields ++ (field ∷ []), st.StartRecord, []) p = cc in
        subst (λ (q : Read). length q.2 ≤ length {A = ℕ} [] - 1) same (omega arith)
    at_end false h = absurd (cc)
shorter cfg s fields field (c ∷ rest) p e =
    at_byte (is_end (step cfg s c).1) e
    (shorter cfg (step cfg s c).0 (fields_after (step cfg s c).1 fields field) (field_after (step cfg s c).1 c field) rest p)
  where
    at_byte : (b : Bool)
        → (if b then Some (fields_after (step cfg s c).1 fields field, (step cfg s c).0, rest)
        else next_record cfg (step cfg s c).0 (fields_after (step cfg s c).1 fields field)
        (field_after (step cfg s c).1 c field) rest) ≡ Some p
        → (next_record cfg (step cfg s c).0 (fields_after (step cfg s c).1 fields field)
        (field_after (step cfg s c).1 c field) rest ≡ Some p → length p.2 ≤ length rest - 1)
        → length p.2 ≤ length (c ∷ rest) - 1
    at_byte true h more =
        let same : ◌≡◌ {A = Read} (fields_after (step cfg s c).1 fields field, (step cfg s c).0, rest) p = cc in
        subst (λ (q : Read). length q.2 ≤ length (c ∷ rest) - 1) same (omega arith)
    at_byte false h more = let less = more h in omega arith

-- a record more in front
behind : (cfg : Config) (s : State) (xs : List ℕ) (p : Read) → next_record cfg s [] [] xs ≡ Some p
    → (rows : List Record) × AreRecords cfg p.1 p.2 rows → (rows : List Record) × AreRecords cfg s xs rows
unfolding Reached
behind cfg s xs p e (rows, (s2, ys, reached, ends)) = (p.0 ∷ rows, (s2, ys, (p, e, refl, reached), ends))

-- no record more
ended : (cfg : Config) (s : State) (xs : List ℕ) → next_record cfg s [] [] xs ≡ None
    → (rows : List Record) × AreRecords cfg s xs rows
unfolding Reached
ended cfg s xs e = ([], (s, xs, (refl, refl), e))

-- where there are no bytes
at_no_bytes : (cfg : Config) (s : State) → (rows : List Record) × AreRecords cfg s [] rows
unfolding next_record Reached
at_no_bytes cfg s = by (ends_at_end s) refl
  where
    by : (b : Bool) → ends_at_end s ≡ b → (rows : List Record) × AreRecords cfg s [] rows
    by true e = (([] ∷ []) ∷ [], (st.StartRecord, [], (([] ∷ [], st.StartRecord, []), rw e refl, refl, (refl, refl)), refl))
    by false e = ([], (s, [], (refl, refl), rw e refl))

some_records_in : (n : ℕ) (cfg : Config) (s : State) (xs : List ℕ) → length xs ≤ n
    → (rows : List Record) × AreRecords cfg s xs rows
some_records_in n cfg s [] h = at_no_bytes cfg s
some_records_in zero cfg s (x ∷ xs) h = absurd (omega arith)
some_records_in (suc n) cfg s (x ∷ xs) h =
    by (next_record cfg s [] [] (x ∷ xs)) refl (λ t ys fits. some_records_in n cfg t ys fits)
  where
    by : (r : Option Read) → next_record cfg s [] [] (x ∷ xs) ≡ r
        → ((t : State) (ys : List ℕ) → length ys ≤ n → (rows : List Record) × AreRecords cfg t ys rows)
        → (rows : List Record) × AreRecords cfg s (x ∷ xs) rows
    by None e more = ended cfg s (x ∷ xs) e
    by (Some p) e more = let less = shorter cfg s [] [] (x ∷ xs) p e in behind cfg s (x ∷ xs) p e (more p.1 p.2 (omega arith))

-- from any state there are records to the end
some_records : (cfg : Config) (s : State) (xs : List ℕ) → (rows : List Record) × AreRecords cfg s xs rows
some_records cfg s xs = some_records_in (length xs) cfg s xs (omega arith)

pub some_records_of : (bytes : List ℕ) → (records : List Record) × AreRecordsOf bytes records
some_records_of bytes = some_records default_config st.StartRecord (strip_bom bytes)

-- the records so far, and those behind them
joined : (cfg : Config) (s : State) (xs : List ℕ) (before after : List Record) (t : State) (ys : List ℕ)
    → Reached cfg s xs before t ys → AreRecords cfg t ys after → AreRecords cfg s xs (before ++ after)
unfolding Reached
joined cfg s xs [] after t ys h (s2, zs, reached, ends) = (s2, zs, rw (h.0, h.1) reached, ends)
joined cfg s xs (r ∷ rs) after t ys (p, e, first, more) h =
    let (s2, zs, reached, ends) = joined cfg p.1 p.2 rs after t ys more h in
    (s2, zs, (p, e, first, reached), ends)

-- ---- a reader among its records

-- P holds of the records that it has given
abbrev pub Gave : Option (List ℕ) → Option (List ℕ) → State → (List Record → Type 0) → Type 0
Gave known source s P =
    IfSome known (λ bytes.
    (records : List Record) × (y : List ℕ) × (source ≡ Some y)
    × Reached default_config st.StartRecord (strip_bom bytes) records s y × P records)

pub gave_none : (known source : Option (List ℕ)) (s : State) (P : List Record → Type 0)
    → source ≡ option_map strip_bom known → st.StartRecord ≡ s → P [] → Gave known source s P
unfolding Reached
gave_none None source s P e f h = tt
gave_none (Some bytes) source s P e f h = ([], strip_bom bytes, e, (f, refl), h)

pub gave_more : {R : Type 0} (rem : R → Option (List ℕ)) (a b : Reader R) (row : Record) (known : Option (List ℕ))
    (P Q : List Record → Type 0)
    → a.config ≡ default_config → Gave known (source_of rem a) a.state P → ReadRecord rem a b true row
    → ((records : List Record) → P records → Q (records ++ row ∷ [])) → Gave known (source_of rem b) b.state Q
gave_more rem a b row None P Q ec h r step = tt
gave_more rem a b row (Some bytes) P Q ec (records, y, source, reached, holds) r step =
    let (z, next, all) = rows-more rem a b row default_config st.StartRecord (strip_bom bytes) y records ec source reached r in
    (records ++ row ∷ [], z, next, all, step records holds)

-- it has given all records
pub gave_all : {R : Type 0} (rem : R → Option (List ℕ)) (a b : Reader R) (row : Record) (known : Option (List ℕ))
    (P : List Record → Type 0)
    → a.config ≡ default_config → Gave known (source_of rem a) a.state P → ReadRecord rem a b false row
    → IfSome known (λ bytes. (records : List Record) × AreRecordsOf bytes records × P records)
gave_all rem a b row None P ec h r = tt
gave_all rem a b row (Some bytes) P ec (records, y, source, reached, holds) r =
    (records, (a.state, y, reached, rows-end rem a b row default_config y ec source r), holds)

-- what it has given stands in front of all records
pub gave_front : (known source : Option (List ℕ)) (s : State) (P : List Record → Type 0) → Gave known source s P
    → IfSome known (λ bytes. (records : List Record) × (after : List Record) × AreRecordsOf bytes (records ++ after) × P records)
gave_front None source s P h = tt
gave_front (Some bytes) source s P (records, y, e, reached, holds) =
    let (after, rest) = some_records default_config s y in
    (records, after, joined default_config st.StartRecord (strip_bom bytes) records after s y reached rest, holds)
