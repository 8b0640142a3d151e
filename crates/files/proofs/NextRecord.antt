-- A record more of a file that has begun: the header, or a row behind it.
use Rattle.std.proofs.Common.{◌≡◌, ◌≢◌, ◌⊎◌, ◌∙◌, ◌≤◌, ℕ, List, [], ◌∷◌, ◌++◌, length, Option, None, Some, IfSome, ap}
use Rattle.std.proofs.Common.{append_assoc, arith, inl, inr, refl, subst, sym}
use Rattle.words.specs.declared.command.Request.{Request}
use Rattle.files.specs.Files.{AreRecordsOf, BeginsFile, Breaks, FaultsAt, IsFile, NamesFirst, Record}
use Rattle.files.specs.declared.fault.FileFault.{FileFault}
use Rattle.files.specs.declared.fault.FileFault.TheVariants.{BadRecord, Io, Memory}
use Rattle.files.proofs.RecordsSoFar.{some_records_of}

-- ---- the first record

pub header_taken : (header : Record) (holds : List Record → Type 0) (fields : Record) (records : List Record)
    → length records ≡ 0 → fields ≡ header → BeginsFile header holds records
    → BeginsFile header holds (records ++ fields ∷ [])
header_taken header holds fields [] n e h = (e, h)
header_taken header holds fields (r ∷ rs) n e h = absurd (omega arith)

pub header_bad : (header : Record) (says : List Record → List Request → Type 0) (fields : Record)
    (records : List Record) → length records ≡ 0 → fields ≢ header
    → FaultsAt header says (records ++ fields ∷ []) (BadRecord 0)
header_bad header says fields [] n e = inl (e, refl)
header_bad header says fields (r ∷ rs) n e = absurd (omega arith)

-- ---- a row behind it

pub row_taken : (header : Record) (old new : List Record → Type 0) (fields : Record) (records : List Record)
    → 1 ≤ length records → ((rows : List Record) → old rows → new (rows ++ fields ∷ [])) → BeginsFile header old records
    → BeginsFile header new (records ++ fields ∷ [])
row_taken header old new fields [] n step h = absurd (omega arith)
row_taken header old new fields (r ∷ rs) n step h = (h.0, step rs h.1)

pub row_bad : (header : Record) (holds : List Record → Type 0) (says : List Record → List Request → Type 0)
    (fields : Record) (records : List Record) (number : ℕ) → length records ≡ number → 1 ≤ number
    → ((rows : List Record) → holds rows → Breaks says rows fields) → BeginsFile header holds records
    → FaultsAt header says (records ++ fields ∷ []) (BadRecord number)
row_bad header holds says fields [] number n some breaks h = absurd (omega arith)
row_bad header holds says fields (r ∷ rs) number n some breaks h =
    inr (h.0, record { before = rs; row = fields; after = []; split = refl; place = sym n; breaks = breaks rs h.1 })

-- ---- the whole text

-- a fault that is found in the first records is that of all
pub faults_more : (header : Record) (says : List Record → List Request → Type 0) (records after : List Record)
    (fault : FileFault) → 1 ≤ length records → FaultsAt header says records fault
    → FaultsAt header says (records ++ after) fault
faults_more header says [] after (BadRecord number) some h = absurd (omega arith)
faults_more header says (r ∷ rs) after (BadRecord number) some (inl h) = inl h
faults_more header says (r ∷ rs) after (BadRecord number) some (inr (e, bad)) =
    inr (
      e,
      record {
        before = bad.before;
        row = bad.row;
        after = bad.after ++ after;
        split = ap (λ xs. xs ++ after) bad.split ∙ append_assoc bad.before (bad.row ∷ bad.after) after;
        place = bad.place;
        breaks = bad.breaks;
      },
    )
faults_more header says records after Memory some h = tt
faults_more header says records after Io some h = tt

-- a fault that names no record
pub names_none : (header : Record) (says : List Record → List Request → Type 0) (known : Option (List ℕ))
    (fault : FileFault) → (fault ≡ Memory) ⊎ (fault ≡ Io) → IfSome known (λ bytes. NamesFirst header says bytes fault)
names_none header says None fault h = tt
names_none header says (Some bytes) fault (inl e) =
    let (records, all) = some_records_of bytes in (records, all, subst (FaultsAt header says records) (sym e) tt)
names_none header says (Some bytes) fault (inr e) =
    let (records, all) = some_records_of bytes in (records, all, subst (FaultsAt header says records) (sym e) tt)

-- a fault among the records that were given names the first of the text
pub names_given : (header : Record) (says : List Record → List Request → Type 0) (known : Option (List ℕ)) (fault : FileFault)
    → IfSome known (λ bytes.
    (records : List Record) × (after : List Record) × AreRecordsOf bytes (records ++ after)
    × ((1 ≤ length records) × FaultsAt header says records fault))
    → IfSome known (λ bytes. NamesFirst header says bytes fault)
names_given header says None fault h = tt
names_given header says (Some bytes) fault (records, after, all, (some, faults)) =
    (records ++ after, all, faults_more header says records after fault some faults)

-- a text without records lacks the header
pub names_header : (header : Record) (holds : List Record → Type 0) (says : List Record → List Request → Type 0)
    (known : Option (List ℕ)) (number : ℕ) → number ≡ 0
    → IfSome known (λ bytes.
    (records : List Record) × AreRecordsOf bytes records
    × ((length records ≡ number) × BeginsFile header holds records))
    → IfSome known (λ bytes. NamesFirst header says bytes (BadRecord 0))
names_header header holds says None number z h = tt
names_header header holds says (Some bytes) number z ([], all, (n, begins)) = ([], all, refl)
names_header header holds says (Some bytes) number z (r ∷ rs, all, (n, begins)) = absurd (omega arith)

-- a whole file
pub whole_file : (header : Record) (holds : List Record → Type 0) (known : Option (List ℕ)) (number : ℕ) → 1 ≤ number
    → IfSome known (λ bytes.
    (records : List Record) × AreRecordsOf bytes records
    × ((length records ≡ number) × BeginsFile header holds records))
    → IfSome known (λ bytes. (rows : List Record) × AreRecordsOf bytes (header ∷ rows) × holds rows)
whole_file header holds None number some h = tt
whole_file header holds (Some bytes) number some ([], all, (n, begins)) = absurd (omega arith)
whole_file header holds (Some bytes) number some (r ∷ rs, all, (n, begins)) =
    (rs, subst (λ first. AreRecordsOf bytes (first ∷ rs)) begins.0 all, begins.1)

-- a file that says the requests of all that was taken in
pub file_of : (header : Record) (says : List Record → List Request → Type 0) (holds : List Record → Type 0)
    (requests : List Request) (known : Option (List ℕ)) → ((rows : List Record) → holds rows → says rows requests)
    → IfSome known (λ bytes. (rows : List Record) × AreRecordsOf bytes (header ∷ rows) × holds rows)
    → IfSome known (λ bytes. IsFile header says bytes requests)
file_of header says holds requests None step h = tt
file_of header says holds requests (Some bytes) step (rows, all, held) = record {
  rows = rows;
  records = all;
  said = step rows held;
}
