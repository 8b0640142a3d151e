-- A file has one reading: its records are one list, and what these say is one list of requests.
use Rattle.std.proofs.Common.{◌≡◌, ◌∙◌, ◌<◌, ℕ, List, [], ◌∷◌, ◌++◌, Option, None, Some, length, ap, append_assoc}
use Rattle.std.proofs.Common.{arith, inl, inr, refl, subst, sym}
use Rattle.csv.specs.Machine.{Read, next_record}
use Rattle.csv.specs.Reading.{AreRecords, Reached, default_config, strip_bom}
use Rattle.csv.specs.declared.parser.Config.{Config}
use Rattle.csv.specs.declared.parser.State.{State}
use Rattle.csv.specs.declared.parser.State.TheVariants as st
use Rattle.words.specs.declared.command.Request.{Request}
use Rattle.files.specs.Files.{AreRecordsOf, Breaks, IsFile, IsFirstBad, IsFirstBadRow, NamesFirst, Record, SaysOneThing}
use Rattle.files.specs.declared.fault.FileFault.TheVariants.{BadRecord}

-- ---- the records of a text are one list

not_both : {X : Type 0} (o : Option X) (x : X) → o ≡ None → o ≡ Some x → ⊥
not_both o x e f = absurd (cc)

one_list_from : (cfg : Config) (s : State) (xs : List ℕ) (rows others : List Record) → AreRecords cfg s xs rows
    → AreRecords cfg s xs others → rows ≡ others
unfolding Reached
one_list_from cfg s xs [] [] h k = refl
one_list_from cfg s xs [] (r ∷ rs) (s2, ys, (same, rest), ends) (t2, zs, (p, e, first, more), done) =
    absurd (not_both (next_record cfg s [] [] xs) p (rw (same, rest) ends) e)
one_list_from cfg s xs (r ∷ rs) [] (s2, ys, (p, e, first, more), done) (t2, zs, (same, rest), ends) =
    absurd (not_both (next_record cfg s [] [] xs) p (rw (same, rest) ends) e)
one_list_from cfg s xs (r ∷ rs) (q ∷ qs) (s2, ys, (p, e, first, more), done) (t2, zs, (p2, e2, first2, more2), done2) =
    let same : p2 ≡ p = cc in
    let tail =
    one_list_from cfg p.1 p.2 rs qs (s2, ys, more, done)
    (t2, zs, subst (λ (x : Read). Reached cfg x.1 x.2 qs t2 zs) same more2, done2) in
    let head : r ≡ q = first ∙ ap (λ (x : Read). x.0) (sym same) ∙ sym first2 in
    ap (λ x. x ∷ rs) head ∙ ap (λ l. q ∷ l) tail

one_list : (bytes : List ℕ) (rows others : List Record) → AreRecordsOf bytes rows → AreRecordsOf bytes others → rows ≡ others
one_list bytes rows others h k = one_list_from default_config st.StartRecord (strip_bom bytes) rows others h k

-- ---- from a kind of file to its files

-- what records say is one list, and records in front of others say something where all do
pub record SaysOne (says : List Record → List Request → Type 0) : Type 0 where
  pub one : (rows : List Record) (xs ys : List Request) → says rows xs → says rows ys → xs ≡ ys
  pub front : (rows behind : List Record) (xs : List Request) → says (rows ++ behind) xs → (ys : List Request) × says rows ys

one_file : (header : Record) (says : List Record → List Request → Type 0) → SaysOne says
    → (bytes : List ℕ) (xs ys : List Request) → IsFile header says bytes xs → IsFile header says bytes ys → xs ≡ ys
one_file header says kind bytes xs ys h k =
    let same : header ∷ h.rows ≡ header ∷ k.rows = one_list bytes (header ∷ h.rows) (header ∷ k.rows) h.records k.records in
    let rows : h.rows ≡ k.rows = cc in
    kind.one k.rows xs ys (subst (λ r. says r xs) rows h.said) k.said

-- rows of which some say nothing say nothing
broken : (says : List Record → List Request → Type 0) → SaysOne says
    → (rows behind : List Record) (row : Record) (xs : List Request) → Breaks says rows row
    → says (rows ++ row ∷ behind) xs → ⊥
broken says kind rows behind row xs breaks h =
    let whole = subst (λ l. says l xs) (sym (append_assoc rows (row ∷ []) behind)) h in
    let (ys, said) = kind.front (rows ++ row ∷ []) behind xs whole in
    breaks.fault ys said

not_both_of_file : (header : Record) (says : List Record → List Request → Type 0) → SaysOne says
    → (bytes : List ℕ) (xs : List Request) (number : ℕ) → IsFile header says bytes xs
    → NamesFirst header says bytes (BadRecord number) → ⊥
not_both_of_file header says kind bytes xs number h (records, all, bad) =
    by records (one_list bytes records (header ∷ h.rows) all h.records) bad
  where
    by : (records : List Record) → records ≡ header ∷ h.rows → IsFirstBad header says records number → ⊥
    by [] e bad = absurd (cc)
    by (r ∷ rs) e (inl (other, at)) = let same : r ≡ header = cc in other same
    by (r ∷ rs) e (inr (same, bad)) =
        let rows : h.rows ≡ rs = cc in
        broken says kind bad.before bad.after bad.row xs bad.breaks (subst (λ l. says l xs) (rows ∙ bad.split) h.said)

-- the second of two places at fault says nothing before it
ordered : (says : List Record → List Request → Type 0) → SaysOne says → (rows : List Record) (m n : ℕ)
    → IsFirstBadRow says rows m → IsFirstBadRow says rows n → m < n → ⊥
ordered says kind rows m n h k less =
    let e : h.before ++ h.row ∷ h.after ≡ k.before ++ k.row ∷ k.after = sym h.split ∙ k.split in
    let (more, longer) =
    split_at h.before k.before (h.row) (h.after) (k.row ∷ k.after) e
    (let a = h.place in let b = k.place in omega arith) in
    broken says kind h.before more h.row k.breaks.requests h.breaks (subst (λ l. says l k.breaks.requests) longer k.breaks.so_far)
  where
    split_at : (xs ys : List Record) (x : Record) (zs ws : List Record) → xs ++ x ∷ zs ≡ ys ++ ws
        → length xs < length ys → (more : List Record) × (ys ≡ xs ++ x ∷ more)
    split_at xs [] x zs ws e less = absurd (omega arith)
    split_at [] (y ∷ ys) x zs ws e less = (ys, let same : x ≡ y = cc in ap (λ a. a ∷ ys) (sym same))
    split_at (a ∷ xs) (y ∷ ys) x zs ws e less =
        let head : a ≡ y = cc in
        let tail : xs ++ x ∷ zs ≡ ys ++ ws = cc in
        let (more, longer) = split_at xs ys x zs ws tail (omega arith) in
        (more, ap (λ b. b ∷ ys) (sym head) ∙ ap (λ l. a ∷ l) longer)

neither_less : (m n : ℕ) → (m < n → ⊥) → (n < m → ⊥) → m ≡ n
neither_less m n h k = omega arith

one_number : (header : Record) (says : List Record → List Request → Type 0) → SaysOne says → (bytes : List ℕ) (m n : ℕ)
    → NamesFirst header says bytes (BadRecord m) → NamesFirst header says bytes (BadRecord n) → m ≡ n
one_number header says kind bytes m n (records, all, bad) (others, all2, bad2) =
    by records bad (subst (λ l. IsFirstBad header says l n) (sym (one_list bytes records others all all2)) bad2)
  where
    by : (records : List Record) → IsFirstBad header says records m → IsFirstBad header says records n → m ≡ n
    by [] h k = h ∙ sym k
    by (r ∷ rs) (inl h) (inl k) = h.1 ∙ sym k.1
    by (r ∷ rs) (inl h) (inr k) = absurd (h.0 k.0)
    by (r ∷ rs) (inr h) (inl k) = absurd (k.0 h.0)
    by (r ∷ rs) (inr h) (inr k) =
        neither_less m n (λ less. ordered says kind rs m n h.1 k.1 less) (λ less. ordered says kind rs n m k.1 h.1 less)

pub says_one_thing : (header : Record) (says : List Record → List Request → Type 0) → SaysOne says → SaysOneThing header says
says_one_thing header says one = record {
  requests = one_file header says one;
  number = one_number header says one;
  apart = not_both_of_file header says one;
}
