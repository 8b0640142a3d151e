-- Stock sheets: a line for each field, and the total.
use Rattle.std.specs.Prelude.{◌≡◌, ◌-◌, Bool, ℕ, List, ◌++◌, codes, decimal, filter, flat_map, length, replicate, sum_by}
use Rattle.std.specs.List.{AllZip}
use Rattle.std.specs.Str.{bytes_eq}
use Rattle.ledger.specs.Ledger.{Ledger, Name}
use Rattle.book.specs.Views.{ShowsField}
use Rattle.book.specs.declared.book.views.FieldView.{FieldView}
use Rattle.files.specs.declared.sheet.Shown.{Shown}
use Rattle.files.specs.declared.sheet.Shown.TheVariants.{OfArticle, OfBranch}

-- ---- columns

-- a text to the left in a column of this width, with spaces behind it
abbrev pub left : ℕ → List ℕ → List ℕ
left width text = text ++ replicate (width - length text) 32

-- a number to the right in a column of this width, with spaces before it
abbrev pub right : ℕ → ℕ → List ℕ
right width n = replicate (width - length (decimal n)) 32 ++ decimal n

-- a space, and a level to the right in 10 columns
abbrev pub level_column : ℕ → List ℕ
level_column n = codes " " ++ right 10 n

-- ---- lines

-- a title to the left in 16 columns, and the field's bounds, value, infimum and supremum
abbrev pub field_line : List ℕ → FieldView → List ℕ
field_line title v =
    left 16 title ++ level_column v.lo ++ level_column v.hi ++ level_column v.value ++ level_column v.inf
    ++ level_column v.sup ++ codes "\n"

-- the word `total` to the left in 16 columns, a space, and the total to the right in 14
abbrev pub total_line : ℕ → List ℕ
total_line n = left 16 (codes "total") ++ codes " " ++ right 14 n ++ codes "\n"

-- ---- sheets

-- the lines of the fields in their order, and the total of their values
abbrev pub sheet_text : (FieldView → List ℕ) → List FieldView → List ℕ
sheet_text title views = flat_map (λ v. field_line (title v) v) views ++ total_line (sum_by (λ v. v.value) views)

-- The text is the sheet of those fields, in the order of their names: each has a line, with its settled value, its
-- infimum and its supremum.
pub record IsSheet (is_shown : Name → Bool) (title : FieldView → List ℕ) (A : Ledger) (text : List ℕ) : Type 0 where
  pub views : List FieldView
  pub show : AllZip (ShowsField A) (filter (λ f. is_shown f.name) A.fields) views
  pub text_is : text ≡ sheet_text title views

-- the sheet of a branch, with its articles in front
abbrev pub IsBranchSheet : Ledger → List ℕ → List ℕ → Type 0
IsBranchSheet A branch text = IsSheet (λ f. bytes_eq f.branch branch) (λ v. v.article) A text

-- the sheet of an article, with its branches in front
abbrev pub IsArticleSheet : Ledger → List ℕ → List ℕ → Type 0
IsArticleSheet A article text = IsSheet (λ f. bytes_eq f.article article) (λ v. v.branch) A text

-- ---- what a sheet shows

-- whether a field is on the sheet
abbrev pub is_on : Shown → Name → Bool
is_on (OfBranch branch) f = bytes_eq f.branch branch
is_on (OfArticle article) f = bytes_eq f.article article

-- what stands in front in the field's line
abbrev pub title_of : Shown → FieldView → List ℕ
title_of (OfBranch branch) v = v.article
title_of (OfArticle article) v = v.branch
