use Rattle.std.proofs.Common.{bytes_eq}
use Rattle.files.proofs.Columns.{articles_short, branches_short, sheet_len}
use Rattle.files.proofs.laws.sheets_keep_their_columns.Goals as goal

pub returns-clause-branch : goal.returns-clause-branch
returns-clause-branch c A branch text good sheet =
    sheet_len (λ f. bytes_eq f.branch branch) (λ v. v.article) A text good (articles_short A) sheet

pub returns-clause-article : goal.returns-clause-article
returns-clause-article c A article text good sheet =
    sheet_len (λ f. bytes_eq f.article article) (λ v. v.branch) A text good (branches_short A) sheet
