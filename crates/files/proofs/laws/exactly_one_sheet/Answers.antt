use Rattle.std.proofs.Common.{bytes_eq}
use Rattle.files.proofs.OneSheet.{one_sheet, some_sheet}
use Rattle.files.proofs.laws.exactly_one_sheet.Goals as goal

pub returns-clause-branch : goal.returns-clause-branch
returns-clause-branch c A branch good = some_sheet (λ f. bytes_eq f.branch branch) (λ v. v.article) A good

pub returns-clause-article : goal.returns-clause-article
returns-clause-article c A article good = some_sheet (λ f. bytes_eq f.article article) (λ v. v.branch) A good

pub returns-clause-one_of_branch : goal.returns-clause-one_of_branch
returns-clause-one_of_branch c A branch one other h k = one_sheet (λ f. bytes_eq f.branch branch) (λ v. v.article) A one other h k

pub returns-clause-one_of_article : goal.returns-clause-one_of_article
returns-clause-one_of_article c A article one other h k =
    one_sheet (λ f. bytes_eq f.article article) (λ v. v.branch) A one other h k
