use Rattle.std.proofs.Common.{◌∙◌, Option, None, Some, IfNone, ap, codes, sym}
use Rattle.web.specs.declared.route.Resource.TheVariants.{Article, Due, Field, Key, Open, Order, Sheet}
use Rattle.web.proofs.OneView.{no_view}
use Rattle.web.proofs.TargetText.{match_of}
use Rattle.web.proofs.target.view_of.Goals as goal

if_none : {A P : Type 0} (found : Option A) → P → IfNone found P
if_none None p = p
if_none (Some x) p = tt

pub returns-in_err-branch-in-Field-clause-none : goal.returns-in_err-branch-in-Field-clause-none
returns-in_err-branch-in-Field-clause-none c =
    let m = match_of _ _ c.in-Ok.found.params _ c.requires c.utf8.target c.in-Ok.ensures.found c.in-Ok.ensures.path in
    let none = c.in_err-branch-in-Field.ensures m.text in
    if_none _ (no_view _ Field (m.resource ∙ ap Some c.in-Field.is)
    (λ ((code, e, is), article). none code is (sym (m.part (codes "branch")) ∙ e)))

pub returns-in_err-article-in-Field-clause-none : goal.returns-in_err-article-in-Field-clause-none
returns-in_err-article-in-Field-clause-none c =
    let m = match_of _ _ c.in-Ok.found.params _ c.requires c.utf8.target c.in-Ok.ensures.found c.in-Ok.ensures.path in
    let none = c.in_err-article-in-Field.ensures m.text in
    if_none _ (no_view _ Field (m.resource ∙ ap Some c.in-Field.is)
    (λ (branch, (code, e, is)). none code is (sym (m.part (codes "article")) ∙ e)))

pub returns-in_err-order_of-in-Order-clause-none : goal.returns-in_err-order_of-in-Order-clause-none
returns-in_err-order_of-in-Order-clause-none c =
    let m = match_of _ _ c.in-Ok.found.params _ c.requires c.utf8.target c.in-Ok.ensures.found c.in-Ok.ensures.path in
    let none = c.in_err-order_of-in-Order.ensures m.text in
    if_none _ (no_view _ Order (m.resource ∙ ap Some c.in-Order.is)
    (λ (part, e, (n, is, written)). none n is (sym (m.part (codes "number")) ∙ e ∙ ap Some written)))

pub returns-in_err-branch_of-in-Sheet-clause-none : goal.returns-in_err-branch_of-in-Sheet-clause-none
returns-in_err-branch_of-in-Sheet-clause-none c =
    let m = match_of _ _ c.in-Ok.found.params _ c.requires c.utf8.target c.in-Ok.ensures.found c.in-Ok.ensures.path in
    let none = c.in_err-branch_of-in-Sheet.ensures m.text in
    if_none _ (no_view _ Sheet (m.resource ∙ ap Some c.in-Sheet.is)
    (λ (code, e, is). none code is (sym (m.part (codes "branch")) ∙ e)))

pub returns-in_ok-article-in-Field-clause-some : goal.returns-in_ok-article-in-Field-clause-some
returns-in_ok-article-in-Field-clause-some c =
    let m = match_of _ _ c.in-Ok.found.params _ c.requires c.utf8.target c.in-Ok.ensures.found c.in-Ok.ensures.path in
    let branch = c.in_ok-branch-in-Field.ensures m.text in
    let article = c.in_ok-article-in-Field.ensures m.text in (
      m.resource ∙ ap Some c.in-Field.is,
      m.part (codes "branch") ∙ branch.0,
      m.part (codes "article") ∙ article.0,
      branch.1,
      article.1,
    )

pub returns-in_ok-order_of-in-Order-clause-some : goal.returns-in_ok-order_of-in-Order-clause-some
returns-in_ok-order_of-in-Order-clause-some c =
    let m = match_of _ _ c.in-Ok.found.params _ c.requires c.utf8.target c.in-Ok.ensures.found c.in-Ok.ensures.path in
    let order = c.in_ok-order_of-in-Order.ensures m.text in
    (m.resource ∙ ap Some c.in-Order.is, m.part (codes "number") ∙ order.0, order.1)

pub returns-in_ok-branch_of-in-Sheet-clause-some : goal.returns-in_ok-branch_of-in-Sheet-clause-some
returns-in_ok-branch_of-in-Sheet-clause-some c =
    let m = match_of _ _ c.in-Ok.found.params _ c.requires c.utf8.target c.in-Ok.ensures.found c.in-Ok.ensures.path in
    let branch = c.in_ok-branch_of-in-Sheet.ensures m.text in
    (m.resource ∙ ap Some c.in-Sheet.is, m.part (codes "branch") ∙ branch.0, branch.1)

pub returns-in_err-article_of-in-Article-clause-none : goal.returns-in_err-article_of-in-Article-clause-none
returns-in_err-article_of-in-Article-clause-none c =
    let m = match_of _ _ c.in-Ok.found.params _ c.requires c.utf8.target c.in-Ok.ensures.found c.in-Ok.ensures.path in
    let none = c.in_err-article_of-in-Article.ensures m.text in
    if_none _ (no_view _ Article (m.resource ∙ ap Some c.in-Article.is)
    (λ (code, e, is). none code is (sym (m.part (codes "article")) ∙ e)))

pub returns-in_ok-article_of-in-Article-clause-some : goal.returns-in_ok-article_of-in-Article-clause-some
returns-in_ok-article_of-in-Article-clause-some c =
    let m = match_of _ _ c.in-Ok.found.params _ c.requires c.utf8.target c.in-Ok.ensures.found c.in-Ok.ensures.path in
    let part = c.in_ok-article_of-in-Article.ensures m.text in
    (m.resource ∙ ap Some c.in-Article.is, m.part (codes "article") ∙ part.0, part.1)

pub returns-in_err-key_of-in-Key-clause-none : goal.returns-in_err-key_of-in-Key-clause-none
returns-in_err-key_of-in-Key-clause-none c =
    let m = match_of _ _ c.in-Ok.found.params _ c.requires c.utf8.target c.in-Ok.ensures.found c.in-Ok.ensures.path in
    let none = c.in_err-key_of-in-Key.ensures m.text in
    if_none _ (no_view _ Key (m.resource ∙ ap Some c.in-Key.is) (λ (code, e, is). none code is (sym (m.part (codes "key")) ∙ e)))

pub returns-in_ok-key_of-in-Key-clause-some : goal.returns-in_ok-key_of-in-Key-clause-some
returns-in_ok-key_of-in-Key-clause-some c =
    let m = match_of _ _ c.in-Ok.found.params _ c.requires c.utf8.target c.in-Ok.ensures.found c.in-Ok.ensures.path in
    let part = c.in_ok-key_of-in-Key.ensures m.text in
    (m.resource ∙ ap Some c.in-Key.is, m.part (codes "key") ∙ part.0, part.1)

pub returns-in_err-floor_of-in-Open-clause-none : goal.returns-in_err-floor_of-in-Open-clause-none
returns-in_err-floor_of-in-Open-clause-none c =
    let m = match_of _ _ c.in-Ok.found.params _ c.requires c.utf8.target c.in-Ok.ensures.found c.in-Ok.ensures.path in
    let none = c.in_err-floor_of-in-Open.ensures m.text in
    if_none _ (no_view _ Open (m.resource ∙ ap Some c.in-Open.is)
    (λ (part, e, (n, is, written)). none n is (sym (m.part (codes "number")) ∙ e ∙ ap Some written)))

pub returns-in_ok-floor_of-in-Open-clause-some : goal.returns-in_ok-floor_of-in-Open-clause-some
returns-in_ok-floor_of-in-Open-clause-some c =
    let m = match_of _ _ c.in-Ok.found.params _ c.requires c.utf8.target c.in-Ok.ensures.found c.in-Ok.ensures.path in
    let part = c.in_ok-floor_of-in-Open.ensures m.text in
    (m.resource ∙ ap Some c.in-Open.is, m.part (codes "number") ∙ part.0, part.1)

pub returns-in_err-moment_of-in-Due-clause-none : goal.returns-in_err-moment_of-in-Due-clause-none
returns-in_err-moment_of-in-Due-clause-none c =
    let m = match_of _ _ c.in-Ok.found.params _ c.requires c.utf8.target c.in-Ok.ensures.found c.in-Ok.ensures.path in
    let none = c.in_err-moment_of-in-Due.ensures m.text in
    if_none _ (no_view _ Due (m.resource ∙ ap Some c.in-Due.is)
    (λ (part, e, (n, is, written)). none n is (sym (m.part (codes "moment")) ∙ e ∙ ap Some written)))

pub returns-in_ok-moment_of-in-Due-clause-some : goal.returns-in_ok-moment_of-in-Due-clause-some
returns-in_ok-moment_of-in-Due-clause-some c =
    let m = match_of _ _ c.in-Ok.found.params _ c.requires c.utf8.target c.in-Ok.ensures.found c.in-Ok.ensures.path in
    let part = c.in_ok-moment_of-in-Due.ensures m.text in
    (m.resource ∙ ap Some c.in-Due.is, m.part (codes "moment") ∙ part.0, part.1)
