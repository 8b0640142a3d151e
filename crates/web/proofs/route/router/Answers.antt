use Rattle.std.proofs.Common.{◌∙◌, ap, subst, sym}
use Rattle.web.specs.Routes.{AllFit, route_texts, with_routes}
use Rattle.web.proofs.RouteShapes.{all_fit}
use Rattle.web.proofs.route.router.Goals as goal

pub insert_routes-requires : goal.insert_routes-requires
insert_routes-requires c = subst (AllFit route_texts) (sym c.new-made.ensures) all_fit

pub returns-clause-made : goal.returns-clause-made
returns-clause-made c = c.in_ok-insert_routes.ensures.made ∙ ap (with_routes route_texts) c.new-made.ensures
