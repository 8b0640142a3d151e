use Rattle.std.proofs.Common.{◌≡◌, length, map}
use Rattle.web.specs.Routes.{AllFit, with_routes}
use Rattle.web.proofs.route.insert_routes.Given as goal

abbrev pub invariant-loop-routes : goal.invariant-loop-routes
invariant-loop-routes l =
    AllFit (map (λ r. (r.0.now, r.1)) l.routes) l.router
    × (with_routes (map (λ r. (r.0.now, r.1)) l.routes) l.router
    ≡ with_routes (map (λ r. (r.0.now, r.1)) l.fn.routes) l.fn.router)

abbrev pub decreases-loop-routes : goal.decreases-loop-routes
decreases-loop-routes l = length l.routes
