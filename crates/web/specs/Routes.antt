-- The routes, as `matchit` reads and keeps them; the parts of a target, and the view that it asks for (private: how a
-- target is read).
use Rattle.std.specs.Prelude.{◌≡◌, ℕ, List, [], ◌∷◌, Option, None, Some, codes, decimal, option_and_then, option_map}
use Rattle.std.specs.Prelude.{Result, Ok, Err}
use Rattle.escrow.specs.Codes.{IsArticle, IsBranch, IsKey}
use Rattle.escrow.specs.Ranges.{IsMoment, IsOrderNo}
use Rattle.matchit.specs.Order.{placed}
use Rattle.matchit.specs.Params.{named, walk}
use Rattle.matchit.specs.Route.{Scan, parse_route}
use Rattle.matchit.specs.Router.{RouteOf, nearest, route_from}
use Rattle.matchit.specs.Rows.{RowsOf}
use Rattle.matchit.specs.Seek.{first}
use Rattle.matchit.specs.declared.error.InsertError.{InsertError}
use Rattle.matchit.specs.declared.params.Params.{Params}
use Rattle.web.specs.Asks.{IsFloor}
use Rattle.web.specs.declared.ask.Ask.{Ask}
use Rattle.web.specs.declared.ask.Ask.TheVariants as ask
use Rattle.web.specs.declared.route.Resource.{Resource}
use Rattle.web.specs.declared.route.Resource.TheVariants.{Article, Branches, Commands, Desk, Due, Field, Key, Open, Order, Sheet}

-- ---- routes

-- the texts of the routes, each with what it leads to
abbrev pub route_texts : List (List ℕ × Resource)
route_texts =
    (codes "/v1/articles/{article}", Article)
    ∷ (codes "/v1/branches", Branches)
    ∷ (codes "/v1/commands", Commands)
    ∷ (codes "/v1/desk", Desk)
    ∷ (codes "/v1/due/{moment}", Due)
    ∷ (codes "/v1/fields/{branch}/{article}", Field)
    ∷ (codes "/v1/keys/{key}", Key)
    ∷ (codes "/v1/open/{number}", Open)
    ∷ (codes "/v1/orders/{number}", Order)
    ∷ (codes "/v1/sheets/{branch}", Sheet)
    ∷ []

-- the rows with one more route, where the text is a route's
abbrev pub with_route : Result Scan InsertError → Resource → RowsOf (RouteOf Resource) → RowsOf (RouteOf Resource)
with_route (Ok scan) value rows = placed (scan.pattern, route_from scan value) rows
with_route (Err error) value rows = rows

-- the rows with these routes, one after another
abbrev pub with_routes : List (List ℕ × Resource) → RowsOf (RouteOf Resource) → RowsOf (RouteOf Resource)
with_routes [] rows = rows
with_routes (r ∷ more) rows = with_routes more (with_route (parse_route r.0) r.1 rows)

-- the rows of a router into which the routes were put
abbrev pub routes : RowsOf (RouteOf Resource)
routes = with_routes route_texts []

-- the text is a route's, and none of the rows conflicts with it
abbrev pub Fits : Result Scan InsertError → RowsOf (RouteOf Resource) → Type 0
Fits (Ok scan) rows = nearest scan.pattern rows ≡ None
Fits (Err error) rows = ⊥

-- each of these fits the rows with those before it
abbrev pub AllFit : List (List ℕ × Resource) → RowsOf (RouteOf Resource) → Type 0
AllFit [] rows = Unit {0}
AllFit (r ∷ more) rows = Fits (parse_route r.0) rows × AllFit more (with_route (parse_route r.0) r.1 rows)

-- ---- the parts of a target

-- what the target's route leads to, if it has one
abbrev pub resource_of : List ℕ → Option Resource
resource_of target = option_map (λ route. route.value) (first routes target)

-- each name in a route with the part of the target that it took
abbrev pub parts_on : List ℕ → RouteOf Resource → List (List ℕ × List ℕ)
parts_on target route = walk route.pattern route.text target route.names 0 0

-- the part of the target that this name in its route took
abbrev pub part_of : List ℕ → List ℕ → Option (List ℕ)
part_of name target = option_and_then (λ route. named name (parts_on target route)) (first routes target)

-- each name in the route of a match with the part that it took
abbrev pub taken : Params → List (List ℕ × List ℕ)
taken params = walk params.pattern.now params.text.now params.path.now params.names.now 0 0

-- ---- views

-- the view is the one that the target asks for: its route is the view's, and its parts are the view's codes, number
-- or key
abbrev pub IsView : List ℕ → Ask → Type 0
IsView target ask.Desk = resource_of target ≡ Some Desk
IsView target ask.Branches = resource_of target ≡ Some Branches
IsView target (ask.Field branch article) =
    (resource_of target ≡ Some Field) × (part_of (codes "branch") target ≡ Some branch)
    × (part_of (codes "article") target ≡ Some article)
    × IsBranch branch × IsArticle article
IsView target (ask.Article article) =
    (resource_of target ≡ Some Article) × (part_of (codes "article") target ≡ Some article) × IsArticle article
IsView target (ask.Kept key) =
    (resource_of target ≡ Some Key) × (part_of (codes "key") target ≡ Some key) × IsKey key
IsView target (ask.Order number) =
    (resource_of target ≡ Some Order) × (part_of (codes "number") target ≡ Some (decimal number)) × IsOrderNo number
IsView target (ask.Open floor) =
    (resource_of target ≡ Some Open) × (part_of (codes "number") target ≡ Some (decimal floor)) × IsFloor floor
IsView target (ask.Due moment) =
    (resource_of target ≡ Some Due) × (part_of (codes "moment") target ≡ Some (decimal moment)) × IsMoment moment
IsView target (ask.Sheet branch) =
    (resource_of target ≡ Some Sheet) × (part_of (codes "branch") target ≡ Some branch) × IsBranch branch
IsView target (ask.Call request) = ⊥
IsView target ask.BadCall = ⊥
IsView target ask.Nothing = ⊥
