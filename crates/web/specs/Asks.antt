-- What a message asks for.
use Rattle.std.specs.Prelude.{◌≡◌, ◌≤◌, ℕ, List, ◌++◌, codes, decimal}
use Rattle.escrow.specs.Codes.{IsArticle, IsBranch, IsKey}
use Rattle.escrow.specs.Ranges.{IsMoment, IsOrderNo}
use Rattle.words.specs.declared.command.Request.{Request}
use Rattle.web.specs.Bodies.{IsBodyOf}
use Rattle.web.specs.Messages.{Message}
use Rattle.web.specs.declared.ask.Ask.{Ask}
use Rattle.web.specs.declared.ask.Ask.TheVariants as ask

-- the message has that method and that target
abbrev pub IsTo : List ℕ → List ℕ → Message → Type 0
IsTo method target m = (m.head.method ≡ method) × (m.head.target ≡ target)

-- a number above which orders are listed: 0, or an order's
abbrev pub IsFloor : ℕ → Type 0
IsFloor n = n ≤ 999999999

-- what the message says
abbrev pub Says : Message → Ask → Type 0
Says m (ask.Call request) = IsTo (codes "POST") (codes "/v1/commands") m × IsBodyOf request m.body
Says m ask.BadCall =
    IsTo (codes "POST") (codes "/v1/commands") m × ((request : Request) → IsBodyOf request m.body → ⊥)
Says m ask.Desk = IsTo (codes "GET") (codes "/v1/desk") m
Says m ask.Branches = IsTo (codes "GET") (codes "/v1/branches") m
Says m (ask.Field branch article) =
    IsTo (codes "GET") (codes "/v1/fields/" ++ branch ++ codes "/" ++ article) m × IsBranch branch × IsArticle article
Says m (ask.Order number) = IsTo (codes "GET") (codes "/v1/orders/" ++ decimal number) m × IsOrderNo number
Says m (ask.Sheet branch) = IsTo (codes "GET") (codes "/v1/sheets/" ++ branch) m × IsBranch branch
Says m (ask.Article article) = IsTo (codes "GET") (codes "/v1/articles/" ++ article) m × IsArticle article
Says m (ask.Kept key) = IsTo (codes "GET") (codes "/v1/keys/" ++ key) m × IsKey key
Says m (ask.Open floor) = IsTo (codes "GET") (codes "/v1/open/" ++ decimal floor) m × IsFloor floor
Says m (ask.Due moment) = IsTo (codes "GET") (codes "/v1/due/" ++ decimal moment) m × IsMoment moment
Says m ask.Nothing = ⊥

-- The message asks for what it says, and for nothing where it says nothing.
abbrev pub AsksFor : Message → Ask → Type 0
AsksFor m ask.Nothing = (ask : Ask) → Says m ask → ⊥
AsksFor m ask = Says m ask
