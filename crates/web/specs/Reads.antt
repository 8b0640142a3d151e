-- What a method, a target's route and a body ask for (private: how the program reads what a message asks for).
use Rattle.std.specs.Prelude.{◌≡◌, ◌⊎◌, ℕ, List, Some, codes}
use Rattle.words.specs.declared.command.Request.{Request}
use Rattle.web.specs.Bodies.{IsBodyOf}
use Rattle.web.specs.Messages.{Message}
use Rattle.web.specs.Routes.{IsView, resource_of}
use Rattle.web.specs.declared.ask.Ask.{Ask}
use Rattle.web.specs.declared.ask.Ask.TheVariants as ask
use Rattle.web.specs.declared.route.Resource.TheVariants.{Commands}

-- the body is that of the request to be called, or of none
abbrev pub IsCallOf : List ℕ → Ask → Type 0
IsCallOf body (ask.Call request) = IsBodyOf request body
IsCallOf body ask.BadCall = (request : Request) → IsBodyOf request body → ⊥
IsCallOf body ask = ⊥

-- what the message says, by its method, its route and its body
abbrev pub IsRead : Message → Ask → Type 0
IsRead m a =
    ((m.head.method ≡ codes "POST") × (resource_of m.head.target ≡ Some Commands) × IsCallOf m.body a)
    ⊎ ((m.head.method ≡ codes "GET") × IsView m.head.target a)
