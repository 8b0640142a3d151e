-- A delivery file: each record behind the header is one delivery under its key.
use Rattle.std.specs.Prelude.{◌≡◌, ℕ, List, [], ◌∷◌, codes, decimal}
use Rattle.std.specs.List.{AllZip}
use Rattle.escrow.specs.Codes.{IsArticle, IsBranch, IsKey}
use Rattle.escrow.specs.Ranges.{IsQty}
use Rattle.words.specs.declared.command.Command.TheVariants.{Deliver}
use Rattle.words.specs.declared.command.Request.{Request}
use Rattle.files.specs.Files.{Record}

abbrev pub delivery_header : Record
delivery_header = codes "key" ∷ codes "branch" ∷ codes "article" ∷ codes "qty" ∷ []

-- the record says this delivery, in the spelling of commands
pub record IsDelivery (row : Record) (request : Request) : Type 0 where
  pub branch : List ℕ
  pub article : List ℕ
  pub qty : ℕ
  pub command : request.command ≡ Deliver branch article qty
  pub key_form : IsKey request.key
  pub branch_form : IsBranch branch
  pub article_form : IsArticle article
  pub qty_range : IsQty qty
  pub fields : row ≡ request.key ∷ branch ∷ article ∷ decimal qty ∷ []

-- each record says its delivery
abbrev pub SayDeliveries : List Record → List Request → Type 0
SayDeliveries rows requests = AllZip IsDelivery rows requests
