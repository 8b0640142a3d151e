-- A file of bounds: each record behind the header gives a field other bounds, under its key.
use Rattle.std.specs.Prelude.{◌≡◌, ℕ, List, [], ◌∷◌, codes, decimal}
use Rattle.std.specs.List.{AllZip}
use Rattle.escrow.specs.Codes.{IsArticle, IsBranch, IsKey}
use Rattle.escrow.specs.Ranges.{IsLevel}
use Rattle.words.specs.declared.command.Command.TheVariants.{Rebound}
use Rattle.words.specs.declared.command.Request.{Request}
use Rattle.files.specs.Files.{Record}

abbrev pub bounds_header : Record
bounds_header = codes "key" ∷ codes "branch" ∷ codes "article" ∷ codes "lo" ∷ codes "hi" ∷ []

-- the record says these bounds, in the spelling of commands
pub record IsRebound (row : Record) (request : Request) : Type 0 where
  pub branch : List ℕ
  pub article : List ℕ
  pub lo : ℕ
  pub hi : ℕ
  pub command : request.command ≡ Rebound branch article lo hi
  pub key_form : IsKey request.key
  pub branch_form : IsBranch branch
  pub article_form : IsArticle article
  pub lo_range : IsLevel lo
  pub hi_range : IsLevel hi
  pub fields : row ≡ request.key ∷ branch ∷ article ∷ decimal lo ∷ decimal hi ∷ []

-- each record says its bounds
abbrev pub SayBounds : List Record → List Request → Type 0
SayBounds rows requests = AllZip IsRebound rows requests
