-- Which request a body is.
use Rattle.std.specs.Prelude.{◌≡◌, ℕ, IsUtf8, List, Some}
use Rattle.serde_json.specs.Data.{Data}
use Rattle.serde_json.specs.Read.{read}
use Rattle.escrow.specs.Codes.{IsKey}
use Rattle.words.specs.Spelling.{IsInRange, spelling}
use Rattle.words.specs.declared.command.Request.{Request}
use Rattle.web.specs.Objects.{command_object}

-- the value is an object of exactly the request's key and its command's spelling
pub record IsObjectOf (request : Request) (value : Data) : Type 0 where
  pub key : IsKey request.key
  pub command : IsInRange request.command
  pub members : value ≡ command_object request.key (spelling request.command)

-- the body is, as `serde_json` reads it, an object of exactly the request's key and its command's spelling
pub record IsBodyOf (request : Request) (body : List ℕ) : Type 0 where
  pub key : IsKey request.key
  pub command : IsInRange request.command
  pub text : IsUtf8 body
  pub reads : read body ≡ Some (command_object request.key (spelling request.command))
