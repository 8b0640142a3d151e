-- The one spelling of each command.
use Rattle.std.specs.Prelude.{◌≡◌, ℕ, List, [], ◌∷◌, ◌++◌, codes, decimal}
use Rattle.escrow.specs.Codes.{IsArticle, IsBranch}
use Rattle.escrow.specs.Ranges.{IsLevel, IsMoment, IsOrderNo, IsQty}
use Rattle.words.specs.OpenLines.{AreOpenLines, line_words, way_word}
use Rattle.words.specs.Words.{spaced}
use Rattle.words.specs.declared.command.Command.{Command}
use Rattle.words.specs.declared.command.Command.TheVariants.{Abort, Commit, Deliver, Expire, Field, Firm, More, Open}
use Rattle.words.specs.declared.command.Command.TheVariants.{Rebound, Release, Transfer, Use, Writeoff}

-- the words of a command; numbers are in decimal, with no zero in front
abbrev pub command_words : Command → List (List ℕ)
command_words (Field b a lo hi start) = codes "field" ∷ b ∷ a ∷ decimal lo ∷ decimal hi ∷ decimal start ∷ []
command_words (Deliver b a qty) = codes "deliver" ∷ b ∷ a ∷ decimal qty ∷ []
command_words (Writeoff b a qty) = codes "writeoff" ∷ b ∷ a ∷ decimal qty ∷ []
command_words (Rebound b a lo hi) = codes "rebound" ∷ b ∷ a ∷ decimal lo ∷ decimal hi ∷ []
command_words (Open n until lines) = codes "open" ∷ decimal n ∷ decimal until ∷ line_words lines
command_words (Transfer n until a from to qty) =
    codes "transfer" ∷ decimal n ∷ decimal until ∷ a ∷ from ∷ to ∷ decimal qty ∷ []
command_words (More n way b a qty) = codes "more" ∷ decimal n ∷ way_word way ∷ b ∷ a ∷ decimal qty ∷ []
command_words (Use n b a qty) = codes "use" ∷ decimal n ∷ b ∷ a ∷ decimal qty ∷ []
command_words (Release n b a qty) = codes "release" ∷ decimal n ∷ b ∷ a ∷ decimal qty ∷ []
command_words (Commit n) = codes "commit" ∷ decimal n ∷ []
command_words (Abort n) = codes "abort" ∷ decimal n ∷ []
command_words (Firm n) = codes "firm" ∷ decimal n ∷ []
command_words (Expire now) = codes "expire" ∷ decimal now ∷ []

-- the codes have their forms, the numbers are in their ranges, and the order lines are 1 to 64
abbrev pub IsInRange : Command → Type 0
IsInRange (Field b a lo hi start) = IsBranch b × IsArticle a × IsLevel lo × IsLevel hi × IsLevel start
IsInRange (Deliver b a qty) = IsBranch b × IsArticle a × IsQty qty
IsInRange (Writeoff b a qty) = IsBranch b × IsArticle a × IsQty qty
IsInRange (Rebound b a lo hi) = IsBranch b × IsArticle a × IsLevel lo × IsLevel hi
IsInRange (Open n until lines) = IsOrderNo n × IsMoment until × AreOpenLines lines
IsInRange (Transfer n until a from to qty) =
    IsOrderNo n × IsMoment until × IsArticle a × IsBranch from × IsBranch to × IsQty qty
IsInRange (More n way b a qty) = IsOrderNo n × IsBranch b × IsArticle a × IsQty qty
IsInRange (Use n b a qty) = IsOrderNo n × IsBranch b × IsArticle a × IsQty qty
IsInRange (Release n b a qty) = IsOrderNo n × IsBranch b × IsArticle a × IsQty qty
IsInRange (Commit n) = IsOrderNo n
IsInRange (Abort n) = IsOrderNo n
IsInRange (Firm n) = IsOrderNo n
IsInRange (Expire now) = IsMoment now

-- the words of the command in a row
abbrev pub spelling : Command → List ℕ
spelling c = spaced (command_words c)

-- the bytes are the spelling of the command
abbrev pub Spells : Command → List ℕ → Type 0
Spells c bytes = IsInRange c × (bytes ≡ spelling c)

-- the bytes begin as an `open` does
abbrev pub IsOpening : List ℕ → Type 0
IsOpening bytes = (more : List ℕ) × (bytes ≡ codes "open " ++ more)
