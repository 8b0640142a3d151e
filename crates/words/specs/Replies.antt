-- The text of a reply.
use Rattle.std.specs.Prelude.{ℕ, List, [], ◌∷◌, codes, decimal}
use Rattle.words.specs.declared.reply.Refusal.{Refusal}
use Rattle.words.specs.declared.reply.Refusal.TheVariants.{KeyReused, Full, FieldThere, NoField, BadBounds, OrderThere}
use Rattle.words.specs.declared.reply.Refusal.TheVariants.{NoOrder, Ended, Past, SameField, OtherWay, TooManyLines}
use Rattle.words.specs.declared.reply.Refusal.TheVariants.{TooLittle, TooMuch, NotHeld, OverUse, TransferFixed}
use Rattle.words.specs.declared.reply.Refusal.TheVariants.{ClockBack, Firm, BadCommand}
use Rattle.words.specs.declared.reply.Reply.{Reply}
use Rattle.words.specs.declared.reply.Reply.TheVariants.{Done, Refused}
use Rattle.words.specs.Words.{spaced}

-- the number of a refusal
abbrev pub refusal_code : Refusal → ℕ
refusal_code KeyReused = 1
refusal_code Full = 2
refusal_code FieldThere = 3
refusal_code NoField = 4
refusal_code BadBounds = 5
refusal_code OrderThere = 6
refusal_code NoOrder = 7
refusal_code Ended = 8
refusal_code Past = 9
refusal_code SameField = 10
refusal_code OtherWay = 11
refusal_code TooManyLines = 12
refusal_code TooLittle = 13
refusal_code TooMuch = 14
refusal_code NotHeld = 15
refusal_code OverUse = 16
refusal_code TransferFixed = 17
refusal_code ClockBack = 18
refusal_code Firm = 19
refusal_code BadCommand = 20

-- the name of a refusal
abbrev pub refusal_name : Refusal → List ℕ
refusal_name KeyReused = codes "KeyReused"
refusal_name Full = codes "Full"
refusal_name FieldThere = codes "FieldThere"
refusal_name NoField = codes "NoField"
refusal_name BadBounds = codes "BadBounds"
refusal_name OrderThere = codes "OrderThere"
refusal_name NoOrder = codes "NoOrder"
refusal_name Ended = codes "Ended"
refusal_name Past = codes "Past"
refusal_name SameField = codes "SameField"
refusal_name OtherWay = codes "OtherWay"
refusal_name TooManyLines = codes "TooManyLines"
refusal_name TooLittle = codes "TooLittle"
refusal_name TooMuch = codes "TooMuch"
refusal_name NotHeld = codes "NotHeld"
refusal_name OverUse = codes "OverUse"
refusal_name TransferFixed = codes "TransferFixed"
refusal_name ClockBack = codes "ClockBack"
refusal_name Firm = codes "Firm"
refusal_name BadCommand = codes "BadCommand"

-- the text of a reply: `done` with the command's place, or `refused` with number, name and line
abbrev pub reply_text : Reply → List ℕ
reply_text (Done place) = spaced (codes "done" ∷ decimal place ∷ [])
reply_text (Refused refusal line) =
    spaced (codes "refused" ∷ decimal (refusal_code refusal) ∷ refusal_name refusal ∷ decimal line ∷ [])
