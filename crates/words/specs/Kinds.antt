-- The kinds of commands.
use Rattle.std.specs.Prelude.{◌≡◌, ℕ, Bool, true, false, List}
use Rattle.words.specs.Spelling.{IsInRange, command_words}
use Rattle.words.specs.declared.command.Command.{Command}
use Rattle.words.specs.declared.command.Command.TheVariants.{Abort, Commit, Deliver, Expire, Field, Firm, More, Open}
use Rattle.words.specs.declared.command.Command.TheVariants.{Rebound, Release, Transfer, Use, Writeoff}

-- ---- groups of kinds

-- a command about stock: a field, a delivery, a write-off or other bounds
abbrev pub is_stock : Command → Bool
is_stock (Field b a lo hi start) = true
is_stock (Deliver b a qty) = true
is_stock (Writeoff b a qty) = true
is_stock (Rebound b a lo hi) = true
is_stock c = false

-- a command that opens an order
abbrev pub is_opening : Command → Bool
is_opening (Open n until lines) = true
is_opening (Transfer n until a from to qty) = true
is_opening c = false

-- a command that changes what an order holds
abbrev pub is_change : Command → Bool
is_change (More n way b a qty) = true
is_change (Use n b a qty) = true
is_change (Release n b a qty) = true
is_change c = false

-- a transfer, or a command that changes what an order holds
abbrev pub is_order : Command → Bool
is_order (Transfer n until a from to qty) = true
is_order c = is_change c

-- a command that ends an order or makes it firm, or moves the clock on
abbrev pub is_end : Command → Bool
is_end (Commit n) = true
is_end (Abort n) = true
is_end (Firm n) = true
is_end (Expire now) = true
is_end c = false

-- ---- words that no command has

-- the words are those of no command in range
abbrev pub AreNoCommand : List (List ℕ) → Type 0
AreNoCommand words = (c : Command) → IsInRange c → words ≡ command_words c → ⊥

-- the words are those of no command in range that is of the kind
abbrev pub AreNoneOf : (Command → Bool) → List (List ℕ) → Type 0
AreNoneOf kind words = (c : Command) → kind c ≡ true → IsInRange c → words ≡ command_words c → ⊥
