-- What a script reads and writes on a desk of some ledger, where contracts know the bytes of the reader and of the
-- writer.
use Rattle.std.specs.Prelude.{ℕ, List, [], ◌++◌, Option, Some}
use Rattle.std.specs.Io.KnownBytes.{Appends, Consumes}
use Rattle.words.specs.Stream.{Feeds}
use Rattle.words.specs.declared.item.Item.{Item}
use Rattle.ledger.specs.Ledger.{Ledger}
use Rattle.desk.specs.Desk.{going_at}
use Rattle.desk.specs.Dialogue.{IsPrompt}
use Rattle.desk.specs.Script.{WritesText, lines}
use Rattle.desk.specs.Streams.{Streams}
use Rattle.desk.specs.Text.{IsText, RepliesAll}

-- A part of the input was read, and a beginning was written of the text for that part, from this ledger on. The
-- answers to all but the last piece are written whole.
pub record BeginsText (first : Ledger) (s : Streams) : Type 0 where
  pub read : List ℕ
  pub written : List ℕ
  pub unwritten : List ℕ
  pub last : Ledger
  pub reads : Consumes s.reader_old s.reader_new read
  pub writes : Appends s.writer_old s.writer_new written
  pub text : IsText first read (written ++ unwritten) last
  pub prompt : IsPrompt lines (going_at first) read written

-- a part of the input was read, and what was written is the answer to every line that ended in that part
pub record AnswersLines (first : Ledger) (s : Streams) : Type 0 where
  pub read : List ℕ
  pub written : List ℕ
  pub ended : List Item
  pub rest : Option (List ℕ)
  pub ledger : Ledger
  pub reads : Consumes s.reader_old s.reader_new read
  pub writes : Appends s.writer_old s.writer_new written
  pub feeds : Feeds (Some []) read ended rest
  pub replies : RepliesAll first ended written ledger

-- the whole input was read, and the text for it, from this ledger on, was written
abbrev pub AnswersText : Ledger → Streams → Type 0
AnswersText first s = (last : Ledger) × WritesText first last s
