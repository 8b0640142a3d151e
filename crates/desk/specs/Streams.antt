-- What a dialogue reads and writes.
use Rattle.std.specs.Prelude.{ℕ, List, None, Option}
use Rattle.std.specs.Io.KnownBytes.{Keeps}

-- what there is to read, and what was written, before a dialogue and after it, where contracts know the bytes of the
-- reader and of the writer
pub record Streams : Type 0 where
  pub reader_old : Option (List ℕ)
  pub reader_new : Option (List ℕ)
  pub writer_old : Option (List ℕ)
  pub writer_new : Option (List ℕ)

abbrev pub streams : (reader_old reader_new writer_old writer_new : Option (List ℕ)) → Streams
streams reader_old reader_new writer_old writer_new = record {
  reader_old = reader_old;
  reader_new = reader_new;
  writer_old = writer_old;
  writer_new = writer_new;
}

-- the streams of a dialogue that reads nothing
abbrev pub only_written : (writer_old writer_new : Option (List ℕ)) → Streams
only_written writer_old writer_new = streams None None writer_old writer_new

-- nothing is read, and nothing written
abbrev pub IsSilent : Streams → Type 0
IsSilent s = Keeps s.reader_old s.reader_new × Keeps s.writer_old s.writer_new
