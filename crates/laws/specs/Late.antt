-- A log whose entries may come late. Each entry says up to where the log had been read when its request was asked
-- for. All who carry out the log pass over the late entries, so an old copy of a request changes nothing behind the
-- answer to a newer one.
use Rattle.std.specs.Prelude.{ℕ, Bool, ◌&&◌, nat_lt, List, [], ◌∷◌, ◌++◌, map, if◌then◌else◌}
use Rattle.std.specs.List.{list_any}
use Rattle.std.specs.Str.{bytes_eq}
use Rattle.words.specs.declared.command.Request.{Request}

-- a request in a log, its position, and the last position that had been read when it was asked for
pub record Entry : Type 0 where
  pub request : Request
  pub position : ℕ
  pub base : ℕ

abbrev pub requests : List Entry → List Request
requests entries = map (λ e. e.request) entries

-- b has the key of e and stands behind the base of e: b had not been read when e was asked for
abbrev pub overtakes : Entry → Entry → Bool
overtakes b e = bytes_eq b.request.key e.request.key && nat_lt e.base b.position

-- the entry is late: one of the entries carried out before overtakes it
abbrev pub is_late : List Entry → Entry → Bool
is_late before e = list_any (λ b. overtakes b e) before

-- the entries carried out before, and then each entry of the log that is not late behind those before it
abbrev pub carried_on : List Entry → List Entry → List Entry
carried_on before [] = before
carried_on before (e ∷ log) = carried_on (if is_late before e then before else before ++ e ∷ []) log

-- the log without its late entries: what is carried out
abbrev pub carried : List Entry → List Entry
carried log = carried_on [] log
