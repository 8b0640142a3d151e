-- the rows of the keys so far that stay are there
use Rattle.ledger.proofs.Prelude.{◌≡◌, map, rows_among, take}
use Rattle.book.specs.Model.{kept_of}
use Rattle.book.specs.inner.Rolling.{keys_behind, keys_content}
use Rattle.book.proofs.Prelude.{joined}
use Rattle.book.proofs.book.rolled.push_keys.Given as goal

abbrev pub invariant-loop-place : goal.invariant-loop-place
invariant-loop-place l =
    rows_among l.changes.items
    ≡ joined (rows_among l.initial.changes.items)
    (keys_content l.gone (keys_behind l.gone (map kept_of (take l.place l.kept.entries))))
