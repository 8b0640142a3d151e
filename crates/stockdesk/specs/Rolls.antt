-- What the file of a desk holds that goes on in place of another.
use Rattle.std.specs.Prelude.{ℕ}
use Rattle.keep.specs.Content.{new_content}
use Rattle.ledger.specs.Changes.{put_content}
use Rattle.ledger.specs.Ledger.{Ledger}
use Rattle.ledger.specs.Rolled.{is_recent_deal, rolled_rows}
use Rattle.ledger.specs.Rows.{Content}

-- the rows of the ledger, rolled up with its last K keys, put into those of a new desk
abbrev pub rolled_content : ℕ → Ledger → Content → Content
rolled_content K A x = put_content (rolled_rows (is_recent_deal K A) K A x) new_content
