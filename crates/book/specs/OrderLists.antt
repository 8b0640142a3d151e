-- How contracts see the orders of a book: in the order of their numbers, with the room that has been made, and the
-- memory that they have.
use Rattle.std.specs.Prelude.{ℕ, List}
use Rattle.index.specs.BlockList.{BlockStorage, no_blocks}
use Rattle.index.specs.InOrder.{EntryStorage, no_storage}
use Rattle.book.specs.declared.order.OrderEntry.{OrderEntry}

-- the memory that orders have: for all orders, and for the list of those that are open
pub record OrderStorage : Type 0 where
  pub all : EntryStorage
  pub open_list : BlockStorage

-- no memory
abbrev pub no_orders : OrderStorage
no_orders = record { all = no_storage; open_list = no_blocks }

-- the orders under their numbers, how many more fit without more memory, and the memory that they have
pub record OrderEntries : Type 0 where
  pub entries : List (ℕ × OrderEntry)
  pub room : ℕ
  pub storage : OrderStorage
