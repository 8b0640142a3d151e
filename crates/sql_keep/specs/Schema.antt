-- The seven tables as SQL declares them, in the order in which they are made. All are STRICT, and each column is NOT
-- NULL.
use Rattle.std.specs.Prelude.{true, false, zero, [], ◌∷◌, ◌++◌, ◌+◌, Some, None, codes, List, map, ℕ}
use Rattle.sqlite.specs.declared.types.Value.TheVariants.{Null}
use Rattle.sqlite.specs.Collation.TheVariants.{Binary}
use Rattle.sqlite.specs.Table.{Table}
use Rattle.sqlite.specs.Schema.{Schema}
use Rattle.sqlite.specs.Kind.{Kind}
use Rattle.sqlite.specs.Kind.TheVariants.{Integer, Text}
use Rattle.sqlite_schema.specs.declared.schema.Column.{Column}
use Rattle.sqlite_schema.specs.declared.schema.Index.{Index}
use Rattle.sqlite_value.specs.declared.keys.Order.{Order}

abbrev pub column : Kind → List ℕ → Column
column kind name =
    record { name = name; kind = kind; is_strict = true; not_null = true; default = Null; collation = Binary }

abbrev pub whole_number : List ℕ → Column
whole_number = column Integer

abbrev pub text : List ℕ → Column
text = column Text

abbrev pub plain_order : Order
plain_order = record { digits = 0 }

-- The table's key is the columns at these places, counted from 1 behind the rowid; or it is the column at place 0, a
-- whole number, which SQLite keeps as the rowid.
abbrev pub with_key : List ℕ → Table → Table
with_key (zero ∷ places) table = record table { key = Some 0; primary = 0 ∷ []; uniques = []; orders = [] }
with_key places table =
    record table { key = None; primary = places; uniques = places ∷ []; orders = plain_order ∷ [] }

-- the table has no rules but its key and its columns
abbrev pub without_rules : Table → Table
without_rules table = record table {
  checks = [];
  references = [];
  computed = [];
  stamps = record { places = []; terms = []; formats = [] };
  is_counted = false;
}

abbrev pub plain_table : List ℕ → ℕ → List ℕ → List Column → Table
plain_table name tree places columns = with_key places (record {
  name = name;
  tree = tree;
  columns = columns;
  key = None;
  primary = [];
  uniques = [];
  orders = [];
  checks = [];
  references = [];
  computed = [];
  stamps = record { places = []; terms = []; formats = [] };
  is_counted = false;
})

-- the index that SQLite makes for the key of such a table, in the tree behind the table's
abbrev pub key_index : Table → List ℕ → Index
key_index table places = record {
  name = codes "sqlite_autoindex_" ++ table.name ++ codes "_1";
  tree = table.tree + 1;
  table = table.tree;
  columns = places;
  order = plain_order;
  is_unique = true;
}

abbrev pub key_indexes : Table → List Index
key_indexes table = map (key_index table) table.uniques

abbrev pub desk_table : Table
desk_table = plain_table (codes "desk") 0 (0 ∷ []) (whole_number (codes "one") ∷ whole_number (codes "version")
    ∷ whole_number (codes "clock") ∷ whole_number (codes "places") ∷ [])

abbrev pub field_table : Table
field_table = plain_table (codes "field") 1 (1 ∷ 2 ∷ [])
    (text (codes "branch") ∷ text (codes "article") ∷ whole_number (codes "lo") ∷ whole_number (codes "hi")
    ∷ whole_number (codes "start")
    ∷ whole_number (codes "value") ∷ whole_number (codes "inf") ∷ whole_number (codes "sup") ∷ [])

abbrev pub move_table : Table
move_table = plain_table (codes "move") 3 (0 ∷ []) (whole_number (codes "place") ∷ text (codes "branch")
    ∷ text (codes "article") ∷ whole_number (codes "qty") ∷ [])

abbrev pub orders_table : Table
orders_table =
    plain_table (codes "orders") 4 (0 ∷ []) (whole_number (codes "number") ∷ whole_number (codes "kind")
    ∷ whole_number (codes "until") ∷ whole_number (codes "state") ∷ [])

abbrev pub line_table : Table
line_table = plain_table (codes "line") 5 (1 ∷ 2 ∷ [])
    (whole_number (codes "number") ∷ whole_number (codes "nr") ∷ text (codes "branch") ∷ text (codes "article")
    ∷ whole_number (codes "way")
    ∷ whole_number (codes "held") ∷ whole_number (codes "used") ∷ [])

abbrev pub kept_table : Table
kept_table = plain_table (codes "kept") 7 (1 ∷ [])
    (text (codes "reqkey") ∷ whole_number (codes "place") ∷ text (codes "words")
    ∷ [])

abbrev pub firm_table : Table
firm_table = plain_table (codes "firm") 9 (0 ∷ []) (whole_number (codes "number") ∷ [])

abbrev pub no_schema : Schema
no_schema = record { tables = []; indexes = []; views = [] }
