-- A store that is begun has no tables.
use Rattle.std.proofs.Common.{◌≡◌, ◌≤◌, [], Bool, IfSome, IsTrue, Option, Some, arith, refl, subst}
use Rattle.sqlite_catalog.specs.Listing.{IsSound, Lists}
use Rattle.sqlite_catalog.proofs.ReadLemmas.{lists_once}
use Rattle.sqlite_catalog.proofs.SoundLemmas.{list_from}
use Rattle.sqlite_schema.specs.declared.schema.Schema.{Schema}
use Rattle.sqlite_trees.specs.Objects.{catalog_tree}
use Rattle.sqlite_trees.specs.Tree.{Trees}
use Rattle.sqlite_trees.specs.View.{doubt}
use Rattle.sqlite_trees.proofs.Doubt.{clean_of}
use Rattle.sql_keep.specs.Schema.{no_schema}

-- an empty catalog lists no table
nothing_listed : Lists [] no_schema
nothing_listed = record {
  listed = record { tables = tt; indexes = tt; views = tt; owned = tt; named = tt; loads = list_from [] refl refl };
  guarded = tt;
}

-- a sound database whose catalog is empty has no schema
pub unlisted : (schema : Schema) (trees : Trees) → IsSound schema trees → trees catalog_tree ≡ [] → schema ≡ no_schema
unlisted schema trees sound empty =
    lists_once [] schema no_schema (subst (λ rows. Lists rows schema) empty sound.lists) nothing_listed

-- what is so of the value of an option
pub of_some : {T : Type 0} (m : Option T) (t : T) (P : T → Type 0) → m ≡ Some t → IfSome m P → P t
of_some m t P is h = subst (λ o. IfSome o P) is h

-- where there is no doubt of a disk later, there was none before
pub clean_before : (old new : Bool) → doubt old ≤ doubt new → doubt new ≡ 0 → IsTrue old
clean_before old new fewer clean = clean_of old (omega arith)
