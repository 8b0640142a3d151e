-- The keys of what rows tell, in their order.
use Rattle.ledger.proofs.Prelude.{◌≡◌, Field, Kept, Order, keys_of, map, map-map, sym}
use Rattle.book.proofs.Prelude.{field_of, kept_of, order_of, told_ledger}
use Rattle.book.specs.declared.book.tables.Entries.{Entries}

-- the keys of entries are those of what they tell
pub told_names : (e : Entries) → keys_of e.fields.items ≡ map (λ f. f.name) (told_ledger e).fields
told_names e = sym (map-map (λ (f : Field). f.name) field_of e.fields.items)

pub told_numbers : (e : Entries) → keys_of e.orders.items ≡ map (λ o. o.number) (told_ledger e).orders
told_numbers e = sym (map-map (λ (o : Order). o.number) order_of e.orders.items)

pub told_keys : (e : Entries) → keys_of e.kept.items ≡ map (λ k. k.key) (told_ledger e).kept
told_keys e = sym (map-map (λ (k : Kept). k.key) kept_of e.kept.items)
