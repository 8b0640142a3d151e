-- The words that lemmas and answers speak in: definitions and lemmas from elsewhere that several files name.
pub use Rattle.index.specs.InOrder.{IsGap, at_indexes, compare_at, room_left}
pub use Rattle.std.proofs.Common.{[], ◌*◌, ◌++◌, ◌+◌, ◌-◌, ◌<◌, ◌^◌, ◌∙◌, ◌∷◌, ◌≡◌, ◌≢◌, ◌≤◌, List, None, Some, add-one}
pub use Rattle.std.proofs.Common.{add-zero, ap, arith, eqb, false, get_or, inl, inr, length, length-append, length-set}
pub use Rattle.std.proofs.Common.{map, refl, rules, set, slice_get, subst, suc, sym, zero, zero-add, ℕ}
pub use Rattle.std.proofs.lemmas.Bool.Decides.{nat_tests}
pub use Rattle.std.proofs.lemmas.Bool.{cases_lt}
pub use Rattle.std.proofs.lemmas.Grind.{common_steps}
pub use Rattle.std.proofs.lemmas.List.Elements.{recursion_from_All}
pub use Rattle.std.proofs.lemmas.List.Sorted.{IsPermutation-map, IsPermutation-refl}
pub use Rattle.std.proofs.lemmas.List.{append_assoc, map-append}
pub use Rattle.std.proofs.lemmas.Option.{get_or_from_slice_get, none-some, same_Some, slice_get-map, slice_get_read}
pub use Rattle.std.proofs.lemmas.Option.{slice_get_within}
pub use Rattle.std.specs.BTreeMap.{insert_entry, is_at}
pub use Rattle.std.specs.Cmp.{IsTotalOrder}
pub use Rattle.std.specs.List.Sorted.{IsPermutation}
unfoldable pub use Rattle.std.specs.List.Sorted.{IsStrictlySortedBy}
pub use Rattle.std.specs.List.{AllByRecursion as Each, insert, range_with_len}
unfoldable pub use Rattle.std.specs.List.{IsDistinct}
pub use Rattle.std.specs.Map.{keys_of, lookup, set_value}
pub use Rattle.std.specs.Option.{option_map}
pub use Rattle.std.specs.Ordering.{is_eq, ordering_reverse}
pub use Rattle.std.specs.Vec.{vec_capacity, vec_len}
pub use Rattle.std.specs.declared.cmp.Ordering.TheVariants.{Equal, Greater, Less}
pub use Rattle.std.specs.declared.cmp.Ordering.{Ordering}
