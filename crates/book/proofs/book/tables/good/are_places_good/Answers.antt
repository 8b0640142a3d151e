use Rattle.ledger.proofs.Prelude.{◌∙◌, ◌≡◌, ◌≤◌, Bool, IsDistinct, Kept, List, ap, arith, false, length, list_any, map}
use Rattle.ledger.proofs.Prelude.{map-map, nat_eq, refl, slice_index_or, subst, sym, take, take_all, true, ℕ}
use Rattle.book.proofs.Prelude.{KeptEntry, kept_of}
use Rattle.std.proofs.lemmas.List.{get_or-replicate, length-set}
use Rattle.ledger.proofs.Lists.{each-unmap, apart_next, marks_next, not_before, each-at, each-end, each-next}
use Rattle.ledger.proofs.Sums.{each-map}
use Rattle.ledger.proofs.TestResults.{no, true_not_false, yes}
use Rattle.book.proofs.book.tables.good.are_places_good.Goals as goal

abbrev Entry : Type 0
Entry = List ℕ × KeptEntry

abbrev place : Entry → ℕ
place e = e.1.place

pub loop-entry-init : goal.loop-entry-init
unfolding IsDistinct
loop-entry-init c = grind (arith, get_or-replicate)

pub loop-entry-preserved : goal.loop-entry-preserved
loop-entry-preserved c =
    let kept = c.args.kept.now in
    let i = c.loop-entry.entry-index in
    let e = c.entry-item.result in
    let free = c.if-not-is_free.ensures.0 refl in
    let same = c.deref.ensures.value in
    let long = ap (λ (bs : List Bool). length bs) same in
    let size = c.loop-entry.invariant.long in
    let off =
    sym (c.loop-entry.invariant.marks e.1.place (omega arith))
    ∙ ap (λ (bs : List Bool). slice_index_or bs e.1.place true) (sym same) ∙ free.2 in
    record {
      long = length-set c.loop-entry.taken.items e.1.place true ∙ c.loop-entry.invariant.long;
      range =
          each-next (λ e. (1 ≤ e.1.place) × (e.1.place ≤ length kept)) kept i e c.loop-entry-test.true c.entry-item.is
          c.loop-entry.invariant.range (free.0, omega arith);
      apart = apart_next place kept i e c.loop-entry-test.true c.entry-item.is c.loop-entry.invariant.apart off;
      marks = λ p at_most. marks_next place kept i e c.loop-entry.taken.items p c.loop-entry-test.true c.entry-item.is
          (omega arith) (c.loop-entry.invariant.marks p at_most);
    }

pub returns-then-not-is_free : goal.returns-then-not-is_free
returns-then-not-is_free c = no (λ good.
    let kept = c.args.kept.now in
    let i = c.loop-entry.entry-index in
    let e = c.entry-item.result in
    let range =
    each-at (λ e. (1 ≤ e.1.place) × (e.1.place ≤ length kept)) kept i e c.loop-entry-test.true c.entry-item.is
    (each-unmap (λ (k : Kept). (1 ≤ k.place) × (k.place ≤ length kept)) kept_of kept good.0) in
    let low = range.0 in
    let high = range.1 in
    let same = c.deref.ensures.value in
    let size = c.loop-entry.invariant.long in
    let off = subst (λ (x : Entry). list_any (λ y. nat_eq (place y) (place x)) (take i kept) ≡ false) (sym c.entry-item.is)
    (not_before place kept i e c.loop-entry-test.true
    (subst (IsDistinct nat_eq) (map-map (λ (k : Kept). k.place) kept_of kept) good.1)) in
    let free =
    ap (λ (bs : List Bool). slice_index_or bs e.1.place true) same ∙ c.loop-entry.invariant.marks e.1.place high
    ∙ off in
    true_not_false (c.is_free.ensures.1 (low, omega arith, free)) c.if-not-is_free.true)

pub returns : goal.returns
returns c =
    let kept = c.args.kept.now in
    let i = c.loop-entry.entry-index in
    yes (
      each-map (λ (k : Kept). (1 ≤ k.place) × (k.place ≤ length kept)) kept_of kept
          (each-end (λ e. (1 ≤ e.1.place) × (e.1.place ≤ length kept)) kept i c.loop-entry-test.false
          c.loop-entry.invariant.range),
      subst (IsDistinct nat_eq) (sym (map-map (λ (k : Kept). k.place) kept_of kept))
          (subst (λ (es : List Entry). IsDistinct nat_eq (map place es)) (take_all i kept c.loop-entry-test.false)
          c.loop-entry.invariant.apart),
    )
