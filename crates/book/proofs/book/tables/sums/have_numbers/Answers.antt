use Rattle.ledger.proofs.Prelude.{◌<◌, ◌≡◌, List, Name, arith, get_or, length, map, pos, refl, subst, ℕ}
use Rattle.book.proofs.Prelude.{FieldEntry, HasNumbers, Numbers, entry_name}
use Rattle.ledger.proofs.Lists.{each-next, get-of-map}
use Rattle.book.proofs.book.tables.sums.have_numbers.Goals as goal

-- what stands for numbers past the last
abbrev none : Numbers
none = record { moved = pos 0; takes = pos 0; adds = pos 0 }

-- the numbers at hand are those of the field at hand
at_hand : (sums : List Numbers) (fields : List (Name × FieldEntry)) (i : ℕ) (f : Name × FieldEntry)
    (numbers : Name → Numbers) → sums ≡ map (λ f. numbers (entry_name f)) fields → i < length fields
    → f ≡ get_or fields i f
    → get_or sums i none ≡ numbers (entry_name f)
at_hand sums fields i f numbers same within is = grind (arith, get-of-map)

pub loop-i-preserved : goal.loop-i-preserved
loop-i-preserved c numbers same =
    let fields = c.args.fields.now in
    let i = c.loop-i.i in
    let f = c.index-fields-i.result in
    let within = c.loop-i-test.true in
    each-next (λ e. HasNumbers (numbers e.0) e.1) fields i f within c.index-fields-i.is (c.loop-i.invariant numbers same)
    (subst (λ n. HasNumbers n f.1) (at_hand c.args.sums.now fields i f numbers same within c.index-fields-i.is)
    (c.if-not-has_numbers.ensures.0 refl))
