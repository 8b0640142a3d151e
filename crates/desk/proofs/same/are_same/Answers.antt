use Rattle.std.proofs.Common.{◌≡◌, ◌∙◌, ◌+◌, ◌<◌, ◌≤◌, ◌++◌, ◌∷◌, ℕ, [], List, ap, arith, get_or, length, refl, subst}
use Rattle.std.proofs.Common.{sym, take, true≢false}
use Rattle.std.specs.List.{AllZip}
use Rattle.std.proofs.lemmas.List.{take_all, take_more}
use Rattle.std.proofs.lemmas.List.Elements.{AllZip-get_or, AllZip-push, length_all_zip}
use Rattle.ledger.specs.declared.rows.Change.{Change}
use Rattle.desk.specs.Deferred.{IsSameRow}
use Rattle.desk.proofs.same.are_same.Goals as goal

-- one pair more
copied_more : (cs ds : List Change) (i : ℕ) (c d : Change) → i < length cs → i < length ds → c ≡ get_or cs i c
    → d ≡ get_or ds i d → AllZip IsSameRow (take i cs) (take i ds) → IsSameRow c d
    → AllZip IsSameRow (take (i + 1) cs) (take (i + 1) ds)
copied_more cs ds i c d low high c_is d_is so_far copy =
    let one : take (i + 1) cs ≡ take i cs ++ c ∷ [] =
    take_more cs i c low ∙ ap (λ (x : Change). take i cs ++ x ∷ []) (sym c_is) in
    let other : take (i + 1) ds ≡ take i ds ++ d ∷ [] =
    take_more ds i d high ∙ ap (λ (x : Change). take i ds ++ x ∷ []) (sym d_is) in
    subst (λ (xs : List Change). AllZip IsSameRow xs (take (i + 1) ds)) (sym one)
    (subst (λ (ys : List Change). AllZip IsSameRow (take i cs ++ c ∷ []) ys) (sym other)
    (AllZip-push IsSameRow (take i cs) (take i ds) c d so_far copy))

copied_whole : (cs ds : List Change) (i : ℕ) → length cs ≡ length ds → length cs ≤ i
    → AllZip IsSameRow (take i cs) (take i ds) → AllZip IsSameRow cs ds
copied_whole cs ds i same end copies =
    subst (λ (xs : List Change). AllZip IsSameRow xs ds) (take_all i cs end)
    (subst (λ (ys : List Change). AllZip IsSameRow (take i cs) ys) (take_all i ds (omega arith)) copies)

pub loop-i-preserved : goal.loop-i-preserved
loop-i-preserved c =
    copied_more c.args.changes.now c.args.copies.now c.loop-i.i c.index-changes-i.result c.index-copies-i.result
    c.loop-i-test.true (omega (arith, c.if-changes-copies.false)) c.index-changes-i.is c.index-copies-i.is
    c.loop-i.invariant
    (c.if-not-same_row.ensures.0 refl)

pub returns : goal.returns
returns c = (
  λ yes. copied_whole c.args.changes.now c.args.copies.now c.loop-i.i c.if-changes-copies.false c.loop-i-test.false
      c.loop-i.invariant,
  λ same. refl,
)

pub returns-then-changes-copies : goal.returns-then-changes-copies
returns-then-changes-copies c = (
  λ never. absurd (true≢false (sym never)),
  λ same. absurd (c.if-changes-copies.true (length_all_zip IsSameRow _ _ same)),
)

pub returns-then-not-same_row : goal.returns-then-not-same_row
returns-then-not-same_row c =
    let one = c.index-changes-i in
    let other = c.index-copies-i in (
      λ never. absurd (true≢false (sym never)),
      λ same.
          let at =
          AllZip-get_or IsSameRow c.args.changes.now c.args.copies.now c.loop-i.i one.result other.result same
          c.loop-i-test.true in
          c.if-not-same_row.ensures.1
          (subst (λ (d : Change). IsSameRow d other.result) (sym one.is)
          (subst (λ (d : Change). IsSameRow (get_or c.args.changes.now c.loop-i.i one.result) d) (sym other.is)
          at)),
    )
