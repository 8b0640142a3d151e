use Rattle.ledger.proofs.Prelude.{Bor, IsDistinct, List, MatchOption, None, Option, Some, [], ap, arith, false, find}
use Rattle.ledger.proofs.Prelude.{get_or, is_some, length, line_name, map, on, refl, same_name, subst, suc, sym, take}
use Rattle.ledger.proofs.Prelude.{true, true≢false, zero, ℕ, ◌<◌, ◌∙◌, ◌∷◌, ◌≡◌}
use Rattle.ledger.specs.declared.order.Line.{Line}
use Rattle.book.proofs.book.tables.good.are_apart.Goals as goal
use Rattle.book.proofs.CheckAnswers.{apart_push}
use Rattle.ledger.proofs.Lists.{each-unmap, each_get, take-step}
use Rattle.ledger.proofs.TestResults.{no}
use Rattle.ledger.proofs.FieldNames.{other_way}
use Rattle.ledger.proofs.Sums.{none_found}

none_before : (ls : List Line) (i : ℕ) (d : Line) → i < length ls → IsDistinct same_name (map line_name ls)
    → find (on (line_name (get_or ls i d))) (take i ls) ≡ None
unfolding IsDistinct
none_before [] i d lt apart = absurd (omega arith)
none_before (l ∷ ls) zero d lt apart = refl
none_before (l ∷ ls) (suc i) d lt apart =
    let away =
    other_way (line_name l) (line_name (get_or ls i d))
    (each_get (λ m. same_name (line_name l) (line_name m) ≡ false) ls i d (omega arith)
    (each-unmap (λ n. same_name (line_name l) n ≡ false) line_name ls apart.0)) in
    rw away (none_before ls i d (omega arith) apart.1)

pub loop-i-init : goal.loop-i-init
unfolding IsDistinct
loop-i-init c = tt

none_if : (r : Option (Bor Line)) (found : Option Line) → MatchOption r (found ≡ None) (λ line. found ≡ Some line.now)
    → is_some r ≡ false → found ≡ None
none_if None found e k = e
none_if (Some line) found e k = absurd (true≢false k)

some_if : (r : Option (Bor Line)) (found : Option Line) → MatchOption r (found ≡ None) (λ line. found ≡ Some line.now)
    → is_some r ≡ true → found ≡ None → ⊥
some_if None found e k none = true≢false (sym k)
some_if (Some line) found e k none = true≢false (sym (ap is_some e) ∙ ap is_some none)

pub loop-i-preserved : goal.loop-i-preserved
loop-i-preserved c =
    let none = none_if c.line_in.result _ c.line_in.ensures (sym c.is_some.ensures ∙ c.if-is_some.false) in
    subst (λ (ls : List Line). IsDistinct same_name (map line_name ls))
    (sym (take-step c.args.lines.now c.loop-i.i c.index-lines-i.result c.loop-i-test.true c.index-lines-i.is))
    (apart_push (take c.loop-i.i c.args.lines.now) c.index-lines-i.result c.loop-i.invariant
    (none_found (on (line_name c.index-lines-i.result)) (take c.loop-i.i c.args.lines.now) none))

pub returns-then-is_some : goal.returns-then-is_some
returns-then-is_some c = grind (arith, no, none_before, some_if)
