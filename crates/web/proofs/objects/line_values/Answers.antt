use Rattle.std.proofs.Common.{◌≡◌, ◌∙◌, ◌<◌, ◌+◌, ℕ, List, [], ◌∷◌, ◌++◌, ap, get_or, length, map, take}
use Rattle.std.proofs.lemmas.List.{map-append, take_all, take_more}
use Rattle.serde_json.proofs.Views.{view-Array}
use Rattle.serde_json.specs.Data.{Data, array}
use Rattle.serde_json.specs.View.{items_of, view}
use Rattle.serde_json.specs.declared.value.Value.{Value}
use Rattle.ledger.specs.declared.order.Line.{Line}
use Rattle.web.specs.Objects.{line_object}
use Rattle.web.proofs.objects.line_values.Goals as goal

one_more : (lines : List Line) (values more : List Value) (i : ℕ) (line : Line) (value : Value)
    → map view values ≡ map line_object (take i lines) → i < length lines → line ≡ get_or lines i line
    → view value ≡ line_object line → more ≡ values ++ value ∷ []
    → map view more ≡ map line_object (take (i + 1) lines)
one_more lines values more i line value before inside item is pushed =
    let next = take_more lines i line inside in
    rw (pushed, map-append, next, map-append, before, is, ← item)

pub loop-line-preserved : goal.loop-line-preserved
loop-line-preserved c =
    one_more c.args.lines.now _ _ c.loop-line.line-index c.line-item.result c.in_ok-line_value.field-0
    c.loop-line.invariant c.loop-line-test.true c.line-item.is c.in_ok-line_value.ensures c.in_ok-push.ensures.items

pub returns : goal.returns
returns c =
    view-Array _
    ∙ ap (λ (all : List Data). array (items_of all))
    (c.loop-line.invariant ∙ ap (map line_object) (take_all _ _ c.loop-line-test.false))
