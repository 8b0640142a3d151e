use Rattle.std.proofs.Common.{◌≡◌, arith, sym, true≢false}
use Rattle.words.specs.OpenLines.{line_words}
use Rattle.words.proofs.ByKind.{none_open}
use Rattle.words.proofs.OrderLines.{first_word, length_of_words}
use Rattle.words.proofs.read.read_open.Goals as goal

pub returns-in_default-clause-bad : goal.returns-in_default-clause-bad
returns-in_default-clause-bad c is = none_open _ (λ n until lines h e.
    let first = first_word lines h.2.some in
    c.in_default.ensures.none n until first.0 first.1 h.0 h.1 (cc (e, first.2)))

pub returns-in-None-clause-bad : goal.returns-in-None-clause-bad
returns-in-None-clause-bad c is = none_open _ (λ n until lines h e.
    let same : line_words c.in-Ok.lines.items ≡ line_words lines = cc (c.in-Some.ensures.found, c.in-Ok.ensures.found, e) in
    let many = length_of_words c.in-Ok.lines.items lines same in
    true≢false (sym (c.in-None.ensures.some.1 (omega (arith, many, h.2.some), omega (arith, many, h.2.fits)))))
