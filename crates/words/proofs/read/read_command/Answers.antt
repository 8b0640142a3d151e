use Rattle.std.proofs.Common.{◌≡◌, ◌∷◌, ◌∙◌, List, ℕ, ap, codes, sym}
use Rattle.std.proofs.lemmas.Slice.Eq.{bytes_eq-Decides}
use Rattle.words.specs.Words.{words_of}
use Rattle.words.proofs.ByKind.{none_spelled, open_found, opening, spelled}
use Rattle.words.proofs.read.read_command.Goals as goal
use Rattle.words.proofs.read.read_command.Goals.{After-read_open}

-- the words of the bytes, of which the first is `open`
words : (c : After-read_open) → words_of c.args.bytes.now ≡ codes "open" ∷ words_of c.in-Some.rest.now
words c =
    let verb : c.in-Some.verb.now ≡ codes "open" =
    (bytes_eq-Decides c.in-Some.verb.now c.as_slice.result.now).0 (sym c.if-eq.ensures) ∙ c.as_slice.ensures in
    c.in-Some.ensures.parts ∙ ap (λ (v : List ℕ). v ∷ words_of c.in-Some.rest.now) verb

pub returns-then-eq-clause-found : goal.returns-then-eq-clause-found
returns-then-eq-clause-found c = open_found _ _ _ (words c) c.read_open.ensures.form c.read_open.ensures.found

pub returns-then-eq-clause-bad : goal.returns-then-eq-clause-bad
returns-then-eq-clause-bad c bad = none_spelled _ _ (words c) (c.read_open.ensures.bad bad)

pub returns-then-eq-clause-memory : goal.returns-then-eq-clause-memory
returns-then-eq-clause-memory c refused = opening c.args.bytes.now c.in-Some.rest.now (words c)

pub returns-in-Some-read_plain-clause-found : goal.returns-in-Some-read_plain-clause-found
returns-in-Some-read_plain-clause-found c =
    spelled _ _ _ c.in-Some.ensures.parts c.in-Some-read_plain.ensures.form c.in-Some-read_plain.ensures.found

pub returns-in-None-clause-bad : goal.returns-in-None-clause-bad
returns-in-None-clause-bad c bad = none_spelled _ _ c.in-Some.ensures.parts c.in-None.ensures.none
