-- What `clap` makes of words of which some are no options, whatever they are.
use Rattle.std.proofs.Common.{◌≡◌, [], ◌∷◌, ◌==◌, ◌&&◌, List, None, ℕ, Bool, false, true, refl, ap}
use Rattle.std.proofs.Common.{ap₂, ◌∙◌, fold, map}
use Rattle.std.proofs.lemmas.Bool.{ne_eqb}
use Rattle.std.specs.Str.{bytes_eq}
use Rattle.std.specs.List.{list_all}
use Rattle.clap.specs.Lexer.{long_of, short_of}
use Rattle.clap.specs.Simple.{Shape}
use Rattle.clap.specs.Takes.{default_passes, is_valid, level_passes, settle_passes, step_passes, turn_passes, walk_passes}
use Rattle.clap.specs.Walk.{Held, Row, Rule, Text, Waiting, Walk, after_step, finished, idle, nothing_held}
use Rattle.clap.specs.Walk.{option, plain_word, positional, rows_after, walk_from, walked, word_met}
use Rattle.command_line.specs.Tasks.{IsNoOption}

-- ---- one word

no_dashes : (word : Text) → IsNoOption word → bytes_eq word (45 ∷ 45 ∷ []) ≡ false
no_dashes [] h = refl
no_dashes (c ∷ cs) h = let e : (c == 45) ≡ false = ne_eqb c 45 h in rw e refl

no_long : (word : Text) → IsNoOption word → long_of word ≡ None
no_long [] h = refl
no_long (c ∷ cs) h = let e : (c == 45) ≡ false = ne_eqb c 45 h in rw e refl

no_short : (word : Text) → IsNoOption word → short_of word ≡ None
no_short [] h = refl
no_short (c ∷ cs) h = let e : (c == 45) ≡ false = ne_eqb c 45 h in rw e refl

met : (c : List Rule) (waiting : Waiting) (position : ℕ) (word : Text) (h : Held) → IsNoOption word
    → word_met c [] false waiting position word h ≡ plain_word c waiting word h
met c idle position word h plain = rw (no_dashes word plain, no_long word plain, no_short word plain) refl
met c (option id) position word h plain = rw (no_dashes word plain, no_long word plain, no_short word plain) refl
met c positional position word h plain = rw (no_dashes word plain, no_long word plain, no_short word plain) refl

-- the walk behind such a word
abbrev plainly : List Rule → Walk → Text → Walk
plainly c w word = after_step c word w (plain_word c w.waiting word w.held).0 (plain_word c w.waiting word w.held).1

steps : (c : List Rule) (w : Walk) (word : Text) → w.stopped ≡ None → w.is_trailing ≡ false → IsNoOption word
    → walked c [] w word ≡ plainly c w word
unfolding walked
steps c w word going before plain = rw (going, before, met c w.waiting w.position word w.held plain) refl

abbrev passes_plainly : Shape → Walk → Text → Bool
passes_plainly s w word =
    step_passes s w.position (plain_word s.rules w.waiting word w.held).0 (plain_word s.rules w.waiting word w.held).1

turns : (s : Shape) (w : Walk) (word : Text) → w.stopped ≡ None → w.is_trailing ≡ false → IsNoOption word
    → turn_passes s [] w word ≡ passes_plainly s w word
turns s w word going before plain = by w.waiting refl
  where
    by : (waiting : Waiting) → w.waiting ≡ waiting → turn_passes s [] w word ≡ passes_plainly s w word
    by idle is =
        rw (
          going,
          before,
          met s.rules w.waiting w.position word w.held plain,
          is,
          no_dashes word plain,
          no_long word plain,
          no_short word plain,
        ) refl
    by (option id) is =
        rw (
          going,
          before,
          met s.rules w.waiting w.position word w.held plain,
          is,
          no_dashes word plain,
          no_long word plain,
          no_short word plain,
        ) refl
    by positional is =
        rw (
          going,
          before,
          met s.rules w.waiting w.position word w.held plain,
          is,
          no_dashes word plain,
          no_long word plain,
          no_short word plain,
        ) refl

-- ---- many words, each with whether it is no option, whatever it is

abbrev pub Marked : Type 0
Marked = List (Bool × Text)

abbrev pub words_of : Marked → List Text
words_of = map (λ m. m.1)

abbrev pub walk_over : List Rule → Walk → Marked → Walk
walk_over c w [] = w
walk_over c w ((true, word) ∷ rest) = walk_over c (plainly c w word) rest
walk_over c w ((false, word) ∷ rest) = walk_over c (walked c [] w word) rest

abbrev pub Fit : List Rule → Walk → Marked → Type 0
Fit c w [] = Unit {0}
Fit c w ((true, word) ∷ rest) = (w.stopped ≡ None) × (w.is_trailing ≡ false) × IsNoOption word × Fit c (plainly c w word) rest
Fit c w ((false, word) ∷ rest) = Fit c (walked c [] w word) rest

abbrev pub passes_over : Shape → Walk → Marked → Bool
passes_over s w [] = true
passes_over s w ((true, word) ∷ rest) = passes_plainly s w word && passes_over s (plainly s.rules w word) rest
passes_over s w ((false, word) ∷ rest) = turn_passes s [] w word && passes_over s (walked s.rules [] w word) rest

walks : (c : List Rule) (w : Walk) (marked : Marked) → Fit c w marked
    → fold (walked c []) w (words_of marked) ≡ walk_over c w marked
walks c w [] fit = refl
walks c w ((true, word) ∷ rest) (going, before, plain, more) =
    ap (λ v. fold (walked c []) v (words_of rest)) (steps c w word going before plain)
    ∙ walks c (plainly c w word) rest more
walks c w ((false, word) ∷ rest) fit = walks c (walked c [] w word) rest fit

passes : (s : Shape) (w : Walk) (marked : Marked) → Fit s.rules w marked
    → walk_passes s [] w (words_of marked) ≡ passes_over s w marked
unfolding walk_passes
passes s w [] fit = refl
passes s w ((true, word) ∷ rest) (going, before, plain, more) =
    ap₂ (λ (b : Bool) (v : Walk). b && walk_passes s [] v (words_of rest)) (turns s w word going before plain)
    (steps s.rules w word going before plain)
    ∙ ap (λ (b : Bool). passes_plainly s w word && b) (passes s (plainly s.rules w word) rest more)
passes s w ((false, word) ∷ rest) fit =
    ap (λ (b : Bool). turn_passes s [] w word && b) (passes s (walked s.rules [] w word) rest fit)

-- ---- a command

abbrev pub start : Walk
start = walk_from nothing_held

abbrev pub rows_over : Shape → Marked → List Row
rows_over s marked = finished s.rules (walk_over s.rules start marked).held

pub are_rows : (s : Shape) (marked : Marked) → Fit s.rules start marked
    → rows_after s.rules [] (words_of marked) ≡ rows_over s marked
are_rows s marked fit = ap (λ (w : Walk). finished s.rules w.held) (walks s.rules start marked fit)

abbrev pub level_over : Shape → Marked → Bool
level_over s marked =
    let end = (walk_over s.rules start marked).held in
    passes_over s start marked
    && (settle_passes s.rules s.args_override_self end
    && (list_all default_passes s.rules && is_valid s (finished s.rules end) false))

pub are_taken : (s : Shape) (marked : Marked) → Fit s.rules start marked
    → level_passes s [] nothing_held (words_of marked) false ≡ level_over s marked
are_taken s marked fit =
    ap₂ (λ (b : Bool) (w : Walk).
    b
    && (settle_passes s.rules s.args_override_self w.held
    && (list_all default_passes s.rules && is_valid s (finished s.rules w.held) false)))
    (passes s start marked fit) (walks s.rules start marked fit)
