-- `templates::take_word` meets its contract: each answer by the law of its case. Assumes nothing.
use mathlib.Core.Bool.{true}
use mathlib.Core.Path.{◌≡◌, refl, sym, ap, ◌∙◌}
use Prim.Native.Nat.{◌<◌}
use lib.Ieee.{Float}
use lib.ListN.{length}
use Rattle.std.specs.Prelude.{Some}
use Rattle.tokens.specs.Text.{text}
use Rattle.tokens.specs.Found.{part}
use Rattle.figure_words.specs.FigureWords.{figure_word}
use Rattle.templates.specs.Matching.{same_bytes}
use Rattle.templates.proofs.Steps.{letter_f, plain_word, no_figure_lem, figure_room, figure_read, as_is}
use Rattle.templates.proofs.take_word.Goals as goal
use Rattle.templates.proofs.take_word.Goals.{After-read_figure, Then-figure}

-- the template's word is `F`
is_f : (c : Then-figure) → same_bytes c.args.wanted.now (text "F") ≡ true
is_f c = ap (same_bytes c.args.wanted.now) letter_f ∙ sym c.same_bytes-figure.ensures ∙ c.if-figure.true

room_at : (c : After-read_figure) (x : Float)
    → figure_word (part c.args.line.now c.args.found.from c.args.found.to) ≡ Some x
    → c.args.c.figures < length c.args.values.now
room_at c x n =
    (figure_room c.args.line.now c.args.values.now c.args.c c.args.found c.args.wanted.now c.requires.0 c.requires.1
    x n).1

pub bounds-values-figures : goal.bounds-values-figures
bounds-values-figures c = room_at (goal.at.bounds-values-figures c).After-read_figure c.in-Some.x
    (sym c.read_figure.ensures ∙ c.in-Some.is)

pub returns-in-Some : goal.returns-in-Some
returns-in-Some c =
    figure_read c.args.line.now c.args.values.now c.args.c c.args.found c.args.wanted.now c.requires.0 c.requires.1
    c.in-Some.x (is_f (goal.at.returns-in-Some c).Then-figure) (sym c.read_figure.ensures ∙ c.in-Some.is)

pub returns-in-None : goal.returns-in-None
returns-in-None c =
    as_is _ _ _ _ c.take_no_figure.ensures refl
    (no_figure_lem c.args.line.now c.args.values.now c.args.c c.args.found c.args.wanted.now c.requires.0
    c.requires.1 (is_f (goal.at.returns-in-None c).Then-figure) (sym c.read_figure.ensures ∙ c.in-None.is))

pub returns-else-figure : goal.returns-else-figure
returns-else-figure c =
    as_is _ _ _ _ c.take_plain.ensures refl
    (plain_word c.args.line.now c.args.values.now c.args.c c.args.found c.args.wanted.now c.requires.0
    c.requires.1 (ap (same_bytes c.args.wanted.now) letter_f ∙ sym c.same_bytes-figure.ensures ∙ c.if-figure.false))
