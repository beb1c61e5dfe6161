-- `hexadecimal::read_figure` meets its contract: the two words hold the sixteen bytes, and eight digits read at once are
-- read digit by digit. Assumes nothing.
use mathlib.Core.Path.{sym, ap, ◌∙◌}
use Rattle.std.specs.Prelude.{Some}
use Rattle.hexadecimal.proofs.Reading.{other_length, first_bad, second_bad, both_good}
use Rattle.hexadecimal.proofs.read_figure.Goals as goal

pub returns-then-word-ne16 : goal.returns-then-word-ne16
returns-then-word-ne16 c = other_length _ c.if-word-ne16.true

pub returns-then-not-all_digits : goal.returns-then-not-all_digits
returns-then-not-all_digits c =
    first_bad _ c.if-word-ne16.false c.load-first.result c.load-second.result c.load-first.ensures c.load-second.ensures
    (sym c.all_digits.ensures ∙ c.if-not-all_digits.true)

pub returns-then-not-all_digits-2 : goal.returns-then-not-all_digits-2
returns-then-not-all_digits-2 c =
    second_bad _ c.if-word-ne16.false c.load-first.result c.load-second.result c.load-first.ensures c.load-second.ensures
    (sym c.all_digits.ensures ∙ c.if-not-all_digits.false)
    (sym c.all_digits-2.ensures ∙ c.if-not-all_digits-2.true)

pub returns : goal.returns
returns c =
    ap Some c.from_bits.ensures
    ∙ both_good _ c.if-word-ne16.false c.load-first.result c.load-second.result c.load-first.ensures c.load-second.ensures
    (sym c.all_digits.ensures ∙ c.if-not-all_digits.false)
    (sym c.all_digits-2.ensures ∙ c.if-not-all_digits-2.false) c.number.ensures.0 c.number-2.ensures.0
