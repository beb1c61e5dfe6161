-- `figure_words::read_unsigned` meets its contract: by where the digits stop, and behind a point by where the next ones
-- do. Assumes nothing.
use mathlib.Core.Path.{◌≡◌}
use mathlib.Core.Bool.{Bool}
use mathlib.Core.List.{List}
use Prim.Native.Nat.{ℕ, ◌+◌, ◌-◌, ◌≤◌}
use lib.ListN.{length, drop}
use lib.Ieee.{Float}
use Rattle.std.specs.Prelude.{Some, None}
use Rattle.decimals.specs.Decimals.{decimal_of}
use Rattle.figure_words.specs.FigureWords.{unsigned_figure}
use Rattle.figure_words.proofs.Words.{none, whole_read, other_byte, for_second, no_fraction, more, few_behind, all_read}
use Rattle.figure_words.proofs.read_unsigned.Goals as goal
use Rattle.figure_words.proofs.read_unsigned.Goals.{After-digits_from-all}

pub returns-then-end-at : goal.returns-then-end-at
returns-then-end-at c = let a = c.args in
    none a.bare a.minus a.word.now a.at _ _ c.digits_from-whole.ensures c.if-end-at.true

pub returns-then-end-word : goal.returns-then-end-word
returns-then-end-word c =
    let a = c.args in
    whole_read a.bare a.minus a.word.now a.at _ _ c.digits_from-whole.ensures c.if-end-word.true
    c.whole_figure.ensures

pub returns-then-word-end-ne46 : goal.returns-then-word-end-ne46
returns-then-word-end-ne46 c =
    let a = c.args in
    other_byte a.bare a.minus a.word.now a.at _ _ c.digits_from-whole.ensures c.if-end-word.false c.if-word-end-ne46.true

pub digits_from-all-requires : goal.digits_from-all-requires
digits_from-all-requires c =
    let a = c.args in
    for_second a.bare a.minus a.word.now a.at _ _ c.digits_from-whole.ensures c.if-end-word.false

-- what holds behind the point, wherever the second run ends
record Behind (bare minus : Bool) (w : List ℕ) (at e m' e' : ℕ) : Type 0 where
  none_there : e' ≡ e + 1 → None ≡ unsigned_figure bare minus (drop at w)
  more_there : (e' ≡ length w → ⊥) → None ≡ unsigned_figure bare minus (drop at w)
  few : e' - e - 1 ≤ 18
  read : e' ≡ length w → (e' ≡ e + 1 → ⊥) → {x : Float} → x ≡ decimal_of minus m' (e' - e - 1)
      → Some x ≡ unsigned_figure bare minus (drop at w)

behind : (c : After-digits_from-all) →
    let a = c.args in
    Behind a.bare a.minus a.word.now a.at c.digits_from-whole.result.end c.digits_from-all.result.number
    c.digits_from-all.result.end
behind c =
    let a = c.args in
    let r = c.digits_from-whole.ensures in
    let inside = c.if-end-word.false in
    let point = c.if-word-end-ne46.false in
    let some = c.if-end-at.false in
    let q = c.digits_from-all.ensures in
    record {
      none_there = no_fraction a.bare a.minus a.word.now a.at _ _ r inside point some _ _ q;
      more_there = more a.bare a.minus a.word.now a.at _ _ r inside point some _ _ q;
      few = few_behind a.bare a.minus a.word.now a.at _ _ r inside point some _ _ q;
      read = all_read a.bare a.minus a.word.now a.at _ _ r inside point some _ _ q;
    }

pub returns-then-last-end : goal.returns-then-last-end
returns-then-last-end c = (behind (goal.at.returns-then-last-end c).After-digits_from-all).none_there c.if-last-end.true

pub returns-then-last-word : goal.returns-then-last-word
returns-then-last-word c = (behind (goal.at.returns-then-last-word c).After-digits_from-all).more_there c.if-last-word.true

pub nearest_decimal-requires : goal.nearest_decimal-requires
nearest_decimal-requires c = (behind (goal.at.nearest_decimal-requires c).After-digits_from-all).few

pub returns : goal.returns
returns c = (behind (goal.at.returns c).After-digits_from-all).read c.if-last-word.false c.if-last-end.false
    c.nearest_decimal.ensures.0
