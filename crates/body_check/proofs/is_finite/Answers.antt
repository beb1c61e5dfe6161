-- `body_check::is_finite` meets its contract, which goes by the same tests. Assumes nothing.
use mathlib.Core.Path.{sym, ◌∙◌}
use borrow.Author.Tests.{not-true, not-false}
use Rattle.body_check.proofs.is_finite.Goals as goal

pub returns-then-not-is_finite : goal.returns-then-not-is_finite
returns-then-not-is_finite c = rw (sym c.is_finite.ensures ∙ not-true _ c.if-not-is_finite.true-raw)

pub returns-then-not-is_finite-2 : goal.returns-then-not-is_finite-2
returns-then-not-is_finite-2 c = rw (
  sym c.is_finite.ensures
      ∙ not-false _ c.if-not-is_finite.false-raw,
  sym c.is_finite-2.ensures ∙ not-true _ c.if-not-is_finite-2.true-raw,
)

pub returns : goal.returns
returns c = rw (
  sym c.is_finite.ensures
      ∙ not-false _ c.if-not-is_finite.false-raw,
  sym c.is_finite-2.ensures ∙ not-false _ c.if-not-is_finite-2.false-raw,
)
    c.is_finite-3.ensures
