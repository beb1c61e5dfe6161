-- `body_check::check` meets its contract, which goes by the same tests. Assumes nothing.
use mathlib.Core.Path.{sym, ◌∙◌}
use borrow.Author.Tests.{not-true, not-false}
use Rattle.refusals.proofs.Given.{is_answer}
use Rattle.body_check.proofs.check.Goals as goal

pub returns-then-not-is_finite : goal.returns-then-not-is_finite
returns-then-not-is_finite c = is_answer (rw (sym c.is_finite.ensures ∙ not-true _ c.if-not-is_finite.true-raw))

pub returns-then-mass : goal.returns-then-mass
returns-then-mass c =
    is_answer (rw (sym c.is_finite.ensures ∙ not-false _ c.if-not-is_finite.false-raw, c.if-mass.true))

pub returns-then-not-is_finite-2 : goal.returns-then-not-is_finite-2
returns-then-not-is_finite-2 c =
    let positive = c.before.before.before in
    is_answer (rw (
      sym c.is_finite.ensures
          ∙ not-false _ c.if-not-is_finite.false-raw,
      c.if-mass.false,
      sym c.is_finite-2.ensures ∙ not-true _ c.if-not-is_finite-2.true-raw,
    ))

pub returns : goal.returns
returns c =
    let placed = c.before.before in
    let positive = placed.before.before.before in
    is_answer
    (rw (
      sym c.is_finite.ensures
          ∙ not-false _ c.if-not-is_finite.false-raw,
      c.if-mass.false,
      sym c.is_finite-2.ensures ∙ not-false _ c.if-not-is_finite-2.false-raw,
    )
    c.check_tensor.ensures)
