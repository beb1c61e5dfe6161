-- `body_check::check_tensor` meets its contract, which goes by the same tests. Assumes nothing.
use mathlib.Core.Path.{sym, ◌∙◌}
use borrow.Author.Tests.{not-true, not-false}
use Rattle.body_check.specs.BodyCheck.{check_tensor}
use Rattle.body_check.proofs.check_tensor.Goals as goal

pub returns-then-not-entries_fit : goal.returns-then-not-entries_fit
unfolding check_tensor
returns-then-not-entries_fit c = rw (sym c.entries_fit.ensures ∙ not-true _ c.if-not-entries_fit.true-raw) c.refused.ensures

pub returns-then-is_massless_inertia : goal.returns-then-is_massless_inertia
unfolding check_tensor
returns-then-is_massless_inertia c =
    let massless = c.before in
    rw (
      sym c.entries_fit.ensures
          ∙ not-false _ c.if-not-entries_fit.false-raw,
      ← c.largest_magnitude-largest.ensures,
      sym c.is_massless_inertia.ensures ∙ c.if-is_massless_inertia.true,
    )
    c.refused-then-is_massless_inertia.ensures

pub returns : goal.returns
unfolding check_tensor
returns c =
    let massive = c.before.before in
    rw (
      sym c.entries_fit.ensures
          ∙ not-false _ c.if-not-entries_fit.false-raw,
      ← c.largest_magnitude-largest.ensures,
      sym c.is_massless_inertia.ensures ∙ c.if-is_massless_inertia.false,
      ← c.eigenvalues.ensures,
    )
    c.check_moments.ensures
