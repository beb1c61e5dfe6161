-- `outlines::check_points` meets its contract: what is left to check from point i on gives the answer. Assumes nothing.
use Rattle.std.proofs.Common.{◌≡◌, Err, rules}
use mathlib.Core.Path.{sym, ◌∙◌}
use Rattle.refusals.proofs.Order.{goes_on, stops, ends}
use Rattle.outlines.proofs.check_points.Goals as goal

pub returns-in_err-check_point : goal.returns-in_err-check_point
returns-in_err-check_point c =
    let refused : c.from_residual.result ≡ Err c.in_err-check_point.field-0.0 = search rules in
    refused ∙ stops _ _ _ _ c.loop-i.invariant _ c.loop-i-test.true
    (sym c.check_point.ensures ∙ c.in_err-check_point.was)

pub loop-i-preserved : goal.loop-i-preserved
loop-i-preserved c =
    goes_on _ _ _ _ c.loop-i.invariant c.loop-i-test.true
    (sym c.check_point.ensures ∙ c.in_ok-check_point.was)

pub returns : goal.returns
returns c = ends _ _ _ _ c.loop-i.invariant c.loop-i-test.false
