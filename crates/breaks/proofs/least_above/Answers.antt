-- `breaks::least_above` meets its contract: the span and 0 stand in front of the heights of the points. Assumes nothing.
use Rattle.breaks.proofs.Above.{both_with}
use Rattle.breaks.proofs.least_above.Goals as goal

pub returns : goal.returns
returns c =
    let with_span = c.before in
    let found = with_span.before in
    let a = c.args in
    both_with a.planform a.points.now a.h a.span c.requires c.least_of_points-found.result c.nearer-found.result
    c.least_of_points-found.ensures.0 c.nearer-found.ensures _ c.nearer.ensures
