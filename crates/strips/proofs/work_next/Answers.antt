-- `strips::work_next` meets its contract: the strip from a height up to the next one, where there is one. Assumes nothing.
use Rattle.strips.proofs.Onwards.{went_on, went_nowhere}
use Rattle.strips.proofs.work_next.Goals as goal

pub least_above-found-requires : goal.least_above-found-requires
least_above-found-requires c = c.requires.1

pub returns-then-lower-upper : goal.returns-then-lower-upper
returns-then-lower-upper c =
    let a = c.args in
    went_on a.integrand a.points.now a.limit a.i c.height_at-lower.result c.height_at-lower.ensures
    c.least_above-found.result
    c.least_above-found.ensures a.totals a.scratch.now c.if-lower-upper.true a.span c.requires.1 _ _
    c.work_strip-total.ensures

pub returns : goal.returns
returns c =
    let a = c.args in
    went_nowhere a.integrand a.points.now a.limit a.i c.height_at-lower.result c.height_at-lower.ensures
    c.least_above-found.result
    c.least_above-found.ensures a.totals a.scratch.now c.if-lower-upper.false
