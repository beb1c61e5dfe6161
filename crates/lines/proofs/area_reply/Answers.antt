-- `lines::area_reply` meets its contract: the figures are those that the call gives. Assumes nothing.
use mathlib.Core.List.{List}
use lib.ListN.{length}
use lib.Ieee.{Float}
use Rattle.figures.specs.Areas.{area_call}
use Rattle.lines.specs.Lines.{area_reply}
use Rattle.lines.proofs.Served.{replied}
use Rattle.lines.proofs.area_reply.Goals as goal

pub returns : goal.returns
returns c =
    let s = c.args in
    replied (λ (p : List Float). area_call s.planform p s.limit (length s.scratch.now)) area_reply
    c.first-outline.ensures c.geometry-a.ensures.call c.unless_refused.ensures
