-- `outlines::edge_touches` meets its contract: segments that are told apart do not touch. Assumes nothing.
use mathlib.Core.Path.{sym, ◌∙◌}
use Rattle.planforms.specs.Planforms.{pair_count}
use Rattle.segments.proofs.Apart.{apart_no_touch}
use Rattle.outlines.specs.Outlines.{edge_at}
use Rattle.outlines.proofs.Pairs.{next_inside}
use Rattle.outlines.proofs.edge_touches.Goals as goal

pub returns-then-are_apart : goal.returns-then-are_apart
returns-then-are_apart c =
    let points = c.args.points.now in
    let j = c.args.j in
    sym (apart_no_touch c.args.edge (edge_at points j) c.args.from c.args.to c.requires.from_value.0
    (rw (next_inside (pair_count points) j c.requires.j_bound) c.requires.from_value.1) (sym c.are_apart.ensures ∙ c.if-are_apart.true))
