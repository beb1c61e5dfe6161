-- `requests::join_points` meets its contract: the list holds the points, and is joined as they are. Assumes nothing.
use mathlib.Core.Path.{sym, ap, ◌∙◌}
use Prim.Native.Nat.{◌/◌, ◌<◌, ◌≤◌}
use native.Mathlib.Omega.{arith}
use borrow.Author.Tests.{le-leb, lt-leb}
use lib.ListN.{length}
use Rattle.joins.specs.Joins.{combine_of}
use Rattle.joins.proofs.Listed.{length_listed, first_bodies}
use Rattle.joins.proofs.JoinLaws.{combine_listed}
use Rattle.requests.specs.Calls.{point_body_at, joined_points_of}
use Rattle.requests.proofs.join_points.Goals as goal

pub returns-then-count-gt32 : goal.returns-then-count-gt32
unfolding joined_points_of
returns-then-count-gt32 c =
    let h : 1 ≤ length c.args.values.now / 4 = omega arith in
    let g : 32 < length c.args.values.now / 4 = omega arith in
    simp (le-leb _ _ h, lt-leb _ _ g)

pub slice_bounds-combine-end : goal.slice_bounds-combine-end
slice_bounds-combine-end c = sym (ap length (first_bodies _ _ _ c.write_points.ensures) ∙ length_listed _ _)

pub returns : goal.returns
unfolding joined_points_of
returns c =
    let a = c.args in
    c.combine.ensures.is
    ∙ ap combine_of (first_bodies _ _ _ c.write_points.ensures)
    ∙ combine_listed (point_body_at a.values.now) (length a.values.now / 4)
