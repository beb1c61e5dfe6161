-- `outlines::check_edge` meets its contract: what is left to check from edge j on gives the answer, and `from` is the
-- place of edge j's start. Assumes nothing.
use Prim.Native.Nat.{ℕ, ◌-◌}
use mathlib.Core.Path.{◌≡◌, sym, ap, ◌∙◌}
use mathlib.Core.Bool.{Bool}
use mathlib.Core.List.{List}
use lib.Ieee.{Float}
use native.Mathlib.Omega.{arith}
use Rattle.refusals.proofs.Order.{goes_on, stops, ends}
use Rattle.planforms.specs.Planforms.{pair_count}
use Rattle.segments.specs.declared.Segment.{Segment}
use Rattle.segments.specs.Segments.{segments_touch}
use Rattle.outlines.specs.Outlines.{edge_at}
use Rattle.outlines.proofs.Pairs.{apart_accepted, touch_refused, from_second, last_check}
use Rattle.outlines.proofs.check_edge.Goals as goal

-- what `edge_touches` found of edges i and j
found : (points : List Float) (i j : ℕ) {edge : Segment} {r b : Bool} → edge ≡ edge_at points i → r ≡ segments_touch edge (edge_at points j)
    → r ≡ b →
    segments_touch (edge_at points i) (edge_at points j) ≡ b
found points i j e f h = ap (λ (s : Segment). segments_touch s (edge_at points j)) (sym e) ∙ sym f ∙ h

pub returns-then-n-first : goal.returns-then-n-first
returns-then-n-first c = ends _ _ _ _ (from_second c.args.points.now c.args.i) c.if-n-first.true

pub loop-j-init : goal.loop-j-init
loop-j-init c = (
  c.edge_at-edge.ensures,
  rw (c.place_beside-from.ensures, c.point_at.ensures),
  from_second
      c.args.points.now c.args.i,
)

pub returns-then-edge_touches : goal.returns-then-edge_touches
returns-then-edge_touches c =
    let head = c.loop-j in
    let points = c.args.points.now in
    let touch = found points c.args.i head.j head.invariant.0 c.edge_touches.ensures c.if-edge_touches.true in
    stops _ _ _ _ head.invariant.2 _ (omega arith) (touch_refused points c.args.i head.j (omega arith) (omega arith) touch)

pub loop-j-preserved : goal.loop-j-preserved
loop-j-preserved c =
    let head = c.loop-j in
    let points = c.args.points.now in
    let touch = found points c.args.i head.j head.invariant.0 c.edge_touches.ensures c.if-edge_touches.false in (
      head.invariant.0,
      rw (c.place_beside-to.ensures, c.point_at-in-loop-j.ensures),
      goes_on _ _ _ _ head.invariant.2 (omega arith) (apart_accepted points c.args.i head.j touch),
    )

pub returns : goal.returns
returns c =
    let head = c.loop-j in
    let last : head.j ≡ pair_count c.args.points.now - 1 = omega arith in
    c.check_pair.ensures ∙ last_check _ _ _ _ (rw last at head.invariant.2) (omega arith) (omega arith)
