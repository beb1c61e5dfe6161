-- `drill::trapezoid_corners` meets its contract: each coordinate in steps, and the tip's end their sum. Assumes nothing.
use native.Mathlib.Omega.{arith}
use Rattle.polygons.proofs.Sizes.{result_back}
use Rattle.steps.specs.Steps.{exact_of}
use Rattle.steps.proofs.Lengths.{few_steps}
use Rattle.steps.proofs.Sums.{steps_of_sum}
use Rattle.drill.proofs.Reach.{steps_of_zero}
use Rattle.drill.proofs.trapezoid_corners.Goals as goal

pub sum-tip_end-requires : goal.sum-tip_end-requires
sum-tip_end-requires c =
    let sweep = c.steps-sweep in
    let tip = c.steps in (
      rw (result_back sweep.result sweep.type_inv, sweep.ensures) (few_steps c.args.sweep_m (c.requires.0 3 (omega arith))),
      rw (result_back tip.result tip.type_inv, tip.ensures) (few_steps c.args.tip_chord_m (c.requires.0 1 (omega arith))),
    )

pub returns : goal.returns
returns c =
    let tip = c.steps in
    let sweep = c.steps-sweep in
    let span = c.steps-span in
    let root = c.steps-root in
    rw (
      result_back c.sum-tip_end.result c.sum-tip_end.type_inv,
      c.sum-tip_end.ensures,
      result_back sweep.result sweep.type_inv,
      result_back span.result span.type_inv,
      result_back root.result root.type_inv,
      result_back tip.result tip.type_inv,
      sweep.ensures,
      span.ensures,
      root.ensures,
      tip.ensures,
      steps_of_zero,
      steps_of_sum (exact_of c.args.sweep_m) (exact_of c.args.tip_chord_m) c.requires.1 c.requires.2,
    )
