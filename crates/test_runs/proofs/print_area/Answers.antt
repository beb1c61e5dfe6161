-- The template has room.
use native.Mathlib.Omega.{arith}
use Rattle.answers.specs.Filled.{room}
use Rattle.test_runs.proofs.print_area.Goals as goal

pub put_filled-requires : goal.put_filled-requires
unfolding room
put_filled-requires c = omega arith
