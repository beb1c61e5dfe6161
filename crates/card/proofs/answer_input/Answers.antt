-- `card::answer_input` meets its contract: what it lends is what `run` asks for. Assumes nothing.
use mathlib.Core.Path.{refl, sym}
use native.Mathlib.Omega.{arith}
use lib.Seq.{length-take-le}
use Rattle.card.specs.Program.{at_first}
use Rattle.card.proofs.answer_input.Goals as goal

pub run-end-requires : goal.run-end-requires
unfolding at_first
run-end-requires c = (
  record { line = omega arith; within = omega arith; some = omega arith; most = omega arith },
  (omega arith, omega arith),
  refl,
)

pub slice_bounds-write_all-end : goal.slice_bounds-write_all-end
slice_bounds-write_all-end c =
    sym (length-take-le c.run-end.result.told c.run-end.new.replying.out c.run-end.ensures.tells.room)
