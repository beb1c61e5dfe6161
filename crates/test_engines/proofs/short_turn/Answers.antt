-- The lent part is short enough.
use Rattle.std.proofs.Common.{arith, length-take}
use Rattle.test_engines.proofs.short_turn.Goals as goal

pub slice_bounds-turn-end-2 : goal.slice_bounds-turn-end-2
slice_bounds-turn-end-2 c = simp length-take (omega arith)
