-- `placements::write_copies` meets its contract: after k turns the first k copies stand in the list. Assumes nothing.
use mathlib.Core.Path.{ap, ◌∙◌}
use native.Mathlib.Omega.{arith}
use Rattle.joins.proofs.Listed.{none_written, one_written, length_written}
use Rattle.placements.specs.Copies.{copy_at}
use Rattle.placements.proofs.Counts.{below}
use Rattle.placements.proofs.write_copies.Goals as goal

pub loop-k-init : goal.loop-k-init
loop-k-init c = none_written _ _

pub place_at-requires : goal.place_at-requires
place_at-requires c = below c.loop-k-test.true c.requires.1

pub write_body-requires : goal.write_body-requires
write_body-requires c =
    let e = length_written _ _ c.loop-k.k c.loop-k.invariant (omega arith) in
    omega arith

pub loop-k-preserved : goal.loop-k-preserved
loop-k-preserved c =
    one_written _ _ c.loop-k.k c.loop-k.invariant (c.copy_at-copy.ensures ∙ ap (copy_at _) c.place_at.ensures)
    c.write_body.ensures
