-- `halving::repeat` meets its contract: from each turn on the halving is the whole one. Assumes nothing.
use mathlib.Core.Path.{◌≡◌, ◌∙◌}
use Prim.Native.Nat.{◌<◌}
use native.Mathlib.Omega.{arith}
use Rattle.pieces.specs.Stored.{read_at}
use Rattle.halving.proofs.Repeats.{begin, turn_ended, room, halves_thirty, turn_goes_on}
use Rattle.halving.proofs.repeat.Goals as goal

pub returns-in-Ended : goal.returns-in-Ended
returns-in-Ended c =
    rw c.answer.ensures
    (turn_ended _ _ _ _ _ _ _ c.loop-ending.invariant c.requires.2 _ c.judge-judged.ensures _ c.in-Ended.is)

pub halve-samples-requires : goal.halve-samples-requires
halve-samples-requires c =
    let r : (c.loop-ending.n < c.args.limit) × (c.in-Halve.place < c.loop-ending.n) =
    room _ _ _ _ _ _ _ c.loop-ending.invariant c.requires.2 _ c.judge-judged.ensures _ c.in-Halve.is in
    omega (arith, r, c.loop-ending.invariant.long, c.requires.2)

pub overflow_add-samples : goal.overflow_add-samples
overflow_add-samples c =
    omega (
      arith,
      (let it : c.halve-samples.result
          ≡ 30 = c.halve-samples.ensures.1 ∙ halves_thirty (read_at c.loop-ending.scratch c.in-Halve.place) in it),
      c.loop-ending.invariant.few,
      c.loop-ending.invariant.high,
      c.requires.1,
    )

pub loop-ending-smaller : goal.loop-ending-smaller
loop-ending-smaller c =
    let r : (c.loop-ending.n < c.args.limit) × (c.in-Halve.place < c.loop-ending.n) =
    room _ _ _ _ _ _ _ c.loop-ending.invariant c.requires.2 _ c.judge-judged.ensures _ c.in-Halve.is in
    omega (arith, r)

pub loop-ending-preserved : goal.loop-ending-preserved
loop-ending-preserved c =
    turn_goes_on _ _ _ _ _ _ _ c.loop-ending.invariant c.requires.2 _ c.judge-judged.ensures _ c.in-Halve.is _ _
    c.halve-samples.ensures
