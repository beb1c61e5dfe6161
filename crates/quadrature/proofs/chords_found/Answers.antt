-- `quadrature::chords_found` meets its contract: after i turns the first i are found. Assumes nothing.
use mathlib.Core.Path.{refl}
use native.Mathlib.Nat.{not-suc-le-zero}
use native.Mathlib.Omega.{arith}
use lib.ListN.{length-set}
use Rattle.floats.proofs.Filled.{one_filled}
use Rattle.quadrature.proofs.chords_found.Goals as goal

pub loop-i-init : goal.loop-i-init
loop-i-init c = (refl, λ i l. absurd (not-suc-le-zero l))

pub chords_at-requires : goal.chords_at-requires
chords_at-requires c = c.requires c.loop-i.i (omega arith)

pub loop-i-preserved : goal.loop-i-preserved
loop-i-preserved c =
    let head = c.loop-i in (
      simp length-set head.invariant.0,
      one_filled _ _ head.found head.i _ (omega arith) head.invariant.1
          c.chords_at.ensures,
    )

pub returns : goal.returns
returns c j l = c.loop-i.invariant.1 j (omega arith)
