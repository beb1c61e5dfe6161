-- `steps::parts_of` meets its contract: zero has no units, and a length has as many as its magnitude. Assumes nothing.
use mathlib.Core.Path.{sym, ap, ◌∙◌}
use Prim.Native.Nat.{ℕ, ◌*◌}
use native.Mathlib.Omega.{arith}
use Rattle.floats.specs.Units.{units_of}
use Rattle.steps.proofs.Signs.{zero_units, magnitude_units, magnitude_within}
use Rattle.steps.proofs.parts_of.Goals as goal

pub returns-then-length_m : goal.returns-then-length_m
returns-then-length_m c = record
    { some = omega arith; is = ap (λ (n : ℕ). n * 1) (zero_units c.args.length_m c.if-length_m.true); most = omega arith }

pub parts_of_magnitude-requires : goal.parts_of_magnitude-requires
parts_of_magnitude-requires c = rw c.abs.ensures
    (magnitude_within c.args.length_m c.if-length_m.false c.requires)

pub returns : goal.returns
returns c =
    let p = c.parts_of_magnitude.ensures in
    let same = ap units_of c.abs.ensures ∙ magnitude_units c.args.length_m in
    record { some = p.some; is = ap (λ (n : ℕ). n * c.parts_of_magnitude.result.step) (sym same) ∙ p.is; most = p.most }
