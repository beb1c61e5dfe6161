-- `steps::parts_of_magnitude` meets its contract: the bit pattern's fields say it. Assumes nothing.
use mathlib.Core.Path.{◌≡◌, sym, subst, ◌∙◌, ap}
use Prim.Native.Nat.{◌+◌, ◌-◌, ◌%◌, ◌^◌}
use native.Mathlib.Omega.{arith}
use lib.Dec.{T}
use lib.Ieee.{Float, binary64}
use lib.Ieee.Bits.{of_bits-to_bits}
use Rattle.floats.specs.Operations.{bits}
use Rattle.root.proofs.Patterns.{field}
use Rattle.limits.specs.Limits.{shortest, longest, is_within}
use Rattle.steps.specs.Parts.{AreParts}
use Rattle.steps.proofs.Fields.{field_low, field_high, step_is, parts}
use Rattle.steps.proofs.parts_of_magnitude.Goals as goal
use Rattle.steps.proofs.parts_of_magnitude.Goals.{After-to_bits-b}

held : (c : After-to_bits-b) → bits c.to_bits-b.result ≡ c.args.magnitude_m
held c = ap bits c.to_bits-b.ensures ∙ of_bits-to_bits binary64 c.args.magnitude_m (subst T (sym c.well_formed.0.1) tt)

within : (c : After-to_bits-b) → T (is_within shortest longest (bits c.to_bits-b.result))
within c = subst (λ (x : Float). T (is_within shortest longest x)) (sym (held c)) c.requires

pub overflow_sub-result : goal.overflow_sub-result
overflow_sub-result c = omega (arith, field_high c.to_bits-b.result (within (goal.at.overflow_sub-result c).After-to_bits-b))

pub overflow_shl-result : goal.overflow_shl-result
overflow_shl-result c = omega (arith, field_low c.to_bits-b.result (within (goal.at.overflow_shl-result c).After-to_bits-b))

pub returns : goal.returns
returns c =
    let m = (goal.at.returns c).After-to_bits-b in
    let b = c.to_bits-b.result in
    rw (step_is b (within m))
    (subst (λ (x : Float). AreParts x (2 ^ 52 + b % 2 ^ 52) (2 ^ (1055 - field b))) (held m) (parts b (within m)))
