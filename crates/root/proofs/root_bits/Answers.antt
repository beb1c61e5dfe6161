-- `root::root_bits` meets its contract: the root has 53 digits, so the sum fits, and it is the root's pattern. Assumes nothing.
use mathlib.Core.Path.{ap, ◌∙◌}
use Prim.Native.Nat.{ℕ, ◌+◌, ◌*◌, ◌/◌, ◌^◌}
use native.Mathlib.Omega.{arith}
use Rattle.floats.specs.Operations.{bits}
use Rattle.root.proofs.Places.{bounds, digits}
use Rattle.root.proofs.Patterns.{root_written}
use Rattle.root.proofs.root_bits.Goals as goal

pub overflow_add-result : goal.overflow_add-result
overflow_add-result c = let s = c.scale-x.ensures in omega (arith, (digits s.0).most, c.nearest_root.ensures, s.1)

pub returns : goal.returns
returns c =
    let a = c.before.before in
    ap (λ (q : ℕ). bits (c.scale-x.result.power / 2 * 2 ^ 52 + q)) c.nearest_root.ensures
    ∙ root_written (bits c.args.b) c.requires c.scale-x.ensures.0 c.scale-x.ensures.1
