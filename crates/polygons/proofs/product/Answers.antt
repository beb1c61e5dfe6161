-- `polygons::product` meets its contract: two offsets have a product of at most 2^28 · 2^28. Assumes nothing.
use mathlib.Core.Path.{subst, sym}
use native.Mathlib.Nat.{mul-le-mul}
use native.Mathlib.Omega.{arith}
use lib.IntN.{◌*ℤ◌}
use mir.Syntax.{w64}
use mir.Val.{SFits}
use Rattle.polygons.specs.Bounds.{IsProduct}
use Rattle.polygons.proofs.Sizes.{abs_mul, fits_i64, given}
use Rattle.polygons.proofs.product.Goals as goal
use Rattle.polygons.proofs.product.Goals.{Start}

bound : (c : Start) → IsProduct (c.args.a *ℤ c.args.b)
bound c = omega (arith, abs_mul c.args.a c.args.b, mul-le-mul c.requires.0 c.requires.1)

fits : (c : Start) → SFits w64 (c.args.a *ℤ c.args.b)
fits c = fits_i64 (c.args.a *ℤ c.args.b) (omega (arith, bound c))

pub returns : goal.returns
returns c =
    let m = (goal.at.returns c).Start in
    let e = given ◌*ℤ◌ c.ranges.a c.ranges.b (fits m) in (e, subst IsProduct (sym e) (bound m))
