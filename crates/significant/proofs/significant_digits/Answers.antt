-- `significant::significant_digits` meets its contract: a finite f64 by its bit pattern, and the others have no units. Assumes nothing.
use mathlib.Core.Path.{◌≡◌, sym, ap, subst, ◌∙◌}
use Prim.Native.Nat.{ℕ, ◌*◌, ◌^◌}
use native.Mathlib.Nat.{zero-mul}
use lib.Dec.{T}
use lib.Ieee.{binary64, of_bits, to_bits}
use lib.Ieee.Bits.{of_bits-to_bits}
use Rattle.floats.specs.Floats.{is_finite}
use Rattle.floats.specs.Units.{units_of}
use Rattle.significant.specs.Significant.{decimal_units_of}
use Rattle.significant.proofs.Exact.{none_finite, same_units}
use Rattle.significant.proofs.significant_digits.Goals as goal
use Rattle.significant.proofs.significant_digits.Goals.{Start}

-- x is the f64 of its bit pattern
held : (c : Start) (b : ℕ) → b ≡ to_bits binary64 c.args.x → of_bits binary64 b ≡ c.args.x
held c b e = ap (of_bits binary64) e ∙ of_bits-to_bits binary64 c.args.x (subst T (sym c.well_formed.0.1) tt)

pub of_bits-requires : goal.of_bits-requires
of_bits-requires c = (
  subst T (sym (ap is_finite (held (goal.at.of_bits-requires c).Start c.to_bits.result c.to_bits.ensures) ∙ sym c.is_finite.ensures
      ∙ c.if-is_finite.true)) tt,
  c.requires.0,
  c.requires.1,
)

pub returns-then-is_finite : goal.returns-then-is_finite
returns-then-is_finite c =
    let s = (goal.at.returns-then-is_finite c).Start in
    same_units c.args.n _ _ _ _ (ap decimal_units_of (held s c.to_bits.result c.to_bits.ensures)) c.of_bits.ensures

pub returns : goal.returns
returns c =
    let e : units_of c.args.x ≡ 0 = none_finite c.args.x (sym c.is_finite.ensures ∙ c.if-is_finite.false) in
    same_units c.args.n _ _ _ _ (zero-mul (5 ^ 1074) ∙ sym (ap (λ (u : ℕ). u * 5 ^ 1074) e ∙ zero-mul (5 ^ 1074))) c.worked.ensures
