-- The chord at a height equal to the span, by the same formulas: h / span is 1 there, so nothing is rounded away by it, and the root of
-- 1 − 1 is 0 (document 02, Paper 1). Assumes nothing.
use mathlib.Core.Path.{◌≡◌, refl}
use mathlib.Core.Bool.{true, ◌&&◌, ◌||◌}
use mathlib.Core.List.{List, [], ◌∷◌}
use Prim.Native.Nat.{ℕ, suc, ◌*◌, ◌<◌}
use native.Mathlib.Nat.{zero-lt-suc, zero-mul, mul-one, mul-pos}
use native.Mathlib.Omega.{arith}
use borrow.Author.Tests.{lt-ltb, le-ltb, eq-eqb}
use lib.Dec.{T, ltb, eqb}
use lib.Ieee.{Float, binary64, up, down, fits, lt, le, eq, ne, of_bits, round, sum, add, sub, mul, neg}
use lib.Ieee.Fits.{up_pos, sub-fits, mul-fits}
use lib.Ieee.Positive.{positive}
use Rattle.floats.specs.Operations.{◌⊕◌, ◌⊖◌, ◌⊗◌, bits}
use Rattle.floats.specs.Constants.{half, one}
use Rattle.floats.specs.Floats.{max_of}
use Rattle.floats.proofs.Units.{for_positive}
use Rattle.floats.proofs.Exact.{times_one, over_itself, times_zero, product_plus, plus_zero_lem, minus_zero_lem}
use Rattle.root.specs.Root.{root_of}
use Rattle.planforms.specs.declared.Planform.TheVariants.{Trapezoid, Ellipse}
use Rattle.chords.specs.Chords.{in_span, ends_at}

-- the span is at most itself, and 0 below it
at_span : (span : Float) → T (positive span) → in_span span span ≡ true
unfolding le lt eq of_bits
at_span = for_positive (λ (x : Float). in_span x x ≡ true) (λ m e. go (suc m * up e) (down e) (mul-pos (zero-lt-suc m) (up_pos e)))
  where
    go : (a c : ℕ) → 0 < a → (ltb (0 * 1 * c) (a * 1) || eqb (0 * 1 * c) (a * 1) && (true || eqb (0 * 1 * c) 0)) &&
        (ltb (a * c) (a * c) || eqb (a * c) (a * c) && (true || eqb (a * c) 0)) ≡ true
    go a c h = rw (
      lt-ltb (0 * 1 * c) (a * 1) (omega (arith, zero-mul c, mul-one a)),
      le-ltb (a * c) (a * c) (omega arith),
      eq-eqb (a * c)
          (a * c) refl,
    )

-- it begins at the sweep and ends at (sweep + root) + (tip − root); `fits binary64 x`: x is an f64
pub trapezoid_tip : (root tip span sweep : Float) (points : List Float) → T (positive span) → T (fits binary64 sweep)
    → ends_at (Trapezoid root tip span sweep) points span ≡ sweep ∷ (sweep ⊕ root ⊕ (tip ⊖ root)) ∷ []
unfolding ends_at
trapezoid_tip root tip span sweep points p f =
    rw (at_span span p, over_itself span p, times_one sweep f, times_one (tip ⊖ root) (sub-fits binary64 tip root))

none_left : root_of (max_of (one ⊖ one ⊗ one) (bits 0)) ≡ bits 0
unfolding root_of sub add neg mul sum round of_bits lt ne eq
none_left = refl

half_positive : T (positive half)
unfolding of_bits
half_positive = tt

-- it is as wide as 0 is, at half the root chord
pub ellipse_tip : (root span : Float) (points : List Float) → T (positive span) → T (positive root) → T (fits binary64 root)
    → ends_at (Ellipse root span) points span ≡ half ⊗ root ∷ half ⊗ root ∷ []
unfolding ends_at
ellipse_tip root span points p r f =
    rw (
      at_span span p,
      over_itself span p,
      none_left,
      times_zero root r,
      minus_zero_lem root f,
      plus_zero_lem (half ⊗ root)
          (mul-fits binary64 half root) (product_plus half root half_positive r),
    )
