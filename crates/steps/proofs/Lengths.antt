-- A length has at most 2^26 steps. Assumes nothing.
use mathlib.Core.Path.{◌≡◌, refl, sym, ap, subst, ◌∙◌}
use mathlib.Core.Bool.{Bool, true, false}
use Prim.Native.Nat.{ℕ, suc, ◌*◌, ◌/◌, ◌^◌, ◌≤◌, zero-le}
use native.Mathlib.Nat.{le_trans, le_of_eq, div-le_of_le-mul}
use lib.IntN.{ℤ, pos, negsuc, nat_abs}
use lib.Ieee.{Float, eq}
use lib.Signed.{quot_z}
use Rattle.floats.specs.Operations.{bits}
use Rattle.floats.specs.Floats.{abs_of}
use Rattle.floats.specs.Units.{units_of}
use Rattle.steps.specs.Steps.{exact_of, steps_of}
use Rattle.steps.specs.Parts.{IsLength}
use Rattle.steps.proofs.Fields.{at_most_lem}
use Rattle.steps.proofs.Signs.{abs_neg, abs_exact, zero_units, magnitude_units, magnitude_within}

abs_quotient : (s : ℕ) (u : ℤ) → nat_abs (quot_z u (pos s)) ≡ nat_abs u / s
abs_quotient s (pos n) = refl
abs_quotient s (negsuc n) = abs_neg (suc n / s)

few_units : (x : Float) → IsLength x → units_of x ≤ 2 ^ 26 * 2 ^ 1054
few_units x h = by (eq x (bits 0)) refl
  where
    by : (z : Bool) → eq x (bits 0) ≡ z → units_of x ≤ 2 ^ 26 * 2 ^ 1054
    by true e = subst (λ (n : ℕ). n ≤ 2 ^ 26 * 2 ^ 1054) (sym (zero_units x e)) zero-le
    by false e = subst (λ (n : ℕ). n ≤ 2 ^ 26 * 2 ^ 1054) (magnitude_units x) (at_most_lem (abs_of x) (magnitude_within x e h))

pub few_steps : (x : Float) → IsLength x → nat_abs (steps_of (exact_of x)) ≤ 2 ^ 26
unfolding steps_of
few_steps x h =
    le_trans (le_of_eq (abs_quotient (2 ^ 1054) (exact_of x) ∙ ap (λ (n : ℕ). n / 2 ^ 1054) (abs_exact x)))
    (div-le_of_le-mul (2 ^ 1054) (few_units x h))
