-- `root::scale` meets its contract: a subnormal's digits are shifted up to 53, and the others are 53 already. Assumes nothing.
use Prim.Native.Nat.{ℕ, ◌+◌, ◌-◌, ◌*◌, ◌%◌, ◌^◌, ◌≤◌}
use mathlib.Core.Path.{◌≡◌, ap, subst, ◌∙◌}
use native.Mathlib.Nat.{mul-one}
use native.Mathlib.Omega.{arith}
use lib.Count.{count_leading_zeros}
use lib.Ieee.{binary64}
use lib.Ieee.Bits.{of_bits-fits}
use Rattle.floats.specs.Operations.{bits}
use Rattle.floats.specs.Units.{units_of}
use Rattle.root.specs.Root.{radicand}
use Rattle.root.specs.Scaled.{ScaledTo}
use Rattle.floats.proofs.Lifted.{Lifted, lifted}
use Rattle.root.proofs.Places.{scaled}
use Rattle.floats.proofs.Units.{units_pos}
use Rattle.root.proofs.Patterns.{field, subnormal_units, normal_units, not_all_ones}
use Rattle.root.proofs.scale.Goals as goal

lift : (c : goal.Then-field-eq0) → (11 ≤ count_leading_zeros 64 (c.args.b % 2 ^ 52))
    × Lifted (c.args.b % 2 ^ 52) (count_leading_zeros 64 (c.args.b % 2 ^ 52) - 11)
lift c =
    let b = c.args.b in
    lifted (b % 2 ^ 52) (omega (arith, units_pos (bits b) c.requires (of_bits-fits binary64 b), subnormal_units b c.if-field-eq0.true))
    (omega arith)

pub overflow_sub-z : goal.overflow_sub-z
overflow_sub-z c = (lift c).0

pub overflow_cast-z : goal.overflow_cast-z
overflow_cast-z c = omega (arith, (lift c).1.most)

pub overflow_shl-result : goal.overflow_shl-result
overflow_shl-result c = omega (arith, (lift c).1.most)

pub overflow_sub-result : goal.overflow_sub-result
overflow_sub-result c = omega (arith, (lift c).1.most)

pub returns-then-field-eq0 : goal.returns-then-field-eq0
returns-then-field-eq0 c =
    let b = c.args.b in
    let t = b % 2 ^ 52 in
    let z = count_leading_zeros 64 t - 11 in
    let l = (lift c).1 in
    let e : t * 2 ^ z ≡ t * 2 ^ z % 2 ^ 64 = omega (arith, l.high) in (
      subst (λ (w : ℕ). ScaledTo (radicand (bits b)) w (1022 - z)) e
          (scaled (units_of (bits b)) t 0 z (subnormal_units b c.if-field-eq0.true) l),
      omega arith,
    )

pub returns : goal.returns
returns c =
    let b = c.args.b in
    let w = 2 ^ 52 + b % 2 ^ 52 in
    let f = field b in
    let n : f ≡ 0 → ⊥ = c.if-field-eq0.false in
    let o = not_all_ones b c.requires in
    let s = scaled (units_of (bits b)) w (f - 1) 0 (normal_units b n o)
    (record { most = omega arith; low = omega (arith, mul-one w); high = omega (arith, mul-one w) }) in (
      record {
        least = omega arith;
        most = omega arith;
        is = s.is ∙ ap (λ (x : ℕ). x * 2 ^ (1022 + (f - 1) - 0 + 52)) (mul-one w)
            ∙ ap (λ (i : ℕ). w * 2 ^ i) (let z : 1022 + (f - 1) - 0 + 52 ≡ f + 1021 + 52 = omega arith in z);
      },
      omega arith,
    )
