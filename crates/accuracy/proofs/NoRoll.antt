-- A body rolled by an angle of 0, of either sign, is turned by the identity matrix. Assumes nothing.
use mathlib.Core.Path.{◌≡◌, refl, sym, ap, ◌∙◌}
use mathlib.Core.Bool.{Bool, true, false, ◌||◌, beq}
use Prim.Native.Nat.{ℕ, ◌*◌, ◌<◌}
use native.Mathlib.Nat.{mul-pos}
use native.Mathlib.Omega.{arith}
use lib.Dec.{eqb, eqb→eq}
use lib.Pow.{pow_pos}
use lib.Ieee.{Float, nan, inf, fin, binary64, up, down, of_bits, of_int, round, sum, add, sub, mul, div, neg, eq}
use lib.Ieee.Fits.{and_l, down_pos}
use lib.Ieee.Scale.{round_same}
use Rattle.floats.specs.Operations.{◌⊕◌, ◌⊗◌, ◌⊘◌, bits, whole}
use Rattle.floats.specs.Constants.{one, two, pi}
use Rattle.floats.proofs.Bools.{no, of_true}
use Rattle.trig.specs.Trig.{sin_of, cos_of, sin_cos_of, m_of, steps, quarter_of}
use Rattle.bodies.specs.declared.Body.{Body}
use Rattle.bodies.specs.declared.Matrix.{Matrix}
use Rattle.bodies.specs.Vectors.{vector}
use Rattle.bodies.specs.Matrices.{from_columns}
use Rattle.bodies.specs.Bodies.{rotated_of}
use Rattle.rotations.specs.Rotations.{about_z, matrix_of}
use Rattle.rings.specs.Rings.{angle_of, rolled_copy}

-- ---- the angle is 0
rounded_zero : round binary64 false 0 1 ≡ bits 0
unfolding round of_bits
rounded_zero = refl

zero_round : (c : ℕ) → 0 < c → round binary64 false 0 c ≡ bits 0
zero_round c h = round_same binary64 false 0 c 0 1 h (pow_pos 0) (go c) ∙ rounded_zero
  where
    go : (c : ℕ) → 0 * 1 ≡ 0 * c
    go c = omega arith

zero_sum : (s : Bool) (x y c : ℕ) → 0 < c → x ≡ 0 → y ≡ 0 → sum binary64 s x false y c ≡ bits 0
unfolding sum
zero_sum false x y c h e f = rw (e, f) (zero_round c h)
zero_sum true x y c h e f = rw (e, f) (zero_round c h)

either_zero : (x : Float) → eq x (bits 0) ≡ true → x ⊕ bits 0 ≡ bits 0
unfolding add eq of_bits
either_zero nan e = no (sym e)
either_zero (inf s) e = no (sym e)
either_zero (fin s m k) e =
    let A = m * up k * 1 in
    let B = 0 * 1 * down k in
    let n = eqb→eq A B (and_l (eqb A B) (beq s false || eqb A 0) (of_true _ e)) in
    zero_sum s A B (down k * 1) (mul-pos (down_pos k) (pow_pos 0)) (n ∙ none (down k)) (none (down k))
  where
    none : (d : ℕ) → 0 * 1 * d ≡ 0
    none d = omega arith

no_turn_lem : two ⊗ pi ⊗ whole 0 ⊘ whole 1 ≡ bits 0
unfolding of_bits mul div of_int round
no_turn_lem = refl

angle_zero : (base : Float) → eq base (bits 0) ≡ true → angle_of base 1 0 ≡ bits 0
angle_zero base e = rw no_turn_lem (either_zero base e)

-- ---- and so its matrix is the identity
abbrev pub identity : Matrix
identity = from_columns (vector one (bits 0) (bits 0)) (vector (bits 0) one (bits 0)) (vector (bits 0) (bits 0) one)

half_angle : bits 0 ⊘ two ≡ bits 0
unfolding of_bits div round
half_angle = refl

sine_zero : sin_of (bits 0) ≡ bits 0
unfolding sin_cos_of m_of steps quarter_of of_bits of_int round add sub mul div neg
sine_zero = refl

cosine_zero : cos_of (bits 0) ≡ one
unfolding sin_cos_of m_of steps quarter_of of_bits of_int round add sub mul div neg
cosine_zero = refl

matrix_zero : matrix_of (about_z (bits 0)) ≡ identity
unfolding of_bits round add sub mul
matrix_zero = rw (half_angle, sine_zero, cosine_zero)

pub only_copy : (body : Body) (base : Float) → eq base (bits 0) ≡ true → rolled_copy body base 1 0 ≡ rotated_of body identity
only_copy body base e =
    ap (λ (angle : Float). rotated_of body (matrix_of (about_z angle))) (angle_zero base e)
    ∙ ap (λ (m : Matrix). rotated_of body m) matrix_zero
