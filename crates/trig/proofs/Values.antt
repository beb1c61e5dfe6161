-- What the definitions compute to at single values. Assumes nothing.
use mathlib.Core.Path.{◌≡◌, refl}
use mathlib.Core.Bool.{true, false}
use Prim.Native.Nat.{◌^◌}
use lib.IntN.{negsuc}
use lib.Ieee.{Float, nan, inf, fin, binary64, of_bits, of_int, round, add, sub, mul, div, neg}
use Rattle.floats.specs.Operations.{bits, whole}
use Rattle.floats.specs.Floats.{is_finite}
use Rattle.floats.proofs.Bools.{no}
use Rattle.trig.specs.Trig.{m_of, quarter_of, sin_cos_of, sin_of, cos_of}

-- the bits of 0.6366197723675814
pub two_over_pi : bits 0x3fe4_5f30_6dc9_c883 ≡ round binary64 false 6366197723675814 (10 ^ 16)
unfolding of_bits round
two_over_pi = refl

-- 0.49999999999999994 gives 0, 5/2 gives 3, −5/2 gives −3, which is 1 mod 4
pub below_half : m_of (bits 0x3fdf_ffff_ffff_ffff) ≡ whole 0
unfolding m_of of_bits of_int
below_half = refl

pub half_up : m_of (bits 0x4004_0000_0000_0000) ≡ whole 3
unfolding m_of of_bits of_int
half_up = refl

pub half_down : m_of (bits 0xc004_0000_0000_0000) ≡ of_int binary64 (negsuc 2)
unfolding m_of of_bits of_int
half_down = refl

pub negative_quarter : quarter_of (bits 0xc004_0000_0000_0000) ≡ 1
unfolding quarter_of of_bits
negative_quarter = refl

-- "sine 0 is 0, cosine 0 is 1"
pub sine_zero : sin_of (bits 0) ≡ bits 0
unfolding sin_cos_of of_bits of_int add sub mul div neg
sine_zero = refl

pub cosine_zero : cos_of (bits 0) ≡ whole 1
unfolding sin_cos_of of_bits of_int add sub mul div neg
cosine_zero = refl

-- a NaN and the infinities
pub not_finite : (f : Float) → is_finite f ≡ false → (sin_of f ≡ nan) × (cos_of f ≡ nan)
unfolding sin_cos_of of_bits of_int add sub mul div neg
not_finite nan h = (refl, refl)
not_finite (inf true) h = (refl, refl)
not_finite (inf false) h = (refl, refl)
not_finite (fin s m e) h = no h
