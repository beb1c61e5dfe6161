-- Sine and cosine of f, by document 01's steps ("Stand-ins", "Sine and cosine of f"). Every operation is rounded to
-- f64.
use Rattle.std.specs.Prelude.{Bool, cond, List, [], ◌∷◌, map, ℕ, zero, suc, ◌+◌, ◌-◌, ◌*◌, ◌/◌, ◌%◌, ℤ, pos, negsuc, neg_ℤ, Float}
use Rattle.std.specs.Float.{nan, inf, fin, binary64}
use Rattle.std.specs.Float.Ieee.{up, down, of_int, neg}
use Rattle.floats.specs.Operations.{◌⊖◌, ◌⊗◌, ◌⊘◌, bits, whole}
use Rattle.trig.specs.declared.SinCos.{SinCos}

-- f·0.6366197723675814, which is f in quarter turns; the constant by its bits
abbrev pub quarter_turns : Float → Float
quarter_turns f = f ⊗ bits 0x3fe4_5f30_6dc9_c883

-- the whole number nearest num / den, halves up: one half more, and the fraction cut off (`nearest_is` and
-- `nearest_only` of proofs/: the only M with M − 1/2 ≤ num / den < M + 1/2)
abbrev pub nearest_whole : ℕ → ℕ → ℕ
nearest_whole num den = (2 * num + den) / (2 * den)

-- "m is the whole number nearest .., halves away from zero": the nearest to the product's magnitude k·2^e, with the
-- product's sign
abbrev pub signed : Bool → ℕ → ℤ
signed s n = cond s (neg_ℤ (pos n)) (pos n)

-- `up e` is 2^e where e is at least 0, `down e` is 2^-e where it is below, and each is 1 otherwise
abbrev pub whole_of : Bool → ℕ → ℤ → ℤ
whole_of s k e = signed s (nearest_whole (k * up e) (down e))

-- m as an f64 (`of_int`: the nearest one), which it is exactly (`m_exact`). Every finite f has a finite product, and so
-- an m (`product_finite`). The paragraph leaves open what a NaN or an infinite f gives: m is a NaN there, and with it
-- r, both series and both answers.
unfoldable pub m_of : Float → Float
m_of nan = nan
m_of (inf s) = nan
m_of (fin s k e) = of_int binary64 (whole_of s k e)

-- "r = (f − m·A) − m·B, A with bits 3ff921fb54400000, B 3dd0b4611a626331"
abbrev pub reduced : Float → Float → Float
reduced f m = (f ⊖ m ⊗ bits 0x3ff9_21fb_5440_0000) ⊖ m ⊗ bits 0x3dd0_b461_1a62_6331

-- "step v = 1 − (z/d)·v", for each d in order
unfoldable pub steps : Float → List Float → Float → Float
steps z [] v = v
steps z (d ∷ ds) v = steps z ds (whole 1 ⊖ (z ⊘ d) ⊗ v)

-- "z = r·r. From v = 1 .. Sine's d: .., then r·v"
abbrev pub sine_divisors : List Float
sine_divisors = map whole (272 ∷ 210 ∷ 156 ∷ 110 ∷ 72 ∷ 42 ∷ 20 ∷ 6 ∷ [])

abbrev pub sine_series : Float → Float
sine_series r = r ⊗ steps (r ⊗ r) sine_divisors (whole 1)

-- "Cosine's d: .., then v"
abbrev pub cosine_divisors : List Float
cosine_divisors = map whole (240 ∷ 182 ∷ 132 ∷ 90 ∷ 56 ∷ 30 ∷ 12 ∷ 2 ∷ [])

abbrev pub cosine_series : Float → Float
cosine_series r = steps (r ⊗ r) cosine_divisors (whole 1)

-- "m mod 4 (never negative)"; where m is a NaN the table's lines are all alike, and 0 picks one
abbrev pub mod_four : ℤ → ℕ
mod_four (pos n) = n % 4
mod_four (negsuc n) = (4 - suc n % 4) % 4

unfoldable pub quarter_of : Float → ℕ
quarter_of nan = 0
quarter_of (inf s) = 0
quarter_of (fin s k e) = mod_four (whole_of s k e)

-- "0, 1, 2, 3 gives (s,c), (c,−s), (−s,−c), (−c,s)"
abbrev pub by_quarter : ℕ → Float → Float → SinCos
by_quarter zero s c = record { sin = s; cos = c }
by_quarter (suc zero) s c = record { sin = c; cos = neg s }
by_quarter (suc (suc zero)) s c = record { sin = neg s; cos = neg c }
by_quarter (suc (suc (suc k))) s c = record { sin = neg c; cos = s }

unfoldable pub sin_cos_of : Float → SinCos
unfolding m_of steps quarter_of
sin_cos_of f =
    let q = quarter_turns f in let r = reduced f (m_of q) in by_quarter (quarter_of q) (sine_series r) (cosine_series r)

abbrev pub sin_of : Float → Float
sin_of f = (sin_cos_of f).sin

abbrev pub cos_of : Float → Float
cos_of f = (sin_cos_of f).cos
