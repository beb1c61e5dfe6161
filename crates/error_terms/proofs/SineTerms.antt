-- The terms of the stand-in sine of a reduced angle, of the sine's series, and of the test that the one is near the other.
use mathlib.Core.List.{List, [], ◌∷◌}
use Prim.Native.Nat.{ℕ, ◌*◌, ◌^◌}
use lib.Dec.{T}
use lib.Ieee.{Float}
use Rattle.floats.specs.Operations.{whole}
use Rattle.rounding_error.proofs.Numbers.{value_of}
use Rattle.rounding_error.proofs.Polynomials as Poly
use Rattle.rounding_error.proofs.Polynomials.{Expression, given as at_place, ratio}
use Rattle.error_terms.proofs.Terms.{shape, Given, entry, Term, var, const, ◌take◌, ◌mul◌, ◌over◌}
use Rattle.error_terms.proofs.Judged.{judge, nearer}
use Rattle.error_terms.proofs.Entries.{most}

-- |r| <= 0.79, in 2^-30 parts
abbrev pub angle : ℕ
angle = 848256041

-- 1 − (r·r/d)·v, for each divisor d in turn
abbrev pub series_t : List ℕ → Term → Term
series_t [] v = v
series_t (i ∷ l) v = series_t l (const (whole 1) take var 0 mul var 0 over i mul v)

abbrev pub sine_t : Term
sine_t = var 0 mul series_t (1 ∷ 2 ∷ 3 ∷ 4 ∷ 5 ∷ 6 ∷ 7 ∷ 8 ∷ []) (const (whole 1))

-- the same exactly: place 0 is r, and places 3, 5, .. the inverses of the divisors
abbrev pub series_e : List ℕ → Expression → Expression
series_e [] v = v
series_e (k ∷ l) v = series_e l (Poly.◌take◌ (ratio 1 0) (Poly.◌mul◌ (Poly.◌mul◌ (Poly.◌mul◌ (at_place 0) (at_place 0)) (at_place k)) v))

abbrev pub sine_e : Expression
sine_e = Poly.◌mul◌ (at_place 0) (series_e (3 ∷ 5 ∷ 7 ∷ 9 ∷ 11 ∷ 13 ∷ 15 ∷ 17 ∷ []) (ratio 1 0))

abbrev pub divisor : ℕ → Given
divisor n = entry (whole n) (value_of (whole n)) (shape 0 (most (whole n)) [] []) (n * 2 ^ 30)

-- r, and the divisors 16·17, 14·15, .., 2·3
abbrev pub entries_of : Float → List Given
entries_of r =
    entry r (value_of r) (shape 0 angle [] []) 0 ∷ divisor 272 ∷ divisor 210 ∷ divisor 156 ∷ divisor 110 ∷ divisor 72 ∷ divisor 42
    ∷ divisor 20
    ∷ divisor 6 ∷ []

-- the f64's sine is at most 4·2^-53 from the series'
abbrev pub SineTest : Float → Type 0
SineTest r = T (nearer (entries_of r) sine_e (4 * 2 ^ 30) [] [] (judge (entries_of r) sine_t))
