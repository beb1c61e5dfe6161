-- The terms of a sample's height in metres, and the test that its f64 is near the exact one.
use mathlib.Core.Bool.{Bool}
use mathlib.Core.List.{List, [], ◌∷◌}
use Prim.Native.Nat.{◌*◌, ◌^◌}
use lib.Ieee.{Float}
use Rattle.rounding_error.proofs.Numbers.{value_of}
use Rattle.rounding_error.proofs.Polynomials.{given}
use Rattle.error_terms.proofs.Monomials.{place}
use Rattle.error_terms.proofs.Terms.{shape, Given, entry, Term, var, tight, ◌mul◌ as ◌mul_t◌, ◌over◌}
use Rattle.error_terms.proofs.Judged.{judge, nearer}
use Rattle.error_terms.proofs.Entries.{full}
use Rattle.accuracy.proofs.Samples.{Sample, node_e, between_e, height_t}

-- the variables are the strip's ends in metres and the scale
abbrev pub low_t : Term
low_t = var 0 over 2

abbrev pub high_t : Term
high_t = var 1 over 2

abbrev pub metres_t : Sample → Term
metres_t s = tight (height_t low_t high_t s mul_t var 2)

abbrev pub placeholder : Float → Float → Float → List Given
placeholder h k S =
    entry h (value_of h) (shape 0 full (place 0) []) 0 ∷
    entry k (value_of k) (shape 0 full (place 0) []) 0 ∷
    entry S (value_of S) (shape 0 full (place 1) []) full ∷
    []

-- at most 11·2^-53 spans from the exact height
abbrev pub height_test : List Given → Sample → Bool
height_test entries s = nearer entries (between_e (given 0) (given 2) (node_e s)) (11 * 2 ^ 30) (place 0) [] (judge entries (metres_t s))
