-- The moments of a chord are at most 2^556, with the ends at most 2^136 and the thickness at most 2^26 (all over the
-- scale). Assumes nothing.
use mathlib.Core.List.{List, [], ◌∷◌}
use mathlib.Core.Bool.{Bool, true, false, cond}
use Prim.Native.Nat.{ℕ}
use lib.Dec.{lit≤}
use lib.Ieee.{Float, of_bits, le, round, size, units, odd, span, climb}
use Rattle.floats.specs.Operations.{◌⊖◌, ◌⊗◌, bits, at, tabulate}
use Rattle.floats.specs.Constants.{half, two, three, twelve, pi}
use Rattle.floats.specs.Floats.{min_of}
use Rattle.sections.specs.Airfoil.{closed_tail, open_tail, airfoil_constants}
use lib.Count.{count_trailing_zeros}
use Rattle.sections.specs.ChordMoments.{square_moments, slab_moments, rounded_moments, naca4_moments, section_moments, chord_moments}
use Rattle.sections.specs.declared.Section.{Section}
use Rattle.sections.specs.declared.Section.TheVariants.{Square, Rounded, Airfoil, AirfoilOpen}
use Rattle.rounding.specs.Sizes.{Below, Above}
use Rattle.rounding.proofs.Sizes.{zero_below, half_below, mul_below, sub_below, min_below, weaker}
use Rattle.rounding.proofs.Terms.{Term, given, ◌plus◌, ◌less◌, ◌times◌, ◌over◌, within}

-- ---- constants
two_below : Below 1 two
unfolding of_bits
two_below = record { finite = tt; size = lit≤ tt }

pi_below : Below 2 pi
unfolding of_bits
pi_below = record { finite = tt; size = lit≤ tt }

eight_below : Below 3 (bits 0x4020000000000000)
unfolding of_bits
eight_below = record { finite = tt; size = lit≤ tt }

three_halves_below : Below 1 (bits 0x3ff8000000000000)
unfolding of_bits
three_halves_below = record { finite = tt; size = lit≤ tt }

two_above : Above 0 two
unfolding of_bits
two_above = record { finite = tt; size = lit≤ tt }

three_above : Above 0 three
unfolding of_bits
three_above = record { finite = tt; size = lit≤ tt }

twelve_above : Above 0 twelve
unfolding of_bits
twelve_above = record { finite = tt; size = lit≤ tt }

eight_above : Above 0 (bits 0x4020000000000000)
unfolding of_bits
eight_above = record { finite = tt; size = lit≤ tt }

-- ---- four moments
abbrev pub FourBelow : ℕ → List Float → Type 0
FourBelow p m = Below p (at m 0) × (Below p (at m 1) × (Below p (at m 2) × Below p (at m 3)))

-- ---- the square section: operands a, b, c, t, half
square_below : (a b c t : Float) → Below 136 a → Below 136 b → Below 137 c → Below 26 t → FourBelow 556 (square_moments a b c t)
square_below a b c t ha hb hc ht =
    let up_to_lem = within (136 ∷ 136 ∷ 137 ∷ 26 ∷ 0 ∷ []) (0 ∷ 0 ∷ []) (a ∷ b ∷ c ∷ t ∷ half ∷ []) (three ∷ twelve ∷ [])
    (ha, (hb, (hc, (ht, (half_below, tt))))) (three_above, (twelve_above, tt)) in (
      up_to_lem (given 3 times given 2) 556 tt,
      (
        up_to_lem (given 4 times given 3 times (given 1 times given 1 less given 0 times given 0)) 556 tt,
        (
          up_to_lem (given 3 times (given 1 times (given 1 times given 1) less given 0 times (given 0 times given 0)) over 0) 556 tt,
          up_to_lem (given 3 times (given 3 times given 3) times given 2 over 1) 556 tt,
        ),
      ),
    )

-- ---- the rounded one: operands a, b, c, mid, r, half, two, pi, eight, 3/2
abbrev d_zero : Term
d_zero = given 4 times given 4 times (given 6 less given 7 over 0)

abbrev d_one : Term
d_one = given 4 times d_zero less given 4 times (given 4 times given 4) over 1

abbrev r_fourth : Term
r_fourth = given 4 times given 4 times (given 4 times given 4)

abbrev d_two : Term
d_two = given 4 times given 4 times d_zero less given 7 times r_fourth over 3

abbrev e_zero : Term
e_zero = given 8 times r_fourth less given 9 times given 7 times r_fourth

abbrev m_zero : Term
m_zero = given 3 times given 2 less given 6 times d_zero

slab_below : (a b c mid r : Float) → Below 136 a → Below 136 b → Below 137 c → Below 137 mid → Below 137 r
    → FourBelow 556 (slab_moments a b c mid r)
slab_below a b c mid r ha hb hc hm hr =
    let up_to_lem = within (136 ∷ 136 ∷ 137 ∷ 137 ∷ 137 ∷ 0 ∷ 1 ∷ 2 ∷ 3 ∷ 1 ∷ []) (0 ∷ 0 ∷ 0 ∷ 0 ∷ [])
    (a ∷ b ∷ c ∷ mid ∷ r ∷ half ∷ two ∷ pi ∷ bits 0x4020000000000000 ∷ bits 0x3ff8000000000000 ∷ [])
    (two ∷ three ∷ twelve ∷ bits 0x4020000000000000 ∷ [])
    (ha, (hb, (hc, (hm, (hr, (half_below, (two_below, (pi_below, (eight_below, (three_halves_below, tt))))))))))
    (two_above, (three_above, (twelve_above, (eight_above, tt)))) in (
      up_to_lem m_zero 556 tt,
      (
        up_to_lem (m_zero times given 5 times (given 0 plus given 1)) 556 tt,
        (
          up_to_lem (given 3 times (given 1 times (given 1 times given 1) less given 0 times (given 0 times given 0)) over 1
              less (given 0 times given 0 times d_zero plus given 6 times given 0 times d_one plus d_two)
              less (given 1 times given 1 times d_zero less given 6 times given 1 times d_one plus d_two)) 556 tt,
          up_to_lem ((given 3 times (given 3 times given 3) times given 2 less given 6 times e_zero) over 2) 556 tt,
        ),
      ),
    )

rounded_below : (a b c t : Float) → Below 136 a → Below 136 b → Below 137 c → Below 26 t → FourBelow 556 (rounded_moments a b c t)
rounded_below a b c t ha hb hc ht =
    let m = min_below t c 137 (weaker t 26 137 (lit≤ tt) ht) hc in
    slab_below a b c (min_of t c) (half ⊗ min_of t c) ha hb hc m (mul_below half (min_of t c) 0 137 (lit≤ tt) half_below m)

-- ---- the airfoils, of any four constants k at most 1: operands a, c, t, PHI, PSI, two
naca_below : (k : List Float) (a c t : Float) → FourBelow 0 k → Below 136 a → Below 137 c → Below 26 t
    → FourBelow 556 (naca4_moments k a c t)
naca_below k a c t (h0, (h1, (h2, hs))) ha hc ht =
    let up_to_lem = within (136 ∷ 137 ∷ 26 ∷ 0 ∷ 0 ∷ 0 ∷ 0 ∷ 1 ∷ []) (0 ∷ []) (a ∷ c ∷ t ∷ at k 0 ∷ at k 1 ∷ at k 2 ∷ at k 3 ∷ two ∷ [])
    (twelve ∷ []) (ha, (hc, (ht, (h0, (h1, (h2, (hs, (two_below, tt)))))))) (twelve_above, tt) in (
      up_to_lem (given 2 times given 1 times given 3) 556 tt,
      (
        up_to_lem (given 2 times (given 0 times given 1 times given 3 plus given 1 times given 1 times given 4)) 556 tt,
        (
          up_to_lem (given 2 times
              (given 0 times given 0 times given 1 times given 3 plus given 7 times given 0 times given 1 times given 1 times given 4 plus
              given 1 times (given 1 times given 1) times given 5)) 556 tt,
          up_to_lem (given 2 times (given 2 times given 2) times given 1 times given 6 over 0) 556 tt,
        ),
      ),
    )

-- ---- the constants of either tail
closed_below : FourBelow 0 (airfoil_constants closed_tail)
unfolding airfoil_constants round size units odd count_trailing_zeros span climb
closed_below = (
  record { finite = tt; size = lit≤ tt },
  (record { finite = tt; size = lit≤ tt }, (record { finite = tt; size = lit≤ tt }, record { finite = tt; size = lit≤ tt })),
)

open_below : FourBelow 0 (airfoil_constants open_tail)
unfolding airfoil_constants round size units odd count_trailing_zeros span climb
open_below = (
  record { finite = tt; size = lit≤ tt },
  (record { finite = tt; size = lit≤ tt }, (record { finite = tt; size = lit≤ tt }, record { finite = tt; size = lit≤ tt })),
)

-- ---- any section
pub chord_moments_below : (section : Section) (a b t : Float) → Below 136 a → Below 136 b → Below 26 t
    → FourBelow 556 (chord_moments section a b t)
unfolding chord_moments
chord_moments_below section a b t ha hb ht = either (le (b ⊖ a) (bits 0)) (section_moments section a b (b ⊖ a) t) (of section)
  where
    hc : Below 137 (b ⊖ a)
    hc = sub_below b a 136 (lit≤ tt) hb ha

    none : Below 556 (bits 0)
    none = weaker (bits 0) 0 556 (lit≤ tt) zero_below

    either : (x : Bool) (m : List Float) → FourBelow 556 m → FourBelow 556 (cond x (tabulate 4 (λ i. bits 0)) m)
    either true m h = (none, (none, (none, none)))
    either false m h = h

    of : (section : Section) → FourBelow 556 (section_moments section a b (b ⊖ a) t)
    of Square = square_below a b (b ⊖ a) t ha hb hc ht
    of Rounded = rounded_below a b (b ⊖ a) t ha hb hc ht
    of Airfoil = naca_below (airfoil_constants closed_tail) a (b ⊖ a) t closed_below ha hc ht
    of AirfoilOpen = naca_below (airfoil_constants open_tail) a (b ⊖ a) t open_below ha hc ht
