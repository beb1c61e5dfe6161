-- One fillet's section beside a fin: its area and moments (document 02, Paper 6; fins.rs, `fillet_section`, `sector`,
-- `span_less_sine`). Every operation is rounded to f64, in the Rust's order.
use Rattle.std.specs.Prelude.{cond, List, [], ◌∷◌, map, Float}
use Rattle.std.specs.Float.Ieee.{neg, le}
use Rattle.floats.specs.Operations.{◌⊕◌, ◌⊖◌, ◌⊗◌, ◌⊘◌, bits, whole}
use Rattle.floats.specs.Constants.{half, two, three, pi}
use Rattle.floats.specs.Floats.{abs_of, square, cube, fourth}
use Rattle.root.specs.Root.{root_of}
use Rattle.trig.specs.Trig.{sin_of, cos_of}
use Rattle.fillets.specs.declared.AreaMoments.{AreaMoments}
use Rattle.fillets.specs.Angles.{eight, angle_of}

abbrev pub quarter : Float
quarter = bits 0x3fd0_0000_0000_0000

abbrev pub six : Float
six = bits 0x4018_0000_0000_0000

-- a section by its area A and its moments S_x = ∫ x dA, S_xx = ∫ x² dA and S_yy = ∫ y² dA
abbrev pub area_moments : Float → Float → Float → Float → AreaMoments
area_moments area sx sxx syy = record { area_m2 = area; sx_m3 = sx; sxx_m4 = sxx; syy_m4 = syy }

abbrev pub less_moments : AreaMoments → AreaMoments → AreaMoments
less_moments a b =
    area_moments (a.area_m2 ⊖ b.area_m2) (a.sx_m3 ⊖ b.sx_m3) (a.sxx_m4 ⊖ b.sxx_m4)
    (a.syy_m4 ⊖ b.syy_m4)

-- ---- x − sin x

-- the divisors of the series x³/3! − x⁵/5! + ..: each term is the last times ((−x)·x)/d, d = 2k(2k+1) for k = 2 to 8
abbrev pub term_divisors : List Float
term_divisors = map whole (20 ∷ 42 ∷ 72 ∷ 110 ∷ 156 ∷ 210 ∷ 272 ∷ [])

-- the sum of the terms from this one on, added to the sum so far
abbrev pub sum_terms : Float → List Float → Float → Float → Float
sum_terms x [] term sum = sum
sum_terms x (d ∷ ds) term sum = sum_terms x ds (term ⊗ (neg x ⊗ x ⊘ d)) (sum ⊕ term)

-- the series from its first term x³/3! on, summed from +0
abbrev pub span_less_sine_series : Float → Float
span_less_sine_series x = sum_terms x term_divisors (cube x ⊘ six) (bits 0)

-- x − sin x: from |x| = 0.25 on the difference itself, below it the series, which a NaN takes too
unfoldable pub span_less_sine_of : Float → Float
span_less_sine_of x = cond (le quarter (abs_of x)) (x ⊖ sin_of x) (span_less_sine_series x)

-- ---- a circular sector about (x0, y0), of radius ρ, from an angle to another; `span` is their difference, `middle`
-- half their sum

abbrev pub sector_area : Float → Float → Float
sector_area rho span = half ⊗ rho ⊗ rho ⊗ span

-- ((2·sin(span/2))·ρ³)/3, which times cos(middle) and sin(middle) gives the first moments about the sector's centre
abbrev pub chord_moment : Float → Float → Float
chord_moment rho span = two ⊗ sin_of (half ⊗ span) ⊗ cube rho ⊘ three

-- a second moment about the sector's centre: (ρ⁴/8)·((span − sin span) + (sin span·2)·k²), with k the cosine or the
-- sine of `middle`
abbrev pub second_moment : Float → Float → Float → Float
second_moment rho span k = fourth rho ⊘ eight ⊗ (span_less_sine_of span ⊕ sin_of span ⊗ two ⊗ square k)

-- a first moment S about the sector's centre, moved to the origin: S + x·A
abbrev pub moved_first : Float → Float → Float → Float
moved_first x area first = first ⊕ x ⊗ area

-- a second moment Q about the sector's centre, moved to the origin: (Q + (2·x)·S) + (x·x)·A
abbrev pub moved_second : Float → Float → Float → Float → Float
moved_second x area first second = second ⊕ two ⊗ x ⊗ first ⊕ x ⊗ x ⊗ area

abbrev pub sector_with : Float → Float → Float → Float → Float → AreaMoments
sector_with x0 y0 rho span middle =
    area_moments
    (sector_area rho span)
    (moved_first x0 (sector_area rho span) (chord_moment rho span ⊗ cos_of middle))
    (moved_second x0 (sector_area rho span) (chord_moment rho span ⊗ cos_of middle)
    (second_moment rho span (cos_of middle)))
    (moved_second y0 (sector_area rho span) (chord_moment rho span ⊗ sin_of middle)
    (second_moment rho span (sin_of middle)))

unfoldable pub sector_of : Float → Float → Float → Float → Float → AreaMoments
sector_of x0 y0 rho from to = sector_with x0 y0 rho (to ⊖ from) (half ⊗ (to ⊕ from))

-- ---- the section: the triangle (0, 0), (c, 0), (c, r) less the body's sector and the fillet's

-- c = √(rb·rb + (2·rb)·r), how far out along the fin the fillet's centre stands
abbrev pub touching_at : Float → Float → Float
touching_at rb r = root_of (rb ⊗ rb ⊕ two ⊗ rb ⊗ r)

abbrev pub triangle_of : Float → Float → AreaMoments
triangle_of c r =
    area_moments
    (half ⊗ c ⊗ r)
    (half ⊗ c ⊗ r ⊗ two ⊗ c ⊘ three)
    (half ⊗ c ⊗ r ⊗ c ⊗ c ⊘ two)
    (half ⊗ c ⊗ r ⊗ r ⊗ r ⊘ six)

-- the triangle less two sectors: the body's about the axis from 0 to θ, the fillet's about (c, r) from θ − π to −π/2
abbrev pub section_with : Float → Float → Float → Float → AreaMoments
section_with rb r c theta =
    less_moments
    (less_moments (triangle_of c r) (sector_of (bits 0) (bits 0) rb (bits 0) theta))
    (sector_of c r r (theta ⊖ pi) (neg half ⊗ pi))

unfoldable pub fillet_section_of : Float → Float → AreaMoments
fillet_section_of rb r = section_with rb r (touching_at rb r) (angle_of r (touching_at rb r))
