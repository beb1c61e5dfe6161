-- The volume integrals of one fin and of its tab (fins.rs, `PlateIntegrals`, `fin_integrals`, `tab_integrals`).
use Rattle.std.specs.Prelude.{List, [], ◌∷◌, Float, Option, Some, None}
use Rattle.floats.specs.Operations.{◌⊕◌, ◌⊖◌, ◌⊗◌, ◌⊘◌, bits, at, tabulate}
use Rattle.floats.specs.Constants.{half, three, twelve}
use Rattle.floats.specs.Floats.{cube, fourth, fifth}
use Rattle.fins.specs.declared.FinTab.{FinTab}

-- the seven integrals of a list: V, ∫r, ∫r², ∫x, ∫x², ∫rx and ∫τ², each dV
abbrev pub volume : List Float → Float
volume v = at v 0

abbrev pub r1 : List Float → Float
r1 v = at v 1

abbrev pub r2 : List Float → Float
r2 v = at v 2

abbrev pub x1 : List Float → Float
x1 v = at v 3

abbrev pub x2 : List Float → Float
x2 v = at v 4

abbrev pub rx : List Float → Float
rx v = at v 5

abbrev pub tau2 : List Float → Float
tau2 v = at v 6

-- the strips' totals in metres: times the scale to the powers 3, 4, 5, 4, 5, 5, 5
abbrev pub unscaled_of : List Float → Float → List Float
unscaled_of total scale =
    volume total ⊗ cube scale
    ∷ r1 total ⊗ fourth scale
    ∷ r2 total ⊗ fifth scale
    ∷ x1 total ⊗ fourth scale
    ∷ x2 total ⊗ fifth scale
    ∷ rx total ⊗ fifth scale
    ∷ tau2 total ⊗ fifth scale
    ∷ []

-- the integral of s from a to b, as 0.5·(b·b − a·a)
abbrev pub first_moment : Float → Float → Float
first_moment a b = half ⊗ (b ⊗ b ⊖ a ⊗ a)

-- the integrals of a slab from radius `inner` to `outer` and from x `fore` to `aft`, of thickness t, height h, length l
abbrev pub slab_of : Float → Float → Float → Float → Float → Float → Float → List Float
slab_of t h l inner outer fore aft =
    t ⊗ l ⊗ h
    ∷ t ⊗ l ⊗ first_moment inner outer
    ∷ t ⊗ l ⊗ (cube outer ⊖ cube inner) ⊘ three
    ∷ t ⊗ h ⊗ first_moment fore aft
    ∷ t ⊗ h ⊗ (cube aft ⊖ cube fore) ⊘ three
    ∷ t ⊗ first_moment fore aft ⊗ first_moment inner outer
    ∷ cube t ⊘ twelve ⊗ l ⊗ h
    ∷ []

-- the integrals of a tab, a slab from radius − height to the radius and from the offset to offset + length; zeros where
-- there is no tab
unfoldable pub tab_integrals_of : Option FinTab → Float → Float → List Float
tab_integrals_of None thickness radius = tabulate 7 (λ k. bits 0)
tab_integrals_of (Some tab) thickness radius =
    slab_of thickness tab.height_m tab.length_m (radius ⊖ tab.height_m) radius tab.offset_m
    (tab.offset_m ⊕ tab.length_m)

-- the sums of two lists of integrals, place by place
abbrev pub add_integrals : List Float → List Float → List Float
add_integrals fin tab = tabulate 7 (λ k. at fin k ⊕ at tab k)
