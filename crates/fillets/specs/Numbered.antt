-- A fillet as numbers (docs/FORMS.md; include/delvouzh.h): its own number is its density's, or 0 where it is left out.
use Rattle.std.specs.Prelude.{cond, List, [], ◌∷◌, ℕ, eqb, Float, Option, Some, None}
use Rattle.floats.specs.Operations.{bits, at}
use Rattle.materials.specs.declared.Density.TheVariants.{Bulk}
use Rattle.materials.specs.declared.Density.{Density}
use Rattle.materials.specs.Numbered.{density_figure, numbered_density}
use Rattle.fillets.specs.declared.Fillet.{Fillet}

-- "the part is left out, which is radius 0" (docs/FORMS.md); its density is never read
abbrev pub no_fillet : Fillet
no_fillet = record { radius_m = bits 0; density = Bulk (bits 0) }

abbrev pub of_known : Float → Option Density → Option Fillet
of_known radius (Some density) = Some (record { radius_m = radius; density = density })
of_known radius None = None

-- a fillet's figures: its radius and its density's; its number is its density's
abbrev pub fillet_figures : Fillet → List Float
fillet_figures fillet = fillet.radius_m ∷ density_figure fillet.density ∷ []

-- the fillet of a number and figures; a fillet's own give it back (proofs/Numbered: `fillet_back`)
unfoldable pub fillet_of : ℕ → List Float → Option Fillet
fillet_of number figures =
    cond (eqb number 0) (Some no_fillet) (of_known (at figures 0) (numbered_density number (at figures 1)))
