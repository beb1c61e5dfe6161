-- A fillet that is written as numbers is read back. Assumes nothing.
use mathlib.Core.Path.{◌≡◌, refl}
use lib.Ieee.{Float}
use Rattle.std.specs.Prelude.{Some}
use Rattle.materials.specs.declared.Density.{Density}
use Rattle.materials.specs.declared.Density.TheVariants.{Bulk, Surface, Line}
use Rattle.materials.specs.Numbered.{density_number, numbered_density}
use Rattle.fillets.specs.declared.Fillet.{Fillet}
use Rattle.fillets.specs.Numbered.{fillet_figures, fillet_of}

abbrev Of : Float → Density → Fillet
Of radius density = record { radius_m = radius; density = density }

by_density : (radius : Float) (density : Density)
    → fillet_of (density_number density) (fillet_figures (Of radius density)) ≡ Some (Of radius density)
unfolding fillet_of numbered_density
by_density radius (Bulk density) = refl
by_density radius (Surface density) = refl
by_density radius (Line density) = refl

pub fillet_back : (fillet : Fillet) → fillet_of (density_number fillet.density) (fillet_figures fillet) ≡ Some fillet
fillet_back fillet = by_density fillet.radius_m fillet.density
