-- A density that is written as numbers is read back. Assumes nothing.
use mathlib.Core.Path.{◌≡◌, refl}
use Rattle.std.specs.Prelude.{Some}
use Rattle.materials.specs.declared.Density.{Density}
use Rattle.materials.specs.declared.Density.TheVariants.{Bulk, Surface, Line}
use Rattle.materials.specs.Numbered.{density_number, density_figure, numbered_density}

pub density_back : (density : Density) → numbered_density (density_number density) (density_figure density) ≡ Some density
unfolding numbered_density
density_back (Bulk density) = refl
density_back (Surface density) = refl
density_back (Line density) = refl
