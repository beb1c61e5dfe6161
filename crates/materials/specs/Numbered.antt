-- A density by its number: its place in docs/FORMS.md, "(bulk F), (surface F) or (line F)" (include/delvouzh.h).
use Rattle.std.specs.Prelude.{cond, ℕ, eqb, Float, Option, Some, None}
use Rattle.materials.specs.declared.Density.{Density}
use Rattle.materials.specs.declared.Density.TheVariants.{Bulk, Surface, Line}

abbrev pub density_number : Density → ℕ
density_number (Bulk density) = 1
density_number (Surface density) = 2
density_number (Line density) = 3

abbrev pub density_figure : Density → Float
density_figure (Bulk density) = density
density_figure (Surface density) = density
density_figure (Line density) = density

-- the density that a number and a figure stand for: the one that they were made of (proofs/Numbered: `density_back`)
unfoldable pub numbered_density : ℕ → Float → Option Density
numbered_density number density =
    cond (eqb number 1) (Some (Bulk density))
    (cond (eqb number 2) (Some (Surface density)) (cond (eqb number 3) (Some (Line density)) None))
