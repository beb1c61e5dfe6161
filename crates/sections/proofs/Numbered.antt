-- A section that is written as its number is read back. Assumes nothing.
use mathlib.Core.Path.{◌≡◌, refl}
use Rattle.std.specs.Prelude.{Some}
use Rattle.sections.specs.declared.Section.{Section}
use Rattle.sections.specs.declared.Section.TheVariants.{Square, Rounded, Airfoil, AirfoilOpen}
use Rattle.sections.specs.Numbered.{section_number, numbered_section}

pub section_back : (section : Section) → numbered_section (section_number section) ≡ Some section
unfolding numbered_section
section_back Square = refl
section_back Rounded = refl
section_back Airfoil = refl
section_back AirfoilOpen = refl
