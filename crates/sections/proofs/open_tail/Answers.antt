-- `sections::open_tail` meets its contract: both sides compute to the same four f64s. Assumes nothing.
use mathlib.Core.Path.{refl}
use lib.Ieee.{of_bits, round, div}
use Rattle.sections.specs.Airfoil.{airfoil_constants}
use Rattle.sections.proofs.Tails.{open_constants}
use Rattle.sections.proofs.open_tail.Goals as goal

pub returns : goal.returns
unfolding airfoil_constants of_bits round div
returns c = open_constants _ refl
