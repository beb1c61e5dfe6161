-- `sections::closed_tail` meets its contract: both sides compute to the same four f64s. Assumes nothing.
use mathlib.Core.Path.{refl}
use lib.Ieee.{of_bits, round, div}
use Rattle.sections.specs.Airfoil.{airfoil_constants}
use Rattle.sections.proofs.Tails.{closed_constants}
use Rattle.sections.proofs.closed_tail.Goals as goal

pub returns : goal.returns
unfolding airfoil_constants of_bits round div
returns c = closed_constants _ refl
