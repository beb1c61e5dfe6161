-- `materials::check_density` meets its contract: each arm knows its case. Assumes nothing.
use Rattle.materials.specs.Materials.{density_check}
use Rattle.materials.proofs.check_density.Goals as goal

pub returns-in-Bulk : goal.returns-in-Bulk
unfolding density_check
returns-in-Bulk c = rw c.in-Bulk.is c.refuse_unless.ensures

pub returns-in-Surface : goal.returns-in-Surface
unfolding density_check
returns-in-Surface c = rw c.in-Surface.is

pub returns-in-Line : goal.returns-in-Line
unfolding density_check
returns-in-Line c = rw c.in-Line.is
