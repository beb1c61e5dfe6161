-- `limits::check_angle` meets its contract, by what `abs` and `refuse_unless` ensure. Assumes nothing.
use Rattle.limits.specs.Limits.{angle_check}
use Rattle.limits.proofs.check_angle.Goals as goal

pub returns : goal.returns
unfolding angle_check
returns c = rw (c.refuse_unless.ensures, c.abs.ensures)
