-- `outlines::check_planform` meets its contract: each arm knows its case. Assumes nothing.
use Rattle.refusals.proofs.Given.{is_answer}
use Rattle.outlines.specs.Outlines.{planform_check}
use Rattle.outlines.proofs.check_planform.Goals as goal

pub returns-in-Trapezoid : goal.returns-in-Trapezoid
unfolding planform_check
returns-in-Trapezoid c = is_answer (rw c.in-Trapezoid.is c.check_trapezoid.ensures)

pub returns-in-Ellipse : goal.returns-in-Ellipse
unfolding planform_check
returns-in-Ellipse c = is_answer (rw c.in-Ellipse.is c.check_ellipse.ensures)

pub returns-in-Outline : goal.returns-in-Outline
unfolding planform_check
returns-in-Outline c = is_answer (rw c.in-Outline.is c.check_outline.ensures)
