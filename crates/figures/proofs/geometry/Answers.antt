-- `figures::geometry` meets its contract: refused by a check, or worked. Assumes nothing.
use mathlib.Core.Path.{refl, sym, ◌∙◌}
use Rattle.figures.proofs.Owned.{planform_f64}
use Rattle.figures.proofs.Answers.{area_worked, area_refused}
use Rattle.figures.proofs.geometry.Goals as goal

pub work_area-requires : goal.work_area-requires
work_area-requires c = sym c.check_area-verdict.ensures.is ∙ c.in-Ok.is

pub returns-in-Ok : goal.returns-in-Ok
returns-in-Ok c =
    let a = c.args in
    let f64s = planform_f64 a.planform _ _ c.well_formed.0 c.shared_slice_known-1.given in
    area_worked a.planform a.points.now a.limit a.scratch.now _ _ f64s
    (sym c.check_area-verdict.ensures.is ∙ c.in-Ok.is) c.work_area.ensures

pub returns-in-Err : goal.returns-in-Err
returns-in-Err c =
    let a = c.args in
    area_refused a.planform a.points.now a.limit a.scratch.now _ _ _
    (sym c.check_area-verdict.ensures.is ∙ c.in-Err.is) c.refused_area.ensures refl
