-- `figures::work_area` meets its contract: the strips are those of the planform, three components of seven used. Assumes nothing.
use mathlib.Core.Path.{◌∙◌}
use Rattle.figures.proofs.Runs.{area_strips_lem, area_run_lem, run_of_lem}
use Rattle.figures.proofs.Widths.{area_at_three}
use Rattle.figures.proofs.Owned.{planform_f64}
use Rattle.figures.proofs.work_area.Goals as goal

pub work_strips-total-requires : goal.work_strips-total-requires
work_strips-total-requires c =
    area_run_lem c.args.planform c.args.points.now c.args.limit _ c.requires

pub returns : goal.returns
returns c =
    let a = c.args in
    let f64s = planform_f64 a.planform _ _ c.well_formed.0 c.shared_slice_known-1.given in
    let run = run_of_lem _ a.points.now a.limit a.scratch.now _ _
    (area_strips_lem a.planform a.points.now a.limit _ c.area_integrand-integrand.ensures
    ∙ area_at_three a.planform a.points.now a.limit _ f64s c.requires)
    c.work_strips-total.ensures in
    (c.concluded_area.ensures ∙ rw (c.area_integrand-integrand.ensures, run.0), run.1)
