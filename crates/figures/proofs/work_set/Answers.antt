-- `figures::work_set` meets its contract: the strips are those of the set. Assumes nothing.
use mathlib.Core.Path.{◌∙◌}
use Rattle.limits.proofs.Accepted.{count_within}
use Rattle.fins.proofs.Accepted.{set_accepted}
use Rattle.figures.proofs.Runs.{plate_strips, set_run_lem, run_of_lem}
use Rattle.figures.proofs.work_set.Goals as goal

pub plate_integrand-integrand-requires : goal.plate_integrand-integrand-requires
plate_integrand-integrand-requires c = c.span_m-span_m.ensures

pub work_strips-total-requires : goal.work_strips-total-requires
work_strips-total-requires c =
    set_run_lem c.args.set c.args.points.now c.args.limit _ c.requires

pub concluded-requires : goal.concluded-requires
concluded-requires c =
    (count_within _ (set_accepted c.args.set c.args.points.now c.args.limit _ c.requires).count).1

pub returns : goal.returns
returns c =
    let a = c.args in
    let run = run_of_lem _ a.points.now a.limit a.scratch.now _ _
    (plate_strips a.set a.points.now a.limit _ c.plate_integrand-integrand.ensures)
    c.work_strips-total.ensures in
    (c.concluded.ensures ∙ rw (c.root_chord_m-root_chord_m.ensures, c.plate_integrand-integrand.ensures, run.0), run.1)
