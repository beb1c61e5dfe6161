-- `jobs::work_from` meets its contract: the strip is one of the set. Assumes nothing.
use mathlib.Core.Path.{sym, ap, ◌∙◌}
use Rattle.planforms.specs.Planforms.{span_of}
use Rattle.integrands.specs.declared.Integrand.{Integrand}
use Rattle.jobs.proofs.Laws.{same_next}
use Rattle.jobs.proofs.work_from.Goals as goal

pub plate_integrand-integrand-requires : goal.plate_integrand-integrand-requires
plate_integrand-integrand-requires c = c.span_m-span_m.ensures

pub work_next-requires : goal.work_next-requires
work_next-requires c = (
  c.requires,
  c.span_m-span_m.ensures
      ∙ ap (λ (f : Integrand). span_of f.planform c.args.points.now) (sym c.plate_integrand-integrand.ensures),
)

pub returns : goal.returns
returns c =
    let a = c.args in
    same_next a.set a.points.now a.limit c.plate_integrand-integrand.result c.plate_integrand-integrand.ensures _ _ _ _ _
    c.work_next.ensures
