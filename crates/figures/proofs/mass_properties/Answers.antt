-- `figures::mass_properties` meets its contract: refused by a check, or worked. Assumes nothing.
use mathlib.Core.Path.{refl, sym, ◌∙◌}
use Rattle.figures.proofs.Owned.{set_f64}
use Rattle.figures.proofs.Answers.{set_worked, set_refused}
use Rattle.figures.proofs.mass_properties.Goals as goal

pub work_set-requires : goal.work_set-requires
work_set-requires c = sym c.check_set-verdict.ensures.is ∙ c.in-Ok.is

pub returns-in-Ok : goal.returns-in-Ok
returns-in-Ok c =
    let a = c.args in
    let f64s = set_f64 a.set _ _ c.well_formed.0 c.shared_slice_known-1.given in
    set_worked a.set a.points.now a.limit a.scratch.now _ _ f64s
    (sym c.check_set-verdict.ensures.is ∙ c.in-Ok.is) c.work_set.ensures

pub returns-in-Err : goal.returns-in-Err
returns-in-Err c =
    let a = c.args in
    set_refused a.set a.points.now a.limit a.scratch.now _ _ _ (sym c.check_set-verdict.ensures.is ∙ c.in-Err.is)
    c.bare_figures.ensures refl
