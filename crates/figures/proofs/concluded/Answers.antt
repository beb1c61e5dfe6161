-- `figures::concluded` meets its contract: each arm knows its case. Assumes nothing.
use Rattle.std.specs.Prelude.{Ok}
use mathlib.Core.Path.{sym, ap, ◌∙◌}
use Rattle.bodies.specs.declared.Body.{Body}
use Rattle.rings.specs.Rings.{joined_copies}
use Rattle.figures.specs.Figures.{figures_by}
use Rattle.figures.proofs.Reports.{set_concluded}
use Rattle.figures.proofs.concluded.Goals as goal

pub returns-in-Ok : goal.returns-in-Ok
returns-in-Ok c =
    let s = c.args in
    set_concluded s.set _ _ s.total c.integrals-v.ensures (sym c.conclusion-verdict.ensures ∙ c.in-Ok.is)
    (ap (λ (b : Body). figures_by (Ok tt) b s.total.totals)
    (c.ring-body.ensures ∙ ap (λ (b : Body). joined_copies b s.set.base_angle_rad s.set.count) c.fin-fin.ensures))

pub returns-in-Err : goal.returns-in-Err
returns-in-Err c =
    let s = c.args in
    set_concluded s.set _ _ s.total c.integrals-v.ensures (sym c.conclusion-verdict.ensures ∙ c.in-Err.is)
    c.bare_figures.ensures
