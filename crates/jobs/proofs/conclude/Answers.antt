-- `jobs::conclude` meets its contract: each arm knows what the two checks gave. Assumes nothing.
use mathlib.Core.Path.{sym, ap₂, ◌∙◌}
use Rattle.refusals.specs.Order.{first_refusal}
use Rattle.refusals.proofs.Accepted.{both}
use Rattle.limits.proofs.Accepted.{count_within}
use Rattle.jobs.specs.Jobs.{outcome_of}
use Rattle.jobs.proofs.Laws.{given, withheld}
use Rattle.jobs.proofs.conclude.Goals as goal

pub concluded_at-requires : goal.concluded_at-requires
concluded_at-requires c =
    (count_within _ (sym c.check_count.ensures
    ∙ (both _ _ (sym c.first_refusal-verdict.ensures ∙ c.in-Ok.is)).0)).1

pub returns-in-Ok : goal.returns-in-Ok
unfolding outcome_of
returns-in-Ok c =
    let checked = c.first_refusal-verdict.ensures
    ∙ ap₂ first_refusal c.check_count.ensures c.check_density.ensures in
    c.concluded_at.ensures ∙ sym (given _ _ (sym checked ∙ c.in-Ok.is))

pub returns-in-Err : goal.returns-in-Err
unfolding outcome_of
returns-in-Err c =
    let checked = c.first_refusal-verdict.ensures
    ∙ ap₂ first_refusal c.check_count.ensures c.check_density.ensures in
    c.bare_figures.ensures ∙ sym (withheld _ _ _ (sym checked ∙ c.in-Err.is))
