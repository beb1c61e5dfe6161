-- `drill::drill` meets its contract: its checks are the definition's, in its order, and each arm knows its planform. Assumes nothing.
use Rattle.std.specs.Prelude.{Ok}
use mathlib.Core.List.{◌∷◌, []}
use mathlib.Core.Path.{◌≡◌, sym, ap, subst, ◌∙◌}
use Rattle.refusals.proofs.Given.{is_answer}
use Rattle.planforms.specs.declared.Planform.{Planform}
use Rattle.outlines.specs.Outlines.{planform_check}
use Rattle.steps.specs.Steps.{exact_of}
use Rattle.drill.specs.Drill.{corners_of, has_corners}
use Rattle.drill.specs.InSteps.{in_steps}
use Rattle.drill.proofs.Reach.{none, one_more}
use Rattle.drill.proofs.Checks.{no_corners, in_steps_lem, x_length, height_length}
use Rattle.drill.proofs.Checks.{trapezoid_lengths, outline_lengths, outline_fits}
use Rattle.drill.proofs.drill.Goals as goal

pub drill_trapezoid-requires : goal.drill_trapezoid-requires
drill_trapezoid-requires c =
    let a = c.args in
    let points = a.points.now in
    let accepted = sym c.check_planform.ensures.is ∙ c.in_ok-check_planform.was in
    let x = x_length a.x_m (sym c.check_length.ensures ∙ c.in_ok-check_length.was) in
    let height = height_length a.height_m (sym c.check_length-2.ensures ∙ c.in_ok-check_length-2.was) in
    trapezoid_lengths _ _ _ _ points (a.x_m ∷ a.height_m ∷ [])
    (subst (λ (p : Planform). planform_check p points ≡ Ok tt) c.in-Trapezoid.is accepted)
    (one_more a.x_m (a.height_m ∷ []) x (one_more a.height_m [] height none))

pub drill_outline-requires : goal.drill_outline-requires
unfolding planform_check
drill_outline-requires c =
    let a = c.args in
    let points = a.points.now in
    let x = x_length a.x_m (sym c.check_length.ensures ∙ c.in_ok-check_length.was) in
    let height = height_length a.height_m (sym c.check_length-2.ensures ∙ c.in_ok-check_length-2.was) in
    let accepted = subst (λ (p : Planform). planform_check p points ≡ Ok tt) c.in-Outline.is
    (sym c.check_planform.ensures.is ∙ c.in_ok-check_planform.was) in
    let fit = outline_fits points accepted in (
      one_more a.x_m (a.height_m ∷ points) x (one_more a.height_m points height (outline_lengths points accepted)),
      fit.0,
      fit.1,
    )

pub returns-in-Trapezoid : goal.returns-in-Trapezoid
returns-in-Trapezoid c =
    let a = c.args in
    let points = a.points.now in
    let e = c.in-Trapezoid.is in
    is_answer
    (c.drill_trapezoid.ensures
    ∙ ap (λ (p : Planform). in_steps (corners_of p points) (exact_of a.x_m) (exact_of a.height_m)) (sym e)
    ∙ in_steps_lem a.planform points a.x_m a.height_m
    (sym c.check_planform.ensures.is ∙ c.in_ok-check_planform.was)
    (sym c.check_length.ensures ∙ c.in_ok-check_length.was)
    (sym c.check_length-2.ensures ∙ c.in_ok-check_length-2.was)
    (ap has_corners e))

pub returns-in-Ellipse : goal.returns-in-Ellipse
returns-in-Ellipse c =
    let a = c.args in
    is_answer (no_corners a.planform a.points.now a.x_m a.height_m
    (sym c.check_planform.ensures.is ∙ c.in_ok-check_planform.was)
    (sym c.check_length.ensures ∙ c.in_ok-check_length.was)
    (sym c.check_length-2.ensures ∙ c.in_ok-check_length-2.was)
    (ap has_corners c.in-Ellipse.is))

pub returns-in-Outline : goal.returns-in-Outline
returns-in-Outline c =
    let a = c.args in
    let points = a.points.now in
    let e = c.in-Outline.is in
    is_answer
    (c.drill_outline.ensures
    ∙ ap (λ (p : Planform). in_steps (corners_of p points) (exact_of a.x_m) (exact_of a.height_m)) (sym e)
    ∙ in_steps_lem a.planform points a.x_m a.height_m
    (sym c.check_planform.ensures.is ∙ c.in_ok-check_planform.was)
    (sym c.check_length.ensures ∙ c.in_ok-check_length.was)
    (sym c.check_length-2.ensures ∙ c.in_ok-check_length-2.was)
    (ap has_corners e))
