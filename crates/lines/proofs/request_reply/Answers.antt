-- `lines::request_reply` meets its contract: each arm knows what is asked. Assumes nothing.
use mathlib.Core.List.{List}
use mathlib.Core.Path.{◌≡◌, ap, ap₂, ◌∙◌}
use lib.ListN.{take, drop}
use lib.Ieee.{Float}
use Rattle.refusals.specs.Verdict.{Verdict}
use Rattle.bodies.specs.Layout.{body_numbers}
use Rattle.std.specs.Prelude.{Result}
use Rattle.refusals.specs.declared.Refusal.{Refusal}
use Rattle.bodies.specs.declared.Body.{Body}
use Rattle.requests.specs.Calls.{copied_by, placed_by, moved_by, without_by}
use Rattle.answers.specs.declared.Reply.{Reply}
use Rattle.answers.specs.declared.Shape.TheVariants.{Joined as JoinedShape, Ring as RingShape, Body as BodyShape, Sound as SoundShape}
use Rattle.lines.specs.Lines.{plain_reply, body_reply, closing_reply, moments_reply, progress_reply}
use Rattle.lines.proofs.Served.{known, stays, set_served, area_served, submit_served, density_served}
use Rattle.lines.proofs.request_reply.Goals as goal

-- a body of one or two others, and of what else was cut from the figures
of_two : (f : List Float → List Float → Result Body Refusal) {a b x y : List Float} {j : Result Body Refusal} {r : Reply} → a ≡ x → b ≡ y
    → j ≡ f a b → r ≡ body_reply BodyShape j → r ≡ body_reply BodyShape (f x y)
of_two f e g h k = k ∙ ap (body_reply BodyShape) (h ∙ ap₂ f e g)

part_moved : {a b d x y z : List Float} {j : Result Body Refusal} {r : Reply} → a ≡ x → b ≡ y → d ≡ z → j ≡ moved_by a b d
    → r ≡ body_reply BodyShape j
    → r ≡ body_reply BodyShape (moved_by x y z)
part_moved {b = b} {d} {x} e f g h k = k ∙ ap (body_reply BodyShape) (h ∙ ap (λ (w : List Float). moved_by w b d) e ∙ ap₂ (moved_by x) f g)

pub returns-in-Moved : goal.returns-in-Moved
returns-in-Moved c =
    known _ _ c.in-Moved.is
    (stays
    (part_moved c.first-body.ensures (c.first-part.ensures ∙ ap (take body_numbers) c.behind-rest.ensures)
    (c.behind-offset.ensures ∙ ap (drop body_numbers) c.behind-rest.ensures) c.moved_by.ensures
    c.body_reply-in-Moved.ensures))

pub returns-in-Submit : goal.returns-in-Submit
returns-in-Submit c =
    known _ _ c.in-Submit.is
    (submit_served _ _ _ c.first-outline.ensures c.submit-reply.ensures c.taken_reply.ensures)

pub returns-in-Refused : goal.returns-in-Refused
returns-in-Refused c = known _ _ c.in-Refused.is (stays c.refused_reply.ensures)

pub returns-in-Set : goal.returns-in-Set
returns-in-Set c = known _ _ c.in-Set.is (set_served _ _ _ c.set_reply.ensures)

pub returns-in-Area : goal.returns-in-Area
returns-in-Area c = known _ _ c.in-Area.is (area_served _ _ _ c.area_reply.ensures)

pub returns-in-Join : goal.returns-in-Join
returns-in-Join c = known _ _ c.in-Join.is
    (stays (c.body_reply.ensures ∙ ap (body_reply JoinedShape) c.join_points.ensures))

pub returns-in-Moments : goal.returns-in-Moments
returns-in-Moments c = known _ _ c.in-Moments.is
    (stays (c.moments_reply.ensures ∙ ap moments_reply c.tensor_moments.ensures))

pub returns-in-Check : goal.returns-in-Check
returns-in-Check c = known _ _ c.in-Check.is
    (stays (c.plain_reply.ensures ∙ ap (λ (v : Verdict). plain_reply v SoundShape) c.body_verdict.ensures))

pub returns-in-Tubes : goal.returns-in-Tubes
returns-in-Tubes c = known _ _ c.in-Tubes.is
    (stays (c.body_reply-in-Tubes.ensures ∙ ap (body_reply RingShape) c.mass_properties.ensures.is))

pub returns-in-Closing : goal.returns-in-Closing
returns-in-Closing c = known _ _ c.in-Closing.is
    (stays (c.closing_reply.ensures ∙ ap closing_reply c.closing_radius_m.ensures.is))

pub returns-in-Drill : goal.returns-in-Drill
returns-in-Drill c = known _ _ c.in-Drill.is (stays c.drill_reply.ensures)

pub returns-in-Copied : goal.returns-in-Copied
returns-in-Copied c = known _ _ c.in-Copied.is
    (stays (of_two copied_by c.first-body.ensures c.behind-rest.ensures c.copied_by.ensures
    c.body_reply-in-Copied.ensures))

pub returns-in-Placed : goal.returns-in-Placed
returns-in-Placed c = known _ _ c.in-Placed.is
    (stays (of_two placed_by c.first-body.ensures c.behind-rest.ensures c.placed_by.ensures
    c.body_reply-in-Placed.ensures))

pub returns-in-Without : goal.returns-in-Without
returns-in-Without c = known _ _ c.in-Without.is
    (stays (of_two without_by c.first-body.ensures c.behind-rest.ensures c.without_by.ensures
    c.body_reply-in-Without.ensures))

pub returns-in-Density : goal.returns-in-Density
returns-in-Density c = known _ _ c.in-Density.is
    (density_served _ _ c.change_density-reply.ensures c.taken_reply-in-Density.ensures)

pub returns-in-Turn : goal.returns-in-Turn
returns-in-Turn c = known _ _ c.in-Turn.is c.turn_reply.ensures

pub returns-in-Progress : goal.returns-in-Progress
returns-in-Progress c = known _ _ c.in-Progress.is
    (stays (c.progress_reply.ensures ∙ ap progress_reply c.progress_at.ensures))
