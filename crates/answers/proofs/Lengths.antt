-- No answer is longer than 320 bytes. Assumes nothing.
use Prim.Native.Nat.{◌≤◌}
use native.Mathlib.Omega.{arith}
use lib.ListN.{length}
use Rattle.tokens.specs.Text.{text, codes}
use Rattle.answers.specs.declared.Reply.{Reply}
use Rattle.answers.specs.declared.Shape.{Shape}
use Rattle.answers.specs.declared.Shape.TheVariants.{Figures, Area, Joined, Ring, Body, Closing, Inside, Edge, Outside, Moments}
use Rattle.answers.specs.declared.Shape.TheVariants.{Sound, Taken, Idle, More, Done, DoneRefused, Progress, Refused}
use Rattle.answers.specs.Filled.{room}
use Rattle.answers.specs.Answers.{answer_bytes, template, text_of}
use Rattle.answers.proofs.Filling.{filled_fits}

pub template_fits : (shape : Shape) → room (template shape) ≤ answer_bytes
unfolding room text codes
template_fits Figures = omega arith
template_fits Area = omega arith
template_fits Joined = omega arith
template_fits Ring = omega arith
template_fits Body = omega arith
template_fits Closing = omega arith
template_fits Inside = omega arith
template_fits Edge = omega arith
template_fits Outside = omega arith
template_fits Moments = omega arith
template_fits Sound = omega arith
template_fits Taken = omega arith
template_fits Idle = omega arith
template_fits More = omega arith
template_fits Done = omega arith
template_fits DoneRefused = omega arith
template_fits Progress = omega arith
template_fits Refused = omega arith

pub text_short : (reply : Reply) → length (text_of reply) ≤ answer_bytes
unfolding text_of
text_short reply =
    let h = filled_fits (template reply.shape) reply.figures reply.counts in
    let g = template_fits reply.shape in
    omega arith
