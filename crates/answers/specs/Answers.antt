-- The answers, as docs/FORMS.md writes them.
use Rattle.std.specs.Prelude.{List, ◌++◌, ℕ, ◌+◌, ◌≤◌, length, take, replicate, Float}
use Rattle.floats.specs.Operations.{bits}
use Rattle.tokens.specs.Text.{text}
use Rattle.answers.specs.Filled.{filled}
use Rattle.answers.specs.declared.Reply.{Reply}
use Rattle.answers.specs.declared.Shape.{Shape}
use Rattle.answers.specs.declared.Shape.TheVariants.{Figures, Area, Joined, Ring, Body, Closing, Inside, Edge}
use Rattle.answers.specs.declared.Shape.TheVariants.{Outside, Moments, Sound, Taken, Idle, More, Done}
use Rattle.answers.specs.declared.Shape.TheVariants.{DoneRefused, Progress, Refused}

-- how many bytes an answer may have; none has more (proofs/Lengths)
abbrev pub answer_bytes : ℕ
answer_bytes = 320

-- a buffer has room for an answer after its first n bytes
abbrev pub AnswerFits : List ℕ → ℕ → Type 0
AnswerFits out n = n + answer_bytes ≤ length out

-- what each answer says: a set's mass, centre and tensor, "diagonal first, then xy, xz, yz" (document 02, Paper 12),
-- intervals and samples; an area and its centroid, "x, then height"; a body of points joined, of a ring (Paper 3), of
-- copies or with a part moved or taken off (Paper 13); the radius that closes a ring; where a point lies, with the
-- nearest corner's position (Paper 11); principal moments, ascending; a body that passed its check; what the engine
-- answers (Papers 9 and 10); how far a screen's job is; and "A refused line prints `(refused N)`"
abbrev pub template : Shape → List ℕ
template Figures = text "(figures (mass F) (centre F F F) (inertia F F F F F F) (intervals N) (samples N))"
template Area = text "(area (area F) (centroid F F) (intervals N) (samples N))"
template Joined = text "(joined (mass F) (centre F F F) (inertia F F F F F F))"
template Ring = text "(ring (mass F) (centre F F F) (inertia F F F F F F))"
template Body = text "(body (mass F) (centre F F F) (inertia F F F F F F))"
template Closing = text "(closing F)"
template Inside = text "(inside N)"
template Edge = text "(edge N)"
template Outside = text "(outside N)"
template Moments = text "(moments F F F)"
template Sound = text "(sound)"
template Taken = text "(taken)"
template Idle = text "(idle)"
template More = text "(more N)"
template Done = text "(done N (figures (mass F) (centre F F F) (inertia F F F F F F) (intervals N) (samples N)))"
template DoneRefused = text "(done N (refused N))"
template Progress = text "(progress (worked N) (strips N) (intervals N) (samples N))"
template Refused = text "(refused N)"

-- the bytes of an answer: its template, filled in
unfoldable pub text_of : Reply → List ℕ
text_of reply = filled (template reply.shape) reply.figures reply.counts

-- the answer of a shape with these figures and counts, ten and four in all, zeros after those that are given
abbrev pub reply : Shape → List Float → List ℕ → Reply
reply shape figures counts =
    record {
      shape = shape;
      figures = take 10 (figures ++ replicate 10 (bits 0));
      counts = take 4 (counts ++ replicate 4 0);
    }
