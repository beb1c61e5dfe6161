-- The answer to a line, and what it leaves in the lent scratch and in the engine of eight screens (docs/FORMS.md;
-- document 01, "The card program" and "Refusal numbers").
use Rattle.std.specs.Prelude.{List, [], ◌∷◌, ◌≡◌, ℕ, length, take, drop, get_or, Float, Ok, Err, Result}
use Rattle.floats.specs.Operations.{at}
use Rattle.refusals.specs.declared.Refusal.{Refusal}
use Rattle.refusals.specs.declared.Refusal.TheVariants.{Scratch as short}
use Rattle.refusals.specs.Verdict.{Verdict}
use Rattle.refusals.specs.Refusals.{number_of, values_of, in_two_places}
use Rattle.refusals.specs.Calls.{CallOf}
use Rattle.planforms.specs.declared.Planform.{Planform}
use Rattle.materials.specs.declared.Density.{Density}
use Rattle.fins.specs.declared.FinSet.{FinSet}
use Rattle.bodies.specs.declared.Body.{Body}
use Rattle.bodies.specs.Layout.{body_numbers, numbers_of}
use Rattle.tubes.specs.Tubes.{tubes_of}
use Rattle.tubes.specs.Closing.{closing_of}
use Rattle.drill.specs.declared.Place.{Place}
use Rattle.drill.specs.declared.Place.TheVariants.{Inside, Edge, Outside}
use Rattle.drill.specs.Drill.{drill_of}
use Rattle.texts.specs.Appended.{Appended}
use Rattle.answers.specs.declared.Reply.{Reply}
use Rattle.answers.specs.declared.Shape.{Shape}
use Rattle.answers.specs.declared.Shape.TheVariants.{Figures as FiguresShape, Area as AreaShape, Joined as JoinedShape}
use Rattle.answers.specs.declared.Shape.TheVariants.{Ring as RingShape, Body as BodyShape, Closing as ClosingShape}
use Rattle.answers.specs.declared.Shape.TheVariants.{Inside as InsideShape, Edge as EdgeShape, Outside as OutsideShape}
use Rattle.answers.specs.declared.Shape.TheVariants.{Moments as MomentsShape, Sound as SoundShape, Taken as TakenShape}
use Rattle.answers.specs.declared.Shape.TheVariants.{Idle as IdleShape}
use Rattle.answers.specs.declared.Shape.TheVariants.{More as MoreShape, Done as DoneShape}
use Rattle.answers.specs.declared.Shape.TheVariants.{DoneRefused as DoneRefusedShape, Progress as ProgressShape}
use Rattle.answers.specs.declared.Shape.TheVariants.{Refused as RefusedShape}
use Rattle.answers.specs.Answers.{AnswerFits, text_of, reply}
use Rattle.reading.specs.declared.Asked.{Asked}
use Rattle.reading.specs.declared.Asked.TheVariants.{Refused as RefusedAsked, Set as SetAsked, Area as AreaAsked}
use Rattle.reading.specs.declared.Asked.TheVariants.{Join as JoinAsked, Moments as MomentsAsked, Check as CheckAsked}
use Rattle.reading.specs.declared.Asked.TheVariants.{Tubes as TubesAsked, Closing as ClosingAsked, Drill as DrillAsked}
use Rattle.reading.specs.declared.Asked.TheVariants.{Copied as CopiedAsked, Placed as PlacedAsked, Moved as MovedAsked}
use Rattle.reading.specs.declared.Asked.TheVariants.{Without as WithoutAsked, Submit as SubmitAsked}
use Rattle.reading.specs.declared.Asked.TheVariants.{Density as DensityAsked, Turn as TurnAsked}
use Rattle.reading.specs.declared.Asked.TheVariants.{Progress as ProgressAsked}
use Rattle.reading.specs.Lines.{line_read}
use Rattle.requests.specs.Calls.{joined_points_of, tensor_moments, body_verdict, copied_by, placed_by, moved_by, without_by}
use Rattle.figures.specs.declared.Figures.{Figures}
use Rattle.figures.specs.declared.Area.{Area}
use Rattle.figures.specs.Figures.{set_call}
use Rattle.figures.specs.Areas.{area_call}
use Rattle.jobs.specs.declared.JobProgress.{JobProgress}
use Rattle.engines.specs.declared.Engine.{Engine}
use Rattle.engines.specs.declared.Turn.{Turn}
use Rattle.engines.specs.declared.Turn.TheVariants.{Short, Idle, More, Ended}
use Rattle.engines.specs.declared.EngineReply.{EngineReply}
use Rattle.engines.specs.Engines.{turn_of, turned_row, submit_of, change_at, progress_at}
use Rattle.engines.specs.Calls.{Call, submit, change, turn}
use Rattle.lent_engines.specs.Memory.{engine_in}
use Rattle.lent_engines.specs.Lent.{Room, Lists, lists, Leaves}

-- the memory that a line finds and leaves for the next: the lent scratch and the engine
pub record Memory : Type 0 where
  pub scratch : List Float
  pub engine : Engine

-- the memory of a scratch and an engine that is lent as two lists
abbrev pub memory_in : List Float → List Float → List ℕ → Memory
memory_in scratch numbers counts = record { scratch = scratch; engine = engine_in numbers counts }

-- ---- what is answered: figures, or "A refused line prints `(refused N)`"

-- the answer to a refused line: the refusal's number, which is printed, and the values that go with it, which are not
abbrev pub refused_reply : Refusal → Reply
refused_reply refusal =
    let values = in_two_places (values_of refusal) in
    reply RefusedShape [] (number_of refusal ∷ get_or values 0 0 ∷ get_or values 1 0 ∷ [])

-- an answer, or the refusal where the verdict is one
abbrev pub unless_refused : Verdict → Reply → Reply
unless_refused (Ok _) answer = answer
unless_refused (Err refusal) answer = refused_reply refusal

-- an answer of words alone: "the body check passed"; a submission or a change of density is taken
abbrev pub plain_reply : Verdict → Shape → Reply
plain_reply verdict shape = unless_refused verdict (reply shape [] [])

-- a set's answer: mass, centre and the tensor's six numbers, then intervals and samples
abbrev pub set_reply : Figures → Reply
set_reply f = unless_refused f.verdict (reply FiguresShape (numbers_of f.body) (f.intervals ∷ f.samples ∷ []))

-- an area's answer: the area and its "centroid: x, then height", then intervals and samples
abbrev pub area_reply : Area → Reply
area_reply a =
    unless_refused a.verdict
    (reply AreaShape (a.area_m2 ∷ a.centroid_x_m ∷ a.centroid_span_m ∷ [])
    (a.intervals ∷ a.samples ∷ []))

-- the answer with a body: of points joined, of a ring, or of copies and parts
abbrev pub body_reply : Shape → Result Body Refusal → Reply
body_reply shape (Ok body) = reply shape (numbers_of body) []
body_reply shape (Err refusal) = refused_reply refusal

abbrev pub closing_reply : Result Float Refusal → Reply
closing_reply (Ok radius) = reply ClosingShape (radius ∷ []) []
closing_reply (Err refusal) = refused_reply refusal

-- the answer with principal moments, ascending
abbrev pub moments_reply : Result (List Float) Refusal → Reply
moments_reply (Ok moments) = reply MomentsShape (at moments 0 ∷ at moments 1 ∷ at moments 2 ∷ []) []
moments_reply (Err refusal) = refused_reply refusal

abbrev pub place_reply : Place → Reply
place_reply (Inside nearest) = reply InsideShape [] (nearest ∷ [])
place_reply (Edge nearest) = reply EdgeShape [] (nearest ∷ [])
place_reply (Outside nearest) = reply OutsideShape [] (nearest ∷ [])

abbrev pub drill_reply : Result Place Refusal → Reply
drill_reply (Ok place) = place_reply place
drill_reply (Err refusal) = refused_reply refusal

-- the answer of a turn with which a screen's job has ended: the job's figures, or the number that refused it
abbrev pub done_reply : ℕ → Verdict → Figures → Reply
done_reply screen (Ok _) f = reply DoneShape (numbers_of f.body) (screen ∷ f.intervals ∷ f.samples ∷ [])
done_reply screen (Err refusal) f = reply DoneRefusedShape [] (screen ∷ number_of refusal ∷ [])

-- the answer of a turn: "A turn lent under 1,024 numbers answers 2"; "with no jobs a turn does nothing and says so";
-- "otherwise it answers the screen served and the step's answer" (document 02, Paper 10)
abbrev pub turn_reply : Turn → Figures → Reply
turn_reply Short f = refused_reply short
turn_reply Idle f = reply IdleShape [] []
turn_reply (More screen) f = reply MoreShape [] (screen ∷ [])
turn_reply (Ended screen) f = done_reply screen f.verdict f

-- the answer to how far a screen's job is: strips worked, of how many, and intervals and samples so far
abbrev pub progress_reply : JobProgress → Reply
progress_reply p = reply ProgressShape [] (p.worked ∷ p.strips ∷ p.intervals ∷ p.samples ∷ [])

-- ---- what a line does: its answer; the memory that it leaves, where only the strips of a set, an area or a turn write
-- to the scratch ("Refusal numbers") and only the engine's own lines change the engine; and the calls of the engine
-- that it asks for, one or none: with none, the engine's two lists stay as they are

pub record Effect : Type 0 where
  pub reply : Reply
  pub memory : Memory
  pub calls : List Call

-- an answer that leaves everything as it is
abbrev pub answers : Reply → Memory → Effect
answers r m = record { reply = r; memory = m; calls = [] }

-- a call with its answer made a reply; what it leaves in the scratch stays the same
abbrev pub replied_by : {A : Type 0} → (A → Reply) → CallOf A → CallOf Reply
replied_by replyTo call = record { answer = replyTo call.answer; leaves = call.leaves }

abbrev pub works : CallOf Reply → Memory → Effect
works call m =
    record {
      reply = call.answer;
      memory = record { scratch = call.leaves m.scratch; engine = m.engine };
      calls = [];
    }

-- the effect of a submission or a change of density, which leaves the scratch as it is
abbrev pub engages : EngineReply → List Call → Memory → Effect
engages c calls m =
    record {
      reply = plain_reply c.reply.verdict TakenShape;
      memory = record { scratch = m.scratch; engine = c.engine };
      calls = calls;
    }

unfoldable pub set_effect : FinSet → List Float → ℕ → Memory → Effect
set_effect set points limit m = works (replied_by set_reply (set_call set points limit (length m.scratch))) m

unfoldable pub area_effect : Planform → List Float → ℕ → Memory → Effect
area_effect planform points limit m =
    works (replied_by area_reply (area_call planform points limit (length m.scratch))) m

unfoldable pub submit_effect : ℕ → FinSet → List Float → ℕ → Memory → Effect
submit_effect screen set points limit m =
    engages (submit_of m.engine screen set points limit) (submit screen set points limit ∷ []) m

unfoldable pub density_effect : ℕ → Density → Memory → Effect
density_effect screen density m = engages (change_at m.engine screen density) (change screen density ∷ []) m

unfoldable pub turn_effect : Memory → Effect
turn_effect m =
    let call = turn_of m.engine (length m.scratch) in
    record {
      reply = turn_reply call.answer.turn (turned_row call.answer).figures;
      memory = record { scratch = call.leaves m.scratch; engine = call.answer.engine };
      calls = turn m.scratch ∷ [];
    }

-- the effect of each form, given its parts and the line's figures: an outline's numbers are the first of these, and a
-- body has ten. A limit, a count and a screen are capped at a million when a line is read; no answer shows it
-- (proofs/Capped)
abbrev pub effect_of : Asked → List Float → Memory → Effect
effect_of (RefusedAsked refusal) figures m = answers (refused_reply refusal) m
effect_of (SetAsked limit set points) figures m = set_effect set (take points figures) limit m
effect_of (AreaAsked limit planform points) figures m = area_effect planform (take points figures) limit m
effect_of JoinAsked figures m = answers (body_reply JoinedShape (joined_points_of figures)) m
effect_of MomentsAsked figures m = answers (moments_reply (tensor_moments figures)) m
effect_of CheckAsked figures m = answers (plain_reply (body_verdict figures) SoundShape) m
effect_of (TubesAsked set radius) figures m = answers (body_reply RingShape (tubes_of set radius)) m
effect_of (ClosingAsked count radius) figures m = answers (closing_reply (closing_of radius count)) m
effect_of (DrillAsked planform points x height) figures m =
    answers (drill_reply (drill_of planform (take points figures) x height)) m
effect_of CopiedAsked figures m =
    answers (body_reply BodyShape (copied_by (take body_numbers figures) (drop body_numbers figures))) m
effect_of PlacedAsked figures m =
    answers (body_reply BodyShape (placed_by (take body_numbers figures) (drop body_numbers figures))) m
effect_of MovedAsked figures m =
    let behind_whole = drop body_numbers figures in
    answers
    (body_reply BodyShape
    (moved_by (take body_numbers figures) (take body_numbers behind_whole) (drop body_numbers behind_whole))) m
effect_of WithoutAsked figures m =
    answers (body_reply BodyShape (without_by (take body_numbers figures) (drop body_numbers figures))) m
effect_of (SubmitAsked screen limit set points) figures m = submit_effect screen set (take points figures) limit m
effect_of (DensityAsked screen density) figures m = density_effect screen density m
effect_of TurnAsked figures m = turn_effect m
effect_of (ProgressAsked screen) figures m = answers (progress_reply (progress_at m.engine screen)) m

unfoldable pub line_effect : List ℕ → Memory → Effect
line_effect line m = effect_of (line_read line).asked (line_read line).figures m

-- the bytes of a line's answer, the memory that the line leaves, and its calls of the engine
abbrev pub answer_of : List ℕ → Memory → List ℕ
answer_of line m = text_of (line_effect line m).reply

abbrev pub memory_after : List ℕ → Memory → Memory
memory_after line m = (line_effect line m).memory

abbrev pub calls_of_line : List ℕ → Memory → List Call
calls_of_line line m = (line_effect line m).calls

-- ---- what answering a line does, after the n bytes at the start of `out`: nothing where an answer may not fit or the
-- engine's lists are too short

-- the memory as it is lent: the scratch, and the engine's numbers and counts
pub record LentMemory : Type 0 where
  pub scratch : List Float
  pub numbers : List Float
  pub counts : List ℕ

abbrev pub lent_in : List Float → List Float → List ℕ → LentMemory
lent_in scratch numbers counts = record { scratch = scratch; numbers = numbers; counts = counts }

abbrev pub memory_of : LentMemory → Memory
memory_of l = memory_in l.scratch l.numbers l.counts

-- the engine's two lists
abbrev pub lists_of : LentMemory → Lists
lists_of l = lists l.numbers l.counts

-- what an effect leaves of the lent memory: scratch and engine, and the engine's lists as its calls leave them
pub record LeavesLent (effect : Effect) (lent after : LentMemory) : Type 0 where
  pub memory_left : memory_of after ≡ effect.memory
  pub lists_left : Leaves effect.calls (lists_of lent) (lists_of after)

-- the answer is the effect's, and so is what is left
pub record Serves (effect : Effect) (lent after : LentMemory) (r : Reply) : Type 0 where
  pub replies : r ≡ effect.reply
  pub left : LeavesLent effect lent after

-- there is room for an answer, and for the engine
pub record Fits (lent : LentMemory) (out : List ℕ) (n : ℕ) : Type 0 where
  pub answer : AnswerFits out n
  pub engine : Room lent.numbers lent.counts

pub record Answers (line : List ℕ) (lent after : LentMemory) (out : List ℕ) (n : ℕ) (written : List ℕ)
    (r : ℕ) : Type 0 where
  pub answer : Fits lent out n → Appended out n (answer_of line (memory_of lent)) written r
  pub left : Fits lent out n → LeavesLent (line_effect line (memory_of lent)) lent after
  pub no_room : (Fits lent out n → ⊥) → (r ≡ n) × (written ≡ out) × (after ≡ lent)
