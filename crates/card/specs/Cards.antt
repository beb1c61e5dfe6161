-- The card that ends a screen's job, on lines that the program takes from its first memory on (docs/FORMS.md, "Eight
-- screens, one engine"; document 02, Papers 9 and 10).
use Rattle.std.specs.Prelude.{true, false, List, [], ◌∷◌, ◌++◌, ◌≡◌, ℕ, take, Float}
use Rattle.limits.specs.Limits.{scratch_numbers}
use Rattle.fins.specs.declared.FinSet.{FinSet}
use Rattle.reading.specs.declared.Asked.{Asked}
use Rattle.reading.specs.declared.Asked.TheVariants.{Set, Submit, Turn}
use Rattle.reading.specs.Lines.{line_read}
use Rattle.answers.specs.declared.Shape.TheVariants.{Taken as TakenShape, More as MoreShape}
use Rattle.answers.specs.declared.Reply.{Reply}
use Rattle.answers.specs.Answers.{text_of, reply as answered}
use Rattle.figures.specs.declared.Figures.{Figures}
use Rattle.figures.specs.Figures.{set_figures}
use Rattle.jobs.specs.Calls.{set_after, OverCalls}
use Rattle.jobs.specs.Calls as alone
use Rattle.engines.specs.Engines.{holds_job, next_screen}
use Rattle.engines.specs.Calls.{since_then, engine_now, holds_over, AsAlone, OnScreen, DrawnOnScreen}
use Rattle.lines.specs.Lines.{Memory, set_reply, done_reply}
use Rattle.inputs.specs.Inputs.{reply, left_by_line, left_by_lines}
use Rattle.card.specs.Program.{at_first}
use Rattle.card.specs.Screens.{calls_over}

-- a line of a form that holds a whole set, `(set ..)` or `(submit N (set ..))`, writes this set with these points and
-- this limit
pub record WritesSet (form : ℕ → FinSet → ℕ → Asked) (line : List ℕ) (set : FinSet) (points : List Float)
    (L : ℕ) : Type 0 where
  pub count : ℕ
  pub asks : (line_read line).asked ≡ form L set count
  pub points_are : take count (line_read line).figures ≡ points

-- a line asks for a turn: `(turn)`
abbrev pub AsksTurn : List ℕ → Type 0
AsksTurn line = (line_read line).asked ≡ Turn

-- the reply to a line is this answer and a newline
abbrev pub Replies : List ℕ → Memory → Reply → Type 0
Replies line memory answer = reply line memory ≡ text_of answer ++ (10 ∷ [])

-- lines before a submission, the submission, and lines after it
module _ (before : List (List ℕ)) (submission : List ℕ) (since : List (List ℕ)) where
  -- the memory that the submission finds
  abbrev pub found_then : Memory
  found_then = left_by_lines before at_first

  -- the memory that the submission leaves
  abbrev pub left_then : Memory
  left_then = left_by_line submission found_then

  -- the memory that all these lines leave
  abbrev pub left_now : Memory
  left_now = left_by_lines (before ++ submission ∷ since) at_first

  module _ (screen : ℕ) (set : FinSet) (points : List Float) (L : ℕ) where
    -- the submission writes the set and names the screen, it is taken, and from then on the screen holds its job
    pub record HeldSince : Type 0 where
      pub writes : WritesSet (Submit screen) submission set points L
      pub taken : Replies submission found_then (answered TakenShape [] [])
      pub holds : holds_over screen left_then.engine (calls_over since left_then) ≡ true
      pub holds_now : holds_job left_now.engine.screens screen ≡ true

    -- the calls on the job since its submission
    abbrev pub own_since : List alone.Call
    own_since = since_then found_then.engine screen set points L (calls_over since left_then)

    -- the set with the last density taken
    abbrev pub set_now : FinSet
    set_now = set_after set points L own_since

    -- the card of that set
    abbrev pub card_now : Figures
    card_now = set_figures set_now points L scratch_numbers

    pub record CardOnLines : Type 0 where
      -- the engine is the one that the calls of these lines leave, so that what holds of a job on its screen, of its
      -- calls together and of the job alone holds here
      pub engine_is : left_now.engine ≡ engine_now found_then.engine screen set points L (calls_over since left_then)
      pub on_screen : OnScreen found_then.engine screen set points L (calls_over since left_then)
      pub over_calls : OverCalls set points L own_since
      pub as_alone : AsAlone screen left_then.engine (calls_over since left_then)
      pub drawn : DrawnOnScreen found_then.engine screen set points L (calls_over since left_then)
      -- the turn that serves the screen answers that more strips remain, where the screen still holds the job after it
      pub goes_on : (line : List ℕ) → AsksTurn line → next_screen left_now.engine.screens ≡ screen
          → holds_job (left_by_line line left_now).engine.screens screen ≡ true
          → Replies line left_now (answered MoreShape [] (screen ∷ []))
      -- it answers the card, where it ends the job
      pub ends : (line : List ℕ) → AsksTurn line → next_screen left_now.engine.screens ≡ screen
          → holds_job (left_by_line line left_now).engine.screens screen ≡ false
          → Replies line left_now (done_reply screen card_now.verdict card_now)
      -- "The card is the one that the set's own line would get, with that density": whatever lines the program took
      -- before
      pub own_line : (line : List ℕ) → WritesSet Set line set_now points L → (lines : List (List ℕ))
          → Replies line (left_by_lines lines at_first) (set_reply card_now)
