-- What the calls on an engine in lent memory promise: the answer, the two lists at exit and the engine that they hold,
-- and the scratch at exit.
use Rattle.std.specs.Prelude.{◌≡◌, Bool, cond, List, [], ◌∷◌, ◌++◌, ℕ, ◌+◌, ◌*◌, ◌≤◌, ltb, length, drop, replicate, Float}
use Rattle.materials.specs.declared.Density.{Density}
use Rattle.fins.specs.declared.FinSet.{FinSet}
use Rattle.jobs.specs.declared.Reply.{Reply}
use Rattle.jobs.specs.Calls.{is_taken}
use Rattle.lent_jobs.specs.Memory.{job_numbers_length, job_counts_length, numbers_of, counts_of}
use Rattle.engines.specs.declared.Engine.{Engine}
use Rattle.engines.specs.declared.Screens.{Screens}
use Rattle.engines.specs.declared.Turn.{Turn}
use Rattle.engines.specs.Engines.{place_of, job_at, turn_of, submit_of, change_at}
use Rattle.engines.specs.Calls.{Call, turn, submit, change, engine_by, after_calls, screen_of}
use Rattle.lent_engines.specs.Memory.{engine_numbers_length, engine_counts_length, screen_counts, screens_in, no_screens, put}
use Rattle.lent_engines.specs.Memory.{engine_in}

-- the two lists have room for an engine
abbrev pub Room : List Float → List ℕ → Type 0
Room numbers counts = (engine_numbers_length ≤ length numbers) × (engine_counts_length ≤ length counts)

-- ---- the two lists after a call

pub record Lists : Type 0 where
  pub numbers : List Float
  pub counts : List ℕ

abbrev pub lists : List Float → List ℕ → Lists
lists numbers counts = record { numbers = numbers; counts = counts }

abbrev pub engine_of : Lists → Engine
engine_of l = engine_in l.numbers l.counts

-- the lists with an engine's screens, and its job at a place, written over what stood there; every other number and
-- count stays
abbrev pub written : Engine → ℕ → Lists → Lists
written engine place l =
    record {
      numbers = put (place * job_numbers_length) job_numbers_length l.numbers (numbers_of (job_at engine place));
      counts =
          put (9 + place * job_counts_length) job_counts_length (screen_counts engine.screens ++ drop 9 l.counts)
          (counts_of (job_at engine place));
    }

-- whether a call writes to the lists: a turn where it serves a screen, a submission or a change of density where it is
-- taken; any other call "changes nothing", not even in the lists
unfoldable pub writes : Engine → Call → Bool
writes engine (turn scratch) = ltb 0 (screen_of engine (turn scratch))
writes engine (submit screen set points L) = is_taken (submit_of engine screen set points L).reply
writes engine (change screen density) = is_taken (change_at engine screen density).reply

-- the lists as a call leaves them, by what they were and by the call alone
unfoldable pub lists_by : Lists → Call → Lists
lists_by l call =
    cond (writes (engine_of l) call)
    (written (engine_by (engine_of l) call) (place_of (screen_of (engine_of l) call)) l) l

-- the lists after calls in a row: "each call gets the record, in Paper 10 the engine's, as the one before left it"
-- (document 02, Paper 9)
unfoldable pub lists_after : Lists → List Call → Lists
lists_after l [] = l
lists_after l (call ∷ calls) = lists_after (lists_by l call) calls

-- what calls in a row leave: the lists, the engine that these hold, and, unchanged, what the caller has beyond an
-- engine's numbers and counts
pub record Leaves (calls : List Call) (before after : Lists) : Type 0 where
  pub lists_are : after ≡ lists_after before calls
  pub held : engine_of after ≡ after_calls (engine_of before) calls
  pub numbers_beyond : drop engine_numbers_length after.numbers ≡ drop engine_numbers_length before.numbers
  pub counts_beyond : drop engine_counts_length after.counts ≡ drop engine_counts_length before.counts

-- ---- the calls

pub record Turns (numbers : List Float) (counts : List ℕ) (scratch : List Float) (r : Turn) (numbers' : List Float)
    (counts' : List ℕ) (scratch' : List Float) : Type 0 where
  pub answered : r ≡ (turn_of (engine_in numbers counts) (length scratch)).answer.turn
  pub leaves : Leaves (turn scratch ∷ []) (lists numbers counts) (lists numbers' counts')
  pub lent : scratch' ≡ (turn_of (engine_in numbers counts) (length scratch)).leaves scratch

pub record Submits (screen : ℕ) (set : FinSet) (points : List Float) (L : ℕ) (numbers : List Float) (counts : List ℕ)
    (r : Reply) (numbers' : List Float) (counts' : List ℕ) : Type 0 where
  pub answered : r ≡ (submit_of (engine_in numbers counts) screen set points L).reply
  pub leaves : Leaves (submit screen set points L ∷ []) (lists numbers counts) (lists numbers' counts')

pub record Changes (screen : ℕ) (density : Density) (numbers : List Float) (counts : List ℕ) (r : Reply)
    (numbers' : List Float) (counts' : List ℕ) : Type 0 where
  pub answered : r ≡ (change_at (engine_in numbers counts) screen density).reply
  pub leaves : Leaves (change screen density ∷ []) (lists numbers counts) (lists numbers' counts')

-- clearing sets every count of the engine to 0, whatever it was, and so no screen holds a job
pub record Clears (counts counts' : List ℕ) : Type 0 where
  pub counts_are : counts' ≡ replicate engine_counts_length 0 ++ drop engine_counts_length counts
  pub held : screens_in counts' ≡ no_screens

-- ---- what private functions do

-- the screens are written over the first nine counts, which then hold them
pub record WritesScreens (screens : Screens) (counts counts' : List ℕ) : Type 0 where
  pub counts_are : counts' ≡ screen_counts screens ++ drop 9 counts
  pub held : screens_in counts' ≡ screens

-- the engine's screens and its job at a place are written, and the lists then hold that engine
pub record WritesAt (engine : Engine) (place : ℕ) (before after : Lists) : Type 0 where
  pub lists_are : after ≡ written engine place before
  pub held : engine_of after ≡ engine
  pub numbers_beyond : drop engine_numbers_length after.numbers ≡ drop engine_numbers_length before.numbers
  pub counts_beyond : drop engine_counts_length after.counts ≡ drop engine_counts_length before.counts
