-- The calls on an engine in lent memory (include/delvouzh.h; document 02, Paper 10): the reply or the answer of each,
-- and what it changes. specs/Calls says what it then returns and leaves in the lent lists.
use Rattle.std.specs.Prelude.{◌≡◌, Bool, true, cond, List, [], ◌∷◌, ◌++◌, ℕ, leb, length, drop, set, replicate, Float, Option}
use Rattle.refusals.specs.declared.Refusal.TheVariants.{NoForm}
use Rattle.refusals.specs.Refusals.{number_of}
use Rattle.refusals.specs.Calls.{CallOf}
use Rattle.materials.specs.declared.Density.{Density}
use Rattle.fins.specs.declared.FinSet.{FinSet}
use Rattle.jobs.specs.declared.Row.{Row}
use Rattle.engines.specs.declared.Engine.{Engine}
use Rattle.engines.specs.declared.EngineTurn.{EngineTurn}
use Rattle.engines.specs.Engines.{served_screen, turn_of, turned_row, submit_of, change_at, progress_at}
use Rattle.engines.specs.Calls.{Call, turn, submit, change}
use Rattle.lent_engines.specs.Memory.{engine_numbers_length, engine_counts_length, screens_in, no_screens}
use Rattle.lent_engines.specs.Lent.{Lists, engine_of, Leaves}
use Rattle.screen_exports.specs.Calls.{MemoryKind, Effect, asked_of_set, asked_of_density, reply_values, reply_counts}
use Rattle.screen_exports.specs.Calls.{ReplyCall, RowCall, ProgressCall}

-- an engine as a kind of memory: what changes is what calls of the engine do, one or none
abbrev pub engine_memory : MemoryKind (List Call)
engine_memory =
    record { numbers = engine_numbers_length; counts = engine_counts_length; unchanged = λ l. []; Leaves = Leaves }

-- clearing makes an engine with no job, none served, whatever the counts were
abbrev pub clear_room : List ℕ → Bool
clear_room counts = leb engine_counts_length (length counts)

pub record ClearCall (counts : List ℕ) (r : ℕ) (counts' : List ℕ) : Type 0 where
  pub returned : r ≡ cond (clear_room counts) 0 (number_of NoForm)
  pub cleared : counts'
      ≡ cond (clear_room counts) (replicate engine_counts_length 0 ++ drop engine_counts_length counts) counts
  pub held : clear_room counts ≡ true → screens_in counts' ≡ no_screens

-- the effect of a submission to a screen
abbrev pub submitting : Engine → ℕ → List Float → ℕ → FinSet → Effect (List Call)
submitting engine screen points L set =
    record { reply = (submit_of engine screen set points L).reply; change = submit screen set points L ∷ [] }

-- the effect of a change of the density of a screen's job
abbrev pub changing : Engine → ℕ → Density → Effect (List Call)
changing engine screen density =
    record { reply = (change_at engine screen density).reply; change = change screen density ∷ [] }

-- the counts of a turn's answer, and after them the screen served, 0 for none
abbrev pub with_screen : EngineTurn → List ℕ → List ℕ
with_screen t counts = set counts 4 (served_screen t.turn)

module _ (before : Lists) where
  abbrev pub SubmitCall : ℕ → Option FinSet → List Float → ℕ → List ℕ → ℕ → Lists → List ℕ → Type 0
  SubmitCall screen set points L values =
      ReplyCall engine_memory before
      (asked_of_set engine_memory before set (submitting (engine_of before) screen points L)) 2 reply_values values

  abbrev pub DensityCall : ℕ → Option Density → List ℕ → ℕ → Lists → List ℕ → Type 0
  DensityCall screen density told =
      ReplyCall engine_memory before
      (asked_of_density engine_memory before density (changing (engine_of before) screen)) 4 reply_counts told

  abbrev pub turn_told : List Float → CallOf Row
  turn_told scratch =
      record {
        answer = turned_row (turn_of (engine_of before) (length scratch)).answer;
        leaves = (turn_of (engine_of before) (length scratch)).leaves;
      }

  abbrev pub TurnCall : List Float → List Float → List ℕ → ℕ → Lists → List Float → List Float → List ℕ → Type 0
  TurnCall scratch body told =
      RowCall engine_memory before (turn scratch ∷ []) (turn_told scratch) 5
      (with_screen (turn_of (engine_of before) (length scratch)).answer) scratch body told

  abbrev pub ScreenProgressCall : ℕ → List ℕ → ℕ → List ℕ → Type 0
  ScreenProgressCall screen told = ProgressCall engine_memory before (progress_at (engine_of before) screen) told
