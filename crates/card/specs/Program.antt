-- What the program does with the bytes that it reads (document 01, "The card program"). No contract can say which bytes
-- a read brings and which a write takes (docs/ASSUMED.md). The definitions here name what each read and each write
-- gave; they say how the bytes in the chunk are answered, and which replies the first bytes of `out`, which are handed
-- to write, are; and they count the bytes that were read, and those that were handed to write.
use Rattle.std.specs.Prelude.{List, [], ◌∷◌, ◌++◌, Bool, true, ◌&&◌, cond, ◌≡◌, ℕ, ◌+◌, ◌*◌, ◌<◌, ◌≤◌, length, take, replicate}
use Rattle.floats.specs.Operations.{bits}
use Rattle.tokens.specs.Text.{text}
use Rattle.limits.specs.Limits.{scratch_numbers}
use Rattle.reads.specs.Reads.{brought, at_end, most_read}
use Rattle.lent_engines.specs.Memory.{engine_numbers_length, engine_counts_length}
use Rattle.lent_engines.specs.Lent.{Room}
use Rattle.lines.specs.Lines.{Memory, LentMemory, lent_in, memory_in, memory_of}
use Rattle.input_lines.specs.Lines.{lines_within, lines_of}
use Rattle.input_lines.specs.Taking.{Place}
use Rattle.inputs.specs.Inputs.{reply_bytes}
use Rattle.inputs.specs.States.{Answered, SameLengths}
use Rattle.line_runs.specs.declared.Step.{Step}
use Rattle.line_runs.specs.declared.Last.{Last}
use Rattle.line_runs.specs.declared.End.{End}
use Rattle.line_runs.specs.Runs.{Steps as StepsOver, Ends as EndsOver}
use Rattle.card.specs.declared.Replying.{Replying}

-- the memory before the first line: a scratch of zeros, of which "no run needs more ..; the program lends just that
-- many" (document 02, Paper 8), and the engine that lists of zeros hold, with no job and none served
-- (`no_job_at_first`)
unfoldable pub at_first : Memory
at_first = memory_in (replicate scratch_numbers (bits 0)) (replicate engine_numbers_length (bits 0))
    (replicate engine_counts_length 0)

-- what is told on standard error, by whether every line was answered (docs/FORMS.md, "Where a read or a write fails")
unfoldable pub told : Bool → List ℕ
told answered =
    cond answered
    []
    (text "card: a read or a write failed; send the lines without an answer again, "
    ++ text "and submit again the jobs that had not ended" ++ (10 ∷ []))

-- at most one full reply was handed to write for each of `taken` bytes, so that what was handed can be counted
abbrev pub Counted : ℕ → ℕ → Type 0
Counted taken handed = handed ≤ reply_bytes * taken

-- scratch and engine, as they are lent to a line
abbrev pub lent_at : Replying → LentMemory
lent_at m = lent_in m.scratch m.engine_numbers m.engine_counts

abbrev pub memory_at : Replying → Memory
memory_at m = memory_of (lent_at m)

-- the engine has room for its jobs
abbrev pub Ready : Replying → Type 0
Ready m = Room m.engine_numbers m.engine_counts

-- lines are answered, by what replies to them, and what stays of it after some bytes
pub record AnsweredOver (before : Replying) (lines : List (List ℕ)) (text : List ℕ) (after : Replying) : Type 0 where
  pub answered : Answered (memory_at before) lines text (memory_at after)

pub record StaysOver (before : Replying) (taken : ℕ) (after : Replying) : Type 0 where
  pub lengths : SameLengths (lent_at before) taken (lent_at after)

-- a step: bytes of a chunk are taken from where the program stands on, and the first `written` bytes of `out` are the
-- replies to the lines that ended in them
abbrev pub Steps : Place Replying → Place Replying → Step → Step → List ℕ → List ℕ → Type 0
Steps before after s r chunk out = StepsOver AnsweredOver StaysOver reply_bytes before after s r chunk out

-- the end of the input: the line that has begun is the last, unless it has no byte
abbrev pub Ends : Place Replying → Replying → List ℕ → Last → Type 0
Ends before after out r = EndsOver AnsweredOver (λ m. told) reply_bytes before after out r

-- what is told at the end of a run: that every line was answered, if the last read gave the end and every write took
-- all
pub record Tells (out : List ℕ) (r : End) : Type 0 where
  pub holds : take r.told out ≡ told (at_end r.turn.got && r.all)
  pub room : r.told ≤ length out

-- a whole run
pub record Runs (left : Memory) (out : List ℕ) (r : End) : Type 0 where
  -- the bytes read: those that were taken, and the rest, which were not taken because a write had failed
  pub taken : List ℕ
  pub rest : List ℕ
  pub reads : r.turn.read ≡ length taken + length rest
  -- all that was handed to write, in order (which bytes each write was handed: `Steps`, `Ends`)
  pub text : List ℕ
  pub hands : r.handed ≡ length text
  -- this text is the replies to every line at the input's end, and where a read or a write failed, to every line that
  -- ended
  pub answers : Answered at_first (cond (at_end r.turn.got) (lines_of taken) (lines_within [] taken)) text left
  -- at the input's end there is no rest
  pub all : at_end r.turn.got ≡ true → rest ≡ []
  -- the run ends where a read brings nothing or a write does not take all; else only once `most_read` bytes are read
  pub stops : 0 < brought r.turn.got → r.all ≡ true → most_read ≤ r.turn.read
  pub tells : Tells out r
