-- What a line that stands alone is refused for: as the first line that a program reads, before any submission.
use Rattle.std.specs.Prelude.{List, ℕ, get_or, replicate, Option, Some, None}
use Rattle.floats.specs.Operations.{bits}
use Rattle.limits.specs.Limits.{scratch_numbers}
use Rattle.answers.specs.declared.Reply.{Reply}
use Rattle.answers.specs.declared.Shape.{Shape}
use Rattle.answers.specs.declared.Shape.TheVariants.{Refused}
use Rattle.lent_engines.specs.Memory.{engine_numbers_length, engine_counts_length}
use Rattle.lines.specs.Lines.{Memory, memory_in, line_effect}
use Rattle.explanations.specs.declared.Fault.{Fault}

-- the number of a refusal and the values that go with it, by the shape and counts of an answer, and none where the
-- answer is no refusal
abbrev pub fault_by : Shape → List ℕ → Option Fault
fault_by Refused counts =
    Some (record { number = get_or counts 0 0; first = get_or counts 1 0; second = get_or counts 2 0 })
fault_by _ counts = None

abbrev pub fault_in : Reply → Option Fault
fault_in r = fault_by r.shape r.counts

-- the memory of a program that has read nothing: a scratch of 1,024 numbers, and no job at any screen
unfoldable pub alone : Memory
alone = memory_in (replicate scratch_numbers (bits 0)) (replicate engine_numbers_length (bits 0))
    (replicate engine_counts_length 0)

unfoldable pub fault_of : List ℕ → Option Fault
fault_of line = fault_in (line_effect line alone).reply
