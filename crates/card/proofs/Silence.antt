-- The contract of `run` can't be met in silence: where a byte was read and the input came to its end, a byte was handed to write, whichever
-- bytes are said to have been taken. So a program that drops a last line without a newline does not meet it. And that of `reply_next` fixes
-- which bytes it hands to write: so one that writes over them first does not meet it. Assumes nothing.
use mathlib.Core.List.{List, []}
use mathlib.Core.Bool.{Bool, true, cond}
use mathlib.Core.Path.{◌≡◌, sym, ap, subst, ◌∙◌}
use Prim.Native.Nat.{ℕ, ◌-◌, ◌<◌}
use native.Mathlib.Omega.{arith}
use lib.ListN.{length, take, drop}
use Rattle.lines.specs.Lines.{Memory}
use Rattle.input_lines.specs.Lines.{lines_within, lines_of}
use Rattle.input_lines.specs.Taking.{Place, Begun}
use Rattle.inputs.specs.Inputs.{replies}
use Rattle.inputs.specs.States.{Answered}
use Rattle.inputs.proofs.Lengths.{some_replied}
use Rattle.reads.specs.Reads.{at_end}
use Rattle.line_runs.specs.declared.Step.{Step}
use Rattle.line_runs.specs.declared.End.{End}
use Rattle.card.specs.declared.Replying.{Replying}
use Rattle.card.specs.Program.{at_first, memory_at, Steps, Runs}

pub some_handed : (left : Memory) (out : List ℕ) (r : End) → Runs left out r → at_end r.turn.got ≡ true → 0 < r.turn.read
    → 0 < r.handed
some_handed left out r p e h =
    let a = p.reads in let u = ap length (p.all e) in let c = p.hands in
    let answered : Answered at_first (lines_of p.taken) p.text left = subst
    (λ (t : Bool). Answered at_first (cond t (lines_of p.taken) (lines_within [] p.taken)) p.text left) e p.answers in
    let t = ap length answered.replied in
    let s = some_replied p.taken at_first (omega arith) in
    omega arith

-- Two programs that meet it hand the same bytes to write, if they take as many bytes of a chunk, each from a place where the same line has
-- begun over the same scratch and engine; what else their buffers and their `out` hold does not matter.
pub same_written : {p p' q r : Place Replying} {s t u : Step} {chunk out written : List ℕ} (begun : List ℕ) → Begun p begun → Begun p' begun
    → memory_at p.memory ≡ memory_at p'.memory → t.taken ≡ u.taken → Steps p q s t chunk out → Steps p' r s u chunk written
    → take t.written out ≡ take u.written written
same_written {p = p} {s = s} {u = u} {chunk = chunk} begun k l m e a b =
    let lines = λ (n : ℕ). lines_within begun (take (n - s.taken) (drop s.taken chunk)) in
    (a.takes.answers begun k).answered.replied
    ∙ ap (λ (n : ℕ). replies (lines n) (memory_at p.memory)) e
    ∙ ap (λ (left : Memory). replies (lines u.taken) left) m
    ∙ sym (b.takes.answers begun l).answered.replied
