-- The calls of the engine that lines ask for, in their order: so what holds of any calls on one engine
-- (engines/specs/Calls) holds of the lines that the program is fed (document 02, Paper 10).
use Rattle.std.specs.Prelude.{cond, List, [], ◌∷◌, ◌++◌, ◌≡◌, ℕ, leb, length}
use Rattle.tokens.specs.Tokens.{line_bytes}
use Rattle.engines.specs.Calls.{Call, after_calls}
use Rattle.lines.specs.Lines.{Memory, calls_of_line}
use Rattle.inputs.specs.Inputs.{left_by_line, left_by_lines}

-- the calls that one line asks for: one of more than 4,096 bytes asks for none
abbrev pub calls_by : List ℕ → Memory → List Call
calls_by line memory = cond (leb (length line) line_bytes) (calls_of_line line memory) []

-- the calls that lines ask for, one line after the other
unfoldable pub calls_over : List (List ℕ) → Memory → List Call
calls_over [] memory = []
calls_over (line ∷ lines) memory = calls_by line memory ++ calls_over lines (left_by_line line memory)

-- after any lines, the engine is the one that their calls leave
abbrev pub EngineByCalls : Type 0
EngineByCalls =
    (lines : List (List ℕ)) (memory : Memory)
    → (left_by_lines lines memory).engine ≡ after_calls memory.engine (calls_over lines memory)
