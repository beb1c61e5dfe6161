-- Calls in a row: `no_line`, chunks handed to `feed`, and `finish`. Each call is known by its contract alone, with the
-- buffer, the state, the scratch and the engine as the call before it left them. How the input is cut into chunks, and
-- how much room a call finds in `out`, is open.
use Rattle.std.specs.Prelude.{List, [], ◌++◌, ℕ, ◌≤◌, length, take, drop}
use Rattle.input_lines.specs.Kept.{Keeps}
use Rattle.inputs.specs.States.{Place, Feeds}
use Rattle.inputs.specs.declared.Fed.{Fed}

-- what stands in `out` from place n up to place w: what a call that was handed n, and answered w, appended
abbrev pub appended_in : List ℕ → ℕ → ℕ → List ℕ
appended_in out n w = drop n (take w out)

-- the calls so far, from a place on: what is left of the last chunk; where the input stands; all chunks joined; and all
-- that was appended, joined
pub data Calls (first : Place) : List ℕ → Place → List ℕ → List ℕ → Type 0 where
  -- `no_line` gave the state
  begins : ((buffer : List ℕ) → Keeps buffer first.state []) → Calls first [] first [] []
  -- another chunk, where nothing is left of the one before
  reads : (bytes : List ℕ) (p : Place) (input replied : List ℕ)
      → Calls first [] p input replied
      → Calls first bytes p (input ++ bytes) replied
  -- a call of `feed` with what is left of the chunk
  feeds :
      (rest : List ℕ) (p after : Place) (input replied out written : List ℕ) (n : ℕ) (r : Fed)
      → Calls first rest p input replied
      → n ≤ length out → Feeds p after rest out n written r
      → Calls first (drop r.taken rest) after input (replied ++ appended_in written n r.written)
