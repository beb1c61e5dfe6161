-- What it means that bytes of an input are taken: the lines that ended in them are answered by a text, and leave a
-- memory. One relation (`Takes`) says so of a call, of a chunk and of a whole run, for whatever answers lines. It holds
-- where nothing is taken, and of bytes and the bytes after them together where it holds of each (proofs/Taking: `none`,
-- `also`).
use Rattle.std.specs.Prelude.{List, ◌≡◌, ℕ, ◌+◌, ◌*◌, ◌≤◌, length}
use Rattle.tokens.specs.Tokens.{line_bytes}
use Rattle.input_lines.specs.Lines.{lines_within, begun_after}
use Rattle.input_lines.specs.Kept.{Keeps}
use Rattle.input_lines.specs.declared.State.{State}

-- where an input stands: the buffer and the state that keep the line that has begun, and the memory that lines find and
-- leave
pub record Place (Memory : Type 0) : Type 0 where
  pub buffer : List ℕ
  pub state : State
  pub memory : Memory

abbrev pub place_in : {Memory : Type 0} → List ℕ → State → Memory → Place Memory
place_in buffer s memory = record { buffer = buffer; state = s; memory = memory }

-- the line that has begun at a place of the input
abbrev pub Begun : {Memory : Type 0} → Place Memory → List ℕ → Type 0
Begun p begun = Keeps p.buffer p.state begun

-- what answers lines over a memory: by which text, leaving which memory (`Answered`); what stays of the memory after
-- some bytes, whichever they are (`Stays`); and the most bytes of text for a byte taken (`most`)
module _ {Memory : Type 0} (Answered : Memory → List (List ℕ) → List ℕ → Memory → Type 0)
    (Stays : Memory → ℕ → Memory → Type 0) (most : ℕ) where
  -- bytes are taken after a line that has begun, whatever it is: the lines that ended are answered by the text, and the
  -- line that has begun then is kept
  pub record Takes (before : Place Memory) (bytes : List ℕ) (after : Place Memory) (text : List ℕ) : Type 0 where
    pub answers :
        (begun : List ℕ) → Begun before begun → Answered before.memory (lines_within begun bytes) text after.memory
    pub keeps : (begun : List ℕ) → Begun before begun → Begun after (begun_after begun bytes)
    pub short : length text ≤ most * length bytes
    pub within : before.state.kept ≤ line_bytes → after.state.kept ≤ line_bytes
    pub buffers : length after.buffer ≡ length before.buffer
    pub stays : Stays before.memory (length bytes) after.memory

  -- bytes are taken, and the text is handed to write
  pub record Hands (before : Place Memory) (bytes : List ℕ) (after : Place Memory) (handed total : ℕ) : Type 0 where
    pub text : List ℕ
    pub takes : Takes before bytes after text
    pub counts : total ≡ handed + length text
