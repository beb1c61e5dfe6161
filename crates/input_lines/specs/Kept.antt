-- How the code keeps the line that has begun.
use Rattle.std.specs.Prelude.{List, [], ◌++◌, ◌≡◌, ℕ, ◌<◌, ◌≤◌, min, ltb, length, take, get_or}
use Rattle.tokens.specs.Tokens.{line_bytes}
use Rattle.input_lines.specs.Lines.{lines_within, begun_after}
use Rattle.input_lines.specs.declared.State.{State}
use Rattle.input_lines.specs.declared.KeptLine.{KeptLine}

-- the state of a line that has begun: its first 4,096 bytes, and whether there were more
pub record Keeps (buffer : List ℕ) (s : State) (begun : List ℕ) : Type 0 where
  pub count : s.kept ≡ min line_bytes (length begun)
  pub bytes : take s.kept buffer ≡ take line_bytes begun
  pub over : s.over ≡ ltb line_bytes (length begun)

-- more bytes of the line are kept
pub record KeepsBytes (before after : List ℕ) (s r : State) (bytes : List ℕ) : Type 0 where
  pub within : r.kept ≤ line_bytes
  pub keeps : (begun : List ℕ) → Keeps before s begun → Keeps after r (begun ++ bytes)

-- the bytes of a line are kept, up to its newline or their end: no line ends in them, whatever has begun
pub record KeepsLine (before after : List ℕ) (s : State) (bytes : List ℕ) (r : KeptLine) : Type 0 where
  pub none_ends : (begun : List ℕ) → lines_within begun (take r.taken bytes) ≡ []
  pub keeps :
      (begun : List ℕ) → Keeps before s begun → Keeps after r.state (begun_after begun (take r.taken bytes))
  pub within : r.state.kept ≤ line_bytes
  pub some : r.taken ≤ length bytes
  pub ends : r.taken < length bytes → get_or bytes r.taken 0 ≡ 10
