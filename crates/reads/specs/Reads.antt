-- What a read gave: how many bytes it brought, 0 at the end of the input, or none where it failed.
use Rattle.std.specs.Prelude.{Bool, true, false, ℕ, zero, suc, ◌^◌, ◌<◌, ◌≤◌, ◌≡◌, List, length, take, unwrap_or}
use Rattle.std.specs.Prelude.{Option, Some, None}
use Rattle.std.specs.Io.KnownBytes.{Consumes, Keeps, IsAtEnd}

abbrev pub brought : Option ℕ → ℕ
brought got = unwrap_or got 0

abbrev pub at_end : Option ℕ → Bool
at_end (Some zero) = true
at_end (Some (suc n)) = false
at_end None = false

-- the most bytes that are read: a proved loop has to end, and no run comes to so many
abbrev pub most_read : ℕ
most_read = 2 ^ 53

-- what a read into n bytes may answer: how many bytes it brought, at most n, or that it failed
abbrev pub Answers : ℕ → Option ℕ → Type 0
Answers n got = brought got ≤ n

-- what a read that gave `got` did to the bytes that the input has left, where they are known: it took those that it
-- brought, none only at the end or with no room, and none where it failed
abbrev pub Consumed : Option (List ℕ) → Option (List ℕ) → Option ℕ → List ℕ → Type 0
Consumed old new (Some n) chunk = Consumes old new (take n chunk) × (n ≡ 0 → 0 < length chunk → IsAtEnd new)
Consumed old new None chunk = Keeps old new
