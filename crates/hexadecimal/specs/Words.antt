-- What the functions that `read_figure` calls do. A machine word is eight bytes as one number, the first byte the most
-- significant; lanes are the parts of a number, k bits each. No promise to a caller uses this file.
use Rattle.std.specs.Prelude.{List, [], ◌∷◌, Bool, true, ◌&&◌, ℕ, zero, suc, ◌+◌, ◌*◌, ◌/◌, ◌%◌, ◌^◌, ltb}
use Rattle.hexadecimal.specs.Hex.{digit_value}

-- P holds of each byte
abbrev pub Each : (ℕ → Type 0) → List ℕ → Type 0
Each P [] = Unit
Each P (b ∷ l) = P b × Each P l

-- the last k bytes of w, in front of l
unfoldable pub bytes_before : ℕ → ℕ → List ℕ → List ℕ
bytes_before zero w l = l
bytes_before (suc k) w l = bytes_before k (w / 256) (w % 256 ∷ l)

-- a machine word's bytes
abbrev pub bytes_of : ℕ → List ℕ
bytes_of w = bytes_before 8 w []

-- the number whose lanes are n and then f of each element of l, k bits each
unfoldable pub lanes : ℕ → ℕ → (ℕ → ℕ) → List ℕ → ℕ
lanes k n f [] = n
lanes k n f (b ∷ l) = lanes k (n * 2 ^ k + f b) f l

-- a byte taken for a digit: its low four bits, and 9 more where it has the bit of weight 64, as letters have; cut to
-- four bits
abbrev pub taken : ℕ → ℕ
taken b = (b % 16 + 9 * (b / 64 % 2)) % 16

-- whether each byte is a digit
unfoldable pub all_digits : List ℕ → Bool
all_digits [] = true
all_digits (b ∷ l) = ltb (digit_value b) 16 && all_digits l
