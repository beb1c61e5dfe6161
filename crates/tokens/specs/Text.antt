-- ASCII text as bytes, so that definitions can quote the forms as they are written.
use Rattle.std.specs.Prelude.{List, [], ◌∷◌, ℕ, zero, suc}
use Prim.Native.String.{String, len, char_at}
use Prim.Native.Char.{code}

-- the codes of n characters from place i on
unfoldable pub codes : String → ℕ → ℕ → List ℕ
codes s i zero = []
codes s i (suc n) = code (char_at s i) ∷ codes s (suc i) n

unfoldable pub text : String → List ℕ
unfolding codes
text s = codes s 0 (len s)
