-- What is printed reads back as the same figure behind the mark, and a figure has a byte. Assumes nothing.
use mathlib.Core.List.{List, [], ◌∷◌}
use mathlib.Core.Path.{◌≡◌}
use Prim.Native.Nat.{ℕ, ◌≤◌}
use native.Mathlib.Omega.{arith}
use lib.Dec.{T}
use lib.ListN.{length}
use lib.Ieee.{Float, binary64, fits}
use Rattle.std.specs.Prelude.{Some}
use Rattle.hexadecimal.specs.Hex.{figure_text, printed_value}
use Rattle.hexadecimal.proofs.RoundTrip.{reads_back}
use Rattle.figure_words.specs.FigureWords.{figure_word}

-- every f64; 35 is `#`
pub marked_reads_back : (x : Float) → T (fits binary64 x) → figure_word (35 ∷ figure_text x) ≡ Some (printed_value x)
unfolding figure_word
marked_reads_back x f = reads_back x f

pub figure_has_a_byte : (w : List ℕ) (x : Float) → figure_word w ≡ Some x → 1 ≤ length w
unfolding figure_word
figure_has_a_byte [] x h = let z : ◌≡◌ {A = ℕ} 0 1 = cc in omega arith
figure_has_a_byte (b ∷ l) x h = omega arith
