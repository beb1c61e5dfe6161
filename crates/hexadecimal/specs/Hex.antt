-- Figures as text (document 01, "The card program"): "16 lowercase hexadecimal digits of the f64's bits; either zero
-- prints as all 0, a NaN as 7ff8000000000000".
use Rattle.std.specs.Prelude.{List, [], ◌∷◌, ◌++◌, Bool, true, false, ◌&&◌, cond, ℕ, zero, suc, ◌+◌, ◌-◌, ◌*◌, ◌/◌, ◌%◌}
use Rattle.std.specs.Prelude.{ltb, leb, eqb, length, Float, Option, Some, None}
use Rattle.std.specs.Float.{binary64}
use Rattle.std.specs.Float.Ieee.{to_bits, eq}
use Rattle.floats.specs.Operations.{bits}

-- ---- reading

-- the value of a digit, 0 to 9 and a to f, or 16 for any other byte
abbrev pub digit_value : ℕ → ℕ
digit_value b = cond (leb 48 b && leb b 57) (b - 48) (cond (leb 97 b && leb b 102) (b - 87) 16)

-- of two answers, the one that the test picks
abbrev pub pick : Bool → Option Float → Option Float → Option Float
pick true a b = a
pick false a b = b

-- the figure of a word's digits, the most significant first, where those before them make up n
unfoldable pub read_digits : List ℕ → ℕ → Option Float
read_digits [] n = Some (bits n)
read_digits (b ∷ bs) n = pick (ltb (digit_value b) 16) (read_digits bs (n * 16 + digit_value b)) None

-- a word is a figure where it is sixteen digits
unfoldable pub figure_of : List ℕ → Option Float
figure_of word = pick (eqb (length word) 16) (read_digits word 0) None

-- ---- printing

abbrev pub digit_letter : ℕ → ℕ
digit_letter d = cond (ltb d 10) (d + 48) (d + 87)

-- the last k digits of n, the most significant first
unfoldable pub digits : ℕ → ℕ → List ℕ
digits zero n = []
digits (suc k) n = digits k (n / 16) ++ (digit_letter (n % 16) ∷ [])

-- the bits that are printed: 0 for either zero, else x's own. The logic has one NaN, whose bits `to_bits` gives as
-- 7ff8000000000000 (a row of test_definitions/Numbers, `printed_figures`, computes its digits); so does
-- `floats::to_bits`, whatever pattern a NaN has in the machine.
abbrev pub printed_bits : Float → ℕ
printed_bits x = cond (eq x (bits 0)) 0 (to_bits binary64 x)

unfoldable pub figure_text : Float → List ℕ
unfolding digits
figure_text x = digits 16 (printed_bits x)

-- what a printed figure stands for: +0 for either zero, else x
abbrev pub printed_value : Float → Float
printed_value x = cond (eq x (bits 0)) (bits 0) x
