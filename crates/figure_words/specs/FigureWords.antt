-- "A figure may be an optional `+` or `-`, then 1 to 19 digits in all and one optional point with a digit on each side
-- .. Sixteen hexadecimal digits now need a leading `#` .. Turned away: 19, a word of neither shape where a figure
-- belongs, or sixteen bare digits, which an old line meant otherwise" (document 02, Paper 2). A word is any list of
-- bytes here; `None` is what is turned away.
use Rattle.std.specs.Prelude.{List, [], ◌∷◌, Bool, true, false, ◌&&◌, not, cond, ℕ, ◌+◌, ◌*◌, ltb, leb, eqb, length}
use Rattle.std.specs.Prelude.{Float, Option, Some, None}
use Rattle.hexadecimal.specs.Hex.{pick, figure_of}
use Rattle.counts.specs.Counts.{digit_value}
use Rattle.decimals.specs.Decimals.{decimal_of}

-- ---- digits

abbrev pub is_digit : ℕ → Bool
is_digit b = ltb (digit_value b) 10

-- the digits at a text's start
unfoldable pub leading_digits : List ℕ → List ℕ
leading_digits [] = []
leading_digits (b ∷ l) = cond (is_digit b) (b ∷ leading_digits l) []

-- what stands after the digits at a text's start
unfoldable pub behind_digits : List ℕ → List ℕ
behind_digits [] = []
behind_digits (b ∷ l) = cond (is_digit b) (behind_digits l) (b ∷ l)

-- the whole number that digits write, after others that make up n
unfoldable pub number_from : ℕ → List ℕ → ℕ
number_from n [] = n
number_from n (b ∷ l) = number_from (n * 10 + digit_value b) l

-- ---- a decimal without its sign: n is the whole number that its first digits write, c how many they are

-- the figure of digits alone; where there is no sign (`bare`), exactly sixteen are none
abbrev pub whole_figure : Bool → Bool → ℕ → ℕ → Option Float
whole_figure bare minus n c =
    pick (leb 1 c && leb c 19 && not (bare && eqb c 16)) (Some (decimal_of minus n 0)) None

-- the figure where the byte b follows the digits, which must be the point (46), and then l, which must be digits
abbrev pub point_figure : Bool → ℕ → ℕ → ℕ → List ℕ → Option Float
point_figure minus n c b l =
    pick
    (eqb b 46 && leb 1 c && leb 1 (length (leading_digits l)) && leb (c + length (leading_digits l)) 19
    && eqb (length (behind_digits l)) 0)
    (Some (decimal_of minus (number_from n (leading_digits l)) (length (leading_digits l))))
    None

abbrev pub digits_figure : Bool → Bool → ℕ → ℕ → List ℕ → Option Float
digits_figure bare minus n c [] = whole_figure bare minus n c
digits_figure bare minus n c (b ∷ l) = point_figure minus n c b l

unfoldable pub unsigned_figure : Bool → Bool → List ℕ → Option Float
unsigned_figure bare minus l =
    digits_figure bare minus (number_from 0 (leading_digits l)) (length (leading_digits l)) (behind_digits l)

-- ---- a word

-- the figure of a decimal with an optional `+` (43) or `-` (45)
unfoldable pub decimal_figure : List ℕ → Option Float
decimal_figure [] = None
decimal_figure (b ∷ l) =
    pick (eqb b 43) (unsigned_figure false false l)
    (pick (eqb b 45) (unsigned_figure false true l) (unsigned_figure true false (b ∷ l)))

-- the figure that a word is: bits after a `#` (35), or a decimal
unfoldable pub figure_word : List ℕ → Option Float
figure_word [] = None
figure_word (b ∷ l) = pick (eqb b 35) (figure_of l) (decimal_figure (b ∷ l))
