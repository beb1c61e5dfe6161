-- Counts as text (docs/FORMS.md): "one or more decimal digits, of any length; its value is the whole number that they
-- write".
use Rattle.std.specs.Prelude.{List, [], ◌∷◌, ◌++◌, Bool, true, false, ◌&&◌, cond, ℕ, zero, suc, ◌+◌, ◌-◌, ◌*◌, ◌/◌, ◌%◌}
use Rattle.std.specs.Prelude.{min, ltb, leb, Option, Some, None}

-- ---- reading

-- the value of a digit, 0 to 9, or 10 for any other byte
abbrev pub digit_value : ℕ → ℕ
digit_value b = cond (leb 48 b && leb b 57) (b - 48) 10

-- of two answers, the one that the test picks
abbrev pub pick : Bool → Option ℕ → Option ℕ → Option ℕ
pick true a b = a
pick false a b = b

-- the count of a word's digits, the most significant first, where those before them make up n
unfoldable pub read_digits : List ℕ → ℕ → Option ℕ
read_digits [] n = Some n
read_digits (b ∷ bs) n = pick (ltb (digit_value b) 10) (read_digits bs (n * 10 + digit_value b)) None

-- a word is a count where it has one byte or more, and all of them are digits
unfoldable pub count_of : List ℕ → Option ℕ
count_of [] = None
count_of (b ∷ bs) = read_digits (b ∷ bs) 0

-- the value that the program goes on with: every limit on a count is far below a million, so a larger count, whatever
-- its length, is refused by the number of its limit all the same
abbrev pub capped : ℕ → ℕ
capped n = min n 1_000_000

abbrev pub capped_count : Option ℕ → Option ℕ
capped_count (Some n) = Some (capped n)
capped_count None = None

-- ---- printing

-- the digits of n, of which there are at most k, no zero leading
unfoldable pub digits : ℕ → ℕ → List ℕ
digits zero n = []
digits (suc k) n = cond (ltb n 10) ((48 + n) ∷ []) (digits k (n / 10) ++ ((48 + n % 10) ∷ []))

-- a count's digits: a 64-bit number has at most twenty
unfoldable pub count_text : ℕ → List ℕ
count_text n = digits 20 n
