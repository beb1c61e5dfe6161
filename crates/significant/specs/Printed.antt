-- An f64 as people write it: some significant digits with a point, or with an exponent where that would be long.
use Rattle.std.specs.Prelude.{List, [], ◌++◌, Bool, cond, ℕ, ◌+◌, ◌-◌, leb, ltb, length, take, drop, Float}
use Rattle.std.specs.Float.Ieee.{ne, eq, lt}
use Rattle.floats.specs.Operations.{bits}
use Rattle.floats.specs.Floats.{is_finite}
use Rattle.counts.specs.Counts.{count_text}
use Rattle.tokens.specs.Text.{text}
use Rattle.significant.specs.Significant.{decimal_units_of, digits_of, place_of}

-- digits with a point after the first i
abbrev pub pointed : List ℕ → ℕ → List ℕ
pointed ds i = take i ds ++ (text "." ++ drop i ds)

-- 0, a point, up to three zeros, and digits
abbrev pub fraction : List ℕ → ℕ → List ℕ
fraction ds z = text "0." ++ (take z (text "000") ++ ds)

-- the exponent of ten with one digit before the point, where without it w − 1074 would stand there
abbrev pub exponent_text : ℕ → List ℕ
exponent_text w = text "e" ++ cond (leb 1075 w) (count_text (w - 1075)) (text "-" ++ count_text (1075 - w))

abbrev pub scientific : List ℕ → ℕ → List ℕ
scientific ds w = pointed ds 1 ++ exponent_text w

-- digits of which w − 1074 stand before the point; with an exponent where all would, or more than two zeros after the
-- point
abbrev pub placed : List ℕ → ℕ → List ℕ
placed ds w =
    cond (leb w 1074)
    (cond (leb 1072 w) (fraction ds (1074 - w)) (scientific ds w))
    (cond (ltb (w - 1074) (length ds)) (pointed ds (w - 1074)) (scientific ds w))

-- digits with an exponent always, or only where that is shorter
abbrev pub written : Bool → List ℕ → ℕ → List ℕ
written power ds w = cond power (scientific ds w) (placed ds w)

-- x times 10 ^ scale to n digits, its sign left out
abbrev pub magnitude_text : ℕ → ℕ → Bool → Float → List ℕ
magnitude_text n scale power x =
    written power (count_text (digits_of n (decimal_units_of x))) (n + place_of n (decimal_units_of x) + scale)

abbrev pub sign_text : Float → List ℕ
sign_text x = cond (lt x (bits 0)) (text "-") []

abbrev pub signed_text : ℕ → ℕ → Bool → Float → List ℕ
signed_text n scale power x = sign_text x ++ cond (is_finite x) (magnitude_text n scale power x) (text "infinite")

-- x times 10 ^ scale to n significant digits
abbrev pub decimal_text : ℕ → ℕ → Bool → Float → List ℕ
decimal_text n scale power x =
    cond (ne x x) (text "no number") (cond (eq x (bits 0)) (text "0") (signed_text n scale power x))
