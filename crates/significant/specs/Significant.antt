-- An f64 to n significant digits, correctly rounded, and of two equally near ones to that whose last digit is even:
-- over whole numbers of a unit, 10 ^ -1074. The smallest positive f64, 2 ^ -1074, is 5 ^ 1074 units, so that every
-- finite f64 is a whole number of them.
use Rattle.std.specs.Prelude.{cond, ℕ, zero, suc, ◌+◌, ◌-◌, ◌*◌, ◌/◌, ◌%◌, ◌^◌, ◌≤◌, ◌<◌, eqb, leb, ltb, Float}
use Rattle.floats.specs.Units.{units_of}

-- the magnitude of a finite f64 in units; 0 for the others
abbrev pub decimal_units_of : Float → ℕ
decimal_units_of x = units_of x * 5 ^ 1074

-- how many digits a whole number has, where it has no more than k; 0 has none
unfoldable pub digits_up_to : ℕ → ℕ → ℕ
digits_up_to zero u = 0
digits_up_to (suc k) u = cond (leb (10 ^ k) u) (suc k) (digits_up_to k u)

-- how many digits a whole number has; that of an f64 has fewer than 2,100
unfoldable pub digit_count : ℕ → ℕ
digit_count u = digits_up_to 2100 u

-- a / b to the nearest whole number, of two equally near ones the even one: cut off where the rest is less than half of
-- b, up where it is more
unfoldable pub nearest_whole : ℕ → ℕ → ℕ
nearest_whole a b = cond (ltb (a % b * 2) b) (a / b) (cond (ltb b (a % b * 2)) (suc (a / b)) (a / b + a / b % 2))

-- of u units, the place of the last of n digits, which counts 10 ^ place; and the n digits, rounded, as a whole number
abbrev pub first_place : ℕ → ℕ → ℕ
first_place n u = digit_count u - n

abbrev pub first_digits : ℕ → ℕ → ℕ
first_digits n u = nearest_whole u (10 ^ first_place n u)

-- the n digits as one whole number, and their last one's place; where they were rounded up to 10 ^ n, they are 10 .. 0
-- one place higher
unfoldable pub digits_of : ℕ → ℕ → ℕ
digits_of n u = cond (eqb (first_digits n u) (10 ^ n)) (10 ^ (n - 1)) (first_digits n u)

unfoldable pub place_of : ℕ → ℕ → ℕ
place_of n u = cond (eqb (first_digits n u) (10 ^ n)) (suc (first_place n u)) (first_place n u)

-- a whole number is written with exactly n digits, the first of which is not 0
abbrev pub HasDigits : ℕ → ℕ → Type 0
HasDigits n d = (10 ^ (n - 1) ≤ d) × (d < 10 ^ n)
