-- One byte: the letter of what it is taken for is the byte again exactly where it is a digit, and then it is taken for its value. Each of
-- the 256 bytes is tried. Assumes nothing.
use mathlib.Core.Bool.{Bool, true, false, ◌&&◌, ◌||◌, not, beq}
use mathlib.Core.Path.{◌≡◌, refl, sym}
use Prim.Native.Nat.{ℕ, ◌+◌, ◌*◌, ◌/◌, ◌%◌, ◌<◌}
use native.Mathlib.Omega.{arith}
use borrow.Author.Tests.{eqb-true}
use lib.Dec.{eqb, ltb}
use Rattle.floats.specs.Operations.{every}
use Rattle.floats.proofs.Every.{every_holds}
use Rattle.floats.proofs.Bools.{no}
use Rattle.hexadecimal.specs.Hex.{digit_value, digit_letter}
use Rattle.hexadecimal.specs.Words.{taken}

abbrev same_letter : ℕ → Bool
same_letter b = beq (eqb (digit_letter (taken b)) b) (ltb (digit_value b) 16)

abbrev same_value : ℕ → Bool
same_value b = not (ltb (digit_value b) 16) || eqb (taken b) (digit_value b)

all_same_letter : every 256 same_letter ≡ true
unfolding every
all_same_letter = refl

all_same_value : every 256 same_value ≡ true
unfolding every
all_same_value = refl

-- a digit's letter without a choice
abbrev pub letter : ℕ → ℕ
letter v = v + 48 + 39 * ((v + 6) / 16 % 2)

all_letters : every 16 (λ v. eqb (letter v) (digit_letter v)) ≡ true
unfolding every
all_letters = refl

pub letter_is : (v : ℕ) → v < 16 → letter v ≡ digit_letter v
letter_is v h = eqb-true (letter v) (digit_letter v) (every_holds 16 (λ v. eqb (letter v) (digit_letter v)) all_letters v h)

pub both : (a b : Bool) → (a && b) ≡ true → (a ≡ true) × (b ≡ true)
both true b e = (refl, e)
both false b e = no (sym e)

same : (a b : Bool) → beq a b ≡ true → a ≡ b
same true true e = refl
same true false e = sym e
same false true e = e
same false false e = refl

implied : (a b : Bool) → (not a || b) ≡ true → a ≡ true → b ≡ true
implied true b e h = e
implied false b e h = no (sym h)

pub same_letter_lem : (b : ℕ) → b < 256 → eqb (digit_letter (taken b)) b ≡ ltb (digit_value b) 16
same_letter_lem b h = same (eqb (digit_letter (taken b)) b) (ltb (digit_value b) 16) (every_holds 256 same_letter all_same_letter b h)

pub taken_value : (b : ℕ) → b < 256 → ltb (digit_value b) 16 ≡ true → taken b ≡ digit_value b
taken_value b h d = eqb-true (taken b) (digit_value b)
    (implied (ltb (digit_value b) 16) (eqb (taken b) (digit_value b)) (every_holds 256 same_value all_same_value b h) d)

pub letter_small : (v : ℕ) → v < 16 → digit_letter v < 256
letter_small v h = let e = letter_is v h in omega arith

pub taken_small : (b : ℕ) → taken b < 16
taken_small b = omega arith
