-- Reading by eights is reading digit by digit. Assumes nothing.
use mathlib.Core.List.{List, [], ◌∷◌, ◌++◌}
use mathlib.Core.Bool.{Bool, true, false, ◌&&◌}
use mathlib.Core.Path.{◌≡◌, refl, sym, ap, ap₂, ◌∙◌}
use Prim.Native.Nat.{ℕ, ◌+◌, ◌*◌, ◌≤◌}
use native.Mathlib.Omega.{arith}
use borrow.Author.Tests.{eq-eqb, ne_eqb, eqb-true}
use lib.Dec.{ltb, eqb}
use lib.ListN.{length, take, drop, take-append-drop, drop_of_length-le, length-drop}
use lib.Ieee.{Float}
use Rattle.floats.specs.Operations.{bits}
use Rattle.std.specs.Prelude.{Option, Some, None}
use Rattle.hexadecimal.specs.Hex.{digit_value, pick, read_digits, figure_of}
use Rattle.hexadecimal.specs.Words.{bytes_of, lanes, all_digits}
use Rattle.hexadecimal.proofs.Words.{lanes_behind}

pub other_length : (w : List ℕ) → (length w ≡ 16 → ⊥) → None ≡ figure_of w
unfolding figure_of
other_length w h = sym (rw (ne_eqb (length w) 16 h))

sixteen : (w : List ℕ) → length w ≡ 16 → figure_of w ≡ read_digits w 0
unfolding figure_of
sixteen w h = rw (eq-eqb (length w) 16 h)

-- the digits of l, and then the rest
part_read : (l rest : List ℕ) (n : ℕ)
    → read_digits (l ++ rest) n ≡ pick (all_digits l) (read_digits rest (lanes 4 n digit_value l)) None
unfolding read_digits lanes all_digits
part_read [] rest n = refl
part_read (b ∷ l) rest n = go (ltb (digit_value b) 16) (part_read l rest (n * 16 + digit_value b))
  where
    go : (t : Bool) → read_digits (l ++ rest) (n * 16 + digit_value b)
        ≡ pick (all_digits l) (read_digits rest (lanes 4 (n * 16 + digit_value b) digit_value l)) None
        → pick t (read_digits (l ++ rest) (n * 16 + digit_value b)) None
        ≡ pick (t && all_digits l) (read_digits rest (lanes 4 (n * 16 + digit_value b) digit_value l)) None
    go true e = e
    go false e = refl

module _ (w : List ℕ) (len : length w ≡ 16) (first second : ℕ) (A : bytes_of first ≡ take 8 (drop 0 w))
    (B : bytes_of second ≡ take 8 (drop 8 w)) where
  -- sixteen bytes are the two words'
  two_words : w ≡ bytes_of first ++ (bytes_of second ++ [])
  two_words =
      let e : drop 8 (drop 8 w) ≡ [] = drop_of_length-le (drop 8 w)
      (let z = length-drop 8 w in let y : length (drop 8 w) ≤ 8 = omega arith in y) in
      sym (ap₂ (λ (x y : List ℕ). x ++ y) A (ap₂ (λ (x y : List ℕ). x ++ y) B (sym e) ∙ take-append-drop 8 (drop 8 w))
      ∙ take-append-drop 8 w)

  abbrev number : ℕ
  number = lanes 4 0 digit_value (bytes_of first) * 0x1_0000_0000 + lanes 4 0 digit_value (bytes_of second)

  by_words : figure_of w
      ≡ pick (all_digits (bytes_of first)) (pick (all_digits (bytes_of second)) (Some (bits number)) None) None
  unfolding read_digits
  by_words =
      sixteen w len
      ∙ ap (λ (l : List ℕ). read_digits l 0) two_words
      ∙ part_read (bytes_of first) (bytes_of second ++ []) 0
      ∙ ap (λ (f : Option Float). pick (all_digits (bytes_of first)) f None)
      (part_read (bytes_of second) [] (lanes 4 0 digit_value (bytes_of first))
      ∙ ap (λ (n : ℕ). pick (all_digits (bytes_of second)) (Some (bits n)) None)
      (lanes_behind (lanes 4 0 digit_value (bytes_of first)) second digit_value))

  pub first_bad : all_digits (bytes_of first) ≡ false → None ≡ figure_of w
  first_bad a = sym (by_words ∙ rw a)

  pub second_bad : all_digits (bytes_of first) ≡ true → all_digits (bytes_of second) ≡ false → None ≡ figure_of w
  second_bad a b = sym (by_words ∙ rw (a, b))

  pub both_good : all_digits (bytes_of first) ≡ true → all_digits (bytes_of second) ≡ true → {m n : ℕ}
      → m ≡ lanes 4 0 digit_value (bytes_of first) → n ≡ lanes 4 0 digit_value (bytes_of second)
      → Some (bits (m * 0x1_0000_0000 + n)) ≡ figure_of w
  both_good a b p q = ap₂ (λ (m n : ℕ). Some (bits (m * 0x1_0000_0000 + n))) p q ∙ sym (by_words ∙ rw (a, b))

-- only sixteen bytes are a figure
pub number_length : (w : List ℕ) (x : Float) → figure_of w ≡ Some x → length w ≡ 16
unfolding figure_of
number_length w x = by (eqb (length w) 16) refl
  where
    by : (t : Bool) → eqb (length w) 16 ≡ t → pick t (read_digits w 0) None ≡ Some x → length w ≡ 16
    by true e h = eqb-true (length w) 16 e
    by false e h = let z : ◌≡◌ {A = ℕ} 0 1 = cc in absurd (let y : ⊥ = omega arith in y)
