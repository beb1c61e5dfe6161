-- Eight bytes at once: what `values`, `letters` and `gathered` compute is, lane by lane, what they do to one byte. No lane overflows, as
-- what one byte becomes stays below 256. Assumes nothing.
use mathlib.Core.List.{List, [], ◌∷◌, map}
use mathlib.Core.Bool.{Bool, true, false}
use mathlib.Core.Path.{◌≡◌, refl, sym, ap, ap₂, ◌∙◌}
use Prim.Native.Nat.{ℕ, zero, suc, ◌+◌, ◌*◌, ◌/◌, ◌%◌, ◌-◌, ◌^◌, ◌<◌, ◌≤◌}
use native.Mathlib.Nat.{mul_comm, zero-mul, zero-add}
use native.Mathlib.Omega.{arith}
use borrow.Author.Tests.{eq-eqb, ne_eqb, eqb-true}
use lib.Dec.{eqb, ltb}
use lib.ListN.{length, get_or, take, drop}
use lib.Seq.{drop-cons}
use lib.Arith.{digits_div, digits_mod}
use lib.Bits.{bit_and, and_high, and_mask}
use Rattle.floats.proofs.Bools.{no}
use Rattle.hexadecimal.specs.Hex.{digit_value, digit_letter}
use Rattle.hexadecimal.specs.Words.{Each, bytes_before, bytes_of, lanes, taken, all_digits}
use Rattle.hexadecimal.proofs.Lanes.{each, zipped, each_map, lanes_ext, lanes_map, and_lanes, add_lanes, mul_lanes, div_lanes, lanes_le}
use Rattle.hexadecimal.proofs.Lanes.{lanes_inj, bytes_small, bytes_make_up, lanes_bytes}
use Rattle.hexadecimal.proofs.Bytes.{both, letter, letter_is, letter_small, same_letter_lem, taken_value, taken_small}

-- ---- what the code computes

abbrev pub values_in : ℕ → ℕ
values_in w = bit_and (bit_and w 0x0f0f_0f0f_0f0f_0f0f + 9 * (bit_and w 0x4040_4040_4040_4040 / 64)) 0x0f0f_0f0f_0f0f_0f0f

abbrev pub letters_in : ℕ → ℕ
letters_in v = v + 0x3030_3030_3030_3030 + 39 * (bit_and (v + 0x0606_0606_0606_0606) 0x1010_1010_1010_1010 / 16)

abbrev pub pairs_in : ℕ → ℕ
pairs_in v = bit_and (v + v / 16) 0x00ff_00ff_00ff_00ff

abbrev pub fours_in : ℕ → ℕ
fours_in a = bit_and (a + a / 256) 0x0000_ffff_0000_ffff

abbrev pub gathered_in : ℕ → ℕ
gathered_in v = (fours_in (pairs_in v) + fours_in (pairs_in v) / 65536) % 0x1_0000_0000

-- ---- a machine word and its bytes

pub word_is : (w : ℕ) → w < 2 ^ 64 → w ≡ lanes 8 0 (λ b. b) (bytes_of w)
unfolding lanes
word_is w h = sym (bytes_make_up 8 w [] h)

pub bytes_are_small : (w : ℕ) → Each (λ b. b < 256) (bytes_of w)
bytes_are_small w = bytes_small 8 w [] tt

-- one byte in every lane
repeated : (w c : ℕ) → lanes 8 0 (λ b. c) (bytes_of w) ≡ c * 0x0101_0101_0101_0101
unfolding lanes bytes_before
repeated w c = omega arith

masked : (w n c : ℕ) (f : ℕ → ℕ) → c < 256 → Each (λ b. f b < 256) (bytes_of w) → n ≡ lanes 8 0 f (bytes_of w)
    → bit_and n (c * 0x0101_0101_0101_0101) ≡ lanes 8 0 (λ b. bit_and (f b) c) (bytes_of w)
masked w n c f g p e = ap₂ bit_and e (sym (repeated w c)) ∙ and_lanes 8 0 0 f (λ b. c) (bytes_of w) (each (λ b q. (q, g)) (bytes_of w) p)

-- the bit of weight m of each lane, as 0 or 1
one_bit : (w n m : ℕ) (f : ℕ → ℕ) → 0 < m → m < 256 → ((x : ℕ) → bit_and x m ≡ m * (x / m % 2)) → Each (λ b. f b < 256) (bytes_of w)
    → n ≡ lanes 8 0 f (bytes_of w)
    → bit_and n (m * 0x0101_0101_0101_0101) / m ≡ lanes 8 0 (λ b. f b / m % 2) (bytes_of w)
one_bit w n m f o g bit p e =
    ap (λ (x : ℕ). x / m)
    (masked w n m f g p e
    ∙ lanes_ext 8 0 (λ b. bit_and (f b) m) (λ b. m * (f b / m % 2)) (bytes_of w) (each (λ b q. bit (f b)) (bytes_of w) p))
    ∙ div_lanes 8 m (λ b. f b / m % 2) (bytes_of w) o

bit_64 : (x : ℕ) → bit_and x 64 ≡ 64 * (x / 64 % 2)
bit_64 x = and_high x 1 6 ∙ mul_comm (x / 64 % 2) 64

bit_16 : (x : ℕ) → bit_and x 16 ≡ 16 * (x / 16 % 2)
bit_16 x = and_high x 1 4 ∙ mul_comm (x / 16 % 2) 16

-- ---- each byte taken for a digit

low_bits : (x : ℕ) → bit_and x 15 ≡ x % 16
low_bits x = and_mask x 4

module _ (w : ℕ) (h : w < 2 ^ 64) where
  pub values_are : values_in w ≡ lanes 8 0 taken (bytes_of w)
  values_are =
      let s = bytes_are_small w in
      let low : bit_and w 0x0f0f_0f0f_0f0f_0f0f ≡ lanes 8 0 (λ b. b % 16) (bytes_of w) =
      masked w w 15 (λ b. b) (omega arith) s (word_is w h)
      ∙ lanes_ext 8 0 (λ b. bit_and b 15) (λ b. b % 16) (bytes_of w) (each (λ b q. low_bits b) (bytes_of w) s) in
      let high : bit_and w 0x4040_4040_4040_4040 / 64 ≡ lanes 8 0 (λ b. b / 64 % 2) (bytes_of w) =
      one_bit w w 64 (λ b. b) (omega arith) (omega arith) bit_64 s (word_is w h) in
      let both : bit_and w 0x0f0f_0f0f_0f0f_0f0f + 9 * (bit_and w 0x4040_4040_4040_4040 / 64)
      ≡ lanes 8 0 (λ b. b % 16 + 9 * (b / 64 % 2)) (bytes_of w) =
      ap₂ (λ (x y : ℕ). x + 9 * y) low high
      ∙ ap (λ (x : ℕ). lanes 8 0 (λ b. b % 16) (bytes_of w) + x) (mul_lanes 8 0 9 (λ b. b / 64 % 2) (bytes_of w))
      ∙ add_lanes 8 0 0 (λ b. b % 16) (λ b. 9 * (b / 64 % 2)) (bytes_of w) in
      masked w _ 15 (λ b. b % 16 + 9 * (b / 64 % 2)) (omega arith)
      (each (λ b q. let z : b % 16 + 9 * (b / 64 % 2) < 256 = omega arith in z) (bytes_of w) s) both
      ∙ lanes_ext 8 0 (λ b. bit_and (b % 16 + 9 * (b / 64 % 2)) 15) taken (bytes_of w)
      (each (λ b q. low_bits (b % 16 + 9 * (b / 64 % 2))) (bytes_of w) s)

-- ---- the letters of values

module _ (v : ℕ) (h : v < 2 ^ 64) (s : Each (λ b. b < 16) (bytes_of v)) where
  pub values_le : v ≤ 0x0f0f_0f0f_0f0f_0f0f
  values_le =
      let l =
      lanes_le 8 0 0 (λ b. b) (λ b. 15) (bytes_of v) (omega arith) (each (λ b q. let z : b ≤ 15 = omega arith in z) (bytes_of v) s) in
      omega (arith, l, word_is v h, repeated v 15)

  pub letters_are : letters_in v ≡ lanes 8 0 digit_letter (bytes_of v)
  letters_are =
      let six : v + 0x0606_0606_0606_0606 ≡ lanes 8 0 (λ b. b + 6) (bytes_of v) =
      ap₂ (λ (x y : ℕ). x + y) (word_is v h) (sym (repeated v 6))
      ∙ add_lanes 8 0 0 (λ b. b) (λ b. 6) (bytes_of v) in
      let bit : bit_and (v + 0x0606_0606_0606_0606) 0x1010_1010_1010_1010 / 16 ≡ lanes 8 0 (λ b. (b + 6) / 16 % 2) (bytes_of v) =
      one_bit v _ 16 (λ b. b + 6) (omega arith) (omega arith) bit_16 (each (λ b q. let z : b + 6 < 256 = omega arith in z) (bytes_of v) s)
      six in
      let zero : v + 0x3030_3030_3030_3030 ≡ lanes 8 0 (λ b. b + 48) (bytes_of v) = ap₂ (λ (x y : ℕ). x + y) (word_is v h)
      (sym (repeated v 48)) ∙ add_lanes 8 0 0 (λ b. b) (λ b. 48) (bytes_of v) in
      ap₂ (λ (x y : ℕ). x + 39 * y) zero bit
      ∙ ap (λ (x : ℕ). lanes 8 0 (λ b. b + 48) (bytes_of v) + x) (mul_lanes 8 0 39 (λ b. (b + 6) / 16 % 2) (bytes_of v))
      ∙ add_lanes 8 0 0 (λ b. b + 48) (λ b. 39 * ((b + 6) / 16 % 2)) (bytes_of v)
      ∙ lanes_ext 8 0 letter digit_letter (bytes_of v) (each letter_is (bytes_of v) s)

-- ---- drawn together: two and two, four and four, all eight

low_lanes : (k : ℕ) (l : List ℕ) → lanes (2 * k) 0 (λ x. bit_and x (2 ^ k - 1)) l ≡ lanes (2 * k) 0 (λ x. x % 2 ^ k) l
low_lanes k l = lanes_ext (2 * k) 0 (λ x. bit_and x (2 ^ k - 1)) (λ x. x % 2 ^ k) l (all l)
  where
    all : (l : List ℕ) → Each (λ x. bit_and x (2 ^ k - 1) ≡ x % 2 ^ k) l
    all [] = tt
    all (x ∷ l) = (and_mask x k, all l)

quotient : (n q m r : ℕ) → n ≡ q * m + r → r < m → n / m ≡ q
quotient n q m r e h = ap (λ (x : ℕ). x / m) e ∙ digits_div q h

pair_lt : (a b c : ℕ) → a < 16 → b < 16 → c < 16 → (16 * a + b) * 256 + (16 * b + c) < 2 ^ 16
pair_lt a b c A B C = omega arith

first_lt : (a b : ℕ) → a < 16 → b < 16 → a * 256 + (16 * a + b) < 2 ^ 16
first_lt a b A B = omega arith

mask_lt : 255 < 2 ^ 16
mask_lt = omega arith

four_lanes : (p : ℕ) {i j k l i' j' k' l' : ℕ} → i ≡ i' → j ≡ j' → k ≡ k' → l ≡ l'
    → (((0 * p + i) * p + j) * p + k) * p + l ≡ ((i' * p + j') * p + k') * p + l'
four_lanes p {i} {j} {k} {l} {i'} {j'} {k'} {l'} a b c d = rw (a, b, c, d)
    (ap (λ (x : ℕ). (((x + i') * p + j') * p + k') * p + l') (zero-mul p) ∙ ap (λ (x : ℕ). ((x * p + j') * p + k') * p + l') (zero-add i'))

two_lanes : (p : ℕ) {i j i' j' : ℕ} → i ≡ i' → j ≡ j' → (0 * p + i) * p + j ≡ i' * p + j'
two_lanes p {i} {j} {i'} {j'} a b = rw (a, b) (ap (λ (x : ℕ). (x + i') * p + j') (zero-mul p) ∙ ap (λ (x : ℕ). x * p + j') (zero-add i'))

module _ (a b c d e f g h : ℕ) (A : a < 16) (B : b < 16) (C : c < 16) (D : d < 16) (E : e < 16) (F : f < 16) (G : g < 16) (H : h < 16) where
  abbrev in_bytes : ℕ
  in_bytes = ((((((a * 256 + b) * 256 + c) * 256 + d) * 256 + e) * 256 + f) * 256 + g) * 256 + h

  abbrev in_pairs : ℕ
  in_pairs = (((16 * a + b) * 65536 + (16 * c + d)) * 65536 + (16 * e + f)) * 65536 + (16 * g + h)

  pairs_are : pairs_in in_bytes ≡ in_pairs
  unfolding lanes
  pairs_are =
      let i = a * 256 + (16 * a + b) in
      let j = (16 * b + c) * 256 + (16 * c + d) in
      let k = (16 * d + e) * 256 + (16 * e + f) in
      let l = (16 * f + g) * 256 + (16 * g + h) in
      let s = i ∷ j ∷ k ∷ l ∷ [] in
      let n = ((((((a * 256 + b) * 256 + c) * 256 + d) * 256 + e) * 256 + f) * 256 + g) * 16 in
      let z : in_bytes + in_bytes / 16 ≡ lanes 16 0 (λ x. x) s = ap (λ (x : ℕ). in_bytes + x) (quotient in_bytes n 16 h (omega arith) H)
      ∙ (let q : in_bytes + n ≡ lanes 16 0 (λ x. x) s = omega arith in q) in
      let y : lanes 16 0 (λ x. x % 256) s ≡ in_pairs = four_lanes 65536 (digits_mod a (omega arith)) (digits_mod (16 * b + c) (omega arith))
      (digits_mod (16 * d + e) (omega arith)) (digits_mod (16 * f + g) (omega arith)) in
      let w : Each (λ x. (x < 2 ^ 16) × (255 < 2 ^ 16)) s = (
        (first_lt a b A B, mask_lt),
        ((pair_lt b c d B C D, mask_lt), ((pair_lt d e f D E F, mask_lt), ((pair_lt f g h F G H, mask_lt), tt))),
      ) in
      ap (λ (x : ℕ). bit_and x 0x00ff_00ff_00ff_00ff) z ∙ and_lanes 16 0 0 (λ x. x) (λ x. 255) s w ∙ low_lanes 8 s ∙ y

fours_are : (a b c d : ℕ) → a < 256 → b < 256 → c < 256 → d < 256
    → fours_in (((a * 65536 + b) * 65536 + c) * 65536 + d) ≡ (256 * a + b) * 2 ^ 32 + (256 * c + d)
unfolding lanes
fours_are a b c d A B C D =
    let n = ((a * 65536 + b) * 65536 + c) * 65536 + d in
    let i = a * 65536 + (256 * a + b) in
    let j = (256 * b + c) * 65536 + (256 * c + d) in
    let s = i ∷ j ∷ [] in
    let m = ((a * 65536 + b) * 65536 + c) * 256 in
    let z : n + n / 256 ≡ lanes 32 0 (λ x. x) s = ap (λ (x : ℕ). n + x) (quotient n m 256 d (omega arith) D)
    ∙ (let q : n + m ≡ lanes 32 0 (λ x. x) s = omega arith in q) in
    let y : lanes 32 0 (λ x. x % 65536) s ≡ (256 * a + b) * 2 ^ 32 + (256 * c + d) = two_lanes (2 ^ 32) (digits_mod a (omega arith))
    (digits_mod (256 * b + c) (omega arith)) in
    let w : Each (λ x. (x < 2 ^ 32) × (65535 < 2 ^ 32)) s =
    ((let q : i < 2 ^ 32 = omega arith in q, omega arith), ((let q : j < 2 ^ 32 = omega arith in q, omega arith), tt)) in
    ap (λ (x : ℕ). bit_and x 0x0000_ffff_0000_ffff) z ∙ and_lanes 32 0 0 (λ x. x) (λ x. 65535) s w ∙ low_lanes 16 s ∙ y

all_are : (a b : ℕ) → a < 65536 → b < 65536 → (a * 2 ^ 32 + b + (a * 2 ^ 32 + b) / 65536) % 0x1_0000_0000 ≡ a * 65536 + b
all_are a b A B =
    ap (λ (x : ℕ). (a * 2 ^ 32 + b + x) % 2 ^ 32) (quotient (a * 2 ^ 32 + b) (a * 65536) 65536 b (omega arith) B)
    ∙ ap (λ (x : ℕ). x % 2 ^ 32) (let z : a * 2 ^ 32 + b + a * 65536 ≡ a * 2 ^ 32 + (a * 65536 + b) = omega arith in z)
    ∙ digits_mod a (omega arith)

gathered_eight : (a b c d e f g h : ℕ) → Each (λ x. x < 16) (a ∷ b ∷ c ∷ d ∷ e ∷ f ∷ g ∷ h ∷ [])
    → gathered_in (lanes 8 0 (λ x. x) (a ∷ b ∷ c ∷ d ∷ e ∷ f ∷ g ∷ h ∷ [])) ≡ lanes 4 0 (λ x. x) (a ∷ b ∷ c ∷ d ∷ e ∷ f ∷ g ∷ h ∷ [])
unfolding lanes
gathered_eight a b c d e f g h (A, (B, (C, (D, (E, (F, (G, (H, t)))))))) =
    let eight = a ∷ b ∷ c ∷ d ∷ e ∷ f ∷ g ∷ h ∷ [] in
    let p = pairs_are a b c d e f g h A B C D E F G H in
    let q = ap fours_in p
    ∙ fours_are (16 * a + b) (16 * c + d) (16 * e + f) (16 * g + h) (omega arith) (omega arith) (omega arith) (omega arith) in
    ap gathered_in (let z : lanes 8 0 (λ x. x) eight ≡ in_bytes a b c d e f g h A B C D E F G H = omega arith in z)
    ∙ ap (λ (x : ℕ). (x + x / 65536) % 0x1_0000_0000) q
    ∙ all_are (256 * (16 * a + b) + (16 * c + d)) (256 * (16 * e + f) + (16 * g + h)) (omega arith) (omega arith)
    ∙ (let z : (256 * (16 * a + b) + (16 * c + d)) * 65536 + (256 * (16 * e + f) + (16 * g + h))
    ≡ lanes 4 0 (λ x. x) eight = omega arith in z)

pub gathered_are : (v : ℕ) → v < 2 ^ 64 → Each (λ b. b < 16) (bytes_of v) → gathered_in v ≡ lanes 4 0 (λ b. b) (bytes_of v)
unfolding bytes_before
gathered_are v h s = ap gathered_in (word_is v h) ∙ gathered_eight _ _ _ _ _ _ _ _ s

-- ---- eight bytes that are digits

taken_fits : (w : ℕ) → Each (λ b. taken b < 256) (bytes_of w)
taken_fits w = each (λ b q. let z : taken b < 256 = omega arith in z) (bytes_of w) (bytes_are_small w)

values_bytes : (w : ℕ) → bytes_of (lanes 8 0 taken (bytes_of w)) ≡ map taken (bytes_of w)
unfolding bytes_before
values_bytes w = lanes_bytes taken (bytes_of w) [] 8 0 0 refl (taken_fits w)

pub values_small : (w v : ℕ) → v ≡ lanes 8 0 taken (bytes_of w) → Each (λ b. b < 16) (bytes_of v)
values_small w v e = rw (e, values_bytes w) (each_map (λ b. b < 16) taken taken_small (bytes_of w))

pub each_digit : (l : List ℕ) → all_digits l ≡ true → Each (λ b. ltb (digit_value b) 16 ≡ true) l
unfolding all_digits
each_digit [] e = tt
each_digit (b ∷ l) e = let p = both (ltb (digit_value b) 16) (all_digits l) e in (p.0, each_digit l p.1)

pub digits_each : (l : List ℕ) → Each (λ b. ltb (digit_value b) 16 ≡ true) l → all_digits l ≡ true
unfolding all_digits
digits_each [] p = refl
digits_each (b ∷ l) p = rw p.0 (digits_each l p.1)

-- the letters of the values are the machine word again exactly where its bytes are digits
pub letters_again : (w v t : ℕ) → w < 2 ^ 64 → v ≡ lanes 8 0 taken (bytes_of w) → t ≡ lanes 8 0 digit_letter (bytes_of v)
    → eqb t w ≡ all_digits (bytes_of w)
letters_again w v t h e f = by (all_digits (bytes_of w)) refl
  where
    letters : t ≡ lanes 8 0 (λ b. digit_letter (taken b)) (bytes_of w)
    letters = f ∙ ap (lanes 8 0 digit_letter) (ap bytes_of e ∙ values_bytes w) ∙ lanes_map 8 0 taken digit_letter (bytes_of w)

    small : Each (λ b. (digit_letter (taken b) < 2 ^ 8) × (b < 2 ^ 8)) (bytes_of w)
    small = each (λ b q. (letter_small (taken b) (taken_small b), q)) (bytes_of w) (bytes_are_small w)

    by : (s : Bool) → all_digits (bytes_of w) ≡ s → eqb t w ≡ s
    by true d = eq-eqb t w (letters
        ∙ lanes_ext 8 0 (λ b. digit_letter (taken b)) (λ b. b) (bytes_of w)
        (zipped (λ b q r. eqb-true (digit_letter (taken b)) b (same_letter_lem b q ∙ r)) (bytes_of w) (bytes_are_small w)
        (each_digit (bytes_of w) d))
        ∙ sym (word_is w h))
    by false d = ne_eqb t w
        (λ q. no (sym (digits_each (bytes_of w)
        (zipped (λ b r s. sym (same_letter_lem b r) ∙ eq-eqb (digit_letter (taken b)) b s) (bytes_of w) (bytes_are_small w)
        (lanes_inj 8 0 0 (λ b. digit_letter (taken b)) (λ b. b) (bytes_of w) small (sym letters ∙ q ∙ word_is w h)).1)) ∙ d))

-- fifteen in each of eight lanes of 4 bits
fifteens : (w : ℕ) → lanes 4 0 (λ b. 15) (bytes_of w) ≡ 0xffff_ffff
unfolding lanes bytes_before
fifteens w = refl

taken_le : (w : ℕ) → lanes 4 0 taken (bytes_of w) ≤ 0xffff_ffff
taken_le w =
    let l = lanes_le 4 0 0 taken (λ b. 15) (bytes_of w) (omega arith)
    (each (λ b q. let z : taken b ≤ 15 = omega arith in z) (bytes_of w) (bytes_are_small w)) in
    omega (arith, l, fifteens w)

-- the number that eight digits write
pub digits_gathered : (w v r : ℕ) → all_digits (bytes_of w) ≡ true → v ≡ lanes 8 0 taken (bytes_of w) → r ≡ lanes 4 0 (λ b. b) (bytes_of v)
    → (r ≡ lanes 4 0 digit_value (bytes_of w)) × (r < 0x1_0000_0000)
digits_gathered w v r d e f =
    let values : r ≡ lanes 4 0 taken (bytes_of w) = f ∙ ap (lanes 4 0 (λ b. b)) (ap bytes_of e ∙ values_bytes w)
    ∙ lanes_map 4 0 taken (λ b. b) (bytes_of w) in
    let same : lanes 4 0 taken (bytes_of w) ≡ lanes 4 0 digit_value (bytes_of w) = lanes_ext 4 0 taken digit_value (bytes_of w)
    (zipped taken_value (bytes_of w) (bytes_are_small w) (each_digit (bytes_of w) d)) in
    (values ∙ same, omega (arith, values, taken_le w))

-- two machine words, one behind the other
pub lanes_behind : (n w : ℕ) (f : ℕ → ℕ) → lanes 4 n f (bytes_of w) ≡ n * 0x1_0000_0000 + lanes 4 0 f (bytes_of w)
unfolding lanes bytes_before
lanes_behind n w f = omega arith

-- ---- loading

-- the n elements of a list from place i + j on
abbrev elements : ℕ → ℕ → ℕ → List ℕ → List ℕ
elements zero i j s = []
elements (suc n) i j s = get_or s (i + j) 0 ∷ elements n i (suc j) s

elements_are : (n i j : ℕ) (s : List ℕ) → i + j + n ≤ length s → take n (drop (i + j) s) ≡ elements n i j s
elements_are zero i j s h = refl
elements_are (suc n) i j s h =
    ap (take (suc n)) (drop-cons s (i + j) 0 (omega arith))
    ∙ ap (λ (k : ℕ). get_or s (i + j) 0 ∷ take n (drop k s)) (let z : suc (i + j) ≡ i + suc j = omega arith in z)
    ∙ ap (λ (l : List ℕ). get_or s (i + j) 0 ∷ l) (elements_are n i (suc j) s (omega arith))

eight_at : (s : List ℕ) (at : ℕ) → at + 8 ≤ length s
    → take 8 (drop at s)
    ≡ get_or s at 0 ∷ get_or s (at + 1) 0 ∷ get_or s (at + 2) 0 ∷ get_or s (at + 3) 0 ∷ get_or s (at + 4) 0 ∷ get_or s (at + 5) 0
    ∷ get_or s (at + 6) 0 ∷ get_or s (at + 7) 0 ∷ []
eight_at s at h =
    let z : at + 0 ≡ at = omega arith in
    ap (λ (k : ℕ). take 8 (drop k s)) (sym z) ∙ elements_are 8 at 0 s (omega arith) ∙ ap (λ (k : ℕ). get_or s k 0 ∷ elements 7 at 1 s) z

whole_word : (a b c d e f g h : ℕ) → Each (λ x. x < 256) (a ∷ b ∷ c ∷ d ∷ e ∷ f ∷ g ∷ h ∷ [])
    → bytes_of (h + g * 0x100 + f * 0x1_0000 + e * 0x100_0000 + d * 0x1_0000_0000 + c * 0x100_0000_0000 + b * 0x1_0000_0000_0000 + a
    * 0x100_0000_0000_0000) ≡ a ∷ b ∷ c ∷ d ∷ e ∷ f ∷ g ∷ h ∷ []
unfolding lanes bytes_before
whole_word a b c d e f g h p =
    let eight = a ∷ b ∷ c ∷ d ∷ e ∷ f ∷ g ∷ h ∷ [] in
    ap bytes_of
    (let z : h + g * 0x100 + f * 0x1_0000 + e * 0x100_0000 + d * 0x1_0000_0000 + c * 0x100_0000_0000 + b * 0x1_0000_0000_0000 + a
    * 0x100_0000_0000_0000 ≡ lanes 8 0 (λ x. x) eight = omega arith in z)
    ∙ lanes_bytes (λ x. x) eight [] 8 0 0 refl p

-- a byte that was read from a place of s
abbrev pub ReadAt : List ℕ → ℕ → ℕ → Type 0
ReadAt s i b = (b ≡ get_or s i 0) × (b < 256)

pub loaded : (s : List ℕ) (at : ℕ) → at + 8 ≤ length s → {a b c d e f g h : ℕ}
    → ReadAt s at a → ReadAt s (at + 1) b → ReadAt s (at + 2) c → ReadAt s (at + 3) d → ReadAt s (at + 4) e → ReadAt s (at + 5) f
    → ReadAt s (at + 6) g → ReadAt s (at + 7) h
    → bytes_of (h + g * 0x100 + f * 0x1_0000 + e * 0x100_0000 + d * 0x1_0000_0000 + c * 0x100_0000_0000 + b * 0x1_0000_0000_0000 + a
    * 0x100_0000_0000_0000) ≡ take 8 (drop at s)
loaded s at l {a} {b} {c} {d} {e} {f} {g} {h} A B C D E F G H =
    whole_word a b c d e f g h (A.1, (B.1, (C.1, (D.1, (E.1, (F.1, (G.1, (H.1, tt))))))))
    ∙ rw (A.0, B.0, C.0, D.0, E.0, F.0, G.0, H.0) (sym (eight_at s at l))
