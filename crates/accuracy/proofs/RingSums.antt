-- Sums of up to 32 f64s that are near one number, as a ring's are, in the unit of how many there are. Assumes nothing.
use mathlib.Core.Path.{◌≡◌, refl, sym, ap, ◌∙◌, subst}
use mathlib.Core.List.{List, [], ◌∷◌}
use Prim.Native.Nat.{ℕ, zero, suc, ◌+◌, ◌*◌, ◌^◌, ◌≤◌, ◌<◌}
use native.Mathlib.Nat.{le_refl, le_trans, le_of_eq, mul-pos, mul-le-mul, mul-le-mul_left, mul-le-mul_right, one-mul, mul-one, zero-mul}
use native.Mathlib.Nat.{mul-zero, zero-add, add-zero}
use native.Mathlib.Omega.{arith}
use lib.Dec.{T, leb}
use lib.ListN.{get_or}
use lib.Pow.{pow_pos, pow_mono}
use lib.Ieee.{Float, of_bits}
use Rattle.floats.specs.Operations.{◌⊕◌, bits}
use Rattle.rounding_error.proofs.Numbers.{Number, number, Size, ◌per◌, ◌of◌, ◌roundoffs◌, ◌plus◌, ◌times◌, IsNumber, Ranges, value_of}
use Rattle.rounding_error.proofs.Numbers.{zero_number}
use Rattle.rounding_error.proofs.Distances.{sorted, within_upto}
use Rattle.rounding_error.proofs.Chains.{Valued, zero_valued, equalled, counted_by}
use Rattle.rounding_error.proofs.Polynomials.{◌equals◌, times_is, equal_by, given, ratio, ◌mul◌}
use Rattle.error_terms.proofs.Laws.{plus_law, Reaches}
use Rattle.error_terms.proofs.Monomials.{place, added, mono, mono_none, mono_place, top, bottom, unit, top_by, bottom_by, AllRanges}
use Rattle.error_terms.proofs.Monomials.{total as total_of}
use Rattle.error_terms.proofs.Terms.{shape, Known, unit_by}
use Rattle.error_terms.proofs.Sound.{unit_real, unit_ranges}
use Rattle.joins.specs.Joins.{in_order}

ruleset plain = (sorted, one-mul, mul-one, zero-mul, mul-zero, zero-add, add-zero)

pub unit_range : (B : List Size) → AllRanges 32 B → (p : List ℕ) → T (leb (32 * total_of p + 32 * total_of []) 800)
    → Ranges 900 (unit_by B p [])
unit_range B r p t = upward (unit_ranges B r p [] t)
  where
    upward : {A : Size} → Ranges 840 A → Ranges 900 A
    upward {A = a per k} t =
        record {
          real = t.real;
          least = le_trans t.least (mul-le-mul_left a (pow_mono {i = 840} {j = 900} (omega arith)));
          most = le_trans t.most (mul-le-mul_left k (pow_mono {i = 840} {j = 900} (omega arith)));
        }

one_more : (n : ℕ) (v : Number) → number n 0 1 times v plus v equals number (suc n) 0 1 times v
one_more n (number p m d) = record { same = go n p m d }
  where
    go : (n p m d : ℕ) → ((n * p + 0 * m) * d + p * (1 * d)) * (1 * d) + (suc n * m + 0 * p) * (1 * d * d)
        ≡ (suc n * p + 0 * m) * (1 * d * d) + ((n * m + 0 * p) * d + m * (1 * d)) * (1 * d)
    go n p m d = simp plain (omega arith)

-- ---- sums of f64s that are all near one number
module _ (U : Size) (t : Ranges 900 U) (w : Number) (K H : ℕ) (few_k : K ≤ 2 ^ 47) (few_h : H ≤ 2 ^ 34) where
  pub sums_to : (f : ℕ → Float) (n : ℕ) → n ≤ 32 → IsNumber w → ((k : ℕ) → k < n → Valued (f k) w K (2 * H) U)
      → Valued (in_order (λ x y. x ⊕ y) (bits 0) f n) (number n 0 1 times w) (n * K + (n * suc n * H + 2 * n)) (n * (2 * H)) U
  unfolding in_order of_bits
  sums_to f zero l i each =
      counted_by (equalled (zero_valued U) (number 0 0 1 times w) (times_is (number 0 0 1) w (pow_pos 0) i)
      (equal_by (w ∷ []) (i, tt) (ratio 0 0) (ratio 0 0 mul given 0) tt))
      (0 * K + (0 * suc 0 * H + 2 * 0)) (0 * (2 * H)) t.real (omega arith) (omega arith)
  sums_to f (suc n) l i each =
      let a : n * H ≤ 31 * 2 ^ 34 = mul-le-mul (at_most_lem n l) few_h in
      let b : n * K ≤ 31 * 2 ^ 47 = mul-le-mul (at_most_lem n l) few_k in
      counted_by
      (equalled (plus_law U t (most n (at_most_lem n l) a b (mul-le-mul_right (n * H) l)) (small few_k) (sizes n a)
      (sums_to f n (lower n l) i (λ k h. each k (up_one k n h))) (each n (le_refl (suc n))))
      (number (suc n) 0 1 times w) (times_is (number (suc n) 0 1) w (pow_pos 0) i) (one_more n w))
      (suc n * K + (suc n * suc (suc n) * H + 2 * suc n)) (suc n * (2 * H)) t.real (omega arith) (omega arith)
    where
      at_most_lem : (n : ℕ) → suc n ≤ 32 → n ≤ 31
      at_most_lem n h = omega arith

      lower : (n : ℕ) → suc n ≤ 32 → n ≤ 32
      lower n h = omega arith

      up_one : (k n : ℕ) → k < n → k < suc n
      up_one k n h = omega arith

      small : K ≤ 2 ^ 47 → K ≤ 2 ^ 53
      small h = omega arith

      most : (n : ℕ) → n ≤ 31 → n * H ≤ 31 * 2 ^ 34 → n * K ≤ 31 * 2 ^ 47 → suc n * (n * H) ≤ 32 * (n * H)
          → n * K + (n * suc n * H + 2 * n) ≤ 2 ^ 53
      most n l h k m = omega arith

      sizes : (n : ℕ) → n * H ≤ 31 * 2 ^ 34 → suc (n * (2 * H)) + suc (2 * H) ≤ 2 ^ 100
      sizes n h = omega arith

-- n times a unit is a unit, with n among the sizes
count_top : (B : List Size) (n : ℕ) → get_or B 6 unit ≡ n per 1 → (p : List ℕ)
    → mono top B (added p (place 6)) * mono bottom B [] ≡ mono top B p * mono bottom B [] * n
count_top B n e p =
    top_by B p [] (place 6) []
    ∙ ap (λ (a : ℕ). mono top B p * mono bottom B [] * a)
    (ap (λ (a : ℕ). mono top B (place 6) * a) (mono_none bottom B) ∙ mul-one (mono top B (place 6)) ∙ mono_place top refl B 6 ∙ ap top e)

count_bottom : (B : List Size) (n : ℕ) → get_or B 6 unit ≡ n per 1 → (p : List ℕ)
    → mono bottom B (added p (place 6)) * mono top B [] ≡ mono bottom B p * mono top B []
count_bottom B n e p =
    bottom_by B p [] (place 6) []
    ∙ ap (λ (a : ℕ). mono bottom B p * mono top B [] * a)
    (ap (λ (a : ℕ). mono bottom B (place 6) * a) (mono_none top B) ∙ mul-one
    (mono bottom B (place 6)) ∙ mono_place bottom refl B 6 ∙ ap bottom e)
    ∙ mul-one (mono bottom B p * mono top B [])

-- what n times a number is at least
pub count_reaches : (B : List Size) (n : ℕ) → get_or B 6 unit ≡ n per 1 → (p : List ℕ) (low : ℕ) (v : Number)
    → Reaches low (mono top B p * mono bottom B []) (mono bottom B p * mono top B [] * 2 ^ 30) v
    → Reaches low (mono top B (added p (place 6)) * mono bottom B []) (mono bottom B (added p (place 6)) * mono top B [] * 2 ^ 30)
    (number n 0 1 times v)
count_reaches B n e p low v h =
    subst (λ (a : ℕ). Reaches low a (mono bottom B (added p (place 6)) * mono top B [] * 2 ^ 30) (number n 0 1 times v))
    (sym (count_top B n e p))
    (subst (λ (a : ℕ). Reaches low (mono top B p * mono bottom B [] * n) (a * 2 ^ 30) (number n 0 1 times v)) (sym (count_bottom B n e p))
    (go (mono top B p * mono bottom B []) (mono bottom B p * mono top B [] * 2 ^ 30) v h))
  where
    go : (X C : ℕ) (v : Number) → Reaches low X C v → Reaches low (X * n) C (number n 0 1 times v)
    go X C (number q m d) h = all (mul-le-mul_left n h)
      where
        all : n * (low * X * d + m * C) ≤ n * (q * C) → low * (X * n) * (1 * d) + (n * m + 0 * q) * C ≤ (n * q + 0 * m) * C
        all u = let x = simp plain at u in simp plain (omega (arith, x))

counted_unit : (B : List Size) (n : ℕ) → get_or B 6 unit ≡ n per 1 → (p : List ℕ) (x : Float) (v : Number) (E J : ℕ) → AllRanges 32 B
    → Valued x v (n * E) (n * J) (unit_by B p []) → Known B x v (shape E J (added p (place 6)) [])
counted_unit B n e p x v E J r h =
    subst (λ (a : ℕ). Valued x v E J (a per (mono bottom B (added p (place 6)) * mono top B [] * 2 ^ 30))) (sym (count_top B n e p))
    (subst (λ (a : ℕ). Valued x v E J ((X * n) per (a * 2 ^ 30))) (sym (count_bottom B n e p)) there)
  where
    X : ℕ
    X = mono top B p * mono bottom B []

    Y : ℕ
    Y = mono bottom B p * mono top B []

    there : Valued x v E J ((X * n) per (Y * 2 ^ 30))
    there =
        record {
          near = record {
            finite = h.near.finite;
            within = within_upto ((n * E) roundoffs unit_by B p []) (E roundoffs ((X * n) per (Y * 2 ^ 30))) (value_of x) v
                (mul-pos (unit_real B r p []) (pow_pos 53)) (errors X (Y * 2 ^ 30) (2 ^ 53)) h.near.within;
          };
          size = within_upto ((n * J) of unit_by B p []) (J of ((X * n) per (Y * 2 ^ 30))) v zero_number (unit_real B r p [])
              (sizes X (Y * 2 ^ 30)) h.size;
          is = h.is;
        }
      where
        errors : (X Z Q : ℕ) → n * E * X * (Z * Q) ≤ E * (X * n) * (Z * Q)
        errors X Z Q = simp plain (le_refl _)

        sizes : (X Z : ℕ) → n * J * X * Z ≤ J * (X * n) * Z
        sizes X Z = simp plain (le_refl _)

-- n f64s near one number, in the unit of n
pub sums_known : (B : List Size) → AllRanges 32 B → (n : ℕ) → get_or B 6 unit ≡ n per 1 → n ≤ 32 → (p : List ℕ)
    → Ranges 900 (unit_by B p [])
    → (w : Number) (K size : ℕ) → K ≤ 2 ^ 47 → size * 2 ^ 19 ≤ 2 ^ 34 → (f : ℕ → Float) → IsNumber w
    → ((k : ℕ) → k < n → Known B (f k) w (shape K (size * 2 ^ 20) p []))
    → Known B (in_order (λ x y. x ⊕ y) (bits 0) f n) (number n 0 1 times w) (shape (K + 33 * (size * 2 ^ 19) + 2) (size * 2 ^ 20) (added p
    (place 6)) [])
sums_known B r n e l p t w K size few_k few_h f i each =
    counted_unit B n e p (in_order (λ x y. x ⊕ y) (bits 0) f n) (number n 0 1 times w) (K + 33 * (size * 2 ^ 19) + 2) (size * 2 ^ 20) r
    (counted_by
    (sums_to (unit_by B p []) t w K (size * 2 ^ 19) few_k few_h f n l i
    (λ k h. subst (λ (j : ℕ). Valued (f k) w K j (unit_by B p [])) (sym (halves size)) (each k h)))
    (n * (K + 33 * (size * 2 ^ 19) + 2)) (n * (size * 2 ^ 20)) (unit_real B r p [])
    (each_less n K (size * 2 ^ 19) l) (le_of_eq (ap (λ (j : ℕ). n * j) (halves size))))
  where
    -- n·(K + 33·H + 2)
    each_less : (n K H : ℕ) → n ≤ 32 → n * K + (n * suc n * H + 2 * n) ≤ n * (K + 33 * H + 2)
    each_less n K H l = go (mul-le-mul_right (n * H) (one_up n l))
      where
        one_up : (n : ℕ) → n ≤ 32 → suc n ≤ 33
        one_up n h = omega arith

        go : suc n * (n * H) ≤ 33 * (n * H) → n * K + (n * suc n * H + 2 * n) ≤ n * (K + 33 * H + 2)
        go h = omega arith

    halves : (s : ℕ) → 2 * (s * 2 ^ 19) ≡ s * 2 ^ 20
    halves s = omega arith
