-- The error of a rounding: a / c that is at most b / d in size is rounded to a value at most 2^-53 · b / d from it. Assumes nothing.
use mathlib.Core.Path.{◌≡◌, refl, sym, ap, ◌∙◌, subst}
use mathlib.Core.Logic.{◌⊎◌, inl, inr}
use mathlib.Core.Bool.{Bool, true, false, not, true≢false}
use Prim.Native.Nat.{ℕ, zero, suc, ◌+◌, ◌-◌, ◌*◌, ◌/◌, ◌%◌, ◌^◌, ◌≤◌, ◌<◌, compare, Ordering}
use native.Mathlib.Nat.{le_trans, le_of_eq, mul-pos, mul-le-mul_right, le_of_mul-le-mul_right, div-add-mod', le-div_iff_mul-le, mod-lt}
use native.Mathlib.Nat.{one-mul}
use native.Mathlib.Omega.{arith}
use lib.Dec.{T, is_le, compare_is_eq, leb, leb→le, nleb→lt, eqb→eq}
use lib.Pow.{pow-add, pow_pos, pow_mono}
use lib.Ieee.{Float, nan, inf, fin, binary64, up, down, size, nearest, round}
use lib.Ieee.Digits.{size_reaches}
use lib.Ieee.Exact.{HasValue, units_val}
use lib.Ieee.Nearest.{closest}
use lib.Ieee.Order.{drop, kept}
use lib.Ieee.Fits.{round_is}
use lib.Ieee.Scale.{grid, overflow}
use Rattle.rounding_error.proofs.Numbers.{Number, number, Size, ◌per◌, Near, roundoff, Normal}

-- ---- n / u to the nearest whole number is at most a half off
abbrev Cmp : Ordering → ℕ → ℕ → Type 0
Cmp Ordering.lt a b = a ≤ b
Cmp Ordering.eq a b = a ≡ b
Cmp Ordering.gt a b = b ≤ a

le_suc' : (a b : ℕ) → b < a → b ≤ a
le_suc' a b h = omega arith

cmp : (a b : ℕ) → Cmp (compare a b) a b
cmp a b = go (compare a b) (leb→le a b) (nleb→lt a b) (eqb→eq a b)
  where
    go : (o : Ordering) → (T (is_le o) → a ≤ b) → (T (not (is_le o)) → b < a) → (T (compare_is_eq o) → a ≡ b) → Cmp o a b
    go Ordering.lt h k e = h tt
    go Ordering.eq h k e = e tt
    go Ordering.gt h k e = le_suc' a b (k tt)

-- |q·u − n|·2 <= u
abbrev Half : ℕ → ℕ → ℕ → Type 0
Half q u n = (q * u * 2 ≤ n * 2 + u) × (n * 2 ≤ q * u * 2 + u)

of_parts : (w u r n : ℕ) (o : Ordering) → w * u + r ≡ n → r < u → Cmp o (r * 2) u → Half (nearest w o) u n
of_parts w u r n Ordering.lt e l h = (omega arith, omega arith)
of_parts w u r n Ordering.eq e l h = go (w % 2) (two w)
  where
    two : (w : ℕ) → w % 2 ≤ 1
    two w = omega arith

    go : (b : ℕ) → b ≤ 1 → Half (w + b) u n
    go zero k = (omega arith, omega arith)
    go (suc zero) k = (omega arith, omega arith)
    go (suc (suc b)) k = absurd (no b k)
      where
        no : (b : ℕ) → suc (suc b) ≤ 1 → ⊥
        no b k = omega arith
of_parts w u r n Ordering.gt e l h = (omega arith, omega arith)

-- r is below u where u is not 0
rest_below : (n u : ℕ) → 0 < u → n % u < u
rest_below n u h = mod-lt n h

half : (n u : ℕ) → 0 < u → Half (closest n u) u n
half n u h = of_parts (n / u) u (n % u) n (compare (n % u * 2) u) (div-add-mod' n u) (rest_below n u h) (cmp (n % u * 2) u)

-- ---- what is kept of a / c, in units of 2^-1074; K is a unit in the last place, and L is 2^1074
-- a unit in the last place is at most 2^-52 of a size that a / c does not pass
few : (z : ℕ) → z ≤ 53 → z - 53 ≡ 0
few z h = omega arith

last : (z : ℕ) → 53 < z → 52 + (z - 53) < z
last z h = omega arith

normal : (K a c b d L n : ℕ) → 0 < c → a * d ≤ b * c → n ≡ a * L → 2 ^ 52 * K * c ≤ n → 2 ^ 52 * K * d ≤ b * L
normal K a c b d L n C h e k =
    le_of_mul-le-mul_right
    (cross (2 ^ 52) (mul-le-mul_right d k) (mul-le-mul_right L h) (ap (λ (x : ℕ). x * d) e))
    C
  where
    cross : (H : ℕ) → H * K * c * d ≤ n * d → a * d * L ≤ b * c * L → n * d ≡ a * L * d → H * K * d * c ≤ b * L * c
    cross H u v w = omega arith

small : (b d H R L : ℕ) → d ≤ b * R → R * H ≡ L → H * 1 * d ≤ b * L
small b d H R L h e = go (mul-le-mul_right H h) (ap (λ (x : ℕ). b * x) e)
  where
    go : d * H ≤ b * R * H → b * (R * H) ≡ b * L → H * 1 * d ≤ b * L
    go u v = omega arith

le_or_lt : (x y : ℕ) → (x ≤ y) ⊎ (y < x)
le_or_lt x y = go (leb x y) (leb→le x y) (nleb→lt x y)
  where
    go : (b : Bool) → (T b → x ≤ y) → (T (not b) → y < x) → (x ≤ y) ⊎ (y < x)
    go true h k = inl (h tt)
    go false h k = inr (k tt)

pub room : (a c b d : ℕ) → 0 < c → a * d ≤ b * c → d ≤ b * 2 ^ 1022
    → 2 ^ 52 * 2 ^ drop 53 (a * 2 ^ 1074) c * d ≤ b * 2 ^ 1074
room a c b d C h l = go (le_or_lt (size (a * 2 ^ 1074 / c)) 53)
  where
    z : ℕ
    z = size (a * 2 ^ 1074 / c)

    go : (z ≤ 53) ⊎ (53 < z) → 2 ^ 52 * 2 ^ (z - 53) * d ≤ b * 2 ^ 1074
    go (inl k) = rw (few z k) (small b d (2 ^ 52) (2 ^ 1022) (2 ^ 1074) l (sym (pow-add 2 1022 52)))
    go (inr k) =
        normal (2 ^ (z - 53)) a c b d (2 ^ 1074) (a * 2 ^ 1074) C h refl
        ((le-div_iff_mul-le C).0 (le_trans (le_of_eq (sym (pow-add 2 52 (z - 53))))
        (size_reaches (a * 2 ^ 1074 / c) (52 + (z - 53)) (last z k))))

-- the kept number is not too large
no_overflow : (q K a c b d L R O : ℕ) → 0 < c → 0 < d → 0 < L * R → q * (c * K) * 2 ≤ a * L * 2 + c * K → 2 ^ 52 * K * d ≤ b * L
    → a * d ≤ b * c
    → b ≤ d * R → L * R * 2 ≤ O → q * K < O
no_overflow q K a c b d L R O C D P h r s m o =
    let u : q * K * 2 * (c * d) ≤ L * R * 3 * (c * d) =
    cross (2 ^ 52) one (mul-le-mul_right d h) (mul-le-mul_right c r) (mul-le-mul_right (L * 2) s) (mul-le-mul_right (c * L * 3) m) in
    end (q * K) (L * R) P o (le_of_mul-le-mul_right u (mul-pos C D))
  where
    one : 1 ≤ 2 ^ 52
    one = pow_pos 52

    cross : (H : ℕ) → 1 ≤ H → q * (c * K) * 2 * d ≤ (a * L * 2 + c * K) * d → H * K * d * c ≤ b * L * c → a * d * (L * 2) ≤ b * c * (L * 2)
        → b * (c * L * 3) ≤ d * R * (c * L * 3) → q * K * 2 * (c * d) ≤ L * R * 3 * (c * d)
    cross H i x y z w =
        let t : K * d * c ≤ H * (K * d * c) = le_trans (le_of_eq (sym (one-mul (K * d * c)))) (mul-le-mul_right (K * d * c) i) in
        omega arith

    end : (x y : ℕ) → 0 < y → y * 2 ≤ O → x * 2 ≤ y * 3 → x < O
    end x y p o h = omega arith

-- the error, over what stands for the rounded value N / D: N·L is q·K·D
error_below : (N D q K a c b d L : ℕ) → 0 < L → N * L ≡ q * K * D → q * (c * K) * 2 ≤ a * L * 2 + c * K → 2 ^ 52 * K * d ≤ b * L
    → N * c * (d * 2 ^ 53) ≤ a * D * (d * 2 ^ 53) + b * (D * c)
error_below N D q K a c b d L P e h r =
    le_of_mul-le-mul_right
    (cross (2 ^ 52) (ap (λ (x : ℕ). x * (c * 2 * 2 ^ 52 * d)) e) (mul-le-mul_right (D * 2 ^ 52 * d) h) (mul-le-mul_right (c * D) r))
    P
  where
    cross : (H : ℕ) → N * L * (c * 2 * H * d) ≡ q * K * D * (c * 2 * H * d)
        → q * (c * K) * 2 * (D * H * d) ≤ (a * L * 2 + c * K) * (D * H * d)
        → H * K * d * (c * D) ≤ b * L * (c * D) → N * c * (d * (2 * H)) * L ≤ (a * D * (d * (2 * H)) + b * (D * c)) * L
    cross H x y z = omega arith

error_above : (N D q K a c b d L : ℕ) → 0 < L → N * L ≡ q * K * D → a * L * 2 ≤ q * (c * K) * 2 + c * K → 2 ^ 52 * K * d ≤ b * L
    → a * D * (d * 2 ^ 53) ≤ N * c * (d * 2 ^ 53) + b * (c * D)
error_above N D q K a c b d L P e h r =
    le_of_mul-le-mul_right
    (cross (2 ^ 52) (ap (λ (x : ℕ). x * (c * 2 * 2 ^ 52 * d)) e) (mul-le-mul_right (D * 2 ^ 52 * d) h) (mul-le-mul_right (c * D) r))
    P
  where
    cross : (H : ℕ) → N * L * (c * 2 * H * d) ≡ q * K * D * (c * 2 * H * d)
        → a * L * 2 * (D * H * d) ≤ (q * (c * K) * 2 + c * K) * (D * H * d)
        → H * K * d * (c * D) ≤ b * L * (c * D) → a * D * (d * (2 * H)) * L ≤ (N * c * (d * (2 * H)) + b * (c * D)) * L
    cross H x y z = omega arith

-- ---- a rounded fraction
-- a / c with the sign s
abbrev pub signed : Bool → ℕ → ℕ → Number
signed true a c = number 0 a c
signed false a c = number a 0 c

-- a / c is at most the size
abbrev pub AtMost : ℕ → ℕ → Size → Type 0
AtMost a c (b per d) = a * d ≤ b * c

round_value : (s : Bool) (a c : ℕ) → grid binary64 a c < overflow binary64
    → HasValue (round binary64 s a c) s (grid binary64 a c) (2 ^ 1074)
round_value s a c h =
    subst (λ (z : Float). HasValue z s (grid binary64 a c) (2 ^ 1074)) (sym (round_is binary64 s a c))
    (units_val binary64 s (kept 53 (a * 2 ^ 1074) c) (drop 53 (a * 2 ^ 1074) c) h)

near_of : (x : Float) (s : Bool) (q K a c b d L : ℕ) → 0 < L → HasValue x s (q * K) L
    → q * (c * K) * 2 ≤ a * L * 2 + c * K → a * L * 2 ≤ q * (c * K) * 2 + c * K → 2 ^ 52 * K * d ≤ b * L
    → Near x (signed s a c) (roundoff (b per d))
near_of nan s q K a c b d L P v h k r = absurd v
near_of (inf t) s q K a c b d L P v h k r = absurd v
near_of (fin true m e) true q K a c b d L P v h k r =
    record {
      finite = tt;
      within = record {
        below = flip (m * up e) (down e) a c (d * 2 ^ 53) b (error_above (m * up e) (down e) q K a c b d L P v.1 k r);
        above = flip' (m * up e) (down e) a c (d * 2 ^ 53) b (error_below (m * up e) (down e) q K a c b d L P v.1 h r);
      };
    }
  where
    flip : (N D a c P b : ℕ) → a * D * P ≤ N * c * P + b * (c * D) → (0 * c + a * D) * P ≤ (0 * D + N * c) * P + b * (D * c)
    flip N D a c P b h = omega arith

    flip' : (N D a c P b : ℕ) → N * c * P ≤ a * D * P + b * (D * c) → (0 * D + N * c) * P ≤ (0 * c + a * D) * P + b * (c * D)
    flip' N D a c P b h = omega arith
near_of (fin true m e) false q K a c b d L P v h k r = absurd (true≢false v.0)
near_of (fin false m e) true q K a c b d L P v h k r = absurd (true≢false (sym v.0))
near_of (fin false m e) false q K a c b d L P v h k r =
    record {
      finite = tt;
      within = record {
        below = flip (m * up e) (down e) a c (d * 2 ^ 53) b (error_below (m * up e) (down e) q K a c b d L P v.1 h r);
        above = flip' (m * up e) (down e) a c (d * 2 ^ 53) b (error_above (m * up e) (down e) q K a c b d L P v.1 k r);
      };
    }
  where
    flip : (N D a c P b : ℕ) → N * c * P ≤ a * D * P + b * (D * c) → (N * c + 0 * D) * P ≤ (a * D + 0 * c) * P + b * (D * c)
    flip N D a c P b h = omega arith

    flip' : (N D a c P b : ℕ) → a * D * P ≤ N * c * P + b * (c * D) → (a * D + 0 * c) * P ≤ (N * c + 0 * D) * P + b * (c * D)
    flip' N D a c P b h = omega arith

pub round_near : (s : Bool) (a c : ℕ) (M : Size) → 0 < c → Normal M → AtMost a c M → Near (round binary64 s a c) (signed s a c) (roundoff M)
round_near s a c (b per d) C U h =
    near_of (round binary64 s a c) s q K a c b d (2 ^ 1074) (pow_pos 1074)
    (round_value s a c (no_overflow q K a c b d (2 ^ 1074) (2 ^ 1022) (2 ^ 2098) C U.real (mul-pos (pow_pos 1074) (pow_pos 1022))
    w.0 r h U.most big))
    w.0 w.1 r
  where
    q : ℕ
    q = kept 53 (a * 2 ^ 1074) c

    K : ℕ
    K = 2 ^ drop 53 (a * 2 ^ 1074) c

    w : Half q (c * K) (a * 2 ^ 1074)
    w = half (a * 2 ^ 1074) (c * K) (mul-pos C (pow_pos (drop 53 (a * 2 ^ 1074) c)))

    r : 2 ^ 52 * K * d ≤ b * 2 ^ 1074
    r = room a c b d C h U.least

    le_by : (n : ℕ) → n ≤ suc n
    le_by n = omega arith

    big : 2 ^ 1074 * 2 ^ 1022 * 2 ≤ 2 ^ 2098
    big = le_trans (le_of_eq (ap (λ (x : ℕ). x * 2) (sym (pow-add 2 1074 1022)) ∙ sym (pow-add 2 2096 1))) (pow_mono (le_by 2097))
