-- m as an f64 is m: the whole number nearest an f64 is an f64. That of k / 2^j is at most 2^53, as k is, and k·2^j is its own.
-- Assumes nothing.
use mathlib.Core.Path.{◌≡◌, refl, sym, ap, subst, ◌∙◌}
use mathlib.Core.Bool.{Bool, true, false, ◌&&◌}
use Prim.Native.Nat.{ℕ, zero, suc, ◌+◌, ◌*◌, ◌/◌, ◌%◌, ◌^◌, ◌<◌}
use native.Mathlib.Nat.{le_of_eq, lt_of_lt_of_le, lt_of_le_of_lt, mul-pos, mul-one, mul_assoc, zero-mul, zero-lt-suc}
use native.Mathlib.Omega.{arith}
use lib.Dec.{T, eqb, leb, ltb, ltb→lt}
use lib.IntN.{ℤ, pos, negsuc}
use lib.Pow.{pow-add, pow_pos, shl_lt}
use lib.Ieee.{Float, nan, inf, fin, binary64, up, down, round, of_int, fits}
use lib.Ieee.Fits.{and_l, and_r, down_pos, round-fits}
use lib.Ieee.Exact.{HasValue, round_exact}
use lib.Ieee.Back.{round_whole, whole_unique}
use Rattle.trig.specs.Trig.{nearest_whole, signed, whole_of, m_of}
use Rattle.trig.proofs.Nearest.{nearest_same, nearest_whole_lem, nearest_most}

-- the whole number n is an f64, with either sign
abbrev Held : ℕ → Type 0
Held n = (t : Bool) → HasValue (round binary64 t n 1) t n 1

held_by : (k : ℕ) (e : ℤ) → k < 2 ^ 53 → k * up e < 2 ^ 1024 * down e → Held (nearest_whole (k * up e) (down e))
held_by k (pos j) f g t =
    let n : nearest_whole (k * 2 ^ j) 1 ≡ k * 2 ^ j = nearest_whole_lem k (2 ^ j) (2 ^ j) 1 (zero-lt-suc 0) (sym (mul-one (2 ^ j))) in
    let u : k * 2 ^ j * 2 ^ 1074 ≡ k * 2 ^ (j + 1074) = mul_assoc k (2 ^ j) (2 ^ 1074) ∙ ap (λ (x : ℕ). k * x) (sym (pow-add 2 j 1074)) in
    let l = lt_of_le_of_lt (le_of_eq (sym u)) (shl_lt 1024 1074 (lt_of_lt_of_le g (le_of_eq (mul-one (2 ^ 1024))))) in
    rw n (round_exact binary64 t (k * 2 ^ j) 1 k (j + 1074) (zero-lt-suc 0) f l (u ∙ sym (mul-one (k * 2 ^ (j + 1074)))))
held_by k (negsuc j) f g t = let p = pow_pos (suc j) in
    round_whole binary64 t (nearest_whole (k * 1) (2 ^ suc j)) (nearest_most (k * 1) (2 ^ suc j) p (2 ^ 53) (omega arith))

-- what an f64 k·2^e is below
pub bounds : (s : Bool) (k : ℕ) (e : ℤ) → T (fits binary64 (fin s k e)) → (k < 2 ^ 53) × (k * up e < 2 ^ 1024 * down e)
unfolding fits
bounds s zero e f = (omega arith, rw zero-mul (mul-pos (pow_pos 1024) (down_pos e)))
bounds s (suc k) e f =
    let a = eqb (suc k % 2) 1 in
    let b = ltb (suc k) (2 ^ 53) in
    let c = leb (down e) (2 ^ 1074) in
    let d = ltb (suc k * up e) (2 ^ 1024 * down e) in (
      ltb→lt (suc k) (2 ^ 53) (and_r a b (and_l (a && b) c (and_l (a && b && c) d f))),
      ltb→lt (suc k * up e) (2 ^ 1024 * down e)
          (and_r (a && b && c) d f),
    )

held : (s : Bool) (k : ℕ) (e : ℤ) → T (fits binary64 (fin s k e)) → Held (nearest_whole (k * up e) (down e))
held s k e f = held_by k e (bounds s k e f).0 (bounds s k e f).1

-- ---- m as an f64 has the value m

abbrev IsWhole : Float → ℤ → Type 0
IsWhole x (pos n) = HasValue x false n 1
IsWhole x (negsuc n) = HasValue x true (suc n) 1

pub m_exact : (s : Bool) (k : ℕ) (e : ℤ) → T (fits binary64 (fin s k e)) → IsWhole (m_of (fin s k e)) (whole_of s k e)
unfolding m_of of_int
m_exact s k e f = go s (nearest_whole (k * up e) (down e)) (held s k e f)
  where
    go : (s : Bool) (n : ℕ) → Held n → IsWhole (of_int binary64 (signed s n)) (signed s n)
    go true zero h = h false
    go true (suc n) h = h true
    go false n h = h false

-- ---- an f64 that is a whole number, not 0, is the f64 of it

signed_is : (s : Bool) (n : ℕ) → 0 < n → round binary64 s n 1 ≡ of_int binary64 (signed s n)
unfolding of_int
signed_is s zero h = absurd (let z : ⊥ = omega arith in z)
signed_is true (suc n) h = refl
signed_is false (suc n) h = refl

pub whole_is : (y : Float) (s : Bool) (n : ℕ) → 0 < n → T (fits binary64 y) → HasValue y s n 1 → y ≡ of_int binary64 (signed s n)
whole_is nan s n h f v = absurd v
whole_is (inf t) s n h f v = absurd v
whole_is (fin t k e) s n h f v =
    let m : nearest_whole (k * up e) (down e) ≡ n = nearest_same (k * up e) (down e) n 1 (down_pos e) (zero-lt-suc 0) v.1
    ∙ (let z : (2 * n + 1) / 2 ≡ n = omega arith in z) in
    whole_unique binary64 (fin t k e) (round binary64 s n 1) s n f (round-fits binary64 s n 1) v (subst Held m (held t k e f) s)
    ∙ signed_is s n h
