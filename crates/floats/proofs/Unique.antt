-- No two f64s meet the statement for one sign and one fraction. Assumes nothing.
use mathlib.Core.Path.{◌≡◌, sym, ap, subst, ◌∙◌}
use mathlib.Core.Bool.{Bool, false, ◌&&◌}
use Prim.Native.Nat.{ℕ, zero, suc, ◌+◌, ◌-◌, ◌*◌, ◌%◌, ◌^◌, ◌≤◌, ◌<◌}
use native.Mathlib.Nat.{le_trans, le_of_eq, le_antisymm, lt_of_lt_of_le, lt_of_le_of_lt, lt_of_not-le, lt_irrefl, mul_assoc, mul-pos}
use native.Mathlib.Nat.{mul_right_comm, mul-le-mul_right, mul-lt-mul_of_pos_right, lt_of_mul-lt-mul_right, div-lt_iff_lt-mul, zero-mul}
use native.Mathlib.Decide.{dec_le}
use native.Mathlib.Omega.{arith}
use lib.Dec.{T, leb, ltb, eqb, ltb→lt}
use lib.Pow.{pow-add, pow_pos, pow_mono, shl_lt}
use lib.Ieee.{Float, nan, inf, fin, binary64, up, down, fits, odd}
use lib.Ieee.Fits.{and_r, down_pos, odd-fits}
use lib.Ieee.Exact.{odd_sign}
use Rattle.floats.specs.Floats.{is_finite}
use Rattle.floats.specs.Units.{units_of, Signed}
use Rattle.floats.specs.Nearest.{apart, distance, IsNearest}
use Rattle.floats.proofs.Units.{same_units}
use Rattle.floats.proofs.Canon.{canon}
use Rattle.floats.proofs.Nearest.{by_order, even_mul, has_units}

finite_of : (s : Bool) (x : Float) → Signed s x → T (is_finite x)
finite_of s nan h = absurd h
finite_of s (inf t) h = absurd h
finite_of s (fin t m e) h = tt

-- ---- below infinity

units_lt : (x : Float) → T (fits binary64 x) → units_of x < 2 ^ (1074 + 1024)
unfolding fits
units_lt nan f = pow_pos (1074 + 1024)
units_lt (inf s) f = pow_pos (1074 + 1024)
units_lt (fin s zero e) f = (div-lt_iff_lt-mul (down_pos e)).1
    (lt_of_le_of_lt (le_of_eq (ap (λ (x : ℕ). x * 2 ^ 1074) (zero-mul (up e)) ∙ zero-mul (2 ^ 1074)))
    (mul-pos (pow_pos (1074 + 1024)) (down_pos e)))
units_lt (fin s (suc m) e) f =
    let h : suc m * up e < 2 ^ 1024 * down e = ltb→lt (suc m * up e) (2 ^ 1024 * down e)
    (and_r (eqb (suc m % 2) 1 && ltb (suc m) (2 ^ 53) && leb (down e) (2 ^ 1074)) (ltb (suc m * up e) (2 ^ 1024 * down e)) f) in
    (div-lt_iff_lt-mul (down_pos e)).1
    (lt_of_lt_of_le (mul-lt-mul_of_pos_right h (pow_pos 1074))
    (le_of_eq (mul_right_comm (2 ^ 1024) (down e) (2 ^ 1074) ∙ ap (λ (x : ℕ). x * down e) (sym (pow-add 2 1024 1074)))))

-- ---- between two f64s with even last bits lies another

gap : (q k q' k' : ℕ) → q % 2 ≡ 0 → q' % 2 ≡ 0 → q' < 2 ^ 53 → (0 < k → 2 ^ 52 ≤ q) → q * 2 ^ k < q' * 2 ^ k' → Dec (k ≤ k')
    → (q + 1) * 2 ^ k < q' * 2 ^ k'
gap q k q' k' e e' l f h (yes g) =
    let t = q' * 2 ^ (k' - k) in
    let i : t * 2 ^ k ≡ q' * 2 ^ k' = mul_assoc q' (2 ^ (k' - k)) (2 ^ k)
    ∙ ap (λ (x : ℕ). q' * x) (sym (pow-add 2 (k' - k) k) ∙ ap (λ (x : ℕ). 2 ^ x) (let z : k' - k + k ≡ k' = omega arith in z)) in
    let j : q < t = lt_of_mul-lt-mul_right (2 ^ k) (lt_of_lt_of_le h (le_of_eq (sym i))) in
    let o = even_mul q' (2 ^ (k' - k)) e' in
    let m : q + 1 < t = omega arith in
    lt_of_lt_of_le (mul-lt-mul_of_pos_right m (pow_pos k)) (le_of_eq i)
gap q k q' k' e e' l f h (no g) =
    let a = lt_of_not-le g in
    let b : 53 + k' ≤ 52 + k = omega arith in
    let c : q' * 2 ^ k' < 2 ^ 52 * 2 ^ k = lt_of_lt_of_le (shl_lt 53 k' l) (le_trans (pow_mono b) (le_of_eq (pow-add 2 52 k))) in
    let d = mul-le-mul_right (2 ^ k) (f (omega arith)) in
    absurd (lt_irrefl (q * 2 ^ k) (lt_of_lt_of_le h (le_trans (le_of_lt' c) d)))
  where
    le_of_lt' : {a b : ℕ} → a < b → a ≤ b
    le_of_lt' z = omega arith

closer : (N A T' B : ℕ) → A < T' → T' < B → apart N A ≡ apart N B → apart N A ≤ apart N T' → ⊥
closer N A T' B h g e l = omega arith

module _ (s : Bool) (n d : ℕ) (D : 0 < d) where
  never_less : (r t : Float) → IsNearest s n d r → IsNearest s n d t → distance n d r ≡ distance n d t → units_of r < units_of t → ⊥
  never_less r t p o e h =
      let f = finite_of s r p.sign in
      let g = finite_of s t o.sign in
      let c = canon r p.held f in
      let c' = canon t o.held g in
      let v : c.q % 2 ≡ 0 = sym c.last
      ∙ p.even t o.held g e (λ (z : units_of r ≡ units_of t). lt_irrefl (units_of r) (subst (λ (x : ℕ). units_of r < x) (sym z) h)) in
      let v' : c'.q % 2 ≡ 0 = sym c'.last
      ∙ o.even r p.held f (sym e) (λ (z : units_of t ≡ units_of r). lt_irrefl (units_of r) (subst (λ (x : ℕ). units_of r < x) z h)) in
      let q = c.q in
      let k = c.k in
      let l : (q + 1) * 2 ^ k < c'.q * 2 ^ c'.k = gap q k c'.q c'.k v v' c'.few c.full
      (subst (λ (x : ℕ). x < c'.q * 2 ^ c'.k) c.is (subst (λ (x : ℕ). units_of r < x) c'.is h)) (dec_le k c'.k) in
      let w = c.few in
      let y = odd 53 false (q + 1) k 1074 in
      let m : q + 1 < 2 ^ 53 = omega arith in
      let below : (q + 1) * 2 ^ k < units_of t = lt_of_lt_of_le l (le_of_eq (sym c'.is)) in
      let fy : T (fits binary64 y) = odd-fits binary64 53 false (q + 1) k m (let z : q + 1 ≤ 2 ^ 53 = omega arith in z)
      (lt_trans' below (units_lt t o.held)) in
      let u = has_units y false ((q + 1) * 2 ^ k) (odd_sign 53 false (q + 1) k 1074) in
      let above : units_of r < (q + 1) * 2 ^ k = lt_of_le_of_lt (le_of_eq c.is)
      (mul-lt-mul_of_pos_right (let z : q < q + 1 = omega arith in z) (pow_pos k)) in
      closer (n * 2 ^ 1074) (units_of r * d) (units_of y * d) (units_of t * d)
      (mul-lt-mul_of_pos_right (subst (λ (x : ℕ). units_of r < x) (sym u.0) above) D)
      (mul-lt-mul_of_pos_right (subst (λ (x : ℕ). x < units_of t) (sym u.0) below) D)
      e (p.least y fy u.2)
    where
      lt_trans' : {a b c : ℕ} → a < b → b < c → a < c
      lt_trans' a b = omega arith

  pub nearest_unique : (r t : Float) → IsNearest s n d r → IsNearest s n d t → r ≡ t
  nearest_unique r t p o =
      let e : distance n d r ≡ distance n d t = le_antisymm (p.least t o.held (finite_of s t o.sign))
      (o.least r p.held (finite_of s r p.sign)) in
      by_order (units_of r) (units_of t)
      (λ h. absurd (never_less r t p o e h))
      (λ h. same_units s r t p.held o.held p.sign o.sign h)
      (λ h. absurd (never_less t r o p (sym e) h))
