-- f64s in order, by tests on the terms whose values they are. Assumes nothing.
use Rattle.error_terms.proofs.Floors.{unordered_not_below, NotBelow, Signed, ReachesBy, floor_of, rising, exact_reaches}
use lib.Ieee.{lt, Float, nan, inf, fin, up, down, le}
use Rattle.rounding_error.proofs.Counts as Counts
use mathlib.Core.Path.{◌≡◌, refl, sym, subst}
use mathlib.Core.Bool.{Bool, true, false, ◌&&◌}
use mathlib.Core.List.{List}
use Prim.Native.Nat.{ℕ, zero, suc, ◌+◌, ◌*◌, ◌^◌, ◌≤◌, ◌<◌}
use native.Mathlib.Nat.{mul-pos, mul-le-mul_right, le_of_mul-le-mul_right, one-mul, mul-one, zero-mul, mul-zero, zero-add, add-zero}
use native.Mathlib.Nat.{zero-lt-suc}
use native.Mathlib.Omega.{arith}
use lib.Dec.{T, leb, leb→le, lt→ltb}
use lib.Pow.{pow_pos}
use lib.Ieee.Scale.{finite}
use lib.Ieee.Positive.{positive}
use lib.Ieee.Fits.{and_l, and_r, and_i, down_pos}
use Rattle.floats.specs.Floats.{abs_of}
use Rattle.rounding.proofs.Signed.{leq→le}
use Rattle.rounding_error.proofs.Numbers.{Number, number, Size, ◌per◌, ◌less◌, ◌roundoffs◌, IsNumber, Within, Near, value_of}
use Rattle.rounding_error.proofs.Distances.{sorted, within_upto}
use Rattle.rounding_error.proofs.Polynomials as Poly
use Rattle.error_terms.proofs.Monomials.{top, bottom, mono, added, alike, AllRanges, top_pos}
use Rattle.error_terms.proofs.Laws.{Reaches}
use Rattle.error_terms.proofs.Terms.{shape, Given, extent, Term, ◌take◌, value, exact, cancelled, unit_by, Known}
use Rattle.error_terms.proofs.Terms.{AllKnown}
use Rattle.error_terms.proofs.Sound.{unit_real, in_unit_lem, sound}
use Rattle.error_terms.proofs.Judged.{Judged, judged, judge, take_judged, judgement}

ruleset plain = (sorted, one-mul, mul-one, zero-mul, mul-zero, zero-add, add-zero)

-- ---- f64s near numbers
-- x <= v + k, v + k + l <= w, w <= y + l
between : (X1 X2 X p n d q m e Y1 Y2 Y N C k l : ℕ) → 0 < C → 0 < d → 0 < e
    → (X1 * d + n * X) * C ≤ (p * X + X2 * d) * C + k * N * (X * d) → (q * Y + Y2 * e) * C ≤ (Y1 * e + m * Y) * C + l * N * (e * Y)
    → (k + l) * N * (e * d) + (m * d + p * e) * C ≤ (q * d + n * e) * C → X1 * Y + Y2 * X ≤ Y1 * X + X2 * Y
between X1 X2 X p n d q m e Y1 Y2 Y N C k l CC D E a b c =
    le_of_mul-le-mul_right (all (mul-le-mul_right (e * Y) a) (mul-le-mul_right (X * d) b) (mul-le-mul_right (X * Y) c))
    (mul-pos CC (mul-pos D E))
  where
    all : ((X1 * d + n * X) * C) * (e * Y) ≤ ((p * X + X2 * d) * C + k * N * (X * d)) * (e * Y)
        → ((q * Y + Y2 * e) * C) * (X * d) ≤ ((Y1 * e + m * Y) * C + l * N * (e * Y)) * (X * d)
        → ((k + l) * N * (e * d) + (m * d + p * e) * C) * (X * Y) ≤ ((q * d + n * e) * C) * (X * Y)
        → (X1 * Y + Y2 * X) * (C * (d * e)) ≤ (Y1 * X + X2 * Y) * (C * (d * e))
    all s t u = let x = simp sorted at s in let y = simp sorted at t in let z = simp sorted at u in simp sorted (omega (arith, x, y, z))

ordered_values : (x y : Float) → T (finite x) → T (finite y)
    → ((X1 X2 X Y1 Y2 Y : ℕ) → value_of x ≡ number X1 X2 X → value_of y ≡ number Y1 Y2 Y → X1 * Y + Y2 * X ≤ Y1 * X + X2 * Y) → T (le x y)
unfolding le
ordered_values nan y f g h = absurd f
ordered_values (inf s) y f g h = absurd f
ordered_values (fin s m e) nan f g h = absurd g
ordered_values (fin s m e) (inf t) f g h = absurd g
ordered_values (fin false m e) (fin false n d) f g h =
    leq→le false (m * up e * down d) false (n * up d * down e)
    (go (m * up e) (down e) (n * up d) (down d) (h (m * up e) 0 (down e) (n * up d) 0 (down d) refl refl))
  where
    go : (M E N D : ℕ) → M * D + 0 * E ≤ N * E + 0 * D → M * D + 0 ≤ N * E + 0
    go M E N D u = omega arith
ordered_values (fin false m e) (fin true n d) f g h =
    leq→le false (m * up e * down d) true (n * up d * down e)
    (go (m * up e) (down e) (n * up d) (down d) (h (m * up e) 0 (down e) 0 (n * up d) (down d) refl refl))
  where
    go : (M E N D : ℕ) → M * D + N * E ≤ 0 * E + 0 * D → M * D + N * E ≤ 0 + 0
    go M E N D u = omega arith
ordered_values (fin true m e) (fin false n d) f g h =
    leq→le true (m * up e * down d) false (n * up d * down e) (go (m * up e) (down e) (n * up d) (down d))
  where
    go : (M E N D : ℕ) → 0 + 0 ≤ N * E + M * D
    go M E N D = omega arith
ordered_values (fin true m e) (fin true n d) f g h =
    leq→le true (m * up e * down d) true (n * up d * down e)
    (go (m * up e) (down e) (n * up d) (down d) (h 0 (m * up e) (down e) 0 (n * up d) (down d) refl refl))
  where
    go : (M E N D : ℕ) → 0 * D + N * E ≤ 0 * E + M * D → 0 + N * E ≤ 0 + M * D
    go M E N D u = omega arith

pub near_le : (x y : Float) (v w : Number) (k l N c : ℕ) → 0 < c → IsNumber v → IsNumber w → Near x v (k roundoffs (N per c))
    → Near y w (l roundoffs (N per c))
    → Reaches (k + l) N (c * 2 ^ 53) (w less v) → T (le x y)
near_le x y (number p n d) (number q m e) k l N c C D E a b h =
    ordered_values x y a.finite b.finite
    (λ X1 X2 X Y1 Y2 Y ex ey. between X1 X2 X p n d q m e Y1 Y2 Y N (c * 2 ^ 53) k l (mul-pos C (pow_pos 53)) D E
    (subst (λ (z : Number). Within (k roundoffs (N per c)) z (number p n d)) ex a.within).below
    (subst (λ (z : Number). Within (l roundoffs (N per c)) z (number q m e)) ey b.within).above h)

-- x <= v + k, y >= w − l, and w − v > k + l
pub near_lt : (x y : Float) (v w : Number) (k l N c : ℕ) → 0 < N → 0 < c → IsNumber v → IsNumber w → Near x v (k roundoffs (N per c))
    → Near y w (l roundoffs (N per c)) → Reaches (suc (k + l)) N (c * 2 ^ 53) (w less v) → lt x y ≡ true
near_lt x y v w k l N c NN C vv ww n o r = go (lt x y) refl
  where
    clash : (X Y v w : Number) → IsNumber X → IsNumber Y → IsNumber v → IsNumber w → NotBelow (X less Y)
        → Within (k roundoffs (N per c)) X v → Within (l roundoffs (N per c)) Y w → Reaches (suc (k + l)) N (c * 2 ^ 53) (w less v) → ⊥
    clash (number X1 X2 X) (number Y1 Y2 Y) (number p n d) (number q m e) XX YY vv ww o a b r =
        less_itself (mul-pos (mul-pos NN (mul-pos vv ww)) (mul-pos XX YY)) (all (c * 2 ^ 53) (mul-le-mul_right (e * Y) a.below)
        (mul-le-mul_right (X * d) b.above) (mul-le-mul_right (X * Y) r) (mul-le-mul_right (d * e * (c * 2 ^ 53)) o))
      where
        all : (C : ℕ) → ((X1 * d + n * X) * C) * (e * Y) ≤ ((p * X + X2 * d) * C + k * N * (X * d)) * (e * Y)
            → ((q * Y + Y2 * e) * C) * (X * d) ≤ ((Y1 * e + m * Y) * C + l * N * (e * Y)) * (X * d)
            → (suc (k + l) * N * (e * d) + (m * d + p * e) * C) * (X * Y) ≤ ((q * d + n * e) * C) * (X * Y)
            → (X2 * Y + Y1 * X) * (d * e * C) ≤ (X1 * Y + Y2 * X) * (d * e * C)
            → suc (k + l) * (N * (d * e) * (X * Y)) ≤ (k + l) * (N * (d * e) * (X * Y))
        all C s t u w =
            let x = simp plain at s in
            let y = simp plain at t in
            let z = simp plain at u in
            let v = simp plain at w in
            simp plain (omega (arith, x, y, z, v))

        less_itself : {w : ℕ} → 0 < w → suc (k + l) * w ≤ (k + l) * w → ⊥
        less_itself a b = omega arith

    go : (b : Bool) → lt x y ≡ b → lt x y ≡ true
    go true e = e
    go false e =
        absurd (clash (value_of x) (value_of y) v w (Counts.value_is x) (Counts.value_is y) vv ww
        (unordered_not_below y x o.finite n.finite e) n.within
        o.within r)

-- above 0
pub near_above : (x : Float) (v : Number) (k N c : ℕ) → 0 < N → 0 < c → IsNumber v → Near x v (k roundoffs (N per c))
    → Reaches (suc k) N (c * 2 ^ 53) v → T (positive x)
near_above nan v k N c NN C I n h = absurd n.finite
near_above (inf s) v k N c NN C I n h = absurd n.finite
near_above (fin s m e) (number p n d) k N c NN C I z h = sign s m z
  where
    none : (X2 X D : ℕ) → 0 < X → 0 < D → (p * X + X2 * d) * D ≤ (0 * d + n * X) * D + k * N * (d * X) → suc k * N * d + n * D ≤ p * D → ⊥
    none X2 X D XX DD a b = clash (mul-pos (mul-pos NN I) XX) (all a (mul-le-mul_right X b))
      where
        all : (p * X + X2 * d) * D ≤ (0 * d + n * X) * D + k * N * (d * X) → (suc k * N * d + n * D) * X ≤ p * D * X
            → suc k * (N * d * X) ≤ k * (N * d * X)
        all s t = let x = simp plain at s in let y = simp plain at t in simp plain (omega (arith, x, y))

        clash : {w : ℕ} → 0 < w → suc k * w ≤ k * w → ⊥
        clash a b = omega arith

    sign : (s : Bool) (m : ℕ) → Near (fin s m e) (number p n d) (k roundoffs (N per c)) → T (positive (fin s m e))
    sign true m z = absurd (none (m * up e) (down e) (c * 2 ^ 53) (down_pos e) (mul-pos C (pow_pos 53)) z.within.above h)
    sign false zero z = absurd (none 0 (down e) (c * 2 ^ 53) (down_pos e) (mul-pos C (pow_pos 53))
        (subst (λ (w : ℕ). (p * down e + 0 * d) * (c * 2 ^ 53) ≤ (w * d + n * down e) * (c * 2 ^ 53) + k * N * (d * down e))
        (zero-mul (up e)) z.within.above) h)
    sign false (suc m) z = lt→ltb 0 (suc m) (zero-lt-suc m)

-- the sign dropped, it is as near to a number that is not below 0
pub near_abs : (x : Float) (v : Number) (E : Size) → NotBelow v → Near x v E → Near (abs_of x) v E
unfolding abs_of
near_abs nan v E l n = absurd n.finite
near_abs (inf s) v E l n = absurd n.finite
near_abs (fin false m e) v E l n = n
near_abs (fin true m e) (number p n d) (a per c) l z =
    record {
      finite = tt;
      within = record {
        below = one z.within.above (mul-le-mul_right (down e * c) l);
        above = two
            z.within.above;
      };
    }
  where
    one : (p * down e + m * up e * d) * c ≤ (0 * d + n * down e) * c + a * (d * down e) → n * (down e * c) ≤ p * (down e * c)
        → (m * up e * d + n * down e) * c ≤ (p * down e + 0 * d) * c + a * (down e * d)
    one s t = let x = simp plain at s in let y = simp plain at t in simp plain (omega (arith, x, y))

    two : (p * down e + m * up e * d) * c ≤ (0 * d + n * down e) * c + a * (d * down e)
        → (p * down e + 0 * d) * c ≤ (m * up e * d + n * down e) * c + a * (d * down e)
    two s = let x = simp plain at s in simp plain (omega (arith, x))

-- ---- terms in order
abbrev pub ordered : List Given → Judged → Judged → Bool
ordered G (judged a b (shape k i p q) F) (judged a' b' (shape l j p' q') F') =
    ((a && b) && (a' && b')) && (alike (added p q') (added p' q)
    && (rising (cancelled G (Poly.added F' (Poly.negated F))) && leb (k + l)
    (floor_of G p' q' (cancelled G (Poly.added F' (Poly.negated F))) * 2 ^ 53)))

abbrev pub above : List Given → Judged → Bool
above G (judged a b (shape k i p q) F) = (a && b) && (rising (cancelled G F) && leb (suc k) (floor_of G p q (cancelled G F) * 2 ^ 53))

pub finer : (F n c : ℕ) (K Q : ℕ) (v : Number) → K ≤ F * Q → Reaches F n c v → Reaches K n (c * Q) v
finer F n c K Q (number q m e) u h = go (mul-le-mul_right (n * e) u) (mul-le-mul_right Q h)
  where
    go : K * (n * e) ≤ F * Q * (n * e) → (F * n * e + m * c) * Q ≤ q * c * Q → K * n * e + m * (c * Q) ≤ q * (c * Q)
    go s t = let x = simp sorted at s in let y = simp sorted at t in simp sorted (omega (arith, x, y))

module _ (B : List Size) (r : AllRanges 32 B) (G : List Given) (h : AllKnown B G) (s : Signed G) where
  pub moved : (x : Float) (v : Number) (K : ℕ) (p q p' q' : List ℕ) → T (alike (added p q') (added p' q))
      → Near x v (K roundoffs unit_by B p q) → Near x v (K roundoffs unit_by B p' q')
  moved x v K p q p' q' u n =
      record {
        finite = n.finite;
        within = within_upto (K roundoffs unit_by B p q) (K roundoffs unit_by B p' q') (value_of x) v
            (mul-pos (unit_real B r p q) (pow_pos 53))
            (go (mono top B p * mono bottom B q) (mono bottom B p * mono top B q * 2 ^ 30) (mono top B p' * mono bottom B q')
            (mono bottom B p' * mono top B q' * 2 ^ 30) (2 ^ 53) (in_unit_lem B r p q p' q' u)) n.within;
      }
    where
      go : (n d n2 d2 Q : ℕ) → n * d2 ≤ n2 * d → K * n * (d2 * Q) ≤ K * n2 * (d * Q)
      go n d n2 d2 Q u = let x = simp sorted at (mul-le-mul_right (K * Q) u) in simp sorted (omega (arith, x))

  abbrev pub Facts : Term → Judged → Type 0
  Facts t (judged a b s F) =
      (T a → Known B (value G t) (exact G t) s) ×
      (T b → T (rising (cancelled G F)) → (p q : List ℕ) → ReachesBy B (extent (floor_of G p q (cancelled G F)) p q) (exact G t))

  pub facts : (t : Term) → Facts t (judge G t)
  facts t = subst (λ (j : Judged). Facts t j) (sym (judgement G t))
      ((λ z. sound B r G h t z), (λ e u p q. exact_reaches B r G h s t p q e u))

  -- value s <= value t
  pub ordered_le : (a b : Term) → T (ordered G (judge G a) (judge G b)) → T (le (value G a) (value G b))
  ordered_le a b t =
      go (judge G a) (judge G b) (facts a) (facts b) (facts (b take a)) t
    where
      go : (x y : Judged) → Facts a x → Facts b y → Facts (b take a) (take_judged y x) → T (ordered G x y) → T (le (value G a) (value G b))
      go (judged c d (shape k i p q) F) (judged c' d' (shape l j p' q') F') f g z e =
          let D = cancelled G (Poly.added F' (Poly.negated F)) in
          let n = floor_of G p' q' D * 2 ^ 53 in
          let u = alike (added p q') (added p' q) in
          let e0 = and_l ((c && d) && (c' && d')) (u && (rising D && leb (k + l) n)) e in
          let e1 = and_r ((c && d) && (c' && d')) (u && (rising D && leb (k + l) n)) e in
          let e2 = and_r u (rising D && leb (k + l) n) e1 in
          let ea = and_l (c && d) (c' && d') e0 in
          let eb = and_r (c && d) (c' && d') e0 in
          let ka = f.0 (and_l c d ea) in
          let kb = g.0 (and_l c' d' eb) in
          near_le (value G a) (value G b) (exact G a) (exact G b) k l (mono top B p' * mono bottom B q')
          (mono bottom B p' * mono top B q' * 2 ^ 30) (unit_real B r p' q') ka.is kb.is
          (moved (value G a) (exact G a) k p q p' q' (and_l u (rising D && leb (k + l) n) e1) ka.near) kb.near
          (finer (floor_of G p' q' D) (mono top B p' * mono bottom B q') (mono bottom B p' * mono top B q' * 2 ^ 30) (k + l) (2 ^ 53)
          (exact G b less exact G a)
          (leb→le (k + l) n (and_r (rising D) (leb (k + l) n) e2))
          (z.1 (and_i d' d (and_r c' d' eb) (and_r c d ea)) (and_l (rising D) (leb (k + l) n) e2) p' q'))

  -- the value is above 0
  pub above_zero : (t : Term) → T (above G (judge G t)) → T (positive (value G t))
  above_zero t e = go (judge G t) (facts t) e
    where
      go : (j : Judged) → Facts t j → T (above G j) → T (positive (value G t))
      go (judged a b (shape k i p q) F) f e =
          let D = cancelled G F in
          let x = and_l (a && b) (rising D && leb (suc k) (floor_of G p q D * 2 ^ 53)) e in
          let y = and_r (a && b) (rising D && leb (suc k) (floor_of G p q D * 2 ^ 53)) e in
          let z = f.0 (and_l a b x) in
          near_above (value G t) (exact G t) k (mono top B p * mono bottom B q) (mono bottom B p * mono top B q * 2 ^ 30)
          (top_pos 32 B r p q) (unit_real B r p q) z.is z.near
          (finer (floor_of G p q D) (mono top B p * mono bottom B q) (mono bottom B p * mono top B q * 2 ^ 30) (suc k) (2 ^ 53) (exact G t)
          (leb→le (suc k) (floor_of G p q D * 2 ^ 53) (and_r (rising D) (leb (suc k) (floor_of G p q D * 2 ^ 53)) y))
          (f.1 (and_r a b x) (and_l (rising D) (leb (suc k) (floor_of G p q D * 2 ^ 53)) y) p q))
