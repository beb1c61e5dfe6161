-- A body turned about the axis keeps its place along it: to it a zero is added, and it is multiplied by 1. Assumes nothing.
use Rattle.std.specs.Prelude.{Ok}
use mathlib.Core.Path.{◌≡◌, refl, ap, ◌∙◌}
use mathlib.Core.Bool.{false}
use Prim.Native.Nat.{ℕ, zero, suc, ◌+◌, ◌*◌, ◌^◌, ◌≤◌, ◌<◌}
use native.Mathlib.Nat.{mul-one, zero-mul, mul-zero}
use native.Mathlib.Omega.{arith}
use lib.Dec.{T, lit≤}
use lib.Ieee.{Float, binary64, neg, of_bits, add, sub, mul, round, of_int, le}
use lib.Ieee.Scale.{finite}
use lib.Ieee.Positive.{num, den, positive, positive-finite}
use Rattle.floats.specs.Operations.{◌⊕◌, ◌⊖◌, ◌⊗◌, ◌⊘◌, bits, whole}
use Rattle.floats.specs.Constants.{one, two, pi}
use Rattle.floats.specs.Floats.{abs_of}
use Rattle.floats.proofs.Bools.{of_true}
use Rattle.floats.proofs.Order.{ne_itself}
use Rattle.rounding.specs.Sizes.{AtMost, Below, Above}
use Rattle.rounding.proofs.Signs.{finite_no_nan}
use Rattle.rounding.proofs.Exact.{zero_exact, pow_exact}
use Rattle.rounding.proofs.Monotone.{positive_num}
use Rattle.rounding.proofs.Operations.{neg_most, mul_most, add_most, div_most}
use Rattle.rounding.proofs.Rounding.{round_most, round_least}
use Rattle.rounding.proofs.Sizes.{weaker, mul_below, add_below, div_below}
use Rattle.rounding.proofs.Tests.{most_of_le}
use Rattle.refusals.specs.declared.Refusal.TheVariants.{Angle}
use Rattle.refusals.proofs.Accepted.{holds}
use Rattle.limits.specs.Limits.{widest, angle_check}
use Rattle.trig.specs.Trig.{sin_of, cos_of}
use Rattle.fillet_sizes.proofs.Turns.{turn_below}
use Rattle.bodies.specs.declared.Body.{Body}
use Rattle.bodies.specs.declared.Vector.{Vector}
use Rattle.bodies.specs.Vectors.{add_vectors, zero_vector, divide_vector}
use Rattle.bodies.specs.Bodies.{rotated_of}
use Rattle.rotations.specs.Rotations.{rolled_of}
use Rattle.rings.specs.Rings.{angle_of, rolled_copy, joined_copies}
use Rattle.joins.specs.Joins.{in_order, sums_of, join_of, centre_of}
use Rattle.joins.specs.declared.Sums.{Sums}
use Rattle.one_piece.proofs.PlatePiece.{positive_above}

-- ---- zeros
pub zero_most : AtMost 0 1 (bits 0)
unfolding of_bits
zero_most = record { finite = tt; size = lit≤ tt }

no_size : (x : Float) → AtMost 0 1 x → num x ≡ 0
no_size x h = go (num x) (den x) h.size
  where
    go : (n d : ℕ) → n * 1 ≤ 0 * d → n ≡ 0
    go n d k = let z = zero-mul d in omega arith

pub none_times : (x y : Float) → AtMost 0 1 x → T (finite y) → AtMost 0 1 (x ⊗ y)
none_times x y h f = mul_most binary64 x y 0 1 (lit≤ tt) (zero_exact binary64) h.finite f
    (rw (no_size x h, zero-mul (num y)) (go (0 * (den x * den y))))
  where
    go : (a : ℕ) → 0 * 1 ≤ a
    go a = omega arith

pub times_none : (x y : Float) → T (finite x) → AtMost 0 1 y → AtMost 0 1 (x ⊗ y)
times_none x y f h = mul_most binary64 x y 0 1 (lit≤ tt) (zero_exact binary64) f h.finite
    (rw (no_size y h, mul-zero (num x)) (go (0 * (den x * den y))))
  where
    go : (a : ℕ) → 0 * 1 ≤ a
    go a = omega arith

pub none_plus : (x y : Float) → AtMost 0 1 x → AtMost 0 1 y → AtMost 0 1 (x ⊕ y)
none_plus x y h k =
    add_most binary64 x y 0 1 (lit≤ tt) (zero_exact binary64) h.finite k.finite
    (rw (no_size x h, no_size y k, zero-mul (den y), zero-mul (den x)) (go (0 * (den x * den y))))
  where
    go : (a : ℕ) → (0 + 0) * 1 ≤ a
    go a = omega arith

pub none_less : (x y : Float) → AtMost 0 1 x → AtMost 0 1 y → AtMost 0 1 (x ⊖ y)
unfolding sub
none_less x y h k = none_plus x (neg y) h (neg_most y 0 1 k)

pub none_over : (x y : Float) → AtMost 0 1 x → T (positive y) → AtMost 0 1 (x ⊘ y)
none_over x y h p =
    div_most binary64 x y 0 1 (lit≤ tt) (zero_exact binary64) h.finite (positive-finite y p) (positive_num y p)
    (rw (no_size x h, zero-mul (den y)) (go (0 * (num y * den x))))
  where
    go : (a : ℕ) → 0 * 1 ≤ a
    go a = omega arith

-- ---- the last row of the matrix of a turn by an angle whose half has the sine s and the cosine c: two zeros, and 1
abbrev pub across_of : Float → Float → Float → Float
across_of s c x = (bits 0 ⊗ (s ⊕ s) ⊖ c ⊗ (bits 0 ⊕ bits 0)) ⊗ x ⊕ (bits 0 ⊗ (s ⊕ s) ⊕ c ⊗ (bits 0 ⊕ bits 0)) ⊗ bits 0

pub one_left : one ⊖ (bits 0 ⊗ (bits 0 ⊕ bits 0) ⊕ bits 0 ⊗ (bits 0 ⊕ bits 0)) ≡ one
unfolding of_bits add sub mul round
one_left = refl

across_none : (s c x : Float) → Below 331 s → Below 331 c → T (finite x) → AtMost 0 1 (across_of s c x)
across_none s c x hs hc f =
    let ss : T (finite (s ⊕ s)) = (add_below s s 331 (lit≤ tt) hs hs).finite in
    let a = none_times (bits 0) (s ⊕ s) zero_most ss in
    let b = times_none c (bits 0 ⊕ bits 0) hc.finite (none_plus (bits 0) (bits 0) zero_most zero_most) in
    none_plus _ _ (none_times _ x (none_less _ _ a b) f) (none_times _ (bits 0) (none_plus _ _ a b) zero_most.finite)

turned_place : (body : Body) (angle : Float) → body.centre_m.y ≡ bits 0
    → (rolled_of body angle).centre_m.z
    ≡ across_of (sin_of (angle ⊘ two)) (cos_of (angle ⊘ two)) body.centre_m.x ⊕ one ⊗ body.centre_m.z
unfolding rotated_of
turned_place body angle e = rw (e, one_left)

-- ---- the angles of a ring
whole_below : (n p : ℕ) → p ≤ 1023 → n ≤ 2 ^ p → Below p (whole n)
unfolding of_int
whole_below n p l h = round_most binary64 false n 1 (2 ^ p) 1 (lit≤ tt) (lit≤ tt) (pow_exact binary64 p l)
    (rw (mul-one n, mul-one (2 ^ p)) h)

whole_above : (n : ℕ) → 1 ≤ n → n ≤ 32 → Above 0 (whole n)
unfolding of_int
whole_above n l h = go (whole_below n 5 (lit≤ tt) h).finite
  where
    go : T (finite (whole n)) → Above 0 (whole n)
    go f = round_least binary64 false n 1 1 1 (lit≤ tt) (lit≤ tt) (pow_exact binary64 0 (lit≤ tt)) f (rw (mul-one n) l)

two_below : Below 1 two
unfolding of_bits
two_below = record { finite = tt; size = lit≤ tt }

two_above : Above 0 two
unfolding of_bits
two_above = record { finite = tt; size = lit≤ tt }

pi_below : Below 2 pi
unfolding of_bits
pi_below = record { finite = tt; size = lit≤ tt }

angle_checked : (field : ℕ) (x : Float) → angle_check field x ≡ Ok tt → Below 2 x
unfolding angle_check of_bits
angle_checked field x h = let m = most_of_le x widest tt refl (of_true _ (holds (le (abs_of x) widest) (Angle field) h)) in
    record { finite = m.finite; size = m.size }

half_angle_below : (base : Float) (count k : ℕ) → Below 2 base → 1 ≤ count → count ≤ 32 → k < count → Below 15 (angle_of base count k ⊘ two)
half_angle_below base count k hb l u i =
    let p : Below 3 (two ⊗ pi) = mul_below two pi 1 2 (lit≤ tt) two_below pi_below in
    let w : Below 8 (two ⊗ pi ⊗ whole k) = mul_below (two ⊗ pi) (whole k) 3 5 (lit≤ tt) p (whole_below k 5 (lit≤ tt) (omega arith)) in
    let q : Below 8 (two ⊗ pi ⊗ whole k ⊘ whole count) = div_below (two ⊗ pi ⊗ whole k) (whole count) 8 0 (lit≤ tt) w
    (whole_above count l u) in
    let a : Below 9 (angle_of base count k) = add_below base (two ⊗ pi ⊗ whole k ⊘ whole count) 8 (lit≤ tt) (weaker base 2 8 (lit≤ tt) hb) q
    in
    weaker (angle_of base count k ⊘ two) 9 15 (lit≤ tt) (div_below (angle_of base count k) two 9 0 (lit≤ tt) a two_above)

-- ---- the centre of a ring along the axis
along_in_order : (f : ℕ → Vector) (n : ℕ) → (in_order add_vectors zero_vector f n).z ≡ in_order (λ x y. x ⊕ y) (bits 0) (λ k. (f k).z) n
unfolding in_order
along_in_order f zero = refl
along_in_order f (suc n) = ap (λ (x : Float). x ⊕ (f n).z) (along_in_order f n)

same_in_order : (f g : ℕ → Float) (n : ℕ) → ((k : ℕ) → f k ≡ g k)
    → in_order (λ x y. x ⊕ y) (bits 0) f n ≡ in_order (λ x y. x ⊕ y) (bits 0) g n
unfolding in_order
same_in_order f g zero h = refl
same_in_order f g (suc n) h = rw (same_in_order f g n h, h n)

pub heavy_centre : (s : Sums) → T (positive s.mass_kg) → centre_of s ≡ divide_vector s.moment s.mass_kg
heavy_centre s p =
    rw (ne_itself s.mass_kg ∙ finite_no_nan s.mass_kg (positive-finite s.mass_kg p), positive_above s.mass_kg p)

abbrev pub across_at : Float → ℕ → Float → ℕ → Float
across_at base count x k = across_of (sin_of (angle_of base count k ⊘ two)) (cos_of (angle_of base count k ⊘ two)) x

module _ (body : Body) (base : Float) (count : ℕ) where
  abbrev pub masses_of : Float
  masses_of = in_order (λ x y. x ⊕ y) (bits 0) (λ k. body.mass_kg) count

  pub ring_centre : body.centre_m.y ≡ bits 0 → T (positive masses_of)
      → (joined_copies body base count).centre_m.z
      ≡ in_order (λ x y. x ⊕ y) (bits 0) (λ k. (across_at base count body.centre_m.x k ⊕ one ⊗ body.centre_m.z) ⊗ body.mass_kg)
      count ⊘ masses_of
  unfolding join_of sums_of rotated_of
  ring_centre e p =
      ap (λ (v : Vector). v.z) (heavy_centre (sums_of (rolled_copy body base count) count) (masses p))
      ∙ ap (λ (x : Float). x ⊘ masses_of)
      (along_in_order _ count
      ∙ same_in_order _ (λ k. (across_at base count body.centre_m.x k ⊕ one ⊗ body.centre_m.z) ⊗ body.mass_kg) count
      (λ k. term k))
    where
      masses : T (positive masses_of) → T (positive (sums_of (rolled_copy body base count) count).mass_kg)
      masses p = p

      term : (k : ℕ) → (rolled_copy body base count k).centre_m.z ⊗ (rolled_copy body base count k).mass_kg
          ≡ (across_at base count body.centre_m.x k ⊕ one ⊗ body.centre_m.z) ⊗ body.mass_kg
      term k = ap (λ (x : Float). x ⊗ (rolled_copy body base count k).mass_kg) (turned_place body (angle_of base count k) e)

  pub across_naught : (field : ℕ) → angle_check field base ≡ Ok tt → 1 ≤ count → count ≤ 32 → T (finite body.centre_m.x) → (k : ℕ)
      → k < count → AtMost 0 1 (across_at base count body.centre_m.x k)
  across_naught field h l u f k i =
      let t = turn_below (angle_of base count k ⊘ two) (half_angle_below base count k (angle_checked field base h) l u i) in
      across_none (sin_of (angle_of base count k ⊘ two)) (cos_of (angle_of base count k ⊘ two)) body.centre_m.x t.0 t.1 f
