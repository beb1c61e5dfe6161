-- The fifteen samples of a piece: tests at all of them, their heights as terms of the piece's ends, and how far they are from these.
-- Assumes nothing.
use mathlib.Core.Path.{◌≡◌, refl, sym, subst}
use mathlib.Core.Bool.{Bool, true, false, ◌&&◌}
use mathlib.Core.List.{List, [], ◌∷◌}
use mathlib.Core.Logic.{◌⊎◌, inl, inr}
use Prim.Native.Nat.{ℕ, zero, suc, ◌-◌, ◌*◌, ◌≤◌, ◌<◌}
use native.Mathlib.Nat.{le_trans, mul-le-mul_left, eq-or-lt_of_le, le_of_suc-le-suc, not-suc-le-zero}
use native.Mathlib.Omega.{arith}
use lib.Dec.{T, leb, leb→le}
use lib.Ieee.{Float, nan, inf, fin, of_bits, round}
use lib.Ieee.Fits.{and_l, and_r}
use Rattle.floats.specs.Operations.{at}
use Rattle.floats.specs.Constants.{half}
use Rattle.gauss_kronrod.specs.Tables.{nodes}
use Rattle.quadrature.specs.Rule.{half_sum, half_width, minus_side, plus_side}
use Rattle.rounding_error.proofs.Numbers.{Number, number, ◌less◌, ◌times◌, IsNumber}
use Rattle.rounding_error.proofs.Polynomials.{Expression, given, ratio, ◌add◌, ◌take◌, ◌mul◌, ◌equals◌, evaluate, among, equal_by}
use Rattle.rounding_error.proofs.Polynomials.{evaluated_is, AllNumbers}
use Rattle.error_terms.proofs.Laws.{Reaches}
use Rattle.error_terms.proofs.Terms.{Given, Term, const, tight, ◌add◌ as ◌add_t◌, ◌take◌ as ◌take_t◌, ◌mul◌ as ◌mul_t◌, value, constant}
use Rattle.error_terms.proofs.Floors.{NotBelow, factor_reaches, equal_reaches}

-- ---- at its centre, and to both sides of it at each node
pub data Sample : Type 0 where
  centre : Sample
  minus_side_lem : ℕ → Sample
  plus_side_lem : ℕ → Sample

abbrev pub height_of : Sample → Float → Float → Float
height_of centre c r = c
height_of (minus_side_lem i) c r = minus_side c r i
height_of (plus_side_lem i) c r = plus_side c r i

abbrev pub IsSample : Sample → Type 0
IsSample centre = Unit {0}
IsSample (minus_side_lem i) = i < 7
IsSample (plus_side_lem i) = i < 7

-- a test at all samples
abbrev pub at_samples : (Sample → Bool) → ℕ → Bool
at_samples test zero = test centre
at_samples test (suc n) = (test (minus_side_lem n) && test (plus_side_lem n)) && at_samples test n

at_nodes : (test : Sample → Bool) (n : ℕ) → T (at_samples test n) → (i : ℕ) → i < n
    → T (test (minus_side_lem i)) × T (test (plus_side_lem i))
at_nodes test zero t i l = absurd (not-suc-le-zero l)
at_nodes test (suc n) t i l =
    go (λ k. at_nodes test n (and_r (test (minus_side_lem n) && test (plus_side_lem n)) (at_samples test n) t) i k)
    (eq-or-lt_of_le (le_of_suc-le-suc l))
  where
    both : T (test (minus_side_lem n) && test (plus_side_lem n))
    both = and_l (test (minus_side_lem n) && test (plus_side_lem n)) (at_samples test n) t

    go : (i < n → T (test (minus_side_lem i)) × T (test (plus_side_lem i))) → (i ≡ n) ⊎ (i < n)
        → T (test (minus_side_lem i)) × T (test (plus_side_lem i))
    go rest (inl e) = subst (λ (i : ℕ). T (test (minus_side_lem i)) × T (test (plus_side_lem i))) (sym e)
        (and_l (test (minus_side_lem n)) (test (plus_side_lem n)) both, and_r (test (minus_side_lem n)) (test (plus_side_lem n)) both)
    go rest (inr k) = rest k

at_centre_lem : (test : Sample → Bool) (n : ℕ) → T (at_samples test n) → T (test centre)
at_centre_lem test zero t = t
at_centre_lem test (suc n) t = at_centre_lem test n (and_r (test (minus_side_lem n) && test (plus_side_lem n)) (at_samples test n) t)

pub at_samples_lem : (test : Sample → Bool) → T (at_samples test 7) → (s : Sample) → IsSample s → T (test s)
at_samples_lem test t centre i = at_centre_lem test 7 t
at_samples_lem test t (minus_side_lem n) i = (at_nodes test 7 t n i).0
at_samples_lem test t (plus_side_lem n) i = (at_nodes test 7 t n i).1

-- how many reaches it is above the centre
abbrev pub node_e : Sample → Expression
node_e centre = ratio 0 0
node_e (minus_side_lem i) = ratio 0 0 take constant (at nodes i)
node_e (plus_side_lem i) = constant (at nodes i)

abbrev pub node_of : Sample → Number
node_of s = evaluate (among []) (node_e s)

constant_same : (x y : ℕ → Number) (f : Float) → evaluate x (constant f) ≡ evaluate y (constant f)
constant_same x y nan = refl
constant_same x y (inf s) = refl
constant_same x y (fin true m e) = refl
constant_same x y (fin false m e) = refl

-- the exact height between h and k
abbrev pub between_e : Expression → Expression → Expression → Expression
between_e h k f = ratio 1 1 mul (h add k) add f mul (ratio 1 1 mul (k take h))

abbrev pub between : Number → Number → Number → Number
between h k f = evaluate (among (h ∷ k ∷ f ∷ [])) (between_e (given 0) (given 1) (given 2))

pub node_same : (x y : ℕ → Number) (s : Sample) → evaluate x (node_e s) ≡ evaluate y (node_e s)
node_same x y centre = refl
node_same x y (minus_side_lem i) = rw (constant_same x y (at nodes i))
node_same x y (plus_side_lem i) = constant_same x y (at nodes i)

-- ---- its height as a term of the ends
abbrev pub centre_t : Term → Term → Term
centre_t l h = tight (const half mul_t (l add_t h))

abbrev pub reach_t : Term → Term → Term
reach_t l h = tight (const half mul_t (h take_t l))

abbrev pub height_t : Term → Term → Sample → Term
height_t l h centre = centre_t l h
height_t l h (minus_side_lem i) = tight (centre_t l h take_t (reach_t l h mul_t const (at nodes i)))
height_t l h (plus_side_lem i) = tight (centre_t l h add_t (reach_t l h mul_t const (at nodes i)))

pub height_value : (G : List Given) (l h : Term) (s : Sample)
    → value G (height_t l h s) ≡ height_of s (half_sum (value G l) (value G h)) (half_width (value G l) (value G h))
height_value G l h centre = refl
height_value G l h (minus_side_lem i) = refl
height_value G l h (plus_side_lem i) = refl

-- ---- what is linear in the height is, at a sample, so much of what it is at the ends: at least a 256th of each
abbrev pub lower_share : Sample → Number
lower_share s = evaluate (among []) (ratio 1 1 mul (ratio 1 0 take node_e s))

abbrev pub upper_share : Sample → Number
upper_share s = evaluate (among []) (ratio 1 1 mul (ratio 1 0 add node_e s))

abbrev share_test : Number → Bool
share_test (number a b D) = leb b a && leb D ((a - b) * 256)

shares_tested : T (at_samples (λ s. share_test (lower_share s) && share_test (upper_share s)) 7)
unfolding round of_bits nodes
shares_tested = tt

shares : (s : Sample) → IsSample s → T (share_test (lower_share s)) × T (share_test (upper_share s))
shares s i =
    let t = at_samples_lem (λ s. share_test (lower_share s) && share_test (upper_share s)) shares_tested s i in
    (and_l (share_test (lower_share s)) (share_test (upper_share s)) t, and_r (share_test (lower_share s)) (share_test (upper_share s)) t)

share_not_below : (w : Number) → T (share_test w) → NotBelow w
share_not_below (number a b D) t = leb→le b a (and_l (leb b a) (leb D ((a - b) * 256)) t)

pub shares_not_below : (s : Sample) → IsSample s → NotBelow (lower_share s) × NotBelow (upper_share s)
shares_not_below s i = (share_not_below (lower_share s) (shares s i).0, share_not_below (upper_share s) (shares s i).1)

share_reaches : (w δ : Number) (K j n c : ℕ) → T (share_test w) → K * 256 ≤ j → Reaches j n c δ → Reaches K n c (w times δ)
share_reaches (number a b D) δ K j n c t l h =
    factor_reaches a b D j K n c δ (leb→le b a (and_l (leb b a) (leb D ((a - b) * 256)) t))
    (le_trans (mul-le-mul_left K (leb→le D ((a - b) * 256) (and_r (leb b a) (leb D ((a - b) * 256)) t)))
    (go (a - b) (mul-le-mul_left (a - b) l))) h
  where
    go : (x : ℕ) → x * (K * 256) ≤ x * j → K * (x * 256) ≤ x * j
    go x u = omega (arith, u)

pub node_is : (s : Sample) → IsNumber (node_of s)
node_is s = evaluated_is [] tt (node_e s)

module _ (h k : Number) (h_is : IsNumber h) (k_is : IsNumber k) (s : Sample) where
  with_node : AllNumbers (h ∷ k ∷ node_of s ∷ [])
  with_node = (h_is, (k_is, (node_is s, tt)))

  pub between_is : IsNumber (between h k (node_of s))
  between_is = evaluated_is (h ∷ k ∷ node_of s ∷ []) with_node (between_e (given 0) (given 1) (given 2))

  pub above_is : IsNumber (upper_share s times (k less h))
  above_is = evaluated_is (h ∷ k ∷ node_of s ∷ []) with_node (ratio 1 1 mul (ratio 1 0 add given 2) mul (given 1 take given 0))

  pub below_is : IsNumber (lower_share s times (k less h))
  below_is = evaluated_is (h ∷ k ∷ node_of s ∷ []) with_node (ratio 1 1 mul (ratio 1 0 take given 2) mul (given 1 take given 0))

  pub above_equal : upper_share s times (k less h) equals between h k (node_of s) less h
  above_equal = equal_by (h ∷ k ∷ node_of s ∷ []) with_node (ratio 1 1 mul (ratio 1 0 add given 2) mul (given 1 take given 0))
      (between_e (given 0) (given 1) (given 2) take given 0) tt

  pub below_equal : lower_share s times (k less h) equals k less between h k (node_of s)
  below_equal = equal_by (h ∷ k ∷ node_of s ∷ []) with_node (ratio 1 1 mul (ratio 1 0 take given 2) mul (given 1 take given 0))
      (given 1 take between_e (given 0) (given 1) (given 2)) tt

  -- a height of j leaves a 256th of it on both sides of a sample
  module _ (i : IsSample s) (K j n c : ℕ) (l : K * 256 ≤ j) (wide : Reaches j n c (k less h)) where
    pub above_reaches : Reaches K n c (between h k (node_of s) less h)
    above_reaches = equal_reaches K n c above_is above_equal (share_reaches (upper_share s) (k less h) K j n c (shares s i).1 l wide)

    pub below_reaches : Reaches K n c (k less between h k (node_of s))
    below_reaches = equal_reaches K n c below_is below_equal (share_reaches (lower_share s) (k less h) K j n c (shares s i).0 l wide)
