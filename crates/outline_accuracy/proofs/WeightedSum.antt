-- The weighted sum of fifteen samples, each near a number that is linear in the sample's place: it is near twice the one in the middle.
-- Assumes nothing.
use native.Mathlib.Nat.{le_refl, mul-pos}
use Prim.Native.Nat.{zero, suc, ℕ, ◌+◌, ◌*◌, ◌^◌, ◌≤◌, ◌<◌}
use mathlib.Core.Path.{◌≡◌, refl, subst}
use mathlib.Core.List.{List, [], ◌∷◌}
use native.Mathlib.Omega.{arith}
use lib.Dec.{T}
use lib.Pow.{pow_pos}
use lib.Ieee.{Float, of_bits, round}
use Rattle.gauss_kronrod.specs.Tables.{nodes, kronrod_weights}
use Rattle.quadrature.specs.Rule.{weighted_to, kronrod_weight}
use Rattle.rounding_error.proofs.Numbers.{Number, number, Size, ◌per◌, ◌of◌, ◌plus◌, ◌times◌, ◌by◌, ◌roundoffs◌, IsNumber, Within, Under}
use Rattle.rounding_error.proofs.Numbers.{Near, value_of}
use Rattle.rounding_error.proofs.Distances.{sorted, within_upto, within_times, within_trans}
use Rattle.rounding_error.proofs.Counts as Counts
use Rattle.rounding_error.proofs.Operations.{near_same}
use Rattle.rounding_error.proofs.Polynomials.{Expression, given, ratio, ◌add◌, ◌mul◌, ◌equals◌, evaluate, equal_by, evaluated_is}
use Rattle.rounding_error.proofs.Polynomials.{evaluate_is}
use Rattle.error_terms.proofs.Monomials.{top, bottom, mono, AllRanges}
use Rattle.error_terms.proofs.Terms.{Shape, shape, Given, entry, Term, var, const, nought, tight, ◌add◌ as ◌add_t◌, ◌mul◌ as ◌mul_t◌, value}
use Rattle.error_terms.proofs.Terms.{Known, AllKnown, unit_by, constant, numbers_of}
use Rattle.error_terms.proofs.Sound.{unit_real, numbers_are}
use Rattle.error_terms.proofs.Judged.{near_within, nearer, judge}
use Rattle.outline_accuracy.proofs.Lines.{equal_under}
use Rattle.accuracy.proofs.Samples.{node_of, node_e, height_of, IsSample, plus_side_lem, minus_side_lem, centre, Sample}

-- the variables are the samples in their order
abbrev sum_t : List ℕ → List ℕ → ℕ → Term
sum_t p q zero = nought p q add_t (const (kronrod_weight 7) mul_t var 0)
sum_t p q (suc i) =
    tight (tight (sum_t p q i add_t (const (kronrod_weight i) mul_t var (1 + 2 * i))) add_t
    (const (kronrod_weight i) mul_t var (2 + 2 * i)))

-- the same exactly, over what stands for each sample
abbrev sum_e : (Sample → Expression) → ℕ → Expression
sum_e x zero = constant (kronrod_weight 7) mul x centre
sum_e x (suc i) = sum_e x i add constant (kronrod_weight i) mul x (minus_side_lem i) add constant (kronrod_weight i) mul x (plus_side_lem i)

abbrev place_e : Sample → Expression
place_e centre = given 0
place_e (minus_side_lem i) = given (2 * (1 + 2 * i))
place_e (plus_side_lem i) = given (2 * (2 + 2 * i))

abbrev linear_e : Sample → Expression
linear_e s = given 0 add node_e s mul given 1

-- the widths of an outline's strip: longest x times span over strip height and scale
abbrev pub above : List ℕ
above = 1 ∷ 1 ∷ []

abbrev pub below : List ℕ
below = 0 ∷ 0 ∷ 1 ∷ 1 ∷ []

abbrev pub sample_shape : Shape
sample_shape = shape (104 * 2 ^ 30) (2 ^ 31 + 1024) above below

weights_two : Within (1 per 2 ^ 55) (number 72057594037927937 0 (2 ^ 55)) (number 2 0 1)
weights_two = record { below = omega arith; above = omega arith }

by_weights : (N C : ℕ) → 0 < C → (x : Float) (M : Number) → IsNumber M → Under ((2 ^ 31 + 1024) of (N per C)) M
    → Near x (M times number 72057594037927937 0 (2 ^ 55)) ((250 * 2 ^ 30) roundoffs (N per C))
    → Near x (M times number 2 0 1) ((251 * 2 ^ 30) roundoffs (N per C))
by_weights N C CC x M I u n =
    let w = number 72057594037927937 0 (2 ^ 55) in
    record {
      finite = n.finite;
      within =
          Counts.within_roundoffs (250 * 2 ^ 30) (2 ^ 30) (N per C) (value_of x) (M times number 2 0 1) CC
          (within_trans ((250 * 2 ^ 30) roundoffs (N per C)) ((2 ^ 30) roundoffs (N per C)) (value_of x) (M times w) (M times number 2 0 1)
          (Counts.times_is M w I (pow_pos 55)) n.within
          (within_upto (((2 ^ 31 + 1024) of (N per C)) by (1 per 2 ^ 55)) ((2 ^ 30) roundoffs (N per C)) (M times w) (M times number 2 0 1)
          (mul-pos CC (pow_pos 55)) fits (within_times ((2 ^ 31 + 1024) of (N per C)) (1 per 2 ^ 55) M w (number 2 0 1) u weights_two)));
    }
  where
    fits : (2 ^ 31 + 1024) * N * 1 * (C * 2 ^ 53) ≤ 2 ^ 30 * N * (C * 2 ^ 55)
    fits = simp sorted (omega arith)

module _ (B : List Size) (r : AllRanges 32 B) (y : Float → Float) (c reach : Float) (M D : Number) (M_is : IsNumber M) (D_is : IsNumber D)
    (known : (s : Sample) → IsSample s → Known B (y (height_of s c reach)) (M plus node_of s times D) sample_shape) where
  abbrev entry_of : Sample → Given
  entry_of s = entry (y (height_of s c reach)) (M plus node_of s times D) sample_shape 0

  abbrev nodes_from : ℕ → ℕ → List Given
  nodes_from i zero = []
  nodes_from i (suc k) = entry_of (minus_side_lem i) ∷ entry_of (plus_side_lem i) ∷ nodes_from (suc i) k

  abbrev entries : List Given
  entries = entry_of centre ∷ nodes_from 0 7

  nodes_known : (i k : ℕ) → i + k ≤ 7 → AllKnown B (nodes_from i k)
  nodes_known i zero l = tt
  nodes_known i (suc k) l =
      ((known (minus_side_lem i) (here l), tt), ((known (plus_side_lem i) (here l), tt), nodes_known (suc i) k (next l)))
    where
      here : i + suc k ≤ 7 → i < 7
      here h = omega arith

      next : i + suc k ≤ 7 → suc i + k ≤ 7
      next h = omega arith

  all : AllKnown B entries
  all = ((known centre tt, tt), nodes_known 0 7 (le_refl 7))

  sum_is : value entries (sum_t above below 7) ≡ weighted_to 7 kronrod_weight y c reach
  unfolding weighted_to
  sum_is = refl

  sum_test_lem : T (nearer entries (sum_e place_e 7) (250 * 2 ^ 30) above below (judge entries (sum_t above below 7)))
  unfolding round of_bits kronrod_weights
  sum_test_lem = tt

  sum_near : Near (weighted_to 7 kronrod_weight y c reach) (evaluate (numbers_of entries) (sum_e place_e 7))
      ((250 * 2 ^ 30) roundoffs unit_by B above below)
  sum_near =
      subst (λ (x : Float). Near x (evaluate (numbers_of entries) (sum_e place_e 7)) ((250 * 2 ^ 30) roundoffs unit_by B above below))
      sum_is
      (near_within B r entries all (sum_t above below 7) (sum_e place_e 7) (250 * 2 ^ 30) above below sum_test_lem)

  -- the weights add up to 2 + 2^-55, and what is to one side of the middle cancels what is to the other
  sum_exact : evaluate (numbers_of entries) (sum_e place_e 7) equals M times number 72057594037927937 0 (2 ^ 55)
  unfolding round of_bits nodes kronrod_weights
  sum_exact = equal_by (M ∷ D ∷ []) (M_is, (D_is, tt)) (sum_e linear_e 7) (given 0 mul ratio 72057594037927937 36028797018963967) tt

  exact_is : IsNumber (evaluate (numbers_of entries) (sum_e place_e 7))
  exact_is = evaluate_is (numbers_of entries) (λ i. numbers_are B r entries all i) (sum_e place_e 7)

  middle_size : Under ((2 ^ 31 + 1024) of unit_by B above below) M
  middle_size =
      equal_under ((2 ^ 31 + 1024) of unit_by B above below) (evaluated_is (M ∷ D ∷ []) (M_is, (D_is, tt))
      (given 0 add ratio 0 0 mul given 1))
      (equal_by (M ∷ D ∷ []) (M_is, (D_is, tt)) (given 0 add ratio 0 0 mul given 1) (given 0) tt) (known centre tt).size

  -- at most 251 unit roundoffs of the samples' unit
  pub twice_near : Near (weighted_to 7 kronrod_weight y c reach) (M times number 2 0 1) ((251 * 2 ^ 30) roundoffs unit_by B above below)
  twice_near =
      by_weights (mono top B above * mono bottom B below) (mono bottom B above * mono top B below * 2 ^ 30) (unit_real B r above below)
      (weighted_to 7 kronrod_weight y c reach) M M_is middle_size
      (near_same (weighted_to 7 kronrod_weight y c reach) (evaluate (numbers_of entries) (sum_e place_e 7))
      (M times number 72057594037927937 0 (2 ^ 55))
      ((250 * 2 ^ 30) roundoffs unit_by B above below) exact_is sum_near sum_exact.same)
