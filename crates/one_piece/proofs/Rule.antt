-- The rule over the whole strip of a trapezoid, as a term in 15 shared samples; and one piece meets the tolerance where each component
-- does. Assumes nothing.
use mathlib.Core.Path.{◌≡◌, refl, sym, ap, ◌∙◌, subst}
use mathlib.Core.Bool.{Bool, true, false, ◌&&◌, cond}
use mathlib.Core.List.{List, [], ◌∷◌}
use mathlib.Core.Logic.{◌⊎◌, inl, inr}
use Prim.Native.Nat.{ℕ, zero, suc, ◌-◌, ◌*◌, ◌<◌}
use native.Mathlib.Nat.{le_refl, eq-or-lt_of_le, le_of_suc-le-suc, not-suc-le-zero}
use native.Mathlib.Omega.{arith}
use lib.Dec.{T}
use lib.Ieee.{Float, nan, inf, fin, lt, eq, le, ne, is_nan, round}
use lib.Ieee.Bits.{is_true}
use lib.Ieee.Positive.{positive}
use lib.Ieee.Fits.{and_l, and_r, and_i}
use Rattle.floats.specs.Operations.{◌⊕◌, ◌⊖◌, ◌⊗◌, ◌⊘◌, bits, at, tabulate, every}
use Rattle.floats.specs.Constants.{half}
use Rattle.floats.specs.Floats.{abs_of, max_of}
use Rattle.floats.proofs.Bools.{of_true}
use Rattle.floats.proofs.Order.{le_of_not, le_through}
use Rattle.gauss_kronrod.specs.Tables.{nodes}
use Rattle.quadrature.specs.Rule.{half_sum, half_width, minus_side, plus_side, weighted_to, kronrod_weight, gauss_weight, sum_of, piece_of}
use Rattle.chords.specs.Chords.{in_span}
use Rattle.tolerance.specs.Bounds.{absolute, relative, bound_for, total_of, error_of, converged}
use Rattle.tolerance.proofs.Numbers.{at_tabulate}
use Rattle.rounding_error.proofs.Numbers.{Size}
use Rattle.error_terms.proofs.Monomials.{AllRanges}
use Rattle.error_terms.proofs.Terms.{Given, Term, var, const, nought, tight, ◌add◌, ◌take◌, ◌mul◌, ◌over◌, value, AllKnown}
use Rattle.error_terms.proofs.Judged.{Judged, judge}
use Rattle.error_terms.proofs.Shared.{Shared, local, whole, ◌⊞◌, ◌⊟◌, ◌⊠◌, tightly, expand, judge_in, shared_is, judge_all, bind_all}
use Rattle.error_terms.proofs.Shared.{judge_all_lem}
use Rattle.error_terms.proofs.Floors.{Signed}
use Rattle.error_terms.proofs.Orders.{ordered, ordered_le}
use Rattle.error_terms.proofs.Shares.{accepts, accepted}

-- ---- the tolerance, by shared parts
abbrev pub accepts_in : List Given → Shared → Shared → List Judged → Bool
accepts_in G e t M = accepts relative G (judge_in G M e) (judge_in G M t)

relative_positive : T (positive relative)
unfolding relative round
relative_positive = tt

pub accepted_in : (B : List Size) → AllRanges 32 B → (G : List Given) → AllKnown B G → Signed G → (l : List Shared) (e t : Shared)
    → T (accepts_in G e t (judge_all G [] l))
    → T (le (bits 0 ⊕ abs_of (value G (expand [] (bind_all l e)))) (relative ⊗ abs_of (value G (expand [] (bind_all l t)))))
accepted_in B r G h s l e t a =
    accepted relative relative_positive B r G h s (expand [] (bind_all l e)) (expand [] (bind_all l t))
    (subst (λ (j : Judged). T (accepts relative G j (judge G (expand [] (bind_all l t)))))
    (sym (judge_all_lem G [] l e) ∙ shared_is G [] (bind_all l e))
    (subst (λ (j : Judged). T (accepts relative G (judge_in G (judge_all G [] l) e) j))
    (sym (judge_all_lem G [] l t) ∙ shared_is G [] (bind_all l t)) a))

-- ---- a component of one piece, by the program's own definitions
le_second : (x y : Float) → T (le x y) → is_nan y ≡ false
unfolding le lt eq is_nan
le_second nan nan h = absurd h
le_second (inf s) nan h = absurd h
le_second (fin s m e) nan h = absurd h
le_second x (inf s) h = refl
le_second x (fin s m e) h = refl

absolute_is : is_nan absolute ≡ false
unfolding absolute round is_nan
absolute_is = refl

le_larger : (x a b : Float) → is_nan a ≡ false → is_nan b ≡ false → T (le x b) → T (le x (max_of a b))
le_larger x a b na nb h = go (ne a a) (lt a b) refl
  where
    go : (n l : Bool) → lt a b ≡ l → T (le x (cond n b (cond l b a)))
    go true l e = h
    go false true e = h
    go false false e = of_true _ (le_through x b a na (is_true _ h) (le_of_not b a nb na e))

pub within_bound : (e t : Float) → T (le e (relative ⊗ abs_of t)) → T (le e (bound_for t))
within_bound e t h = le_larger e absolute (relative ⊗ abs_of t) absolute_is (le_second e (relative ⊗ abs_of t) h) h

-- ---- the rule over a whole strip, of an integrand in 15 samples: the variables root, tip, sweep, span, scale stand first
abbrev pub floor_t : Term
floor_t = nought (0 ∷ 1 ∷ []) [] over 4

abbrev pub top_t : Term
top_t = var 3 over 4

abbrev pub centre_t : Term
centre_t = tight (const half mul (floor_t add top_t))

abbrev pub reach_t : Term
reach_t = tight (const half mul (top_t take floor_t))

abbrev pub minus_t : ℕ → Term
minus_t i = tight (centre_t take reach_t mul const (at nodes i))

abbrev pub plus_t : ℕ → Term
plus_t i = tight (centre_t add reach_t mul const (at nodes i))

-- the heights, where so many samples stand above reach and centre
abbrev minus_s : ℕ → ℕ → Shared
minus_s n i = tightly (local (suc n) ⊟ local n ⊠ whole (const (at nodes i)))

abbrev plus_s : ℕ → ℕ → Shared
plus_s n i = tightly (local (suc n) ⊞ local n ⊠ whole (const (at nodes i)))

abbrev samples_from : (Shared → Shared) → ℕ → ℕ → ℕ → List Shared
samples_from f n i zero = []
samples_from f n i (suc k) = f (minus_s n i) ∷ f (plus_s (suc n) i) ∷ samples_from f (suc (suc n)) (suc i) k

abbrev pub rule_parts : (Shared → Shared) → List Shared
rule_parts f = whole centre_t ∷ whole reach_t ∷ f (local 1) ∷ samples_from f 1 0 7

-- the sums of 15 samples, the last of which is local 0
abbrev pub weighted_s : List ℕ → List ℕ → (ℕ → Float) → ℕ → Shared
weighted_s p q w zero = whole (nought p q) ⊞ whole (const (w 7)) ⊠ local 14
weighted_s p q w (suc i) = tightly (tightly (weighted_s p q w i ⊞ whole (const (w i)) ⊠ local (13 - 2 * i)) ⊞ whole (const (w i)) ⊠ local
    (12 - 2 * i))

abbrev pub error_s : List ℕ → List ℕ → Shared
error_s p q = local 15 ⊠ tightly (weighted_s p q kronrod_weight 7 ⊟ weighted_s p q gauss_weight 7)

-- p' over q' is the unit of the sample times span over scale
abbrev pub total_s : List ℕ → List ℕ → List ℕ → List ℕ → Shared
total_s p q p' q' = whole (nought p' q') ⊞ local 15 ⊠ weighted_s p q kronrod_weight 7

-- ---- sums of integrands that are equal at the samples' heights
pub same_sum : (n : ℕ) (weight : ℕ → Float) (y z : Float → Float) (centre reach : Float) → y centre ≡ z centre
    → ((i : ℕ) → i < n → y (minus_side centre reach i) ≡ z (minus_side centre reach i))
    → ((i : ℕ) → i < n → y (plus_side centre reach i) ≡ z (plus_side centre reach i))
    → weighted_to n weight y centre reach ≡ weighted_to n weight z centre reach
unfolding weighted_to
same_sum zero weight y z centre reach c m p = rw c
same_sum (suc n) weight y z centre reach c m p =
    rw (
      same_sum n weight y z centre reach c (λ i l. m i (omega arith)) (λ i l. p i (omega arith)),
      m n (le_refl (suc n)),
      p n
          (le_refl (suc n)),
    )

-- a test at all heights of the first n nodes, and at the centre
abbrev pub at_heights : (Term → Bool) → ℕ → Bool
at_heights test zero = test centre_t
at_heights test (suc n) = (test (minus_t n) && test (plus_t n)) && at_heights test n

pub at_heights_lem : (test : Term → Bool) (n : ℕ) → T (at_heights test n)
    → T (test centre_t) × ((i : ℕ) → i < n → T (test (minus_t i)) × T (test (plus_t i)))
at_heights_lem test zero t = (t, λ i l. absurd (not-suc-le-zero l))
at_heights_lem test (suc n) t =
    let a = test (minus_t n) && test (plus_t n) in
    let rest = at_heights_lem test n (and_r a (at_heights test n) t) in
    (rest.0, λ i l. go i (eq-or-lt_of_le (le_of_suc-le-suc l)) rest.1)
  where
    go : (i : ℕ) → (i ≡ n) ⊎ (i < n) → ((i : ℕ) → i < n → T (test (minus_t i)) × T (test (plus_t i)))
        → T (test (minus_t i)) × T (test (plus_t i))
    go i (inl e) k =
        let a = and_l (test (minus_t n) && test (plus_t n)) (at_heights test n) t in
        subst (λ (i : ℕ). T (test (minus_t i)) × T (test (plus_t i))) (sym e)
        (and_l (test (minus_t n)) (test (plus_t n)) a, and_r (test (minus_t n)) (test (plus_t n)) a)
    go i (inr l) k = k i l

-- a component of one piece of a strip meets its bound
abbrev pub Fits : Float → Float → (Float → List Float) → ℕ → Type 0
Fits low high y k =
    T (le (bits 0 ⊕ abs_of (half_width low high ⊗ (sum_of kronrod_weight y low high k ⊖ sum_of gauss_weight y low high k)))
    (bound_for (bits 0 ⊕ half_width low high ⊗ sum_of kronrod_weight y low high k)))

every_true : (n : ℕ) (p : ℕ → Bool) → ((k : ℕ) → k < n → p k ≡ true) → every n p ≡ true
unfolding every
every_true zero p h = refl
every_true (suc n) p h = rw (every_true n p (λ k l. h k (omega arith)), h n (le_refl (suc n)))

-- where each component fits, one piece is accepted
pub all_converged : (w : ℕ) (f : Float → List Float) (low high : Float) → ((k : ℕ) → k < w → Fits low high f k)
    → converged w (piece_of w f low high ∷ []) ≡ true
unfolding converged piece_of error_of total_of
all_converged w f low high h =
    every_true w (λ k. le (bits 0 ⊕ at (tabulate w errors) k) (bound_for (bits 0 ⊕ at (tabulate w values) k)))
    (λ k l. rw (at_tabulate w errors k l, at_tabulate w values k l) (is_true _ (h k l)))
  where
    values : ℕ → Float
    values k = half_width low high ⊗ sum_of kronrod_weight f low high k

    errors : ℕ → Float
    errors k = abs_of (half_width low high ⊗ (sum_of kronrod_weight f low high k ⊖ sum_of gauss_weight f low high k))

abbrev metres_t : Term → Term
metres_t h = tight (h mul var 4)

-- whether a height is in the span
abbrev pub inside_test : List Given → Term → Bool
inside_test G h = ordered G (judge G (nought (0 ∷ 1 ∷ []) [])) (judge G (metres_t h)) && ordered G (judge G (metres_t h)) (judge G (var 3))

module _ (B : List Size) (r : AllRanges 32 B) (G : List Given) (all : AllKnown B G) (signed : Signed G) where
  abbrev span : Float
  span = value G (var 3)

  abbrev scale : Float
  scale = value G (var 4)

  abbrev low : Float
  low = bits 0 ⊘ scale

  abbrev high : Float
  high = span ⊘ scale

  pub inside : (h : Term) → T (inside_test G h) → T (in_span span (value G h ⊗ scale))
  inside h t =
      let a = ordered G (judge G (nought (0 ∷ 1 ∷ []) [])) (judge G (metres_t h)) in
      let b = ordered G (judge G (metres_t h)) (judge G (var 3)) in
      and_i (le (bits 0) (value G h ⊗ scale)) (le (value G h ⊗ scale) span)
      (ordered_le B r G all signed (nought (0 ∷ 1 ∷ []) []) (metres_t h) (and_l a b t))
      (ordered_le B r G all signed (metres_t h) (var 3) (and_r a b t))

  -- of integrands that are equal where a test holds, at all heights
  module _ (f y : Float → List Float) (test : Term → Bool) (same : (h : Term) → T (test h) → f (value G h) ≡ y (value G h))
      (t : T (at_heights test 7)) where
    pub same_sums : (w : ℕ → Float) (k : ℕ) → sum_of w f low high k ≡ sum_of w y low high k
    same_sums w k =
        let a = at_heights_lem test 7 t in
        same_sum 7 w (λ h. at (f h) k) (λ h. at (y h) k) (half_sum low high) (half_width low high) (at_same centre_t a.0)
        (λ i l. at_same (minus_t i) (a.1 i l).0) (λ i l. at_same (plus_t i) (a.1 i l).1)
      where
        at_same : (h : Term) → T (test h) → at (f (value G h)) k ≡ at (y (value G h)) k
        at_same h e = ap (λ (x : List Float). at x k) (same h e)

    pub fits_same : (k : ℕ) → Fits low high y k → Fits low high f k
    fits_same k h = rw (same_sums kronrod_weight k, same_sums gauss_weight k) h
