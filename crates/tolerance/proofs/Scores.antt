-- A piece's score by its errors: it is a number, not below an error over its bound, and not above what none of these is above; and
-- quotients by a bound that is above 0 and finite grow with what is divided. Assumes nothing.
use mathlib.Core.Path.{◌≡◌, refl, sym, subst, ◌∙◌}
use mathlib.Core.Bool.{Bool, true, false}
use mathlib.Core.List.{List}
use mathlib.Core.Logic.{⊎_elim}
use Prim.Native.Nat.{ℕ, zero, suc, ◌<◌}
use native.Mathlib.Nat.{not-suc-le-zero, le_of_suc-le-suc, eq-or-lt_of_le}
use native.Mathlib.Omega.{arith}
use lib.Dec.{T}
use lib.IntN.{ℤ}
use lib.Ieee.{Float, nan, inf, fin, binary64, of_bits, div, lt, le, ne, is_nan}
use lib.Ieee.Bits.{is_true}
use lib.Ieee.Scale.{finite}
use lib.Ieee.Positive.{positive, between}
use Rattle.floats.specs.Operations.{◌⊘◌, bits, at, every}
use Rattle.floats.specs.Floats.{max_of}
use Rattle.floats.proofs.Bools.{no, of_true, and_left, and_right}
use Rattle.floats.proofs.Every.{every_holds}
use Rattle.floats.proofs.Units.{for_positive}
use Rattle.floats.proofs.Order.{lt_asym, not_lt_through, le_not_below, le_no_nan, ne_itself, not_below_itself, le_of_not}
use Rattle.rounding.proofs.Signs.{finite_no_nan}
use Rattle.rounding.proofs.Monotone.{div_mono}
use Rattle.quadrature.specs.declared.Piece.{Piece}
use Rattle.tolerance.specs.Bounds.{score_of}
use Rattle.tolerance.specs.Steps.{smallest, largest, keeps_order}
use Rattle.tolerance.proofs.Numbers.{zero_is_number, larger_above, larger_not}

-- either way of a test
pub by_test : {P : Type 0} (b : Bool) → (b ≡ true → P) → (b ≡ false → P) → P
by_test true t f = t refl
by_test false t f = f refl

-- ---- the larger of a number and anything
max_number : (a b : Float) → ne a a ≡ false → ne (max_of a b) (max_of a b) ≡ false
max_number a b n =
    by_test (lt a b) (λ h. let l = larger_above a b n h in subst (λ (x : Float). ne x x ≡ false) l.0 l.1)
    (λ h. let l = larger_not a b n h in subst (λ (x : Float). ne x x ≡ false) l.0 l.1)

-- is above neither of them
max_under : (h a b : Float) → ne a a ≡ false → lt h a ≡ false → lt h b ≡ false → lt h (max_of a b) ≡ false
max_under h a b n p q =
    by_test (lt a b) (λ t. subst (λ (x : Float). lt h x ≡ false) (larger_above a b n t).0 q)
    (λ t. subst (λ (x : Float). lt h x ≡ false) (larger_not a b n t).0 p)

-- and below neither, nor below what the first is not below
max_over_second : (a b : Float) → ne a a ≡ false → lt (max_of a b) b ≡ false
max_over_second a b n =
    by_test (lt a b) (λ t. subst (λ (x : Float). lt x b ≡ false) (larger_above a b n t).0 (not_below_itself b))
    (λ t. subst (λ (x : Float). lt x b ≡ false) (larger_not a b n t).0 t)

max_over_first : (a b x : Float) → ne a a ≡ false → lt a x ≡ false → lt (max_of a b) x ≡ false
max_over_first a b x n h =
    by_test (lt a b)
    (λ t. subst (λ (y : Float). lt y x ≡ false) (larger_above a b n t).0
    (not_lt_through a x b (sym (ne_itself a) ∙ n) h (lt_asym a b t)))
    (λ t. subst (λ (y : Float). lt y x ≡ false) (larger_not a b n t).0 h)

-- ---- scores
pub score_number : (w : ℕ) (b : ℕ → Float) (p : Piece) → ne (score_of w b p) (score_of w b p) ≡ false
unfolding score_of
score_number zero b p = zero_is_number
score_number (suc w) b p = max_number (score_of w b p) (at p.error w ⊘ b w) (score_number w b p)

pub score_no_nan : (w : ℕ) (b : ℕ → Float) (p : Piece) → is_nan (score_of w b p) ≡ false
score_no_nan w b p = sym (ne_itself (score_of w b p)) ∙ score_number w b p

-- a score is not below 0, nor below an error over its bound
pub score_over_zero : (w : ℕ) (b : ℕ → Float) (p : Piece) → lt (score_of w b p) (bits 0) ≡ false
unfolding score_of
score_over_zero zero b p = not_below_itself (bits 0)
score_over_zero (suc w) b p = max_over_first (score_of w b p) (at p.error w ⊘ b w) (bits 0) (score_number w b p) (score_over_zero w b p)

pub score_over : (w : ℕ) (b : ℕ → Float) (p : Piece) (k : ℕ) → k < w → lt (score_of w b p) (at p.error k ⊘ b k) ≡ false
unfolding score_of
score_over zero b p k l = absurd (not-suc-le-zero l)
score_over (suc w) b p k l =
    ⊎_elim (λ (z : k ≡ w). rw z (max_over_second (score_of w b p) (at p.error w ⊘ b w) (score_number w b p)))
    (λ (z : k < w). max_over_first (score_of w b p) (at p.error w ⊘ b w) (at p.error k ⊘ b k) (score_number w b p)
    (score_over w b p k z))
    (eq-or-lt_of_le (le_of_suc-le-suc l))

-- and not above what is not below any of these
pub score_under : (w : ℕ) (b : ℕ → Float) (p : Piece) (h : Float) → lt h (bits 0) ≡ false
    → ((k : ℕ) → k < w → lt h (at p.error k ⊘ b k) ≡ false) → lt h (score_of w b p) ≡ false
unfolding score_of
score_under zero b p h z each = z
score_under (suc w) b p h z each =
    max_under h (score_of w b p) (at p.error w ⊘ b w) (score_number w b p) (score_under w b p h z (λ k l. each k (omega arith)))
    (each w (omega arith))

-- ---- quotients by a bound above 0 and finite
smallest_positive : T (positive smallest)
unfolding of_bits
smallest_positive = tt

largest_positive : T (positive largest)
unfolding of_bits
largest_positive = tt

pub bound_positive : (b : List Float) → keeps_order b ≡ true → (k : ℕ) → k < 7 → T (positive (at b k))
unfolding keeps_order
bound_positive b h k l =
    let low = every_holds 7 _ (and_left (every 7 (λ k. le smallest (at b k))) _ h) k l in
    let high = every_holds 7 _ (and_right (every 7 (λ k. le smallest (at b k))) _ h) k l in
    between smallest (at b k) largest smallest_positive largest_positive (of_true _ low) (of_true _ high)

-- what +infinity is not above, nothing is above
nothing_above : (h x : Float) → lt h (inf false) ≡ false → lt h x ≡ false
unfolding lt
nothing_above nan x e = refl
nothing_above (inf true) x e = no e
nothing_above (inf false) nan e = refl
nothing_above (inf false) (inf t) e = refl
nothing_above (inf false) (fin t n d) e = refl
nothing_above (fin s m d) x e = no e

-- −infinity is above nothing
not_above : (h : Float) → lt h (inf true) ≡ false
unfolding lt
not_above nan = refl
not_above (inf true) = refl
not_above (inf false) = refl
not_above (fin s m e) = refl

inf_over_fin : (s : Bool) (m : ℕ) (e : ℤ) → inf s ⊘ fin false (suc m) e ≡ inf s
unfolding div
inf_over_fin true m e = refl
inf_over_fin false m e = refl

inf_over : (s : Bool) (b : Float) → T (positive b) → inf s ⊘ b ≡ inf s
inf_over s = for_positive (λ (b : Float). inf s ⊘ b ≡ inf s) (inf_over_fin s)

finite_grows : (h x y b : Float) → T (finite x) → T (finite y) → T (positive b) → le x y ≡ true → lt h (y ⊘ b) ≡ false
    → lt h (x ⊘ b) ≡ false
finite_grows h x y b i j p l q =
    let o = finite_no_nan y j in
    let same = is_true _ (div_mono binary64 y y b j j p (of_true _ (le_of_not y y o o (not_below_itself y)))) in
    let grown = is_true _ (div_mono binary64 x y b i j p (of_true _ l)) in
    not_lt_through (y ⊘ b) (x ⊘ b) h (le_no_nan (y ⊘ b) (y ⊘ b) same) (le_not_below (x ⊘ b) (y ⊘ b) grown) q

pub quotient_grows : (h e m b : Float) → T (positive b) → le e m ≡ true → lt h (m ⊘ b) ≡ false → lt h (e ⊘ b) ≡ false
unfolding le
quotient_grows h nan m b p l q = no (sym l)
quotient_grows h (inf true) m b p l q = rw (inf_over true b p) (not_above h)
quotient_grows h (inf false) nan b p l q = no (sym l)
quotient_grows h (inf false) (inf true) b p l q = no (sym l)
quotient_grows h (inf false) (inf false) b p l q = q
quotient_grows h (inf false) (fin t n d) b p l q = no (sym l)
quotient_grows h (fin s m e) nan b p l q = no (sym l)
quotient_grows h (fin s m e) (inf true) b p l q = no (sym l)
quotient_grows h (fin s m e) (inf false) b p l q = nothing_above h (fin s m e ⊘ b) (rw (inf_over false b p) at q)
quotient_grows h (fin s m e) (fin t n d) b p l q = finite_grows h (fin s m e) (fin t n d) b tt tt p l q
