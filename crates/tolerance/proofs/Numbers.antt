-- Lists by index, scores by component, f64s that are no NaN, either way round equal, and the tolerances by their bits. Assumes nothing.
use mathlib.Core.Path.{◌≡◌, refl, sym, ap, ap₂, subst, ◌∙◌}
use mathlib.Core.Bool.{Bool, true, false}
use lib.Dec.{T, eqb}
use Prim.Native.Nat.{ℕ, zero, suc, ◌+◌, ◌*◌, ◌<◌}
use native.Mathlib.Nat.{add-zero, zero-add, not-suc-le-zero, le_of_suc-le-suc}
use native.Mathlib.Omega.{arith}
use borrow.Author.Tests.{eqb-true, eqb-false, ne_eqb}
use lib.Ieee.{Float, nan, inf, fin, of_bits, round, lt, eq, ne, level, up, down}
use lib.Ieee.Compare.{differs_from_itself}
use Rattle.floats.specs.Operations.{◌⊘◌, bits, at, tabulate, tabulate_from}
use Rattle.floats.specs.Floats.{max_of}
use Rattle.floats.proofs.Bools.{no}
use Rattle.tolerance.specs.Bounds.{absolute, relative, score_of}
use Rattle.quadrature.specs.declared.Piece.{Piece}

-- the element at place k of a list made by index
tabulate_from_lem : (i n : ℕ) (g : ℕ → Float) (k : ℕ) → k < n → at (tabulate_from i n g) k ≡ g (i + k)
tabulate_from_lem i zero g k l = absurd (not-suc-le-zero l)
tabulate_from_lem i (suc n) g zero l = ap g (sym (add-zero i))
tabulate_from_lem i (suc n) g (suc k) l =
    let e : suc i + k ≡ i + suc k = omega arith in
    tabulate_from_lem (suc i) n g k (le_of_suc-le-suc l) ∙ ap g e

pub at_tabulate : (n : ℕ) (g : ℕ → Float) (k : ℕ) → k < n → at (tabulate n g) k ≡ g k
at_tabulate n g k l = tabulate_from_lem 0 n g k l ∙ ap g (zero-add k)

-- a score, component by component
pub score_first : (b : ℕ → Float) (p : Piece) → bits 0 ≡ score_of 0 b p
unfolding score_of
score_first b p = refl

pub score_next : (k : ℕ) (b : ℕ → Float) (p : Piece) (s r : Float) → s ≡ score_of k b p → r ≡ max_of s (at p.error k ⊘ b k)
    → r ≡ score_of (suc k) b p
unfolding score_of
score_next k b p s r e f = f ∙ ap (λ (x : Float). max_of x (at p.error k ⊘ b k)) e

-- equal bounds give a piece equal scores
pub score_same : (w : ℕ) (b d : ℕ → Float) (p : Piece) → ((k : ℕ) → k < w → b k ≡ d k) → score_of w b p ≡ score_of w d p
unfolding score_of
score_same zero b d p e = refl
score_same (suc w) b d p e = ap₂ (λ (x y : Float). max_of x (at p.error w ⊘ y)) (score_same w b d p (λ k l. e k (omega arith)))
    (e w (omega arith))

pub absolute_bits : bits 0x3c9c_d2b2_97d8_89bc ≡ absolute
unfolding of_bits absolute round
absolute_bits = refl

pub relative_bits : bits 0x3d71_9799_812d_ea11 ≡ relative
unfolding of_bits relative round
relative_bits = refl

pub zero_is_number : ne (bits 0) (bits 0) ≡ false
unfolding of_bits ne
zero_is_number = refl

not_below_nan : (a : Float) → lt a nan ≡ false
unfolding lt
not_below_nan nan = refl
not_below_nan (inf s) = refl
not_below_nan (fin s m e) = refl

-- what is above something is no NaN
pub above_is_number : (a b : Float) → lt a b ≡ true → ne b b ≡ false
above_is_number a b h = look (ne b b) refl
  where
    look : (t : Bool) → ne b b ≡ t → ne b b ≡ false
    look false e = e
    look true e = no (sym h ∙ ap (lt a) (differs_from_itself b (subst T (sym e) tt)) ∙ not_below_nan a)

-- the larger of a number and anything
pub larger_above : (a b : Float) → ne a a ≡ false → lt a b ≡ true → (b ≡ max_of a b) × (ne b b ≡ false)
larger_above a b n h = (rw (n, h), above_is_number a b h)

pub larger_not : (a b : Float) → ne a a ≡ false → lt a b ≡ false → (a ≡ max_of a b) × (ne a a ≡ false)
larger_not a b n h = (rw (n, h), n)

-- `==` either way round
level_same : (s t : Bool) (a : ℕ) → level s a t a ≡ level t a s a
level_same true true a = refl
level_same true false a = refl
level_same false true a = refl
level_same false false a = refl

level_sym : (s : Bool) (a : ℕ) (t : Bool) (b : ℕ) → level s a t b ≡ level t b s a
level_sym s a t b = look (eqb a b) refl
  where
    look : (x : Bool) → eqb a b ≡ x → level s a t b ≡ level t b s a
    look true e = subst (λ (y : ℕ). level s a t y ≡ level t y s a) (eqb-true a b e) (level_same s t a)
    look false e = rw (e, ne_eqb b a (λ q. eqb-false a b e (sym q)))

pub eq_sym : (x y : Float) → eq x y ≡ eq y x
unfolding eq
eq_sym nan nan = refl
eq_sym nan (inf t) = refl
eq_sym nan (fin t n d) = refl
eq_sym (inf s) nan = refl
eq_sym (inf true) (inf true) = refl
eq_sym (inf true) (inf false) = refl
eq_sym (inf false) (inf true) = refl
eq_sym (inf false) (inf false) = refl
eq_sym (inf s) (fin t n d) = refl
eq_sym (fin s m e) nan = refl
eq_sym (fin s m e) (inf t) = refl
eq_sym (fin s m e) (fin t n d) = level_sym s (m * up e * down d) t (n * up d * down e)
