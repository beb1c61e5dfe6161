-- The worst piece looked for from the last place down: a piece none of whose errors is above the largest seen has no higher score than
-- the highest. Assumes nothing.
use mathlib.Core.Path.{◌≡◌, refl, sym, ap, subst, ◌∙◌}
use mathlib.Core.Bool.{Bool, true, false, cond, ◌&&◌, ◌||◌}
use mathlib.Core.List.{List}
use Prim.Native.Nat.{ℕ, zero, suc, ◌<◌}
use lib.Ieee.{Float, lt, le, ne, is_nan}
use Rattle.floats.specs.Operations.{◌⊘◌, at, every, tabulate}
use Rattle.floats.proofs.Bools.{no, and_left, and_right}
use Rattle.floats.proofs.Every.{every_holds}
use Rattle.floats.proofs.Order.{not_lt_through, le_not_below, ne_itself, not_below_itself, le_false, le_of_not, le_through}
use Rattle.quadrature.specs.declared.Piece.{Piece}
use Rattle.tolerance.specs.Bounds.{score_of, later_if, last_highest}
use Rattle.tolerance.specs.Steps.{keeps_order, larger_error, seen_with}
use Rattle.tolerance.specs.declared.Extremes.{Extremes}
use Rattle.tolerance.proofs.Numbers.{at_tabulate}
use Rattle.tolerance.proofs.Scores.{by_test, score_number, score_no_nan, score_over_zero, score_over, score_under, bound_positive}
use Rattle.tolerance.proofs.Scores.{quotient_grows}

-- ---- places: of numbers, the last highest of all is that of the places before i and of the best from i on
abbrev pub up_to : (ℕ → Float) → ℕ → ℕ → ℕ
up_to g zero place = place
up_to g (suc i) place = later_if g place (last_highest g i)

module _ (g : ℕ → Float) (numbers : (i : ℕ) → ne (g i) (g i) ≡ false) where
  number_no_nan : (i : ℕ) → is_nan (g i) ≡ false
  number_no_nan i = sym (ne_itself (g i)) ∙ numbers i

  -- the later of three, either way round
  later_through : (a b c : ℕ) → later_if g a (later_if g b c) ≡ later_if g (cond (le (g b) (g a)) a b) c
  later_through a b c = look (le (g b) (g a)) refl (le (g c) (g b)) refl
    where
      all : le (g b) (g a) ≡ true → le (g c) (g b) ≡ true → le (g c) (g a) ≡ true
      all p q = le_through (g c) (g b) (g a) (number_no_nan a) q p

      none : le (g b) (g a) ≡ false → le (g c) (g b) ≡ false → le (g c) (g a) ≡ false
      none p q =
          by_test (le (g c) (g a))
          (λ t. no (sym (le_through (g c) (g a) (g b) (number_no_nan b) t
          (le_of_not (g a) (g b) (number_no_nan a) (number_no_nan b) (le_false (g b) (g a) p).0)) ∙ q))
          (λ f. f)

      look : (x : Bool) → le (g b) (g a) ≡ x → (y : Bool) → le (g c) (g b) ≡ y
          → cond (ne (g a) (g a) || le (g (cond (ne (g b) (g b) || y) b c)) (g a)) a (cond (ne (g b) (g b) || y) b c)
          ≡ cond (ne (g (cond x a b)) (g (cond x a b)) || le (g c) (g (cond x a b))) (cond x a b) c
      look true p true q = rw (numbers a, numbers b, p, all p q)
      look true p false q = rw (numbers a, numbers b)
      look false p true q = rw (numbers a, numbers b, p, q)
      look false p false q = rw (numbers a, numbers b, none p q, q)

  -- one place more
  up_to_next : (i place : ℕ) → up_to g (suc i) place ≡ up_to g i (cond (le (g i) (g place)) place i)
  unfolding last_highest
  up_to_next zero place = rw (numbers place)
  up_to_next (suc i) place = later_through place (suc i) (last_highest g i)

  -- the last place alone
  up_to_last : (n : ℕ) → up_to g n n ≡ last_highest g n
  unfolding last_highest
  up_to_last zero = refl
  up_to_last (suc n) = refl

-- ---- what is seen of the pieces from place i on, to the last at n
module _ (pieces : ℕ → Piece) (b : List Float) where
  abbrev Score : ℕ → Float
  Score i = score_of 7 (at b) (pieces i)

  scores_are_numbers : (i : ℕ) → ne (Score i) (Score i) ≡ false
  scores_are_numbers i = score_number 7 (at b) (pieces i)

  -- no error seen is over its bound by more than the highest score
  abbrev Covers : Float → (ℕ → Float) → Type 0
  Covers highest errors = (k : ℕ) → k < 7 → lt highest (errors k ⊘ at b k) ≡ false

  pub record Sees (n i : ℕ) (seen : Extremes) : Type 0 where
    pub place : up_to Score i seen.place ≡ last_highest Score n
    pub number : seen.number ≡ Score seen.place
    pub covers : Covers seen.number (at seen.errors)

  pub sees_last : (n : ℕ) (p : Piece) (r : Float) → p ≡ pieces n → r ≡ score_of 7 (at b) p
      → Sees n n (record { number = r; place = n; errors = p.error })
  sees_last n p r e f =
      record {
        place = up_to_last Score scores_are_numbers n;
        number = f ∙ ap (score_of 7 (at b)) e;
        covers = λ k l. rw f (score_over 7 (at b) p k l);
      }

  module _ (n i : ℕ) (seen : Extremes) (z : Sees n (suc i) seen) where
    abbrev Errors : ℕ → Float
    Errors = at (pieces i).error

    seen_no_nan : is_nan seen.number ≡ false
    seen_no_nan = rw z.number (score_no_nan 7 (at b) (pieces seen.place))

    -- a piece that is passed over has no higher score
    not_higher : keeps_order b ≡ true → every 7 (λ k. le (Errors k) (at seen.errors k)) ≡ true → le (Score i) seen.number ≡ true
    not_higher o h =
        le_of_not (Score i) seen.number (score_no_nan 7 (at b) (pieces i)) seen_no_nan
        (score_under 7 (at b) (pieces i) seen.number (rw z.number (score_over_zero 7 (at b) (pieces seen.place)))
        (λ k l. quotient_grows seen.number (Errors k) (at seen.errors k) (at b k) (bound_positive b o k l) (every_holds 7 _ h k l)
        (z.covers k l)))

    abbrev Larger : ℕ → Float
    Larger k = larger_error (at seen.errors k) (Errors k)

    -- the larger errors are covered by what is below neither score
    larger_covered : (highest : Float) → lt highest seen.number ≡ false → lt highest (Score i) ≡ false
        → Covers highest (at (tabulate 7 Larger))
    larger_covered highest p q k l =
        rw (at_tabulate 7 Larger k l)
        (by_test (lt (at seen.errors k) (Errors k))
        (λ t. rw t (not_lt_through (Score i) (Errors k ⊘ at b k) highest (score_no_nan 7 (at b) (pieces i))
        (score_over 7 (at b) (pieces i) k l) q))
        (λ t. rw t (not_lt_through seen.number (at seen.errors k ⊘ at b k) highest seen_no_nan (z.covers k l) p)))

    sees_kept : le (Score i) seen.number ≡ true → up_to Score i seen.place ≡ last_highest Score n
    sees_kept h =
        ap (up_to Score i) (sym (ap (λ (t : Bool). cond t seen.place i) (ap (le (Score i)) (sym z.number) ∙ h)))
        ∙ sym (up_to_next Score scores_are_numbers i seen.place) ∙ z.place

    sees_new : le (Score i) seen.number ≡ false → up_to Score i i ≡ last_highest Score n
    sees_new h =
        ap (up_to Score i) (sym (ap (λ (t : Bool). cond t seen.place i) (ap (le (Score i)) (sym z.number) ∙ h)))
        ∙ sym (up_to_next Score scores_are_numbers i seen.place) ∙ z.place

    pub sees_more : (p : Piece) (ordered : Bool) (r : Extremes) → p ≡ pieces i → ordered ≡ keeps_order b → r ≡ seen_with seen p b ordered i
        → Sees n i r
    unfolding seen_with
    sees_more p ordered r e o f =
        subst (Sees n i)
        (sym (f ∙ ap (λ (x : Piece). seen_with seen x b ordered i) e ∙ ap (λ (t : Bool). seen_with seen (pieces i) b t i) o))
        (by_test (keeps_order b && every 7 (λ k. le (Errors k) (at seen.errors k)))
        (λ t. rw t (passed (not_higher (and_left (keeps_order b) _ t) (and_right (keeps_order b) _ t))))
        (λ t. rw t (by_test (le (Score i) seen.number) (λ u. rw u (kept u)) (λ u. rw u (new u)))))
      where
        passed : le (Score i) seen.number ≡ true → Sees n i seen
        passed h = record { place = sees_kept h; number = z.number; covers = z.covers }

        kept : le (Score i) seen.number ≡ true
            → Sees n i (record { number = seen.number; place = seen.place; errors = tabulate 7 Larger })
        kept h =
            record {
              place = sees_kept h;
              number = z.number;
              covers = larger_covered seen.number (not_below_itself seen.number) (le_not_below (Score i) seen.number h);
            }

        new : le (Score i) seen.number ≡ false → Sees n i (record { number = Score i; place = i; errors = tabulate 7 Larger })
        new h =
            record {
              place = sees_new h;
              number = refl;
              covers = larger_covered (Score i) (le_false (Score i) seen.number h).0 (not_below_itself (Score i));
            }
