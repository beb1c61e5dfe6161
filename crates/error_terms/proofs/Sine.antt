-- The stand-in sine of a reduced angle is near the partial sum of degree 17 of the sine's series, whose steps it rounds. Assumes nothing.
use mathlib.Core.Path.{◌≡◌, refl, subst}
use mathlib.Core.List.{List, []}
use Prim.Native.Nat.{ℕ, ◌-◌, ◌*◌, ◌^◌}
use lib.Ieee.{Float, round, of_int}
use Rattle.floats.specs.Operations.{whole}
use Rattle.trig.specs.Trig.{sine_series, steps}
use Rattle.rounding_error.proofs.Numbers.{◌roundoffs◌, Near, value_of}
use Rattle.rounding_error.proofs.Polynomials.{evaluate}
use Rattle.error_terms.proofs.Terms.{shape, Given, value, Known, AllKnown, unit_by}
use Rattle.error_terms.proofs.Terms.{numbers_of}
use Rattle.error_terms.proofs.Judged.{near_within}
use Rattle.error_terms.proofs.Entries.{const_entry}
use Rattle.error_terms.proofs.SineTerms.{angle, sine_t, sine_e, entries_of, SineTest}

module _ (r : Float) (h : Known [] r (value_of r) (shape 0 angle [] [])) where
  abbrev entries : List Given
  entries = entries_of r

  d : (n : ℕ) → ℕ
  d n = n * 2 ^ 30 - 1

  all : AllKnown [] entries
  unfolding round of_int d
  all = (
    (h, tt),
    (
      const_entry [] tt (whole 272) (d 272) tt,
      (
        const_entry [] tt (whole 210) (d 210) tt,
        (
          const_entry [] tt (whole 156) (d 156) tt,
          (
            const_entry [] tt (whole 110) (d 110) tt,
            (
              const_entry [] tt (whole 72) (d 72) tt,
              (
                const_entry [] tt (whole 42) (d 42) tt,
                (const_entry [] tt (whole 20) (d 20) tt, (const_entry [] tt (whole 6) (d 6) tt, tt)),
              ),
            ),
          ),
        ),
      ),
    ),
  )

  -- the program's own operations, in their order
  sine_is : value entries sine_t ≡ sine_series r
  unfolding steps
  sine_is = refl

  sine_test : SineTest r
  unfolding round of_int
  sine_test = tt

  -- at most 4·2^-53 from r − r³/3! + .. + r^17/17!
  pub sine_near : Near (sine_series r) (evaluate (numbers_of entries) sine_e) ((4 * 2 ^ 30) roundoffs unit_by [] [] [])
  sine_near =
      subst (λ (x : Float). Near x (evaluate (numbers_of entries) sine_e) ((4 * 2 ^ 30) roundoffs unit_by [] [] [])) sine_is
      (near_within [] tt entries all sine_t sine_e (4 * 2 ^ 30) [] [] sine_test)
