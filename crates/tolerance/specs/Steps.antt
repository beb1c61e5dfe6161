-- What the crate's functions give, piece by piece.
use Rattle.std.specs.Prelude.{Bool, cond, ◌&&◌, ◌||◌, List, ℕ, Float}
use Rattle.std.specs.Float.Ieee.{lt, le, ne}
use Rattle.floats.specs.Operations.{◌⊕◌, bits, at, every, tabulate}
use Rattle.quadrature.specs.declared.Piece.{Piece}
use Rattle.tolerance.specs.Bounds.{total_of, error_of, score_of}
use Rattle.tolerance.specs.declared.Sums.{Sums}
use Rattle.tolerance.specs.declared.Highest.{Highest}
use Rattle.tolerance.specs.declared.Extremes.{Extremes}

-- the sums with one piece more
unfoldable pub with_piece : Sums → Piece → Sums
with_piece sums p =
    record {
      value = tabulate 7 (λ k. at sums.value k ⊕ at p.value k);
      error = tabulate 7 (λ k. at sums.error k ⊕ at p.error k);
    }

abbrev pub sums_of : List Piece → Sums
sums_of pieces = record { value = tabulate 7 (total_of pieces); error = tabulate 7 (error_of pieces) }

-- the highest number so far and its place, with one place more
unfoldable pub higher_of : Highest → Float → ℕ → Highest
higher_of highest number place =
    cond (ne number number || le highest.number number) (record { number = number; place = place }) highest

-- 1e-300 and 1e300: between them a bound is above 0 and finite
abbrev pub smallest : Float
smallest = bits 0x01a5_6e1f_c2f8_f359

abbrev pub largest : Float
largest = bits 0x7e37_e43c_8800_759c

unfoldable pub keeps_order : List Float → Bool
keeps_order b = every 7 (λ k. le smallest (at b k)) && every 7 (λ k. le (at b k) largest)

-- the larger of two errors, and the first where either is a NaN
abbrev pub larger_error : Float → Float → Float
larger_error m e = cond (lt m e) e m

-- what is seen with one piece more, at the place before: nothing new where its errors are at most the largest seen
unfoldable pub seen_with : Extremes → Piece → List Float → Bool → ℕ → Extremes
seen_with seen p b ordered place =
    cond (ordered && every 7 (λ k. le (at p.error k) (at seen.errors k))) seen
    (cond (le (score_of 7 (at b) p) seen.number)
    (record {
      number =
          seen.number;
      place = seen.place;
      errors = tabulate 7 (λ k. larger_error (at seen.errors k) (at p.error k));
    })
    (record {
      number =
          score_of 7 (at b) p;
      place = place;
      errors = tabulate 7 (λ k. larger_error (at seen.errors k) (at p.error k));
    }))
