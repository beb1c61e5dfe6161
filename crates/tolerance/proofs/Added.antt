-- Sums over pieces, one piece after another. Assumes nothing.
use mathlib.Core.Path.{◌≡◌, refl}
use mathlib.Core.List.{List, [], ◌∷◌}
use Prim.Native.Nat.{ℕ}
use lib.Ieee.{Float}
use Rattle.floats.specs.Operations.{◌⊕◌, bits, at, tabulate}
use Rattle.quadrature.specs.declared.Piece.{Piece}
use Rattle.quadrature.specs.Rule.{zeros}
use Rattle.tolerance.specs.Bounds.{sum_from, total_of, error_of}
use Rattle.tolerance.specs.Steps.{with_piece, sums_of}
use Rattle.tolerance.specs.declared.Sums.{Sums}

abbrev pub sums_from : Sums → List Piece → Sums
sums_from sums [] = sums
sums_from sums (p ∷ pieces) = sums_from (with_piece sums p) pieces

abbrev pub no_sums : Sums
no_sums = record { value = zeros; error = zeros }

sums_by_component : (v e : ℕ → Float) (pieces : List Piece)
    → sums_from (record { value = tabulate 7 v; error = tabulate 7 e }) pieces
    ≡ record {
      value = tabulate 7 (λ k. sum_from (v k) (λ p. at p.value k) pieces);
      error = tabulate 7
          (λ k. sum_from (e k) (λ p. at p.error k) pieces);
    }
unfolding with_piece
sums_by_component v e [] = refl
sums_by_component v e (p ∷ pieces) = sums_by_component (λ k. v k ⊕ at p.value k) (λ k. e k ⊕ at p.error k) pieces

pub sums_are : (pieces : List Piece) → sums_from no_sums pieces ≡ sums_of pieces
unfolding total_of error_of
sums_are pieces = sums_by_component (λ k. bits 0) (λ k. bits 0) pieces
