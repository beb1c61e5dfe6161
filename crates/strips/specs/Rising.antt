-- What document 02, Paper 14, says of the strips worked of a fin that passed the checks: their pieces rise, and their
-- samples are finite. So are the numbers worked from these.
use Rattle.std.specs.Prelude.{◌≡◌, ℕ, ◌<◌, true, List, [], ◌∷◌}
use Rattle.floats.specs.Operations.{bits, at}
use Rattle.floats.specs.Floats.{is_finite}
use Rattle.quadrature.specs.Rule.{finite_at}
use Rattle.quadrature.specs.declared.Piece.{Piece}
use Rattle.halving.specs.Rising.{Rises}
use Rattle.strips.specs.Strips.{Run, Worked, pieces_of, value_from}
use Rattle.strips.specs.Claim.{Each, OtherEnds}

-- "Sorted by start, the pieces of an accepted strip strictly rise, every cut lying between its parent's ends as f64
-- compares them": so do those of a strip that ends in 13; one with equal ends has none
abbrev pub PiecesRise : List Worked → Type 0
PiecesRise strips = Each (λ s. OtherEnds s → Rises s.lower s.upper (pieces_of s)) strips

-- "no sample is infinite or NaN"
abbrev pub SamplesFinite : Run → List Worked → Type 0
SamplesFinite run strips = Each (λ s. finite_at run.width run.integrand s.halved.heights ≡ true) strips

-- no value and no error of a piece is infinite or NaN
abbrev pub FinitePieces : ℕ → List Piece → Type 0
FinitePieces w [] = Unit {0}
FinitePieces w (p ∷ pieces) =
    ((k : ℕ) → k < w → (is_finite (at p.value k) ≡ true) × (is_finite (at p.error k) ≡ true))
    × FinitePieces w pieces

-- the numbers worked from the samples are finite: those of the pieces, and each component's integral over the strips
pub record NumbersFinite (run : Run) (strips : List Worked) : Type 0 where
  pub pieces : Each (λ s. FinitePieces run.width (pieces_of s)) strips
  pub integrals : (k : ℕ) → k < run.width → is_finite (value_from (bits 0) k strips) ≡ true
