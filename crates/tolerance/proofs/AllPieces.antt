-- What holds of all pieces, through reading one, setting one and appending. Assumes nothing.
use mathlib.Core.List.{List, [], ◌∷◌, ◌++◌}
use Prim.Native.Nat.{ℕ, zero, suc, ◌<◌}
use native.Mathlib.Nat.{not-suc-le-zero, le_of_suc-le-suc}
use lib.ListN.{length, set}
use Rattle.quadrature.specs.declared.Piece.{Piece}
use Rattle.tolerance.specs.Bounds.{piece_at}

abbrev pub All : (Piece → Type 0) → List Piece → Type 0
All P [] = Unit {0}
All P (p ∷ pieces) = P p × All P pieces

pub all_at : (P : Piece → Type 0) (pieces : List Piece) (i : ℕ) → i < length pieces → All P pieces → P (piece_at pieces i)
all_at P [] i b z = absurd (not-suc-le-zero b)
all_at P (p ∷ pieces) zero b z = z.0
all_at P (p ∷ pieces) (suc i) b z = all_at P pieces i (le_of_suc-le-suc b) z.1

pub all_set : (P : Piece → Type 0) (l : List Piece) (i : ℕ) (p : Piece) → All P l → P p → All P (set l i p)
all_set P [] i p a f = tt
all_set P (q ∷ l) zero p a f = (f, a.1)
all_set P (q ∷ l) (suc i) p a f = (a.0, all_set P l i p a.1 f)

pub all_append : (P : Piece → Type 0) (l r : List Piece) → All P l → All P r → All P (l ++ r)
all_append P [] r a b = b
all_append P (p ∷ l) r a b = (a.0, all_append P l r a.1 b)
