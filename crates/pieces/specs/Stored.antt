-- Pieces in the lent scratch (document 01, "Piece and tally" and "Refusal numbers").
use Rattle.std.specs.Prelude.{List, [], ◌∷◌, ◌++◌, ℕ, zero, suc, ◌+◌, ◌*◌, length, take, drop, replicate, Float}
use Rattle.floats.specs.Operations.{bits, at, tabulate}
use Rattle.limits.specs.Limits.{piece_numbers}
use Rattle.quadrature.specs.declared.Piece.{Piece}

-- "A piece holds start, end, seven values, seven errors: 16 numbers of the lent scratch"
abbrev pub numbers_of : Piece → List Float
numbers_of p = p.start ∷ p.end ∷ (tabulate 7 (at p.value) ++ tabulate 7 (at p.error))

-- a piece with d zeros, each +0, after its values and its errors: "an area run uses three of the seven, the rest zero"
abbrev pub widened : ℕ → Piece → Piece
widened d p =
    record {
      start = p.start;
      end = p.end;
      value = p.value ++ replicate d (bits 0);
      error = p.error ++ replicate d (bits 0);
    }

-- the numbers of the pieces, in storage order
abbrev pub stored : List Piece → List Float
stored [] = []
stored (p ∷ pieces) = numbers_of p ++ stored pieces

-- "scratch holds, in storage order from its start, what each strip wrote ..; elsewhere it is unchanged", and "What a
-- strip wrote is the pieces it ended with"
abbrev pub written : List Piece → List Float → List Float
written pieces scratch = stored pieces ++ drop (length pieces * piece_numbers) scratch

-- the piece that sixteen numbers hold
abbrev pub piece_in : List Float → Piece
piece_in l =
    record {
      start = at l 0;
      end = at l 1;
      value = tabulate 7 (λ k. at l (2 + k));
      error = tabulate 7 (λ k. at l (9 + k));
    }

-- the piece at place i of a scratch, its first n pieces, and the scratch with a piece put at place i
abbrev pub read_at : List Float → ℕ → Piece
read_at scratch i = piece_in (take piece_numbers (drop (i * piece_numbers) scratch))

abbrev pub pieces_in : ℕ → List Float → List Piece
pieces_in zero scratch = []
pieces_in (suc n) scratch = piece_in (take piece_numbers scratch) ∷ pieces_in n (drop piece_numbers scratch)

abbrev pub put_at : List Float → ℕ → Piece → List Float
put_at scratch i p =
    take (i * piece_numbers) scratch ++ (numbers_of p ++ drop (i * piece_numbers + piece_numbers) scratch)
