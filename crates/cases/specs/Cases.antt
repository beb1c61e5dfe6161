-- "P: root of 0, 4; root of 2 is 3ff6a09e667f3bcd; trapezoid at 0 gives the root chord, at the span none; square a=0,
-- b=2, t=1 begins 2, 2; 1, 2, 8 pieces mean 15, 45, 225 samples; sine 0 is 0, cosine 0 is 1; joined points above;
-- moments of diagonal 2, 0, 2 are 0, 2, 2; diagonal 1, 2, 3 passes, 1, 1, 3 gives 17e." (document 01, "Reviewer's
-- checklist"): one table, and one theorem that computes every row. Figures compare by ==. Since document 02, Paper 1,
-- "the tip case in document 01 changes": at the span stands the tip chord. Since Paper 12 a tensor has six numbers, and
-- "the joined example is reprinted so"; 17e is still the fifth case.
use Rattle.std.specs.Prelude.{Bool, true, false, ◌&&◌, cond, List, [], ◌∷◌, ◌++◌, map, ℕ, T, eqb, length, take, Float, Ok, Err}
use Rattle.std.specs.Float.Ieee.{add, sub, mul, div, neg, of_bits, of_int, round, lt, le, eq, ne}
use Rattle.floats.specs.Operations.{bits, every}
use Rattle.floats.specs.Floats.{abs_of}
use Rattle.root.specs.Root.{near_root, root_of}
use Rattle.trig.specs.Trig.{sin_cos_of, sin_of, cos_of}
use Rattle.refusals.specs.Refusals.{number_of, values_of}
use Rattle.refusals.specs.Verdict.{Verdict}
use Rattle.planforms.specs.declared.Planform.{Planform}
use Rattle.planforms.specs.declared.Planform.TheVariants.{Trapezoid}
use Rattle.chords.specs.Chords.{ends_at}
use Rattle.sections.specs.declared.Section.TheVariants.{Square}
use Rattle.sections.specs.ChordMoments.{chord_moments}
use Rattle.gauss_kronrod.specs.Tables.{nodes, kronrod_weights, gauss_weights}
use Rattle.quadrature.specs.Rule.{heights_to, weighted_to, piece_of}
use Rattle.tolerance.specs.Bounds.{total_of, error_of, absolute, relative, converged, score_of, last_highest, worst_place}
use Rattle.tolerance.specs.Bounds.{component_of}
use Rattle.halving.specs.Halving.{Halved, repeat, halving}
use Rattle.bodies.specs.declared.Body.{Body}
use Rattle.bodies.specs.declared.Tensor.{Tensor}
use Rattle.bodies.specs.Vectors.{zero_vector}
use Rattle.bodies.specs.Tensors.{diagonal}
use Rattle.bodies.specs.Bodies.{inertia_about_of}
use Rattle.bodies.specs.Layout.{numbers_of}
use Rattle.joins.specs.Joins.{in_order, sums_of, inertia_of, join_of, body_told, combine_of}
use Rattle.moments.specs.Moments.{rotate, sweep, sweeps, insert_moment, insert_all, eigenvalues_of, moments_told, principal_moments_of}
use Rattle.body_check.specs.BodyCheck.{largest_magnitude, check_tensor, check_of}

-- a row: what is asked, and the answer that it must have, with figures by their bits
pub data Case : Type 0 where
  root sine cosine : ℕ → ℕ → Case
  pieces : ℕ → ℕ → Case
  chord : Planform → ℕ → List ℕ → Case
  square : ℕ → ℕ → ℕ → List ℕ → Case
  joined : List ℕ → List ℕ → Case
  moments : ℕ → ℕ → ℕ → List ℕ → Case
  sound unsound : ℕ → ℕ → ℕ → Case

-- the bits of 1, 2 and 3
abbrev one : ℕ
one = 0x3ff0_0000_0000_0000

abbrev two : ℕ
two = 0x4000_0000_0000_0000

abbrev three : ℕ
three = 0x4008_0000_0000_0000

abbrev is : Float → ℕ → Bool
is x b = eq x (bits b)

abbrev are : List Float → List ℕ → Bool
are [] [] = true
are [] (b ∷ bs) = false
are (x ∷ xs) [] = false
are (x ∷ xs) (b ∷ bs) = is x b && are xs bs

abbrev diagonal_tensor : ℕ → ℕ → ℕ → Tensor
diagonal_tensor a b c = diagonal (bits a) (bits b) (bits c)

-- a body of mass 1 at the origin
abbrev body : ℕ → ℕ → ℕ → Body
body a b c = record { mass_kg = bits one; centre_m = zero_vector; inertia_kg_m2 = diagonal_tensor a b c }

-- the halving from 0 to 1, with at most `limit` pieces, of one component that is 0 below a third and 1 from there on,
-- which a few pieces do not bring within the tolerance
abbrev strip : ℕ → Halved
strip limit = halving 1 (λ h. bits (cond (lt h (bits 0x3fd5_5555_5555_5555)) 0 one) ∷ []) (bits 0) (bits one) limit

abbrev is_accepted : Verdict → Bool
is_accepted (Ok _) = true
is_accepted (Err refusal) = false

-- 17e: the number 17 with case 4, as cases a to e count from 0
abbrev is17e : Verdict → Bool
is17e (Ok _) = false
is17e (Err refusal) = eqb (number_of refusal) 17 && is_case_e (values_of refusal)
  where
    is_case_e : List ℕ → Bool
    is_case_e [] = false
    is_case_e (n ∷ ns) = eqb n 4

abbrev holds : Case → Bool
holds (root x r) = is (root_of (bits x)) r
holds (sine x r) = is (sin_of (bits x)) r
holds (cosine x r) = is (cos_of (bits x)) r
holds (pieces n samples) = eqb (length (strip n).pieces) n && eqb (length (strip n).heights) samples
holds (chord planform h ends) = are (ends_at planform [] (bits h)) ends
holds (square a b t begins) = are (take 2 (chord_moments Square (bits a) (bits b) (bits t))) begins
holds (joined given answer) = are (numbers_of (body_told (combine_of (map bits given)))) answer
holds (moments a b c answer) = are (moments_told (principal_moments_of (diagonal_tensor a b c))) answer
holds (sound a b c) = is_accepted (check_of (body a b c))
holds (unsound a b c) = is17e (check_of (body a b c))

abbrev all_hold : List Case → Bool
all_hold [] = true
all_hold (c ∷ cs) = holds c && all_hold cs

-- a trapezoid of root chord 2, tip chord 1, span 3 and sweep 1
abbrev plate : Planform
plate = Trapezoid (bits two) (bits one) (bits three) (bits one)

abbrev no_tensor : List ℕ
no_tensor = 0 ∷ 0 ∷ 0 ∷ 0 ∷ 0 ∷ 0 ∷ []

abbrev pub cases : List Case
cases =
    root 0 0 ∷
    root 0x4010_0000_0000_0000 two ∷
    root two 0x3ff6_a09e_667f_3bcd ∷
    chord plate 0 (0 ∷ two ∷ []) ∷
    chord plate three (one ∷ two ∷ []) ∷
    square 0 two one (two ∷ two ∷ []) ∷
    pieces 1 15 ∷
    pieces 2 45 ∷
    pieces 8 225 ∷
    sine 0 0 ∷
    cosine 0 one ∷
    joined ((one ∷ 0 ∷ 0 ∷ 0 ∷ no_tensor) ++ (one ∷ two ∷ 0 ∷ 0 ∷ no_tensor))
    (two ∷ one ∷ 0 ∷ 0 ∷ 0 ∷ two ∷ two ∷ 0 ∷ 0 ∷ 0 ∷ []) ∷
    moments two 0 two (0 ∷ two ∷ two ∷ []) ∷
    sound one two three ∷
    unsound one one three ∷
    []

pub cases_hold : T (all_hold cases)
unfolding of_bits of_int round add sub mul div neg lt le eq ne abs_of root_of near_root sin_cos_of ends_at chord_moments in_order sums_of inertia_of join_of inertia_about_of every rotate sweep sweeps insert_moment insert_all eigenvalues_of largest_magnitude check_tensor nodes kronrod_weights gauss_weights heights_to weighted_to piece_of total_of error_of absolute relative converged score_of last_highest worst_place component_of repeat halving
cases_hold = tt
