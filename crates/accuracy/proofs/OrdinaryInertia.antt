-- The inertia and the balance point of a single fin at base angle 0 that one piece is enough for, of square or airfoil section, with a tab
-- or none: near the exact ones by computed bounds, from the seven integrals of proofs/SevenIntegrals. Assumes nothing.
use Rattle.std.specs.Prelude.{Option, Some, None}
use Rattle.accuracy.proofs.OrdinaryBalance.{neg_known}
use mathlib.Core.Path.{◌≡◌, refl, sym, ap, ◌∙◌, subst}
use mathlib.Core.Bool.{Bool, true, false, true≢false, ◌&&◌}
use mathlib.Core.List.{List, [], ◌∷◌}
use Prim.Native.Nat.{ℕ, zero, suc, ◌+◌, ◌*◌, ◌^◌, ◌≤◌, ◌<◌}
use native.Mathlib.Nat.{le_refl, mul-pos, le_of_suc-le-suc, not-suc-le-zero, one-mul, mul-one, zero-mul, mul-zero, zero-add, add-zero}
use native.Mathlib.Nat.{pow-zero, pow-suc}
use native.Mathlib.Omega.{arith}
use lib.Dec.{T, lit≤}
use lib.ListN.{length, get_or}
use lib.Pow.{pow_pos}
use lib.IntN.{pos}
use lib.Ieee.{Float, nan, inf, fin, binary64, fits, neg, up, down, add as float_add, sum as sum_of_parts, round, of_bits}
use lib.Ieee.Fits.{and_l, and_r, down_pos, mul-fits}
use lib.Ieee.Scale.{finite}
use lib.Ieee.Positive.{num, den, den_pos, positive, positive-finite}
use Rattle.floats.specs.Operations.{◌⊕◌, ◌⊗◌, ◌⊘◌, bits}
use Rattle.floats.specs.Constants.{one, half}
use Rattle.floats.proofs.Exact.{Plus, product_plus, round_value}
use Rattle.rounding.specs.Sizes.{AtMost}
use Rattle.floats.specs.Fractions.{Fraction, ◌over◌, ◌times◌ as product, value_of as fraction_of}
use Rattle.rounding_error.specs.Distances.{Within as Apart}
use Rattle.rounding_error.proofs.Numbers.{Number, number, Size, ◌per◌, ◌roundoffs◌, ◌upto◌, minus, ◌less◌, ◌times◌, IsNumber, Near, value_of}
use Rattle.rounding_error.proofs.Numbers.{zero_number}
use Rattle.rounding_error.proofs.Distances.{sorted}
use Rattle.rounding_error.proofs.Counts as Counts
use Rattle.rounding_error.proofs.Fractions.{IsFraction, whole_fraction}
use Rattle.rounding_error.proofs.Chains.{Valued, equalled}
use Rattle.rounding_error.proofs.Polynomials.{◌equals◌, trans, itself, times_is, equal_by, AllNumbers, evaluated_is, evaluated_equal, among}
use Rattle.rounding_error.proofs.Polynomials.{Expression, given, ratio, ◌add◌, ◌take◌, ◌mul◌, evaluate, evaluate_is, normal, vanishes}
use Rattle.rounding_error.proofs.Polynomials.{AllEqual, less_is}
use Rattle.sections.specs.declared.Section.{Section}
use Rattle.bodies.specs.declared.Body.{Body}
use Rattle.bodies.specs.declared.Vector.{Vector}
use Rattle.bodies.specs.declared.Tensor.{Tensor}
use Rattle.bodies.specs.Vectors.{vector, subtract_vectors}
use Rattle.bodies.specs.Tensors.{number_at, turn_tensor, add_tensors, scale_tensor, zero_tensor, offset_tensor_of}
use Rattle.bodies.specs.Bodies.{rotated_of, inertia_about_of, of_origin_tensor}
use Rattle.joins.specs.Joins.{join_of, sums_of, inertia_of, in_order}
use Rattle.rings.specs.Rings.{joined_copies, rolled_copy}
use Rattle.plates.specs.Plates.{plate_body}
use Rattle.fins.specs.declared.FinTab.{FinTab}
use Rattle.error_terms.proofs.Laws.{inverse_of}
use Rattle.error_terms.proofs.Monomials.{place, mono, top, bottom}
use Rattle.error_terms.proofs.Terms.{shape, Given, entry, larger, var, const, nought, value, AllKnown, numbers_of, unit_by}
use Rattle.error_terms.proofs.Terms.{◌take◌ as ◌take_t◌, ◌over◌ as ◌over_t◌}
use Rattle.error_terms.proofs.Sound.{unit_real, numbers_are}
use Rattle.error_terms.proofs.Judged.{Judged, nearer}
use Rattle.error_terms.proofs.Shared.{Shared, local, whole, ◌⊞◌, ◌⊟◌, ◌⊠◌, ◌⊡◌, tightly, raised_by, judge_in, judge_all, bind_all, expand}
use Rattle.error_terms.proofs.Shared.{all_within}
use Rattle.error_terms.proofs.Entries.{full}
use Rattle.one_piece.specs.OnePiece.{NotRounded}
use Rattle.figures.specs.declared.Figures.{Figures}
use Rattle.accuracy.specs.Masses.{Plate, Mount, SectionGiven, OneStrip}
use Rattle.accuracy.specs.Inertias.{Integrals, exact_integrals, Alone, TabBeside, TensorNear, OffAxisNear, FinNear, tensor_error}
use Rattle.accuracy.specs.Inertias.{outward_error, OrdinaryInertia}
use Rattle.accuracy.proofs.SetCalled as Called
use Rattle.accuracy.proofs.SetCalled.{set_body}
use Rattle.accuracy.proofs.SevenIntegrals.{Fin, far, Sizes, unit_of, is_foil, shape_at, mass_shape, least_parts, bases, seven_known}
use Rattle.accuracy.proofs.SevenIntegrals.{volume_lowest, integral_at, exactly, is_exactly, density_own, masses_known, mass_of}
use Rattle.accuracy.proofs.SevenIntegrals.{mass_known, mass_lowest, volume_from_zero}
use Rattle.accuracy.proofs.FinCalled as Fins
use Rattle.accuracy.proofs.OrdinaryCentroid.{inverse_pair}
use Rattle.accuracy.proofs.Turned.{zero_most, none_times, times_none, none_plus, none_less, none_over, heavy_centre}
use Rattle.accuracy.proofs.NoRoll.{identity, only_copy}
use Rattle.accuracy.proofs.ToFractions.{positive_fraction, product_fraction, to_fractions, first_power, fraction_in, among_fractions}
use Rattle.accuracy.proofs.ToFractions.{AreFractions, expression_fraction}

ruleset plain = (sorted, one-mul, mul-one, zero-mul, mul-zero, zero-add, add-zero)

-- ---- V, r1, r2, −x1, x2, rx, tau2, density and mass, in the units of proofs/SevenIntegrals
abbrev body_list : Bool → Option FinTab → (ℕ → Float) → (ℕ → Number) → (density : Float) → List Given
body_list foil tab v n density =
    entry (v 0) (n 0) (shape_at far foil tab 0) (least_parts foil) ∷
    entry (v 1) (n 1) (shape_at far foil tab 1) 0 ∷
    entry (v 2) (n 2) (shape_at far foil tab 2) 0 ∷
    entry (neg (v 3)) (zero_number less n 3) (shape_at far foil tab 3) 0 ∷
    entry (v 4) (n 4) (shape_at far foil tab 4) 0 ∷
    entry (v 5) (n 5) (shape_at far foil tab 5) 0 ∷
    entry (v 6) (n 6) (shape_at far foil tab 6) 0 ∷
    entry density (value_of density) (shape 0 full (place 5) []) full ∷
    entry (density ⊗ v 0) (value_of density times n 0) (mass_shape far foil tab) (least_parts foil) ∷
    larger 0 4 ∷
    larger 3 4 ∷
    []

-- ---- vectors and tensors of terms
abbrev none_c : Shared
none_c = whole (const (bits 0))

abbrev one_c : Shared
one_c = whole (const one)

abbrev none_v : Shared
none_v = whole (nought (place 4) [])

abbrev none_s : Shared
none_s = whole (nought (0 ∷ 0 ∷ 0 ∷ 0 ∷ 2 ∷ []) [])

abbrev tensor_unit : List ℕ
tensor_unit = 1 ∷ 1 ∷ 0 ∷ 1 ∷ 2 ∷ 1 ∷ []

abbrev none_t : Shared
none_t = whole (nought tensor_unit [])

-- |d|² E − d dᵀ, number i
abbrev offset : Shared → Shared → Shared → ℕ → Shared
offset x y z zero = (x ⊠ x ⊞ y ⊠ y ⊞ z ⊠ z) ⊟ x ⊠ x
offset x y z (suc zero) = (x ⊠ x ⊞ y ⊠ y ⊞ z ⊠ z) ⊟ y ⊠ y
offset x y z (suc (suc zero)) = (x ⊠ x ⊞ y ⊠ y ⊞ z ⊠ z) ⊟ z ⊠ z
offset x y z (suc (suc (suc zero))) = none_s ⊟ x ⊠ y
offset x y z (suc (suc (suc (suc zero)))) = none_s ⊟ x ⊠ z
offset x y z (suc (suc (suc (suc (suc i))))) = none_s ⊟ y ⊠ z

-- the centre, and the tensor about the origin
abbrev centre_x : Shared
centre_x = whole (var 1 over_t 0)

abbrev centre_z : Shared
centre_z = raised_by 9 (whole (var 3 over_t 0))

abbrev mass_s : Shared
mass_s = whole (var 8)

abbrev tau_s : Shared
tau_s = raised_by 10 (raised_by 10 (whole (var 6)))

abbrev along_s : Shared
along_s = raised_by 9 (raised_by 9 (whole (var 4)))

abbrev origin : ℕ → Shared
origin zero = tau_s ⊞ along_s
origin (suc zero) = whole (var 2) ⊞ along_s
origin (suc (suc zero)) = whole (var 2) ⊞ tau_s
origin (suc (suc (suc zero))) = whole (nought (1 ∷ 1 ∷ 0 ∷ 1 ∷ 2 ∷ []) [])
origin (suc (suc (suc (suc zero)))) = raised_by 9 (whole (var 5))
origin (suc (suc (suc (suc (suc i))))) = whole (nought (1 ∷ 1 ∷ 0 ∷ 1 ∷ 2 ∷ []) [])

-- the plate's number i, where k numbers stand above the centre less the origin
abbrev plate_s : ℕ → ℕ → Shared
plate_s k i = (origin i ⊠ whole (var 7)) ⊟ (none_t ⊞ offset (local (suc k)) (whole (nought (place 4) [] take_t nought (place 4) []))
    (local k) i ⊠ mass_s)

abbrev parts : List Shared
parts = (centre_x ⊟ none_v) ∷ (centre_z ⊟ none_v) ∷ plate_s 0 0 ∷ plate_s 1 1 ∷ plate_s 2 2 ∷ plate_s 3 3 ∷ plate_s 4 4 ∷ plate_s 5 5 ∷ []

-- row and column of a number
abbrev pick : ℕ → Shared → Shared → Shared → Shared
pick zero x y z = one_c ⊠ x ⊞ none_c ⊠ y ⊞ none_c ⊠ z
pick (suc zero) x y z = none_c ⊠ x ⊞ one_c ⊠ y ⊞ none_c ⊠ z
pick (suc (suc i)) x y z = none_c ⊠ x ⊞ none_c ⊠ y ⊞ one_c ⊠ z

abbrev pick_back : ℕ → Shared → Shared → Shared → Shared
pick_back zero x y z = x ⊠ one_c ⊞ y ⊠ none_c ⊞ z ⊠ none_c
pick_back (suc zero) x y z = x ⊠ none_c ⊞ y ⊠ one_c ⊞ z ⊠ none_c
pick_back (suc (suc i)) x y z = x ⊠ none_c ⊞ y ⊠ none_c ⊞ z ⊠ one_c

-- the numbers stand at local 5 to local 0
abbrev turned_at : ℕ → ℕ → Shared
turned_at i j = pick_back j (pick i (local 5) (local 2) (local 1)) (pick i (local 2) (local 4) (local 0)) (pick i (local 1) (local 0)
    (local 3))

abbrev turned_s : ℕ → Shared
turned_s zero = turned_at 0 0
turned_s (suc zero) = turned_at 1 1
turned_s (suc (suc zero)) = turned_at 2 2
turned_s (suc (suc (suc zero))) = whole (const half) ⊠ (turned_at 0 1 ⊞ turned_at 1 0)
turned_s (suc (suc (suc (suc zero)))) = whole (const half) ⊠ (turned_at 0 2 ⊞ turned_at 2 0)
turned_s (suc (suc (suc (suc (suc i))))) = whole (const half) ⊠ (turned_at 1 2 ⊞ turned_at 2 1)

-- the centre turned, joined alone, and what is left of it
abbrev rolled : ℕ → Shared
rolled i = pick i centre_x none_v centre_z

abbrev pub joined_s : ℕ → Shared
joined_s i = (whole (nought (1 ∷ 1 ∷ 0 ∷ 1 ∷ 1 ∷ 1 ∷ []) []) ⊞ rolled i ⊠ mass_s) ⊡ 8

abbrev rest_s : ℕ → Shared
rest_s i = tightly (rolled i ⊟ joined_s i)

abbrev pub tensor_s : ℕ → Shared
tensor_s i = none_t ⊞ (turned_s i ⊞ offset (rest_s 0) (rest_s 1) (rest_s 2) i ⊠ mass_s)

-- ---- exactly: the places are those of `body_list`
abbrev square_e : Expression → Expression
square_e e = e mul e

abbrev tensor_e : ℕ → Expression
tensor_e zero = (given 12 add given 8) mul given 14 take square_e (given 6 mul given 1) mul given 16
tensor_e (suc zero) =
    (given 4 add given 8) mul given 14 take (square_e (given 2 mul given 1) add square_e (given 6 mul given 1)) mul given 16
tensor_e (suc (suc zero)) = (given 4 add given 12) mul given 14 take square_e (given 2 mul given 1) mul given 16
tensor_e (suc (suc (suc i))) = given 10 mul given 14 add (given 2 mul given 1) mul (given 6 mul given 1) mul given 16

-- a row of a matrix of six numbers turned, where they stand at local 5 to local 0
abbrev row_s : ℕ → ℕ → Shared
row_s i zero = pick i (local 5) (local 2) (local 1)
row_s i (suc zero) = pick i (local 2) (local 4) (local 0)
row_s i (suc (suc j)) = pick i (local 1) (local 0) (local 3)

abbrev out_e : Expression
out_e = given 2 mul given 1

abbrev back_e : Expression
back_e = given 6 mul given 1

-- what is tested: a term, what it is exactly, how near it is, in roundoffs, and the unit. First the numbers that are asked for; behind
-- them what has to be finite beside them.
pub data Test : Type 0 where
  test : Shared → Expression → ℕ → List ℕ → Test

abbrev tests : Option FinTab → List Test
tests tab =
    test (joined_s 0) out_e (outward_error tab) (place 4) ∷
    test (tensor_s 0) (tensor_e 0) (tensor_error tab) tensor_unit ∷
    test (tensor_s 1) (tensor_e 1) (tensor_error tab) tensor_unit ∷
    test (tensor_s 2) (tensor_e 2) (tensor_error tab) tensor_unit ∷
    test (tensor_s 4) (tensor_e 3) (tensor_error tab) tensor_unit ∷
    test centre_x out_e (2 ^ 20) (place 4) ∷
    test centre_z back_e (2 ^ 20) (place 4) ∷
    test (rest_s 0) (ratio 0 0) (2 ^ 21) (place 4) ∷
    test (rest_s 2) (ratio 0 0) (2 ^ 21) (place 4) ∷
    test (centre_x ⊟ none_v) out_e (2 ^ 20) (place 4) ∷
    test (centre_z ⊟ none_v) back_e (2 ^ 20) (place 4) ∷
    test (row_s 0 0) (tensor_e 0) (2 ^ 23) tensor_unit ∷
    test (row_s 0 2) (tensor_e 3) (2 ^ 23) tensor_unit ∷
    test (row_s 1 1) (tensor_e 1) (2 ^ 23) tensor_unit ∷
    test (row_s 2 0) (tensor_e 3) (2 ^ 23) tensor_unit ∷
    test (row_s 2 2) (tensor_e 2) (2 ^ 23) tensor_unit ∷
    test (local 5) (tensor_e 0) (2 ^ 23) tensor_unit ∷
    test (local 4) (tensor_e 1) (2 ^ 23) tensor_unit ∷
    test (local 3) (tensor_e 2) (2 ^ 23) tensor_unit ∷
    test (local 1) (tensor_e 3) (2 ^ 23) tensor_unit ∷
    []

abbrev passes : List Given → List Judged → List Test → Bool
passes G M [] = true
passes G M (test s e K p ∷ l) = nearer G e (K * 2 ^ 30) p [] (judge_in G M s) && passes G M l

module _ (v : ℕ → Float) (n : ℕ → Number) (density : Float) where
  abbrev Passes : Bool → Option FinTab → Type 0
  Passes foil tab =
      T (passes (body_list foil tab v n density) (judge_all (body_list foil tab v n density) [] parts) (tests tab))

  all_pass : (foil : Bool) (tab : Option FinTab) → Passes foil tab
  unfolding round of_bits
  all_pass false None = tt
  all_pass false (Some tab) = tt
  all_pass true None = tt
  all_pass true (Some tab) = tt

-- ---- what is known
zero_less : (v : Number) → minus v equals zero_number less v
zero_less (number p n d) = record { same = simp plain (omega arith) }

less_known : {x : Float} {v : Number} {k j : ℕ} (U : Size) → Valued x v k j U → Valued (neg x) (zero_number less v) k j U
less_known {v = v} U h = equalled (neg_known U h) (zero_number less v) (less_is zero_number v (pow_pos 0) h.is) (zero_less v)

-- ---- an f64 with the sign plus, added to 0
zero_plus : (x : Float) → T (fits binary64 x) → Plus x → bits 0 ⊕ x ≡ x
unfolding float_add sum_of_parts of_bits
zero_plus nan f h = absurd h
zero_plus (inf s) f h = refl
zero_plus (fin true m e) f h = absurd (true≢false h)
zero_plus (fin false m e) f h =
    round_value false m e (0 * 1 * down e + m * up e * 1) (1 * down e) f (mul-pos (pow_pos 0) (down_pos e)) (go (m * up e) (down e))
  where
    go : (N D : ℕ) → (0 * 1 * D + N * 1) * D ≡ N * (1 * D)
    go N D = simp plain

-- ---- a body turned by nothing and joined alone, its mass w beside its own
abbrev centre_by : Body → Float → Vector
centre_by t w =
    vector ((bits 0 ⊕ t.centre_m.x ⊗ t.mass_kg) ⊘ w) ((bits 0 ⊕ t.centre_m.y ⊗ t.mass_kg) ⊘ w)
    ((bits 0 ⊕ t.centre_m.z ⊗ t.mass_kg) ⊘ w)

abbrev tensor_by : Body → Float → Tensor
tensor_by t w =
    add_tensors zero_tensor
    (add_tensors t.inertia_kg_m2 (scale_tensor (offset_tensor_of (subtract_vectors t.centre_m (centre_by t w))) t.mass_kg))

-- a join of one asks for the first alone
first_only : (f : ℕ → Body) → join_of f 1 ≡ join_of (λ k. f 0) 1
unfolding join_of sums_of inertia_of in_order
first_only f = refl

module _ (t : Body) (p : T (positive t.mass_kg)) (o : bits 0 ⊕ t.mass_kg ≡ t.mass_kg) where
  centre_alone : (join_of (λ k. t) 1).centre_m ≡ centre_by t t.mass_kg
  unfolding join_of sums_of in_order
  centre_alone =
      heavy_centre (sums_of (λ k. t) 1) (subst (λ (m : Float). T (positive m)) (sym o) p) ∙ ap (λ (w : Float). centre_by t w) o

  tensor_alone : (join_of (λ k. t) 1).inertia_kg_m2 ≡ tensor_by t t.mass_kg
  unfolding join_of inertia_of inertia_about_of in_order
  tensor_alone = ap (λ (c : Vector). inertia_of (λ k. t) c 1) centre_alone

abbrev list_of : (ℕ → Float) → List Float
list_of v = v 0 ∷ v 1 ∷ v 2 ∷ v 3 ∷ v 4 ∷ v 5 ∷ v 6 ∷ []

abbrev turned_of : (ℕ → Float) → Float → Body
turned_of v density = rotated_of (plate_body (list_of v) density) identity

-- ---- its numbers are the terms' values
module _ (foil : Bool) (tab : Option FinTab) (v : ℕ → Float) (n : ℕ → Number) (density : Float) where
  abbrev at_term : Shared → Float
  at_term s = value (body_list foil tab v n density) (expand [] (bind_all parts s))

  x_term : (centre_by (turned_of v density) (density ⊗ v 0)).x ≡ at_term (joined_s 0)
  unfolding rotated_of plate_body of_origin_tensor
  x_term = refl

  xx_term : number_at (tensor_by (turned_of v density) (density ⊗ v 0)) 0 ≡ at_term (tensor_s 0)
  unfolding rotated_of turn_tensor plate_body of_origin_tensor inertia_about_of
  xx_term = refl

  yy_term : number_at (tensor_by (turned_of v density) (density ⊗ v 0)) 1 ≡ at_term (tensor_s 1)
  unfolding rotated_of turn_tensor plate_body of_origin_tensor inertia_about_of
  yy_term = refl

  zz_term : number_at (tensor_by (turned_of v density) (density ⊗ v 0)) 2 ≡ at_term (tensor_s 2)
  unfolding rotated_of turn_tensor plate_body of_origin_tensor inertia_about_of
  zz_term = refl

  xz_term : number_at (tensor_by (turned_of v density) (density ⊗ v 0)) 4 ≡ at_term (tensor_s 4)
  unfolding rotated_of turn_tensor plate_body of_origin_tensor inertia_about_of
  xz_term = refl

-- ---- exactly: times the volume, the tensor is the textbook's. The places are V·(1/V), V, 1/V, r1, r2, x1, x2, rx, tau2 and the density.
abbrev behind_e : Expression
behind_e = ratio 0 0 take given 5

abbrev mass_e : Expression
mass_e = given 9 mul given 1

abbrev times_e : ℕ → Expression
times_e zero = ((given 8 add given 6) mul given 9 take square_e (behind_e mul given 2) mul mass_e) mul given 1
times_e (suc zero) = ((given 4 add given 6) mul given 9 take (square_e (given 3 mul given 2) add square_e
    (behind_e mul given 2)) mul mass_e) mul given 1
times_e (suc (suc zero)) = ((given 4 add given 8) mul given 9 take square_e (given 3 mul given 2) mul mass_e) mul given 1
times_e (suc (suc (suc i))) = (given 7 mul given 9 add (given 3 mul given 2) mul (behind_e mul given 2) mul mass_e) mul given 1

abbrev clear_e : ℕ → Expression → Expression
clear_e zero o = given 9 mul ((given 8 add given 6) mul given 1) take given 9 mul square_e (given 5) mul (o mul o)
clear_e (suc zero) o = given 9 mul ((given 4 add given 6) mul given 1) take given 9 mul (square_e (given 3) add square_e (given 5)) mul
    (o mul o)
clear_e (suc (suc zero)) o = given 9 mul ((given 4 add given 8) mul given 1) take given 9 mul square_e (given 3) mul (o mul o)
clear_e (suc (suc (suc i))) o = given 9 mul (given 7 mul given 1) take given 9 mul (given 3 mul given 5) mul (o mul o)

abbrev book_e : ℕ → Expression
book_e zero = given 9 mul ((given 8 add given 6) mul given 1 take square_e (given 5))
book_e (suc zero) = given 9 mul ((given 4 add given 6) mul given 1 take (square_e (given 3) add square_e (given 5)))
book_e (suc (suc zero)) = given 9 mul ((given 4 add given 8) mul given 1 take square_e (given 3))
book_e (suc (suc (suc i))) = given 9 mul (given 7 mul given 1 take given 3 mul given 5)

-- the same of fractions V, r1, r2, x1, x2, rx, tau2 and the density
module _ (U ι : Number) (i_u : IsNumber U) (iι : IsNumber ι) (pair : U times ι equals number 1 0 1) (rest : List Number)
    (ir : AllNumbers rest) where
  abbrev paired : List Number
  paired = (U times ι) ∷ U ∷ ι ∷ rest

  abbrev unpaired : List Number
  unpaired = number 1 0 1 ∷ U ∷ ι ∷ rest

  paired_are : AllNumbers paired
  paired_are = (times_is U ι i_u iι, (i_u, (iι, ir)))

  unpaired_are : AllNumbers unpaired
  unpaired_are = (pow_pos 0, (i_u, (iι, ir)))

  all_itself : (l : List Number) → AllEqual l l
  all_itself [] = tt
  all_itself (x ∷ l) = (itself, all_itself l)

  cleared : (s m o c t : Expression) → T (vanishes (normal (s take m))) → evaluate (among paired) m ≡ evaluate (among paired) o
      → evaluate (among unpaired) o ≡ evaluate (among unpaired) c → T (vanishes (normal (c take t)))
      → evaluate (among paired) s equals evaluate (among unpaired) t
  cleared s m o c t first e h last =
      trans (evaluated_is paired paired_are o)
      (subst (λ (x : Number). evaluate (among paired) s equals x) e (equal_by paired paired_are s m first))
      (trans (evaluated_is unpaired unpaired_are o)
      (evaluated_equal paired unpaired paired_are unpaired_are (pair, (itself, (itself, all_itself rest))) o)
      (subst (λ (x : Number). x equals evaluate (among unpaired) t) (sym h) (equal_by unpaired unpaired_are c t last)))

-- ---- the units, without their powers
second_power : (x : ℕ) → x ^ 2 ≡ x * x
second_power x = pow-suc x 1 ∙ ap (λ (y : ℕ). y * x) (first_power x)

module _ (f : Fin) (b d : ℕ) (g : Sizes f far b d) where
  abbrev v : ℕ → Float
  v i = integral_at f i

  abbrev n : ℕ → Number
  n i = exactly f i

  abbrev B : List Size
  B = bases f far b d g

  abbrev body : List Given
  body = body_list (is_foil f.section) f.tab v n f.density

  known : AllKnown B body
  known =
      let k = seven_known f far b d g in
      let k1 = k 1 (lit≤ tt) tt in
      let k2 = k 2 (lit≤ tt) tt in
      let k3 = less_known (unit_by B (unit_of 3) []) (k 3 (lit≤ tt) tt) in
      let k4 = k 4 (lit≤ tt) tt in
      let k5 = k 5 (lit≤ tt) tt in
      let k6 = k 6 (lit≤ tt) tt in
      let v = (masses_known f far b d g).0 in
      let ρ = density_own f far b d g in
      let m = mass_known f far b d g in
      let w = mass_lowest f far b d g in
      (v, ((k1, tt), ((k2, tt), ((k3, tt), ((k4, tt), ((k5, tt), ((k6, tt), (ρ, ((m, w), (g.root_most, (g.thickness_most, tt)))))))))))

  abbrev term_of : Shared → Float
  term_of s = value body (expand [] (bind_all parts s))

  abbrev IsNear : Test → Type 0
  IsNear (test s e K p) = Near (term_of s) (evaluate (numbers_of body) e) ((K * 2 ^ 30) roundoffs unit_by B p [])

  all_near : (l : List Test) → T (passes body (judge_all body [] parts) l) → (i : ℕ) → i < length l
      → IsNear (get_or l i (test (local 0) (ratio 0 0) 0 []))
  all_near [] t i h = absurd (not-suc-le-zero h)
  all_near (test s e K p ∷ l) t zero h =
      all_within B g.ranges body known parts s e (K * 2 ^ 30) p []
      (and_l (nearer body e (K * 2 ^ 30) p [] (judge_in body (judge_all body [] parts) s)) (passes body (judge_all body [] parts) l) t)
  all_near (test s e K p ∷ l) t (suc i) h =
      all_near l (and_r (nearer body e (K * 2 ^ 30) p [] (judge_in body (judge_all body [] parts) s)) (passes body (judge_all body [] parts)
      l) t) i
      (le_of_suc-le-suc h)

  -- by its place among the tests
  tested : (i : ℕ) → i < 20 → IsNear (get_or (tests f.tab) i (test (local 0) (ratio 0 0) 0 []))
  tested = all_near (tests f.tab) (all_pass v n f.density (is_foil f.section) f.tab)

  -- ---- the body: turned by nothing and joined alone
  abbrev μ : Float
  μ = mass_of f far b d g

  mass_positive : T (positive μ)
  mass_positive = (mass_lowest f far b d g).0

  abbrev turned : Body
  turned = turned_of v f.density

  abbrev pub alone : Body
  alone = join_of (λ k. turned) 1

  whole_mass : bits 0 ⊕ μ ≡ μ
  whole_mass = zero_plus μ (mul-fits binary64 f.density (v 0)) (product_plus f.density (v 0) g.density_positive
      (volume_lowest f far b d g).0)

  centre_is : alone.centre_m ≡ centre_by turned μ
  unfolding rotated_of plate_body of_origin_tensor
  centre_is = centre_alone turned mass_positive whole_mass

  tensor_is : alone.inertia_kg_m2 ≡ tensor_by turned μ
  unfolding rotated_of plate_body of_origin_tensor
  tensor_is = tensor_alone turned mass_positive whole_mass

  -- ---- what is exactly 0
  one_finite : T (finite one)
  unfolding of_bits
  one_finite = tt

  half_finite : T (finite half)
  unfolding of_bits
  half_finite = tt

  mass_finite : T (finite μ)
  mass_finite = positive-finite μ mass_positive

  density_finite : T (finite f.density)
  density_finite = positive-finite f.density g.density_positive

  y_none : AtMost 0 1 turned.centre_m.y
  unfolding rotated_of plate_body of_origin_tensor
  y_none =
      none_plus _ _ (none_plus _ _ (none_times (bits 0) _ zero_most (tested 5 (lit≤ tt)).finite)
      (times_none one (bits 0) one_finite zero_most)) (none_times (bits 0) _ zero_most (tested 6 (lit≤ tt)).finite)

  middle_none : AtMost 0 1 (centre_by turned μ).y
  unfolding rotated_of plate_body of_origin_tensor
  middle_none = none_over _ μ (none_plus (bits 0) _ zero_most (none_times _ μ y_none mass_finite)) mass_positive

  -- the plate's own numbers xy and yz, and the rows of its matrix that are turned
  xy_none : AtMost 0 1 (number_at (plate_body (list_of v) f.density).inertia_kg_m2 3)
  unfolding plate_body of_origin_tensor inertia_about_of
  xy_none =
      none_less _ _ (none_times (bits 0) f.density zero_most density_finite)
      (none_plus (bits 0) _ zero_most (none_times _ μ (none_less (bits 0) _ zero_most
      (times_none _ _ (tested 9 (lit≤ tt)).finite (none_less (bits 0)
      (bits 0) zero_most zero_most)))
      mass_finite))

  yz_none : AtMost 0 1 (number_at (plate_body (list_of v) f.density).inertia_kg_m2 5)
  unfolding plate_body of_origin_tensor inertia_about_of
  yz_none =
      none_less _ _ (none_times (bits 0) f.density zero_most density_finite)
      (none_plus (bits 0) _ zero_most (none_times _ μ (none_less (bits 0) _ zero_most
      (none_times _ _ (none_less (bits 0) (bits 0) zero_most zero_most) (tested 10 (lit≤ tt)).finite))
      mass_finite))

  -- sums of which one part is 0 times a number, one that number times 0 and one a zero
  first_none : (x y z : Float) → AtMost 0 1 x → T (finite y) → T (finite z) → AtMost 0 1 (one ⊗ x ⊕ bits 0 ⊗ y ⊕ bits 0 ⊗ z)
  first_none x y z h i j =
      none_plus _ _ (none_plus _ _ (times_none one x one_finite h) (none_times (bits 0) y zero_most i)) (none_times (bits 0) z zero_most j)

  second_none : (x y z : Float) → T (finite x) → AtMost 0 1 y → T (finite z) → AtMost 0 1 (bits 0 ⊗ x ⊕ one ⊗ y ⊕ bits 0 ⊗ z)
  second_none x y z h i j =
      none_plus _ _ (none_plus _ _ (none_times (bits 0) x zero_most h) (times_none one y one_finite i)) (none_times (bits 0) z zero_most j)

  third_none : (x y z : Float) → T (finite x) → T (finite y) → AtMost 0 1 z → AtMost 0 1 (bits 0 ⊗ x ⊕ bits 0 ⊗ y ⊕ one ⊗ z)
  third_none x y z h i j =
      none_plus _ _ (none_plus _ _ (none_times (bits 0) x zero_most h) (none_times (bits 0) y zero_most i)) (times_none one z one_finite j)

  across_first : (x y z : Float) → AtMost 0 1 x → T (finite y) → T (finite z) → AtMost 0 1 (x ⊗ one ⊕ y ⊗ bits 0 ⊕ z ⊗ bits 0)
  across_first x y z h i j =
      none_plus _ _ (none_plus _ _ (none_times x one h one_finite) (times_none y (bits 0) i zero_most)) (times_none z (bits 0) j zero_most)

  across_second : (x y z : Float) → T (finite x) → AtMost 0 1 y → T (finite z) → AtMost 0 1 (x ⊗ bits 0 ⊕ y ⊗ one ⊕ z ⊗ bits 0)
  across_second x y z h i j =
      none_plus _ _ (none_plus _ _ (times_none x (bits 0) h zero_most) (none_times y one i one_finite)) (times_none z (bits 0) j zero_most)

  across_third : (x y z : Float) → T (finite x) → T (finite y) → AtMost 0 1 z → AtMost 0 1 (x ⊗ bits 0 ⊕ y ⊗ bits 0 ⊕ z ⊗ one)
  across_third x y z h i j =
      none_plus _ _ (none_plus _ _ (times_none x (bits 0) h zero_most) (times_none y (bits 0) i zero_most)) (none_times z one j one_finite)

  turned_xy : AtMost 0 1 (number_at turned.inertia_kg_m2 3)
  unfolding rotated_of turn_tensor plate_body of_origin_tensor inertia_about_of
  turned_xy =
      times_none half _ half_finite (none_plus _ _
      (across_second _ _ _ (tested 11 (lit≤ tt)).finite (first_none _ _ _ xy_none (tested 17 (lit≤ tt)).finite yz_none.finite)
      (tested 12 (lit≤ tt)).finite)
      (across_first _ _ _ (second_none _ _ _ (tested 16 (lit≤ tt)).finite xy_none (tested 19 (lit≤ tt)).finite)
      (tested 13 (lit≤ tt)).finite
      (second_none _ _ _ (tested 19 (lit≤ tt)).finite yz_none (tested 18 (lit≤ tt)).finite).finite))

  turned_yz : AtMost 0 1 (number_at turned.inertia_kg_m2 5)
  unfolding rotated_of turn_tensor plate_body of_origin_tensor inertia_about_of
  turned_yz =
      times_none half _ half_finite (none_plus _ _
      (across_third _ _ _ (second_none _ _ _ (tested 16 (lit≤ tt)).finite xy_none (tested 19 (lit≤ tt)).finite).finite
      (tested 13 (lit≤ tt)).finite (second_none _ _ _ (tested 19 (lit≤ tt)).finite yz_none (tested 18 (lit≤ tt)).finite))
      (across_second _ _ _ (tested 14 (lit≤ tt)).finite
      (third_none _ _ _ xy_none.finite (tested 17 (lit≤ tt)).finite yz_none) (tested 15 (lit≤ tt)).finite))

  pub xy_alone : AtMost 0 1 (number_at alone.inertia_kg_m2 3)
  unfolding rotated_of plate_body of_origin_tensor
  xy_alone =
      subst (λ (t : Tensor). AtMost 0 1 (number_at t 3)) (sym tensor_is)
      (none_plus (bits 0) _ zero_most (none_plus _ _ turned_xy (none_times _ μ (none_less (bits 0) _ zero_most
      (times_none _ _ (tested 7 (lit≤ tt)).finite
      (none_less _ _ y_none middle_none))) mass_finite)))

  pub yz_alone : AtMost 0 1 (number_at alone.inertia_kg_m2 5)
  unfolding rotated_of plate_body of_origin_tensor
  yz_alone =
      subst (λ (t : Tensor). AtMost 0 1 (number_at t 5)) (sym tensor_is)
      (none_plus (bits 0) _ zero_most (none_plus _ _ turned_yz (none_times _ μ (none_less (bits 0) _ zero_most
      (none_times _ _ (none_less _ _ y_none middle_none) (tested 8 (lit≤ tt)).finite)) mass_finite)))

  pub y_alone : AtMost 0 1 alone.centre_m.y
  y_alone = subst (λ (c : Vector). AtMost 0 1 c.y) (sym centre_is) middle_none

  -- ---- exactly
  abbrev ι : Number
  ι = inverse_of (n 0)

  n_is : (i : ℕ) → IsNumber (n i)
  n_is i = is_exactly f far b d g i

  ι-is : IsNumber ι
  ι-is = numbers_are B g.ranges body known 1

  abbrev rest_list : List Number
  rest_list = n 1 ∷ n 2 ∷ n 3 ∷ n 4 ∷ n 5 ∷ n 6 ∷ value_of f.density ∷ []

  rest_are : AllNumbers rest_list
  rest_are = (n_is 1, (n_is 2, (n_is 3, (n_is 4, (n_is 5, (n_is 6, (Counts.value_is f.density, tt)))))))

  abbrev clear : (s m o c t : Expression) → T (vanishes (normal (s take m)))
      → evaluate (among (paired (n 0) ι (n_is 0) ι-is (inverse_pair (n 0) (volume_from_zero f far b d g)) rest_list rest_are)) m
      ≡ evaluate (among (paired (n 0) ι (n_is 0) ι-is (inverse_pair (n 0) (volume_from_zero f far b d g)) rest_list rest_are)) o
      → evaluate (among (unpaired (n 0) ι (n_is 0) ι-is (inverse_pair (n 0) (volume_from_zero f far b d g)) rest_list rest_are)) o
      ≡ evaluate (among (unpaired (n 0) ι (n_is 0) ι-is (inverse_pair (n 0) (volume_from_zero f far b d g)) rest_list rest_are)) c
      → T (vanishes (normal (c take t)))
      → evaluate (among (paired (n 0) ι (n_is 0) ι-is (inverse_pair (n 0) (volume_from_zero f far b d g)) rest_list rest_are)) s
      equals evaluate (among (unpaired (n 0) ι (n_is 0) ι-is (inverse_pair (n 0) (volume_from_zero f far b d g)) rest_list rest_are)) t
  clear = cleared (n 0) ι (n_is 0) ι-is (inverse_pair (n 0) (volume_from_zero f far b d g)) rest_list rest_are

  abbrev pub book : ℕ → Number
  book i = evaluate (among (number 1 0 1 ∷ n 0 ∷ ι ∷ rest_list)) (book_e i)

  abbrev W : ℕ → Number
  W i = evaluate (numbers_of body) (tensor_e i)

  W_is : (i : ℕ) → IsNumber (W i)
  W_is i = evaluate_is (numbers_of body) (numbers_are B g.ranges body known) (tensor_e i)

  book_is : (i : ℕ) → IsNumber (book i)
  book_is i = evaluated_is (number 1 0 1 ∷ n 0 ∷ ι ∷ rest_list) (pow_pos 0, (n_is 0, (ι-is, rest_are))) (book_e i)

  times_book : (i : ℕ) → i < 4 → W i times n 0 equals book i
  times_book zero l = clear (times_e 0) (clear_e 0 (given 1 mul given 2)) (clear_e 0 (given 0)) (clear_e 0 (ratio 1 0))
      (book_e 0) tt refl refl tt
  times_book (suc zero) l = clear (times_e 1) (clear_e 1 (given 1 mul given 2)) (clear_e 1 (given 0)) (clear_e 1 (ratio 1 0))
      (book_e 1) tt refl refl tt
  times_book (suc (suc zero)) l =
      clear (times_e 2) (clear_e 2 (given 1 mul given 2)) (clear_e 2 (given 0)) (clear_e 2 (ratio 1 0)) (book_e 2) tt refl refl tt
  times_book (suc (suc (suc zero))) l =
      clear (times_e 3) (clear_e 3 (given 1 mul given 2)) (clear_e 3 (given 0)) (clear_e 3 (ratio 1 0)) (book_e 3) tt refl refl tt
  times_book (suc (suc (suc (suc i)))) l = absurd (past i l)
    where
      past : (i : ℕ) → suc (suc (suc (suc i))) < 4 → ⊥
      past i l = omega arith

  times_out : (n 1 times ι) times n 0 equals n 1
  times_out = clear ((given 3 mul given 2) mul given 1) (given 3 mul (given 1 mul given 2)) (given 3 mul given 0)
      (given 3 mul ratio 1 0) (given 3)
      tt refl refl tt

  -- ---- near
  abbrev pub tensor_near : ℕ → ℕ → Type 0
  tensor_near k i = Near (number_at alone.inertia_kg_m2 k) (W i) ((tensor_error f.tab * 2 ^ 30) roundoffs unit_by B tensor_unit [])

  by_tensor : (k i : ℕ) (s : Shared) → number_at (tensor_by turned μ) k ≡ term_of s
      → IsNear (test s (tensor_e i) (tensor_error f.tab) tensor_unit)
      → tensor_near k i
  by_tensor k i s e h =
      subst (λ (x : Float). Near x (W i) ((tensor_error f.tab * 2 ^ 30) roundoffs unit_by B tensor_unit []))
      (sym (ap (λ (t : Tensor). number_at t k) tensor_is ∙ e)) h

  pub xx_near : tensor_near 0 0
  xx_near = by_tensor 0 0 (tensor_s 0) (xx_term (is_foil f.section) f.tab v n f.density) (tested 1 (lit≤ tt))

  pub yy_near : tensor_near 1 1
  yy_near = by_tensor 1 1 (tensor_s 1) (yy_term (is_foil f.section) f.tab v n f.density) (tested 2 (lit≤ tt))

  pub zz_near : tensor_near 2 2
  zz_near = by_tensor 2 2 (tensor_s 2) (zz_term (is_foil f.section) f.tab v n f.density) (tested 3 (lit≤ tt))

  pub xz_near : tensor_near 4 3
  xz_near = by_tensor 4 3 (tensor_s 4) (xz_term (is_foil f.section) f.tab v n f.density) (tested 4 (lit≤ tt))

  pub x_near : Near alone.centre_m.x (n 1 times ι) ((outward_error f.tab * 2 ^ 30) roundoffs unit_by B (place 4) [])
  x_near =
      subst (λ (x : Float). Near x (n 1 times ι) ((outward_error f.tab * 2 ^ 30) roundoffs unit_by B (place 4) []))
      (sym (ap (λ (c : Vector). c.x) centre_is ∙ x_term (is_foil f.section) f.tab v n f.density)) (tested 0 (lit≤ tt))

-- ---- sizes without powers
length_unit : (r s c t b q : ℕ) → r ^ 0 * (s ^ 0 * (c ^ 0 * (t ^ 0 * (b ^ 1 * 1)))) * 1 ≡ b
length_unit r s c t b q = rw (pow-zero r, pow-zero s, pow-zero c, pow-zero t, first_power b) (simp plain)

tensor_unit_lem : (r s c t b q : ℕ) → r ^ 1 * (s ^ 1 * (c ^ 0 * (t ^ 1 * (b ^ 2 * (q ^ 1 * 1))))) * 1 ≡ b * b * (q * (t * (r * s)))
tensor_unit_lem r s c t b q = rw (first_power r, first_power s, pow-zero c, first_power t, second_power b, first_power q) (simp plain)

-- ---- the call
module _ (section : Section) (p : Plate) (m : Mount) (points : List Float) (L : ℕ) (start : List Float) (r : Figures)
    (exit : List Float) (b d : ℕ)
    (plain_section : NotRounded section) (g : SectionGiven section p m points L start r exit)
    (q : OneStrip 1 4 section p r.intervals) (single : Alone p m b d) (beside : TabBeside 1 p.tab p m.radius) where
  abbrev radius_f64 : T (fits binary64 m.radius)
  radius_f64 = single.radius_f64

  abbrev fin' : Fin
  fin' = Fins.fin_at section p m points L start r exit plain_section g radius_f64 far q m.radius

  reached : Fins.Reached p m.radius b d
  reached = record {
    is_size = single.is_size;
    most = single.most;
    root_most = single.root_most;
    span_most = single.span_most;
    radius_most = single.radius_most;
    thickness_most = single.thickness_most;
  }

  sizes : Sizes fin' far b d
  sizes = Fins.sizes section p m points L start r exit plain_section g radius_f64 far q m.radius b d reached beside

  abbrev S : Float
  S = Fins.S section p m points L start r exit plain_section g radius_f64 far q

  -- ---- what the call works with
  integrals_are : Called.integrals section p m points L (length start) r g.answers.call.0 g.given g.no_fillet_lem ≡ list_of
      (integral_at fin')
  integrals_are =
      let total = Fins.total_is section p m points L start r exit plain_section g radius_f64 far q in
      rw (
        total 0 (lit≤ tt),
        total 1 (lit≤ tt),
        total 2 (lit≤ tt),
        total 3 (lit≤ tt),
        total 4 (lit≤ tt),
        total 5 (lit≤ tt),
        total 6 (lit≤ tt),
      )

  body_is : r.body ≡ alone fin' b d sizes
  body_is =
      set_body section p m points L (length start) r g.answers.call.0 g.given g.no_fillet_lem single.no_cant
      ∙ ap (λ (k : ℕ). joined_copies (plate_body
      (Called.integrals section p m points L (length start) r g.answers.call.0 g.given g.no_fillet_lem) p.density)
      m.base k) single.one_fin
      ∙ ap (λ (v : List Float). joined_copies (plate_body v p.density) m.base 1) integrals_are
      ∙ first_only (rolled_copy (plate_body (list_of (integral_at fin')) p.density) m.base 1)
      ∙ ap (λ (x : Body). join_of (λ k. x) 1) (only_copy (plate_body (list_of (integral_at fin')) p.density) m.base single.no_roll)

  -- ---- in fractions
  abbrev exact : Integrals
  exact = exact_integrals section p m

  field_is : (i : ℕ) → i < 7 → IsFraction (exactly fin' i) (Fins.field_of exact i)
  field_is = Fins.field_is section p m points L start r exit plain_section g radius_f64 far q m.radius b d reached beside

  heavy : T (positive p.density)
  heavy = sizes.density_positive

  abbrev ι' : Number
  ι' = inverse_of (exactly fin' 0)

  -- the numbers and fractions of `book_e`, of which the first and the third place are not asked for
  abbrev book_numbers : List Number
  book_numbers =
      number 1 0 1 ∷ exactly fin' 0 ∷ number 1 0 1 ∷ exactly fin' 1 ∷ exactly fin' 2 ∷ exactly fin' 3 ∷ exactly fin' 4 ∷
      exactly fin' 5 ∷ exactly fin' 6 ∷
      value_of p.density ∷ []

  abbrev book_fractions : List Fraction
  book_fractions =
      (pos 1 over 1) ∷ exact.volume ∷ (pos 1 over 1) ∷ exact.r1 ∷ exact.r2 ∷ exact.x1 ∷ exact.x2 ∷ exact.rx ∷ exact.tau2 ∷
      fraction_of p.density ∷ []

  book_are : AreFractions book_numbers book_fractions
  book_are =
      let o = whole_fraction 1 1 in
      let f = field_is in
      let ρ = Fins.density_fraction section p m points L start r exit plain_section g radius_f64 far q in
      let f6 = f 6 (lit≤ tt) in
      (o, (f 0 (lit≤ tt), (o, (f 1 (lit≤ tt), (f 2 (lit≤ tt), (f 3 (lit≤ tt), (f 4 (lit≤ tt), (f 5 (lit≤ tt), (f6, (ρ, tt))))))))))

  book_fraction : (i : ℕ) → IsFraction (book fin' b d sizes i) (fraction_in (among_fractions book_fractions) (book_e i))
  book_fraction zero = expression_fraction book_numbers book_fractions book_are (book_e 0)
  book_fraction (suc zero) = expression_fraction book_numbers book_fractions book_are (book_e 1)
  book_fraction (suc (suc zero)) = expression_fraction book_numbers book_fractions book_are (book_e 2)
  book_fraction (suc (suc (suc i))) = expression_fraction book_numbers book_fractions book_are (book_e 3)

  abbrev B' : List Size
  B' = bases fin' far b d sizes

  abbrev K : ℕ
  K = tensor_error p.tab

  -- K roundoffs of the unit
  abbrev tops : ℕ
  tops = K * (b * b) * (num p.density * (num p.thickness * (num p.root * num p.span)))

  abbrev bottoms : ℕ
  bottoms = d * d * 2 ^ 53 * (den p.density * (den p.thickness * (den p.root * den p.span)))

  bottoms_some : 0 < bottoms
  bottoms_some =
      mul-pos (mul-pos (mul-pos single.is_size single.is_size) (pow_pos 53))
      (mul-pos (den_pos p.density) (mul-pos (den_pos p.thickness) (mul-pos (den_pos p.root) (den_pos p.span))))

  abbrev error : Fraction
  error =
      product (pos (K * (b * b)) over (d * d * 2 ^ 53))
      (product (fraction_of p.density) (product (fraction_of p.thickness) (product (fraction_of p.root) (fraction_of p.span))))

  error_fraction : IsFraction (number tops 0 bottoms) error
  error_fraction =
      let D = p.density in
      let k = p.thickness in
      let R = p.root in
      let P = p.span in
      product_fraction (K * (b * b)) (d * d * 2 ^ 53) (num D * (num k * (num R * num P))) (den D * (den k * (den R * den P)))
      (pos (K * (b * b)) over (d * d * 2 ^ 53))
      (product (fraction_of D) (product (fraction_of k) (product (fraction_of R) (fraction_of P))))
      (whole_fraction (K * (b * b)) (d * d * 2 ^ 53))
      (product_fraction (num D) (den D) (num k * (num R * num P)) (den k * (den R * den P)) (fraction_of D) (product (fraction_of k)
      (product (fraction_of R) (fraction_of P)))
      (positive_fraction D heavy)
      (product_fraction (num k) (den k) (num R * num P) (den R * den P) (fraction_of k) (product (fraction_of R) (fraction_of P))
      (positive_fraction k sizes.thickness_positive)
      (product_fraction (num R) (den R) (num P) (den P) (fraction_of R) (fraction_of P) (positive_fraction R sizes.root_positive)
      (positive_fraction P sizes.span_positive))))

  unit_small : ((K * 2 ^ 30) roundoffs unit_by B' tensor_unit []) upto (tops per bottoms)
  unit_small =
      subst (λ (t : ℕ). ((K * 2 ^ 30) roundoffs (t per (mono bottom B' tensor_unit * mono top B' [] * 2 ^ 30))) upto (tops per bottoms))
      (sym (tensor_unit_lem (num p.root) (num p.span) (num S) (num p.thickness) b (num p.density)))
      (subst (λ (t : ℕ). ((K * 2 ^ 30) roundoffs ((b * b * (num p.density * (num p.thickness * (num p.root * num
      p.span)))) per (t * 2 ^ 30))) upto (tops per bottoms))
      (sym (tensor_unit_lem (den p.root) (den p.span) (den S) (den p.thickness) d (den p.density)))
      (go K (b * b) (num p.density * (num p.thickness * (num p.root * num p.span))) (d * d)
      (den p.density * (den p.thickness * (den p.root * den p.span))) (2 ^ 30) (2 ^ 53)))
    where
      go : (K b n d e P Q : ℕ) → K * P * (b * n) * (d * Q * e) ≤ K * b * n * (d * e * P * Q)
      go K b n d e P Q = simp plain (le_refl _)

  number_near : (x : Float) (i : ℕ) → i < 4 → Near x (W fin' b d sizes i) ((K * 2 ^ 30) roundoffs unit_by B' tensor_unit [])
      → (h : Fraction)
      → IsFraction (book fin' b d sizes i) h
      → Apart (product error exact.volume) (product (fraction_of x) exact.volume) h
  number_near x i l z h e =
      to_fractions x (W fin' b d sizes i) (exactly fin' 0) (book fin' b d sizes i) ((K * 2 ^ 30) roundoffs unit_by B' tensor_unit [])
      tops bottoms error
      exact.volume h (W_is fin' b d sizes i) (n_is fin' b d sizes 0) (book_is fin' b d sizes i) (volume_from_zero fin' far b d sizes)
      (Counts.roundoffs_is (K * 2 ^ 30) (unit_by B' tensor_unit []) (unit_real B' sizes.ranges tensor_unit [])) bottoms_some error_fraction
      (field_is 0 (lit≤ tt)) e z unit_small (times_book fin' b d sizes i l)

  tensor_near_lem : TensorNear section p m b d K (alone fin' b d sizes).inertia_kg_m2
  tensor_near_lem =
      record {
        xx = number_near _ 0 (lit≤ tt) (xx_near fin' b d sizes) _ (book_fraction 0);
        yy = number_near _ 1 (lit≤ tt) (yy_near fin' b d sizes) _ (book_fraction 1);
        zz = number_near _ 2 (lit≤ tt) (zz_near fin' b d sizes) _ (book_fraction 2);
        xy = xy_alone fin' b d sizes;
        xz = number_near _ 3 (lit≤ tt) (xz_near fin' b d sizes) _ (book_fraction 3);
        yz = yz_alone fin' b d sizes;
      }

  abbrev O : ℕ
  O = outward_error p.tab

  length_small : ((O * 2 ^ 30) roundoffs unit_by B' (place 4) []) upto ((O * b) per (d * 2 ^ 53))
  length_small =
      subst (λ (t : ℕ). ((O * 2 ^ 30) roundoffs (t per (mono bottom B' (place 4) * mono top B' [] * 2 ^ 30))) upto ((O * b) per
      (d * 2 ^ 53)))
      (sym (length_unit (num p.root) (num p.span) (num S) (num p.thickness) b 0))
      (subst (λ (t : ℕ). ((O * 2 ^ 30) roundoffs (b per (t * 2 ^ 30))) upto ((O * b) per (d * 2 ^ 53)))
      (sym (length_unit (den p.root) (den p.span) (den S) (den p.thickness) d 0)) (go O b d (2 ^ 30) (2 ^ 53)))
    where
      go : (O b d P Q : ℕ) → O * P * b * (d * Q) ≤ O * b * (d * P * Q)
      go O b d P Q = simp plain (le_refl _)

  centre_near : OffAxisNear section p m b d O (alone fin' b d sizes).centre_m
  centre_near =
      record {
        outward =
            to_fractions (alone fin' b d sizes).centre_m.x (exactly fin' 1 times ι') (exactly fin' 0) (exactly fin' 1)
            ((O * 2 ^ 30) roundoffs unit_by B' (place 4) []) (O * b) (d * 2 ^ 53) (pos (O * b) over (d * 2 ^ 53)) exact.volume exact.r1
            (times_is (exactly fin' 1) ι' (n_is fin' b d sizes 1) (ι-is fin' b d sizes)) (n_is fin' b d sizes 0) (n_is fin' b d sizes 1)
            (volume_from_zero fin' far b d sizes)
            (Counts.roundoffs_is (O * 2 ^ 30) (unit_by B' (place 4) []) (unit_real B' sizes.ranges (place 4) []))
            (mul-pos single.is_size (pow_pos 53)) (whole_fraction (O * b) (d * 2 ^ 53)) (field_is 0 (lit≤ tt)) (field_is 1 (lit≤ tt))
            (x_near fin' b d sizes) length_small (times_out fin' b d sizes);
        aside = y_alone fin' b d sizes;
      }

  fin_near : FinNear section p m b d r
  fin_near =
      record {
        tensor = subst (λ (x : Body). TensorNear section p m b d K x.inertia_kg_m2) (sym body_is) tensor_near_lem;
        centre = subst (λ (x : Body). OffAxisNear section p m b d O x.centre_m) (sym body_is) centre_near;
      }

pub ordinary_inertia : OrdinaryInertia
ordinary_inertia = fin_near
