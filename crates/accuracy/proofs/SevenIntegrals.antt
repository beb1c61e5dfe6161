-- The seven volume integrals of a fin that one piece is enough for and of its tab, of square or airfoil section, and its mass: near the
-- exact ones by computed bounds. Assumes nothing.
use Rattle.std.specs.Prelude.{Option, Some, None}
use lib.ListN.{get_or}
use mathlib.Core.Path.{◌≡◌, refl, sym, ap, subst}
use mathlib.Core.Bool.{Bool, true, false, ◌&&◌}
use mathlib.Core.List.{List, [], ◌∷◌}
use Prim.Native.Nat.{ℕ, zero, suc, ◌-◌, ◌*◌, ◌^◌, ◌≤◌, ◌<◌, zero-le}
use lib.Dec.{T, lit≤}
use lib.Ieee.{Float, round, of_bits}
use lib.Ieee.Fits.{and_l, and_r}
use lib.Ieee.Scale.{finite}
use lib.Ieee.Positive.{num, den, den_pos, positive}
use Rattle.floats.specs.Operations.{◌⊕◌, ◌⊗◌, ◌⊘◌, bits, at}
use Rattle.floats.specs.Constants.{half, three, twelve}
use Rattle.floats.specs.Floats.{cube, fourth, fifth}
use Rattle.rounding_error.proofs.Numbers.{Number, number, Size, ◌per◌, ◌of◌, ◌roundoffs◌, ◌times◌, IsNumber, Under, Near, value_of, size_of}
use Rattle.rounding_error.proofs.Counts as Counts
use Rattle.rounding_error.proofs.Chains.{zero_valued}
use Rattle.rounding_error.proofs.Polynomials.{AllNumbers, evaluated_is, among, Expression, given, ratio, ◌add◌, ◌take◌, ◌mul◌, evaluate}
use Rattle.quadrature.specs.Rule.{half_width, weighted_to, kronrod_weight, sum_of}
use Rattle.gauss_kronrod.specs.Tables.{nodes, kronrod_weights}
use Rattle.sections.specs.Airfoil.{airfoil_constants}
use Rattle.sections.specs.declared.Section.{Section}
use Rattle.sections.specs.declared.Section.TheVariants.{Square, Rounded, Airfoil, AirfoilOpen}
use Rattle.fins.specs.declared.FinTab.{FinTab}
use Rattle.plates.specs.Integrals.{tab_integrals_of}
use Rattle.error_terms.proofs.Monomials.{place, added, mono, top, bottom, AllRanges}
use Rattle.error_terms.proofs.Terms.{Shape, shape, sum_shape, product_shape, fine, ok, sum_test, Given, entry, larger, Term, var, const}
use Rattle.error_terms.proofs.Terms.{nought, value, Known, Lowest, AllKnown, numbers_of, unit_by, ◌add◌ as ◌add_t◌}
use Rattle.error_terms.proofs.Terms.{◌take◌ as ◌take_t◌, ◌mul◌ as ◌mul_t◌, raised as raised_t, tight as tight_t, divided}
use Rattle.error_terms.proofs.Sound.{sound, unit_real}
use Rattle.error_terms.proofs.Judged.{judge, nearer, near_within}
use Rattle.error_terms.proofs.Shared.{Shared, whole, ◌⊞◌, ◌⊠◌, judge_in, judge_all, bind_all, expand, all_within}
use Rattle.error_terms.proofs.Stages.{size_test, low_test, target_known, target_lowest}
use Rattle.error_terms.proofs.Entries.{full, sized_entry, many_entry, own_entry}
use Rattle.error_terms.proofs.Floors.{NotBelow, Signed, not_below, positive_from, times_not_below as not_below_times}
use Rattle.tolerance.proofs.Numbers.{at_tabulate}
use Rattle.one_piece.specs.OnePiece.{NotRounded}
use Rattle.one_piece.proofs.Rule.{total_s}
use Rattle.one_piece.proofs.PlatePiece.{parts_of, seven_at, entries_of, top_of, bottom_of, each_of_seven, plain_sections}
use Rattle.accuracy.specs.Masses.{filled}
use Rattle.accuracy.specs.Balances.{forward}
use Rattle.accuracy.specs.Inertias.{forward_square, filled_cube}
use Rattle.accuracy.proofs.ToFractions.{fraction_e}

-- ---- the exact integrals, of root, tip, span, sweep, thickness and radius, in the forms of specs/Inertias
module _ (s : Section) (r t p w k q : Expression) where
  abbrev volume_e : Expression
  volume_e = k mul (p mul ((r add t) mul ratio 1 1))

  abbrev filled_e : Expression → Expression
  filled_e e = fraction_e (filled s) mul e

  abbrev height_e : Expression
  height_e = k mul (p mul ((p mul (r add ratio 2 0 mul t)) mul ratio 1 5))

  abbrev heights_e : Expression
  heights_e = k mul ((p mul (p mul p)) mul ((r add ratio 3 0 mul t) mul ratio 1 11))

  abbrev along_e : Expression
  along_e =
      k mul (p mul (filled_e (w mul (r add ratio 2 0 mul t)) mul ratio 1 5
      add fraction_e (forward s) mul (r mul r add r mul t add t mul t) mul ratio 1 2))

  abbrev to_tip_e : Expression
  to_tip_e = r add ratio 3 0 mul t

  abbrev to_tip_square_e : Expression
  to_tip_square_e = r mul r add ratio 2 0 mul (r mul t) add ratio 3 0 mul (t mul t)

  abbrev to_tip_cube_e : Expression
  to_tip_cube_e = r mul (r mul r) add (r mul r) mul t add r mul (t mul t) add t mul (t mul t)

  abbrev alongs_e : Expression
  alongs_e =
      k mul (p mul (filled_e ((w mul w) mul to_tip_e) mul ratio 1 11 add fraction_e (forward s) mul (w mul to_tip_square_e) mul ratio 1 5
      add fraction_e (forward_square s) mul to_tip_cube_e mul ratio 1 3))

  abbrev height_along_e : Expression
  height_along_e = k mul ((p mul p) mul ((filled_e (w mul to_tip_e) add fraction_e (forward s) mul to_tip_square_e) mul ratio 1 11))

  abbrev pub fin_e : ℕ → Expression
  fin_e zero = filled_e volume_e
  fin_e (suc zero) = q mul filled_e volume_e add filled_e height_e
  fin_e (suc (suc zero)) = (q mul q) mul filled_e volume_e add ratio 2 0 mul (q mul filled_e height_e) add filled_e heights_e
  fin_e (suc (suc (suc zero))) = along_e
  fin_e (suc (suc (suc (suc zero)))) = alongs_e
  fin_e (suc (suc (suc (suc (suc zero))))) = q mul along_e add height_along_e
  fin_e (suc (suc (suc (suc (suc (suc i)))))) = ((k mul k) mul ratio 1 11) mul (fraction_e (filled_cube s) mul volume_e)

-- of a tab's height, length and offset, thickness and radius
module _ (h l o k q : Expression) where
  abbrev slab_e : Expression
  slab_e = (k mul l) mul h

  abbrev mean_e : Expression
  mean_e = q take h mul ratio 1 1

  abbrev slab_along_e : Expression
  slab_along_e = (k mul h) mul (l mul (o add l mul ratio 1 1))

  abbrev pub slabs_e : ℕ → Expression
  slabs_e zero = slab_e
  slabs_e (suc zero) = slab_e mul mean_e
  slabs_e (suc (suc zero)) = slab_e mul ((q mul q) take q mul h add (h mul h) mul ratio 1 2)
  slabs_e (suc (suc (suc zero))) = slab_along_e
  slabs_e (suc (suc (suc (suc zero)))) = slab_e mul ((o mul o) add o mul l add (l mul l) mul ratio 1 2)
  slabs_e (suc (suc (suc (suc (suc zero))))) = slab_along_e mul mean_e
  slabs_e (suc (suc (suc (suc (suc (suc i)))))) = ((k mul k) mul ratio 1 11) mul slab_e

abbrev pub tab_e : Option FinTab → ℕ → Expression
tab_e None i = ratio 0 0
tab_e (Some tab) i = slabs_e (given 6) (given 7) (given 8) (given 4) (given 5) i

-- ---- a fin and its tab
pub record Fin : Type 0 where
  pub section : Section
  pub root : Float
  pub tip : Float
  pub span : Float
  pub sweep : Float
  pub scale : Float
  pub thickness : Float
  pub radius : Float
  pub tab : Option FinTab
  pub density : Float

-- how many root chords its tip and its sweep have at most, and how many spans the height of its tab
pub data Class : Type 0 where
  near far wide : Class

abbrev pub tips_in : Class → ℕ
tips_in near = 1
tips_in far = 1
tips_in wide = 2

abbrev pub sweeps_in : Class → ℕ
sweeps_in near = 1
sweeps_in far = 4
sweeps_in wide = 8

abbrev pub spans_in : Class → ℕ
spans_in near = 1
spans_in far = 1
spans_in wide = 4

-- what holds by class, by whether the section is an airfoil, and by the tab
pub each_class : (P : Class → Bool → Option FinTab → Type 0)
    → P near false None → P near true None → P far false None → P far true None → P wide false None → P wide true None
    → ((t : FinTab) → P near false (Some t)) → ((t : FinTab) → P near true (Some t))
    → ((t : FinTab) → P far false (Some t)) → ((t : FinTab) → P far true (Some t))
    → ((t : FinTab) → P wide false (Some t)) → ((t : FinTab) → P wide true (Some t))
    → (c : Class) (foil : Bool) (tab : Option FinTab) → P c foil tab
each_class P a b c d e f g h i j k l near false None = a
each_class P a b c d e f g h i j k l near true None = b
each_class P a b c d e f g h i j k l far false None = c
each_class P a b c d e f g h i j k l far true None = d
each_class P a b c d e f g h i j k l wide false None = e
each_class P a b c d e f g h i j k l wide true None = f
each_class P a b c d e f g h i j k l near false (Some t) = g t
each_class P a b c d e f g h i j k l near true (Some t) = h t
each_class P a b c d e f g h i j k l far false (Some t) = i t
each_class P a b c d e f g h i j k l far true (Some t) = j t
each_class P a b c d e f g h i j k l wide false (Some t) = k t
each_class P a b c d e f g h i j k l wide true (Some t) = l t

-- ---- the fin as terms: the variables of one_piece/proofs/PlatePiece, and a size that radius and span do not pass
abbrev fin_list : Class → Fin → List Given
fin_list c f =
    entries_of f.root f.tip f.span f.sweep f.scale f.thickness f.radius (tips_in c) (sweeps_in c) 0
    (shape 0 full (place 4) []) 0 (larger 1 4 ∷ [])

abbrev fin_target : Section → ℕ → Expression
fin_target s i = fin_e s (given 0) (given 2) (given 6) (given 4) (given 10) (given 12) i

abbrev square_t : Term
square_t = var 4 mul_t var 4

abbrev fifth_t : Term
fifth_t = var 4 mul_t (square_t mul_t square_t)

abbrev power_t : ℕ → Term
power_t i = get_or ((var 4 mul_t square_t) ∷ (square_t mul_t square_t) ∷ fifth_t ∷ (square_t mul_t square_t) ∷ []) i fifth_t

abbrev power_of : Float → ℕ → Float
power_of scale i = get_or (cube scale ∷ fourth scale ∷ fifth scale ∷ fourth scale ∷ []) i (fifth scale)

-- in units of the root chord, the span, the scale, the thickness, that size and the density
abbrev pub unit_of : ℕ → List ℕ
unit_of i = added (top_of (place 4) i) (place 1)

abbrev fin_s : ℕ → Shared
fin_s i =
    (whole (nought (unit_of i) (added (bottom_of i) (place 2)))
    ⊞ total_s (top_of (place 4) i) (bottom_of i) (unit_of i) (added (bottom_of i) (place 2))) ⊠ whole (power_t i)

-- errors in roundoffs, and sizes in 1024ths of the unit; but for the far ones only volume and x1 are asked for
abbrev fin_error : Class → ℕ → ℕ
fin_error near zero = 53
fin_error near (suc i) = 74
fin_error wide zero = 160
fin_error wide (suc i) = 900
fin_error far i = get_or (90 ∷ 165 ∷ 370 ∷ 250 ∷ 900 ∷ 550 ∷ []) i 16

abbrev pub is_foil : Section → Bool
is_foil Square = false
is_foil Rounded = false
is_foil Airfoil = true
is_foil AirfoilOpen = true

-- of a square section, and of an airfoil
abbrev fin_size : Class → Bool → ℕ → ℕ
fin_size near false i = 1025
fin_size near true i = 703
fin_size wide false zero = 1537
fin_size wide false (suc i) = 8024
fin_size wide true zero = 1060
fin_size wide true (suc i) = 5400
fin_size far false i = get_or (1025 ∷ 1740 ∷ 3100 ∷ 2561 ∷ 7900 ∷ 5300 ∷ []) i 90
fin_size far true i = get_or (703 ∷ 1195 ∷ 2140 ∷ 1720 ∷ 5120 ∷ 3050 ∷ []) i 48

module _ (f : Fin) where
  abbrev FinPasses : Class → Section → ℕ → Type 0
  FinPasses c s i =
      T (nearer (fin_list c f) (fin_target s i) (fin_error c i * 2 ^ 30) (unit_of i) []
      (judge_in (fin_list c f) (judge_all (fin_list c f) [] (parts_of s i)) (fin_s i))
      && size_test (fin_list c f) (fin_target s i) (fin_size c (is_foil s) i * 2 ^ 20) (unit_of i) [])

  far_square : (i : ℕ) → i < 7 → FinPasses far Square i
  unfolding round of_bits nodes kronrod_weights airfoil_constants
  far_square = each_of_seven (FinPasses far Square) tt tt tt tt tt tt tt

  far_foil : (i : ℕ) → i < 7 → FinPasses far Airfoil i
  unfolding round of_bits nodes kronrod_weights airfoil_constants
  far_foil = each_of_seven (FinPasses far Airfoil) tt tt tt tt tt tt tt

  far_open : (i : ℕ) → i < 7 → FinPasses far AirfoilOpen i
  unfolding round of_bits nodes kronrod_weights airfoil_constants
  far_open = each_of_seven (FinPasses far AirfoilOpen) tt tt tt tt tt tt tt

  near_square : FinPasses near Square 0 × FinPasses near Square 3
  unfolding round of_bits nodes kronrod_weights airfoil_constants
  near_square = (tt, tt)

  near_foil : FinPasses near Airfoil 0 × FinPasses near Airfoil 3
  unfolding round of_bits nodes kronrod_weights airfoil_constants
  near_foil = (tt, tt)

  near_open : FinPasses near AirfoilOpen 0 × FinPasses near AirfoilOpen 3
  unfolding round of_bits nodes kronrod_weights airfoil_constants
  near_open = (tt, tt)

  wide_square : FinPasses wide Square 0 × FinPasses wide Square 3
  unfolding round of_bits nodes kronrod_weights airfoil_constants
  wide_square = (tt, tt)

  wide_foil : FinPasses wide Airfoil 0 × FinPasses wide Airfoil 3
  unfolding round of_bits nodes kronrod_weights airfoil_constants
  wide_foil = (tt, tt)

  wide_open : FinPasses wide AirfoilOpen 0 × FinPasses wide AirfoilOpen 3
  unfolding round of_bits nodes kronrod_weights airfoil_constants
  wide_open = (tt, tt)

-- ---- the tab as terms: the variables height, length, offset, thickness, radius
abbrev tab_list : Class → (height length offset thickness radius : Float) → List Given
tab_list c height length offset thickness radius =
    entry height (value_of height) (shape 0 (spans_in c * 2 ^ 30) (place 1) []) 0 ∷
    entry length (value_of length) (shape 0 full (place 0) []) 0 ∷
    entry offset (value_of offset) (shape 0 full (place 0) []) 0 ∷
    entry thickness (value_of thickness) (shape 0 full (place 3) []) full ∷
    entry radius (value_of radius) (shape 0 full (place 1) []) 0 ∷
    larger 1 4 ∷
    []

abbrev cube_t : Term → Term
cube_t t = t mul_t (t mul_t t)

abbrev inner_t : Term
inner_t = tight_t (var 4 take_t var 0)

abbrev aft_t : Term
aft_t = tight_t (var 2 add_t var 1)

abbrev first_t : Term → Term → Term
first_t a b = tight_t (const half mul_t (b mul_t b take_t a mul_t a))

abbrev slab_t : ℕ → Term
slab_t zero = (var 3 mul_t var 1) mul_t var 0
slab_t (suc zero) = raised_t 5 ((var 3 mul_t var 1) mul_t first_t inner_t (var 4))
slab_t (suc (suc zero)) = raised_t 5 (raised_t 5 (divided three ((var 3 mul_t var 1) mul_t tight_t (cube_t (var 4) take_t cube_t inner_t))))
slab_t (suc (suc (suc zero))) = (var 3 mul_t var 0) mul_t first_t (var 2) aft_t
slab_t (suc (suc (suc (suc zero)))) = divided three ((var 3 mul_t var 0) mul_t tight_t (cube_t aft_t take_t cube_t (var 2)))
slab_t (suc (suc (suc (suc (suc zero))))) = raised_t 5 ((var 3 mul_t first_t (var 2) aft_t) mul_t first_t inner_t (var 4))
slab_t (suc (suc (suc (suc (suc (suc i)))))) = (divided twelve (cube_t (var 3)) mul_t var 1) mul_t var 0

abbrev slab_target : ℕ → Expression
slab_target i = slabs_e (given 0) (given 2) (given 4) (given 6) (given 8) i

abbrev slab_error : ℕ → ℕ
slab_error i = get_or (8 ∷ 20 ∷ 60 ∷ 20 ∷ 40 ∷ 50 ∷ []) i 8

abbrev slab_size : ℕ → ℕ
slab_size i = get_or (1025 ∷ 1537 ∷ 2390 ∷ 1537 ∷ 2390 ∷ 2310 ∷ []) i 90

module _ (f : Fin) (height length offset : Float) where
  abbrev S : Class → List Given
  S c = tab_list c height length offset f.thickness f.radius

  abbrev SlabPasses : Class → ℕ → Type 0
  SlabPasses c i =
      T (nearer (S c) (slab_target i) (spans_in c * slab_error i * 2 ^ 30) (unit_of i) [] (judge (S c) (slab_t i))
      && size_test (S c) (slab_target i) (spans_in c * slab_size i * 2 ^ 20) (unit_of i) [])

  far_slab : (i : ℕ) → i < 7 → SlabPasses far i
  unfolding round of_bits
  far_slab = each_of_seven (SlabPasses far) tt tt tt tt tt tt tt

  wide_slab : SlabPasses wide 0 × SlabPasses wide 3
  unfolding round of_bits
  wide_slab = (tt, tt)

-- ---- what is known of their lengths
-- length and offset of a tab do not pass the root chord, the radius not the span
pub record TabSizes (f : Fin) (c : Class) (tab : FinTab) : Type 0 where
  pub height_finite : T (finite tab.height_m)
  pub length_finite : T (finite tab.length_m)
  pub offset_finite : T (finite tab.offset_m)
  pub height_from_zero : NotBelow (value_of tab.height_m)
  pub length_from_zero : NotBelow (value_of tab.length_m)
  pub height_under : Under (spans_in c of size_of f.span) (value_of tab.height_m)
  pub length_under : Under (1 of size_of f.root) (value_of tab.length_m)
  pub offset_under : Under (1 of size_of f.root) (value_of tab.offset_m)
  pub radius_under : Under (1 of size_of f.span) (value_of f.radius)

abbrev pub TabKnown : Fin → Class → Option FinTab → Type 0
TabKnown f c None = Unit {0}
TabKnown f c (Some tab) = TabSizes f c tab

pub record Sizes (f : Fin) (c : Class) (b d : ℕ) : Type 0 where
  pub plain_section : NotRounded f.section
  pub root_positive : T (positive f.root)
  pub span_positive : T (positive f.span)
  pub scale_positive : T (positive f.scale)
  pub thickness_positive : T (positive f.thickness)
  pub density_positive : T (positive f.density)
  pub tip_finite : T (finite f.tip)
  pub sweep_finite : T (finite f.sweep)
  pub radius_finite : T (finite f.radius)
  pub tip_from_zero : NotBelow (value_of f.tip)
  pub tip_under : Under (tips_in c of size_of f.root) (value_of f.tip)
  pub sweep_under : Under (sweeps_in c of size_of f.root) (value_of f.sweep)
  pub is_size : 0 < d
  pub root_most : num f.root * d ≤ b * den f.root
  pub span_most : num f.span * d ≤ b * den f.span
  pub thickness_most : num f.thickness * d ≤ b * den f.thickness
  pub radius_under : Under (1 of (b per d)) (value_of f.radius)
  pub tab : TabKnown f c f.tab
  pub ranges : AllRanges 32 (size_of f.root ∷ size_of f.span ∷ size_of f.scale ∷ size_of f.thickness ∷ (b per d) ∷ size_of
      f.density ∷ [])

abbrev pub tab_numbers : Option FinTab → List Number
tab_numbers None = []
tab_numbers (Some tab) = value_of tab.height_m ∷ value_of tab.length_m ∷ value_of tab.offset_m ∷ []

-- root, tip, span, sweep, thickness, radius, and height, length and offset of a tab
abbrev pub numbers_in : Fin → List Number
numbers_in f =
    value_of f.root ∷ value_of f.tip ∷ value_of f.span ∷ value_of f.sweep ∷ value_of f.thickness ∷ value_of f.radius ∷
    tab_numbers f.tab

abbrev pub fin_in : Section → ℕ → Expression
fin_in s i = fin_e s (given 0) (given 1) (given 2) (given 3) (given 4) (given 5) i

-- the exact integrals of fin and tab
abbrev pub exact_e : Fin → ℕ → Expression
exact_e f i = fin_in f.section i add tab_e f.tab i

abbrev pub exactly : Fin → ℕ → Number
exactly f i = evaluate (among (numbers_in f)) (exact_e f i)

pub numbers_all : (f : Fin) → AllNumbers (numbers_in f)
numbers_all f =
    let v = Counts.value_is in
    (v f.root, (v f.tip, (v f.span, (v f.sweep, (v f.thickness, (v f.radius, rest f.tab))))))
  where
    rest : (t : Option FinTab) → AllNumbers (tab_numbers t)
    rest None = tt
    rest (Some t) = (Counts.value_is t.height_m, (Counts.value_is t.length_m, (Counts.value_is t.offset_m, tt)))

-- the f64s, from the sums of one piece's samples
abbrev pub total_at : Fin → Section → ℕ → Float
total_at f s i =
    bits 0 ⊕ (bits 0 ⊕ half_width (bits 0 ⊘ f.scale) (f.span ⊘ f.scale) ⊗ sum_of kronrod_weight
    (seven_at f.root f.tip f.span f.sweep f.scale f.thickness f.radius 0 0 0 (shape 0 0 [] []) 0 [] s)
    (bits 0 ⊘ f.scale) (f.span ⊘ f.scale) i)

abbrev fin_at : Fin → Section → ℕ → Float
fin_at f s i = total_at f s i ⊗ power_of f.scale i

abbrev tab_at : Fin → ℕ → Float
tab_at f i = at (tab_integrals_of f.tab f.thickness f.radius) i

abbrev pub integral_at : Fin → ℕ → Float
integral_at f i = fin_at f f.section i ⊕ tab_at f i

-- errors and sizes, in the units of `unit_of`
abbrev fin_shape : Class → Bool → ℕ → Shape
fin_shape c foil i = shape (fin_error c i * 2 ^ 30) (fin_size c foil i * 2 ^ 20) (unit_of i) []

abbrev tab_error : Class → Option FinTab → ℕ → ℕ
tab_error c None i = 0
tab_error c (Some tab) i = spans_in c * slab_error i

abbrev tab_size : Class → Option FinTab → ℕ → ℕ
tab_size c None i = 0
tab_size c (Some tab) i = spans_in c * slab_size i

abbrev tab_shape : Class → Option FinTab → ℕ → Shape
tab_shape c tab i = shape (tab_error c tab i * 2 ^ 30) (tab_size c tab i * 2 ^ 20) (unit_of i) []

abbrev pub shape_at : Class → Bool → Option FinTab → ℕ → Shape
shape_at c foil tab i = sum_shape (fin_shape c foil i) (tab_shape c tab i)

-- the volume is at least so many parts of its unit
abbrev pub less_parts : Bool → ℕ
less_parts false = 2 ^ 29 - 2 ^ 10
less_parts true = 365000000

abbrev pub least_parts : Bool → ℕ
least_parts foil = suc (less_parts foil)

abbrev sum_fine : Class → Bool → Option FinTab → ℕ → Bool
sum_fine c foil tab i = (fine (fin_shape c foil i) && fine (tab_shape c tab i)) && sum_test (fin_shape c foil i) (tab_shape c tab i)

sums_fine : (c : Class) (foil : Bool) (tab : Option FinTab) (i : ℕ) → i < 7 → T (sum_fine c foil tab i)
sums_fine = each_class (λ c foil tab. (i : ℕ) → i < 7 → T (sum_fine c foil tab i))
    (each_of_seven (λ i. T (sum_fine near false None i)) tt tt tt tt tt tt tt)
    (each_of_seven (λ i. T (sum_fine near true None i)) tt tt tt tt tt tt tt)
    (each_of_seven (λ i. T (sum_fine far false None i)) tt tt tt tt tt tt tt)
    (each_of_seven (λ i. T (sum_fine far true None i)) tt tt tt tt tt tt tt)
    (each_of_seven (λ i. T (sum_fine wide false None i)) tt tt tt tt tt tt tt)
    (each_of_seven (λ i. T (sum_fine wide true None i)) tt tt tt tt tt tt tt)
    (λ t. each_of_seven (λ i. T (sum_fine near false (Some t) i)) tt tt tt tt tt tt tt)
    (λ t. each_of_seven (λ i. T (sum_fine near true (Some t) i)) tt tt tt tt tt tt tt)
    (λ t. each_of_seven (λ i. T (sum_fine far false (Some t) i)) tt tt tt tt tt tt tt)
    (λ t. each_of_seven (λ i. T (sum_fine far true (Some t) i)) tt tt tt tt tt tt tt)
    (λ t. each_of_seven (λ i. T (sum_fine wide false (Some t) i)) tt tt tt tt tt tt tt)
    (λ t. each_of_seven (λ i. T (sum_fine wide true (Some t) i)) tt tt tt tt tt tt tt)

-- root, tip, span, thickness and what a tab adds
abbrev volume_list : Class → Fin → Float → Number → Option FinTab → List Given
volume_list c f slab v tab =
    entry f.root (value_of f.root) (shape 0 full (place 0) []) full ∷
    entry f.tip (value_of f.tip) (shape 0 (tips_in c * 2 ^ 30) (place 0) []) 0 ∷
    entry f.span (value_of f.span) (shape 0 full (place 1) []) full ∷
    entry f.thickness (value_of f.thickness) (shape 0 full (place 3) []) full ∷
    entry slab v (tab_shape c tab 0) 0 ∷
    []

abbrev volume_target : Section → Expression
volume_target s = fin_e s (given 0) (given 2) (given 4) (ratio 0 0) (given 6) (ratio 0 0) 0 add given 8

abbrev pub error_in : Shape → ℕ
error_in (shape k i p q) = k

-- ---- the mass: density times volume
abbrev pub mass_unit : List ℕ
mass_unit = 1 ∷ 1 ∷ 0 ∷ 1 ∷ 0 ∷ 1 ∷ []

abbrev pub mass_shape : Class → Bool → Option FinTab → Shape
mass_shape c foil tab = product_shape (shape 0 full (place 5) []) (shape_at c foil tab 0)

abbrev pub mass_list : Class → Bool → Option FinTab → Float → Number → (density : Float) → List Given
mass_list c foil tab v n density =
    entry v n (shape_at c foil tab 0) (least_parts foil) ∷ entry density (value_of density) (shape 0 full (place 5) []) full ∷ []

abbrev mass_term : Term
mass_term = var 1 mul_t var 0

module _ (x : Float) (v : Number) (f : Fin) where
  abbrev LeastVolume : Section → Class → Option FinTab → Type 0
  LeastVolume s c tab =
      T (low_test (volume_list c f x v tab) (volume_target s) (error_in (shape_at c (is_foil s) tab 0)) (less_parts (is_foil s))
      (unit_of 0) [])

  volumes_least : (s : Section) → NotRounded s → (c : Class) (tab : Option FinTab) → LeastVolume s c tab
  volumes_least = plain_sections (λ s. (c : Class) (tab : Option FinTab) → LeastVolume s c tab)
      (λ c tab. each_class (λ a b d. LeastVolume Square a d) tt tt tt tt tt tt
      (λ t. tt) (λ t. tt) (λ t. tt) (λ t. tt) (λ t. tt) (λ t. tt) c false tab)
      (λ c tab. each_class (λ a b d. LeastVolume Airfoil a d) tt tt tt tt tt tt
      (λ t. tt) (λ t. tt) (λ t. tt) (λ t. tt) (λ t. tt) (λ t. tt) c true tab)
      (λ c tab. each_class (λ a b d. LeastVolume AirfoilOpen a d) tt tt tt tt tt tt
      (λ t. tt) (λ t. tt) (λ t. tt) (λ t. tt) (λ t. tt) (λ t. tt) c true tab)

  mass_okay : (c : Class) (foil : Bool) (tab : Option FinTab) → T (ok (mass_list c foil tab x v f.density) mass_term)
  mass_okay = each_class (λ c foil tab. T (ok (mass_list c foil tab x v f.density) mass_term)) tt tt tt tt tt tt
      (λ t. tt) (λ t. tt) (λ t. tt) (λ t. tt) (λ t. tt) (λ t. tt)

  abbrev LeastMass : Class → Bool → Option FinTab → Type 0
  LeastMass c foil tab =
      T (low_test (mass_list c foil tab x v f.density) (given 2 mul given 0) (error_in (mass_shape c foil tab)) (less_parts foil)
      mass_unit [])

  mass_least : (c : Class) (foil : Bool) (tab : Option FinTab) → LeastMass c foil tab
  mass_least = each_class LeastMass tt tt tt tt tt tt (λ t. tt) (λ t. tt) (λ t. tt) (λ t. tt) (λ t. tt) (λ t. tt)

-- what is tested: of the far ones all seven, else volume and x1
abbrev pub IsFar : Class → Type 0
IsFar near = ⊥
IsFar far = Unit {0}
IsFar wide = ⊥

abbrev pub Tested : Class → ℕ → Type 0
Tested c zero = Unit {0}
Tested c (suc zero) = IsFar c
Tested c (suc (suc zero)) = IsFar c
Tested c (suc (suc (suc zero))) = Unit {0}
Tested c (suc (suc (suc (suc i)))) = IsFar c

two_tested : (c : Class) → (IsFar c → ⊥) → (P : ℕ → Type 0) → P 0 × P 3 → (i : ℕ) → Tested c i → P i
two_tested c n P h zero t = h.0
two_tested c n P h (suc zero) t = absurd (n t)
two_tested c n P h (suc (suc zero)) t = absurd (n t)
two_tested c n P h (suc (suc (suc zero))) t = h.1
two_tested c n P h (suc (suc (suc (suc i)))) t = absurd (n t)

-- the tests by class, section and component
fin_passes : (f : Fin) (c : Class) (s : Section) → NotRounded s → (i : ℕ) → i < 7 → Tested c i → FinPasses f c s i
fin_passes f near s e i l t = two_tested near (λ x. x) (FinPasses f near s)
    (plain_sections (λ s. FinPasses f near s 0 × FinPasses f near s 3) (near_square f) (near_foil f) (near_open f) s e) i t
fin_passes f far s e i l t = plain_sections (λ s. FinPasses f far s i) (far_square f i l) (far_foil f i l) (far_open f i l) s e
fin_passes f wide s e i l t = two_tested wide (λ x. x) (FinPasses f wide s)
    (plain_sections (λ s. FinPasses f wide s 0 × FinPasses f wide s 3) (wide_square f) (wide_foil f) (wide_open f) s e) i t

slab_passes : (f : Fin) (height length offset : Float) (c : Class) (i : ℕ) → i < 7 → Tested c i → SlabPasses f height length offset c i
slab_passes f h l o near i m t = far_slab f h l o i m
slab_passes f h l o far i m t = far_slab f h l o i m
slab_passes f h l o wide i m t = two_tested wide (λ x. x) (SlabPasses f h l o wide) (wide_slab f h l o) i t

module _ (f : Fin) (c : Class) (b d : ℕ) (g : Sizes f c b d) where
  abbrev pub bases : List Size
  bases = size_of f.root ∷ size_of f.span ∷ size_of f.scale ∷ size_of f.thickness ∷ (b per d) ∷ size_of f.density ∷ []

  abbrev pub foil : Bool
  foil = is_foil f.section

  abbrev FinKnown : Section → ℕ → Type 0
  FinKnown s i = Known bases (fin_at f s i) (evaluate (among (numbers_in f)) (fin_in s i)) (fin_shape c (is_foil s) i)

  is_numbers : (e : Expression) → IsNumber (evaluate (among (numbers_in f)) e)
  is_numbers e = evaluated_is (numbers_in f) (numbers_all f) e

  abbrev fins : List Given
  fins = fin_list c f

  fins_known : AllKnown bases fins
  unfolding of_bits
  fins_known =
      let R = f.root in
      let tip = many_entry bases 0 (num R) (den R) refl f.tip (tips_in c) (den_pos R) g.tip_finite g.tip_under in
      let sweep = many_entry bases 0 (num R) (den R) refl f.sweep (sweeps_in c) (den_pos R) g.sweep_finite g.sweep_under in
      let span = own_entry bases 1 f.span refl g.span_positive in
      let scale = own_entry bases 2 f.scale refl g.scale_positive in
      let thickness = own_entry bases 3 f.thickness refl g.thickness_positive in
      let radius = sized_entry bases 4 b d refl f.radius g.is_size g.radius_finite g.radius_under in (
        own_entry bases 0 R refl g.root_positive,
        ((tip, tt), ((sweep, tt), (span, (scale, (thickness, ((radius, tt), (g.span_most, tt))))))),
      )

  tested : (s : Section) → NotRounded s → (i : ℕ) → i < 7 → Tested c i
      → Known bases (value fins (expand [] (bind_all (parts_of s i) (fin_s i)))) (evaluate (numbers_of fins) (fin_target s i))
      (fin_shape c (is_foil s) i)
  tested s e i l t =
      let K = fin_error c i * 2 ^ 30 in
      let j = fin_size c (is_foil s) i * 2 ^ 20 in
      let x = nearer fins (fin_target s i) K (unit_of i) [] (judge_in fins (judge_all fins [] (parts_of s i)) (fin_s i)) in
      let y = size_test fins (fin_target s i) j (unit_of i) [] in
      let z = fin_passes f c s e i l t in
      target_known bases g.ranges fins fins_known _ (fin_target s i) K j (unit_of i) []
      (all_within bases g.ranges fins fins_known (parts_of s i) (fin_s i) (fin_target s i) K (unit_of i) [] (and_l x y z)) (and_r x y z)

  fin_known : (s : Section) → NotRounded s → (i : ℕ) → i < 7 → Tested c i → FinKnown s i
  unfolding weighted_to
  fin_known =
      plain_sections (λ s. (i : ℕ) → i < 7 → Tested c i → FinKnown s i)
      (each_of_seven (λ i. Tested c i → FinKnown Square i) (tested Square tt 0 (lit≤ tt)) (tested Square tt 1 (lit≤ tt))
      (tested Square tt 2 (lit≤ tt)) (tested Square tt 3 (lit≤ tt)) (tested Square tt 4 (lit≤ tt)) (tested Square tt 5 (lit≤ tt))
      (tested Square tt 6 (lit≤ tt)))
      (each_of_seven (λ i. Tested c i → FinKnown Airfoil i) (tested Airfoil tt 0 (lit≤ tt)) (tested Airfoil tt 1 (lit≤ tt))
      (tested Airfoil tt 2 (lit≤ tt)) (tested Airfoil tt 3 (lit≤ tt)) (tested Airfoil tt 4 (lit≤ tt)) (tested Airfoil tt 5 (lit≤ tt))
      (tested Airfoil tt 6 (lit≤ tt)))
      (each_of_seven (λ i. Tested c i → FinKnown AirfoilOpen i) (tested AirfoilOpen tt 0 (lit≤ tt)) (tested AirfoilOpen tt 1 (lit≤ tt))
      (tested AirfoilOpen tt 2 (lit≤ tt)) (tested AirfoilOpen tt 3 (lit≤ tt)) (tested AirfoilOpen tt 4 (lit≤ tt))
      (tested AirfoilOpen tt 5 (lit≤ tt)) (tested AirfoilOpen tt 6 (lit≤ tt)))

  -- ---- the tab
  module _ (tab : FinTab) (t : TabSizes f c tab) where
    abbrev slabs : List Given
    slabs = tab_list c tab.height_m tab.length_m tab.offset_m f.thickness f.radius

    slabs_known : AllKnown bases slabs
    unfolding of_bits
    slabs_known =
        let P = f.span in
        let R = f.root in
        let tall = many_entry bases 1 (num P) (den P) refl tab.height_m (spans_in c) (den_pos P) t.height_finite t.height_under in
        let long = sized_entry bases 0 (num R) (den R) refl tab.length_m (den_pos R) t.length_finite t.length_under in
        let behind = sized_entry bases 0 (num R) (den R) refl tab.offset_m (den_pos R) t.offset_finite t.offset_under in
        let thickness = own_entry bases 3 f.thickness refl g.thickness_positive in
        let radius = sized_entry bases 1 (num P) (den P) refl f.radius (den_pos P) g.radius_finite t.radius_under in
        ((tall, tt), ((long, tt), ((behind, tt), (thickness, ((radius, tt), (g.span_most, tt))))))

    abbrev slab_numbers : List Number
    slab_numbers =
        value_of f.root ∷ value_of f.tip ∷ value_of f.span ∷ value_of f.sweep ∷ value_of f.thickness ∷ value_of f.radius ∷
        value_of tab.height_m ∷ value_of tab.length_m ∷ value_of tab.offset_m ∷ []

    abbrev slab_in : ℕ → Expression
    slab_in i = slabs_e (given 6) (given 7) (given 8) (given 4) (given 5) i

    by_slab : (i : ℕ) → i < 7 → Tested c i
        → Known bases (value slabs (slab_t i)) (evaluate (numbers_of slabs) (slab_target i)) (tab_shape c (Some tab) i)
    by_slab i l s =
        let K = spans_in c * slab_error i * 2 ^ 30 in
        let j = spans_in c * slab_size i * 2 ^ 20 in
        let x = nearer slabs (slab_target i) K (unit_of i) [] (judge slabs (slab_t i)) in
        let y = size_test slabs (slab_target i) j (unit_of i) [] in
        let z = slab_passes f tab.height_m tab.length_m tab.offset_m c i l s in
        target_known bases g.ranges slabs slabs_known _ (slab_target i) K j (unit_of i) []
        (near_within bases g.ranges slabs slabs_known (slab_t i) (slab_target i) K (unit_of i) [] (and_l x y z)) (and_r x y z)

    abbrev SlabKnown : ℕ → Type 0
    SlabKnown i = Known bases (at (tab_integrals_of (Some tab) f.thickness f.radius) i)
        (evaluate (among slab_numbers) (slab_in i)) (tab_shape c (Some tab) i)

    slab_known : (i : ℕ) → i < 7 → Tested c i → SlabKnown i
    unfolding tab_integrals_of
    slab_known = each_of_seven (λ i. Tested c i → SlabKnown i) (by_slab 0 (lit≤ tt)) (by_slab 1 (lit≤ tt))
        (by_slab 2 (lit≤ tt)) (by_slab 3 (lit≤ tt)) (by_slab 4 (lit≤ tt))
        (by_slab 5 (lit≤ tt)) (by_slab 6 (lit≤ tt))

  -- ---- both
  none_known : (i : ℕ) → i < 7 → Known bases (at (tab_integrals_of None f.thickness f.radius) i) (number 0 0 1) (tab_shape c None i)
  unfolding tab_integrals_of of_bits
  none_known i l = subst (λ (x : Float). Known bases x (number 0 0 1) (tab_shape c None i)) (sym (at_tabulate 7 (λ k. bits 0) i l))
      (zero_valued (unit_by bases (unit_of i) []))

  tab_known_lem : (i : ℕ) → i < 7 → Tested c i
      → Known bases (tab_at f i) (evaluate (among (numbers_in f)) (tab_e f.tab i)) (tab_shape c f.tab i)
  tab_known_lem i l s = go f.tab refl
    where
      go : (t : Option FinTab) → f.tab ≡ t
          → Known bases (tab_at f i) (evaluate (among (numbers_in f)) (tab_e f.tab i)) (tab_shape c f.tab i)
      go None e = rw e (none_known i l)
      go (Some tab) e =
          rw e (slab_known tab (subst (λ (t : Option FinTab). TabKnown f c t) e g.tab) i l s)

  -- the integrals that the program works with
  pub seven_known : (i : ℕ) → i < 7 → Tested c i → Known bases (integral_at f i) (exactly f i) (shape_at c foil f.tab i)
  seven_known i l t =
      sound bases g.ranges
      (entry (fin_at f f.section i) (evaluate (among (numbers_in f)) (fin_in f.section i)) (fin_shape c foil i) 0 ∷
      entry (tab_at f i) (evaluate (among (numbers_in f)) (tab_e f.tab i)) (tab_shape c f.tab i) 0 ∷ [])
      ((fin_known f.section g.plain_section i l t, tt), ((tab_known_lem i l t, tt), tt)) (var 0 add_t var 1)
      (sums_fine c foil f.tab i l)

  pub is_exactly : (i : ℕ) → IsNumber (exactly f i)
  is_exactly i = is_numbers (exact_e f i)

  -- ---- what the volume is at least
  tab_from_zero : NotBelow (evaluate (among (numbers_in f)) (tab_e f.tab 0))
  tab_from_zero = go f.tab refl
    where
      go : (t : Option FinTab) → f.tab ≡ t → NotBelow (evaluate (among (numbers_in f)) (tab_e f.tab 0))
      go None e = rw e zero-le
      go (Some tab) e =
          let t = subst (λ (t : Option FinTab). TabKnown f c t) e g.tab in
          rw e (not_below_times (value_of f.thickness times value_of tab.length_m) (value_of tab.height_m)
          (not_below_times (value_of f.thickness) (value_of tab.length_m) (positive_from f.thickness g.thickness_positive)
          t.length_from_zero)
          t.height_from_zero)

  abbrev volumes : List Given
  volumes = volume_list c f (tab_at f 0) (evaluate (among (numbers_in f)) (tab_e f.tab 0)) f.tab

  volumes_known : AllKnown bases volumes
  volumes_known =
      let root = own_entry bases 0 f.root refl g.root_positive in
      let tip = many_entry bases 0 (num f.root) (den f.root) refl f.tip (tips_in c) (den_pos f.root) g.tip_finite g.tip_under in
      let span = own_entry bases 1 f.span refl g.span_positive in
      (root, ((tip, tt), (span, (own_entry bases 3 f.thickness refl g.thickness_positive, ((tab_known_lem 0 (lit≤ tt) tt, tt), tt)))))

  volumes_signed : Signed volumes
  volumes_signed =
      let span = positive_from f.span g.span_positive in
      let thickness = positive_from f.thickness g.thickness_positive in
      (positive_from f.root g.root_positive, (g.tip_from_zero, (span, (thickness, (tab_from_zero, tt)))))

  abbrev pub volume_shape : Shape
  volume_shape = shape_at c foil f.tab 0

  abbrev exact_by : Section → Number
  exact_by s = evaluate (among (numbers_in f)) (fin_in s 0 add tab_e f.tab 0)

  pub volume_lowest : Lowest bases (integral_at f 0) (exactly f 0) volume_shape (least_parts foil)
  volume_lowest = plain_sections
      (λ s. f.section ≡ s → Lowest bases (integral_at f 0) (exactly f 0) volume_shape (least_parts foil))
      (λ q. by Square tt q (ap exact_by (sym q))) (λ q. by Airfoil tt q (ap exact_by (sym q)))
      (λ q. by AirfoilOpen tt q (ap exact_by (sym q)))
      f.section g.plain_section refl
    where
      near : Near (integral_at f 0) (exactly f 0) (error_in volume_shape roundoffs unit_by bases (unit_of 0) [])
      near = (seven_known 0 (lit≤ tt) tt).near

      by : (s : Section) → NotRounded s → f.section ≡ s → evaluate (numbers_of volumes) (volume_target s) ≡ exactly f 0
          → Lowest bases (integral_at f 0) (exactly f 0) volume_shape (least_parts foil)
      by s e q same =
          subst (λ (v : Number). Lowest bases (integral_at f 0) v volume_shape (least_parts foil)) same
          (target_lowest bases g.ranges volumes volumes_known volumes_signed (integral_at f 0) (volume_target s) (error_in volume_shape) 0
          (less_parts foil) (unit_of 0) []
          (subst (λ (v : Number). Near (integral_at f 0) v (error_in volume_shape roundoffs unit_by bases (unit_of 0) [])) (sym same) near)
          (subst (λ (x : Section). T (low_test volumes (volume_target s) (error_in (shape_at c (is_foil x) f.tab 0))
          (less_parts (is_foil x)) (unit_of 0) [])) (sym q)
          (volumes_least (tab_at f 0) (evaluate (among (numbers_in f)) (tab_e f.tab 0)) f s e c f.tab)))

  pub volume_from_zero : NotBelow (exactly f 0)
  volume_from_zero = not_below (least_parts foil) (mono top bases (unit_of 0) * mono bottom bases [])
      (mono bottom bases (unit_of 0) * mono top bases [] * 2 ^ 30) (exactly f 0) (unit_real bases g.ranges (unit_of 0) [])
      volume_lowest.1

  -- ---- the mass
  abbrev pub mass_of : Float
  mass_of = f.density ⊗ integral_at f 0

  abbrev pub mass_number : Number
  mass_number = value_of f.density times exactly f 0

  pub density_own : Known bases f.density (value_of f.density) (shape 0 full (place 5) [])
      × Lowest bases f.density (value_of f.density) (shape 0 full (place 5) []) full
  density_own = own_entry bases 5 f.density refl g.density_positive

  abbrev pub masses : List Given
  masses = mass_list c foil f.tab (integral_at f 0) (exactly f 0) f.density

  pub masses_known : AllKnown bases masses
  masses_known = ((seven_known 0 (lit≤ tt) tt, volume_lowest), (density_own, tt))

  pub mass_known : Known bases mass_of mass_number (mass_shape c foil f.tab)
  mass_known = sound bases g.ranges masses masses_known mass_term (mass_okay (integral_at f 0) (exactly f 0) f c foil f.tab)

  pub mass_lowest : Lowest bases mass_of mass_number (mass_shape c foil f.tab) (least_parts foil)
  mass_lowest =
      target_lowest bases g.ranges masses masses_known (volume_from_zero, (positive_from f.density g.density_positive, tt)) mass_of
      (given 2 mul given 0) (error_in (mass_shape c foil f.tab)) 0 (less_parts foil) mass_unit [] mass_known.near
      (mass_least (integral_at f 0) (exactly f 0) f c foil f.tab)
