-- The two fillets along one fin's root: when there are any, their refusals, and their body (document 02, Paper 6;
-- fins.rs, `fillets`).
use Rattle.std.specs.Prelude.{Bool, true, false, not, ◌&&◌, ◌||◌, cond, List, [], ◌∷◌, Float, Ok}
use Rattle.std.specs.Float.Ieee.{neg, eq, lt}
use Rattle.floats.specs.Operations.{◌⊕◌, ◌⊗◌, ◌⊘◌, bits}
use Rattle.floats.specs.Constants.{half, two, three}
use Rattle.floats.specs.Floats.{is_finite, cube}
use Rattle.bodies.specs.declared.Body.{Body}
use Rattle.bodies.specs.declared.Tensor.{Tensor}
use Rattle.bodies.specs.Vectors.{vector}
use Rattle.bodies.specs.Tensors.{symmetric}
use Rattle.bodies.specs.Bodies.{empty_body, of_origin_tensor}
use Rattle.refusals.specs.declared.Refusal.TheVariants.{FilletRatio}
use Rattle.refusals.specs.Verdict.{Verdict}
use Rattle.refusals.specs.Order.{refuse_when}
use Rattle.materials.specs.declared.Density.{Density}
use Rattle.materials.specs.declared.Density.TheVariants.{Bulk, Surface, Line}
use Rattle.materials.specs.Materials.{density_check}
use Rattle.fillets.specs.declared.AreaMoments.{AreaMoments}
use Rattle.fillets.specs.declared.Fillet.{Fillet}
use Rattle.fillets.specs.FilletSections.{fillet_section_of}

-- "ratio is radius over body radius"
abbrev pub ratio_of : Float → Float → Float
ratio_of radius body_radius = radius ⊘ body_radius

-- the f64 nearest to 1e-6
abbrev pub thinnest : Float
thinnest = bits 0x3eb0_c6f7_a0b5_ed8d

-- the f64 1000
abbrev pub widest : Float
widest = bits 0x408f_4000_0000_0000

-- "none, and no 22, for radius or body radius 0 or ratio below 1e-6"
unfoldable pub is_none : Float → Float → Bool
is_none radius body_radius =
    not (lt (bits 0) radius) || eq body_radius (bits 0) || lt (ratio_of radius body_radius) thinnest

-- "a section .. positive and finite": its area is above 0, its moments finite
unfoldable pub is_sound : AreaMoments → Bool
is_sound s = lt (bits 0) s.area_m2 && is_finite s.sx_m3 && is_finite s.sxx_m4 && is_finite s.syy_m4

-- ---- the checks

-- "The fillet's density is checked .. for any positive radius."
abbrev pub glue_check : Fillet → Verdict
glue_check f = cond (lt (bits 0) f.radius_m) (density_check f.density) (Ok tt)

-- 22: "ratio over 1000 or a section not positive and finite"
abbrev pub is_refused : Float → Float → Bool
is_refused radius body_radius =
    lt widest (ratio_of radius body_radius) || not (is_sound (fillet_section_of body_radius radius))

unfoldable pub ratio_check : Float → Float → Verdict
ratio_check radius body_radius =
    refuse_when (not (is_none radius body_radius) && is_refused radius body_radius) FilletRatio

-- ---- the body: a prism along the root chord l, a section on each side of the fin

-- the moment xx or yy about the origin: 2ρ(S·l + (A·l³)/3)
abbrev pub across_moment : Float → Float → Float → Float → Float
across_moment kg_per_m3 area second l = two ⊗ kg_per_m3 ⊗ (second ⊗ l ⊕ area ⊗ cube l ⊘ three)

-- the mixed moment xz about the origin: ((ρ·S_x)·l)·l
abbrev pub mixed_moment : Float → Float → Float → Float
mixed_moment kg_per_m3 sx l = kg_per_m3 ⊗ sx ⊗ l ⊗ l

-- the tensor of both fillets about the origin
abbrev pub about_origin : Float → AreaMoments → Float → Tensor
about_origin kg_per_m3 s l =
    symmetric
    (across_moment kg_per_m3 s.area_m2 s.syy_m4 l)
    (across_moment kg_per_m3 s.area_m2 s.sxx_m4 l)
    (two ⊗ kg_per_m3 ⊗ (s.sxx_m4 ⊕ s.syy_m4) ⊗ l)
    (bits 0)
    (mixed_moment kg_per_m3 s.sx_m3 l)
    (bits 0)

-- both fillets: a mass of ((2·ρ)·A)·l at (S_x/A, 0, −l/2)
unfoldable pub pair_of : Float → AreaMoments → Float → Body
pair_of kg_per_m3 s l =
    of_origin_tensor
    (two ⊗ kg_per_m3 ⊗ s.area_m2 ⊗ l)
    (vector (s.sx_m3 ⊘ s.area_m2) (bits 0) (neg half ⊗ l))
    (about_origin kg_per_m3 s l)

-- the body of the two fillets, empty where there are none; the density's check takes bulk alone
unfoldable pub fillets_of : Fillet → Float → Float → Body
fillets_of f body_radius l = cond (is_none f.radius_m body_radius) empty_body (of_density f.density)
  where
    of_density : Density → Body
    of_density (Bulk x) = pair_of x (fillet_section_of body_radius f.radius_m) l
    of_density (Surface x) = empty_body
    of_density (Line x) = empty_body
