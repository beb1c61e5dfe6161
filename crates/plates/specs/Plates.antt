-- One fin's body from its volume integrals (document 01, "Set and planform" and "Refusal numbers"; document 02, Paper
-- 6; fins.rs, `single_fin`).
use Rattle.std.specs.Prelude.{cond, List, Float}
use Rattle.std.specs.Float.Ieee.{neg, eq}
use Rattle.floats.specs.Operations.{◌⊕◌, ◌⊗◌, ◌⊘◌, bits}
use Rattle.floats.specs.Constants.{half}
use Rattle.bodies.specs.declared.Body.{Body}
use Rattle.bodies.specs.declared.Tensor.{Tensor}
use Rattle.bodies.specs.declared.Vector.{Vector}
use Rattle.bodies.specs.Vectors.{vector}
use Rattle.bodies.specs.Tensors.{symmetric, scale_tensor}
use Rattle.bodies.specs.Bodies.{translated_of, of_origin_tensor}
use Rattle.rotations.specs.Rotations.{rotated_xof}
use Rattle.materials.specs.Numbered.{density_figure}
use Rattle.fillets.specs.Fillets.{fillets_of}
use Rattle.fins.specs.declared.FinSet.{FinSet}
use Rattle.joins.specs.Joins.{join_of, two_bodies}
use Rattle.plates.specs.Integrals.{volume, r1, r2, x1, x2, rx, tau2, unscaled_of, tab_integrals_of, add_integrals}

-- the tensor about the origin, of points at (r, τ, −x); its entries are summed first, then times the density
abbrev pub about_origin : List Float → Float → Tensor
about_origin v kg_per_m3 =
    scale_tensor (symmetric (tau2 v ⊕ x2 v) (r2 v ⊕ x2 v) (r2 v ⊕ tau2 v) (bits 0) (rx v) (bits 0)) kg_per_m3

-- the plate of some integrals: its tensor is moved from the origin to the centre
unfoldable pub plate_body : List Float → Float → Body
plate_body v kg_per_m3 =
    of_origin_tensor
    (kg_per_m3 ⊗ volume v) (vector (r1 v ⊘ volume v) (bits 0) (neg (x1 v) ⊘ volume v)) (about_origin v kg_per_m3)

-- the plate joined with the fillets at its root; "None is added for zero mass" (document 02, Paper 6), and then nothing
-- is joined
unfoldable pub with_fillets : Body → Body → Body
with_fillets plate fillets = cond (eq fillets.mass_kg (bits 0)) plate (join_of (two_bodies plate fillets) 2)

abbrev pub negate_vector : Vector → Vector
negate_vector u = vector (neg u.x) (neg u.y) (neg u.z)

-- the point that the cant turns about: the middle of the root chord, on the body's surface
abbrev pub pivot_of : Float → Float → Vector
pivot_of radius root = vector radius (bits 0) (neg half ⊗ root)

-- a fin turned by the cant about the span axis through the pivot; a cant of either zero moves and turns nothing
unfoldable pub canted_of : Body → Float → Vector → Body
canted_of fin cant pivot =
    cond (eq cant (bits 0)) fin (translated_of (rotated_xof (translated_of fin (negate_vector pivot)) cant) pivot)

-- the integrals of fin and tab together, from the strips' totals
abbrev pub integrals_of : FinSet → Float → List Float → List Float
integrals_of set scale total =
    add_integrals (unscaled_of total scale) (tab_integrals_of set.tab set.thickness_m set.body_radius_m)

-- one fin with its tab and fillets, at roll 0, from its integrals and the root chord; a density that is taken is bulk
unfoldable pub fin_of : FinSet → Float → List Float → Body
fin_of set root v =
    canted_of
    (with_fillets (plate_body v (density_figure set.density)) (fillets_of set.fillet set.body_radius_m root))
    set.cant_rad (pivot_of set.body_radius_m root)
