-- How near the inertia of a single fin about its balance point is to the exact one, and how near the distance of that
-- point from the body's axis: a trapezoid of square or airfoil section, with a tab or none, no fillet, no cant, base
-- angle 0. Its points lie at (r, τ, −x): r from the body's axis, τ through the thickness, x along the root from its
-- leading edge. Both sides are multiplied by the volume, since the fractions here have no division.
use Rattle.std.specs.Prelude.{◌≡◌, true, List, ℕ, ◌*◌, ◌^◌, ◌≤◌, ◌<◌, T, pos, Float, Option, Some, None}
use Rattle.std.specs.Float.{binary64}
use Rattle.std.specs.Float.Ieee.{fits, eq}
use Rattle.std.specs.Float.Ieee.Positive.{num, den}
use Rattle.floats.specs.Operations.{bits}
use Rattle.floats.specs.Fractions.{Fraction, ◌over◌, ◌plus◌, minus, ◌times◌, value_of}
use Rattle.rounding.specs.Sizes.{AtMost}
use Rattle.rounding_error.specs.Distances.{Within}
use Rattle.sections.specs.Airfoil.{closed_tail, open_tail, phi_exactly, psi_exactly}
use Rattle.sections.specs.declared.Section.{Section}
use Rattle.sections.specs.declared.Section.TheVariants.{Square, Rounded, Airfoil, AirfoilOpen}
use Rattle.bodies.specs.declared.Tensor.{Tensor}
use Rattle.bodies.specs.declared.Vector.{Vector}
use Rattle.bodies.specs.Tensors.{number_at}
use Rattle.fins.specs.declared.FinTab.{FinTab}
use Rattle.figures.specs.declared.Figures.{Figures}
use Rattle.one_piece.specs.OnePiece.{NotRounded}
use Rattle.accuracy.specs.Centroids.{in_height}
use Rattle.accuracy.specs.Masses.{Plate, Mount, SectionGiven, OneStrip, fin_volume, tab_volume, filled}
use Rattle.accuracy.specs.Balances.{fin_moment, forward, tab_moment, TabGiven}

infixl 65 ◌less◌
abbrev pub ◌less◌ : Fraction → Fraction → Fraction
a less b = a plus minus b

abbrev pub square : Fraction → Fraction
square a = a times a

abbrev pub cubed : Fraction → Fraction
cubed a = a times square a

-- seven integrals over a volume: of 1 (the volume itself), r, r², x, x², r·x and τ²
pub record Integrals : Type 0 where
  pub volume : Fraction
  pub r1 : Fraction
  pub r2 : Fraction
  pub x1 : Fraction
  pub x2 : Fraction
  pub rx : Fraction
  pub tau2 : Fraction

-- ---- the fin; y is the height over the root
-- the second moment of a section about its leading edge, divided by thickness × chord³; the theorem leaves rounded
-- sections out, and 0 stands for them
abbrev pub forward_square : Section → Fraction
forward_square Square = pos 1 over 3
forward_square Rounded = pos 0 over 1
forward_square Airfoil = phi_exactly closed_tail 2
forward_square AirfoilOpen = phi_exactly open_tail 2

-- the integral of a section's cubed thickness along the chord, divided by thickness³ × chord; the theorem leaves
-- rounded sections out, and 0 stands for them
abbrev pub filled_cube : Section → Fraction
filled_cube Square = pos 1 over 1
filled_cube Rounded = pos 0 over 1
filled_cube Airfoil = psi_exactly closed_tail
filled_cube AirfoilOpen = psi_exactly open_tail

-- ∫y over a fin of square section: thickness·span²·(root + 2·tip)/6
abbrev pub height_moment : Plate → Fraction
height_moment p =
    value_of p.thickness times (value_of p.span times (in_height p.root p.tip p.span times (pos 1 over 6)))

-- ∫y² over a fin of square section: thickness·span³·(root + 3·tip)/12
abbrev pub height_squares : Plate → Fraction
height_squares p =
    value_of p.thickness
    times
    (cubed (value_of p.span) times
    ((value_of p.root plus (pos 3 over 1) times value_of p.tip) times (pos 1 over 12)))

-- root + 3·tip, a factor of the integrals below
abbrev pub to_tip : Plate → Fraction
to_tip p = value_of p.root plus (pos 3 over 1) times value_of p.tip

-- root² + 2·root·tip + 3·tip², a factor of the integrals below
abbrev pub to_tip_square : Plate → Fraction
to_tip_square p =
    square (value_of p.root) plus (pos 2 over 1) times (value_of p.root times value_of p.tip)
    plus (pos 3 over 1) times square (value_of p.tip)

-- root³ + root²·tip + root·tip² + tip³, a factor of the integrals below
abbrev pub to_tip_cube : Plate → Fraction
to_tip_cube p =
    cubed (value_of p.root) plus square (value_of p.root) times value_of p.tip
    plus value_of p.root times square (value_of p.tip) plus cubed (value_of p.tip)

-- ∫x² over a fin, with σ, φ and φ₂ the section's `filled`, `forward` and `forward_square`:
-- thickness·span·(σ·sweep²·(root + 3·tip)/12 + φ·sweep·(root² + 2·root·tip + 3·tip²)/6 + φ₂·(root³ + root²·tip +
-- root·tip² + tip³)/4)
abbrev pub along_squares : Section → Plate → Fraction
along_squares section p =
    value_of p.thickness times (value_of p.span times
    (filled section times (square (value_of p.sweep) times to_tip p) times (pos 1 over 12)
    plus forward section times (value_of p.sweep times to_tip_square p) times (pos 1 over 6)
    plus forward_square section times to_tip_cube p times (pos 1 over 4)))

-- ∫yx over a fin, with σ and φ the section's `filled` and `forward`: thickness·span²·(σ·sweep·(root + 3·tip) + φ·(root²
-- + 2·root·tip + 3·tip²))/12
abbrev pub height_along : Section → Plate → Fraction
height_along section p =
    value_of p.thickness times (square (value_of p.span) times
    ((filled section times (value_of p.sweep times to_tip p) plus forward section times to_tip_square p) times
    (pos 1 over 12)))

-- ∫τ² over a plate: thickness²/12 of its volume
abbrev pub through_thickness : Float → Fraction → Fraction
through_thickness thickness volume = square (value_of thickness) times (pos 1 over 12) times volume

-- the integrals of a fin, where r is the body's radius + y
abbrev pub fin_integrals : Section → Plate → Float → Integrals
fin_integrals section p radius =
    record {
      volume = filled section times fin_volume p;
      r1 = value_of radius times (filled section times fin_volume p) plus filled section times height_moment p;
      r2 = square (value_of radius) times (filled section times fin_volume p)
          plus (pos 2 over 1) times
          (value_of radius times (filled section times height_moment p)) plus filled section times height_squares p;
      x1 = fin_moment section p;
      x2 = along_squares section p;
      rx = value_of radius times fin_moment section p plus height_along section p;
      tau2 = through_thickness p.thickness (filled_cube section times fin_volume p);
    }

-- ---- the tab: its integrals are its volume times a mean
-- the mean of r over a tab: radius − height/2
abbrev pub mean_radius : Float → Float → Fraction
mean_radius height radius = value_of radius less value_of height times (pos 1 over 2)

-- the mean of r² over a tab: radius² − radius·height + height²/3
abbrev pub mean_radius_square : Float → Float → Fraction
mean_radius_square height radius =
    square (value_of radius)
    less value_of radius times value_of height plus square (value_of height) times (pos 1 over 3)

-- the mean of x² over a tab: offset² + offset·length + length²/3
abbrev pub mean_along_square : Float → Float → Fraction
mean_along_square length offset =
    square (value_of offset) plus value_of offset times value_of length
    plus square (value_of length) times (pos 1 over 3)

-- the integrals of a tab, all 0 where there is none
abbrev pub tab_integrals : Option FinTab → Float → Float → Integrals
tab_integrals None thickness radius =
    record {
      volume = pos 0 over 1;
      r1 = pos 0 over 1;
      r2 = pos 0 over 1;
      x1 = pos 0 over 1;
      x2 = pos 0 over 1;
      rx = pos 0 over 1;
      tau2 = pos 0 over 1;
    }
tab_integrals (Some tab) thickness radius =
    let volume = tab_volume (Some tab) thickness in
    let moment = tab_moment (Some tab) thickness in
    record {
      volume = volume;
      r1 = volume times mean_radius tab.height_m radius;
      r2 = volume times mean_radius_square tab.height_m radius;
      x1 = moment;
      x2 = volume times mean_along_square tab.length_m tab.offset_m;
      rx = moment times mean_radius tab.height_m radius;
      tau2 = through_thickness thickness volume;
    }

-- ---- fin and tab together
abbrev pub together : Integrals → Integrals → Integrals
together a b =
    record {
      volume = a.volume plus b.volume;
      r1 = a.r1 plus b.r1;
      r2 = a.r2 plus b.r2;
      x1 = a.x1 plus b.x1;
      x2 = a.x2 plus b.x2;
      rx = a.rx plus b.rx;
      tau2 = a.tau2 plus b.tau2;
    }

abbrev pub exact_integrals : Section → Plate → Mount → Integrals
exact_integrals section p m =
    together (fin_integrals section p m.radius) (tab_integrals p.tab p.thickness m.radius)

-- the tensor's numbers xx, yy, zz and xz about the balance point at density 1, each times the volume; as points lie at
-- (r, τ, −x), the xz number is +∫rx
abbrev pub exact_xx : Integrals → Fraction
exact_xx v = (v.tau2 plus v.x2) times v.volume less square v.x1

abbrev pub exact_yy : Integrals → Fraction
exact_yy v = (v.r2 plus v.x2) times v.volume less (square v.r1 plus square v.x1)

abbrev pub exact_zz : Integrals → Fraction
exact_zz v = (v.r2 plus v.tau2) times v.volume less square v.r1

abbrev pub exact_xz : Integrals → Fraction
exact_xz v = v.rx times v.volume less v.r1 times v.x1

-- ---- the theorems
-- a single fin whose base angle and cant are 0 (of either sign), the body's radius an f64; root chord, span, radius and
-- thickness are at most L = b / d, which is at most 64
pub record Alone (p : Plate) (m : Mount) (b d : ℕ) : Type 0 where
  pub one_fin : m.count ≡ 1
  pub no_roll : eq m.base (bits 0) ≡ true
  pub no_cant : eq m.cant (bits 0) ≡ true
  pub radius_f64 : T (fits binary64 m.radius)
  pub is_size : 0 < d
  pub most : b ≤ 64 * d
  pub root_most : AtMost b d p.root
  pub span_most : AtMost b d p.span
  pub radius_most : AtMost b d m.radius
  pub thickness_most : AtMost b d p.thickness

-- where there is a tab, it is at most `spans` spans deep (`TabGiven`), and the body's radius is at most the span
abbrev pub TabBeside : ℕ → Option FinTab → Plate → Float → Type 0
TabBeside spans None p radius = Unit {0}
TabBeside spans (Some tab) p radius =
    TabGiven spans (Some tab) p × AtMost (num p.span) (den p.span) radius

-- x is at most `roundoffs` unit roundoffs (2^-53) of density·thickness·root·span·L² from the exact number
abbrev pub NumberNear : Section → Plate → Mount → ℕ → ℕ → ℕ → Float → Fraction → Type 0
NumberNear section p m b d roundoffs x exact =
    Within
    ((pos (roundoffs * (b * b)) over (d * d * 2 ^ 53))
    times (value_of p.density times (value_of p.thickness times (value_of p.root times value_of p.span)))
    times (exact_integrals section p m).volume)
    (value_of x times (exact_integrals section p m).volume) (value_of p.density times exact)

-- the tensor is that near; its xy and yz are 0, as the fin lies evenly on both sides of its middle plane
pub record TensorNear (section : Section) (p : Plate) (m : Mount) (b d roundoffs : ℕ) (t : Tensor) : Type 0 where
  pub xx : NumberNear section p m b d roundoffs (number_at t 0) (exact_xx (exact_integrals section p m))
  pub yy : NumberNear section p m b d roundoffs (number_at t 1) (exact_yy (exact_integrals section p m))
  pub zz : NumberNear section p m b d roundoffs (number_at t 2) (exact_zz (exact_integrals section p m))
  pub xy : AtMost 0 1 (number_at t 3)
  pub xz : NumberNear section p m b d roundoffs (number_at t 4) (exact_xz (exact_integrals section p m))
  pub yz : AtMost 0 1 (number_at t 5)

-- the balance point is at most `roundoffs` unit roundoffs of L from its exact distance to the axis, and lies in the
-- fin's middle plane
pub record OffAxisNear (section : Section) (p : Plate) (m : Mount) (b d roundoffs : ℕ) (centre : Vector) : Type 0 where
  pub outward :
      Within ((pos (roundoffs * b) over (d * 2 ^ 53)) times (exact_integrals section p m).volume)
      (value_of centre.x times (exact_integrals section p m).volume) (exact_integrals section p m).r1
  pub aside : AtMost 0 1 centre.y

-- by how many unit roundoffs the tensor of a fin in one piece may be off: of a fin that has no tab, of one that has a
-- tab
abbrev pub tensor_error : Option FinTab → ℕ
tensor_error None = 60000
tensor_error (Some tab) = 350000

-- by how many unit roundoffs the balance point's distance from the axis may be off: of a fin that has no tab, of one
-- that has a tab
abbrev pub outward_error : Option FinTab → ℕ
outward_error None = 6000
outward_error (Some tab) = 30000

pub record FinNear (section : Section) (p : Plate) (m : Mount) (b d : ℕ) (r : Figures) : Type 0 where
  pub tensor : TensorNear section p m b d (tensor_error p.tab) r.body.inertia_kg_m2
  pub centre : OffAxisNear section p m b d (outward_error p.tab) r.body.centre_m

-- the theorem: every single fin in one piece whose tip is at most one root chord and |sweep| at most four is that near
abbrev pub OrdinaryInertia : Type 0
OrdinaryInertia =
    (section : Section) (p : Plate) (m : Mount) (points : List Float)
    (L : ℕ) (entry : List Float) (r : Figures) (exit : List Float) (b d : ℕ)
    → NotRounded section
    → SectionGiven section p m points L entry r exit
    → OneStrip 1 4 section p r.intervals
    → Alone p m b d
    → TabBeside 1 p.tab p m.radius
    → FinNear section p m b d r
