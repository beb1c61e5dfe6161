-- How near the mass of a set of trapezoids, each worked in one piece, is to the exact one: square sections and
-- airfoils, with a tab or none and no fillet, whatever the cant.
use Rattle.std.specs.Prelude.{◌≡◌, true, List, ◌⊎◌, ℕ, ◌*◌, ◌^◌, ◌≤◌, ◌<◌, T, pos, Float, Ok, Option, Some, None}
use Rattle.std.specs.Float.{binary64}
use Rattle.std.specs.Float.Ieee.{fits, lt}
use Rattle.std.specs.Float.Ieee.Positive.{num, den}
use Rattle.floats.specs.Operations.{bits}
use Rattle.floats.specs.Fractions.{Fraction, ◌over◌, ◌plus◌, ◌times◌, value_of}
use Rattle.rounding.specs.Sizes.{AtMost}
use Rattle.rounding_error.specs.Distances.{Within}
use Rattle.materials.specs.declared.Density.TheVariants.{Bulk}
use Rattle.sections.specs.Airfoil.{closed_tail, open_tail, phi_exactly}
use Rattle.sections.specs.declared.Section.{Section}
use Rattle.sections.specs.declared.Section.TheVariants.{Square, Rounded, Airfoil, AirfoilOpen}
use Rattle.planforms.specs.declared.Planform.TheVariants.{Trapezoid}
use Rattle.fillets.specs.declared.Fillet.{Fillet}
use Rattle.fillets.specs.Fillets.{is_none}
use Rattle.fins.specs.declared.FinSet.{FinSet}
use Rattle.fins.specs.declared.FinTab.{FinTab}
use Rattle.figures.specs.Answers.{SetAnswers}
use Rattle.figures.specs.declared.Figures.{Figures}
use Rattle.one_piece.specs.OnePiece.{NotRounded, tips_of, Proportions}
use Rattle.accuracy.specs.Areas.{Reach}

-- what makes up a fin of the set: its lengths, its tab and its density
pub record Plate : Type 0 where
  pub root : Float
  pub tip : Float
  pub span : Float
  pub sweep : Float
  pub thickness : Float
  pub tab : Option FinTab
  pub density : Float

-- how the fins are mounted: how many, at which angles, on a body of which radius, with which fillet
pub record Mount : Type 0 where
  pub count : ℕ
  pub cant : Float
  pub base : Float
  pub radius : Float
  pub fillet : Fillet

-- tip is at most `tips` and |sweep| at most `sweeps` root chords, and the strip is one piece: one is enough for it
-- (one_piece/specs/OnePiece), or the call says that it took one
pub record OneStrip (tips sweeps : ℕ) (section : Section) (p : Plate) (intervals : ℕ) : Type 0 where
  pub tip_most : AtMost (tips * num p.root) (den p.root) p.tip
  pub sweep_most : AtMost (sweeps * num p.root) (den p.root) p.sweep
  pub one_piece : Proportions (tips_of section) 4 p.root p.tip p.sweep ⊎ (intervals ≡ 1)

-- the set of these fins, so mounted, of a section
abbrev pub set_with : Section → Plate → Mount → FinSet
set_with section p m =
    record {
      count = m.count;
      planform = Trapezoid p.root p.tip p.span p.sweep;
      thickness_m = p.thickness;
      cross_section = section;
      tab = p.tab;
      fillet = m.fillet;
      cant_rad = m.cant;
      base_angle_rad = m.base;
      body_radius_m = m.radius;
      density = Bulk p.density;
    }

-- the call for the set's figures (`figures::mass_properties`) answered r with figures; the lengths and the thickness
-- are f64s, there is no fillet, and the density is above 0
pub record SectionGiven (section : Section) (p : Plate) (m : Mount) (points : List Float)
    (L : ℕ) (entry : List Float) (r : Figures) (exit : List Float) : Type 0 where
  pub f64s :
      T (fits binary64 p.root)
      × (T (fits binary64 p.tip) × (T (fits binary64 p.span) × T (fits binary64 p.sweep)))
  pub thickness_f64 : T (fits binary64 p.thickness)
  pub answers : SetAnswers (set_with section p m) points L entry r exit
  pub given : r.verdict ≡ Ok tt
  pub no_fillet_lem : is_none m.fillet.radius_m m.radius ≡ true
  pub heavy : lt (bits 0) p.density ≡ true

-- the volume of a fin of square section: thickness·span·(root + tip)/2
abbrev pub fin_volume : Plate → Fraction
fin_volume p =
    value_of p.thickness times
    (value_of p.span times ((value_of p.root plus value_of p.tip) times (pos 1 over 2)))

-- the volume of a tab: thickness·length·height, and 0 where there is none
abbrev pub tab_volume : Option FinTab → Float → Fraction
tab_volume None thickness = pos 0 over 1
tab_volume (Some tab) thickness = value_of thickness times value_of tab.length_m times value_of tab.height_m

-- where there is a tab, its length is at most b / d and its height at most y / e
abbrev pub TabWithin : Option FinTab → ℕ → ℕ → ℕ → ℕ → Type 0
TabWithin None b d y e = Unit {0}
TabWithin (Some tab) b d y e = AtMost b d tab.length_m × AtMost y e tab.height_m

-- root, tip, |sweep| and the length of a tab are at most B = b / d, span and the height of a tab at most Y = y / e; B
-- and Y are at most 64
pub record Extents (p : Plate) (b d y e : ℕ) : Type 0 where
  pub along : Reach b d p.root p.tip p.sweep
  pub along_most : b ≤ 64 * d
  pub is_size : 0 < e
  pub span_most : AtMost y e p.span
  pub outward_most : y ≤ 64 * e
  pub tab_within : TabWithin p.tab b d y e

-- how much of thickness × chord a section fills: a square one all, an airfoil the integral of its thickness; the
-- theorems leave rounded sections out, and 0 stands for them
abbrev pub filled : Section → Fraction
filled Square = pos 1 over 1
filled Rounded = pos 0 over 1
filled Airfoil = phi_exactly closed_tail 0
filled AirfoilOpen = phi_exactly open_tail 0

-- the exact mass of a set: count·density·volume
abbrev pub exact_mass : Section → Plate → Mount → Fraction
exact_mass section p m =
    (pos m.count over 1)
    times (value_of p.density times (filled section times fin_volume p plus tab_volume p.tab p.thickness))

-- the theorem: the mass of every set in one piece whose tip is at most 2 root chords and |sweep| at most 8 is at most
-- 90·2^-53·count·density·thickness·B·Y from the exact one
abbrev pub OrdinaryMass : Type 0
OrdinaryMass =
    (section : Section) (p : Plate) (m : Mount) (points : List Float)
    (L : ℕ) (entry : List Float) (r : Figures) (exit : List Float) (b d y e : ℕ)
    → NotRounded section
    → SectionGiven section p m points L entry r exit
    → T (fits binary64 m.radius)
    → OneStrip 2 8 section p r.intervals
    → Extents p b d y e
    → Within
    ((pos (m.count * 90 * (b * y)) over (d * e * 2 ^ 53)) times (value_of p.density times value_of p.thickness))
    (value_of r.body.mass_kg) (exact_mass section p m)
