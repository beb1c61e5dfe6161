-- How near the balance point of a set of trapezoids is to the exact one, along the body's axis: square sections and
-- airfoils, with a tab or none, no fillet and no cant. The axis points forward from the leading edge of the root: what
-- lies aft of that has a coordinate below 0. Both sides are multiplied by the mass, since the fractions here have no
-- division.
use Rattle.std.specs.Prelude.{◌≡◌, true, List, ℕ, ◌*◌, ◌^◌, T, pos, Float, Option, Some, None}
use Rattle.std.specs.Float.{binary64}
use Rattle.std.specs.Float.Ieee.{fits, eq}
use Rattle.std.specs.Float.Ieee.Positive.{num, den}
use Rattle.floats.specs.Operations.{bits}
use Rattle.floats.specs.Fractions.{Fraction, ◌over◌, ◌plus◌, minus, ◌times◌, value_of}
use Rattle.rounding.specs.Sizes.{AtMost}
use Rattle.rounding_error.specs.Distances.{Within}
use Rattle.sections.specs.Airfoil.{closed_tail, open_tail, phi_exactly}
use Rattle.sections.specs.declared.Section.{Section}
use Rattle.sections.specs.declared.Section.TheVariants.{Square, Rounded, Airfoil, AirfoilOpen}
use Rattle.fins.specs.declared.FinTab.{FinTab}
use Rattle.figures.specs.declared.Figures.{Figures}
use Rattle.one_piece.specs.OnePiece.{NotRounded}
use Rattle.accuracy.specs.Masses.{Plate, Mount, SectionGiven, OneStrip, exact_mass, filled}

-- the moment of a section about its leading edge, divided by thickness × chord²; the theorem leaves rounded sections
-- out, and 0 stands for them
abbrev pub forward : Section → Fraction
forward Square = pos 1 over 2
forward Rounded = pos 0 over 1
forward Airfoil = phi_exactly closed_tail 1
forward AirfoilOpen = phi_exactly open_tail 1

-- the moment of a fin's volume about the leading edge of the root, where σ is how much the section fills and φ is its
-- `forward`: thickness·span·(σ·sweep·(root + 2·tip)/6 + φ·(root² + root·tip + tip²)/3)
abbrev pub fin_moment : Section → Plate → Fraction
fin_moment section p =
    value_of p.thickness times (value_of p.span times
    (filled section times
    (value_of p.sweep times (value_of p.root plus (pos 2 over 1) times value_of p.tip)) times (pos 1 over 6)
    plus forward section times (value_of p.root times value_of p.root plus value_of p.root times value_of p.tip
    plus value_of p.tip times value_of p.tip) times (pos 1 over 3)))

-- the moment of a tab's volume about the leading edge of the root: thickness·height·length·(offset + length/2), and 0
-- where there is no tab
abbrev pub tab_moment : Option FinTab → Float → Fraction
tab_moment None thickness = pos 0 over 1
tab_moment (Some tab) thickness =
    value_of thickness times value_of tab.height_m times
    (value_of tab.length_m times (value_of tab.offset_m plus value_of tab.length_m times (pos 1 over 2)))

-- the exact moment of a whole set: count·density·moment of a fin with its tab
abbrev pub exact_moment : Section → Plate → Mount → Fraction
exact_moment section p m =
    (pos m.count over 1) times
    (value_of p.density times (fin_moment section p plus tab_moment p.tab p.thickness))

-- height and length of a tab are f64s, its length and |offset| are at most the root chord, its height at most `spans`
-- spans
abbrev pub TabGiven : ℕ → Option FinTab → Plate → Type 0
TabGiven spans None p = Unit {0}
TabGiven spans (Some tab) p =
    (T (fits binary64 tab.height_m) × T (fits binary64 tab.length_m))
    × ((AtMost (num p.root) (den p.root) tab.length_m × AtMost (num p.root) (den p.root) tab.offset_m)
    × AtMost (spans * num p.span) (den p.span) tab.height_m)

-- the number `without` for a fin that has no tab, and `with` for one that has
abbrev pub by_tab : ℕ → ℕ → Option FinTab → ℕ
by_tab without with None = without
by_tab without with (Some tab) = with

-- the theorem: in every set of one piece with no cant, whose tip is at most `tips` and |sweep| at most `sweeps` root
-- chords, and whose tab is at most `spans` spans deep, the balance point is at most `without` unit roundoffs (2^-53) of
-- the root chord from the exact one where there is no tab, and at most `with` where there is one
abbrev pub OrdinaryBalance : (tips sweeps spans without with : ℕ) → Type 0
OrdinaryBalance tips sweeps spans without with =
    (section : Section) (p : Plate) (m : Mount) (points : List Float)
    (L : ℕ) (entry : List Float) (r : Figures) (exit : List Float)
    → NotRounded section
    → SectionGiven section p m points L entry r exit
    → T (fits binary64 m.radius)
    → eq m.cant (bits 0) ≡ true
    → OneStrip tips sweeps section p r.intervals
    → TabGiven spans p.tab p
    → Within ((pos (by_tab without with p.tab) over 2 ^ 53) times value_of p.root times exact_mass section p m)
    (value_of r.body.centre_m.z times exact_mass section p m) (minus (exact_moment section p m))
