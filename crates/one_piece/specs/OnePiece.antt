-- Which trapezoids are worked in one piece, whatever their span, thickness and distance from the axis: those of square
-- or airfoil section whose tip and sweep are a few root chords.
use Rattle.std.specs.Prelude.{◌≡◌, false, List, ◌⊎◌, ℕ, ◌*◌, T, length, Float, Ok, Err}
use Rattle.std.specs.Float.{binary64}
use Rattle.std.specs.Float.Ieee.{fits, lt}
use Rattle.std.specs.Float.Ieee.Positive.{num, den}
use Rattle.floats.specs.Operations.{bits}
use Rattle.rounding.specs.Sizes.{AtMost}
use Rattle.refusals.specs.declared.Refusal.TheVariants.{NoArea}
use Rattle.limits.specs.Limits.{piece_samples}
use Rattle.sections.specs.declared.Section.{Section}
use Rattle.sections.specs.declared.Section.TheVariants.{Square, Rounded, Airfoil, AirfoilOpen}
use Rattle.planforms.specs.declared.Planform.TheVariants.{Trapezoid}
use Rattle.fins.specs.Fins.{set_check, area_check}
use Rattle.fins.specs.declared.FinSet.{FinSet}
use Rattle.strips.specs.Claim.{Report}
use Rattle.figures.specs.Answers.{SetAnswers, AreaAnswers, set_report, area_report}
use Rattle.figures.specs.declared.Figures.{Figures}
use Rattle.figures.specs.declared.Area.{Area}

-- a section other than rounded: the moments of its chords are polynomials of their ends. Of rounded ones nothing is
-- said
abbrev pub NotRounded : Section → Type 0
NotRounded Square = Unit {0}
NotRounded Rounded = ⊥
NotRounded Airfoil = Unit {0}
NotRounded AirfoilOpen = Unit {0}

-- how many root chords long the tip may be
abbrev pub tips_of : Section → ℕ
tips_of Square = 2
tips_of Rounded = 0
tips_of Airfoil = 1
tips_of AirfoilOpen = 1

-- tip and sweep are at most so many root chords, and the fin is not swept forward
pub record Proportions (tips sweeps : ℕ) (root tip sweep : Float) : Type 0 where
  pub tip_most : AtMost (tips * num root) (den root) tip
  pub sweep_most : AtMost (sweeps * num root) (den root) sweep
  pub backward : lt sweep (bits 0) ≡ false

abbrev pub AreF64s : Float → Float → Float → Float → Type 0
AreF64s root tip span sweep =
    T (fits binary64 root) × (T (fits binary64 tip) × (T (fits binary64 span) × T (fits binary64 sweep)))

-- 15 samples were taken, and what is reported is figures by one piece, or 8: never 13
pub record OnePiece (report : Report) : Type 0 where
  pub fifteen : report.samples ≡ piece_samples
  pub figures_or_8 : ((report.verdict ≡ Ok tt) × (report.intervals ≡ 1)) ⊎ (report.verdict ≡ Err NoArea)

-- the statement for an area: the call (`figures::geometry`) answered r for a trapezoid that passes the checks, with a
-- tip of up to 4 root chords and a sweep of 0 to 4
abbrev pub AreaOnePiece : Type 0
AreaOnePiece =
    (root tip span sweep : Float) (points : List Float) (L : ℕ) (entry : List Float) (r : Area) (exit : List Float)
    → AreF64s root tip span sweep
    → AreaAnswers (Trapezoid root tip span sweep) points L entry r exit
    → area_check (Trapezoid root tip span sweep) points L (length entry) ≡ Ok tt
    → Proportions 4 4 root tip sweep
    → OnePiece (area_report r)

-- the statement for a set: the call (`figures::mass_properties`) answered r for a set of trapezoids that passes the
-- checks, with a tip of up to 2 root chords, 1 for an airfoil, and a sweep of 0 to 4
abbrev pub SetOnePiece : Type 0
SetOnePiece =
    (set : FinSet) (root tip span sweep : Float) (points : List Float)
    (L : ℕ) (entry : List Float) (r : Figures) (exit : List Float)
    → set.planform ≡ Trapezoid root tip span sweep
    → NotRounded set.cross_section
    → AreF64s root tip span sweep
    → T (fits binary64 set.thickness_m) × T (fits binary64 set.body_radius_m)
    → SetAnswers set points L entry r exit
    → set_check set points L (length entry) ≡ Ok tt
    → Proportions (tips_of set.cross_section) 4 root tip sweep
    → OnePiece (set_report r)
