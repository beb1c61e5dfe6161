-- A section by its number: its place in docs/FORMS.md, "square, rounded, airfoil or airfoil-open" (include/delvouzh.h).
use Rattle.std.specs.Prelude.{◌≡◌, cond, ℕ, eqb, Option, Some, None, Result, IfErr}
use Rattle.std.specs.Result.{result_ok}
use Rattle.sections.specs.declared.Section.{Section}
use Rattle.sections.specs.declared.UnknownSection.{UnknownSection}
use Rattle.sections.specs.declared.Section.TheVariants.{Square, Rounded, Airfoil, AirfoilOpen}

abbrev pub section_number : Section → ℕ
section_number Square = 1
section_number Rounded = 2
section_number Airfoil = 3
section_number AirfoilOpen = 4

-- the section that a number stands for: the one that it was made of (proofs/Numbered: `section_back`)
unfoldable pub numbered_section : ℕ → Option Section
numbered_section number =
    cond (eqb number 1) (Some Square)
    (cond (eqb number 2) (Some Rounded)
    (cond (eqb number 3) (Some Airfoil)
    (cond (eqb number 4) (Some AirfoilOpen) None)))

-- a conversion gives the section that a number stands for, or an error with the number where there is none
abbrev pub TriesSection : ℕ → Result Section UnknownSection → Type 0
TriesSection number r = (result_ok r ≡ numbered_section number) × IfErr r (λ e. e.0 ≡ number)
