-- A planform as numbers (docs/FORMS.md; include/delvouzh.h): 1 a trapezoid, of root chord, tip chord, span and sweep; 2
-- an ellipse, of root chord and span; 3 an outline, whose points stand elsewhere. No planform has another number.
use Rattle.std.specs.Prelude.{cond, List, [], ◌∷◌, ℕ, eqb, length, Float, Option, Some, None}
use Rattle.floats.specs.Operations.{bits, at}
use Rattle.planforms.specs.declared.Planform.{Planform}
use Rattle.planforms.specs.declared.Planform.TheVariants.{Trapezoid, Ellipse, Outline}

-- the number of a planform's kind, and its lengths in as many places as a trapezoid has, with zeros after them
abbrev pub planform_number : Planform → ℕ
planform_number (Trapezoid root tip span sweep) = 1
planform_number (Ellipse root span) = 2
planform_number Outline = 3

abbrev pub lengths_of : Planform → List Float
lengths_of (Trapezoid root tip span sweep) = root ∷ tip ∷ span ∷ sweep ∷ []
lengths_of (Ellipse root span) = root ∷ span ∷ bits 0 ∷ bits 0 ∷ []
lengths_of Outline = bits 0 ∷ bits 0 ∷ bits 0 ∷ bits 0 ∷ []

-- the planform that a number and lengths stand for: the one that they were made of (proofs/Numbered: `planform_back`)
unfoldable pub planform_of : ℕ → List Float → Option Planform
planform_of number lengths =
    cond (eqb number 1) (Some (Trapezoid (at lengths 0) (at lengths 1) (at lengths 2) (at lengths 3)))
    (cond (eqb number 2) (Some (Ellipse (at lengths 0) (at lengths 1)))
    (cond (eqb number 3) (Some Outline) None))

-- the planform of a number and of a list that C or Rust lends: any other count of lengths is no planform's
unfoldable pub listed_planform : ℕ → List Float → Option Planform
listed_planform number lengths = cond (eqb (length lengths) 4) (planform_of number lengths) None
