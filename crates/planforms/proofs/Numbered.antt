-- A planform that is written as numbers is read back. Assumes nothing.
use mathlib.Core.Path.{◌≡◌, refl}
use Rattle.std.specs.Prelude.{Some}
use Rattle.planforms.specs.declared.Planform.{Planform}
use Rattle.planforms.specs.declared.Planform.TheVariants.{Trapezoid, Ellipse, Outline}
use Rattle.planforms.specs.Numbered.{planform_number, lengths_of, planform_of}

pub planform_back : (planform : Planform) → planform_of (planform_number planform) (lengths_of planform) ≡ Some planform
unfolding planform_of
planform_back (Trapezoid root tip span sweep) = refl
planform_back (Ellipse root span) = refl
planform_back Outline = refl
