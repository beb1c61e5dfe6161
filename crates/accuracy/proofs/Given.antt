-- What an accepted trapezoid gives: lengths far from the ends of f64's range, and a size B that root, tip and sweep do not pass.
use lib.Dec.{T}
use lib.Ieee.{Float}
use lib.Ieee.Scale.{finite}
use lib.Ieee.Positive.{positive}
use Rattle.rounding_error.proofs.Numbers.{Size, ◌of◌, ◌for◌, Under, value_of, size_of, Ranges}

pub record Lengths (root tip span sweep scale : Float) (B : Size) : Type 0 where
  pub root_finite : T (finite root)
  pub tip_finite : T (finite tip)
  pub sweep_finite : T (finite sweep)
  pub span_positive : T (positive span)
  pub scale_positive : T (positive scale)
  pub span_ranges : Ranges 24 (size_of span)
  pub scale_ranges : Ranges 24 (size_of scale)
  pub height_ranges : Ranges 40 (size_of span for scale)
  pub ranges : Ranges 24 B
  pub root_under : Under (1 of B) (value_of root)
  pub tip_under : Under (1 of B) (value_of tip)
  pub sweep_under : Under (1 of B) (value_of sweep)
