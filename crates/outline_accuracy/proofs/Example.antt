-- What the statement asks of an outline is computed, and holds of this one, of five corners and two strips. Assumes nothing.
use mathlib.Core.Path.{◌≡◌, refl, sym, subst}
use mathlib.Core.List.{List, [], ◌∷◌}
use mathlib.Core.Logic.{inl}
use native.Mathlib.Omega.{arith}
use lib.Ieee.{Float, of_bits, lt, eq, le, ne}
use Rattle.floats.specs.Operations.{bits}
use Rattle.sorting.specs.Sorted.{sorted, insert, below_all}
use Rattle.planforms.specs.declared.Planform.TheVariants.{Outline}
use Rattle.planforms.specs.Planforms.{largest_height, span_of}
use Rattle.breaks.specs.Breaks.{heights, every_y, once, break_heights}
use Rattle.chords.specs.Chords.{crossed}
use Rattle.outline_accuracy.specs.OutlineAreas.{InOrder, AllInOrder, crossed_edges}

abbrev half : Float
half = bits 0x3fe0_0000_0000_0000

abbrev one : Float
one = bits 0x3ff0_0000_0000_0000

-- (0, 0), (1/4, 1/2), (1/2, 1), (7/8, 1/2), (1, 0)
abbrev points : List Float
points =
    bits 0 ∷ bits 0 ∷ bits 0x3fd0_0000_0000_0000 ∷ half ∷ half ∷ one ∷ bits 0x3fec_0000_0000_0000 ∷ half ∷ one ∷ bits 0 ∷ []

breaks_are : break_heights Outline points ≡ bits 0 ∷ half ∷ one ∷ []
unfolding break_heights once sorted insert below_all every_y heights span_of largest_height lt eq ne of_bits
breaks_are = refl

lower_strip : InOrder points (bits 0) half
unfolding crossed_edges crossed span_of largest_height lt le ne of_bits
lower_strip =
    record {
      left = 0;
      right = 3;
      two_edges = inl refl;
      at_lower_end = (omega arith, record { le = tt });
      at_upper_end = (omega arith, record { le = tt });
      high_enough = (omega arith, record { le = tt });
    }

upper_strip : InOrder points half one
unfolding crossed_edges crossed span_of largest_height lt le ne of_bits
upper_strip =
    record {
      left = 1;
      right = 2;
      two_edges = inl refl;
      at_lower_end = (omega arith, record { le = tt });
      at_upper_end = (omega arith, record { le = tt });
      high_enough = (omega arith, record { le = tt });
    }

pub in_order : AllInOrder points (break_heights Outline points)
in_order = subst (AllInOrder points) (sym breaks_are) (lower_strip, (upper_strip, tt))
