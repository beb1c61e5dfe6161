-- A tab and a set that are written as numbers are read back. Assumes nothing.
use mathlib.Core.Path.{◌≡◌, refl}
use mathlib.Core.List.{List, ◌++◌}
use Prim.Native.Nat.{ℕ}
use lib.Ieee.{Float}
use Rattle.std.specs.Prelude.{Option, Some, None}
use Rattle.planforms.specs.declared.Planform.{Planform}
use Rattle.planforms.specs.declared.Planform.TheVariants.{Trapezoid, Ellipse, Outline}
use Rattle.floats.specs.Operations.{at, tabulate}
use Rattle.planforms.specs.Numbered.{lengths_of}
use Rattle.planforms.proofs.Numbered.{planform_back}
use Rattle.sections.proofs.Numbered.{section_back}
use Rattle.materials.proofs.Numbered.{density_back}
use Rattle.fillets.proofs.Numbered.{fillet_back}
use Rattle.fins.specs.declared.FinTab.{FinTab}
use Rattle.fins.specs.declared.FinSet.{FinSet}
use Rattle.fins.specs.Numbered.{tab_number, tab_figures, tab_of, numbers_of, counts_of, set_in}

pub tab_back : (tab : Option FinTab) → tab_of (tab_number tab) (tab_figures tab) ≡ Some tab
unfolding tab_of
tab_back None = refl
tab_back (Some tab) = refl

lengths_listed : (planform : Planform) → tabulate 4 (at (lengths_of planform)) ≡ lengths_of planform
lengths_listed (Trapezoid root tip span sweep) = refl
lengths_listed (Ellipse root span) = refl
lengths_listed Outline = refl

figures_listed : (tab : Option FinTab) → tabulate 3 (at (tab_figures tab)) ≡ tab_figures tab
figures_listed None = refl
figures_listed (Some tab) = refl

pub set_back : (set : FinSet) (more : List Float) (others : List ℕ) → set_in (numbers_of set ++ more) (counts_of set ++ others) ≡ Some set
unfolding set_in
set_back set more others =
    rw (
      lengths_listed set.planform,
      figures_listed set.tab,
      planform_back set.planform,
      section_back set.cross_section,
      tab_back set.tab,
      fillet_back set.fillet,
      density_back set.density,
    )
