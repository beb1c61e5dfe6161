-- A tab as numbers, a set of numbered parts, and a set as numbers (docs/FORMS.md; include/delvouzh.h).
use Rattle.std.specs.Prelude.{cond, List, [], ◌∷◌, ◌++◌, ℕ, ◌≤◌, eqb, length, get_or, Float, Option, Some, None}
use Rattle.floats.specs.Operations.{bits, at, tabulate}
use Rattle.planforms.specs.declared.Planform.{Planform}
use Rattle.sections.specs.declared.Section.{Section}
use Rattle.materials.specs.declared.Density.{Density}
use Rattle.fillets.specs.declared.Fillet.{Fillet}
use Rattle.planforms.specs.declared.Planform.TheVariants.{Outline}
use Rattle.planforms.specs.Numbered.{planform_number, lengths_of, planform_of}
use Rattle.sections.specs.declared.Section.TheVariants.{Square}
use Rattle.sections.specs.Numbered.{section_number, numbered_section}
use Rattle.materials.specs.declared.Density.TheVariants.{Bulk}
use Rattle.materials.specs.Numbered.{density_number, density_figure, numbered_density}
use Rattle.fillets.specs.Numbered.{no_fillet, fillet_figures, fillet_of}
use Rattle.fins.specs.declared.FinSet.{FinSet}
use Rattle.fins.specs.declared.FinTab.{FinTab}

-- a tab's number: 0 where it is left out, else 1
abbrev pub tab_number : Option FinTab → ℕ
tab_number None = 0
tab_number (Some tab) = 1

-- a tab's figures: height, length, offset; zeros where it is left out
abbrev pub tab_figures : Option FinTab → List Float
tab_figures None = bits 0 ∷ bits 0 ∷ bits 0 ∷ []
tab_figures (Some tab) = tab.height_m ∷ tab.length_m ∷ tab.offset_m ∷ []

-- no tab for 0, and for 1 the one of the figures; a tab's own give it back (proofs/Numbered: `tab_back`)
unfoldable pub tab_of : ℕ → List Float → Option (Option FinTab)
tab_of number figures =
    cond (eqb number 0) (Some None)
    (cond (eqb number 1)
    (Some (Some (record { height_m = at figures 0; length_m = at figures 1; offset_m = at figures 2 }))) None)

-- a set of count, planform, thickness, section, tab, fillet, cant, base angle, body radius and density, where each part
-- is known
abbrev pub numbered_set : ℕ → Option Planform → Float → Option Section → Option (Option FinTab) → Option Fillet → Float
    → Float → Float → Option Density → Option FinSet
numbered_set count None thickness section tab fillet cant base radius density = None
numbered_set count (Some planform) thickness None tab fillet cant base radius density = None
numbered_set count (Some planform) thickness (Some section) None fillet cant base radius density =
    None
numbered_set count (Some planform) thickness (Some section) (Some tab)
    None cant base radius density =
    None
numbered_set count (Some planform) thickness (Some section) (Some tab)
    (Some fillet) cant base radius None =
    None
numbered_set count (Some planform) thickness (Some section) (Some tab)
    (Some fillet) cant base radius (Some density) =
    Some
    (record {
      count = count;
      planform = planform;
      thickness_m = thickness;
      cross_section = section;
      tab = tab;
      fillet = fillet;
      cant_rad = cant;
      base_angle_rad = base;
      body_radius_m = radius;
      density = density;
    })

-- ---- a set as two lists hold it, for C, Rust and a job's memory

-- a set's numbers: the planform's lengths; thickness, cant, base angle, body radius, density; the tab's and the
-- fillet's figures
abbrev pub numbers_of : FinSet → List Float
numbers_of set =
    tabulate 4 (at (lengths_of set.planform))
    ++ (set.thickness_m ∷ set.cant_rad ∷ set.base_angle_rad ∷ set.body_radius_m ∷
    density_figure set.density
    ∷ (tabulate 3 (at (tab_figures set.tab)) ++ fillet_figures set.fillet))

-- a set's counts: how many fins; planform, section, tab, density and fillet by their numbers
abbrev pub counts_of : FinSet → List ℕ
counts_of set =
    set.count ∷ planform_number set.planform ∷ section_number set.cross_section
    ∷ tab_number set.tab ∷ density_number set.density ∷ density_number set.fillet.density ∷ []

-- how many numbers a set has
abbrev pub set_numbers : ℕ
set_numbers = 14

-- how many counts a set has
abbrev pub set_counts : ℕ
set_counts = 6

-- two lists are long enough to begin with a set
abbrev pub SetRoom : List Float → List ℕ → Type 0
SetRoom numbers counts = (set_numbers ≤ length numbers) × (set_counts ≤ length counts)

-- the set that two lists begin with, whatever stands after it there; a set's own numbers and counts give it back
-- (proofs/Numbered: `set_back`)
unfoldable pub set_in : List Float → List ℕ → Option FinSet
set_in numbers counts =
    numbered_set (get_or counts 0 0)
    (planform_of (get_or counts 1 0) (at numbers 0 ∷ at numbers 1 ∷ at numbers 2 ∷ at numbers 3 ∷ []))
    (at numbers 4)
    (numbered_section (get_or counts 2 0))
    (tab_of (get_or counts 3 0) (at numbers 9 ∷ at numbers 10 ∷ at numbers 11 ∷ []))
    (fillet_of (get_or counts 5 0) (at numbers 12 ∷ at numbers 13 ∷ []))
    (at numbers 5) (at numbers 6) (at numbers 7)
    (numbered_density (get_or counts 4 0) (at numbers 8))

-- the set that two lists are which C or Rust lends: lists of another length are no set's
unfoldable pub listed_set : List Float → List ℕ → Option FinSet
listed_set numbers counts =
    cond (eqb (length numbers) set_numbers) (cond (eqb (length counts) set_counts) (set_in numbers counts) None)
    None

-- a set of no fins, which is refused
abbrev pub no_fins : FinSet
no_fins =
    record {
      count = 0;
      planform = Outline;
      thickness_m = bits 0;
      cross_section = Square;
      tab = None;
      fillet = no_fillet;
      cant_rad = bits 0;
      base_angle_rad = bits 0;
      body_radius_m = bits 0;
      density = Bulk (bits 0);
    }

-- the set where there is one, and else one of no fins
abbrev pub known_set : Option FinSet → FinSet
known_set (Some set) = set
known_set None = no_fins
