-- The parts that a form is made of (docs/FORMS.md), each as it is written there. A part's number is its place among its
-- alternatives, from 1 on, and 0 where it is left out.
use Rattle.std.specs.Prelude.{List, [], ◌∷◌, ℕ, length, drop, Float, Option}
use Rattle.floats.specs.Operations.{at}
use Rattle.tokens.specs.Text.{text}
use Rattle.templates.specs.Matching.{Reading, failed, reading, take_text, one_of, optional}
use Rattle.planforms.specs.Numbered.{planform_of}
use Rattle.sections.specs.Numbered.{numbered_section}
use Rattle.materials.specs.Numbered.{numbered_density}
use Rattle.fillets.specs.Numbered.{fillet_of}
use Rattle.fins.specs.declared.FinSet.{FinSet}
use Rattle.fins.specs.Numbered.{tab_of, numbered_set}
use Rattle.reading.specs.declared.SetParts.{SetParts}

-- of a reading: the number that was read last, the figures so far, and how many these are
abbrev pub number_in : Reading → ℕ
number_in failed = 0
number_in (reading ts t) = t.number

abbrev pub figures_in : Reading → List Float
figures_in failed = []
figures_in (reading ts t) = t.figures

abbrev pub end_in : Reading → ℕ
end_in r = length (figures_in r)

-- ---- parts with alternatives

unfoldable pub take_planform : Reading → Reading
take_planform r = one_of (text "(trapezoid F F F F)" ∷ text "(ellipse F F)" ∷ text "(outline F..)" ∷ []) r

unfoldable pub take_section : Reading → Reading
take_section r = one_of (text "square" ∷ text "rounded" ∷ text "airfoil" ∷ text "airfoil-open" ∷ []) r

unfoldable pub take_tab : Reading → Reading
take_tab r = optional (text "(tab F F F)" ∷ []) r

-- "(fillet F DENSITY) or left out" (document 02, Paper 6): its number is the density's
unfoldable pub take_fillet : Reading → Reading
take_fillet r = optional (text "(fillet F (bulk F))" ∷ text "(fillet F (surface F))" ∷ text "(fillet F (line F))" ∷ []) r

unfoldable pub take_density : Reading → Reading
take_density r = one_of (text "(bulk F)" ∷ text "(surface F)" ∷ text "(line F)" ∷ []) r

-- ---- a set: "(set (limit N) (count N) PLANFORM (thickness F) (section SECTION) TAB FILLET (cant F) (base F) (radius
-- F) DENSITY)"

-- where reading stands after each part of a set
pub record SetReadings : Type 0 where
  pub limit : Reading
  pub count : Reading
  pub planform : Reading
  pub section : Reading
  pub thickness : Reading
  pub tab : Reading
  pub fillet : Reading
  pub radius : Reading
  pub density : Reading

abbrev pub set_readings : Reading → SetReadings
set_readings r =
    let limit = take_text (text "(set (limit N)") r in
    let count = take_text (text "(count N)") limit in
    let planform = take_planform count in
    let section = take_section (take_text (text "(thickness F) (section") planform) in
    let thickness = take_text (text ")") section in
    let tab = take_tab thickness in
    let fillet = take_fillet tab in
    let radius = take_text (text "(cant F) (base F) (radius F)") fillet in
    record {
      limit = limit;
      count = count;
      planform = planform;
      section = section;
      thickness = thickness;
      tab = tab;
      fillet = fillet;
      radius = radius;
      density = take_density radius;
    }

unfoldable pub take_set : Reading → Reading
take_set r = take_text (text ")") (set_readings r).density

-- the numbers of a set's parts, and how many figures stand before those of a part
unfoldable pub set_parts_of : Reading → SetParts
set_parts_of r =
    let at' = set_readings r in
    record {
      limit = number_in at'.limit;
      count = number_in at'.count;
      planform = number_in at'.planform;
      points = end_in at'.planform;
      section = number_in at'.section;
      tab = number_in at'.tab;
      before_tab = end_in at'.thickness;
      fillet = number_in at'.fillet;
      before_fillet = end_in at'.tab;
      before_cant = end_in at'.fillet;
      density = number_in at'.density;
      before_density = end_in at'.radius;
    }

-- the set that the numbers of its parts and the line's figures make up
unfoldable pub set_of : SetParts → List Float → Option FinSet
set_of p figures =
    let behind_fillet = drop p.before_cant figures in
    let cant = at behind_fillet 0 in
    let base = at behind_fillet 1 in
    let radius = at behind_fillet 2 in
    numbered_set p.count
    (planform_of p.planform figures)
    (at figures p.points)
    (numbered_section p.section)
    (tab_of p.tab (drop p.before_tab figures))
    (fillet_of p.fillet (drop p.before_fillet figures))
    cant base radius
    (numbered_density p.density (at figures p.before_density))
