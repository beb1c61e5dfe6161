-- A whole set: its parts are read one after another, and where its end was reached each was. Assumes nothing.
use mathlib.Core.Bool.{true}
use mathlib.Core.List.{List, [], ◌∷◌}
use mathlib.Core.Path.{◌≡◌, refl}
use Prim.Native.Nat.{ℕ}
use lib.ListN.{drop}
use lib.Ieee.{Float}
use Rattle.std.specs.Prelude.{Option}
use Rattle.floats.specs.Operations.{at}
use Rattle.tokens.specs.Text.{text}
use Rattle.templates.specs.declared.Cursor.{Cursor}
use Rattle.templates.specs.Matching.{Reading, take_text}
use Rattle.templates.specs.Cursors.{reading_at, Room, Takes}
use Rattle.templates.proofs.Choices.{also}
use Rattle.planforms.specs.declared.Planform.{Planform}
use Rattle.planforms.specs.Numbered.{planform_of}
use Rattle.sections.specs.declared.Section.{Section}
use Rattle.sections.specs.Numbered.{numbered_section}
use Rattle.materials.specs.declared.Density.{Density}
use Rattle.materials.specs.Numbered.{numbered_density}
use Rattle.fillets.specs.declared.Fillet.{Fillet}
use Rattle.fillets.specs.Numbered.{fillet_of}
use Rattle.fins.specs.declared.FinTab.{FinTab}
use Rattle.fins.specs.declared.FinSet.{FinSet}
use Rattle.fins.specs.Numbered.{tab_of, numbered_set}
use Rattle.reading.specs.declared.SetParts.{SetParts}
use Rattle.reading.specs.Parts.{take_planform, take_section, take_tab, take_fillet, take_density, set_readings, take_set, set_parts_of, set_of}
use Rattle.reading.proofs.Stands.{Strict, Stands, on, was, number_is, end_is, text_strict, planform_strict, section_strict}
use Rattle.reading.proofs.Stands.{tab_strict, fillet_strict, density_strict}

module _ (line : List ℕ) {v v₁ v₂ v₃ v₄ v₅ v₆ v₇ v₈ v₉ v₁₀ v₁₁ : List Float} {c c₁ c₂ c₃ c₄ c₅ c₆ c₇ c₈ c₉ c₁₀ c₁₁ : Cursor}
    (m : Room line v c)
    (limit : Takes (take_text (text "(set (limit N)")) line v v₁ c c₁)
    (count : Takes (take_text (text "(count N)")) line v₁ v₂ c₁ c₂)
    (planform : Takes take_planform line v₂ v₃ c₂ c₃)
    (thickness : Takes (take_text (text "(thickness F) (section")) line v₃ v₄ c₃ c₄)
    (section : Takes take_section line v₄ v₅ c₄ c₅)
    (between : Takes (take_text (text ")")) line v₅ v₆ c₅ c₆)
    (tab : Takes take_tab line v₆ v₇ c₆ c₇)
    (fillet : Takes take_fillet line v₇ v₈ c₇ c₈)
    (radius : Takes (take_text (text "(cant F) (base F) (radius F)")) line v₈ v₉ c₈ c₉)
    (density : Takes take_density line v₉ v₁₀ c₉ c₁₀)
    (end : Takes (take_text (text ")")) line v₁₀ v₁₁ c₁₀ c₁₁) where
  abbrev From' : Reading
  From' = reading_at line v c

  pub set_taken : Takes take_set line v v₁₁ c c₁₁
  unfolding take_set
  set_taken =
      also line _ _ _ _ _
      (also line _ _ _ _ _
      (also line _ _ _ _ _
      (also line _ _ _ _ _
      (also line _ _ _ _ _
      (also line _ _ _ _ _
      (also line _ _ _ _ _
      (also line _ _ _ _ _
      (also line _ _ _ _ _
      (also line _ _ _ _ _ limit _ _ (take_text (text "(count N)")) count)
      _ _ take_planform planform)
      _ _ (take_text (text "(thickness F) (section")) thickness)
      _ _ take_section section)
      _ _ (take_text (text ")")) between)
      _ _ take_tab tab)
      _ _ take_fillet fillet)
      _ _ (take_text (text "(cant F) (base F) (radius F)")) radius)
      _ _ take_density density)
      _ _ (take_text (text ")")) end

  module _ (ok : c₁₁.ok ≡ true) where
    ok₁₀ : c₁₀.ok ≡ true
    ok₁₀ = was line (take_text (text ")")) end (text_strict _) ok

    ok₉ : c₉.ok ≡ true
    ok₉ = was line take_density density density_strict ok₁₀

    ok₈ : c₈.ok ≡ true
    ok₈ = was line (take_text (text "(cant F) (base F) (radius F)")) radius (text_strict _) ok₉

    ok₇ : c₇.ok ≡ true
    ok₇ = was line take_fillet fillet fillet_strict ok₈

    ok₆ : c₆.ok ≡ true
    ok₆ = was line take_tab tab tab_strict ok₇

    ok₅ : c₅.ok ≡ true
    ok₅ = was line (take_text (text ")")) between (text_strict _) ok₆

    ok₄ : c₄.ok ≡ true
    ok₄ = was line take_section section section_strict ok₅

    ok₃ : c₃.ok ≡ true
    ok₃ = was line (take_text (text "(thickness F) (section")) thickness (text_strict _) ok₄

    ok₂ : c₂.ok ≡ true
    ok₂ = was line take_planform planform planform_strict ok₃

    ok₁ : c₁.ok ≡ true
    ok₁ = was line (take_text (text "(count N)")) count (text_strict _) ok₂

    s₁ : Stands line v₁ c₁ (set_readings From').limit
    s₁ = on line (take_text (text "(set (limit N)")) limit (record { is = refl; room = m })

    s₂ : Stands line v₂ c₂ (set_readings From').count
    s₂ = on line (take_text (text "(count N)")) count s₁

    s₃ : Stands line v₃ c₃ (set_readings From').planform
    s₃ = on line take_planform planform s₂

    s₅ : Stands line v₅ c₅ (set_readings From').section
    s₅ = on line take_section section (on line (take_text (text "(thickness F) (section")) thickness s₃)

    s₆ : Stands line v₆ c₆ (set_readings From').thickness
    s₆ = on line (take_text (text ")")) between s₅

    s₇ : Stands line v₇ c₇ (set_readings From').tab
    s₇ = on line take_tab tab s₆

    s₈ : Stands line v₈ c₈ (set_readings From').fillet
    s₈ = on line take_fillet fillet s₇

    s₉ : Stands line v₉ c₉ (set_readings From').radius
    s₉ = on line (take_text (text "(cant F) (base F) (radius F)")) radius s₈

    s₁₀ : Stands line v₁₀ c₁₀ (set_readings From').density
    s₁₀ = on line take_density density s₉

    pub set_parts :
        record {
          limit = c₁.number;
          count = c₂.number;
          planform = c₃.number;
          points = c₃.figures;
          section = c₅.number;
          tab = c₇.number;
          before_tab = c₆.figures;
          fillet = c₈.number;
          before_fillet = c₇.figures;
          before_cant = c₈.figures;
          density = c₁₀.number;
          before_density = c₉.figures;
        }
        ≡ set_parts_of From'
    unfolding set_parts_of
    set_parts =
        rw (
          number_is line s₁ ok₁,
          number_is line s₂ ok₂,
          number_is line s₃ ok₃,
          end_is line s₃ ok₃,
          number_is line s₅ ok₅,
          number_is line s₇ ok₇,
          end_is line s₆ ok₆,
          number_is line s₈ ok₈,
          end_is line s₇ ok₇,
          end_is line s₈ ok₈,
          number_is line s₁₀ ok₁₀,
          end_is line s₉ ok₉,
        )

-- each part of the set, by the call that made it
pub together : (p : SetParts) (fs : List Float) {slab glue angles : List Float}
    {planform : Option Planform} {section : Option Section} {tab : Option (Option FinTab)}
    {fillet : Option Fillet} {density : Option Density}
    {weight thickness cant base radius : Float} {set : Option FinSet}
    → planform ≡ planform_of p.planform fs
    → section ≡ numbered_section p.section
    → slab ≡ drop p.before_tab fs → tab ≡ tab_of p.tab slab
    → glue ≡ drop p.before_fillet fs → fillet ≡ fillet_of p.fillet glue
    → angles ≡ drop p.before_cant fs → weight ≡ at fs p.before_density → density ≡ numbered_density p.density weight
    → thickness ≡ at fs p.points → cant ≡ at angles 0 → base ≡ at angles 1 → radius ≡ at angles 2
    → set ≡ numbered_set p.count planform thickness section tab fillet cant base radius density
    → set ≡ set_of p fs
unfolding set_of
together p fs e-planform e-section e-slab e-tab e-glue e-fillet e-angles e-weight e-density e-thickness e-cant e-base e-radius e-set =
    rw (e-set, e-planform, e-section, e-tab, e-slab, e-fillet, e-glue, e-density, e-weight, e-thickness, e-cant, e-base, e-radius, e-angles)

-- three figures of a tab and two of a fillet
pub tab_is : (number : ℕ) (slab : List Float) {a b d : Float} {tab : Option (Option FinTab)} → tab ≡ tab_of number (a ∷ b ∷ d ∷ [])
    → a ≡ at slab 0 → b ≡ at slab 1 → d ≡ at slab 2 → tab ≡ tab_of number slab
unfolding tab_of
tab_is number slab e-tab e-a e-b e-d = rw (e-tab, e-a, e-b, e-d)

pub fillet_is : (number : ℕ) (glue : List Float) {a b : Float} {fillet : Option Fillet} → fillet ≡ fillet_of number (a ∷ b ∷ [])
    → a ≡ at glue 0 → b ≡ at glue 1 → fillet ≡ fillet_of number glue
unfolding fillet_of
fillet_is number glue e-fillet e-a e-b = rw (e-fillet, e-a, e-b)

pub set_strict : Strict take_set
unfolding take_set
set_strict =
    rw (
      text_strict (text "(set (limit N)"),
      text_strict (text "(count N)"),
      planform_strict,
      text_strict (text "(thickness F) (section"),
      section_strict,
      text_strict (text ")"),
      tab_strict,
      fillet_strict,
      text_strict (text "(cant F) (base F) (radius F)"),
      density_strict,
      text_strict (text ")"),
    )
