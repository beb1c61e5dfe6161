-- The numbers of a set that a line writes are f64s, as the line's figures are: what the bounds of document 02, Paper 14, ask for. Assumes
-- nothing.
use mathlib.Core.Path.{subst}
use mathlib.Core.Bool.{Bool, true, false, cond}
use mathlib.Core.List.{List, [], ◌∷◌}
use Prim.Native.Nat.{ℕ}
use lib.Dec.{eqb, leb}
use lib.ListN.{length, take, drop}
use lib.Ieee.{Float}
use Rattle.std.specs.Prelude.{Option, Some, None}
use Rattle.floats.specs.Operations.{at}
use Rattle.refusals.specs.declared.Refusal.TheVariants.{NoForm as no_form, NoFigure as no_figure}
use Rattle.tokens.specs.Text.{text}
use Rattle.tokens.specs.Tokens.{line_bytes}
use Rattle.templates.proofs.F64s.{F64, AllF64, take_f64, drop_f64}
use Rattle.planforms.specs.declared.Planform.TheVariants.{Trapezoid, Ellipse, Outline}
use Rattle.planforms.specs.declared.Planform.{Planform}
use Rattle.planforms.specs.Numbered.{planform_of}
use Rattle.planforms.proofs.Sized.{PlanformF64}
use Rattle.sections.specs.declared.Section.{Section}
use Rattle.sections.specs.Numbered.{numbered_section}
use Rattle.materials.specs.declared.Density.{Density}
use Rattle.materials.specs.Numbered.{numbered_density}
use Rattle.fillets.specs.declared.Fillet.{Fillet}
use Rattle.fillets.specs.Numbered.{fillet_of}
use Rattle.fins.specs.declared.FinSet.{FinSet}
use Rattle.fins.specs.declared.FinTab.{FinTab}
use Rattle.fins.specs.Numbered.{tab_of, numbered_set}
use Rattle.templates.specs.Matching.{Reading, failed, reading, take_text, take_each}
use Rattle.templates.proofs.F64s.{text_taken}
use Rattle.reading.specs.declared.Asked.{Asked}
use Rattle.reading.specs.declared.Asked.TheVariants.{Refused, Set, Area, Join, Moments, Check, Tubes, Closing, Drill, Copied, Placed}
use Rattle.reading.specs.declared.Asked.TheVariants.{Moved, Without, Submit, Density as NewDensity, Turn, Progress}
use Rattle.reading.specs.declared.Form.{Form}
use Rattle.reading.specs.declared.Form.TheVariants.{Set as SetForm, Area as AreaForm, Join as JoinForm, Moments as MomentsForm}
use Rattle.reading.specs.declared.Form.TheVariants.{Check as CheckForm, Tubes as TubesForm, Closing as ClosingForm, Drill as DrillForm}
use Rattle.reading.specs.declared.Form.TheVariants.{Copied as CopiedForm, Placed as PlacedForm, Moved as MovedForm, Without as WithoutForm}
use Rattle.reading.specs.declared.Form.TheVariants.{Submit as SubmitForm, Density as DensityForm, Turn as TurnForm}
use Rattle.reading.specs.declared.Form.TheVariants.{Progress as ProgressForm, NoForm}
use Rattle.reading.specs.declared.SetParts.{SetParts}
use Rattle.reading.specs.Parts.{number_in, figures_in, end_in, take_planform, take_density, take_set, set_parts_of, set_of}
use Rattle.reading.specs.Lines.{Read, pick_read, refused_read, start, ended, set_asked, submit_asked, area_asked, drill_asked, tubes_asked}
use Rattle.reading.specs.Lines.{density_asked, set_read, submit_read, area_read, drill_read, tubes_read, closing_read, progress_read, density_read}
use Rattle.reading.specs.Lines.{plain_read, list_read, form_named, form_read, word_of, line_read}
use Rattle.reading.proofs.F64s.{figures_f64, start_f64, set_f64}
use Rattle.figures.proofs.Owned.{SetF64}
use Rattle.card.specs.Cards.{WritesSet}

abbrev KnownPlanform : List Float → Option Planform → Type 0
KnownPlanform lengths None = Unit {0}
KnownPlanform lengths (Some p) = PlanformF64 p lengths

planform_f64 : (number : ℕ) (figures points : List Float) → AllF64 figures → AllF64 points
    → KnownPlanform points (planform_of number figures)
unfolding planform_of
planform_f64 number figures points f g = by (eqb number 1) (eqb number 2) (eqb number 3)
  where
    by : (a b c : Bool)
        → KnownPlanform points
        (cond a (Some (Trapezoid (at figures 0) (at figures 1) (at figures 2) (at figures 3)))
        (cond b (Some (Ellipse (at figures 0) (at figures 1))) (cond c (Some Outline) None)))
    by true b c = (f 0, (f 1, (f 2, f 3)))
    by false true c = (f 0, f 1)
    by false false true = g
    by false false false = tt

abbrev KnownSet : List Float → Option FinSet → Type 0
KnownSet lengths None = Unit {0}
KnownSet lengths (Some set) = SetF64 set lengths

module _ (lengths : List Float) (count : ℕ) (thickness cant base radius : Float) (thick : F64 thickness) (wide : F64 radius) where
  known_set_lem : (p : Option Planform) → KnownPlanform lengths p
      → (s : Option Section) (t : Option (Option FinTab)) (f : Option Fillet) (d : Option Density)
      → KnownSet lengths (numbered_set count p thickness s t f cant base radius d)
  known_set_lem None e s t f d = tt
  known_set_lem (Some p) e None t f d = tt
  known_set_lem (Some p) e (Some s) None f d = tt
  known_set_lem (Some p) e (Some s) (Some t) None d = tt
  known_set_lem (Some p) e (Some s) (Some t) (Some f) None = tt
  known_set_lem (Some p) e (Some s) (Some t) (Some f) (Some d) =
      record { planform = e; thickness = thick; radius = wide }

module _ (p : SetParts) (figures : List Float) (e : AllF64 figures) where
  parts_f64 : KnownSet (take p.points figures) (set_of p figures)
  unfolding set_of
  parts_f64 =
      let later = drop p.before_cant figures in
      let points = take p.points figures in
      known_set_lem points p.count (at figures p.points) (at later 0) (at later 1) (at later 2) (e p.points)
      (drop_f64 p.before_cant figures e 2) (planform_of p.planform figures)
      (planform_f64 p.planform figures points e (take_f64 p.points figures e))
      (numbered_section p.section) (tab_of p.tab (drop p.before_tab figures))
      (fillet_of p.fillet (drop p.before_fillet figures)) (numbered_density p.density (at figures p.before_density))

-- ---- what a line asks: the set of a form that holds one
abbrev AskedF64 : Asked → List Float → Type 0
AskedF64 (Refused refusal) figures = Unit {0}
AskedF64 (Set limit set points) figures = SetF64 set (take points figures)
AskedF64 (Area limit planform points) figures = Unit {0}
AskedF64 Join figures = Unit {0}
AskedF64 Moments figures = Unit {0}
AskedF64 Check figures = Unit {0}
AskedF64 (Tubes set radius) figures = Unit {0}
AskedF64 (Closing count radius) figures = Unit {0}
AskedF64 (Drill planform points x height) figures = Unit {0}
AskedF64 Copied figures = Unit {0}
AskedF64 Placed figures = Unit {0}
AskedF64 Moved figures = Unit {0}
AskedF64 Without figures = Unit {0}
AskedF64 (Submit screen limit set points) figures = SetF64 set (take points figures)
AskedF64 (NewDensity screen density) figures = Unit {0}
AskedF64 Turn figures = Unit {0}
AskedF64 (Progress screen) figures = Unit {0}

abbrev ReadF64 : Read → Type 0
ReadF64 r = AskedF64 r.asked r.figures

at_end_lem : (r : Reading) (a : Asked) → AskedF64 a (figures_in r) → ReadF64 (ended r a)
at_end_lem failed a e = tt
at_end_lem (reading [] t) a e = by t.spoiled
  where
    by : (b : Bool) → ReadF64 (pick_read b (refused_read no_figure) (record { asked = a; figures = t.figures }))
    by true = tt
    by false = e
at_end_lem (reading (w ∷ ts) t) a e = tt

set_asked_lem : (limit points : ℕ) (figures : List Float) (s : Option FinSet) → KnownSet (take points figures) s
    → AskedF64 (set_asked limit points s) figures
set_asked_lem limit points figures (Some set) e = e
set_asked_lem limit points figures None e = tt

submit_asked_lem : (screen limit points : ℕ) (figures : List Float) (s : Option FinSet) → KnownSet (take points figures) s
    → AskedF64 (submit_asked screen limit points s) figures
submit_asked_lem screen limit points figures (Some set) e = e
submit_asked_lem screen limit points figures None e = tt

area_asked_lem : (limit points : ℕ) (figures : List Float) (p : Option Planform) → AskedF64 (area_asked limit points p) figures
area_asked_lem limit points figures (Some p) = tt
area_asked_lem limit points figures None = tt

drill_asked_lem : (points : ℕ) (figures : List Float) (p : Option Planform) → AskedF64 (drill_asked points p figures) figures
drill_asked_lem points figures (Some p) = tt
drill_asked_lem points figures None = tt

tubes_asked_lem : (count : ℕ) (figures : List Float) (d : Option Density) → AskedF64 (tubes_asked count d figures) figures
tubes_asked_lem count figures (Some d) = tt
tubes_asked_lem count figures None = tt

density_asked_lem : (screen : ℕ) (figures : List Float) (d : Option Density) → AskedF64 (density_asked screen d) figures
density_asked_lem screen figures (Some d) = tt
density_asked_lem screen figures None = tt

plain_f64 : (template line : List ℕ) (a : Asked) → ((l : List Float) → AskedF64 a l) → ReadF64 (plain_read template a line)
unfolding plain_read
plain_f64 template line a e = at_end_lem (take_text template (start line)) a (e (figures_in (take_text template (start line))))

list_f64 : (head each line : List ℕ) (a : Asked) → ((l : List Float) → AskedF64 a l) → ReadF64 (list_read head each a line)
unfolding list_read
list_f64 head each line a e =
    let all = take_text (text ")") (take_each (take_text each) (take_text head (start line))) in
    at_end_lem all a (e (figures_in all))

set_read_lem : (line : List ℕ) → ReadF64 (set_read line)
unfolding set_read
set_read_lem line =
    let p = set_parts_of (start line) in
    let all = take_set (start line) in
    let figures = figures_in all in
    let held = figures_f64 all (set_f64 (start line) (start_f64 line)) in
    at_end_lem all (set_asked p.limit p.points (set_of p figures))
    (set_asked_lem p.limit p.points figures (set_of p figures) (parts_f64 p figures held))

submit_read_lem : (line : List ℕ) → ReadF64 (submit_read line)
unfolding submit_read
submit_read_lem line =
    let screen = take_text (text "(submit N") (start line) in
    let p = set_parts_of screen in
    let all = take_text (text ")") (take_set screen) in
    let figures = figures_in all in
    let held = figures_f64 all
    (text_taken (text ")") (take_set screen) (set_f64 screen (text_taken (text "(submit N") (start line) (start_f64 line)))) in
    at_end_lem all (submit_asked (number_in screen) p.limit p.points (set_of p figures))
    (submit_asked_lem (number_in screen) p.limit p.points figures (set_of p figures) (parts_f64 p figures held))

area_read_lem : (line : List ℕ) → ReadF64 (area_read line)
unfolding area_read
area_read_lem line =
    let limit = take_text (text "(area (limit N)") (start line) in
    let planform = take_planform limit in
    let all = take_text (text ")") planform in
    let p = planform_of (number_in planform) (figures_in all) in
    at_end_lem all (area_asked (number_in limit) (end_in planform) p)
    (area_asked_lem (number_in limit) (end_in planform) (figures_in all) p)

drill_read_lem : (line : List ℕ) → ReadF64 (drill_read line)
unfolding drill_read
drill_read_lem line =
    let planform = take_planform (take_text (text "(drill") (start line)) in
    let all = take_text (text "(at F F))") planform in
    let p = planform_of (number_in planform) (figures_in all) in
    at_end_lem all (drill_asked (end_in planform) p (figures_in all)) (drill_asked_lem (end_in planform) (figures_in all) p)

tubes_read_lem : (line : List ℕ) → ReadF64 (tubes_read line)
unfolding tubes_read
tubes_read_lem line =
    let count = take_text (text "(tubes (count N) (length F) (outer F) (wall F) (base F) (radius F)") (start line) in
    let density = take_density count in
    let all = take_text (text ")") density in
    let d = numbered_density (number_in density) (at (figures_in all) 5) in
    at_end_lem all (tubes_asked (number_in count) d (figures_in all)) (tubes_asked_lem (number_in count) (figures_in all) d)

density_read_lem : (line : List ℕ) → ReadF64 (density_read line)
unfolding density_read
density_read_lem line =
    let screen = take_text (text "(density N") (start line) in
    let density = take_density screen in
    let all = take_text (text ")") density in
    let d = numbered_density (number_in density) (at (figures_in all) 0) in
    at_end_lem all (density_asked (number_in screen) d) (density_asked_lem (number_in screen) (figures_in all) d)

closing_read_lem : (line : List ℕ) → ReadF64 (closing_read line)
unfolding closing_read
closing_read_lem line =
    let all = take_text (text "(closing (count N) (radius F))") (start line) in
    at_end_lem all (Closing (number_in all) (at (figures_in all) 0)) tt

progress_read_lem : (line : List ℕ) → ReadF64 (progress_read line)
unfolding progress_read
progress_read_lem line = let all = take_text (text "(progress N)") (start line) in at_end_lem all (Progress (number_in all)) tt

form_f64 : (form : Form) (line : List ℕ) → ReadF64 (form_read form line)
form_f64 SetForm line = set_read_lem line
form_f64 AreaForm line = area_read_lem line
form_f64 JoinForm line = list_f64 (text "(join") (text "(point F F F F)") line Join (λ l. tt)
form_f64 MomentsForm line = plain_f64 (text "(moments F F F F F F)") line Moments (λ l. tt)
form_f64 CheckForm line = plain_f64 (text "(check (mass F) (centre F F F) (inertia F F F F F F))") line Check (λ l. tt)
form_f64 TubesForm line = tubes_read_lem line
form_f64 ClosingForm line = closing_read_lem line
form_f64 DrillForm line = drill_read_lem line
form_f64 CopiedForm line = list_f64 (text "(copied (body (mass F) (centre F F F) (inertia F F F F F F))") (text "(offset F F)") line Copied
    (λ l. tt)
form_f64 PlacedForm line = list_f64 (text "(placed (body (mass F) (centre F F F) (inertia F F F F F F))") (text "(place F F F)") line Placed
    (λ l. tt)
form_f64 MovedForm line = plain_f64 _ line Moved (λ l. tt)
form_f64 WithoutForm line = plain_f64 _ line Without (λ l. tt)
form_f64 SubmitForm line = submit_read_lem line
form_f64 DensityForm line = density_read_lem line
form_f64 TurnForm line = plain_f64 (text "(turn)") line Turn (λ l. tt)
form_f64 ProgressForm line = progress_read_lem line
form_f64 NoForm line = tt

line_f64 : (line : List ℕ) → ReadF64 (line_read line)
unfolding line_read
line_f64 line = by (leb (length line) line_bytes)
  where
    by : (b : Bool) → ReadF64 (pick_read b (form_read (form_named (word_of line)) line) (refused_read no_form))
    by true = form_f64 (form_named (word_of line)) line
    by false = tt

pub submitted_f64 : (line : List ℕ) (screen : ℕ) (set : FinSet) (points : List Float) (L : ℕ) → WritesSet (Submit screen) line set points L
    → SetF64 set points
submitted_f64 line screen set points L w =
    subst (SetF64 set) w.points_are (subst (λ (a : Asked). AskedF64 a (line_read line).figures) w.asks (line_f64 line))
