-- What the call for a set's figures gives for trapezoids with no fillet: their mass; and the samples of a square section. Assumes nothing.
use Rattle.std.specs.Prelude.{Ok}
use mathlib.Core.Path.{◌≡◌, refl, sym, ap, ◌∙◌}
use mathlib.Core.Bool.{Bool, true, false, cond}
use mathlib.Core.List.{List}
use Prim.Native.Nat.{ℕ}
use lib.Ieee.{Float, eq, of_bits}
use Rattle.floats.specs.Operations.{◌⊕◌, ◌⊗◌, bits, tabulate}
use Rattle.floats.specs.Floats.{cube}
use Rattle.refusals.specs.Verdict.{Verdict}
use Rattle.refusals.specs.Calls.{CallOf, leaves_alone}
use Rattle.planforms.specs.Planforms.{root_chord_of}
use Rattle.sections.specs.declared.Section.{Section}
use Rattle.integrands.specs.Integrands.{scale_of}
use Rattle.strips.specs.Strips.{Worked, value_from, summed_of, intervals_in}
use Rattle.halving.specs.declared.Integral.{Integral}
use Rattle.bodies.specs.declared.Body.{Body}
use Rattle.bodies.specs.declared.Vector.{Vector}
use Rattle.bodies.specs.Bodies.{rotated_of, of_origin_tensor}
use Rattle.joins.specs.Joins.{in_order, sums_of, join_of, two_bodies}
use Rattle.rings.specs.Rings.{joined_copies}
use Rattle.fillets.specs.declared.Fillet.{Fillet}
use Rattle.fillets.specs.Fillets.{is_none, fillets_of}
use Rattle.fins.specs.declared.FinSet.{FinSet}
use Rattle.fins.specs.Fins.{set_check}
use Rattle.plates.specs.Integrals.{volume, unscaled_of, tab_integrals_of, add_integrals}
use Rattle.plates.specs.Plates.{plate_body, with_fillets, canted_of, fin_of, integrals_of, pivot_of}
use Rattle.figures.specs.Figures.{set_strips, worked_figures, worked_set, set_call, set_figures, conclusion_of, figures_by, fins_of, concluded_set}
use Rattle.figures.specs.Figures.{refused_figures}
use Rattle.figures.specs.declared.Figures.{Figures}
use Rattle.accuracy.specs.Masses.{Plate, Mount, set_with}
use Rattle.accuracy.proofs.Called.{chosen}

-- ---- the answer
pub record Given (section : Section) (p : Plate) (m : Mount) (points : List Float) (L n : ℕ) (r : Figures) : Type 0 where
  pub accepted : set_check (set_with section p m) points L n ≡ Ok tt
  pub intervals : r.intervals ≡ intervals_in (set_strips (set_with section p m) points L)
  pub mass : r.body.mass_kg ≡ in_order (λ x y. x ⊕ y) (bits 0)
      (λ k. p.density ⊗ (value_from (bits 0) 0 (set_strips (set_with section p m) points L) ⊗ cube
      (scale_of (set_with section p m).planform points) ⊕ volume (tab_integrals_of p.tab p.thickness m.radius))) m.count

turned_mass : (x : Bool) (a b : Body) → a.mass_kg ≡ b.mass_kg → (cond x a b).mass_kg ≡ a.mass_kg
turned_mass true a b e = refl
turned_mass false a b e = sym e

zero_equal : eq (bits 0) (bits 0) ≡ true
unfolding eq of_bits
zero_equal = refl

-- one fin's mass: with no fillets, and however it is canted
fin_mass : (v : List Float) (fillets : Body) (kg_per_m3 cant : Float) (pivot : Vector) → fillets.mass_kg ≡ bits 0
    → (canted_of (with_fillets (plate_body v kg_per_m3) fillets) cant pivot).mass_kg ≡ kg_per_m3 ⊗ volume v
unfolding canted_of with_fillets plate_body of_origin_tensor rotated_of
fin_mass v fillets kg_per_m3 cant pivot e =
    turned_mass (eq cant (bits 0)) (with_fillets (plate_body v kg_per_m3) fillets) _ refl
    ∙ ap (λ (x : Float). (cond (eq x (bits 0)) (plate_body v kg_per_m3) (join_of (two_bodies (plate_body v kg_per_m3) fillets) 2)).mass_kg)
    e
    ∙ ap (λ (b : Bool). (cond b (plate_body v kg_per_m3) (join_of (two_bodies (plate_body v kg_per_m3) fillets) 2)).mass_kg) zero_equal

-- one fin with no fillets and no cant is the plate
fin_body : (v : List Float) (fillets : Body) (kg_per_m3 cant : Float) (pivot : Vector) → fillets.mass_kg ≡ bits 0 → eq cant (bits 0) ≡ true
    → canted_of (with_fillets (plate_body v kg_per_m3) fillets) cant pivot ≡ plate_body v kg_per_m3
unfolding canted_of with_fillets
fin_body v fillets kg_per_m3 cant pivot e c = rw (c, e, zero_equal)

-- copies of it, turned and joined
ring_mass : (body : Body) (base : Float) (count : ℕ)
    → (joined_copies body base count).mass_kg ≡ in_order (λ x y. x ⊕ y) (bits 0) (λ k. body.mass_kg) count
unfolding join_of sums_of rotated_of
ring_mass body base count = refl

no_fillets : (f : Fillet) (radius l : Float) → is_none f.radius_m radius ≡ true → (fillets_of f radius l).mass_kg ≡ bits 0
unfolding fillets_of
no_fillets f radius l e = rw e

module _ (section : Section) (p : Plate) (m : Mount) (points : List Float) (L n : ℕ) (r : Figures)
    (answer : r ≡ set_figures (set_with section p m) points L n) (given : r.verdict ≡ Ok tt)
    (none : is_none m.fillet.radius_m m.radius ≡ true) where
  abbrev set : FinSet
  set = set_with section p m

  abbrev scale : Float
  scale = scale_of set.planform points

  abbrev root : Float
  root = root_chord_of set.planform points

  abbrev strips : List Worked
  strips = set_strips set points L

  abbrev verdict_in : Figures → Verdict
  verdict_in a = a.verdict

  set_chosen : (set_check set points L n ≡ Ok tt) × (r ≡ worked_figures set points L)
  unfolding set_call
  set_chosen =
      let c = chosen (set_check set points L n) (worked_set set points L) (λ refusal. leaves_alone (refused_figures refusal 0))
      (λ (c : CallOf Figures). c.answer.verdict) (λ refusal. refl)
      (set_call set points L n) refl (sym (ap verdict_in answer) ∙ given) in
      (c.0, answer ∙ ap (λ (c : CallOf Figures). c.answer) c.1)

  abbrev total : Integral
  total = summed_of strips

  abbrev v : List Float
  v = integrals_of set scale total.totals.value

  concluded : r ≡ figures_by (Ok tt) (fins_of set root v) total.totals
  unfolding concluded_set
  concluded =
      (chosen (conclusion_of total.ending (volume v)) (figures_by (Ok tt) (fins_of set root v) total.totals)
      (λ refusal. refused_figures refusal total.totals.samples) verdict_in (λ refusal. refl) r
      set_chosen.1 given).1

  one_mass : (fin_of set root v).mass_kg ≡ p.density ⊗ volume v
  unfolding fin_of
  one_mass = fin_mass v (fillets_of m.fillet m.radius root) p.density m.cant (pivot_of m.radius root)
      (no_fillets m.fillet m.radius root none)

  pub set_given : Given section p m points L n r
  set_given =
      record {
        accepted = set_chosen.0;
        intervals = ap (λ (a : Figures). a.intervals) concluded;
        mass =
            ap (λ (a : Figures). a.body.mass_kg) concluded ∙ ring_mass (fin_of set root v) m.base m.count
            ∙ ap (λ (x : Float). in_order (λ x y. x ⊕ y) (bits 0) (λ k. x) m.count) one_mass;
      }

  -- ---- and with no cant its centre: that of copies of the plate, turned and joined
  abbrev pub integrals : List Float
  integrals = add_integrals (unscaled_of (tabulate 7 (λ k. value_from (bits 0) k strips)) scale)
      (tab_integrals_of p.tab p.thickness m.radius)

  pub set_body : eq m.cant (bits 0) ≡ true → r.body ≡ joined_copies (plate_body integrals p.density) m.base m.count
  unfolding fin_of
  set_body c =
      ap (λ (a : Figures). a.body) concluded
      ∙ ap (λ (x : Body). joined_copies x m.base m.count)
      (fin_body v (fillets_of m.fillet m.radius root) p.density m.cant (pivot_of m.radius root)
      (no_fillets m.fillet m.radius root none) c)
