-- What a request does to all that is lent, by what its call does. Assumes nothing.
use mathlib.Core.List.{List}
use mathlib.Core.Path.{◌≡◌, refl, sym, ap, ap₂, subst, ◌∙◌}
use Prim.Native.Nat.{ℕ}
use lib.ListN.{length}
use lib.Ieee.{Float}
use Rattle.refusals.specs.Calls.{CallOf, Does}
use Rattle.materials.specs.declared.Density.{Density}
use Rattle.planforms.specs.declared.Planform.{Planform}
use Rattle.fins.specs.declared.FinSet.{FinSet}
use Rattle.figures.specs.Figures.{set_call}
use Rattle.figures.specs.Areas.{area_call}
use Rattle.jobs.specs.declared.Reply.{Reply as Given}
use Rattle.jobs.specs.declared.Row.{Row}
use Rattle.engines.specs.declared.Engine.{Engine}
use Rattle.engines.specs.declared.Turn.{Turn}
use Rattle.engines.specs.Engines.{job_at, place_of, turn_row, served_screen}
use Rattle.reading.specs.declared.Asked.{Asked}
use Rattle.answers.specs.declared.Reply.{Reply}
use Rattle.answers.specs.declared.Shape.TheVariants.{Taken as TakenShape}
use Rattle.lent_engines.specs.Memory.{engine_in}
use Rattle.lent_engines.specs.Lent.{Submits, Changes, Turns}
use Rattle.lent_engines.proofs.Calls.{leaves_none, turn_told_lem}
use Rattle.lines.specs.Lines.{plain_reply, set_reply, area_reply, turn_reply, Memory, memory_in, LentMemory, lent_in, memory_of, Serves}
use Rattle.lines.specs.Lines.{answers, replied_by, works, set_effect, area_effect, submit_effect, density_effect, turn_effect, effect_of}

-- what is asked is known in each arm
pub known : (figures : List Float) (m : Memory) {lent after : LentMemory} {r : Reply} {a b : Asked} → a ≡ b
    → Serves (effect_of b figures m) lent after r → Serves (effect_of a figures m) lent after r
known figures m {lent} {after} {r} e h = subst (λ (x : Asked). Serves (effect_of x figures m) lent after r) (sym e) h

-- an answer that leaves all that is lent as it is
pub stays : {lent : LentMemory} {r answer : Reply} → r ≡ answer → Serves (answers answer (memory_of lent)) lent lent r
stays h = record { replies = h; left = record { memory_left = refl; lists_left = leaves_none _ } }

-- a call of points that were cut from the figures, and the reply that its answer makes
pub replied : {A : Type 0} (call : List Float → CallOf A) (f : A → Reply) {outline points before after : List Float} {a : A} {r : Reply}
    → outline ≡ points → Does (call outline) a before after → r ≡ f a → Does (replied_by f (call points)) r before after
replied call f {before = before} e d h =
    (h ∙ ap f (d.0 ∙ ap (λ (p : List Float). (call p).answer) e), d.1 ∙ ap (λ (p : List Float). (call p).leaves before) e)

-- it is worked in the scratch
worked : (call : CallOf Reply) {scratch after numbers : List Float} {counts : List ℕ} {r : Reply} → Does call r scratch after
    → Serves (works call (memory_in scratch numbers counts)) (lent_in scratch numbers counts) (lent_in after numbers counts) r
worked call {numbers = numbers} {counts} d =
    record {
      replies = d.0;
      left = record { memory_left = ap (λ (l : List Float). memory_in l numbers counts) d.1; lists_left = leaves_none _ };
    }

pub set_served : (set : FinSet) (points : List Float) (limit : ℕ) {scratch after numbers : List Float} {counts : List ℕ} {r : Reply}
    → Does (replied_by set_reply (set_call set points limit (length scratch))) r scratch after
    → Serves (set_effect set points limit (memory_in scratch numbers counts)) (lent_in scratch numbers counts)
    (lent_in after numbers counts) r
unfolding set_effect
set_served set points limit {scratch} d = worked (replied_by set_reply (set_call set points limit (length scratch))) d

pub area_served : (planform : Planform) (points : List Float) (limit : ℕ) {scratch after numbers : List Float} {counts : List ℕ} {r : Reply}
    → Does (replied_by area_reply (area_call planform points limit (length scratch))) r scratch after
    → Serves (area_effect planform points limit (memory_in scratch numbers counts)) (lent_in scratch numbers counts)
    (lent_in after numbers counts) r
unfolding area_effect
area_served planform points limit {scratch} d = worked (replied_by area_reply (area_call planform points limit (length scratch))) d

-- ---- the engine's requests
abbrev with : List Float → Engine → Memory
with scratch engine = record { scratch = scratch; engine = engine }

abbrev taken : Given → Reply
taken given = plain_reply given.verdict TakenShape

module _ {scratch numbers numbers' : List Float} {counts counts' : List ℕ} {r : Reply} where
  pub submit_served : (screen : ℕ) (set : FinSet) (limit : ℕ) {outline points : List Float} {given : Given} → outline ≡ points
      → Submits screen set outline limit numbers counts given numbers' counts' → r ≡ taken given
      → Serves (submit_effect screen set points limit (memory_in scratch numbers counts)) (lent_in scratch numbers counts)
      (lent_in scratch numbers' counts') r
  unfolding submit_effect
  submit_served screen set limit {given = given} e s h =
      let t = subst (λ (p : List Float). Submits screen set p limit numbers counts given numbers' counts') e s in
      record {
        replies = h ∙ ap taken t.answered;
        left = record { memory_left = ap (with scratch) t.leaves.held; lists_left = t.leaves };
      }

  pub density_served : (screen : ℕ) (density : Density) {given : Given} → Changes screen density numbers counts given numbers' counts' → r
      ≡ taken given
      → Serves (density_effect screen density (memory_in scratch numbers counts)) (lent_in scratch numbers counts)
      (lent_in scratch numbers' counts') r
  unfolding density_effect
  density_served screen density t h =
      record {
        replies = h ∙ ap taken t.answered;
        left = record { memory_left = ap (with scratch) t.leaves.held; lists_left = t.leaves };
      }

  pub turn_served : {scratch' : List Float} {turn : Turn} {row : Row} → Turns numbers counts scratch turn numbers' counts' scratch'
      → row ≡ turn_row turn (job_at (engine_in numbers' counts') (place_of (served_screen turn))) → r ≡ turn_reply turn row.figures
      → Serves (turn_effect (memory_in scratch numbers counts)) (lent_in scratch numbers counts) (lent_in scratch' numbers' counts') r
  unfolding turn_effect
  turn_served t e h =
      record {
        replies = h ∙ ap₂ (λ (x : Turn) (y : Row). turn_reply x y.figures) t.answered (e ∙ turn_told_lem _ _ _ _ _ _ _ t);
        left = record { memory_left = ap₂ with t.lent t.leaves.held; lists_left = t.leaves };
      }
