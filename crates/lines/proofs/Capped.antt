-- A count is capped at a million when it is read (`counts`). No answer, no scratch and no engine shows it: a larger limit or count is
-- refused, by 1 or 3, and a larger number is no screen's, as it would be uncapped. Assumes nothing.
use Rattle.std.specs.Prelude.{Ok, Err}
use mathlib.Core.Bool.{Bool, true, false, ◌&&◌, cond}
use mathlib.Core.List.{List, []}
use mathlib.Core.Path.{◌≡◌, refl, sym, ap, ◌∙◌}
use Prim.Native.Nat.{ℕ, ◌<◌}
use native.Mathlib.Omega.{arith}
use borrow.Author.Tests.{leb-true, leb-false, lt-leb}
use lib.Dec.{leb}
use lib.ListN.{length, take}
use lib.Ieee.{Float}
use Rattle.refusals.specs.declared.Refusal.{Refusal}
use Rattle.refusals.specs.declared.Refusal.TheVariants.{Limit, Count, Screen as not_free, Density as not_taken}
use Rattle.refusals.specs.Verdict.{Verdict}
use Rattle.counts.specs.Counts.{capped}
use Rattle.refusals.specs.Order.{refuse_unless, first_refusal}
use Rattle.refusals.specs.Calls.{CallOf, leaves_alone, by_verdict}
use Rattle.limits.specs.Limits.{limit_check, scratch_check, count_check}
use Rattle.planforms.specs.declared.Planform.{Planform}
use Rattle.fins.specs.declared.FinSet.{FinSet}
use Rattle.floats.proofs.Bools.{and_false}
use Rattle.fins.specs.Fins.{own_check, set_check, area_check}
use Rattle.materials.specs.declared.Density.{Density}
use Rattle.tubes.specs.declared.TubeFinSet.{TubeFinSet}
use Rattle.tubes.specs.Tubes.{tube_check, tubes_of}
use Rattle.tubes.specs.Closing.{closing_of}
use Rattle.figures.specs.declared.Figures.{Figures}
use Rattle.figures.specs.declared.Area.{Area}
use Rattle.figures.specs.Figures.{refused_figures, worked_set, set_call}
use Rattle.figures.specs.Areas.{area_call}
use Rattle.jobs.specs.declared.Job.{Job}
use Rattle.jobs.specs.Jobs.{making_check, made_of}
use Rattle.engines.specs.declared.Screens.{Screens}
use Rattle.engines.specs.declared.ScreenReply.{ScreenReply}
use Rattle.engines.specs.declared.Engine.{Engine}
use Rattle.engines.specs.Engines.{is_screen, place_of, is_free, holds_job, refused as refused_at, submitted_of, changed_of, job_at, called_at}
use Rattle.engines.specs.Engines.{submit_of, change_at, no_progress, told_of, progress_at}
use Rattle.engines.specs.declared.EngineReply.{EngineReply}
use Rattle.answers.specs.declared.Shape.TheVariants.{Ring as RingShape}
use Rattle.reading.specs.declared.Asked.{Asked}
use Rattle.reading.specs.declared.Asked.TheVariants.{Refused as RefusedAsked, Set as SetAsked, Area as AreaAsked, Join as JoinAsked}
use Rattle.reading.specs.declared.Asked.TheVariants.{Moments as MomentsAsked, Check as CheckAsked}
use Rattle.reading.specs.declared.Asked.TheVariants.{Tubes as TubesAsked, Closing as ClosingAsked, Drill as DrillAsked}
use Rattle.reading.specs.declared.Asked.TheVariants.{Copied as CopiedAsked, Placed as PlacedAsked, Moved as MovedAsked}
use Rattle.reading.specs.declared.Asked.TheVariants.{Without as WithoutAsked, Submit as SubmitAsked, Density as DensityAsked}
use Rattle.reading.specs.declared.Asked.TheVariants.{Turn as TurnAsked, Progress as ProgressAsked}
use Rattle.lines.specs.Lines.{Memory, set_reply, area_reply, body_reply, closing_reply, progress_reply, replied_by, works, engages}
use Rattle.lines.specs.Lines.{set_effect, area_effect, submit_effect, density_effect, effect_of}

-- ---- the two checks

too_long : (L : ℕ) → 64 < L → limit_check L ≡ Err Limit
too_long L h = ap (λ (t : Bool). refuse_unless (leb 1 L && t) Limit) (lt-leb L 64 h)
    ∙ ap (λ (t : Bool). refuse_unless t Limit) (and_false (leb 1 L))

too_many : (n : ℕ) → 32 < n → count_check n ≡ Err Count
too_many n h = ap (λ (t : Bool). refuse_unless (leb 1 n && t) Count) (lt-leb n 32 h)
    ∙ ap (λ (t : Bool). refuse_unless t Count) (and_false (leb 1 n))

-- ---- the limit

module _ (set : FinSet) (points : List Float) (m : ℕ) where
  set_limit : (L : ℕ) → 64 < L → set_check set points L m ≡ Err Limit
  unfolding set_check
  set_limit L h = rw (too_long L h)

module _ (planform : Planform) (points : List Float) (m : ℕ) where
  area_limit : (L : ℕ) → 64 < L → area_check planform points L m ≡ Err Limit
  unfolding area_check
  area_limit L h = rw (too_long L h)

-- what is the same wherever it is refused is the same capped
at_capped : {A : Type 0} (f : ℕ → A) (most : ℕ) → most < 1000000 → ((i j : ℕ) → most < i → most < j → f i ≡ f j) → (i : ℕ) → f (capped i)
    ≡ f i
at_capped f most small same i = by (leb i most) refl
  where
    by : (t : Bool) → leb i most ≡ t → f (capped i) ≡ f i
    by true e = let h = leb-true i most e in ap f (let g : capped i ≡ i = omega arith in g)
    by false e = let h = leb-false i most e in same (capped i) i (omega arith) h

module _ (set : FinSet) (points : List Float) where
  call_limit : (m L : ℕ) → set_call set points (capped L) m ≡ set_call set points L m
  unfolding set_call
  call_limit m = at_capped (λ (k : ℕ). set_call set points k m) 64 (omega arith)
      (λ i j h g. rw (set_limit set points m i h, set_limit set points m j g))

module _ (planform : Planform) (points : List Float) where
  area_call_limit : (m L : ℕ) → area_call planform points (capped L) m ≡ area_call planform points L m
  unfolding area_call
  area_call_limit m = at_capped (λ (k : ℕ). area_call planform points k m) 64 (omega arith)
      (λ i j h g. rw (area_limit planform points m i h, area_limit planform points m j g))

-- ---- the count

abbrev with_count : FinSet → ℕ → FinSet
with_count s n =
    record {
      count = n;
      planform = s.planform;
      thickness_m = s.thickness_m;
      cross_section = s.cross_section;
      tab = s.tab;
      fillet = s.fillet;
      cant_rad = s.cant_rad;
      base_angle_rad = s.base_angle_rad;
      body_radius_m = s.body_radius_m;
      density = s.density;
    }

-- 3 comes behind 1 and 2 alone
unless : Verdict → Verdict → Verdict
unless a b = first_refusal a (first_refusal b (Err Count))

module _ (set : FinSet) (points : List Float) (L m : ℕ) where
  set_count : (n : ℕ) → 32 < n → set_check (with_count set n) points L m ≡ unless (limit_check L) (scratch_check L m)
  unfolding set_check unless
  set_count n h = rw (too_many n h)

-- so what the strips would give does not matter
refused_alike : {A : Type 0} (x y : A) (withheld : Refusal → A) (a b : Verdict) → by_verdict (unless a b) x withheld
    ≡ by_verdict (unless a b) y withheld
unfolding unless
refused_alike x y withheld (Ok _) (Ok _) = refl
refused_alike x y withheld (Ok _) (Err r) = refl
refused_alike x y withheld (Err r) b = refl

module _ (set : FinSet) (points : List Float) (L : ℕ) where
  -- an answer by the checks, over the count of fins
  by_count : {A : Type 0} (m : ℕ) (given : ℕ → A) (withheld : Refusal → A) (n : ℕ)
      → by_verdict (set_check (with_count set (capped n)) points L m) (given (capped n)) withheld
      ≡ by_verdict (set_check (with_count set n) points L m) (given n) withheld
  by_count {A} m given withheld =
      at_capped (λ (k : ℕ). by_verdict (set_check (with_count set k) points L m) (given k) withheld) 32 (omega arith)
      (λ i j h g.
      ap (λ (v : Verdict). by_verdict v (given i) withheld) (set_count set points L m i h)
      ∙ refused_alike (given i) (given j) withheld (limit_check L) (scratch_check L m)
      ∙ sym (ap (λ (v : Verdict). by_verdict v (given j) withheld) (set_count set points L m j g)))

  call_count : (m n : ℕ) → set_call (with_count set (capped n)) points L m ≡ set_call (with_count set n) points L m
  unfolding set_call
  call_count m = by_count m (λ (k : ℕ). worked_set (with_count set k) points L) (λ refusal. leaves_alone (refused_figures refusal 0))

-- ---- the count of tubes

abbrev with_tubes : TubeFinSet → ℕ → TubeFinSet
with_tubes s n =
    record {
      count = n;
      length_m = s.length_m;
      outer_radius_m = s.outer_radius_m;
      thickness_m = s.thickness_m;
      base_angle_rad = s.base_angle_rad;
      density = s.density;
    }

tubes_many : (set : TubeFinSet) (radius : Float) → 32 < set.count → tubes_of set radius ≡ Err Count
unfolding tube_check
tubes_many set radius h = rw (too_many set.count h)

tubes_capped : (set : TubeFinSet) (radius : Float) → tubes_of (with_tubes set (capped set.count)) radius ≡ tubes_of set radius
tubes_capped set radius =
    at_capped (λ (k : ℕ). tubes_of (with_tubes set k) radius) 32 (omega arith)
    (λ i j h g. tubes_many (with_tubes set i) radius h ∙ sym (tubes_many (with_tubes set j) radius g)) set.count

closing_capped : (radius : Float) (count : ℕ) → closing_of radius (capped count) ≡ closing_of radius count
unfolding closing_of
closing_capped radius = at_capped (closing_of radius) 32 (omega arith) (λ i j h g. rw (too_many i h, too_many j g))

-- ---- the engine: a number that is no screen's is refused whatever it is, and a set as above

no_screen : (k : ℕ) → 8 < k → is_screen k ≡ false
no_screen k h = ap (λ (t : Bool). leb 1 k && t) (lt-leb k 8 h) ∙ and_false (leb 1 k)

making_limit : (set : FinSet) (points : List Float) (L : ℕ) → 64 < L → making_check set points L ≡ Err Limit
unfolding making_check
making_limit set points L h = rw (too_long L h)

-- 3 comes behind 1 alone
making_count : (set : FinSet) (points : List Float) (L n : ℕ) → 32 < n → making_check (with_count set n) points L
    ≡ first_refusal (limit_check L) (Err Count)
unfolding making_check own_check
making_count set points L n h = rw (too_many n h)

some_refusal : (v : Verdict) → (refusal : Refusal) × (first_refusal v (Err Count) ≡ Err refusal)
some_refusal (Ok _) = (Count, refl)
some_refusal (Err refusal) = (refusal, refl)

-- a making that is refused gives its refusal alone, whatever set, points and limit are beside it
unfoldable turned_away : Screens → Job → ℕ → Refusal → ScreenReply
turned_away screens job screen refusal =
    cond (is_free screens screen) (record { screens = screens; job = job; reply = record { verdict = Err refusal; samples = 0 } })
    (refused_at screens job not_free)

refused_making : (screens : Screens) (job : Job) (screen : ℕ) (set : FinSet) (points : List Float) (L : ℕ) (refusal : Refusal)
    → making_check set points L ≡ Err refusal
    → submitted_of screens job screen (made_of set points L) ≡ turned_away screens job screen refusal
unfolding submitted_of made_of turned_away
refused_making screens job screen set points L refusal e = rw e

module _ (engine : Engine) (points : List Float) where
  submit_outside : (set : FinSet) (L k : ℕ) → 8 < k → submit_of engine k set points L
      ≡ called_at engine 0 (refused_at engine.screens (job_at engine 0) not_free)
  unfolding submit_of submitted_of is_free place_of
  submit_outside set L k h = rw (no_screen k h)

  submit_screen : (set : FinSet) (L screen : ℕ) → submit_of engine (capped screen) set points L ≡ submit_of engine screen set points L
  submit_screen set L =
      at_capped (λ (k : ℕ). submit_of engine k set points L) 8 (omega arith)
      (λ i j h g. submit_outside set L i h ∙ sym (submit_outside set L j g))

  -- where the making is refused alike, so is the submission
  refused_submission : (screen : ℕ) (set : FinSet) (L : ℕ) (refusal : Refusal) → making_check set points L ≡ Err refusal
      → submit_of engine screen set points L
      ≡ called_at engine (place_of screen) (turned_away engine.screens (job_at engine (place_of screen)) screen refusal)
  unfolding submit_of
  refused_submission screen set L refusal e =
      ap (called_at engine (place_of screen))
      (refused_making engine.screens (job_at engine (place_of screen)) screen set points L refusal e)

  submit_limit : (screen : ℕ) (set : FinSet) (L : ℕ) → submit_of engine screen set points (capped L) ≡ submit_of engine screen set points L
  submit_limit screen set =
      at_capped (λ (k : ℕ). submit_of engine screen set points k) 64 (omega arith)
      (λ i j h g. refused_submission screen set i Limit (making_limit set points i h)
      ∙ sym (refused_submission screen set j Limit (making_limit set points j g)))

  submit_count : (screen : ℕ) (set : FinSet) (L n : ℕ) → submit_of engine screen (with_count set (capped n)) points L
      ≡ submit_of engine screen (with_count set n) points L
  submit_count screen set L =
      let r = some_refusal (limit_check L) in
      at_capped (λ (k : ℕ). submit_of engine screen (with_count set k) points L) 32 (omega arith)
      (λ i j h g. refused_submission screen (with_count set i) L r.0 (making_count set points L i h ∙ r.1)
      ∙ sym (refused_submission screen (with_count set j) L r.0 (making_count set points L j g ∙ r.1)))

  submit_capped : (screen : ℕ) (set : FinSet) (L : ℕ)
      → submit_of engine (capped screen) (with_count set (capped set.count)) points (capped L) ≡ submit_of engine screen set points L
  submit_capped screen set L = submit_screen (with_count set (capped set.count)) (capped L) screen
      ∙ submit_limit screen (with_count set (capped set.count)) L ∙ submit_count screen set L set.count

module _ (engine : Engine) where
  change_outside : (density : Density) (k : ℕ) → 8 < k → change_at engine k density
      ≡ called_at engine 0 (refused_at engine.screens (job_at engine 0) not_taken)
  unfolding change_at changed_of holds_job place_of
  change_outside density k h = rw (no_screen k h)

  change_capped : (screen : ℕ) (density : Density) → change_at engine (capped screen) density ≡ change_at engine screen density
  change_capped screen density =
      at_capped (λ (k : ℕ). change_at engine k density) 8 (omega arith)
      (λ i j h g. change_outside density i h ∙ sym (change_outside density j g)) screen

  -- how far a screen's job is
  progress_outside : (k : ℕ) → 8 < k → progress_at engine k ≡ no_progress
  unfolding progress_at told_of holds_job
  progress_outside k h = rw (no_screen k h)

  progress_capped : (screen : ℕ) → progress_at engine (capped screen) ≡ progress_at engine screen
  progress_capped = at_capped (progress_at engine) 8 (omega arith) (λ i j h g. progress_outside i h ∙ sym (progress_outside j g))

-- ---- what a line asks, with its limit, count and screen as they are written, and capped
abbrev pub capped_asked : Asked → Asked
capped_asked (RefusedAsked refusal) = RefusedAsked refusal
capped_asked (SetAsked limit set points) = SetAsked (capped limit) (with_count set (capped set.count)) points
capped_asked (AreaAsked limit planform points) = AreaAsked (capped limit) planform points
capped_asked JoinAsked = JoinAsked
capped_asked MomentsAsked = MomentsAsked
capped_asked CheckAsked = CheckAsked
capped_asked (TubesAsked set radius) = TubesAsked (with_tubes set (capped set.count)) radius
capped_asked (ClosingAsked count radius) = ClosingAsked (capped count) radius
capped_asked (DrillAsked planform points x height) = DrillAsked planform points x height
capped_asked CopiedAsked = CopiedAsked
capped_asked PlacedAsked = PlacedAsked
capped_asked MovedAsked = MovedAsked
capped_asked WithoutAsked = WithoutAsked
capped_asked (SubmitAsked screen limit set points) = SubmitAsked (capped screen) (capped limit) (with_count set (capped set.count)) points
capped_asked (DensityAsked screen density) = DensityAsked (capped screen) density
capped_asked TurnAsked = TurnAsked
capped_asked (ProgressAsked screen) = ProgressAsked (capped screen)

-- its answer, the memory that it leaves; so what is read of a line shows no cap
pub effect_capped : (a : Asked) (figures : List Float) (m : Memory)
    → ((effect_of (capped_asked a) figures m).reply ≡ (effect_of a figures m).reply)
    × ((effect_of (capped_asked a) figures m).memory ≡ (effect_of a figures m).memory)
unfolding set_effect area_effect submit_effect density_effect
effect_capped (RefusedAsked refusal) figures m = (refl, refl)
effect_capped (SetAsked limit set points) figures m =
    let p = take points figures in
    let n = length m.scratch in
    let e = call_limit (with_count set (capped set.count)) p n limit ∙ call_count set p limit n set.count in (
      ap (λ (c : CallOf Figures). (works (replied_by set_reply c) m).reply) e,
      ap (λ (c : CallOf Figures). (works (replied_by set_reply c) m).memory) e,
    )
effect_capped (AreaAsked limit planform points) figures m =
    let e = area_call_limit planform (take points figures) (length m.scratch) limit in (
      ap (λ (c : CallOf Area). (works (replied_by area_reply c) m).reply) e,
      ap (λ (c : CallOf Area). (works (replied_by area_reply c) m).memory) e,
    )
effect_capped JoinAsked figures m = (refl, refl)
effect_capped MomentsAsked figures m = (refl, refl)
effect_capped CheckAsked figures m = (refl, refl)
effect_capped (TubesAsked set radius) figures m = (ap (body_reply RingShape) (tubes_capped set radius), refl)
effect_capped (ClosingAsked count radius) figures m = (ap closing_reply (closing_capped radius count), refl)
effect_capped (DrillAsked planform points x height) figures m = (refl, refl)
effect_capped CopiedAsked figures m = (refl, refl)
effect_capped PlacedAsked figures m = (refl, refl)
effect_capped MovedAsked figures m = (refl, refl)
effect_capped WithoutAsked figures m = (refl, refl)
effect_capped (SubmitAsked screen limit set points) figures m =
    let e = submit_capped m.engine (take points figures) screen set limit in
    (ap (λ (c : EngineReply). (engages c [] m).reply) e, ap (λ (c : EngineReply). (engages c [] m).memory) e)
effect_capped (DensityAsked screen density) figures m =
    let e = change_capped m.engine screen density in
    (ap (λ (c : EngineReply). (engages c [] m).reply) e, ap (λ (c : EngineReply). (engages c [] m).memory) e)
effect_capped TurnAsked figures m = (refl, refl)
effect_capped (ProgressAsked screen) figures m = (ap progress_reply (progress_capped m.engine screen), refl)
