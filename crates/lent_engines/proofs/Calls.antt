-- What a call on the screens and one job makes of the lists, and of the engine that they hold. Assumes nothing.
use Rattle.std.specs.Prelude.{Err}
use mathlib.Core.Path.{◌≡◌, refl, sym, ap, ap₂, ◌∙◌}
use mathlib.Core.Bool.{Bool, true, false, cond}
use mathlib.Core.List.{List, [], ◌∷◌}
use Prim.Native.Nat.{ℕ, ◌≤◌, ◌<◌}
use native.Mathlib.Omega.{arith}
use borrow.Author.Tests.{lt-ltb, ltb-true, ltb-false}
use lib.Dec.{ltb}
use lib.ListN.{length}
use lib.Ieee.{Float}
use Rattle.refusals.specs.declared.Refusal.TheVariants.{Scratch}
use Rattle.materials.specs.declared.Density.{Density}
use Rattle.figures.specs.declared.Figures.{Figures}
use Rattle.fins.specs.declared.FinSet.{FinSet}
use Rattle.jobs.specs.declared.Job.{Job}
use Rattle.jobs.specs.declared.JobProgress.{JobProgress}
use Rattle.jobs.specs.declared.JobReply.{JobReply}
use Rattle.jobs.specs.declared.Row.{Row}
use Rattle.refusals.specs.Calls.{CallOf}
use Rattle.limits.specs.Limits.{scratch_numbers}
use Rattle.figures.specs.Figures.{bare_figures}
use Rattle.jobs.specs.Jobs.{figures_row, plain_row, stepped_on, made_of}
use Rattle.jobs.specs.Calls.{is_taken}
use Rattle.jobs.proofs.Laws.{yes, no}
use Rattle.engines.specs.declared.Screens.{Screens}
use Rattle.engines.specs.declared.Engine.{Engine}
use Rattle.engines.specs.declared.ScreenTurn.{ScreenTurn}
use Rattle.engines.specs.declared.ScreenReply.{ScreenReply}
use Rattle.engines.specs.declared.Turn.{Turn}
use Rattle.engines.specs.declared.Turn.TheVariants.{Short, Idle, More, Ended}
use Rattle.engines.specs.declared.EngineTurn.{EngineTurn}
use Rattle.engines.specs.declared.EngineReply.{EngineReply}
use Rattle.engines.specs.Engines.{place_of, next_screen, pick_of, turn_row, served_screen, served_of, ServesTo, submitted_of, changed_of, job_at}
use Rattle.engines.specs.Engines.{with_job, turned_at, called_at, turn_of, turned_row, submit_of, change_at, told_of, progress_at}
use Rattle.engines.specs.Calls.{Call, turn, submit, change, engine_by, screen_of}
use Rattle.engines.proofs.Laws.{served_short, served_step, served_is, served_idle, turn_is, submit_is, change_is}
use Rattle.engines.proofs.Effects.{changes_nothing}
use Rattle.lent_engines.specs.Memory.{screens_in, engine_in}
use Rattle.lent_engines.specs.Lent.{Lists, lists, engine_of, written, writes, lists_by, lists_after, WritesAt, Leaves, Turns, Submits}
use Rattle.lent_engines.specs.Lent.{Changes}
use Rattle.lent_engines.proofs.Engines.{screens_of}

-- ---- a call that writes nothing, and one that writes

module _ (engine : Engine) (scratch : List Float) where
  abbrev next' : ℕ
  next' = next_screen engine.screens

  -- a turn tells the screen that it serves
  told_by_lem : (c d : Bool) → ltb (length scratch) scratch_numbers ≡ c → ltb 0 next' ≡ d
      → served_screen (turn_of engine (length scratch)).answer.turn ≡ cond c 0 next'
  unfolding turn_of
  told_by_lem true d c e = ap (λ (s : CallOf ScreenTurn). served_screen s.answer.turn)
      (served_short engine.screens _ (length scratch) (ltb-true _ _ c))
  told_by_lem false true c e =
      ap (λ (s : CallOf ScreenTurn). served_screen s.answer.turn)
      (served_step engine.screens _ (length scratch) next' refl (ltb-false _ _ c) (ltb-true _ _ e))
      ∙ served_is next' (stepped_on (job_at engine (pick_of engine.screens))).answer.ended
  told_by_lem false false c e =
      let z : next' ≤ 0 = ltb-false _ _ e in
      let none : 0 ≡ next' = omega arith in
      ap (λ (s : CallOf ScreenTurn). served_screen s.answer.turn)
      (served_idle engine.screens _ (length scratch) next' refl (ltb-false _ _ c) z) ∙ none

  pub told_screen : served_screen (turn_of engine (length scratch)).answer.turn ≡ screen_of engine (turn scratch)
  told_screen = told_by_lem (ltb (length scratch) scratch_numbers) (ltb 0 next') refl refl

  -- and works at its place
  place_by : (c : Bool) → 0 < cond c 0 next' → place_of next' ≡ place_of (cond c 0 next')
  place_by true h = absurd (let none : ⊥ = omega arith in none)
  place_by false h = refl

  pub served_place : 0 < screen_of engine (turn scratch) → pick_of engine.screens ≡ place_of (screen_of engine (turn scratch))
  unfolding pick_of
  served_place h = place_by (ltb (length scratch) scratch_numbers) h

  idle_by : (c : Bool) → ltb (length scratch) scratch_numbers ≡ c → ltb 0 (cond c 0 next') ≡ false
      → (turn_of engine (length scratch)).answer.engine ≡ engine
  idle_by true c e = changes_nothing.short_turn engine (length scratch) (ltb-true _ _ c)
  idle_by false c e = let z : next' ≤ 0 = ltb-false _ _ e in changes_nothing.idle_turn engine (length scratch) (omega arith)

  pub turn_idle : ltb 0 (screen_of engine (turn scratch)) ≡ false → (turn_of engine (length scratch)).answer.engine ≡ engine
  turn_idle e = idle_by (ltb (length scratch) scratch_numbers) refl e

-- the engine is as it was
pub unwritten : (engine : Engine) (call : Call) → writes engine call ≡ false → engine_by engine call ≡ engine
unfolding writes
unwritten engine (turn scratch) e = turn_idle engine scratch e
unwritten engine (submit screen set points L) e = changes_nothing.refused engine screen set points L e
unwritten engine (change screen density) e = changes_nothing.density_kept engine screen density e

-- no call leaves the lists alone
pub leaves_none : (l : Lists) → Leaves [] l l
unfolding lists_after
leaves_none l = record { lists_are = refl; held = refl; numbers_beyond = refl; counts_beyond = refl }

pub leaves_alone_lem : (call : Call) (l : Lists) → writes (engine_of l) call ≡ false → Leaves (call ∷ []) l l
unfolding lists_by lists_after
leaves_alone_lem call l e = record
    { lists_are = sym (no _ _ e); held = sym (unwritten (engine_of l) call e); numbers_beyond = refl; counts_beyond = refl }

pub leaves_written : (call : Call) (before after : Lists) (engine : Engine) (place : ℕ) → writes (engine_of before) call ≡ true
    → engine ≡ engine_by (engine_of before) call → place ≡ place_of (screen_of (engine_of before) call) → WritesAt engine place before after
    → Leaves (call ∷ []) before after
unfolding lists_by lists_after
leaves_written call before after engine place w e p h =
    record {
      lists_are = h.lists_are ∙ ap₂ (λ (x : Engine) (y : ℕ). written x y before) e p ∙ sym (yes _ _ w);
      held = h.held ∙ e;
      numbers_beyond = h.numbers_beyond;
      counts_beyond = h.counts_beyond;
    }

-- ---- the calls

module _ (numbers : List Float) (counts : List ℕ) (screens : Screens) (read : screens ≡ screens_in counts) (place : ℕ) (job : Job) where
  module _ (at : job ≡ job_at (engine_in numbers counts) place) where
    abbrev engine : Engine
    engine = engine_in numbers counts

    abbrev before : Lists
    before = lists numbers counts

    same : screens ≡ engine.screens
    same = read ∙ sym (screens_of numbers counts)

    module _ (picked : place ≡ pick_of screens) (scratch scratch' : List Float) (s : ScreenTurn)
        (serves : ServesTo screens job scratch s scratch') where
      p : place ≡ pick_of engine.screens
      p = picked ∙ ap pick_of same

      the_turn : turned_at engine place (served_of screens job (length scratch)) ≡ turn_of engine (length scratch)
      the_turn = ap₂ (λ (x : Screens) (y : Job). turned_at engine place (served_of x y (length scratch))) same at
          ∙ turn_is engine place p (length scratch)

      turn_done : record { engine = with_job engine place s.screens s.job; turn = s.turn } ≡ (turn_of engine (length scratch)).answer
      turn_done =
          ap (λ (x : ScreenTurn). record { engine = with_job engine place x.screens x.job; turn = x.turn }) serves.answered.is
          ∙ ap (λ (c : CallOf EngineTurn). c.answer) the_turn

      screen_done : served_screen s.turn ≡ screen_of engine (turn scratch)
      screen_done = ap (λ (t : EngineTurn). served_screen t.turn) turn_done ∙ told_screen engine scratch

      turned : (after : Lists) → Leaves (turn scratch ∷ []) before after
          → Turns numbers counts scratch s.turn after.numbers after.counts scratch'
      turned after h =
          record {
            answered = ap (λ (t : EngineTurn). t.turn) turn_done;
            leaves = h;
            lent = serves.scratch ∙ ap (λ (c : CallOf EngineTurn). c.leaves scratch) the_turn;
          }

      pub turns_idle : served_screen s.turn ≡ 0 → Turns numbers counts scratch s.turn numbers counts scratch'
      unfolding writes
      turns_idle z = turned before (leaves_alone_lem (turn scratch) before (ap (ltb 0) (sym screen_done ∙ z)))

      pub turns : (numbers' : List Float) (counts' : List ℕ) → (served_screen s.turn ≡ 0 → ⊥)
          → WritesAt (with_job engine place s.screens s.job) place before (lists numbers' counts')
          → Turns numbers counts scratch s.turn numbers' counts' scratch'
      unfolding writes
      turns numbers' counts' some h =
          let served : 0 < screen_of engine (turn scratch) = omega (arith, some, screen_done) in
          turned (lists numbers' counts')
          (leaves_written (turn scratch) before (lists numbers' counts') _ place (lt-ltb _ _ served)
          (ap (λ (t : EngineTurn). t.engine) turn_done) (p ∙ served_place engine scratch served) h)

    module _ (screen : ℕ) (placed : place ≡ place_of screen) (s : ScreenReply) where
      module _ (set : FinSet) (points : List Float) (L : ℕ) (made : JobReply) (m : made ≡ made_of set points L)
          (h : s ≡ submitted_of screens job screen made) where
        submit_done : called_at engine place s ≡ submit_of engine screen set points L
        submit_done = submit_is engine place screen placed set points L made m s
            (h ∙ ap₂ (λ (x : Screens) (y : Job). submitted_of x y screen made) same at)

        submitted : (b : Bool) → is_taken s.reply ≡ b → writes engine (submit screen set points L) ≡ b
        unfolding writes
        submitted b e = sym (ap (λ (c : EngineReply). is_taken c.reply) submit_done) ∙ e

        pub submits_not : is_taken s.reply ≡ false → Submits screen set points L numbers counts s.reply numbers counts
        submits_not e = record
            { answered = ap (λ (c : EngineReply). c.reply) submit_done; leaves = leaves_alone_lem _ before (submitted false e) }

        pub submits : is_taken s.reply ≡ true → (numbers' : List Float) (counts' : List ℕ)
            → WritesAt (with_job engine place s.screens s.job) place before (lists numbers' counts')
            → Submits screen set points L numbers counts s.reply numbers' counts'
        submits e numbers' counts' w =
            record {
              answered = ap (λ (c : EngineReply). c.reply) submit_done;
              leaves = leaves_written _ before (lists numbers' counts') _ place (submitted true e)
                  (ap (λ (c : EngineReply). c.engine) submit_done) placed w;
            }

      module _ (density : Density) (h : s ≡ changed_of screens job screen density) where
        change_done : called_at engine place s ≡ change_at engine screen density
        change_done = change_is engine place screen placed density s
            (h ∙ ap₂ (λ (x : Screens) (y : Job). changed_of x y screen density) same at)

        changed : (b : Bool) → is_taken s.reply ≡ b → writes engine (change screen density) ≡ b
        unfolding writes
        changed b e = sym (ap (λ (c : EngineReply). is_taken c.reply) change_done) ∙ e

        pub changes_not : is_taken s.reply ≡ false → Changes screen density numbers counts s.reply numbers counts
        changes_not e = record
            { answered = ap (λ (c : EngineReply). c.reply) change_done; leaves = leaves_alone_lem _ before (changed false e) }

        pub changes : is_taken s.reply ≡ true → (numbers' : List Float) (counts' : List ℕ)
            → WritesAt (with_job engine place s.screens s.job) place before (lists numbers' counts')
            → Changes screen density numbers counts s.reply numbers' counts'
        changes e numbers' counts' w =
            record {
              answered = ap (λ (c : EngineReply). c.reply) change_done;
              leaves = leaves_written _ before (lists numbers' counts') _ place (changed true e)
                  (ap (λ (c : EngineReply). c.engine) change_done) placed w;
            }

-- what is told of a turn, read behind it, is what it answers
pub turn_told_lem : (numbers : List Float) (counts : List ℕ) (scratch : List Float) (r : Turn) (numbers' : List Float) (counts' : List ℕ)
    (scratch' : List Float)
    → Turns numbers counts scratch r numbers' counts' scratch'
    → turn_row r (job_at (engine_in numbers' counts') (place_of (served_screen r)))
    ≡ turned_row (turn_of (engine_in numbers counts) (length scratch)).answer
turn_told_lem numbers counts scratch r numbers' counts' scratch' h =
    ap₂ (λ (t : Turn) (e : Engine). turn_row t (job_at e (place_of (served_screen t)))) h.answered h.leaves.held

-- the outcome that is read, and what a turn answers as the code tells it
pub outcome_is : (numbers : List Float) (counts : List ℕ) (place screen : ℕ) (job : Job) → place ≡ place_of screen
    → job ≡ job_at (engine_in numbers counts) place
    → job.outcome ≡ (job_at (engine_in numbers counts) (place_of screen)).outcome
outcome_is numbers counts place screen job p e = ap (λ (j : Job). j.outcome) (e ∙ ap (job_at (engine_in numbers counts)) p)

-- how far a screen's job is, of the screens and the job that are read
pub told_there : (numbers : List Float) (counts : List ℕ) (screens : Screens) → screens ≡ screens_in counts → (place screen : ℕ) (job : Job)
    → place ≡ place_of screen
    → job ≡ job_at (engine_in numbers counts) place → (r : JobProgress) → r ≡ told_of screens job screen
    → r ≡ progress_at (engine_in numbers counts) screen
unfolding progress_at
told_there numbers counts screens s place screen job p e r h =
    h ∙ ap₂ (λ (x : Screens) (j : Job). told_of x j screen) (s ∙ sym (screens_of numbers counts))
    (e ∙ ap (job_at (engine_in numbers counts)) p)

module _ (numbers : List Float) (counts : List ℕ) where
  abbrev Row' : Turn → Row
  Row' x = turn_row x (job_at (engine_in numbers counts) (place_of (served_screen x)))

  module _ {t : Turn} {r : Row} where
    pub row_short : {f : Figures} → t ≡ Short → f ≡ bare_figures (Err Scratch) 0 → r ≡ figures_row f → r ≡ Row' t
    row_short e g h = h ∙ ap figures_row g ∙ sym (ap Row' e)

    pub row_idle : t ≡ Idle → r ≡ plain_row 1001 → r ≡ Row' t
    row_idle e h = h ∙ sym (ap Row' e)

    pub row_more : {screen : ℕ} → t ≡ More screen → r ≡ plain_row 1000 → r ≡ Row' t
    row_more e h = h ∙ sym (ap Row' e)

    pub row_ended : {screen : ℕ} {f : Figures} → t ≡ Ended screen → f ≡ (job_at (engine_in numbers counts) (place_of screen)).outcome
        → r ≡ figures_row f → r ≡ Row' t
    row_ended e g h = h ∙ ap figures_row g ∙ sym (ap Row' e)
