-- Eight screens and their turns (document 02, Paper 10): rows against likely wrong orders, and against calls that touch
-- too much.
use Rattle.std.specs.Prelude.{Bool, true, false, not, ◌&&◌, List, [], ◌∷◌, ℕ, zero, suc, T, eqb, length}
use Rattle.std.specs.Prelude.{replicate, get_or, Float, Ok, None}
use Rattle.std.specs.Float.{nan}
use Rattle.std.specs.Float.Ieee.{of_bits, to_bits, of_int, add, sub, mul, div, neg, lt, le, eq, ne}
use Rattle.floats.specs.Operations.{bits, every}
use Rattle.floats.specs.Floats.{abs_of}
use Rattle.refusals.specs.Order.{first_from}
use Rattle.limits.specs.Limits.{scratch_check, length_within, length_check, angle_check}
use Rattle.fillets.specs.Fillets.{is_none, is_sound, ratio_check}
use Rattle.materials.specs.declared.Density.{Density}
use Rattle.materials.specs.declared.Density.TheVariants.{Bulk, Surface, Line}
use Rattle.materials.specs.Materials.{density_check}
use Rattle.planforms.specs.declared.Planform.TheVariants.{Trapezoid}
use Rattle.planforms.specs.Planforms.{root_chord_of, span_of}
use Rattle.sorting.specs.Sorted.{below_all, insert, sorted}
use Rattle.breaks.specs.Breaks.{every_y, once, break_heights}
use Rattle.sections.specs.declared.Section.TheVariants.{Square}
use Rattle.fins.specs.declared.FinSet.{FinSet}
use Rattle.outlines.specs.Outlines.{planform_check}
use Rattle.fins.specs.Fins.{tab_check, depth_check, own_check}
use Rattle.jobs.specs.declared.Job.{Job}
use Rattle.jobs.specs.declared.Row.{Row}
use Rattle.figures.specs.Figures.{bare_figures}
use Rattle.jobs.specs.Jobs.{stepped_on, step_of, change_of, making_check, made_of, count_below, progress_of}
use Rattle.engines.specs.declared.Screens.{Screens}
use Rattle.engines.specs.declared.Engine.{Engine}
use Rattle.engines.specs.declared.EngineReply.{EngineReply}
use Rattle.engines.specs.NoJob.{no_job}
use Rattle.engines.specs.Engines.{place_of, holds_job, is_free, first_held, next_screen, pick_of, with_held, served_screen}
use Rattle.engines.specs.Engines.{stepped, served_of, submitted_of, changed_of, turn_of, turned_row, submit_of, change_at}
use Rattle.engines.specs.Engines.{told_of, progress_at}
use Rattle.engines.specs.Calls.{Call, turn, after_calls, served_over}
use Rattle.test_definitions.specs.Rows.{is, same, refused}

-- ---- engines of jobs that need no strip worked

-- a job that goes on, as long as no step is worked
abbrev waiting : Job
waiting = no_job

-- a job that has ended: a step repeats its answer
abbrev over : Job
over =
    record {
      set = no_job.set;
      points = no_job.points;
      limit = 1;
      next = 0;
      totals = record { value = []; intervals = 0; samples = 7 };
      ended = true;
      outcome = bare_figures (Ok tt) 7;
    }

-- which of eight screens hold a job: 1 for each that does
abbrev marks : List ℕ → List Bool
marks [] = []
marks (n ∷ ns) = eqb n 1 ∷ marks ns

abbrev engine_of : List ℕ → ℕ → Job → Engine
engine_of held last job = record { screens = record { held = marks held; last = last }; jobs = replicate 8 job }

abbrev scratch_of : ℕ → List Float
scratch_of n = replicate n nan

abbrev turns : ℕ → List Call
turns n = replicate n (turn (scratch_of 1024))

abbrev serves : Engine → List Call → List ℕ → Bool
serves engine calls screens = same (served_over engine calls) screens

-- the screens served while every job goes on
unfoldable pub in_turn : Screens → ℕ → List ℕ
in_turn screens zero = []
in_turn screens (suc n) = next_screen screens ∷ in_turn (stepped screens (next_screen screens) waiting).screens n

abbrev in_order : List ℕ → ℕ → List ℕ → Bool
in_order held last screens = same (in_turn (engine_of held last waiting).screens (length screens)) screens

-- ---- the order

abbrev told : Engine → ℕ → Row
told engine n = turned_row (turn_of engine n).answer

-- against looking always from screen 1, at the last served first, or without wrapping round
abbrev pub from_the_next : Bool
from_the_next =
    in_order (0 ∷ 1 ∷ 0 ∷ 0 ∷ 1 ∷ 0 ∷ 1 ∷ 0 ∷ []) 5 (7 ∷ 2 ∷ 5 ∷ 7 ∷ [])
    && in_order (1 ∷ 0 ∷ 0 ∷ 0 ∷ 0 ∷ 0 ∷ 0 ∷ 1 ∷ []) 8 (1 ∷ 8 ∷ [])

-- until one is served it looks from screen 1, and a single job has its turns in a row
abbrev pub from_screen_one : Bool
from_screen_one =
    in_order (1 ∷ 0 ∷ 1 ∷ 0 ∷ 0 ∷ 0 ∷ 0 ∷ 0 ∷ []) 0 (1 ∷ 3 ∷ 1 ∷ [])
    && in_order (0 ∷ 0 ∷ 0 ∷ 1 ∷ 0 ∷ 0 ∷ 0 ∷ 0 ∷ []) 0 (4 ∷ 4 ∷ [])

-- against service within seven turns: the last of eight is served with the eighth
abbrev pub eight_turns : Bool
eight_turns = in_order (replicate 8 1) 3 (4 ∷ 5 ∷ 6 ∷ 7 ∷ 8 ∷ 1 ∷ 2 ∷ 3 ∷ [])

-- against a short turn that serves, or that counts
abbrev pub short_turn : Bool
short_turn =
    serves (engine_of (replicate 8 1) 3 waiting) (turn (scratch_of 1023) ∷ turns 1) (4 ∷ [])
    && refused 2 [] (told (engine_of (replicate 8 1) 3 waiting) 1023).figures.verdict
    && refused 2 [] (told (engine_of (replicate 8 0) 3 over) 1023).figures.verdict
    && eqb (told (engine_of (replicate 8 1) 3 over) 1023).figures.samples 0

-- against an idle turn answered as one that serves, or as a short one; and against the outcome of another screen's job
abbrev pub turns_told : Bool
turns_told =
    eqb (told (engine_of (replicate 8 0) 3 over) 1024).number 1001
    && eqb (told (engine_of (replicate 8 1) 3 over) 1024).figures.samples 7
    && eqb (served_screen (turn_of (engine_of (replicate 8 1) 3 over) 1024).answer.turn) 4

-- against a screen kept by a job that has ended, and against an idle turn that forgets the last served
abbrev pub ended_frees : Bool
ended_frees =
    serves (engine_of (1 ∷ 1 ∷ 0 ∷ 0 ∷ 0 ∷ 0 ∷ 0 ∷ 0 ∷ []) 0 over) (turns 4) (1 ∷ 2 ∷ 0 ∷ 0 ∷ [])
    && eqb (after_calls (engine_of (1 ∷ 1 ∷ 0 ∷ 0 ∷ 0 ∷ 0 ∷ 0 ∷ 0 ∷ []) 0 over) (turns 4)).screens.last 2

-- ---- submissions and changes

abbrev one : Float
one = bits 0x3ff0000000000000

abbrev tenth : Float
tenth = bits 0x3fb999999999999a

abbrev set_of : Density → FinSet
set_of density =
    record {
      count = 3;
      planform = Trapezoid one one one one;
      thickness_m = tenth;
      cross_section = Square;
      tab = None;
      fillet = record { radius_m = bits 0; density = density };
      cant_rad = bits 0;
      base_angle_rad = bits 0;
      body_radius_m = tenth;
      density = density;
    }

abbrev submitted : Engine → ℕ → ℕ → EngineReply
submitted engine screen L = submit_of engine screen (set_of (Bulk one)) [] L

abbrev empty : Engine
empty = engine_of (replicate 8 0) 1 over

-- screens 1 and 2 hold a job
abbrev two : Engine
two = (submitted (submitted empty 1 1).engine 2 1).engine

-- a screen that is free takes the set, and its job waits for the others; a busy one is refused before anything else, as
-- are 0 and 9
abbrev pub busy_first : Bool
busy_first =
    holds_job two.screens 1
    && eqb (next_screen two.screens) 2
    && refused 23 [] (submitted two 1 65).reply.verdict
    && refused 23 [] (submitted empty 0 65).reply.verdict
    && refused 23 [] (submitted empty 9 65).reply.verdict

-- a set that is refused leaves the screen free
abbrev pub refused_stays_free : Bool
refused_stays_free =
    refused 1 [] (submitted empty 1 65).reply.verdict && not (holds_job (submitted empty 1 65).engine.screens 1)

abbrev density_bits : Density → ℕ → Bool
density_bits (Bulk x) b = is x b
density_bits (Surface x) b = false
density_bits (Line x) b = false

-- against changing the density of another screen's job; 12 for a screen with no job, and for no screen
abbrev pub own_density : Bool
own_density =
    density_bits (get_or (change_at two 2 (Bulk tenth)).engine.jobs 1 no_job).set.density 0x3fb999999999999a
    && density_bits (get_or (change_at two 2 (Bulk tenth)).engine.jobs 0 no_job).set.density 0x3ff0000000000000
    && refused 12 [] (change_at two 3 (Bulk tenth)).reply.verdict
    && refused 12 [] (change_at two 9 (Bulk tenth)).reply.verdict
    && refused 12 [] (change_at two 2 (Surface tenth)).reply.verdict

-- against telling how far the job of another screen is, or one that has ended and is held no more
abbrev pub own_progress : Bool
own_progress =
    eqb (progress_at two 2).strips 1
    && eqb (progress_at two 2).samples 0
    && eqb (progress_at two 3).samples 0
    && eqb (progress_at two 3).strips 0
    && eqb (progress_at two 9).strips 0
    && eqb (progress_at (engine_of (1 ∷ 0 ∷ 0 ∷ 0 ∷ 0 ∷ 0 ∷ 0 ∷ 0 ∷ []) 0 over) 1).samples 7

pub serving_holds :
    T
    (from_the_next && from_screen_one && eight_turns && short_turn && turns_told && ended_frees && busy_first
    && refused_stays_free && own_density)
unfolding of_bits to_bits of_int add sub mul div neg lt le eq ne abs_of first_from every length_within length_check angle_check scratch_check density_check tab_check depth_check is_none is_sound ratio_check root_chord_of planform_check own_check stepped_on step_of change_of making_check made_of place_of holds_job is_free first_held next_screen pick_of with_held served_of submitted_of changed_of turn_of submit_of change_at served_over in_turn
serving_holds = tt

pub progress_holds : T own_progress
unfolding of_bits to_bits of_int add sub mul div neg lt le eq ne abs_of first_from every length_within length_check angle_check scratch_check density_check tab_check depth_check is_none is_sound ratio_check root_chord_of planform_check own_check making_check made_of place_of holds_job is_free with_held submitted_of submit_of below_all insert sorted span_of every_y once break_heights count_below progress_of told_of progress_at
progress_holds = tt
