-- A job's calls (document 02, Paper 9): a fin of two strips, between heights 0, 1 and 2, with one piece each.
use Rattle.std.specs.Prelude.{Bool, true, false, not, ◌&&◌, List, [], ◌∷◌, map, ℕ, T, eqb, length}
use Rattle.std.specs.Prelude.{take, drop, replicate, Float, Ok, Err, None}
use Rattle.std.specs.Float.Ieee.{add, sub, mul, div, of_bits, to_bits, of_int, round, lt, le, eq, ne}
use Rattle.floats.specs.Operations.{bits, at, every}
use Rattle.floats.specs.Floats.{abs_of}
use Rattle.refusals.specs.declared.Refusal.TheVariants as refusal
use Rattle.limits.specs.Limits.{scratch_check}
use Rattle.materials.specs.declared.Density.{Density}
use Rattle.materials.specs.declared.Density.TheVariants.{Bulk, Surface, Line}
use Rattle.materials.specs.Materials.{density_check}
use Rattle.sections.specs.declared.Section.TheVariants.{Square}
use Rattle.sections.specs.ChordMoments.{chord_moments}
use Rattle.planforms.specs.declared.Planform.TheVariants.{Outline}
use Rattle.planforms.specs.Planforms.{largest_height, root_chord_of, span_of}
use Rattle.sorting.specs.Sorted.{below_all, insert, sorted}
use Rattle.breaks.specs.Breaks.{heights, every_y, place_above, once, break_heights}
use Rattle.chords.specs.Chords.{crossed, crossings, outline_crossings, ends_at, paired}
use Rattle.integrands.specs.Integrands.{scale_of, sums_from, sample_of, plate_of}
use Rattle.fillets.specs.Numbered.{no_fillet}
use Rattle.fins.specs.declared.FinSet.{FinSet}
use Rattle.gauss_kronrod.specs.Tables.{nodes, kronrod_weights, gauss_weights}
use Rattle.quadrature.specs.Rule.{heights_to, weighted_to, piece_of, zeros}
use Rattle.tolerance.specs.Bounds.{total_of, error_of, absolute, relative, converged, score_of, last_highest, worst_place}
use Rattle.tolerance.specs.Bounds.{component_of}
use Rattle.halving.specs.Endings.{Ending, accepted as Accepted, not_converged as NotConverged}
use Rattle.halving.specs.Halving.{repeat, halving}
use Rattle.strips.specs.declared.Advance.{Advance}
use Rattle.strips.specs.Strips.{with_strip, onward_of}
use Rattle.figures.specs.declared.Figures.{Figures}
use Rattle.figures.specs.Figures.{bare_figures, concluded_set}
use Rattle.jobs.specs.declared.Job.{Job}
use Rattle.jobs.specs.declared.JobProgress.{JobProgress}
use Rattle.jobs.specs.declared.JobStep.{JobStep}
use Rattle.jobs.specs.declared.Progress.{Progress}
use Rattle.jobs.specs.declared.Progress.TheVariants.{Short, More, Ended}
use Rattle.jobs.specs.Jobs.{points_of, step_row, outcome_of, after_strip, stepped_on, step_of, change_of, count_below}
use Rattle.jobs.specs.Jobs.{progress_of}
use Rattle.jobs.specs.Calls.{is_taken}
use Rattle.test_definitions.specs.Rows.{is, are, same, refused}

abbrev one : ℕ
one = 0x3ff0_0000_0000_0000

abbrev two : ℕ
two = 0x4000_0000_0000_0000

abbrev third : ℕ
third = 0x3fd5_5555_5555_5555

-- an outline 1 wide up to height 1, then narrowing to a point at 2; root chord plus span is 3
abbrev points : List Float
points = map bits (0 ∷ 0 ∷ 0 ∷ two ∷ one ∷ one ∷ one ∷ 0 ∷ [])

abbrev plywood : Density
plywood = Bulk (bits 0x4085_4000_0000_0000)

abbrev balsa : Density
balsa = Bulk (bits 0x4064_0000_0000_0000)

abbrev set_of : ℕ → Density → FinSet
set_of count density =
    record {
      count = count;
      planform = Outline;
      thickness_m = bits 0x3fe0_0000_0000_0000;
      cross_section = Square;
      tab = None;
      fillet = no_fillet;
      cant_rad = bits 0;
      base_angle_rad = bits 0;
      body_radius_m = bits one;
      density = density;
    }

abbrev set : FinSet
set = set_of 3 plywood

-- a job of which so many strips are worked, the next from the height at a place on, with so many samples and these sums
abbrev limited : ℕ → ℕ → ℕ → ℕ → List Float → Job
limited L strips next samples value =
    record {
      set = set;
      points = points_of points;
      limit = L;
      next = next;
      totals = record { value = value; intervals = strips; samples = samples };
      ended = false;
      outcome = bare_figures (Ok tt) 0;
    }

abbrev worked : ℕ → ℕ → ℕ → List Float → Job
worked strips next samples value = limited 8 strips next samples value

-- a job that has ended with 13
abbrev over : Job
over =
    record {
      set = set;
      points = points_of points;
      limit = 8;
      next = 3;
      totals = record { value = zeros; intervals = 1; samples = 135 };
      ended = true;
      outcome = bare_figures (Err (refusal.NotConverged 6)) 135;
    }

abbrev is_short : Progress → Bool
is_short Short = true
is_short More = false
is_short Ended = false

abbrev is_more : Progress → Bool
is_more Short = false
is_more More = true
is_more Ended = false

abbrev is_ended : Progress → Bool
is_ended Short = false
is_ended More = false
is_ended Ended = true

abbrev is_bulk : Density → ℕ → Bool
is_bulk (Bulk density) b = is density b
is_bulk (Surface density) b = false
is_bulk (Line density) b = false

-- ---- calls that work no strip

-- "A step lent under 16·L numbers answers 2, changes nothing and does not count", with "the job's samples so far": here
-- with 127 numbers and L = 8
abbrev pub short_step : Bool
short_step =
    let s = (step_of (worked 1 3 15 zeros) 127).answer in
    let row = step_row s.progress s.job in
    is_short s.progress
    && eqb row.number 2
    && refused 2 [] row.figures.verdict
    && eqb row.figures.samples 15
    && eqb s.job.next 3
    && not s.job.ended

-- "A step on an ended job repeats its answer, with any scratch", before 2 is asked; "one that repeats an answer writes
-- nothing"
abbrev pub repeats : Bool
repeats =
    let s = (step_of over 0).answer in
    let row = step_row s.progress s.job in
    is_ended s.progress
    && eqb row.number 13
    && refused 13 (6 ∷ []) row.figures.verdict
    && eqb row.figures.samples 135
    && are ((step_of over 2).leaves (map bits (one ∷ two ∷ []))) (one ∷ two ∷ [])

-- a limit that no making takes ends the job with 1, before 2 is asked, and writes nothing
abbrev pub no_limit : Bool
no_limit =
    let call = step_of (limited 65 1 3 15 zeros) 2 in
    is_ended call.answer.progress
    && call.answer.job.ended
    && refused 1 [] call.answer.job.outcome.verdict
    && eqb call.answer.job.outcome.samples 15
    && are (call.leaves (map bits (one ∷ two ∷ []))) (one ∷ two ∷ [])

-- "the plate's density may be changed, answered only as taken": the density asked for, not the first; nothing else
-- moves
abbrev pub density_taken_lem : Bool
density_taken_lem =
    let s = change_of (worked 1 3 15 zeros) balsa in
    is_taken s.reply
    && is_bulk s.job.set.density 0x4064_0000_0000_0000
    && eqb s.job.next 3
    && eqb s.reply.samples 0

-- "a density not bulk or outside the limits, or any change after the end, answers 12 and leaves the old one", with the
-- samples
abbrev pub density_left : Bool
density_left =
    let line = change_of (worked 1 3 15 zeros) (Line (bits one)) in
    let after = change_of over balsa in
    refused 12 [] line.reply.verdict
    && eqb line.reply.samples 15
    && is_bulk line.job.set.density 0x4085_4000_0000_0000
    && refused 12 [] after.reply.verdict
    && eqb after.reply.samples 135
    && is_bulk after.job.set.density 0x4085_4000_0000_0000

-- "Until the job ends, with its last strip or one refused": after totals with strips left, with none left, and refused
abbrev totals : Ending → Bool → Advance
totals ending more =
    record {
      total = record { ending = ending; totals = record { value = zeros; intervals = 2; samples = 30 } };
      next = 1;
      more = more;
    }

abbrev pub job_ends : Bool
job_ends =
    let job = worked 1 3 15 zeros in
    not (after_strip job (totals Accepted true)).ended
    && (after_strip job (totals Accepted false)).ended
    && (after_strip job (totals (NotConverged 3) true)).ended
    && refused 13 (3 ∷ []) (after_strip job (totals (NotConverged 3) true)).outcome.verdict

-- a set that no making took is asked again: 3, then 12, then what the strips come to, with their samples
abbrev pub asked_again : Bool
asked_again =
    let answer : ℕ → Density → Figures =
    λ count density. outcome_of (set_of count density) points (totals (NotConverged 3) false).total in
    refused 3 [] (answer 33 (Line (bits one))).verdict
    && refused 3 [] (answer 0 plywood).verdict
    && refused 12 [] (answer 32 (Line (bits one))).verdict
    && refused 13 (3 ∷ []) (answer 32 plywood).verdict
    && eqb (answer 33 plywood).samples 30

-- ---- steps that work a strip

-- "one strip a step": the first leaves one strip worked, with its fifteen samples, and more to come, from height 1 on,
-- which stands after 0, the span and the last point's height
abbrev pub one_strip_a_step : JobStep → Bool
one_strip_a_step s =
    is_more s.progress && eqb (step_row s.progress s.job).number 1000 && eqb s.job.next 3
    && eqb s.job.totals.samples 15 && eqb s.job.totals.intervals 1 && not s.job.ended

-- "the sums and totals over those worked": the last strip's are added to those of the record, whose first is 1; and the
-- job has come to the place of the span
abbrev pub sums_go_on : JobStep → Bool
sums_go_on s =
    is_ended s.progress && s.job.ended && eqb s.job.next 1 && eqb s.job.totals.samples 30
    && eqb s.job.totals.intervals 2 && lt (bits one) (at s.job.totals.value 0)

-- "A step writes its own strip's pieces from the start of the scratch lent to it and leaves the rest", the last step
-- too
abbrev pub last_strip_written : List Float → Bool
last_strip_written scratch =
    eqb (length scratch) 128 && are (take 2 scratch) (third ∷ 0x3fe5_5555_5555_5555 ∷ [])
    && are (take 2 (drop 16 scratch)) (one ∷ one ∷ [])

pub calls_hold : T (short_step && repeats && no_limit && density_taken_lem && density_left && job_ends && asked_again)
unfolding of_bits to_bits of_int round add sub mul div lt le eq ne abs_of every below_all insert sorted scratch_check density_check chord_moments largest_height root_chord_of span_of heights every_y place_above crossed crossings outline_crossings ends_at paired scale_of sums_from sample_of plate_of nodes kronrod_weights gauss_weights heights_to weighted_to piece_of total_of error_of absolute relative converged score_of last_highest worst_place component_of repeat halving with_strip onward_of outcome_of concluded_set after_strip stepped_on step_of change_of
calls_hold = tt

-- against telling the next strip's place for the strips worked, counting equal heights twice among all, and leaving out
-- a refused strip
abbrev is_progress : JobProgress → List ℕ → Bool
is_progress p ns = same (p.worked ∷ p.strips ∷ p.intervals ∷ p.samples ∷ []) ns

abbrev pub progress_counted : Bool
progress_counted =
    is_progress (progress_of (worked 0 0 0 zeros)) (0 ∷ 2 ∷ 0 ∷ 0 ∷ [])
    && is_progress (progress_of (worked 1 3 15 zeros)) (1 ∷ 2 ∷ 1 ∷ 15 ∷ [])
    && is_progress (progress_of (worked 2 1 30 zeros)) (2 ∷ 2 ∷ 2 ∷ 30 ∷ [])
    && is_progress (progress_of over) (1 ∷ 2 ∷ 1 ∷ 135 ∷ [])

pub progress_holds : T progress_counted
unfolding of_bits to_bits lt eq ne below_all insert sorted largest_height span_of heights every_y once break_heights count_below progress_of
progress_holds = tt

-- each is a theorem of its own, since fifteen samples are worked for each piece, with a `let`, by which they are worked
-- once

pub first_step_holds : T (let s = (step_of (worked 0 0 0 zeros) 128).answer in one_strip_a_step s)
unfolding of_bits to_bits of_int round add sub mul div lt le eq ne abs_of every below_all insert sorted scratch_check density_check chord_moments largest_height root_chord_of span_of heights every_y place_above crossed crossings outline_crossings ends_at paired scale_of sums_from sample_of plate_of nodes kronrod_weights gauss_weights heights_to weighted_to piece_of total_of error_of absolute relative converged score_of last_highest worst_place component_of repeat halving with_strip onward_of outcome_of concluded_set after_strip stepped_on step_of change_of
first_step_holds = tt

pub last_step_holds :
    T (let s = (step_of (worked 1 3 15 (map bits (one ∷ 0 ∷ 0 ∷ 0 ∷ 0 ∷ 0 ∷ 0 ∷ []))) 128).answer in sums_go_on s)
unfolding of_bits to_bits of_int round add sub mul div lt le eq ne abs_of every below_all insert sorted scratch_check density_check chord_moments largest_height root_chord_of span_of heights every_y place_above crossed crossings outline_crossings ends_at paired scale_of sums_from sample_of plate_of nodes kronrod_weights gauss_weights heights_to weighted_to piece_of total_of error_of absolute relative converged score_of last_highest worst_place component_of repeat halving with_strip onward_of outcome_of concluded_set after_strip stepped_on step_of change_of
last_step_holds = tt

pub last_scratch_holds :
    T (let scratch = (step_of (worked 1 3 15 zeros) 128).leaves (replicate 128 (bits one)) in last_strip_written
    scratch)
unfolding of_bits to_bits of_int round add sub mul div lt le eq ne abs_of every below_all insert sorted scratch_check density_check chord_moments largest_height root_chord_of span_of heights every_y place_above crossed crossings outline_crossings ends_at paired scale_of sums_from sample_of plate_of nodes kronrod_weights gauss_weights heights_to weighted_to piece_of total_of error_of absolute relative converged score_of last_highest worst_place component_of repeat halving with_strip onward_of outcome_of concluded_set after_strip stepped_on step_of change_of
last_scratch_holds = tt
