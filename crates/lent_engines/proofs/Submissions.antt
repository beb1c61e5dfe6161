-- What lists hold is an engine of eight screens, and one that began with zeros holds only jobs that were submitted: so
-- what holds over any calls together (engines/specs/Calls) holds of an engine in lent memory. Assumes nothing.
use mathlib.Core.Path.{◌≡◌, refl, ap, ◌∙◌}
use mathlib.Core.Bool.{Bool, false, ◌&&◌}
use mathlib.Core.List.{List}
use Prim.Native.Nat.{ℕ}
use lib.ListN.{replicate}
use lib.Ieee.{Float}
use Rattle.floats.proofs.Bools.{and_false}
use Rattle.engines.specs.declared.Screens.{Screens}
use Rattle.engines.specs.Engines.{is_screen, place_of, holds_job}
use Rattle.engines.specs.Calls.{Call, after_calls, EightScreens, Begins, AllSubmitted}
use Rattle.engines.proofs.Effects.{place_below}
use Rattle.engines.proofs.Submissions.{all_submitted, none_held}
use Rattle.lent_engines.specs.Memory.{screens_in, no_screens, engine_in}
use Rattle.lent_engines.proofs.Eight.{at_eight}
use Rattle.lent_engines.proofs.Zeros.{zeros_hold_none}

pub eight_screens : (numbers : List Float) (counts : List ℕ) → EightScreens (engine_in numbers counts)
unfolding engine_in screens_in
eight_screens numbers counts = record { screens = refl; jobs = refl }

none_holds : (screen : ℕ) → holds_job no_screens screen ≡ false
unfolding holds_job
none_holds screen = ap (λ (b : Bool). is_screen screen && b) (at_eight false (λ i. false) (place_of screen) (place_below screen))
    ∙ and_false (is_screen screen)

pub begins_with_zeros : (numbers : List Float) → Begins (engine_in numbers (replicate 145 0))
begins_with_zeros numbers =
    record {
      eight = eight_screens numbers (replicate 145 0);
      no_job_lem = λ screen. ap (λ (s : Screens). holds_job s screen) (zeros_hold_none numbers) ∙ none_holds screen;
    }

pub submitted_since_zeros : (numbers : List Float) (calls : List Call)
    → AllSubmitted (after_calls (engine_in numbers (replicate 145 0)) calls)
submitted_since_zeros numbers calls =
    let b = begins_with_zeros numbers in
    all_submitted calls (engine_in numbers (replicate 145 0)) b.eight (none_held (engine_in numbers (replicate 145 0)) b.no_job_lem)
