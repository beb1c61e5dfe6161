-- The chords of a planform at a height, listed for the outline view (document 02, Paper 1).
use Rattle.std.specs.Prelude.{◌≡◌, List, [], ◌∷◌, ℕ, length, Float, Ok, Err, Result}
use Rattle.sorting.specs.Sorted.{over}
use Rattle.refusals.specs.Verdict.{Verdict}
use Rattle.refusals.specs.declared.Refusal.{Refusal}
use Rattle.refusals.specs.Results.{IsResult}
use Rattle.refusals.specs.Calls.{CallOf, leaves_alone, by_verdict}
use Rattle.planforms.specs.declared.Planform.{Planform}
use Rattle.outlines.specs.Outlines.{planform_check}
use Rattle.chords.specs.Chords.{chords_at}

-- the ends of chords, start and end of each
unfoldable pub ends_in : List (Float × Float) → List Float
ends_in [] = []
ends_in (chord ∷ chords) = chord.0 ∷ chord.1 ∷ ends_in chords

-- a list that was s is t now: the ends of the chords stand over its start, and n is how many chords there are
pub record Listed (chords : List (Float × Float)) (s t : List Float) (n : ℕ) : Type 0 where
  pub count : n ≡ length chords
  pub list : t ≡ over (ends_in chords) s

-- the call, given the verdict of the planform's check: how many chords there are, listed over the start of the lent
-- list; or the refusal
abbrev pub chords_by : Verdict → Planform → List Float → Float → CallOf (Result ℕ Refusal)
chords_by verdict planform points h =
    by_verdict verdict
    (record {
      answer = Ok (length (chords_at planform points h));
      leaves = over (ends_in (chords_at planform points h));
    })
    (λ refusal. leaves_alone (Err refusal))

-- the call for the chords at a height; the planform's refusals are those of an area
unfoldable pub chords_call : Planform → List Float → Float → CallOf (Result ℕ Refusal)
chords_call planform points h = chords_by (planform_check planform points) planform points h

-- a call's answer is the definition's, with the number and values of its verdict
abbrev pub IsChordList : Result ℕ Refusal → Result ℕ Refusal → Type 0
IsChordList r definition = IsResult r definition
