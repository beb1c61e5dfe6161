-- What a call returns and leaves in the lent lists (include/delvouzh.h). Where a list has no room for what is written
-- over its start, the call returns 18 (no form) and leaves every list as it was.
use Rattle.std.specs.Prelude.{◌≡◌, cond, List, [], ◌∷◌, ℕ, leb, length, Float, Result, Option}
use Rattle.std.specs.Result.{result_unwrap_or}
use Rattle.floats.specs.Operations.{at}
use Rattle.refusals.specs.declared.Refusal.{Refusal}
use Rattle.refusals.specs.declared.Refusal.TheVariants.{NoForm}
use Rattle.refusals.specs.Results.{verdict_in}
use Rattle.refusals.specs.Refusals.{number_of}
use Rattle.drill.specs.declared.Place.{Place}
use Rattle.planforms.specs.declared.Planform.{Planform}
use Rattle.drill.specs.Drill.{place_number, nearest_of}
use Rattle.fins.specs.declared.FinSet.{FinSet}
use Rattle.bodies.specs.Layout.{body_numbers}
use Rattle.bodies.specs.declared.Body.{Body}
use Rattle.joins.specs.Flat.{with_body}
use Rattle.joins.specs.Joins.{body_told, combine_of}
use Rattle.tubes.specs.Closing.{radius_told, closing_of}
use Rattle.moments.specs.Moments.{moments_told}
use Rattle.figures.specs.declared.Area.{Area}
use Rattle.requests.specs.Calls.{numbered_call, numbered_area, numbered_chords, numbered_drill, tensor_moments, body_verdict}
use Rattle.refusals.specs.Numbered.{number_in}
use Rattle.refusals.specs.Lent.{over, with_values, with_count, with_counts, room}
use Rattle.limits.specs.Limits.{most_points}
use Rattle.figures.specs.Numbered.{figure_counts}

-- ---- a set's figures

pub record SetCall (set : Option FinSet) (points : List Float) (L : ℕ) (scratch body : List Float) (counts : List ℕ)
    (r : ℕ) (scratch' body' : List Float) (counts' : List ℕ) : Type 0 where
  pub returned :
      r ≡ cond (room body_numbers body 4 counts)
      (number_in (numbered_call set points L (length scratch)).answer.verdict)
      (number_of NoForm)
  pub figures :
      body' ≡ cond (room body_numbers body 4 counts)
      (with_body body 0 (numbered_call set points L (length scratch)).answer.body) body
  pub counted :
      counts' ≡ cond (room body_numbers body 4 counts)
      (figure_counts (numbered_call set points L (length scratch)).answer counts) counts
  pub lent :
      scratch' ≡ cond (room body_numbers body 4 counts)
      ((numbered_call set points L (length scratch)).leaves scratch) scratch

-- ---- a planform's area

abbrev pub area_numbers : Area → List Float
area_numbers a = a.area_m2 ∷ a.centroid_x_m ∷ a.centroid_span_m ∷ []

abbrev pub area_counts : Area → List ℕ → List ℕ
area_counts a counts = with_counts counts a.verdict a.intervals a.samples

pub record AreaCall (planform : Option Planform) (points : List Float) (L : ℕ) (scratch area : List Float)
    (counts : List ℕ) (r : ℕ) (scratch' area' : List Float) (counts' : List ℕ) : Type 0 where
  pub returned :
      r ≡ cond (room 3 area 4 counts) (number_in (numbered_area planform points L (length scratch)).answer.verdict)
      (number_of NoForm)
  pub figures :
      area' ≡ cond (room 3 area 4 counts)
      (over (area_numbers (numbered_area planform points L (length scratch)).answer) area) area
  pub counted :
      counts' ≡ cond (room 3 area 4 counts)
      (area_counts (numbered_area planform points L (length scratch)).answer counts) counts
  pub lent :
      scratch' ≡ cond (room 3 area 4 counts) ((numbered_area planform points L (length scratch)).leaves scratch) scratch

-- ---- a planform's chords at a height (document 02, Paper 1): an outline of 64 points has at most 32 chords, of two
-- ends each

abbrev pub chord_counts : Result ℕ Refusal → List ℕ → List ℕ
chord_counts chords counts = with_count counts (verdict_in chords) (result_unwrap_or chords 0)

pub record ChordsCall (planform : Option Planform) (points : List Float) (h : Float) (ends : List Float)
    (counts : List ℕ) (r : ℕ) (ends' : List Float) (counts' : List ℕ) : Type 0 where
  pub returned :
      r ≡ cond (room most_points ends 3 counts) (number_in (verdict_in (numbered_chords planform points h).answer))
      (number_of NoForm)
  pub listed : ends' ≡ cond (room most_points ends 3 counts) ((numbered_chords planform points h).leaves ends) ends
  pub counted :
      counts' ≡ cond (room most_points ends 3 counts)
      (chord_counts (numbered_chords planform points h).answer counts) counts

-- ---- where a point lies beside a planform (document 02, Paper 11): the place, 1 inside, 2 on the edge, 3 outside,
-- and the nearest corner's position

abbrev pub drill_counts : Result Place Refusal → List ℕ → List ℕ
drill_counts a counts = with_counts counts (verdict_in a) (place_number a) (nearest_of a)

pub record DrillCall (planform : Option Planform) (points : List Float) (x height : Float) (counts : List ℕ) (r : ℕ)
    (counts' : List ℕ) : Type 0 where
  pub returned :
      r ≡ cond (leb 4 (length counts)) (number_in (verdict_in (numbered_drill planform points x height)))
      (number_of NoForm)
  pub counted :
      counts' ≡ cond (leb 4 (length counts)) (drill_counts (numbered_drill planform points x height) counts) counts

-- ---- the radius that closes a ring of tubes (document 02, Paper 3)

pub record ClosingCall (count : ℕ) (body_radius : Float) (radius : List Float) (values : List ℕ) (r : ℕ)
    (radius' : List Float) (values' : List ℕ) : Type 0 where
  pub returned :
      r ≡ cond (room 1 radius 2 values) (number_in (verdict_in (closing_of body_radius count))) (number_of NoForm)
  pub figures :
      radius' ≡ cond (room 1 radius 2 values) (over (radius_told (closing_of body_radius count) ∷ []) radius) radius
  pub counted : values'
      ≡ cond (room 1 radius 2 values) (with_values values (verdict_in (closing_of body_radius count))) values

-- ---- a join

pub record JoinCall (bodies body : List Float) (r : ℕ) (body' : List Float) : Type 0 where
  pub returned :
      r ≡ cond (leb body_numbers (length body)) (number_in (verdict_in (combine_of bodies))) (number_of NoForm)
  pub figures : body' ≡ cond (leb body_numbers (length body)) (with_body body 0 (body_told (combine_of bodies))) body

-- ---- a ring of tubes (document 02, Paper 3), copies of a body, and a part moved or taken off (Paper 13): the answer
-- is a body, or says why it is refused

pub record BodyCall (j : Result Body Refusal) (body : List Float) (values : List ℕ) (r : ℕ) (body' : List Float)
    (values' : List ℕ) : Type 0 where
  pub returned : r ≡ cond (room body_numbers body 2 values) (number_in (verdict_in j)) (number_of NoForm)
  pub figures : body' ≡ cond (room body_numbers body 2 values) (with_body body 0 (body_told j)) body
  pub counted : values' ≡ cond (room body_numbers body 2 values) (with_values values (verdict_in j)) values

-- ---- the principal moments of a tensor by its numbers

abbrev pub moments_numbers : Result (List Float) Refusal → List Float
moments_numbers found = let m = moments_told found in at m 0 ∷ at m 1 ∷ at m 2 ∷ []

pub record MomentsCall (numbers moments : List Float) (values : List ℕ) (r : ℕ) (moments' : List Float)
    (values' : List ℕ) : Type 0 where
  pub returned : r ≡ cond (room 3 moments 2 values) (number_in (verdict_in (tensor_moments numbers))) (number_of NoForm)
  pub figures :
      moments' ≡ cond (room 3 moments 2 values) (over (moments_numbers (tensor_moments numbers)) moments) moments
  pub counted :
      values' ≡ cond (room 3 moments 2 values) (with_values values (verdict_in (tensor_moments numbers))) values

-- ---- the check of a body by its numbers

pub record CheckCall (numbers : List Float) (values : List ℕ) (r : ℕ) (values' : List ℕ) : Type 0 where
  pub returned : r ≡ cond (leb 2 (length values)) (number_in (body_verdict numbers)) (number_of NoForm)
  pub counted : values' ≡ cond (leb 2 (length values)) (with_values values (body_verdict numbers)) values
