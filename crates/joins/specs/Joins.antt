-- Bodies joined into one (document 01, "Body"; mass.rs, `combine`).
use Rattle.std.specs.Prelude.{cond, List, ℕ, zero, suc, ◌/◌, ◌%◌, eqb, length, Float, Result, Err}
use Rattle.std.specs.Float.{nan}
use Rattle.std.specs.Result.{result_unwrap_or}
use Rattle.std.specs.Float.Ieee.{lt, ne}
use Rattle.floats.specs.Operations.{◌⊕◌, bits}
use Rattle.floats.specs.Constants.{one}
use Rattle.bodies.specs.declared.Body.{Body}
use Rattle.bodies.specs.declared.Tensor.{Tensor}
use Rattle.bodies.specs.declared.Vector.{Vector}
use Rattle.bodies.specs.Vectors.{vector, zero_vector, add_vectors, scale_vector, divide_vector}
use Rattle.bodies.specs.Tensors.{zero_tensor, add_tensors}
use Rattle.bodies.specs.Bodies.{empty_body, inertia_about_of}
use Rattle.bodies.specs.Layout.{body_numbers}
use Rattle.refusals.specs.declared.Refusal.{Refusal}
use Rattle.refusals.specs.declared.Refusal.TheVariants.{Count}
use Rattle.refusals.specs.Results.{unless_refused, IsResult}
use Rattle.limits.specs.Limits.{count_check}
use Rattle.joins.specs.Flat.{body_at}
use Rattle.joins.specs.declared.Sums.{Sums}

-- terms f 0 to f (n − 1) added to a start, in order
unfoldable pub in_order : {A B : Type 0} → (A → B → A) → A → (ℕ → B) → ℕ → A
in_order plus start f zero = start
in_order plus start f (suc n) = plus (in_order plus start f n) (f n)

-- the sums over the first n bodies of f: total mass, mass times centre summed, centres summed, and how many
unfoldable pub sums_of : (ℕ → Body) → ℕ → Sums
sums_of f n =
    record {
      mass_kg = in_order (λ x y. x ⊕ y) (bits 0) (λ k. (f k).mass_kg) n;
      moment = in_order add_vectors zero_vector (λ k. scale_vector (f k).centre_m (f k).mass_kg) n;
      positions = in_order add_vectors zero_vector (λ k. (f k).centre_m) n;
      count = in_order (λ x y. x ⊕ y) (bits 0) (λ k. one) n;
    }

-- "a total mass not above 0 takes the mean position; with NaN mass, a NaN centre"; the origin for no bodies (the
-- Rust's)
abbrev pub centre_of : Sums → Vector
centre_of s =
    cond (ne s.mass_kg s.mass_kg) (vector nan nan nan)
    (cond (lt (bits 0) s.mass_kg) (divide_vector s.moment s.mass_kg)
    (cond (lt (bits 0) s.count) (divide_vector s.positions s.count) zero_vector))

-- the tensors about one centre, summed
unfoldable pub inertia_of : (ℕ → Body) → Vector → ℕ → Tensor
inertia_of f centre n = in_order add_tensors zero_tensor (λ k. inertia_about_of (f k) centre) n

-- the first n bodies of f, joined
unfoldable pub join_of : (ℕ → Body) → ℕ → Body
join_of f n =
    record {
      mass_kg = (sums_of f n).mass_kg;
      centre_m = centre_of (sums_of f n);
      inertia_kg_m2 = inertia_of f (centre_of (sums_of f n)) n;
    }

-- two bodies by place: the first at 0, the second after it
abbrev pub two_bodies : Body → Body → ℕ → Body
two_bodies first second zero = first
two_bodies first second (suc k) = second

-- a call's answer is the definition's, with the number and values of its verdict
abbrev pub IsJoined : Result Body Refusal → Result Body Refusal → Type 0
IsJoined r definition = IsResult r definition

-- the body whose numbers are written for an answer: "Figures zero" with a refusal
abbrev pub body_told : Result Body Refusal → Body
body_told joined = result_unwrap_or joined empty_body

-- the first n bodies of f, joined, or 3: "count of .. bodies joined, not 1 to 32"
abbrev pub joined_of : (ℕ → Body) → ℕ → Result Body Refusal
joined_of f n = unless_refused (count_check n) (join_of f n)

-- the bodies of a list of numbers, joined; a list that is no whole number of bodies is refused 3 too
abbrev pub combine_of : List Float → Result Body Refusal
combine_of numbers =
    cond (eqb (length numbers % body_numbers) 0) (joined_of (body_at numbers) (length numbers / body_numbers))
    (Err Count)

-- ---- what the steps do

abbrev pub no_sums : Sums
no_sums = record { mass_kg = bits 0; moment = zero_vector; positions = zero_vector; count = bits 0 }

abbrev pub add_body : Sums → Body → Sums
add_body s b =
    record {
      mass_kg = s.mass_kg ⊕ b.mass_kg;
      moment = add_vectors s.moment (scale_vector b.centre_m b.mass_kg);
      positions = add_vectors s.positions b.centre_m;
      count = s.count ⊕ one;
    }

abbrev pub at_centre : Sums → Body
at_centre s = record { mass_kg = s.mass_kg; centre_m = centre_of s; inertia_kg_m2 = zero_tensor }

abbrev pub add_inertia : Body → Body → Body
add_inertia joined b =
    record {
      mass_kg = joined.mass_kg;
      centre_m = joined.centre_m;
      inertia_kg_m2 = add_tensors joined.inertia_kg_m2 (inertia_about_of b joined.centre_m);
    }
