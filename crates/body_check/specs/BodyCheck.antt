-- "The body check runs 15, 16, 17 a to e", since document 02, Paper 12, without c (document 01, "Refusal numbers";
-- mass.rs, `validate`).
use Rattle.std.specs.Prelude.{Bool, not, cond, ◌&&◌, ◌||◌, List, ℕ, zero, suc, Float, Ok, Err}
use Rattle.std.specs.Float.Ieee.{lt, eq, neg}
use Rattle.floats.specs.Operations.{◌⊕◌, ◌⊖◌, ◌⊗◌, bits, at}
use Rattle.floats.specs.Floats.{is_finite, abs_of, max_of}
use Rattle.bodies.specs.declared.Body.{Body}
use Rattle.bodies.specs.declared.Tensor.{Tensor}
use Rattle.bodies.specs.declared.Vector.{Vector}
use Rattle.bodies.specs.Tensors.{number_at}
use Rattle.bodies.specs.Layout.{tensor_numbers}
use Rattle.moments.specs.Moments.{entries_fit, eigenvalues_of}
use Rattle.refusals.specs.Verdict.{Verdict}
use Rattle.refusals.specs.declared.Refusal.TheVariants.{Mass, Centre as CentreRefused, Tensor as TensorRefused}
use Rattle.refusals.specs.declared.TensorFault.TheVariants.{Entry, Massless, Negative, Triangle}

abbrev pub finite_vector : Vector → Bool
finite_vector v = is_finite v.x && (is_finite v.y && is_finite v.z)

-- the largest magnitude of a tensor's first n numbers
unfoldable pub largest_magnitude : Tensor → ℕ → Float
largest_magnitude t zero = bits 0
largest_magnitude t (suc n) = max_of (largest_magnitude t n) (abs_of (number_at t n))

-- the tolerance of 17 d and e: 1e-9 of the tensor's largest magnitude. It is `validate`'s; document 01 writes no
-- tolerance (docs/DECISIONS.md, "Bodies").
abbrev pub tolerance_of : Tensor → Float
tolerance_of t = bits 0x3e11_2e0b_e826_d695 ⊗ largest_magnitude t tensor_numbers

-- "b no mass but an entry not zero": then the largest magnitude is above 0
abbrev pub massless_inertia : Float → Float → Bool
massless_inertia mass largest = eq mass (bits 0) && lt (bits 0) largest

-- "d negative moment, e moments break I1+I2 >= I3", for ascending moments: each by more than the tolerance
abbrev pub check_moments : List Float → Float → Verdict
check_moments moments tolerance =
    cond (lt (at moments 0) (neg tolerance)) (Err (TensorRefused Negative))
    (cond (lt (at moments 0 ⊕ at moments 1) (at moments 2 ⊖ tolerance)) (Err (TensorRefused Triangle))
    (Ok tt))

-- "17 tensor": a, b, d and e; six numbers are symmetric, and c has left the table (document 02, Paper 12)
unfoldable pub check_tensor : Float → Tensor → Verdict
check_tensor mass t =
    cond (not (entries_fit t)) (Err (TensorRefused Entry))
    (cond (massless_inertia mass (largest_magnitude t tensor_numbers)) (Err (TensorRefused Massless))
    (check_moments (eigenvalues_of t) (tolerance_of t)))

-- "15 body mass not finite, or < 0", "16 body centre not finite", and then the tensor's 17
abbrev pub check_of : Body → Verdict
check_of b =
    cond (not (is_finite b.mass_kg) || lt b.mass_kg (bits 0)) (Err Mass)
    (cond (not (finite_vector b.centre_m)) (Err CentreRefused)
    (check_tensor b.mass_kg b.inertia_kg_m2))
