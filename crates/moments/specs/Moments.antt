-- Principal moments (document 01, "Body"; mass.rs, `symmetric_eigenvalues`).
use Rattle.std.specs.Prelude.{Bool, not, cond, ◌&&◌, List, [], ◌∷◌, ℕ, zero, suc, ◌+◌, ◌*◌, set, Float, Result, Ok, Err}
use Rattle.std.specs.Float.Ieee.{lt, le, eq}
use Rattle.std.specs.Result.{result_unwrap_or}
use Rattle.floats.specs.Operations.{◌⊕◌, ◌⊖◌, ◌⊗◌, ◌⊘◌, bits, every}
use Rattle.floats.specs.Constants.{one, two}
use Rattle.floats.specs.Floats.{is_finite, abs_of}
use Rattle.root.specs.Root.{root_of}
use Rattle.bodies.specs.declared.Matrix.{Matrix}
use Rattle.bodies.specs.declared.Tensor.{Tensor}
use Rattle.bodies.specs.Matrices.{place_at, entry}
use Rattle.bodies.specs.Tensors.{number_at, as_matrix}
use Rattle.bodies.specs.Layout.{tensor_numbers}
use Rattle.refusals.specs.declared.Refusal.{Refusal}
use Rattle.refusals.specs.declared.Refusal.TheVariants.{Tensor as TensorRefused}
use Rattle.refusals.specs.declared.TensorFault.TheVariants.{Entry}
use Rattle.refusals.specs.Results.{IsResult}
use Rattle.moments.specs.declared.Rotation.{Rotation}

-- ---- refusal 17a

-- an entry that 17a does not refuse: finite, and at most 2^500 in magnitude
abbrev pub entry_fits : Float → Bool
entry_fits x = is_finite x && not (lt (bits 0x5f30_0000_0000_0000) (abs_of x))

abbrev pub entries_fit : Tensor → Bool
entries_fit t = every tensor_numbers (λ i. entry_fits (number_at t i))

-- ---- one rotation

-- the tangent of a rotation's angle by τ = (a_qq − a_pp) / (2 a_pq): Golub and Van Loan, algorithm 8.5.1
abbrev pub tangent_of : Float → Float
tangent_of tau =
    cond (le (bits 0) tau)
    (one ⊘ (tau ⊕ root_of (one ⊕ tau ⊗ tau)))
    (one ⊘ (tau ⊖ root_of (one ⊕ tau ⊗ tau)))

abbrev pub rotation_by : Float → Rotation
rotation_by t = record { cosine = one ⊘ root_of (one ⊕ t ⊗ t); sine = t ⊗ (one ⊘ root_of (one ⊕ t ⊗ t)) }

unfoldable pub rotation_of : Float → Float → Float → Rotation
rotation_of app apq aqq = rotation_by (tangent_of ((aqq ⊖ app) ⊘ (two ⊗ apq)))

-- the numbers x at i and y at j become c·x − s·y and s·x + c·y
unfoldable pub turn_pair : Rotation → ℕ → ℕ → Matrix → Matrix
turn_pair r i j a =
    record {
      0 = set
          (set a.0 i (r.cosine ⊗ place_at a i ⊖ r.sine ⊗ place_at a j))
          j (r.sine ⊗ place_at a i ⊕ r.cosine ⊗ place_at a j);
    }

-- A·J: in each row, the numbers in columns p and q are turned
unfoldable pub turn_columns : Rotation → ℕ → ℕ → Matrix → Matrix
turn_columns r p q a =
    turn_pair r (3 * p + 2) (3 * q + 2) (turn_pair r (3 * p + 1) (3 * q + 1) (turn_pair r (3 * p) (3 * q) a))

-- Jᵀ·A: in each column, the numbers in rows p and q are turned
unfoldable pub turn_rows : Rotation → ℕ → ℕ → Matrix → Matrix
turn_rows r p q a = turn_pair r (6 + p) (6 + q) (turn_pair r (3 + p) (3 + q) (turn_pair r p q a))

-- Jᵀ·A·J for the plane (p, q); a plane whose entry is 0 is left alone
unfoldable pub rotate : ℕ → ℕ → Matrix → Matrix
rotate p q a =
    cond (eq (entry a p q) (bits 0)) a
    (let r = rotation_of (entry a p p) (entry a p q) (entry a q q) in turn_rows r p q (turn_columns r p q a))

-- ---- the sweeps

abbrev pub off_diagonal : Matrix → Float
off_diagonal a = abs_of (entry a 0 1) ⊕ abs_of (entry a 0 2) ⊕ abs_of (entry a 1 2)

unfoldable pub sweep : Matrix → Matrix
sweep a = rotate 1 2 (rotate 0 2 (rotate 0 1 a))

-- "at most 32 sweeps, ending when the off-diagonal sum is 0"
unfoldable pub sweeps : ℕ → Matrix → Matrix
sweeps zero a = a
sweeps (suc n) a = cond (eq (off_diagonal a) (bits 0)) a (sweeps n (sweep a))

-- ---- the moments

-- x inserted into an ascending list, in front of the first number above it, so that equal ones keep their order.
-- sorting's `insert` goes in front of the numbers that are all above it: where one is a NaN, the two give different
-- lists.
unfoldable pub insert_moment : Float → List Float → List Float
insert_moment x [] = x ∷ []
insert_moment x (y ∷ ys) = cond (lt x y) (x ∷ y ∷ ys) (y ∷ insert_moment x ys)

unfoldable pub insert_all : List Float → List Float → List Float
insert_all sorted [] = sorted
insert_all sorted (x ∷ xs) = insert_all (insert_moment x sorted) xs

abbrev pub ascending : List Float → List Float
ascending xs = insert_all [] xs

-- the diagonal after the sweeps, ascending. These work on nine entries; the Rust takes the means of opposite entries
-- first, which changes nothing in a tensor of six numbers (proofs/FirstStep.antt)
unfoldable pub eigenvalues_of : Tensor → List Float
eigenvalues_of t = let a = sweeps 32 (as_matrix t) in ascending (entry a 0 0 ∷ entry a 1 1 ∷ entry a 2 2 ∷ [])

-- the answer to an entry that does not fit: "17a first"
abbrev pub refused_entry : Result (List Float) Refusal
refused_entry = Err (TensorRefused Entry)

-- a call's answer is the definition's, with the number and values of its verdict
abbrev pub IsMoments : Result (List Float) Refusal → Result (List Float) Refusal → Type 0
IsMoments r definition = IsResult r definition

-- the moments that are written for an answer: "Figures zero" with a refusal
abbrev pub moments_told : Result (List Float) Refusal → List Float
moments_told moments = result_unwrap_or moments (bits 0 ∷ bits 0 ∷ bits 0 ∷ [])

abbrev pub principal_moments_of : Tensor → Result (List Float) Refusal
principal_moments_of t = cond (entries_fit t) (Ok (eigenvalues_of t)) refused_entry
