-- Copies of one body, turned about the body's axis and joined (document 01, "Set and planform" and "Body";
-- fins.rs, `mass_properties`).
use Rattle.std.specs.Prelude.{List, ℕ, Float}
use Rattle.std.specs.Float.{nan}
use Rattle.floats.specs.Operations.{◌⊕◌, ◌⊗◌, ◌⊘◌, whole, Filled}
use Rattle.floats.specs.Constants.{two, pi}
use Rattle.bodies.specs.declared.Body.{Body}
use Rattle.bodies.specs.Bodies.{empty_body}
use Rattle.rotations.specs.declared.Quaternion.{Quaternion}
use Rattle.rotations.specs.Rotations.{about_z, rolled_of}
use Rattle.joins.specs.Joins.{join_of}

-- the roll of copy k: base + ((2·π)·k)/count
abbrev pub angle_of : Float → ℕ → ℕ → Float
angle_of base count k = base ⊕ two ⊗ pi ⊗ whole k ⊘ whole count

abbrev pub rolled_copy : Body → Float → ℕ → ℕ → Body
rolled_copy body base count k = rolled_of body (angle_of base count k)

-- the copies of a body, turned and joined, also where there is only one
abbrev pub joined_copies : Body → Float → ℕ → Body
joined_copies body base count = join_of (rolled_copy body base count) count

-- ---- what private functions do

-- the quaternion that the program logic has past a list's end
abbrev pub no_turn : Quaternion
no_turn = record { x = nan; y = nan; z = nan; w = nan }

-- a list begins with the turns of the first n copies; or with the copies themselves
abbrev pub TurnsTo : ℕ → Float → ℕ → List Quaternion → Type 0
TurnsTo n base count turns = Filled n no_turn (λ k. about_z (angle_of base count k)) turns

abbrev pub CopiesTo : ℕ → Body → Float → ℕ → List Body → Type 0
CopiesTo n body base count copies = Filled n empty_body (rolled_copy body base count) copies
