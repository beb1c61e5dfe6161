-- Turned tensors (document 02, Paper 12): half the sum of the opposite entries after each turn, and where each of six
-- numbers stands.
use Rattle.std.specs.Prelude.{Bool, not, ◌&&◌, List, [], ◌∷◌, map, ℕ, T}
use Rattle.std.specs.Float.Ieee.{add, sub, mul, of_bits, to_bits}
use Rattle.floats.specs.Operations.{bits}
use Rattle.bodies.specs.declared.Matrix.{Matrix}
use Rattle.bodies.specs.declared.Tensor.{Tensor}
use Rattle.bodies.specs.Matrices.{entry, turn_matrix}
use Rattle.bodies.specs.Tensors.{symmetric, as_matrix, averaged, turn_tensor}
use Rattle.test_definitions.specs.Rows.{is, are}

-- the bits of 0.6, −0.6, 0.8, 1, 2 and 3
abbrev d6 : ℕ
d6 = 0x3fe3_3333_3333_3333

abbrev minus_d6 : ℕ
minus_d6 = 0xbfe3_3333_3333_3333

abbrev d8 : ℕ
d8 = 0x3fe9_9999_9999_999a

abbrev one : ℕ
one = 0x3ff0_0000_0000_0000

abbrev two : ℕ
two = 0x4000_0000_0000_0000

abbrev three : ℕ
three = 0x4008_0000_0000_0000

-- turns about x and z whose cosine is 0.8 and whose sine is 0.6, and the tensor 1, 1, 3, 0.1, 0, 0.2
abbrev about_x : Matrix
about_x = record { 0 = map bits (one ∷ 0 ∷ 0 ∷ 0 ∷ d8 ∷ d6 ∷ 0 ∷ minus_d6 ∷ d8 ∷ []) }

abbrev about_z : Matrix
about_z = record { 0 = map bits (d8 ∷ d6 ∷ 0 ∷ minus_d6 ∷ d8 ∷ 0 ∷ 0 ∷ 0 ∷ one ∷ []) }

abbrev start : Tensor
start = symmetric (bits one) (bits one) (bits three) (bits 0x3fb9_9999_9999_999a) (bits 0) (bits 0x3fc9_9999_9999_999a)

-- after one turn yz is half the sum of the two opposite entries, and has the bits of neither
abbrev pub half_the_sum : Bool
half_the_sum =
    are (turn_tensor start about_x).0
    (one ∷ 0x3ff8_72b0_20c4_9ba5 ∷ 0x4003_c6a7_ef9d_b22e ∷ 0x3fb4_7ae1_47ae_147c ∷ 0x3fae_b851_eb85_1eb8 ∷
    0xbfec_ed91_6872_b020 ∷ [])
    && is (entry (turn_matrix (as_matrix start) about_x) 1 2) 0xbfec_ed91_6872_b01f
    && is (entry (turn_matrix (as_matrix start) about_x) 2 1) 0xbfec_ed91_6872_b022

-- two turns, averaged after each: averaged once after both, xz and yz would have other last bits
abbrev twice : List ℕ
twice =
    0x3ff1_cffe_b074_a771
    ∷ 0x3ff6_a2b1_704f_f435
    ∷ 0x4003_c6a7_ef9d_b22e
    ∷ 0xbfcd_92b7_fe08_aef7
    ∷ 0x3fe2_e48e_8a71_de69
    ∷ 0xbfe5_fd8a_dab9_f559
    ∷ []

abbrev pub after_each_turn : Bool
after_each_turn =
    are (turn_tensor (turn_tensor start about_x) about_z).0 twice
    && not (are (averaged (turn_matrix (turn_matrix (as_matrix start) about_x) about_z)).0 twice)

-- "diagonal first, then xy, xz, yz": row and column of each mixed number
abbrev numbered : Matrix
numbered = as_matrix (symmetric (bits 0) (bits 0) (bits 0) (bits one) (bits two) (bits three))

abbrev pub mixed_places : Bool
mixed_places =
    is (entry numbered 0 1) one
    && is (entry numbered 1 0) one
    && is (entry numbered 0 2) two
    && is (entry numbered 2 0) two
    && is (entry numbered 1 2) three
    && is (entry numbered 2 1) three

pub turns_hold : T (half_the_sum && after_each_turn && mixed_places)
unfolding of_bits to_bits add sub mul turn_tensor
turns_hold = tt
