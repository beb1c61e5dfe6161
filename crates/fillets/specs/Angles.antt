-- "The angle of `atan2`, its arguments r and then c, is worked so" (document 02, Paper 6). Every operation is rounded
-- to f64.
use Rattle.std.specs.Prelude.{List, [], ◌∷◌, map, Float}
use Rattle.floats.specs.Operations.{◌⊕◌, ◌⊖◌, ◌⊗◌, ◌⊘◌, bits, whole}
use Rattle.floats.specs.Constants.{one}
use Rattle.root.specs.Root.{root_of}

abbrev pub eight : Float
eight = bits 0x4020_0000_0000_0000

abbrev pub twenty_one : Float
twenty_one = bits 0x4035_0000_0000_0000

-- "t = t/(1+√(1+t·t))": the tangent of half the angle whose tangent is t
abbrev pub halved : Float → Float
halved t = t ⊘ (one ⊕ root_of (one ⊕ t ⊗ t))

-- "t = r/c, three times ..": the tangent of an eighth of the angle
abbrev pub eighth : Float → Float → Float
eighth r c = halved (halved (halved (r ⊘ c)))

-- "for d = 19 down to 1 in steps of 2, v = 1/d − z·v"
abbrev pub angle_divisors : List Float
angle_divisors = map whole (19 ∷ 17 ∷ 15 ∷ 13 ∷ 11 ∷ 9 ∷ 7 ∷ 5 ∷ 3 ∷ 1 ∷ [])

abbrev pub angle_steps : Float → List Float → Float → Float
angle_steps z [] v = v
angle_steps z (d ∷ ds) v = angle_steps z ds (one ⊘ d ⊖ z ⊗ v)

-- "z = t·t, v = 1/21"
abbrev pub angle_series : Float → Float
angle_series z = angle_steps z angle_divisors (one ⊘ twenty_one)

-- "answer 8·t·v"
abbrev pub angle_with : Float → Float
angle_with t = eight ⊗ t ⊗ angle_series (t ⊗ t)

unfoldable pub angle_of : Float → Float → Float
angle_of r c = angle_with (eighth r c)
