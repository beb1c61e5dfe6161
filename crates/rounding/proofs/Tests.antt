-- What a test against a constant says of an f64's size. Assumes nothing.
use mathlib.Core.Path.{◌≡◌}
use mathlib.Core.Bool.{true, false, true≢false}
use Prim.Native.Nat.{◌*◌}
use native.Mathlib.Omega.{arith}
use lib.Dec.{T}
use lib.Ieee.{Float, nan, inf, fin, up, down, le}
use lib.Ieee.Scale.{finite}
use lib.Ieee.Positive.{num, den}
use Rattle.floats.specs.Floats.{abs_of}
use Rattle.rounding.specs.Sizes.{AtMost, AtLeast}
use Rattle.rounding.proofs.Signs.{minus}
use Rattle.rounding.proofs.Signed.{le→leq}

pub most_of_le : (x c : Float) → T (finite c) → minus c ≡ false → T (le (abs_of x) c) → AtMost (num c) (den c) x
unfolding le abs_of
most_of_le x nan i s h = absurd i
most_of_le x (inf t) i s h = absurd i
most_of_le x (fin true n d) i s h = absurd (true≢false s)
most_of_le nan (fin false n d) i s h = absurd h
most_of_le (inf t) (fin false n d) i s h = absurd h
most_of_le (fin t m e) (fin false n d) i s h = record
    { finite = tt; size = (let k = le→leq false (m * up e * down d) false (n * up d * down e) h in omega arith) }

pub least_of_le : (x c : Float) → T (finite c) → minus c ≡ false → T (finite x) → T (le c (abs_of x)) → AtLeast (num c) (den c) x
unfolding le abs_of
least_of_le x nan i s j h = absurd i
least_of_le x (inf t) i s j h = absurd i
least_of_le x (fin true n d) i s j h = absurd (true≢false s)
least_of_le nan (fin false n d) i s j h = absurd j
least_of_le (inf t) (fin false n d) i s j h = absurd j
least_of_le (fin t m e) (fin false n d) i s j h = record
    { finite = tt; size = (let k = le→leq false (n * up d * down e) false (m * up e * down d) h in omega arith) }
