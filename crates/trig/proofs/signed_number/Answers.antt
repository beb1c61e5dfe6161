-- `trig::signed_number` meets its contract: −n as an f64 and the f64 of n with its sign turned are one value. Assumes nothing.
use mathlib.Core.Path.{◌≡◌, ap}
use mathlib.Core.Bool.{true, false, not}
use Prim.Native.Nat.{ℕ, ◌^◌, ◌≤◌, ◌<◌}
use lib.Dec.{le→leb}
use lib.IntN.{pos}
use lib.Ieee.{Float, nan, inf, fin, binary64, round, neg, of_int, in_float}
use lib.Ieee.Fits.{neg-fits, round-fits}
use lib.Ieee.Exact.{HasValue}
use lib.Ieee.Back.{round_whole}
use Rattle.trig.specs.Trig.{signed}
use Rattle.trig.proofs.Exact.{whole_is}
use Rattle.trig.proofs.signed_number.Goals as goal

negative_value : (x : Float) (n : ℕ) → HasValue x false n 1 → HasValue (neg x) true n 1
unfolding neg
negative_value nan n v = v
negative_value (inf t) n v = v
negative_value (fin t k e) n v = (ap not v.0, v.1)

negated : (n : ℕ) → 0 < n → n ≤ 2 ^ 53 → neg (of_int binary64 (pos n)) ≡ of_int binary64 (signed true n)
unfolding of_int
negated n h k =
    let x = round binary64 false n 1 in
    whole_is (neg x) true n h (neg-fits binary64 x (round-fits binary64 false n 1)) (negative_value x n (round_whole binary64 false n k))

pub int_to_float-m : goal.int_to_float-m
unfolding in_float
int_to_float-m c = le→leb c.args.n (2 ^ 53) c.requires.1

pub returns-then-negative : goal.returns-then-negative
returns-then-negative c = let p = c.requires in rw c.if-negative.true (negated c.args.n p.0 p.1)

pub returns-else-negative : goal.returns-else-negative
returns-else-negative c = rw c.if-negative.false
