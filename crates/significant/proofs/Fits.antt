-- No decimal is written with more than 44 bytes. Assumes nothing.
use mathlib.Core.List.{List, [], ◌++◌}
use mathlib.Core.Bool.{Bool, true, false, cond}
use Prim.Native.Nat.{ℕ, ◌+◌, ◌-◌, ◌≤◌}
use native.Mathlib.Omega.{arith}
use lib.Dec.{leb, ltb}
use lib.ListN.{length, take, drop, length-append, length-take, length-drop}
use lib.Ieee.{Float, ne, eq, lt}
use Rattle.floats.specs.Operations.{bits}
use Rattle.floats.specs.Floats.{is_finite}
use Rattle.tokens.specs.Text.{text, codes}
use Rattle.counts.specs.Counts.{count_text}
use Rattle.counts.proofs.Printing.{twenty}
use Rattle.significant.specs.Significant.{decimal_units_of, digits_of, place_of}
use Rattle.significant.specs.Printed.{pointed, fraction, exponent_text, scientific, placed, written, magnitude_text}
use Rattle.significant.specs.Printed.{signed_text, decimal_text}

pointed_fits : (ds : List ℕ) (i : ℕ) → length ds ≤ 20 → length (pointed ds i) ≤ 21
unfolding text codes
pointed_fits ds i h =
    let a = length-append (take i ds) (text "." ++ drop i ds) in
    let t = length-take i ds in
    let d = length-drop i ds in
    omega (arith, a, t, d)

fraction_fits : (ds : List ℕ) (z : ℕ) → length ds ≤ 20 → length (fraction ds z) ≤ 25
unfolding text codes
fraction_fits ds z h =
    let a = length-append (take z (text "000")) ds in
    let t = length-take z (text "000") in
    omega (arith, a, t)

exponent_fits : (w : ℕ) → length (exponent_text w) ≤ 22
unfolding text codes
exponent_fits w = by (leb 1075 w)
  where
    by : (t : Bool) → length (text "e" ++ cond t (count_text (w - 1075)) (text "-" ++ count_text (1075 - w))) ≤ 22
    by true = let h = twenty (w - 1075) in omega (arith, h)
    by false = let h = twenty (1075 - w) in omega (arith, h)

scientific_fits : (ds : List ℕ) (w : ℕ) → length ds ≤ 20 → length (scientific ds w) ≤ 43
scientific_fits ds w h =
    let a = length-append (pointed ds 1) (exponent_text w) in
    let p = pointed_fits ds 1 h in
    let e = exponent_fits w in
    omega (arith, a, p, e)

placed_fits : (ds : List ℕ) (w : ℕ) → length ds ≤ 20 → length (placed ds w) ≤ 43
placed_fits ds w h = by (leb w 1074) (leb 1072 w) (ltb (w - 1074) (length ds))
  where
    by : (a b c : Bool)
        → length (cond a (cond b (fraction ds (1074 - w)) (scientific ds w)) (cond c (pointed ds (w - 1074)) (scientific ds w))) ≤ 43
    by true true c = let k = fraction_fits ds (1074 - w) h in omega (arith, k)
    by true false c = scientific_fits ds w h
    by false b true = let k = pointed_fits ds (w - 1074) h in omega (arith, k)
    by false b false = scientific_fits ds w h

written_fits : (power : Bool) (ds : List ℕ) (w : ℕ) → length ds ≤ 20 → length (written power ds w) ≤ 43
written_fits true ds w h = scientific_fits ds w h
written_fits false ds w h = placed_fits ds w h

signed_fits : (n scale : ℕ) (power : Bool) (x : Float) → length (signed_text n scale power x) ≤ 44
unfolding text codes
signed_fits n scale power x = by (lt x (bits 0)) (is_finite x)
  where
    number : length (magnitude_text n scale power x) ≤ 43
    number = written_fits power (count_text (digits_of n (decimal_units_of x))) (n + place_of n (decimal_units_of x) + scale)
        (twenty (digits_of n (decimal_units_of x)))

    by : (a b : Bool) → length (cond a (text "-") [] ++ cond b (magnitude_text n scale power x) (text "infinite")) ≤ 44
    by true true = let k = number in omega (arith, k)
    by true false = omega arith
    by false true = let k = number in omega (arith, k)
    by false false = omega arith

pub decimal_fits : (n scale : ℕ) (power : Bool) (x : Float) → length (decimal_text n scale power x) ≤ 44
unfolding text codes
decimal_fits n scale power x = by (ne x x) (eq x (bits 0))
  where
    by : (a b : Bool) → length (cond a (text "no number") (cond b (text "0") (signed_text n scale power x))) ≤ 44
    by true b = omega arith
    by false true = omega arith
    by false false = signed_fits n scale power x
