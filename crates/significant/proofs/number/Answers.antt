-- `significant::number` meets its contract: d is the number that the digits from i on write, below 10 ^ 16. Assumes nothing.
use mathlib.Core.List.{List}
use mathlib.Core.Path.{◌≡◌, sym, ap, ◌∙◌}
use Prim.Native.Nat.{ℕ, ◌^◌, ◌≤◌, ◌<◌}
use native.Mathlib.Nat.{lt_of_lt_of_le, pow-le-pow_right}
use native.Mathlib.Omega.{arith}
use lib.ListN.{length, drop, length-drop}
use lib.Seq.{drop-length}
use Rattle.significant.specs.Digits.{value, Digits}
use Rattle.significant.proofs.Values.{below, digits_drop, one_lower}
use Rattle.significant.proofs.number.Goals as goal

none_yet : (l : List ℕ) → 0 ≡ value (drop (length l) l)
unfolding value
none_yet l = sym (ap value (drop-length l))

few : (l : List ℕ) (i : ℕ) → Digits l → length l ≤ 16 → value (drop i l) < 10 ^ 16
few l i h g =
    lt_of_lt_of_le (below (drop i l) (digits_drop i l h))
    (let e = length-drop i l in let z : 0 < 10 = omega arith in let y : length (drop i l) ≤ 16 = omega (arith, e) in pow-le-pow_right z y)

pub loop-i-init : goal.loop-i-init
loop-i-init c = none_yet c.args.digits.now

pub overflow_mul-d : goal.overflow_mul-d
overflow_mul-d c =
    omega (arith, c.loop-i.invariant, few c.args.digits.now c.loop-i.i c.requires.0 c.requires.1)

pub overflow_add-d : goal.overflow_add-d
overflow_add-d c =
    omega (arith, c.loop-i.invariant, few c.args.digits.now c.loop-i.i c.requires.0 c.requires.1)

pub loop-i-preserved : goal.loop-i-preserved
loop-i-preserved c =
    let i = c.loop-i.i in
    let e = one_lower c.args.digits.now i (omega arith) (omega arith) in
    omega (arith, c.loop-i.invariant, e, c.from.ensures)

pub returns : goal.returns
returns c = c.loop-i.invariant ∙ ap (λ (i : ℕ). value (drop i c.args.digits.now)) (let z : c.loop-i.i ≡ 0 = omega arith in z)
