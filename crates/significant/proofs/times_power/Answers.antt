-- `significant::times_power` meets its contract: what is there times the power that is left is the whole. Assumes nothing.
use mathlib.Core.List.{List}
use mathlib.Core.Path.{◌≡◌, refl, sym, ap, subst, ◌∙◌}
use Prim.Native.Nat.{ℕ, ◌+◌, ◌-◌, ◌*◌, ◌^◌, ◌≤◌, ◌<◌}
use native.Mathlib.Nat.{le_trans, mul_assoc, mul_comm, mul-one, mul-le-mul_left, pow-le-pow_left, pow-le-pow_right}
use native.Mathlib.Nat.{pow-zero, add-zero}
use native.Mathlib.Omega.{arith}
use lib.ListN.{length}
use lib.Pow.{pow-add}
use Rattle.significant.specs.Digits.{value, times_plus}
use Rattle.significant.proofs.Values.{are_digits, multiplied}
use Rattle.significant.proofs.Values.{same_length as times_plus_length}
use Rattle.significant.proofs.times_power.Goals as goal
use Rattle.significant.proofs.times_power.Invariants.{SoFar}

few : (base step : ℕ) → base ≤ 5 → step ≤ 23 → base ^ step ≤ 5 ^ 23
few base step h g = let z : 0 < 5 = omega arith in le_trans (pow-le-pow_left h step) (pow-le-pow_right z g)

-- a step of the power and what is left behind it are the power
parts : (v base left step : ℕ) → step ≤ left → v * base ^ step * base ^ (left - step) ≡ v * base ^ left
parts v base left step h =
    mul_assoc v (base ^ step) (base ^ (left - step))
    ∙ ap (λ (x : ℕ). v * x)
    (sym (pow-add base step (left - step)) ∙ ap (λ (j : ℕ). base ^ j) (let z : step + (left - step) ≡ left = omega arith in z))

next : (before digits : List ℕ) (base k left step p : ℕ) → SoFar before digits base k left → 0 < base
    → value before * base ^ k < 10 ^ length before → step ≤ left → p ≡ base ^ step
    → SoFar before (times_plus p 0 digits) base k (left - step)
next before digits base k left step p v b room h e =
    let l = times_plus_length p 0 digits in
    let c : p * value digits + 0 ≡ value digits * base ^ step = add-zero (p * value digits) ∙ mul_comm p (value digits)
    ∙ ap (λ (x : ℕ). value digits * x) e in
    let m : value digits * base ^ step ≤ value digits * base ^ left = mul-le-mul_left (value digits) (pow-le-pow_right b h) in
    let w : 10 ^ length before ≡ 10 ^ length digits = ap (λ (j : ℕ). 10 ^ j) (sym v.same) in
    let i = v.is in
    let f : p * value digits + 0 < 10 ^ length digits = omega (arith, c, m, i, room, w) in
    record {
      same = l ∙ v.same;
      each = are_digits p 0 digits;
      is = ap (λ (x : ℕ). x * base ^ (left - step)) (multiplied p 0 digits f ∙ c) ∙ parts (value digits) base left step h ∙ i;
    }

pub loop-left-init : goal.loop-left-init
loop-left-init c = record { same = refl; each = c.requires.2; is = refl }

pub pow-requires : goal.pow-requires
pow-requires c = omega (arith, few c.args.base c.min-step.result c.requires.0 (omega arith))

pub times_plus-requires : goal.times_plus-requires
times_plus-requires c = (omega (arith, few c.args.base c.min-step.result c.requires.0 (omega arith), c.pow.ensures), omega arith)

pub loop-left-preserved : goal.loop-left-preserved
loop-left-preserved c =
    let v = c.loop-left in
    subst (λ (d : List ℕ). SoFar c.args.digits.now d c.args.base c.args.k (v.left - c.min-step.result))
    (sym c.times_plus.ensures)
    (next c.args.digits.now v.digits c.args.base c.args.k v.left c.min-step.result c.pow.result v.invariant
    c.requires.1 c.requires.3 (omega arith) c.pow.ensures)

pub shape_of-digits : goal.shape_of-digits
shape_of-digits c = c.loop-left.invariant.same

pub returns : goal.returns
returns c =
    let v = c.loop-left in
    let e : v.left ≡ 0 = omega arith in
    record {
      same = v.invariant.same;
      digits = v.invariant.each;
      is = sym (mul-one (value v.digits))
          ∙ ap (λ (x : ℕ). value v.digits * x) (sym (ap (λ (j : ℕ). c.args.base ^ j) e ∙ pow-zero c.args.base)) ∙ v.invariant.is;
    }
