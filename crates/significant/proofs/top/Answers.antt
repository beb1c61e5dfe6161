-- `significant::top` meets its contract: all digits from i on are 0. Assumes nothing.
use mathlib.Core.List.{List}
use mathlib.Core.Path.{◌≡◌, ap, subst}
use Prim.Native.Nat.{ℕ, ◌+◌, ◌-◌}
use native.Mathlib.Omega.{arith}
use lib.ListN.{length, drop}
use lib.Seq.{drop-length}
use Rattle.significant.specs.Digits.{value}
use Rattle.significant.proofs.Values.{one_lower}
use Rattle.significant.proofs.top.Goals as goal

none_above : (l : List ℕ) → value (drop (length l) l) ≡ 0
unfolding value
none_above l = ap value (drop-length l)

pub loop-i-init : goal.loop-i-init
loop-i-init c = none_above c.args.digits.now

pub returns-then-digits-i-ne0 : goal.returns-then-digits-i-ne0
returns-then-digits-i-ne0 c =
    let e : c.loop-i.i - 1 + 1 ≡ c.loop-i.i = omega arith in
    rw e (record { within = omega arith; above = c.loop-i.invariant; digit = λ _. omega arith })

pub loop-i-preserved : goal.loop-i-preserved
loop-i-preserved c =
    let i = c.loop-i.i in
    omega (arith, one_lower c.args.digits.now i (omega arith) (omega arith), c.loop-i.invariant)

pub returns : goal.returns
returns c =
    let e : c.loop-i.i ≡ 0 = omega arith in
    record {
      within = omega arith;
      above = subst (λ (i : ℕ). value (drop i c.args.digits.now) ≡ 0) e c.loop-i.invariant;
      digit = λ h. absurd (let z : ⊥ = omega arith in z);
    }
