-- `root::decrease` meets its contract: coefficients are below 2 ^ 32 and u below 2 ^ 28, and that bounds every product. Assumes nothing.
use Prim.Native.Nat.{ℕ, ◌+◌, ◌*◌, ◌/◌, ◌^◌, ◌≤◌}
use native.Mathlib.Nat.{mul-le-mul}
use native.Mathlib.Omega.{arith}
use Rattle.root.proofs.decrease.Goals as goal

line : (a u : ℕ) → a ≤ 2 ^ 32 → u ≤ 2 ^ 28 → a * u ≤ 2 ^ 60
line a u h k = mul-le-mul h k

square : (u : ℕ) → u ≤ 2 ^ 28 → u * u ≤ 2 ^ 56
square u k = mul-le-mul k k

curve : (b d u : ℕ) → b ≤ 2 ^ 32 → d ≤ 2 ^ 32 → u ≤ 2 ^ 28 → u * u / 2 ^ 28 * (b + d * u / 2 ^ 28) ≤ 2 ^ 61
curve b d u h k l =
    let s : u * u / 2 ^ 28 ≤ 2 ^ 28 = omega (arith, square u l) in
    let t : b + d * u / 2 ^ 28 ≤ 2 ^ 33 = omega (arith, line d u k l) in
    mul-le-mul s t

sum : (c : goal.After-struct_known-3-1) →
    let a = c.args in
    (a.p.1 * a.u ≤ 2 ^ 60) × (a.u * a.u / 2 ^ 28 * (a.p.2 + a.p.3 * a.u / 2 ^ 28) ≤ 2 ^ 61)
sum c =
    let a = c.args in
    (line a.p.1 a.u (omega arith) (omega arith), curve a.p.2 a.p.3 a.u (omega arith) (omega arith) (omega arith))

pub overflow_mul-result : goal.overflow_mul-result
overflow_mul-result c = omega (arith, line c.args.p.1 c.args.u (omega arith) (omega arith))

pub overflow_mul-result-2 : goal.overflow_mul-result-2
overflow_mul-result-2 c = omega (arith, square c.args.u (omega arith))

pub overflow_mul-result-3 : goal.overflow_mul-result-3
overflow_mul-result-3 c = let a = c.args in omega (arith, line a.p.3 a.u (omega arith) (omega arith))

pub overflow_add-result : goal.overflow_add-result
overflow_add-result c = let a = c.args in omega (arith, line a.p.3 a.u (omega arith) (omega arith))

pub overflow_mul-result-4 : goal.overflow_mul-result-4
overflow_mul-result-4 c = omega (arith, (sum c).1)

pub overflow_add-result-2 : goal.overflow_add-result-2
overflow_add-result-2 c = omega (arith, (sum c).0, (sum c).1)

pub returns : goal.returns
returns c = omega (arith, (sum c).0, (sum c).1)
