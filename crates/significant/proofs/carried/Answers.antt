-- `significant::carried` meets its contract: by whether the digits are 10 ^ n. Assumes nothing.
use mathlib.Core.Path.{◌≡◌, sym, ◌∙◌}
use Prim.Native.Nat.{ℕ, ◌-◌, ◌^◌, ◌≤◌, ◌<◌}
use native.Mathlib.Nat.{pow-le-pow_right}
use native.Mathlib.Omega.{arith}
use borrow.Author.Tests.{eq-eqb, ne_eqb}
use Rattle.significant.proofs.carried.Goals as goal

few : (n : ℕ) → n ≤ 16 → 10 ^ n < 2 ^ 64
few n h = let z : 0 < 10 = omega arith in let m : 10 ^ n ≤ 10 ^ 16 = pow-le-pow_right z h in omega (arith, m)

pub pow-requires : goal.pow-requires
pow-requires c = few c.args.n c.requires.1

pub pow-requires-then-d-pow : goal.pow-requires-then-d-pow
pow-requires-then-d-pow c = few (c.args.n - 1) (omega arith)

pub returns-then-d-pow : goal.returns-then-d-pow
returns-then-d-pow c =
    let e : c.args.d ≡ 10 ^ c.args.n = c.if-d-pow.true ∙ c.pow.ensures in
    (rw (eq-eqb c.args.d (10 ^ c.args.n) e) c.pow-then-d-pow.ensures, rw (eq-eqb c.args.d (10 ^ c.args.n) e))

pub returns : goal.returns
returns c =
    let e : c.args.d ≡ 10 ^ c.args.n → ⊥ = λ f. c.if-d-pow.false (f ∙ sym c.pow.ensures) in
    (rw (ne_eqb c.args.d (10 ^ c.args.n) e), rw (ne_eqb c.args.d (10 ^ c.args.n) e))
