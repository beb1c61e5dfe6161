-- `root::digit_root` meets its contract: after i turns s is the root of the 2 * i digits that have come in, with `rest`
-- left over. Assumes nothing.
use Prim.Native.Nat.{ℕ, ◌+◌, ◌-◌, ◌*◌, ◌/◌, ◌%◌, ◌^◌, ◌≤◌, ◌<◌}
use mathlib.Core.Path.{◌≡◌, sym, ap, ◌∙◌}
use native.Mathlib.Nat.{mul_assoc, mul_comm, mul-one, pow-suc, pow-succ'}
use native.Mathlib.Numerals.{add-one}
use native.Mathlib.Omega.{arith}
use lib.Pow.{pow_mono}
use Rattle.root.specs.Root.{near_root}
use Rattle.root.proofs.Squares.{even_square, odd_square, round_down, round_up, near_of}
use Rattle.root.proofs.digit_root.Goals as goal
use Rattle.root.proofs.digit_root.Goals.{then-trial-more, else-trial-more}
use Rattle.root.proofs.digit_root.Invariants.{State}

pub loop-init : goal.loop-init
loop-init c = record {
  few = omega arith;
  over = omega arith;
  digits = omega arith;
  fits = omega arith;
  whole = omega (arith, mul-one c.args.n);
}

-- ---- one turn

module _ (n i left s rest : ℕ) (z : State n i left s rest) (h : i < 53) where
  fours : n * 4 ^ (i + 1) ≡ 4 * (n * 4 ^ i)
  fours = ap (λ (j : ℕ). n * 4 ^ j) (add-one i) ∙ ap (λ (x : ℕ). n * x) (pow-suc 4 i) ∙ sym (mul_assoc n (4 ^ i) 4) ∙ mul_comm (n * 4 ^ i) 4

  twos : 2 ^ (i + 1) ≡ 2 * 2 ^ i
  twos = ap (λ (j : ℕ). 2 ^ j) (add-one i) ∙ pow-succ' 2 i

  room : 2 ^ (i + 1) ≤ 2 ^ 53
  room = pow_mono {i = i + 1} {j = 53} (omega arith)

  one : 4 * s + 1 ≤ 4 * rest + left / 2 ^ 52 → State n (i + 1) (left % 2 ^ 52 * 4) (2 * s + 1) (4 * rest + left / 2 ^ 52 - (4 * s + 1))
  one t =
      let p = fours in let d = twos in let q = odd_square s in
      record { few = omega arith; over = omega arith; digits = omega arith; fits = room; whole = omega arith }

  nought : 4 * rest + left / 2 ^ 52 < 4 * s + 1 → State n (i + 1) (left % 2 ^ 52 * 4) (2 * s) (4 * rest + left / 2 ^ 52)
  nought t =
      let p = fours in let d = twos in let q = even_square s in
      record { few = omega arith; over = omega arith; digits = omega arith; fits = room; whole = omega arith }

pub loop-preserved : goal.loop-preserved
loop-preserved c =
    let l = c.loop in
    let n = c.args.n in
    elim c.if-trial-more.branch [
      | then-trial-more w ↦ rw (w.s-is, w.rest-is) (one n l.counter l.left l.s l.rest l.invariant (omega arith) w.if-trial-more.true)
      | else-trial-more w ↦ rw (w.s-is, w.rest-is) (nought n l.counter l.left l.s l.rest l.invariant (omega arith) w.if-trial-more.false)
    ]

-- ---- after the last turn s * s + rest is the whole radicand

module _ (n i left s rest : ℕ) (z : State n i left s rest) (h : i ≡ 53) (o : 0 < n) (b : n < 2 ^ 54) where
  all : s * s + rest ≡ n * 2 ^ 52
  all =
      let w : n * 4 ^ i ≡ n * 4 ^ 53 = ap (λ (j : ℕ). n * 4 ^ j) h in
      omega (arith, z.whole, z.few)

  down : rest ≤ s → s ≡ near_root (n * 2 ^ 52)
  down t = near_of s (n * 2 ^ 52) (omega arith) (omega arith) (round_down s rest (n * 2 ^ 52) (omega arith) all t)

  up : s < rest → s + 1 ≡ near_root (n * 2 ^ 52)
  up t = near_of (s + 1) (n * 2 ^ 52) (omega arith) (omega arith) (round_up s rest (n * 2 ^ 52) all z.over t)

pub returns-then-rest-s : goal.returns-then-rest-s
returns-then-rest-s c =
    let l = c.loop in
    down c.args.n l.counter l.left l.s l.rest l.invariant (omega arith) (omega arith) (omega arith)
    (omega arith)

pub returns-else-rest-s : goal.returns-else-rest-s
returns-else-rest-s c =
    let l = c.loop in
    up c.args.n l.counter l.left l.s l.rest l.invariant (omega arith) (omega arith) (omega arith)
    (omega arith)
