-- `steps::steps` meets its contract: the parts' quotient is the magnitude's, and at most 2^26. Assumes nothing.
use mathlib.Core.Path.{◌≡◌, sym, ap, ◌∙◌}
use Prim.Native.Nat.{ℕ, zero, suc, ◌/◌, ◌^◌, ◌≤◌, ◌<◌}
use native.Mathlib.Nat.{div-le_of_le-mul}
use native.Mathlib.Omega.{arith}
use lib.IntN.{ℤ, pos, neg_ℤ, ◌-ℤ◌, +ℤ_idl}
use lib.Signed.{mag}
use mir.Facts.{to_z-of_z}
use mir.Syntax.{w64}
use mir.Val.{SFits, to_z, of_z}
use Rattle.steps.proofs.Signs.{cut, below_zero, from_zero}
use Rattle.steps.proofs.steps.Goals as goal
use Rattle.steps.proofs.steps.Goals.{After-parts_of-s}

-- ---- a count of steps and its negative in an i64

module _ (n : ℕ) (h : n ≤ 2 ^ 26) where
  fits : SFits w64 (pos n)
  fits = record { sfits = omega arith }

  minus : pos 0 -ℤ to_z w64 n ≡ neg_ℤ (pos n)
  minus = ap (λ (z : ℤ). pos 0 -ℤ z) (to_z-of_z fits) ∙ +ℤ_idl (neg_ℤ (pos n))

  fits_minus : SFits w64 (neg_ℤ (pos n))
  fits_minus = record { sfits = below n h }
    where
      below : (k : ℕ) → k ≤ 2 ^ 26 → mag (neg_ℤ (pos k)) < 2 ^ 63
      below zero g = omega arith
      below (suc k) g = omega arith

  back_minus : to_z w64 (of_z w64 (pos 0 -ℤ to_z w64 n)) ≡ neg_ℤ (pos n)
  back_minus = ap (λ (z : ℤ). to_z w64 (of_z w64 z)) minus ∙ to_z-of_z fits_minus

count : After-parts_of-s → ℕ
count c = c.parts_of-s.result.digits / c.parts_of-s.result.step

small : (c : After-parts_of-s) → count c ≤ 2 ^ 26
unfolding count
small c = let p = c.parts_of-s.ensures in div-le_of_le-mul c.parts_of-s.result.step (omega (arith, p.most))

pub overflow_cast-n : goal.overflow_cast-n
unfolding count
overflow_cast-n c =
    let k = (goal.at.overflow_cast-n c).After-parts_of-s in
    fits (count k) (small k)

pub overflow_sub-result : goal.overflow_sub-result
unfolding count
overflow_sub-result c =
    let k = (goal.at.overflow_sub-result c).After-parts_of-s in
    rw (minus (count k) (small k)) (fits_minus (count k) (small k))

pub returns-then-length_m : goal.returns-then-length_m
unfolding count
returns-then-length_m c =
    let k = (goal.at.returns-then-length_m c).After-parts_of-s in
    let x = c.args.length_m in
    back_minus (count k) (small k)
    ∙ sym (below_zero x c.if-length_m.true ∙ ap (λ (n : ℕ). neg_ℤ (pos n)) (cut x _ _ c.parts_of-s.ensures))

pub returns : goal.returns
unfolding count
returns c =
    let k = (goal.at.returns c).After-parts_of-s in
    let x = c.args.length_m in
    to_z-of_z (fits (count k) (small k))
    ∙ sym (from_zero x c.if-length_m.false ∙ ap pos (cut x _ _ c.parts_of-s.ensures))
