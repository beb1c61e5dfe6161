-- `figure_words::digits_from` meets its contract: after the place i the run so far, and it stops at a byte that is no
-- digit, or where it must. Assumes nothing.
use mathlib.Core.Path.{◌≡◌, subst}
use mathlib.Core.Logic.{inr}
use Prim.Native.Nat.{ℕ, ◌+◌, ◌*◌, ◌-◌, ◌^◌, ◌<◌}
use native.Mathlib.Omega.{arith}
use mathlib.Core.List.{List}
use lib.ListN.{length}
use Rattle.figure_words.specs.Runs.{Runs}
use Rattle.figure_words.proofs.Runs.{start, next, number_fits, stops}
use Rattle.figure_words.proofs.digits_from.Goals as goal
use Rattle.figure_words.proofs.digits_from.Goals.{Else-d-ge10}

pub loop-i-init : goal.loop-i-init
loop-i-init c = let a = c.args in let g = c.requires in start a.word.now a.at a.n a.before g.0 g.1 g.2

pub returns-then-d-ge10 : goal.returns-then-d-ge10
returns-then-d-ge10 c = record { runs = c.loop-i.invariant; stop = inr (inr (rw c.digit_value-d.ensures at c.if-d-ge10.true)) }

module _ (c : Else-d-ge10) where
  abbrev w : List ℕ
  w = c.args.word.now

  abbrev at : ℕ
  at = c.args.at

  abbrev n : ℕ
  n = c.args.n

  abbrev before' : ℕ
  before' = c.args.before

  abbrev m : ℕ
  m = c.loop-i.number

  abbrev i : ℕ
  i = c.loop-i.i

  abbrev d : ℕ
  d = c.digit_value-d.result

  so_far : Runs w at n before' m i
  so_far = c.loop-i.invariant

  inside : i < length w
  inside = omega arith

  room : before' + (i - at) < 19
  room = let f = so_far.from in omega arith

  fits_number : m * 10 + d < 2 ^ 64
  fits_number = number_fits w at n before' m i d so_far inside room c.digit_value-d.ensures c.if-d-ge10.false

  one_more : Runs w at n before' (m * 10 + d) (i + 1)
  one_more = next w at n before' m i d so_far inside room c.digit_value-d.ensures c.if-d-ge10.false

pub overflow_mul-number : goal.overflow_mul-number
overflow_mul-number c = omega (arith, fits_number c)

pub overflow_add-number : goal.overflow_add-number
overflow_add-number c = omega (arith, fits_number c)

pub loop-i-preserved : goal.loop-i-preserved
loop-i-preserved c = one_more c

pub returns : goal.returns
returns c =
    let a = c.args in
    let e : c.loop-i.i ≡ c.min.result + a.at = omega arith in
    record {
      runs = subst (Runs a.word.now a.at a.n a.before c.loop-i.number) e c.loop-i.invariant;
      stop = stops a.word.now a.at a.before (c.min.result + a.at) (omega arith) (omega arith) (omega arith);
    }
