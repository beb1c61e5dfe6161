-- `significant::put_signed` meets its contract: the sign, and what is behind it. Assumes nothing.
use mathlib.Core.List.{◌∷◌, []}
use mathlib.Core.Bool.{Bool, true, false, cond}
use mathlib.Core.Path.{sym, ◌∙◌}
use Prim.Native.Nat.{ℕ, ◌≤◌}
use native.Mathlib.Omega.{arith}
use lib.Ieee.{Float, lt}
use lib.ListN.{length}
use Rattle.floats.specs.Operations.{bits}
use Rattle.texts.proofs.Appending.{then}
use Rattle.tokens.specs.Text.{text, codes}
use Rattle.significant.specs.Printed.{magnitude_text, sign_text}
use Rattle.significant.proofs.put_signed.Goals as goal

short : (x : Float) → length (sign_text x) ≤ 1
unfolding text codes
short x = by (lt x (bits 0))
  where
    by : (t : Bool) → length {A = ℕ} (cond t (45 ∷ []) []) ≤ 1
    by true = omega arith
    by false = omega arith

pub put_magnitude-requires : goal.put_magnitude-requires
put_magnitude-requires c = (
  c.requires.0,
  c.requires.1,
  c.requires.2,
  let e = c.put_sign-start.ensures.ends in let h = short c.args.x in let k = c.put_sign-start.auto.out in
      omega (arith, e, h, k, c.requires.3),
)

pub returns-then-is_finite : goal.returns-then-is_finite
returns-then-is_finite c =
    rw (sym c.is_finite.ensures ∙ c.if-is_finite.true)
    (then c.args.out.now c.put_sign-start.new.out c.put_magnitude.new.out c.args.at c.put_sign-start.result
    c.put_magnitude.result (sign_text c.args.x) (magnitude_text c.args.n c.args.scale c.args.power c.args.x)
    c.put_sign-start.ensures c.put_magnitude.ensures)

pub put_bytes-requires : goal.put_bytes-requires
put_bytes-requires c =
    let e = c.put_sign-start.ensures.ends in
    let h = short c.args.x in
    let k = c.put_sign-start.auto.out in
    omega (arith, e, h, k, c.requires.3)

pub returns : goal.returns
unfolding text codes
returns c =
    rw (sym c.is_finite.ensures ∙ c.if-is_finite.false)
    (then c.args.out.now c.put_sign-start.new.out c.put_bytes.new.out c.args.at c.put_sign-start.result c.put_bytes.result
    (sign_text c.args.x) (105 ∷ 110 ∷ 102 ∷ 105 ∷ 110 ∷ 105 ∷ 116 ∷ 101 ∷ []) c.put_sign-start.ensures c.put_bytes.ensures)
