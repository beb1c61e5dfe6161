-- `significant::put_scientific` meets its contract: the digits, and the exponent behind them. Assumes nothing.
use mathlib.Core.List.{List, ◌∷◌}
use mathlib.Core.Path.{◌≡◌}
use Prim.Native.Nat.{ℕ, ◌+◌, ◌≤◌}
use native.Mathlib.Omega.{arith}
use lib.ListN.{length, take, drop, length-append, length-drop}
use lib.Seq.{length-take-le}
use Rattle.texts.proofs.Appending.{then}
use Rattle.tokens.specs.Text.{text, codes}
use Rattle.significant.specs.Printed.{pointed, exponent_text}
use Rattle.significant.proofs.put_scientific.Goals as goal

pointed_length : (ds : List ℕ) (i : ℕ) → i ≤ length ds → length (pointed ds i) ≡ length ds + 1
unfolding text codes
pointed_length ds i h =
    let a = length-append (take i ds) (46 ∷ drop i ds) in
    let b = length-take-le i ds h in
    let d = length-drop i ds in
    omega (arith, a, b, d)

pub put_exponent-requires : goal.put_exponent-requires
put_exponent-requires c =
    let e = c.put_pointed-end.ensures.ends in
    let l = pointed_length c.args.ds.now 1 c.requires.0 in
    let k = c.put_pointed-end.auto.out in
    omega (arith, e, l, k)

pub returns : goal.returns
returns c =
    then c.args.out.now c.put_pointed-end.new.out c.put_exponent.new.out c.args.at c.put_pointed-end.result
    c.put_exponent.result (pointed c.args.ds.now 1) (exponent_text c.args.w) c.put_pointed-end.ensures
    c.put_exponent.ensures
