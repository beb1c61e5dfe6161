-- `significant::of_bits` meets its contract: by the exponent field. Assumes nothing.
use mathlib.Core.Path.{◌≡◌, sym, ap}
use Prim.Native.Nat.{ℕ, ◌*◌, ◌^◌}
use native.Mathlib.Omega.{arith}
use Rattle.root.proofs.Patterns.{field, subnormal_units, normal_units}
use Rattle.significant.proofs.Exact.{not_all_ones, same_units}
use Rattle.significant.proofs.of_bits.Goals as goal

pub returns-then-field-eq0 : goal.returns-then-field-eq0
returns-then-field-eq0 c =
    same_units c.args.n _ _ _ _ (ap (λ (u : ℕ). u * 5 ^ 1074) (sym (subnormal_units c.args.b c.if-field-eq0.true)))
    c.worked.ensures

pub worked-requires-2 : goal.worked-requires-2
worked-requires-2 c =
    let o : field c.args.b ≡ 2047 → ⊥ = not_all_ones c.args.b c.requires.0 in
    (omega arith, omega (arith, o), c.requires.1, c.requires.2)

pub returns : goal.returns
returns c =
    same_units c.args.n _ _ _ _
    (ap (λ (u : ℕ). u * 5 ^ 1074) (sym (normal_units c.args.b c.if-field-eq0.false (not_all_ones c.args.b c.requires.0))))
    c.worked-2.ensures
