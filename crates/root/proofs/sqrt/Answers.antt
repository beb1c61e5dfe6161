-- `root::sqrt` meets its contract: by the tests x is positive and finite, +infinity, negative, or else a zero or a NaN;
-- the first has its root from its bits. Assumes nothing.
use mathlib.Core.Path.{◌≡◌, sym, ap, subst, ◌∙◌}
use mathlib.Core.Bool.{not}
use lib.Dec.{T}
use lib.Ieee.{Float, binary64, fits, of_bits, to_bits, div, is_nan}
use lib.Ieee.Bits.{of_bits-to_bits, nan_bits_is}
use lib.Ieee.Positive.{positive}
use Rattle.floats.specs.Operations.{bits}
use Rattle.floats.proofs.Nan.{zero_over_zero}
use Rattle.root.specs.Root.{root_of, IsRoot}
use Rattle.floats.proofs.Units.{for_positive}
use Rattle.root.proofs.Nearest.{is_root, root_positive}
use Rattle.root.proofs.Signs.{is_positive, root_of_top, root_of_negative, root_of_rest}
use Rattle.root.proofs.sqrt.Goals as goal
use Rattle.root.proofs.sqrt.Goals.{Start}

fit : (c : Start) → T (fits binary64 c.args.x)
fit c = subst T (sym c.well_formed.0.1) tt

-- what is the root by definition is so by the statement
both : (c : Start) (r : Float) → r ≡ root_of c.args.x → (r ≡ root_of c.args.x) × IsRoot c.args.x r
both c r e = (e, subst (IsRoot c.args.x) (sym e) (is_root c.args.x (fit c)))

-- ---- positive and finite

positive_at : (c : goal.Then-x-top) → T (positive c.args.x)
unfolding div of_bits
positive_at c = is_positive c.args.x c.if-x.true c.if-x-top.true

no_nan : (x : Float) → T (positive x) → T (not (is_nan x))
unfolding is_nan
no_nan = for_positive (λ (x : Float). T (not (is_nan x))) (λ m e. tt)

held : (c : Start) → bits (to_bits binary64 c.args.x) ≡ c.args.x
held c = of_bits-to_bits binary64 c.args.x (fit c)

pub float_to_bits-x : goal.float_to_bits-x
float_to_bits-x c = no_nan c.args.x (positive_at c)

pub root_bits-requires : goal.root_bits-requires
root_bits-requires c = subst (λ (x : Float). T (positive x)) (sym (held c.before.before)) (positive_at c)

root_at : (c : goal.After-root_bits) → bits c.root_bits.result ≡ root_of c.args.x
root_at c = c.root_bits.ensures ∙ ap root_of (held c.before.before.before)

pub float_from_bits-result : goal.float_from_bits-result
float_from_bits-result c =
    let s = c.before.before.before in
    let r = c.root_bits.result in
    rw (nan_bits_is binary64 r)
    (no_nan (bits r)
    (subst (λ (y : Float). T (positive y)) (sym (root_at c)) (root_positive c.args.x (positive_at c.before) (fit s))))

pub returns-then-x-top : goal.returns-then-x-top
returns-then-x-top c = both c.before.before.before _ (root_at c)

-- ---- the other three

pub returns-then-x : goal.returns-then-x
unfolding div of_bits
returns-then-x c = let s = c.before.before in both s _ (root_of_top c.args.x c.if-x.true c.if-x-top.false)

pub returns-then-x-2 : goal.returns-then-x-2
returns-then-x-2 c = let s = c.before.before in both s _ (zero_over_zero ∙ root_of_negative c.args.x c.if-x-2.true)

pub returns : goal.returns
returns c = let s = c.before.before in both s _ (root_of_rest c.args.x c.if-x.false c.if-x-2.false)
