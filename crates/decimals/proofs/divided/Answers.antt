-- `decimals::divided` meets its contract: the first quotient has 12 digits or more, and what is missing to 53 comes in
-- two steps. Assumes nothing.
use native.Mathlib.Nat.{mod-lt}
use native.Mathlib.Omega.{arith}
use Rattle.decimals.proofs.Steps.{lift, few_places, first_fits, second_fits, all_digits}
use Rattle.decimals.proofs.divided.Goals as goal

pub overflow_sub-places : goal.overflow_sub-places
overflow_sub-places c = let a = c.args in let p = c.requires in (lift a.n a.e p.1 p.0 p.2 p.3).0

pub more_digits-v-requires : goal.more_digits-v-requires
more_digits-v-requires c =
    let a = c.args in
    let p = c.requires in
    let few = few_places a.n a.e p.1 p.0 p.2 p.3 in
    (first_fits a.n a.e p.1 p.0 p.2 p.3, mod-lt a.n p.1, p.2, omega arith, omega arith)

pub more_digits-requires : goal.more_digits-requires
more_digits-requires c =
    let a = c.args in
    let p = c.requires in
    let few = few_places a.n a.e p.1 p.0 p.2 p.3 in
    let m = c.more_digits-v.ensures in
    (second_fits a.n a.e p.1 p.0 p.2 p.3 _ _ _ m, m.rest, p.2, omega arith, omega (arith, m.turns))

pub returns : goal.returns
returns c =
    let a = c.args in
    let p = c.requires in
    all_digits a.n a.e p.1 p.0 p.2 p.3 _ _ _ c.more_digits-v.ensures _ _ _ c.more_digits.ensures
