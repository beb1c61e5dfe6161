-- `significant::rounded` meets its contract: there are more than n digits, or none, and those behind the first n round
-- them. Assumes nothing.
use mathlib.Core.List.{List}
use mathlib.Core.Path.{◌≡◌, refl, sym, ap, subst, ◌∙◌}
use mathlib.Core.Bool.{cond}
use Prim.Native.Nat.{ℕ, ◌+◌, ◌-◌, ◌^◌, ◌≤◌, ◌<◌}
use native.Mathlib.Nat.{lt_of_lt_of_le, pow-le-pow_right}
use native.Mathlib.Omega.{arith}
use lib.Dec.{ltb, eqb}
use lib.ListN.{length, take, drop, get_or, length-take}
use lib.Seq.{length-take-le}
use Rattle.significant.specs.Digits.{value, Digits, Top, nearest_digit}
use Rattle.significant.proofs.Values.{below, digits_take, digits_drop}
use Rattle.significant.proofs.Rounding.{top_none, enough_digits, none_rounded, rounds_to}
use Rattle.significant.proofs.rounded.Goals as goal
use Rattle.significant.proofs.rounded.Goals.{Else-c-eq0}

-- at most n digits of l
few : (l : List ℕ) (n c from : ℕ) → Digits l → n ≤ 16 → from ≡ c - n → n ≤ c
    → Digits (take (c - from) (drop from l)) × (length (take (c - from) (drop from l)) ≤ 16)
few l n c from h b e g =
    (digits_take (c - from) (drop from l) (digits_drop from l h), let k = length-take (c - from) (drop from l) in omega (arith, k, e))

below_16 : (l : List ℕ) → Digits l → length l ≤ 16 → value l < 10 ^ 16
below_16 l h g = lt_of_lt_of_le (below l h) (let z : 0 < 10 = omega arith in pow-le-pow_right z g)

-- more than n digits, where there are some
many : (c : Else-c-eq0) → (17 ≤ c.top-c.result) × (33 ≤ c.top-c.result + c.args.shift)
many c =
    enough_digits c.args.digits.now c.top-c.result c.args.shift c.requires.0 c.top-c.ensures (omega arith)
    c.requires.4

pub returns-then-c-eq0 : goal.returns-then-c-eq0
returns-then-c-eq0 c =
    let l = c.args.digits.now in
    none_rounded c.args.n (value l) c.args.shift (top_none l (subst (Top l) c.if-c-eq0.true c.top-c.ensures))

pub overflow_sub-from : goal.overflow_sub-from
overflow_sub-from c = omega (arith, (many (goal.at.overflow_sub-from c).Else-c-eq0).0)

pub number-d-requires : goal.number-d-requires
number-d-requires c =
    few c.args.digits.now c.args.n c.top-c.result (c.top-c.result - c.args.n) c.requires.0 c.requires.2 refl
    (omega (arith, (many (goal.at.number-d-requires c).Else-c-eq0).0))

pub overflow_sub-last : goal.overflow_sub-last
overflow_sub-last c = omega (arith, (many (goal.at.overflow_sub-last c).Else-c-eq0).0)

pub slice_bounds-top-end : goal.slice_bounds-top-end
slice_bounds-top-end c =
    sym (length-take-le (c.top-c.result - c.args.n - 1) c.args.digits.now (let w = c.top-c.ensures.within in omega (arith, w)))

pub to_nearest-up-requires : goal.to_nearest-up-requires
to_nearest-up-requires c =
    let l = c.args.digits.now in
    let from = c.top-c.result - c.args.n in
    let f = few l c.args.n c.top-c.result from c.requires.0 c.requires.2 refl
    (omega (arith, (many (goal.at.to_nearest-up-requires c).Else-c-eq0).0)) in
    subst (λ (x : ℕ). x < 10 ^ 16) (sym c.number-d.ensures) (below_16 (take (c.top-c.result - from) (drop from l)) f.0 f.1)

pub overflow_sub-from-2 : goal.overflow_sub-from-2
overflow_sub-from-2 c =
    let e = many (goal.at.overflow_sub-from-2 c).Else-c-eq0 in
    omega (arith, e.0, e.1)

pub returns : goal.returns
returns c =
    let l = c.args.digits.now in
    let law = rounds_to l c.args.n c.args.shift c.top-c.result c.top-more.result c.requires.0 c.requires.1 c.requires.2 c.requires.3
    c.top-c.ensures (omega arith) c.requires.4 c.top-more.ensures in
    let n = c.args.n in
    let from = c.top-c.result - n in
    let place = from + c.args.shift - 16 in
    let up = c.to_nearest-up.ensures
    ∙ ap (λ (x : ℕ). nearest_digit x (get_or l (from - 1) 0) (ltb 0 c.top-more.result)) c.number-d.ensures in
    record {
      digits = λ u e. c.carried.ensures.0 ∙ ap (λ (x : ℕ). cond (eqb x (10 ^ n)) (10 ^ (n - 1)) x) up ∙ law.digits u e;
      place = λ u e. c.carried.ensures.1 ∙ ap (λ (x : ℕ). cond (eqb x (10 ^ n)) (place + 1) place) up ∙ law.place u e;
    }
