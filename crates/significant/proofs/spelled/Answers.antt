-- `significant::spelled` meets its contract: 10 ^ 16 * m is laid out, multiplied, and rounded. Assumes nothing.
use mathlib.Core.Path.{◌≡◌, ap, ◌∙◌}
use Prim.Native.Nat.{ℕ, ◌*◌, ◌^◌}
use native.Mathlib.Omega.{arith}
use Rattle.significant.specs.Digits.{value}
use Rattle.significant.proofs.Exact.{Laid, laid, room, units, enough}
use Rattle.significant.proofs.spelled.Goals as goal
use Rattle.significant.proofs.spelled.Goals.{After-times_plus-2}

-- laid out by two multiplications
out : (c : After-times_plus-2) → Laid c.times_plus-2.new.digits c.args.m
    c.args.k
out c =
    laid c.args.digits.now c.times_plus.new.digits c.times_plus-2.new.digits c.args.m c.args.k c.requires.m_bound.0 c.requires.digits_len.0
    c.times_plus.ensures c.times_plus-2.ensures

pub times_power-requires : goal.times_power-requires
times_power-requires c =
    let o = out (goal.at.times_power-requires c).After-times_plus-2 in (
      c.requires.m_bound.2,
      c.requires.m_bound.1,
      o.each,
      room c.times_plus-2.new.digits c.args.m c.args.base c.args.k c.requires.m_bound.0
          c.requires.m_bound.2 o,
    )

pub rounded-requires : goal.rounded-requires
rounded-requires c =
    let e = c.times_power.ensures in
    let o = out (goal.at.rounded-requires c).After-times_plus-2 in
    let v : value c.times_power.new.digits ≡ 10 ^ 16 * c.args.m * c.args.base ^ c.args.k = e.is
    ∙ ap (λ (x : ℕ). x * c.args.base ^ c.args.k) o.is in
    let n = e.same in
    let k = o.same in (
      e.digits,
      c.requires.m_bound.3,
      c.requires.m_bound.4,
      omega (arith, n, k, c.requires.digits_len.1),
      enough (value c.times_power.new.digits) c.args.m
          c.args.base c.args.k c.args.shift v c.requires.m_bound.1 c.requires.digits_len.2,
    )

pub returns : goal.returns
returns c =
    let v : value c.times_power.new.digits ≡ 10 ^ 16 * c.args.m * c.args.base ^ c.args.k = c.times_power.ensures.is
    ∙ ap (λ (x : ℕ). x * c.args.base ^ c.args.k) (out (goal.at.returns c).After-times_plus-2).is in
    let e = units (value c.times_power.new.digits) c.args.m c.args.base c.args.k c.args.shift v in
    (c.rounded.ensures.digits _ e, c.rounded.ensures.place _ e)
