-- `trig::sin_cos` meets its contract: it calls what the definition names. Assumes nothing.
use mathlib.Core.Path.{◌≡◌, ap}
use Prim.Native.Nat.{ℕ, ◌<◌}
use native.Mathlib.Omega.{arith}
use lib.Ieee.{Float, nan, inf, fin}
use Rattle.floats.specs.Operations.{◌⊗◌, whole}
use Rattle.trig.specs.declared.SinCos.{SinCos}
use Rattle.trig.specs.Trig.{quarter_turns, m_of, whole_of, quarter_of, reduced, steps, sine_divisors, cosine_divisors, by_quarter, sin_cos_of}
use Rattle.trig.proofs.Modulo.{below_four}
use Rattle.trig.proofs.sin_cos.Goals as goal

quarter_below_four : (q : Float) → quarter_of q < 4
unfolding quarter_of
quarter_below_four nan = omega arith
quarter_below_four (inf s) = omega arith
quarter_below_four (fin s k e) = below_four (whole_of s k e)

together : (f m p c : Float) (k : ℕ) (t : SinCos) → m ≡ m_of (quarter_turns f) → k ≡ quarter_of (quarter_turns f)
    → p ≡ steps (reduced f m ⊗ reduced f m) sine_divisors (whole 1) → c ≡ steps (reduced f m ⊗ reduced f m) cosine_divisors (whole 1)
    → t ≡ by_quarter k (reduced f m ⊗ p) c → t ≡ sin_cos_of f
unfolding sin_cos_of
together f m p c k t em ek ep ec et = rw (et, ep, ec, em, ek)

pub by_quarter-requires : goal.by_quarter-requires
by_quarter-requires c = rw c.nearest_whole-whole.ensures.1 (quarter_below_four _)

both : (c : goal.After-by_quarter) → c.by_quarter.result ≡ sin_cos_of c.args.f
both c =
    let w = c.before.before in
    let s = c.series in
    together c.args.f c.nearest_whole-whole.result.m _ _ c.nearest_whole-whole.result.quarter c.by_quarter.result
    c.nearest_whole-whole.ensures.0 c.nearest_whole-whole.ensures.1 s.ensures.0 s.ensures.1 c.by_quarter.ensures

pub returns : goal.returns
returns c = (ap (λ (t : SinCos). t.sin) (both c), ap (λ (t : SinCos). t.cos) (both c))
