-- `tolerance::score` meets its contract, component by component. Assumes nothing.
use Rattle.floats.specs.Operations.{at}
use Rattle.tolerance.proofs.Numbers.{zero_is_number, score_first, score_next}
use Rattle.tolerance.proofs.score.Goals as goal

pub larger-s0-requires : goal.larger-s0-requires
larger-s0-requires c = zero_is_number

pub returns : goal.returns
returns c =
    let p = c.args.p in
    let b = at c.args.b in
    let e1 = score_next 0 b p _ _ (score_first b p) c.larger-s0.ensures.0 in
    let e2 = score_next 1 b p _ _ (e1) c.larger-s1.ensures.0 in
    let e3 = score_next 2 b p _ _ (e2) c.larger-s2.ensures.0 in
    let e4 = score_next 3 b p _ _ (e3) c.larger-s3.ensures.0 in
    let e5 = score_next 4 b p _ _ (e4) c.larger-s4.ensures.0 in
    let e6 = score_next 5 b p _ _ (e5) c.larger-s5.ensures.0 in
    let e7 = score_next 6 b p _ _ (e6) c.larger.ensures.0 in
    e7
