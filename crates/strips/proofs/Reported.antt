-- A limit and a scratch that are accepted give the strips room. Assumes nothing.
use Rattle.std.proofs.Common.{◌≡◌, ℕ, arith, Ok}
use Rattle.refusals.proofs.Accepted.{both}
use Rattle.limits.proofs.Accepted.{limit_within, scratch_enough}
use Rattle.strips.specs.Strips.{Room, run_check}

pub run_within : (L n : ℕ) → run_check L n ≡ Ok tt → Room L n
run_within L n h =
    let checks = both _ _ h in
    let limit = limit_within L checks.0 in
    (limit.0, limit.1, omega (arith, scratch_enough L n checks.1))
