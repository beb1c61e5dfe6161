-- `placements::check_places` meets its contract: what is left to check from place k on gives the answer. Assumes nothing.
use Rattle.std.proofs.Common.{◌≡◌, Err, rules}
use mathlib.Core.Path.{sym, ap, ◌∙◌}
use native.Mathlib.Omega.{arith}
use Rattle.refusals.proofs.Order.{goes_on, stops, ends}
use Rattle.placements.specs.Places.{place_check, places_check}
use Rattle.placements.proofs.check_places.Goals as goal

pub loop-k-init : goal.loop-k-init
unfolding places_check
loop-k-init c = rw c.count_places-n.ensures

pub returns-in_err-check : goal.returns-in_err-check
returns-in_err-check c =
    let refused : c.from_residual.result ≡ Err c.in_err-check.field-0.0 = search rules in
    refused ∙ stops _ _ _ _ c.loop-k.invariant _ c.loop-k-test.true
    (sym (c.check.ensures ∙ ap place_check c.place_at-place.ensures) ∙ c.in_err-check.was)

pub loop-k-preserved : goal.loop-k-preserved
loop-k-preserved c =
    goes_on _ _ _ _ c.loop-k.invariant c.loop-k-test.true
    (sym (c.check.ensures ∙ ap place_check c.place_at-place.ensures) ∙ c.in_ok-check.was)

pub returns : goal.returns
returns c = ends _ _ _ _ c.loop-k.invariant (omega arith)
