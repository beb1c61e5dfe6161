-- `screen_exports::delvouzh_engine_turn` meets its contract: there is no room, or the engine answers. Assumes nothing.
use mathlib.Core.Path.{ap, ◌∙◌}
use Prim.Native.Nat.{ℕ, ◌≤◌}
use native.Mathlib.Omega.{arith}
use lib.ListN.{length, set}
use Rattle.bodies.specs.Layout.{body_numbers}
use Rattle.engines.specs.Engines.{served_screen}
use Rattle.lent_engines.specs.Memory.{engine_numbers_length, engine_counts_length}
use Rattle.lent_engines.proofs.Calls.{turn_told_lem}
use Rattle.screen_exports.specs.EngineCalls.{engine_memory}
use Rattle.screen_exports.proofs.Laws.{enough, fits_not, fits, memory_fits, told_fits, engine_stays, row_refused, row_told}
use borrow.Author.Rules.{rules}
use Rattle.screen_exports.proofs.delvouzh_engine_turn.Goals as goal

pub returns-then-not-fits : goal.returns-then-not-fits
returns-then-not-fits c =
    row_refused engine_memory engine_stays _
    (fits_not c.engine_fits.ensures c.has_room.ensures c.if-not-fits.true-raw)

pub turn-turn-requires : goal.turn-turn-requires
turn-turn-requires c =
    enough (memory_fits c.engine_fits.ensures c.has_room.ensures c.if-not-fits.false-raw)

pub turn_row-row-requires : goal.turn_row-row-requires
turn_row-row-requires c =
    let a = c.args in
    let h : (engine_numbers_length ≤ length a.engine_numbers.now) × (engine_counts_length ≤ length a.engine_counts.now) =
    enough (memory_fits c.engine_fits.ensures c.has_room.ensures c.if-not-fits.false-raw) in
    search (rules, h.0, h.1)

pub tell_row-number-requires : goal.tell_row-number-requires
tell_row-number-requires c =
    let a = c.args in
    let h : (body_numbers ≤ length a.body.now) × (5 ≤ length a.counts.now) =
    enough (told_fits c.engine_fits.ensures c.has_room.ensures c.if-not-fits.false-raw) in
    (h.0, omega (arith, h.1))

pub bounds-counts-4 : goal.bounds-counts-4
bounds-counts-4 c =
    let a = c.args in
    let h : (body_numbers ≤ length a.body.now) × (5 ≤ length a.counts.now) =
    enough (told_fits c.engine_fits.ensures c.has_room.ensures c.if-not-fits.false-raw) in
    search (rules, h.1)

pub returns : goal.returns
returns c =
    row_told engine_memory engine_stays _
    (fits c.engine_fits.ensures c.has_room.ensures c.if-not-fits.false-raw)
    (c.turn_row-row.ensures ∙ turn_told_lem _ _ _ c.turn-turn.result _ _ _ c.turn-turn.ensures) c.tell_row-number.ensures
    (ap (λ (n : ℕ). set c.tell_row-number.new.counts 4 n) (c.served_screen.ensures ∙ ap served_screen c.turn-turn.ensures.answered))
    c.turn-turn.ensures.lent c.turn-turn.ensures.leaves
