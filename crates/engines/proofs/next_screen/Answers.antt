-- `engines::next_screen` meets its contract: the search from here on gives what the whole search gives. Assumes nothing.
use mathlib.Core.Path.{◌≡◌, sym, ap, ◌∙◌}
use Prim.Native.Nat.{◌+◌, ◌-◌, ◌<◌, ◌≤◌}
use native.Mathlib.Omega.{arith}
use Rattle.engines.specs.Engines.{first_held, screen_after, next_screen}
use Rattle.engines.proofs.Laws.{found, passed, none}
use Rattle.engines.proofs.next_screen.Goals as goal

pub returns-then-holds_job : goal.returns-then-holds_job
unfolding next_screen
returns-then-holds_job c =
    let left : 0 < 8 - c.loop.counter = omega arith in
    sym (found _ _ _ left (sym c.holds_job.ensures ∙ c.if-holds_job.true)) ∙ c.loop.invariant

pub loop-preserved : goal.loop-preserved
loop-preserved c =
    let left : 0 < 8 - c.loop.counter = omega arith in
    let fewer : 8 - (c.loop.counter + 1) ≡ 8 - c.loop.counter - 1 = omega arith in
    ap (first_held c.args.screens (screen_after c.loop.screen)) fewer
    ∙ sym (passed _ _ _ left (sym c.holds_job.ensures ∙ c.if-holds_job.false))
    ∙ c.loop.invariant

pub returns : goal.returns
unfolding next_screen
returns c =
    let over : 8 - c.loop.counter ≤ 0 = omega arith in
    sym (none _ _ _ over) ∙ c.loop.invariant
