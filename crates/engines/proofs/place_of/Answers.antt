-- `engines::place_of` meets its contract: a screen's place, or the first. Assumes nothing.
use mathlib.Core.Path.{sym, ◌∙◌}
use native.Mathlib.Omega.{arith}
use Rattle.engines.proofs.Laws.{screen_within, place_is, place_none}
use Rattle.engines.proofs.place_of.Goals as goal

pub overflow_sub-result : goal.overflow_sub-result
overflow_sub-result c = let is = sym c.is_screen.ensures ∙ c.if-is_screen.true in
    (screen_within _ is).0

pub returns-then-is_screen : goal.returns-then-is_screen
returns-then-is_screen c = let is = sym c.is_screen.ensures ∙ c.if-is_screen.true in
    let within = screen_within c.args.screen is in
    (place_is _ is, omega arith)

pub returns : goal.returns
returns c = (place_none _ (sym c.is_screen.ensures ∙ c.if-is_screen.false), omega arith)
