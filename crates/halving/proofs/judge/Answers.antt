-- `halving::judge` meets its contract, from the sums, bounds and places. Assumes nothing.
use Rattle.halving.proofs.Judging.{judged_within, judged_full, judged_middle, judged_halve}
use Rattle.halving.proofs.judge.Goals as goal

pub returns-then-all_within : goal.returns-then-all_within
returns-then-all_within c =
    judged_within _ _ _ _ _ _ c.requires.0
    c.total-sums.ensures c.bounds-b.ensures c.all_within.ensures c.if-all_within.true

pub returns-then-limit-n : goal.returns-then-limit-n
returns-then-limit-n c =
    judged_full _ _ _ _ _ _ c.requires.0 c.total-sums.ensures
    c.bounds-b.ensures c.all_within.ensures c.if-all_within.false c.if-limit-n.true _ c.component-component.ensures

pub returns-then-middle_is_end : goal.returns-then-middle_is_end
returns-then-middle_is_end c =
    judged_middle _ _ _ _ _ _ c.requires.0
    c.total-sums.ensures c.bounds-b.ensures c.all_within.ensures c.if-all_within.false
    c.if-limit-n.false _ c.worst-place.ensures.1 c.worst-place.ensures.0 _ c.read.ensures _ c.middle_is_end.ensures
    c.if-middle_is_end.true _ c.component-component-then-middle_is_end.ensures

pub returns : goal.returns
returns c =
    judged_halve _ _ _ _ _ _ c.requires.0 c.total-sums.ensures
    c.bounds-b.ensures c.all_within.ensures c.if-all_within.false c.if-limit-n.false _ c.worst-place.ensures.1
    c.worst-place.ensures.0 _ c.read.ensures _ c.middle_is_end.ensures c.if-middle_is_end.false
