-- `placements::placed_copies` meets its contract: an only place at HERE gives the body. Assumes nothing.
use mathlib.Core.Path.{refl}
use Rattle.placements.proofs.Placing.{at_here, elsewhere}
use Rattle.placements.proofs.placed_copies.Goals as goal

pub returns-then-count-is_here : goal.returns-then-count-is_here
returns-then-count-is_here c =
    let asked = c.before.before in
    at_here _ _ _ c.count_places-count.ensures c.place_at-first.ensures c.is_here.ensures c.if-count-is_here.true
    refl

pub returns : goal.returns
returns c =
    let asked = c.before.before in
    let pre = c.requires in
    elsewhere _ _ _ c.count_places-count.ensures c.place_at-first.ensures c.is_here.ensures c.if-count-is_here.false
    pre.0 pre.1 c.joined_copies.ensures
