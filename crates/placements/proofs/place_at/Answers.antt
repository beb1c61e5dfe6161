-- `placements::place_at` meets its contract: of whichever kind the list is. Assumes nothing.
use mathlib.Core.Bool.{true, false}
use Rattle.placements.proofs.Counts.{of_kind}
use Rattle.placements.proofs.place_at.Goals as goal

pub rolled_place-requires : goal.rolled_place-requires
rolled_place-requires c =
    of_kind true c.args.places.now c.args.k c.if-rolled.true c.requires

pub returns-then-rolled : goal.returns-then-rolled
returns-then-rolled c = rw c.if-rolled.true c.rolled_place.ensures

pub moved_place-requires : goal.moved_place-requires
moved_place-requires c =
    of_kind false c.args.places.now c.args.k c.if-rolled.false c.requires

pub returns : goal.returns
returns c = rw c.if-rolled.false c.moved_place.ensures
