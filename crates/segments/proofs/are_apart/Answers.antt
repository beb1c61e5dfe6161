-- `segments::are_apart` meets its contract, which goes by the same tests in their order. Assumes nothing.
use mathlib.Core.Path.{◌≡◌, refl, sym}
use mathlib.Core.Bool.{Bool, true, false, not, ◌&&◌, ◌||◌}
use Rattle.floats.proofs.Bools.{no}
use Rattle.segments.specs.declared.Place.{Place}
use Rattle.segments.specs.declared.Segment.{Segment}
use Rattle.segments.specs.Places.{are_beyond, are_on_one_side, are_past}
use Rattle.segments.proofs.are_apart.Goals as goal

no_side : (p q : Bool) → not p ≡ true → false ≡ (p && q)
no_side true q h = no (sym h)
no_side false q h = refl

in_x : (p q r : Bool) → not p ≡ false → q ≡ true → true ≡ (p && (q || r))
in_x true true r h k = refl
in_x true false r h k = no (sym k)
in_x false q r h k = no h

in_y_lem : (p q r s : Bool) → not p ≡ false → q ≡ false → s ≡ r → s ≡ (p && (q || r))
in_y_lem true true r s h k e = no k
in_y_lem true false r s h k e = e
in_y_lem false q r s h k e = no h

abbrev in_y : Segment → Place → Place → Bool
in_y segment a b = are_beyond segment.from.y segment.to.y a.y b.y

pub returns-then-not-a-b : goal.returns-then-not-a-b
returns-then-not-a-b c =
    let args = c.args in
    no_side (are_on_one_side args.a args.b) (are_past args.a args.b || in_y args.segment args.a args.b) c.if-not-a-b.true-raw

pub returns-then-a-b : goal.returns-then-a-b
returns-then-a-b c =
    let args = c.args in
    in_x (are_on_one_side args.a args.b) (are_past args.a args.b) (in_y args.segment args.a args.b)
    c.if-not-a-b.false-raw c.if-a-b.true

pub returns : goal.returns
returns c =
    let args = c.args in
    in_y_lem (are_on_one_side args.a args.b) (are_past args.a args.b) (in_y args.segment args.a args.b) c.are_beyond.result
    c.if-not-a-b.false-raw c.if-a-b.false c.are_beyond.ensures
