-- Where a point lies beside a segment, and by which two places the segment between them is told apart from it.
use Rattle.std.specs.Prelude.{Bool, ◌&&◌, ◌||◌, Float}
use Rattle.std.specs.Float.Ieee.{lt}
use Rattle.floats.specs.Operations.{bits}
use Rattle.floats.specs.Floats.{min_of, max_of}
use Rattle.segments.specs.declared.Place.{Place}
use Rattle.segments.specs.declared.Point.{Point}
use Rattle.segments.specs.declared.Segment.{Segment}
use Rattle.segments.specs.Segments.{cross_of}

abbrev pub place_of : Segment → Point → Place
place_of segment c = record {
  left = lt (bits 0) (cross_of segment c);
  right = lt (cross_of segment c) (bits 0);
  before = lt c.x (min_of segment.from.x segment.to.x);
  after = lt (max_of segment.from.x segment.to.x) c.x;
  y = c.y;
}

-- a and b are both below p and q, or both above
abbrev pub are_beyond : Float → Float → Float → Float → Bool
are_beyond p q a b = lt a (min_of p q) && lt b (min_of p q) || lt (max_of p q) a && lt (max_of p q) b

-- both places are strictly on the segment's left, or both on its right
abbrev pub are_on_one_side : Place → Place → Bool
are_on_one_side a b = a.left && b.left || a.right && b.right

-- both places are before the segment in x, or both after it
abbrev pub are_past : Place → Place → Bool
are_past a b = a.before && b.before || a.after && b.after

abbrev pub are_apart : Segment → Place → Place → Bool
are_apart segment a b = are_on_one_side a b && (are_past a b || are_beyond segment.from.y segment.to.y a.y b.y)
