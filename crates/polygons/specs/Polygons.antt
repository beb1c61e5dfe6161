-- Where a point lies beside a closed polygon, and the nearest corner, over whole numbers (document 02, "Where may I
-- drill?"). Corners are taken as the point sees them: how far to the right, and how far up.
use Rattle.std.specs.Prelude.{Bool, false, cond, ◌&&◌, ◌||◌, List, ℕ, zero, suc, ◌+◌, ◌-◌, ◌*◌, ◌/◌, ◌%◌, eqb, ℤ, pos, ◌+ℤ◌, ◌-ℤ◌, ◌*ℤ◌, length, get_or}
use Rattle.std.specs.Int.Signed.{le_z, lt_z}
use Rattle.segments.specs.Segments.{next}
use Rattle.polygons.specs.declared.Offset.{Offset}

-- ---- one edge, from a to b as the point sees them

abbrev pub is_same : ℤ → ℤ → Bool
is_same a b = le_z a b && le_z b a

-- 0 lies between a and b, whichever is larger, or is one of them
abbrev pub is_zero_between : ℤ → ℤ → Bool
is_zero_between a b = le_z a (pos 0) && le_z (pos 0) b || le_z b (pos 0) && le_z (pos 0) a

-- the point lies on the edge, its ends included: it is in line with them, and between them
unfoldable pub lies_on : Offset → Offset → Bool
lies_on a b =
    is_same (a.across *ℤ b.up) (b.across *ℤ a.up) && is_zero_between a.across b.across
    && is_zero_between a.up b.up

-- "an edge counting from its lower end's height up to, but not at, its upper end's": by how far up the two ends are. A
-- level edge never counts.
abbrev pub is_crossed : ℤ → ℤ → Bool
is_crossed lower upper = le_z lower (pos 0) && lt_z (pos 0) upper

-- "cut to the right": at the point's height the edge lies (lower.across · upper.up − upper.across · lower.up) /
-- (upper.up − lower.up) to its right, which has to be above 0. The divisor is above 0 already.
unfoldable pub is_cut_rising : Offset → Offset → Bool
is_cut_rising lower upper =
    is_crossed lower.up upper.up && lt_z (upper.across *ℤ lower.up) (lower.across *ℤ upper.up)

-- an edge is cut to the right, whichever of its ends is the lower one
unfoldable pub is_cut : Offset → Offset → Bool
unfolding is_cut_rising
is_cut a b = is_cut_rising a b || is_cut_rising b a

unfoldable pub squared_distance : Offset → ℤ
squared_distance a = a.across *ℤ a.across +ℤ a.up *ℤ a.up

unfoldable pub is_nearer : Offset → Offset → Bool
is_nearer a b = lt_z (squared_distance a) (squared_distance b)

-- ---- the corners, from a flat list of an x and a height for each; positions count from 0

abbrev pub corner_count : List ℤ → ℕ
corner_count corners = length corners / 2

-- corner i as the point (x, height) sees it
unfoldable pub offset_of : List ℤ → ℤ → ℤ → ℕ → Offset
offset_of corners x height i =
    record { across = get_or corners (2 * i) (pos 0) -ℤ x; up = get_or corners (2 * i + 1) (pos 0) -ℤ height }

-- "an edge joins each to the next, the last to the first": the point lies on edge i; edge i is cut to its right
unfoldable pub is_on : List ℤ → ℤ → ℤ → ℕ → Bool
is_on corners x height i =
    lies_on (offset_of corners x height i) (offset_of corners x height (next (corner_count corners) i))

unfoldable pub cuts : List ℤ → ℤ → ℤ → ℕ → Bool
cuts corners x height i =
    is_cut (offset_of corners x height i) (offset_of corners x height (next (corner_count corners) i))

-- whether p holds at some place below n, and at how many places below n it holds
unfoldable pub some : ℕ → (ℕ → Bool) → Bool
some zero p = false
some (suc n) p = some n p || p n

unfoldable pub count : ℕ → (ℕ → Bool) → ℕ
count zero p = 0
count (suc n) p = count n p + cond (p n) 1 0

-- the point lies on some edge
unfoldable pub is_on_edge : List ℤ → ℤ → ℤ → Bool
is_on_edge corners x height = some (corner_count corners) (is_on corners x height)

-- "inside means an odd number of edges cut to the right"
unfoldable pub is_inside : List ℤ → ℤ → ℤ → Bool
is_inside corners x height = eqb (count (corner_count corners) (cuts corners x height) % 2) 1

-- the nearer one of the corners `best` and i, and `best` where they are equally far
unfoldable pub nearer_of : List ℤ → ℤ → ℤ → ℕ → ℕ → ℕ
nearer_of corners x height best i =
    cond (is_nearer (offset_of corners x height i) (offset_of corners x height best)) i best

-- of the corners 0 to n the nearest one, "lowest position on equal distance"
unfoldable pub nearest_to : List ℤ → ℤ → ℤ → ℕ → ℕ
nearest_to corners x height zero = 0
nearest_to corners x height (suc n) = nearer_of corners x height (nearest_to corners x height n) (suc n)

unfoldable pub nearest_corner : List ℤ → ℤ → ℤ → ℕ
nearest_corner corners x height = nearest_to corners x height (corner_count corners - 1)
