-- How near the area of an outline is to the exact one: strip by strip, between the heights of its corners, for outlines
-- whose strips are each crossed by two edges that keep their order. An outline that rises to one tip and falls again
-- has only such strips, as long as no two of its edges cross; the checks ask the latter too, in f64s.
use Rattle.std.specs.Prelude.{◌≡◌, cond, List, [], ◌∷◌, ◌⊎◌, ℕ, zero, suc, ◌+◌, ◌*◌, ◌^◌, ◌<◌, T, pos, negsuc, neg_ℤ, length, Float, Ok}
use Rattle.std.specs.Float.{binary64}
use Rattle.std.specs.Float.Ieee.{fits}
use Rattle.floats.specs.Fractions.{Fraction, ◌over◌, ◌plus◌, minus, ◌times◌, value_of}
use Rattle.floats.specs.Operations.{at}
use Rattle.rounding.specs.Sizes.{AtMost}
use Rattle.rounding_error.specs.Distances.{◌at_most◌, Within}
use Rattle.segments.specs.Segments.{next}
use Rattle.planforms.specs.declared.Planform.TheVariants.{Outline}
use Rattle.planforms.specs.Planforms.{x_at, height_at, pair_count, span_of}
use Rattle.breaks.specs.Breaks.{break_heights}
use Rattle.chords.specs.Chords.{edge_crossed}
use Rattle.figures.specs.Answers.{AreaAnswers}
use Rattle.figures.specs.declared.Area.{Area}

infixl 65 ◌less◌
abbrev pub ◌less◌ : Fraction → Fraction → Fraction
x less y = x plus minus y

-- 1 over a number that is not 0
abbrev pub inverse : Fraction → Fraction
inverse (pos a over b) = pos b over a
inverse (negsuc a over b) = neg_ℤ (pos b) over suc a

-- ---- an edge's x at a height, exactly: x_p + (y − y_p)·(x_q − x_p)/(y_q − y_p)
abbrev pub on_line : Float → Float → Float → Float → Fraction → Fraction
on_line xp yp xq yq y =
    value_of xp
    plus (y less value_of yp) times (value_of xq less value_of xp) times inverse (value_of yq less value_of yp)

-- the exact x at a height on edge i, from point i to the next
abbrev pub edge_at : List Float → ℕ → Fraction → Fraction
edge_at points i y =
    let j = next (pair_count points) i in
    on_line (x_at points i) (height_at points i) (x_at points j) (height_at points j) y

-- of the first k of n edges those that are crossed at a height, the last one first
unfoldable pub crossed_edges : List Float → ℕ → Float → ℕ → List ℕ
crossed_edges points n h zero = []
crossed_edges points n h (suc i) =
    cond (edge_crossed points h i (next n i)) (i ∷ crossed_edges points n h i) (crossed_edges points n h i)

abbrev pub edges_crossed : List Float → Float → List ℕ
edges_crossed points h = crossed_edges points (pair_count points) h (pair_count points)

-- ---- a strip between two break heights, h and k, that is at least 1/4096 of the span high and that two edges cross:
-- no corner lies inside it, so that both go from its lower end to its upper, and the same one is to the left at both
-- ends
pub record InOrder (points : List Float) (h k : Float) : Type 0 where
  pub left : ℕ
  pub right : ℕ
  pub two_edges : (edges_crossed points h ≡ right ∷ left ∷ []) ⊎ (edges_crossed points h ≡ left ∷ right ∷ [])
  pub at_lower_end : edge_at points left (value_of h) at_most edge_at points right (value_of h)
  pub at_upper_end : edge_at points left (value_of k) at_most edge_at points right (value_of k)
  pub high_enough : (pos 1 over 4096) times value_of (span_of Outline points) at_most value_of k less value_of h

abbrev pub AllInOrder : List Float → List Float → Type 0
AllInOrder points [] = Unit {0}
AllInOrder points (h ∷ []) = Unit {0}
AllInOrder points (h ∷ k ∷ heights) = InOrder points h k × AllInOrder points (k ∷ heights)

-- the area of such a strip is a trapezoid's: its height times its width in the middle
abbrev pub middle : Float → Float → Fraction
middle h k = (pos 1 over 2) times (value_of h plus value_of k)

abbrev pub strip_area : (points : List Float) (h k : Float) → InOrder points h k → Fraction
strip_area points h k o =
    (value_of k less value_of h) times (edge_at points o.right (middle h k) less edge_at points o.left (middle h k))

abbrev pub area_between : (points heights : List Float) → AllInOrder points heights → Fraction
area_between points [] o = pos 0 over 1
area_between points (h ∷ []) o = pos 0 over 1
area_between points (h ∷ k ∷ heights) o = strip_area points h k o.0 plus area_between points (k ∷ heights) o.1

-- ---- the statement
-- what is given: the call for the area (`figures::geometry`) answered r, with figures, for an outline of f64s, and
-- counted one interval for each strip, so that each was one piece
pub record OutlineGiven (points : List Float) (L : ℕ) (entry : List Float) (r : Area) (exit : List Float) : Type 0 where
  pub f64s : (i : ℕ) → T (fits binary64 (at points i))
  pub answers : AreaAnswers Outline points L entry r exit
  pub given : r.verdict ≡ Ok tt
  pub one_piece_each : r.intervals + 1 ≡ length (break_heights Outline points)

-- no point's |x| is over b / d
pub record Reach (b d : ℕ) (points : List Float) : Type 0 where
  pub is_size : 0 < d
  pub each_x : (i : ℕ) → i < pair_count points → AtMost b d (x_at points i)

-- the statement: the area of n strips, at most 62, is within n·(n + 196)·2^-53·B·span of the exact one, where B = b / d
abbrev pub OutlineArea : Type 0
OutlineArea =
    (points : List Float) (L : ℕ) (entry : List Float) (r : Area) (exit : List Float) (b d : ℕ)
    → OutlineGiven points L entry r exit
    → Reach b d points
    → (o : AllInOrder points (break_heights Outline points))
    → Within ((pos (b * (r.intervals * (r.intervals + 196))) over (d * 2 ^ 53)) times value_of (span_of Outline points))
    (value_of r.area_m2) (area_between points (break_heights Outline points) o)
