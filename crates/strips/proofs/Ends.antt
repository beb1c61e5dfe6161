-- The ends of every strip are in order and bounded, where the break heights are bounded and rise and the scale is above 0. Assumes nothing.
use Rattle.std.proofs.Common.{◌≡◌, ℕ, ◌+◌, ◌≤◌, Bool, true, false, cond, ◌&&◌, ◌||◌, T, List, [], ◌∷◌, sym}
use lib.Ieee.{Float, binary64, lt, eq, le}
use lib.Ieee.Fits.{div-fits}
use lib.Ieee.Positive.{positive}
use Rattle.floats.specs.Operations.{◌⊘◌}
use Rattle.floats.proofs.Bools.{no}
use Rattle.rounding.specs.Sizes.{Below, Above, InOrder}
use Rattle.rounding.proofs.Sizes.{div_below}
use Rattle.rounding.proofs.Monotone.{div_mono}
use Rattle.sorting.specs.Sorted.{below_all, Rising, Each as EachHeight}
use Rattle.halving.specs.Halving.{halving}
use Rattle.strips.specs.Strips.{Worked, is_accepted, strip_of, worked_of}
use Rattle.strips.specs.Claim.{Each}

next_le : (x y : Float) (l : List Float) → Rising (x ∷ y ∷ l) → T (le x y)
unfolding Rising below_all le
next_le x y l r = go (lt x y) (below_all y l) r.0
  where
    go : (p q : Bool) → (p && below_all x l) ≡ true → T (p || eq x y)
    go true q e = tt
    go false q e = no (sym e)

rest : (x : Float) (l : List Float) → Rising (x ∷ l) → Rising l
unfolding Rising
rest x l r = r.1

module _ (w : ℕ) (f : Float → List Float) (limit : ℕ) (scale : Float) (p s : ℕ) (room : p + s ≤ 1023) (a : Above s scale)
    (c : T (positive scale)) where
  strip_ends : (h k : Float) → Below p h → Below p k → T (le h k) → InOrder (p + s) (h ⊘ scale) (k ⊘ scale)
  strip_ends h k x y l =
      record {
        lower_f64 = div-fits binary64 h scale;
        upper_f64 = div-fits binary64 k scale;
        lower_below = div_below h scale p s room x a;
        upper_below = div_below k scale p s room y a;
        ordered = div_mono binary64 h k scale x.finite y.finite c l;
      }

  -- what holds of a strip whose ends are so holds of every strip worked
  pub each_in_order : (P : Worked → Type 0) → ((lower upper : Float) → InOrder (p + s) lower upper → P (strip_of w f limit lower upper))
      → (heights : List Float)
      → EachHeight (Below p) heights → Rising heights → Each P (worked_of w f limit scale heights)
  unfolding worked_of
  each_in_order P holds [] b r = tt
  each_in_order P holds (h ∷ []) b r = tt
  each_in_order P holds (h ∷ k ∷ heights) b r = (
    holds (h ⊘ scale) (k ⊘ scale) (strip_ends h k b.0 b.1.0 (next_le h k heights r)),
    go (is_accepted (halving w f (h ⊘ scale) (k ⊘ scale) limit).ending)
        (each_in_order P holds (k ∷ heights) b.1 (rest h (k ∷ heights) r)),
  )
    where
      go : (t : Bool) → Each P (worked_of w f limit scale (k ∷ heights)) → Each P (cond t (worked_of w f limit scale (k ∷ heights)) [])
      go true e = e
      go false e = tt

  pub ends_in_order : (heights : List Float) → EachHeight (Below p) heights → Rising heights
      → Each (λ s'. InOrder (p + s) s'.lower s'.upper) (worked_of w f limit scale heights)
  ends_in_order heights b r = each_in_order (λ s'. InOrder (p + s) s'.lower s'.upper) (λ lower upper i. i) heights b r
