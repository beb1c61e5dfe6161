-- How many of some heights lie below one of them: where they rise, as many as stand before it. Assumes
-- nothing.
use mathlib.Core.Path.{◌≡◌, refl, sym, ap, ap₂, ◌∙◌}
use mathlib.Core.Bool.{Bool, true, false, cond}
use mathlib.Core.List.{List, [], ◌∷◌}
use Prim.Native.Nat.{ℕ, zero, suc, ◌+◌, ◌-◌, ◌≤◌, ◌<◌}
use native.Mathlib.Omega.{arith}
use Rattle.std.specs.Prelude.{count_by}
use Rattle.std.proofs.lemmas.List.Sums.{sum_by-cons}
use lib.ListN.{length, take}
use lib.Ieee.{Float, lt, eq}
use Rattle.floats.specs.Operations.{at}
use Rattle.floats.proofs.Bools.{no}
use Rattle.floats.proofs.Order.{lt_asym, not_below_itself}
use Rattle.sorting.specs.Sorted.{below_all, sorted, Rising}
use Rattle.sorting.proofs.Sorted.{sorted_length}
use Rattle.planforms.specs.declared.Planform.{Planform}
use Rattle.breaks.specs.declared.BreakHeights.{BreakHeights}
use Rattle.breaks.specs.Breaks.{once, all_heights, break_heights, listed}
use Rattle.breaks.proofs.Listed.{most_breaks, heights_taken, heights_count, heights_room}
use Rattle.jobs.specs.declared.Job.{Job}
use Rattle.jobs.specs.declared.JobProgress.{JobProgress}
use Rattle.jobs.specs.Jobs.{held_of, count_below, progress_of}

-- none of those above x is below it
none_below : (x : Float) (l : List Float) → below_all x l ≡ true → count_below x l ≡ 0
unfolding below_all count_below
none_below x [] h = refl
none_below x (y ∷ l) h = go (lt x y) refl (none_below x l)
  where
    go : (b : Bool) → lt x y ≡ b → (below_all x l ≡ true → count_below x l ≡ 0) → count_below x (y ∷ l) ≡ 0
    go true t f = rw (lt_asym x y t) (f (rw t at h))
    go false t f = no (sym h ∙ rw t)

-- x is below each of those above it
below_each : (x : Float) (l : List Float) (k : ℕ) → below_all x l ≡ true → k < length l → lt x (at l k) ≡ true
unfolding below_all
below_each x [] k h b = absurd (omega (arith, b))
below_each x (y ∷ l) k h b = go (lt x y) refl k b (below_each x l)
  where
    go : (t : Bool) → lt x y ≡ t → (k : ℕ) → k < length (y ∷ l) → ((k : ℕ) → below_all x l ≡ true → k < length l → lt x (at l k) ≡ true)
        → lt x (at (y ∷ l) k) ≡ true
    go true t zero b f = t
    go true t (suc k) b f = f k (rw t at h) (omega (arith, b))
    go false t k b f = no (sym h ∙ rw t)

pub below_rising : (l : List Float) → Rising l → (k : ℕ) → k < length l → count_below (at l k) l ≡ k
unfolding Rising count_below
below_rising [] r k b = absurd (omega (arith, b))
below_rising (x ∷ l) r zero b = rw (not_below_itself x) (none_below x l r.0)
below_rising (x ∷ l) r (suc k) b = rw (below_each x l k r.0 (omega (arith, b))) (ap suc (below_rising l r.1 k (omega (arith, b))))

-- ---- those that pass the test, counted
pub counted : (h : Float) (heights : List Float) → count_by (λ x. lt x h) heights ≡ count_below h heights
unfolding count_below
counted h [] = refl
counted h (x ∷ l) = sum_by-cons (λ y. cond (lt y h) 1 0) x l ∙ go (lt x h) (counted h l)
  where
    go : (b : Bool) → count_by (λ x. lt x h) l ≡ count_below h l
        → cond b 1 0 + count_by (λ x. lt x h) l ≡ cond b (suc (count_below h l)) (count_below h l)
    go true e = omega (arith, e)
    go false e = omega (arith, e)

-- ---- how far a job is, by what the code reads of it
once_some : (l : List Float) → 1 ≤ length l → 1 ≤ length (once l)
unfolding once
once_some [] h = h
once_some (a ∷ []) h = h
once_some (a ∷ b ∷ l) h = go (eq a b) (once_some (b ∷ l) (omega arith))
  where
    go : (e : Bool) → 1 ≤ length (once (b ∷ l)) → 1 ≤ length (cond e (once (b ∷ l)) (a ∷ once (b ∷ l)))
    go true h = h
    go false h = omega arith

module _ (planform : Planform) (points : List Float) (b : BreakHeights) (e : b ≡ listed (break_heights planform points)) where
  pub some_break : 1 ≤ b.count
  unfolding break_heights
  some_break =
      omega (
        arith,
        heights_count planform points b e,
        once_some (sorted (all_heights planform points))
            (omega (arith, sorted_length (all_heights planform points))),
      )

  pub few_breaks : (b.count ≤ length b.heights) × (b.count ≤ 66)
  few_breaks =
      let n = heights_count planform points b e in
      let m = most_breaks planform points in
      (omega (arith, n, m, heights_room planform points b e), omega (arith, n, m))

module _ (job : Job) (n : ℕ) (held : n ≡ held_of job.points.count) (h : Float) (b : BreakHeights) (worked : ℕ) where
  abbrev Outline' : ℕ → List Float
  Outline' k = take k job.points.numbers

  abbrev Progress' : Float → List Float → JobProgress
  Progress' height breaks = record
      { worked = count_below height breaks; strips = length breaks - 1; intervals = job.totals.intervals; samples = job.totals.samples }

  pub progress_read_lem : h ≡ at (all_heights job.set.planform (Outline' n)) job.next
      → b ≡ listed (break_heights job.set.planform (Outline' n))
      → worked ≡ count_below h (take b.count b.heights)
      → ◌≡◌ {A = JobProgress}
      (record { worked = worked; strips = b.count - 1; intervals = job.totals.intervals; samples = job.totals.samples })
      (progress_of job)
  unfolding progress_of
  progress_read_lem height breaks counted =
      ap₂ (λ (w s : ℕ). record { worked = w; strips = s - 1; intervals = job.totals.intervals; samples = job.totals.samples })
      (counted ∙ ap (count_below h) (heights_taken _ _ b breaks)) (heights_count _ _ b breaks)
      ∙ ap (λ (x : Float). Progress' x (break_heights job.set.planform (Outline' n))) height
      ∙ ap (λ (k : ℕ). Progress' (at (all_heights job.set.planform (Outline' k)) job.next)
      (break_heights job.set.planform (Outline' k))) held
