-- A copy of as many numbers as an outline may have, over zeros. Assumes nothing.
use mathlib.Core.Path.{◌≡◌, refl, sym, ap, ap₂, ◌∙◌}
use mathlib.Core.Bool.{Bool, true, false, cond}
use mathlib.Core.List.{List, ◌++◌}
use Prim.Native.Nat.{ℕ, min, ◌≤◌}
use native.Mathlib.Omega.{arith}
use borrow.Author.Tests.{leb-true, leb-false}
use lib.Dec.{leb}
use lib.ListN.{length, take, drop, replicate}
use lib.Seq.{take_all, length-take-le}
use lib.Ieee.{Float}
use Rattle.floats.specs.Operations.{bits}
use Rattle.limits.specs.Limits.{outline_numbers}
use Rattle.jobs.specs.declared.Points.{Points}
use Rattle.jobs.specs.Jobs.{held_of, points_of}

abbrev pub Zeros : List Float
Zeros = replicate outline_numbers (bits 0)

pub held_most : (count : ℕ) → (held_of count ≤ count) × (held_of count ≤ outline_numbers)
held_most count = go (leb count outline_numbers) refl
  where
    go : (b : Bool) → leb count outline_numbers ≡ b
        → (cond b count outline_numbers ≤ count) × (cond b count outline_numbers ≤ outline_numbers)
    go true e = let h = leb-true count outline_numbers e in (omega arith, h)
    go false e = let h = leb-false count outline_numbers e in (omega (arith, h), omega arith)

-- the lesser of both
pub least_held : (count : ℕ) → min count outline_numbers ≡ held_of count
least_held count = go (leb count outline_numbers) refl
  where
    go : (b : Bool) → leb count outline_numbers ≡ b → min count outline_numbers ≡ cond b count outline_numbers
    go true e = let h = leb-true count outline_numbers e in omega (arith, h)
    go false e = let h = leb-false count outline_numbers e in omega (arith, h)

held_take : (points : List Float) → take (held_of (length points)) points ≡ take outline_numbers points
held_take points = go (leb (length points) outline_numbers) refl
  where
    go : (b : Bool) → leb (length points) outline_numbers ≡ b
        → take (cond b (length points) outline_numbers) points ≡ take outline_numbers points
    go true e = take_all (length points) points (omega arith)
        ∙ sym (take_all outline_numbers points (leb-true (length points) outline_numbers e))
    go false e = refl

-- the numbers copied over the start of zeros
pub copied_points : (points new : List Float) (n : ℕ) → n ≡ held_of (length points) → new ≡ take n points
    → ◌≡◌ {A = Points} (record { numbers = new ++ drop n Zeros; count = n }) (points_of points)
copied_points points new n n-is new-is =
    let all : take n points ≡ take outline_numbers points = ap (λ (k : ℕ). take k points) n-is ∙ held_take points in
    let count : n ≡ length (take outline_numbers points) = sym (length-take-le n points (omega (arith, n-is, held_most (length points))))
    ∙ ap length all in
    ap₂ (λ (l : List Float) (k : ℕ). record { numbers = l ++ drop k Zeros; count = k }) (new-is ∙ all) count
