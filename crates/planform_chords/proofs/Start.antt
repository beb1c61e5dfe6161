-- A list's start written over another, number by number. Assumes nothing.
use mathlib.Core.Path.{◌≡◌, refl, ap, ◌∙◌}
use mathlib.Core.List.{List, [], ◌∷◌, ◌++◌}
use Prim.Native.Nat.{ℕ, ◌+◌, ◌<◌}
use native.Mathlib.Numerals.{add-one}
use native.Mathlib.Omega.{arith}
use lib.ListN.{length, take, set, length-set}
use lib.Seq.{take-suc, length-take-le}
use lib.Ieee.{Float, nan}
use Rattle.floats.specs.Operations.{at}
use Rattle.sorting.specs.Sorted.{Written}
use Rattle.sorting.proofs.Over.{written_nothing, written_put}

-- the list s is t after i of the first n numbers of xs
pub record Started (xs s t : List Float) (i : ℕ) : Type 0 where
  pub same : length t ≡ length s
  pub written : Written (take i xs) s t i

pub start : (xs s : List Float) → Started xs s s 0
start xs s = record { same = refl; written = written_nothing s }

pub next : (xs s t : List Float) (i : ℕ) → Started xs s t i → i < length xs → i < length s → Started xs s (set t i (at xs i)) (i + 1)
next xs s t i w h g =
    let e : take (i + 1) xs ≡ take i xs ++ (at xs i ∷ []) = ap (λ (k : ℕ). take k xs) (add-one i) ∙ take-suc xs i nan h in
    let short : length (take i xs) < length s = rw (length-take-le i xs (omega arith)) g in
    record { same = simp length-set w.same; written = rw e (written_put (at xs i) w.written short) }
