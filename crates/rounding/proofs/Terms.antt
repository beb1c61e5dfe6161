-- A bound for an expression of f64s from bounds of its operands, by one computed test: `within`. Assumes nothing.
use mathlib.Core.List.{List, [], ◌∷◌}
use mathlib.Core.Bool.{Bool, ◌&&◌}
use Prim.Native.Nat.{ℕ, zero, suc, ◌+◌, ◌<◌, max}
use native.Mathlib.Omega.{arith}
use lib.ListN.{length, get_or}
use lib.Dec.{T, leb, ltb, leb→le, ltb→lt}
use lib.Ieee.{Float}
use lib.Ieee.Fits.{and_l, and_r}
use Rattle.floats.specs.Operations.{◌⊕◌, ◌⊖◌, ◌⊗◌, ◌⊘◌, at}
use Rattle.rounding.specs.Sizes.{Below, Above}
use Rattle.rounding.proofs.Sizes.{add_max, sub_max, mul_below, div_below, weaker}

infixl 65 ◌plus◌
infixl 65 ◌less◌
infixl 70 ◌times◌
infixl 70 ◌over◌
-- `given i`: operand i; `t over i`: t divided by divisor i
pub data Term : Type 0 where
  given : ℕ → Term
  ◌plus◌ ◌less◌ ◌times◌ : Term → Term → Term
  ◌over◌ : Term → ℕ → Term

abbrev pub value : List Float → List Float → Term → Float
value xs ys (given i) = at xs i
value xs ys (s plus t) = value xs ys s ⊕ value xs ys t
value xs ys (s less t) = value xs ys s ⊖ value xs ys t
value xs ys (s times t) = value xs ys s ⊗ value xs ys t
value xs ys (t over i) = value xs ys t ⊘ at ys i

-- 2^bound is the bound, where operand i is at most 2^(ps i) and divisor i at least 2^-(qs i)
abbrev pub bound : List ℕ → List ℕ → Term → ℕ
bound ps qs (given i) = get_or ps i 0
bound ps qs (s plus t) = suc (max (bound ps qs s) (bound ps qs t))
bound ps qs (s less t) = suc (max (bound ps qs s) (bound ps qs t))
bound ps qs (s times t) = bound ps qs s + bound ps qs t
bound ps qs (t over i) = bound ps qs t + get_or qs i 0

-- no bound on the way is over 2^1023
abbrev pub fine : List ℕ → List ℕ → Term → Bool
fine ps qs (given i) = ltb i (length ps)
fine ps qs (s plus t) = fine ps qs s && fine ps qs t && ltb (max (bound ps qs s) (bound ps qs t)) 1023
fine ps qs (s less t) = fine ps qs s && fine ps qs t && ltb (max (bound ps qs s) (bound ps qs t)) 1023
fine ps qs (s times t) = fine ps qs s && fine ps qs t && leb (bound ps qs s + bound ps qs t) 1023
fine ps qs (t over i) = fine ps qs t && ltb i (length qs) && leb (bound ps qs t + get_or qs i 0) 1023

abbrev pub AllBelow : List ℕ → List Float → Type 0
AllBelow [] xs = Unit {0}
AllBelow (p ∷ ps) [] = ⊥
AllBelow (p ∷ ps) (x ∷ xs) = Below p x × AllBelow ps xs

abbrev pub AllAbove : List ℕ → List Float → Type 0
AllAbove [] xs = Unit {0}
AllAbove (p ∷ ps) [] = ⊥
AllAbove (p ∷ ps) (x ∷ xs) = Above p x × AllAbove ps xs

none : (i : ℕ) → i < 0 → ⊥
none i h = omega arith

one_less : (i n : ℕ) → suc i < suc n → i < n
one_less i n h = omega arith

pub below_at : (ps : List ℕ) (xs : List Float) (i : ℕ) → AllBelow ps xs → i < length ps → Below (get_or ps i 0) (at xs i)
below_at [] xs i h l = absurd (none i l)
below_at (p ∷ ps) [] i h l = absurd h
below_at (p ∷ ps) (x ∷ xs) zero h l = h.0
below_at (p ∷ ps) (x ∷ xs) (suc i) h l = below_at ps xs i h.1 (one_less i (length ps) l)

above_at : (ps : List ℕ) (xs : List Float) (i : ℕ) → AllAbove ps xs → i < length ps → Above (get_or ps i 0) (at xs i)
above_at [] xs i h l = absurd (none i l)
above_at (p ∷ ps) [] i h l = absurd h
above_at (p ∷ ps) (x ∷ xs) zero h l = h.0
above_at (p ∷ ps) (x ∷ xs) (suc i) h l = above_at ps xs i h.1 (one_less i (length ps) l)

module _ (ps qs : List ℕ) (xs ys : List Float) (h : AllBelow ps xs) (k : AllAbove qs ys) where
  bounded : (t : Term) → T (fine ps qs t) → Below (bound ps qs t) (value xs ys t)
  bounded (given i) f = below_at ps xs i h (ltb→lt i (length ps) f)
  bounded (s plus t) f =
      let a = bound ps qs s in
      let b = bound ps qs t in
      let g = and_l (fine ps qs s && fine ps qs t) (ltb (max a b) 1023) f in
      add_max (value xs ys s) (value xs ys t) a b (ltb→lt (max a b) 1023 (and_r (fine ps qs s && fine ps qs t) (ltb (max a b) 1023) f))
      (bounded s (and_l (fine ps qs s) (fine ps qs t) g)) (bounded t (and_r (fine ps qs s) (fine ps qs t) g))
  bounded (s less t) f =
      let a = bound ps qs s in
      let b = bound ps qs t in
      let g = and_l (fine ps qs s && fine ps qs t) (ltb (max a b) 1023) f in
      sub_max (value xs ys s) (value xs ys t) a b (ltb→lt (max a b) 1023 (and_r (fine ps qs s && fine ps qs t) (ltb (max a b) 1023) f))
      (bounded s (and_l (fine ps qs s) (fine ps qs t) g)) (bounded t (and_r (fine ps qs s) (fine ps qs t) g))
  bounded (s times t) f =
      let a = bound ps qs s in
      let b = bound ps qs t in
      let g = and_l (fine ps qs s && fine ps qs t) (leb (a + b) 1023) f in
      mul_below (value xs ys s) (value xs ys t) a b (leb→le (a + b) 1023 (and_r (fine ps qs s && fine ps qs t) (leb (a + b) 1023) f))
      (bounded s (and_l (fine ps qs s) (fine ps qs t) g)) (bounded t (and_r (fine ps qs s) (fine ps qs t) g))
  bounded (t over i) f =
      let a = bound ps qs t in
      let b = get_or qs i 0 in
      let g = and_l (fine ps qs t && ltb i (length qs)) (leb (a + b) 1023) f in
      div_below (value xs ys t) (at ys i) a b (leb→le (a + b) 1023 (and_r (fine ps qs t && ltb i (length qs)) (leb (a + b) 1023) f))
      (bounded t (and_l (fine ps qs t) (ltb i (length qs)) g))
      (above_at qs ys i k (ltb→lt i (length qs) (and_r (fine ps qs t) (ltb i (length qs)) g)))

  -- for concrete lists and a concrete term the test is `tt`
  pub within : (t : Term) (p : ℕ) → T (fine ps qs t && leb (bound ps qs t) p) → Below p (value xs ys t)
  within t p f = weaker (value xs ys t) (bound ps qs t) p (leb→le (bound ps qs t) p (and_r (fine ps qs t) (leb (bound ps qs t) p) f))
      (bounded t (and_l (fine ps qs t) (leb (bound ps qs t) p) f))
