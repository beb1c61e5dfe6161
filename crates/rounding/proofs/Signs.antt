-- The sign of an f64: rounding keeps it, and so do minus and the larger of two. Assumes nothing.
use mathlib.Core.Path.{◌≡◌, refl, sym, ap, ◌∙◌}
use mathlib.Core.Bool.{Bool, true, false, not, cond}
use Prim.Native.Nat.{ℕ, zero, suc, ◌+◌, ◌*◌, ◌^◌}
use native.Mathlib.Nat.{zero-mul}
use native.Mathlib.Omega.{arith}
use borrow.Author.Tests.{ltb-true}
use lib.Dec.{T, ltb}
use lib.Ieee.{Float, nan, inf, fin, Format, prec, emax, low, up, down, unlike, odd, units, round, neg, lt, is_nan, of_bits}
use lib.Ieee.Fits.{round_is}
use lib.Ieee.Order.{drop, kept}
use lib.Ieee.Scale.{finite}
use lib.Ieee.Positive.{num, den, positive}
use Rattle.floats.specs.Operations.{bits}
use Rattle.floats.specs.Floats.{max_of}
use Rattle.floats.proofs.Bools.{no}
use Rattle.floats.proofs.Order.{ne_itself}

-- the sign is minus
abbrev pub minus : Float → Bool
minus nan = false
minus (inf s) = s
minus (fin s m e) = s

-- no NaN, and the sign is plus
abbrev pub plus : Float → Bool
plus nan = false
plus (inf s) = not s
plus (fin s m e) = not s

pub plus_minus : (x : Float) → T (plus x) → minus x ≡ false
plus_minus nan t = absurd t
plus_minus (inf true) t = absurd t
plus_minus (inf false) t = refl
plus_minus (fin true m e) t = absurd t
plus_minus (fin false m e) t = refl

pub finite_plus : (x : Float) → T (finite x) → minus x ≡ false → T (plus x)
finite_plus nan i h = absurd i
finite_plus (inf s) i h = absurd i
finite_plus (fin true m e) i h = no h
finite_plus (fin false m e) i h = tt

pub finite_no_nan : (x : Float) → T (finite x) → is_nan x ≡ false
unfolding is_nan
finite_no_nan nan i = absurd i
finite_no_nan (inf s) i = absurd i
finite_no_nan (fin s m e) i = refl

pub plus_no_nan : (x : Float) → T (plus x) → is_nan x ≡ false
unfolding is_nan
plus_no_nan nan t = absurd t
plus_no_nan (inf s) t = refl
plus_no_nan (fin s m e) t = refl

pub positive_plus : (x : Float) → T (positive x) → minus x ≡ false
positive_plus nan k = absurd k
positive_plus (inf s) k = absurd k
positive_plus (fin true m e) k = absurd k
positive_plus (fin false m e) k = refl

-- of a product and a quotient
pub unlike_plus : (s : Bool) → unlike s false ≡ s
unlike_plus true = refl
unlike_plus false = refl

pub plus_unlike : (s : Bool) → unlike false s ≡ s
plus_unlike true = refl
plus_unlike false = refl

-- ---- minus
pub neg_num : (x : Float) → num (neg x) ≡ num x
unfolding neg
neg_num nan = refl
neg_num (inf t) = refl
neg_num (fin t m e) = refl

pub neg_den : (x : Float) → den (neg x) ≡ den x
unfolding neg
neg_den nan = refl
neg_den (inf t) = refl
neg_den (fin t m e) = refl

pub neg_finite : (x : Float) → finite (neg x) ≡ finite x
unfolding neg
neg_finite nan = refl
neg_finite (inf t) = refl
neg_finite (fin t m e) = refl

-- ---- the sign goes through rounding
unfoldable pub sign : Bool → Float → Float
sign true x = neg x
sign false x = x

odd_sign : (d : ℕ) (s : Bool) (q k l : ℕ) → odd d s q k l ≡ sign s (odd d false q k l)
unfolding odd sign neg
odd_sign d false q k l = refl
odd_sign d true zero k l = refl
odd_sign d true (suc q) k l = refl

units_sign : (f : Format) (s : Bool) (q k : ℕ) → units f s q k ≡ sign s (units f false q k)
unfolding units
units_sign f s q k = go (ltb (q * 2 ^ k) (2 ^ (low f + suc (emax f)))) s
  where
    go : (b : Bool) (s : Bool)
        → cond b (odd (suc (prec f)) s q k (low f)) (inf s) ≡ sign s (cond b (odd (suc (prec f)) false q k (low f)) (inf false))
    go true s = odd_sign (suc (prec f)) s q k (low f)
    go false true = unfold sign neg in refl
    go false false = unfold sign in refl

pub round_sign : (f : Format) (s : Bool) (a c : ℕ) → round f s a c ≡ sign s (round f false a c)
round_sign f s a c =
    round_is f s a c
    ∙ units_sign f s (kept (prec f) (a * 2 ^ low f) c) (drop (prec f) (a * 2 ^ low f) c)
    ∙ ap (sign s) (sym (round_is f false a c))

odd_plus : (d q k l : ℕ) → T (plus (odd d false q k l))
unfolding odd
odd_plus d zero k l = tt
odd_plus d (suc q) k l = tt

units_plus : (f : Format) (q k : ℕ) → T (plus (units f false q k))
unfolding units
units_plus f q k = go (ltb (q * 2 ^ k) (2 ^ (low f + suc (emax f))))
  where
    go : (b : Bool) → T (plus (cond b (odd (suc (prec f)) false q k (low f)) (inf false)))
    go true = odd_plus (suc (prec f)) q k (low f)
    go false = tt

pub round_plus : (f : Format) (a c : ℕ) → T (plus (round f false a c))
round_plus f a c = rw (round_is f false a c) (units_plus f (kept (prec f) (a * 2 ^ low f) c) (drop (prec f) (a * 2 ^ low f) c))

pub round_minus : (f : Format) (a c : ℕ) → minus (round f false a c) ≡ false
round_minus f a c = plus_minus (round f false a c) (round_plus f a c)

-- ---- the larger of one of sign plus and any other
max_is : (a b : Float) → T (plus a) → max_of a b ≡ cond (lt a b) b a
max_is a b t = ap (λ (x : Bool). cond x b (cond (lt a b) b a)) (ne_itself a ∙ plus_no_nan a t)

plus_up : (a b : Float) → T (plus a) → lt a b ≡ true → T (plus b)
unfolding lt
plus_up nan b t h = absurd t
plus_up (inf true) b t h = absurd t
plus_up (inf false) nan t h = no (sym h)
plus_up (inf false) (inf u) t h = no (sym h)
plus_up (inf false) (fin u n d) t h = no (sym h)
plus_up (fin true m e) b t h = absurd t
plus_up (fin false m e) nan t h = no (sym h)
plus_up (fin false m e) (inf true) t h = no (sym h)
plus_up (fin false m e) (inf false) t h = tt
plus_up (fin false m e) (fin true n d) t h = no (sym h)
plus_up (fin false m e) (fin false n d) t h = tt

pub max_plus : (a b : Float) → T (plus a) → T (plus (max_of a b))
max_plus a b t = rw (max_is a b t) (go (lt a b) refl)
  where
    go : (x : Bool) → lt a b ≡ x → T (plus (cond x b a))
    go true q = plus_up a b t q
    go false q = t

pub plus_not_below_zero : (a : Float) → T (plus a) → lt a (bits 0) ≡ false
unfolding lt of_bits
plus_not_below_zero nan t = absurd t
plus_not_below_zero (inf true) t = absurd t
plus_not_below_zero (inf false) t = refl
plus_not_below_zero (fin true m e) t = absurd t
plus_not_below_zero (fin false m e) t = go (m * up e * 1) (0 * 1 * down e) (zero-mul (down e)) (ltb (m * up e * 1) (0 * 1 * down e)) refl
  where
    go : (a b : ℕ) → b ≡ 0 → (x : Bool) → ltb a b ≡ x → x ≡ false
    go a b z true q = absurd (let l = ltb-true a b q in let w : ⊥ = omega arith in w)
    go a b z false q = refl

pub max_zero : (a : Float) → T (plus a) → max_of a (bits 0) ≡ a
max_zero a t = max_is a (bits 0) t ∙ ap (λ (x : Bool). cond x (bits 0) a) (plus_not_below_zero a t)

pub zero_plus : T (plus (bits 0))
unfolding of_bits
zero_plus = tt
