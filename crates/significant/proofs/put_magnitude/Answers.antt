-- `significant::put_magnitude` meets its contract: the digits as a count, written with their place. Assumes nothing.
use mathlib.Core.List.{List, ◌∷◌, ◌++◌, []}
use mathlib.Core.Bool.{Bool, true, false, cond}
use mathlib.Core.Path.{◌≡◌, sym, ap, subst, ◌∙◌}
use Prim.Native.Nat.{ℕ, ◌+◌, ◌/◌, ◌%◌, ◌≤◌}
use native.Mathlib.Omega.{arith}
use lib.Dec.{ltb}
use lib.Ieee.{Float}
use lib.ListN.{length, take, length-append}
use lib.Seq.{length-take-le}
use Rattle.texts.specs.Appended.{Appended}
use Rattle.counts.specs.Counts.{digits, count_text}
use Rattle.counts.proofs.Printing.{twenty}
use Rattle.significant.specs.Significant.{decimal_units_of, digits_of, place_of}
use Rattle.significant.specs.Printed.{written, magnitude_text}
use Rattle.significant.proofs.Rounding.{place_most}
use Rattle.significant.proofs.put_magnitude.Goals as goal
use Rattle.significant.proofs.put_magnitude.Goals.{After-put_count-k}

-- a count has a digit
some : (n : ℕ) → 1 ≤ length (count_text n)
unfolding count_text digits
some n = by (ltb n 10)
  where
    by : (t : Bool) → 1 ≤ length (cond t ((48 + n) ∷ []) (digits 19 (n / 10) ++ ((48 + n % 10) ∷ [])))
    by true = omega arith
    by false = let e = length-append (digits 19 (n / 10)) ((48 + n % 10) ∷ []) in omega (arith, e)

-- the count's text within the digits that were lent
module _ (c : After-put_count-k) where
  abbrev d : ℕ
  d = c.significant_digits-s.result.digits

  text_is : take c.put_count-k.result c.put_count-k.new.out ≡ count_text d
  text_is = c.put_count-k.ensures.holds

  fits : c.put_count-k.result ≤ length c.put_count-k.new.out
  fits = let e = c.put_count-k.ensures.ends in let t = twenty d in let k = c.put_count-k.auto.out in omega (arith, e, t, k)

  long : length (take c.put_count-k.result c.put_count-k.new.out) ≡ length (count_text d)
  long = ap length text_is

made_of : (out last : List ℕ) (at r n scale : ℕ) (power : Bool) (x : Float) (ds : List ℕ) (e p : ℕ) → ds ≡ count_text e
    → e ≡ digits_of n (decimal_units_of x) → p ≡ place_of n (decimal_units_of x)
    → Appended out at (written power ds (n + p + scale)) last r → Appended out at (magnitude_text n scale power x) last r
made_of out last at r n scale power x ds e p f g h a =
    subst (λ (j : ℕ). Appended out at (written power (count_text (digits_of n (decimal_units_of x))) (n + j + scale)) last r) h
    (subst (λ (t : List ℕ). Appended out at (written power t (n + p + scale)) last r) (f ∙ ap count_text g) a)

pub slice_bounds-ds-end : goal.slice_bounds-ds-end
slice_bounds-ds-end c = fits (goal.at.slice_bounds-ds-end c).After-put_count-k

pub slice_bounds-put_written-end : goal.slice_bounds-put_written-end
slice_bounds-put_written-end c =
    sym (length-take-le c.put_count-k.result c.put_count-k.new.out (fits (goal.at.slice_bounds-put_written-end c).After-put_count-k))

pub overflow_add-n : goal.overflow_add-n
overflow_add-n c = omega (
  arith,
  c.significant_digits-s.ensures.1,
  place_most c.args.n
      (decimal_units_of c.args.x),
)

pub overflow_add-n-2 : goal.overflow_add-n-2
overflow_add-n-2 c = omega (
  arith,
  c.significant_digits-s.ensures.1,
  place_most c.args.n
      (decimal_units_of c.args.x),
)

pub put_written-requires : goal.put_written-requires
put_written-requires c =
    let m = (goal.at.put_written-requires c).After-put_count-k in
    let l = long m in
    let t = twenty (d m) in
    let o = some (d m) in
    (omega (arith, l, o), omega (arith, l, t))

pub returns : goal.returns
returns c =
    let m = (goal.at.returns c).After-put_count-k in
    made_of c.args.out.now c.put_written.new.out c.args.at c.put_written.result c.args.n c.args.scale
    c.args.power c.args.x (take c.put_count-k.result c.put_count-k.new.out) (d m)
    c.significant_digits-s.result.place (text_is m) c.significant_digits-s.ensures.0 c.significant_digits-s.ensures.1 c.put_written.ensures
