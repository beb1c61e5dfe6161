-- Reading digit by digit, with the value cut to a million at each: one digit more, and that the cut changes nothing. Assumes nothing.
use mathlib.Core.List.{List, [], ◌∷◌}
use mathlib.Core.Bool.{Bool, true, false}
use mathlib.Core.Path.{◌≡◌, refl, sym, ap, ◌∙◌}
use Prim.Native.Nat.{ℕ, ◌+◌, ◌*◌, ◌<◌, ◌≤◌}
use native.Mathlib.Numerals.{add-one}
use native.Mathlib.Omega.{arith}
use borrow.Author.Tests.{lt-ltb, le-ltb, le-leb, lt-leb, leb-true, leb-false}
use lib.Dec.{ltb, leb}
use lib.ListN.{length, drop, get_or, drop_of_length-le}
use lib.Seq.{drop-cons}
use Rattle.std.specs.Prelude.{Some, None}
use Rattle.counts.specs.Counts.{digit_value, pick, read_digits, count_of, capped, capped_count}

pub none : (w : List ℕ) → length w ≡ 0 → None ≡ capped_count (count_of w)
unfolding count_of
none [] h = refl
none (b ∷ bs) h = absurd (let z : ⊥ = omega arith in z)

pub some : (w : List ℕ) → 0 < length w → count_of w ≡ read_digits (drop 0 w) 0
unfolding count_of
some [] h = absurd (let z : ⊥ = omega arith in z)
some (b ∷ bs) h = refl

-- numbers that are the same once cut stay so behind one digit more
cut_same : (n m d : ℕ) → capped n ≡ capped m → capped (n * 10 + d) ≡ capped (m * 10 + d)
cut_same n m d e = omega arith

pub same_value_lem : (bs : List ℕ) (n m : ℕ) → capped n ≡ capped m → capped_count (read_digits bs n) ≡ capped_count (read_digits bs m)
unfolding read_digits
same_value_lem [] n m e = ap Some e
same_value_lem (b ∷ bs) n m e = by (ltb (digit_value b) 10)
    (same_value_lem bs (n * 10 + digit_value b) (m * 10 + digit_value b) (cut_same n m (digit_value b) e))
  where
    by : (t : Bool) → capped_count (read_digits bs (n * 10 + digit_value b)) ≡ capped_count (read_digits bs (m * 10 + digit_value b))
        → capped_count (pick t (read_digits bs (n * 10 + digit_value b)) None)
        ≡ capped_count (pick t (read_digits bs (m * 10 + digit_value b)) None)
    by true h = h
    by false h = refl

step : (w : List ℕ) (i n : ℕ) → i < length w
    → read_digits (drop i w) n
    ≡ pick (ltb (digit_value (get_or w i 0)) 10) (read_digits (drop (i + 1) w) (n * 10 + digit_value (get_or w i 0))) None
unfolding read_digits
step w i n h = ap (λ (l : List ℕ). read_digits l n) (drop-cons w i 0 h ∙ ap (λ (k : ℕ). get_or w i 0 ∷ drop k w) (sym (add-one i)))

module _ (w : List ℕ) (i n d : ℕ) (h : i < length w) (e : capped_count (count_of w) ≡ capped_count (read_digits (drop i w) n))
    (q : d ≡ digit_value (get_or w i 0)) where
  pub bad_digit : 10 ≤ d → None ≡ capped_count (count_of w)
  bad_digit b =
      let g : 10 ≤ digit_value (get_or w i 0) = rw q at b in
      let s : read_digits (drop i w) n ≡ None = step w i n h ∙ rw (le-ltb (digit_value (get_or w i 0)) 10 g) in
      sym (e ∙ ap capped_count s)

  pub good_digit : (m : ℕ) → d < 10 → m ≡ capped (n * 10 + d) → capped_count (count_of w) ≡ capped_count (read_digits (drop (i + 1) w) m)
  good_digit m b f =
      let g : digit_value (get_or w i 0) < 10 = rw q at b in
      let s : read_digits (drop i w) n ≡ read_digits (drop (i + 1) w) (n * 10 + d) = step w i n h
      ∙ rw (lt-ltb (digit_value (get_or w i 0)) 10 g, q) in
      let k : capped (n * 10 + d) ≡ capped m = omega arith in
      e ∙ ap capped_count s ∙ same_value_lem (drop (i + 1) w) (n * 10 + d) m k

pub all_read : (w : List ℕ) (i n : ℕ) → length w ≤ i → n ≤ 1_000_000 → capped_count (count_of w) ≡ capped_count (read_digits (drop i w) n)
    → Some n ≡ capped_count (count_of w)
unfolding read_digits
all_read w i n h b e =
    let k : capped n ≡ n = omega arith in
    sym (e ∙ ap (λ (l : List ℕ). capped_count (read_digits l n)) (drop_of_length-le w h) ∙ ap Some k)

-- ---- what the limits see of a value that was cut

-- at most k
pub capped_at_most : (n k : ℕ) → k < 1_000_000 → leb (capped n) k ≡ leb n k
capped_at_most n k h = by (leb n k) refl
  where
    by : (t : Bool) → leb n k ≡ t → leb (capped n) k ≡ t
    by true e = le-leb (capped n) k (omega (arith, leb-true n k e))
    by false e = lt-leb (capped n) k (omega (arith, leb-false n k e))

-- at least k
pub capped_at_least : (n k : ℕ) → k ≤ 1_000_000 → leb k (capped n) ≡ leb k n
capped_at_least n k h = by (leb k n) refl
  where
    by : (t : Bool) → leb k n ≡ t → leb k (capped n) ≡ t
    by true e = le-leb k (capped n) (omega (arith, leb-true k n e))
    by false e = lt-leb k (capped n) (omega (arith, leb-false k n e))
