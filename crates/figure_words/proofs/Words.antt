-- What a word is where a run of digits stops: at its end, at a point, at another byte, or behind 19 digits. Assumes nothing.
use mathlib.Core.List.{List, [], ◌∷◌}
use mathlib.Core.Logic.{◌⊎◌, ⊎_elim}
use mathlib.Core.Bool.{Bool, true, false}
use mathlib.Core.Path.{◌≡◌, refl, sym, ap, subst, ◌∙◌}
use Prim.Native.Nat.{ℕ, suc, ◌+◌, ◌-◌, ◌^◌, ◌<◌, ◌≤◌}
use native.Mathlib.Nat.{eq-or-lt_of_le}
use native.Mathlib.Omega.{arith}
use borrow.Author.Tests.{ltb-true, ltb-false, eq-eqb, ne_eqb}
use lib.Dec.{ltb}
use lib.ListN.{length, take, drop, get_or, drop_of_length-le}
use lib.Seq.{take_all}
use lib.Ieee.{Float}
use Rattle.std.specs.Prelude.{Option, Some, None}
use Rattle.hexadecimal.specs.Hex.{figure_of}
use Rattle.counts.specs.Counts.{digit_value}
use Rattle.decimals.specs.Decimals.{decimal_of}
use Rattle.figure_words.specs.FigureWords.{leading_digits, behind_digits, number_from, whole_figure, point_figure, digits_figure}
use Rattle.figure_words.specs.FigureWords.{unsigned_figure, decimal_figure, figure_word}
use Rattle.figure_words.specs.Runs.{RunTo}
use Rattle.figure_words.proofs.Digits.{at_place, digit_leads, other_leads, other_stays, number_ends}
use Rattle.figure_words.proofs.Shapes.{no_digits, not_point, none_before, none_behind, too_many_in_all, more_behind, point_is}
use Rattle.figure_words.proofs.Shapes.{too_many}

-- ---- what is left from a place on

module _ (w : List ℕ) (e : ℕ) where
  abbrev b : ℕ
  b = get_or w e 0

  ended : e ≡ length w → drop e w ≡ []
  ended h = drop_of_length-le w (let z : length w ≤ e = omega arith in z)

  none_left : e ≡ length w → leading_digits (drop e w) ≡ []
  unfolding leading_digits
  none_left h = ap leading_digits (ended h)

  nothing_left : e ≡ length w → behind_digits (drop e w) ≡ []
  unfolding behind_digits
  nothing_left h = ap behind_digits (ended h)

  no_more : e < length w → 10 ≤ digit_value b → leading_digits (drop e w) ≡ []
  no_more h g = ap leading_digits (at_place w e h) ∙ other_leads b (drop (e + 1) w) g

  stays : e < length w → 10 ≤ digit_value b → behind_digits (drop e w) ≡ b ∷ drop (e + 1) w
  stays h g = ap behind_digits (at_place w e h) ∙ other_stays b (drop (e + 1) w) g

  one_more : e < length w → digit_value b < 10 → 0 < length (leading_digits (drop e w))
  one_more h g = let k = ap length (ap leading_digits (at_place w e h) ∙ digit_leads b (drop (e + 1) w) g) in omega arith

  inside : e ≤ length w → (e ≡ length w → ⊥) → e < length w
  inside l h = ⊎_elim (λ (z : e ≡ length w). absurd (h z)) (λ (z : e < length w). z) (eq-or-lt_of_le l)

less_twice : (a b : ℕ) → a - (b + 1) ≡ a - b - 1
less_twice a b = omega arith

-- a byte is a digit or none
by_digit : {A : Type 0} (b : ℕ) → (digit_value b < 10 → A) → (10 ≤ digit_value b → A) → A
by_digit {A} b f g = go (ltb (digit_value b) 10) refl
  where
    go : (t : Bool) → ltb (digit_value b) 10 ≡ t → A
    go true e = f (ltb-true (digit_value b) 10 e)
    go false e = g (ltb-false (digit_value b) 10 e)

-- ---- the first run

module _ (bare minus : Bool) (w : List ℕ) (at m e : ℕ) (r : RunTo w at 0 0 m e) where
  abbrev c : ℕ
  c = e - at

  abbrev all : Option Float
  all = unsigned_figure bare minus (drop at w)

  abbrev left : ℕ
  left = length (leading_digits (drop e w))

  goes_on : all ≡ digits_figure bare minus (number_from m (leading_digits (drop e w))) (c + left) (behind_digits (drop e w))
  unfolding unsigned_figure
  goes_on = rw (r.runs.number, r.runs.digits, r.runs.behind)

  -- where no digit follows
  stopped : leading_digits (drop e w) ≡ [] → all ≡ digits_figure bare minus m c (behind_digits (drop e w))
  stopped h =
      let z : c + left ≡ c = let k = ap length h in omega arith in
      goes_on ∙ ap (λ (k : ℕ). digits_figure bare minus (number_from m (leading_digits (drop e w))) k (behind_digits (drop e w))) z
      ∙ ap (λ (l : List ℕ). digits_figure bare minus (number_from m l) c (behind_digits (drop e w))) h
      ∙ ap (λ (n : ℕ). digits_figure bare minus n c (behind_digits (drop e w))) (number_ends m)

  at_end_lem : e ≡ length w → all ≡ whole_figure bare minus m c
  at_end_lem h = stopped (none_left w e h) ∙ ap (digits_figure bare minus m c) (nothing_left w e h)

  at_byte : e < length w → 10 ≤ digit_value (get_or w e 0) → all ≡ point_figure minus m c (get_or w e 0) (drop (e + 1) w)
  at_byte h g = stopped (no_more w e h g) ∙ ap (digits_figure bare minus m c) (stays w e h g)

  pub whole_read : e ≡ length w → {f : Option Float} → f ≡ whole_figure bare minus m c → f ≡ all
  whole_read h g = g ∙ sym (at_end_lem h)

  inner : (e ≡ length w → ⊥) → e < length w
  inner = inside w e r.runs.to

  pub none : e ≡ at → None ≡ all
  none h =
      let z : c ≡ 0 = omega arith in
      sym (⊎_elim
      (λ (y : e ≡ length w). at_end_lem y ∙ no_digits bare minus m c z)
      (λ (y : e < length w). at_byte y (no_digit y) ∙ none_before minus m c (get_or w e 0) (drop (e + 1) w) z)
      (eq-or-lt_of_le r.runs.to))
    where
      no_digit : e < length w → 10 ≤ digit_value (get_or w e 0)
      no_digit y = ⊎_elim (λ (x : e ≡ length w). absurd (let n : ⊥ = omega arith in n))
          (λ (x : (0 + (e - at) ≡ 19) ⊎ (10 ≤ digit_value (get_or w e 0))). ⊎_elim
          (λ (v : 0 + (e - at) ≡ 19). absurd (let n : ⊥ = omega arith in n)) (λ (v : 10 ≤ digit_value (get_or w e 0)). v) x) r.stop

  pub other_byte : (e ≡ length w → ⊥) → (get_or w e 0 ≡ 46 → ⊥) → None ≡ all
  other_byte h g =
      let y = inner h in
      let other : 10 ≤ digit_value (get_or w e 0) → all ≡ None =
      λ v. at_byte y v ∙ not_point minus m c (get_or w e 0) (drop (e + 1) w) g in
      sym (⊎_elim (λ (x : e ≡ length w). absurd (h x))
      (λ (x : (0 + (e - at) ≡ 19) ⊎ (10 ≤ digit_value (get_or w e 0))). ⊎_elim
      (λ (v : 0 + (e - at) ≡ 19). by_digit (get_or w e 0)
      (λ d. goes_on ∙ too_many bare minus (number_from m (leading_digits (drop e w))) (c + left) (behind_digits (drop e w))
      (let k = one_more w e y d in omega arith)) other)
      other
      x)
      r.stop)

  pub for_second : (e ≡ length w → ⊥) → (e + 1 ≤ length w) × (e - at ≤ 19) × (m < 10 ^ (e - at))
  for_second h =
      let z = inner h in
      let n = r.runs.count in
      (omega arith, omega arith, subst (λ (x : ℕ). m < 10 ^ x) (let y : 0 + (e - at) ≡ e - at = omega arith in y) r.runs.small)

  -- ---- behind the point

  module _ (h : e ≡ length w → ⊥) (g : get_or w e 0 ≡ 46) (o : e ≡ at → ⊥) (m' e' : ℕ) (q : RunTo w (e + 1) m (e - at) m' e') where
    abbrev l : List ℕ
    l = drop (e + 1) w

    abbrev k : ℕ
    k = e' - (e + 1)

    is_point : 10 ≤ digit_value (get_or w e 0)
    is_point = rw g (omega arith)

    into : all ≡ point_figure minus m c (get_or w e 0) l
    into = at_byte (inner h) is_point

    some_before : 0 < c
    some_before = let z = r.runs.from in
        ⊎_elim (λ (y : at ≡ e). absurd (o (sym y))) (λ (y : at < e). let x : 0 < c = omega arith in x) (eq-or-lt_of_le z)

    -- a byte that is no digit is left
    left_over : e' < length w → 10 ≤ digit_value (get_or w e' 0) → all ≡ None
    left_over y v =
        let z = ap length (q.runs.behind ∙ stays w e' y v) in
        into ∙ more_behind minus m c (get_or w e 0) l (λ x. omega arith)

    pub more : (e' ≡ length w → ⊥) → None ≡ all
    more z =
        let y = inside w e' q.runs.to z in
        sym (⊎_elim (λ (x : e' ≡ length w). absurd (z x))
        (λ (x : (e - at + (e' - (e + 1)) ≡ 19) ⊎ (10 ≤ digit_value (get_or w e' 0))). ⊎_elim
        (λ (v : e - at + (e' - (e + 1)) ≡ 19). by_digit (get_or w e' 0)
        (λ d. into ∙ too_many_in_all minus m c (get_or w e 0) l (let n = one_more w e' y d in let u = q.runs.digits in omega arith))
        (left_over y))
        (left_over y)
        x)
        q.stop)

    -- how many stand behind the point
    behind_count : e' ≡ length w → length (leading_digits l) ≡ k
    behind_count z = let u = q.runs.digits in let v = ap length (none_left w e' z) in omega arith

    pub no_fraction : e' ≡ e + 1 → None ≡ all
    no_fraction z = ⊎_elim
        (λ (y : e' ≡ length w). sym (into ∙ none_behind minus m c (get_or w e 0) l (let u = behind_count y in omega arith)))
        (λ (y : e' < length w). more (λ (x : e' ≡ length w). omega arith))
        (eq-or-lt_of_le q.runs.to)

    some_behind : (e' ≡ e + 1 → ⊥) → 0 < k
    some_behind y = let z = q.runs.from in
        ⊎_elim (λ (v : e + 1 ≡ e'). absurd (y (sym v))) (λ (v : e + 1 < e'). let u : 0 < k = omega arith in u) (eq-or-lt_of_le z)

    pub few_behind : e' - e - 1 ≤ 18
    few_behind = let a = q.runs.count in let b = some_before in omega arith

    pub all_read : e' ≡ length w → (e' ≡ e + 1 → ⊥) → {x : Float} → x ≡ decimal_of minus m' (e' - e - 1) → Some x ≡ all
    all_read z y {x} f =
        let n = q.runs.count in
        let u = behind_count z in
        let v = ap length (q.runs.behind ∙ nothing_left w e' z) in
        let p = some_behind y in
        let t = some_before in
        let i : number_from m (leading_digits l) ≡ m' = q.runs.number ∙ ap (number_from m') (none_left w e' z) ∙ number_ends m' in
        let j : length (leading_digits l) ≡ e' - e - 1 = u ∙ less_twice e' e in
        sym (into ∙ point_is minus m c (get_or w e 0) l g t (rw u p) (rw u n) v ∙ rw (i, j) (ap Some (sym f)))

-- ---- the sign

some_byte : (n : ℕ) → (n ≡ 0 → ⊥) → 0 < n
some_byte n h = ⊎_elim (λ (z : 0 ≡ n). absurd (h (sym z))) (λ (z : 0 < n). z) (eq-or-lt_of_le (let y : 0 ≤ n = omega arith in y))

pub no_word : (w : List ℕ) → length w ≡ 0 → None ≡ decimal_figure w
unfolding decimal_figure
no_word [] h = refl
no_word (b ∷ l) h = absurd (let y : ⊥ = omega arith in y)

module _ (w : List ℕ) (o : length w ≡ 0 → ⊥) where
  opened : w ≡ get_or w 0 0 ∷ drop 1 w
  opened = at_place w 0 (some_byte (length w) o)

  pub plus_word : get_or w 0 0 ≡ 43 → {f : Option Float} → f ≡ unsigned_figure false false (drop 1 w) → f ≡ decimal_figure w
  unfolding decimal_figure
  plus_word e g = g ∙ sym (ap decimal_figure opened ∙ rw (eq-eqb (get_or w 0 0) 43 e))

  pub minus_word : get_or w 0 0 ≡ 45 → {f : Option Float} → f ≡ unsigned_figure false true (drop 1 w) → f ≡ decimal_figure w
  unfolding decimal_figure
  minus_word e g = g ∙ sym (ap decimal_figure opened ∙ ap (λ (b : ℕ). decimal_figure (b ∷ drop 1 w)) e)

  pub bare_word : (get_or w 0 0 ≡ 43 → ⊥) → (get_or w 0 0 ≡ 45 → ⊥) → {f : Option Float} → f ≡ unsigned_figure true false (drop 0 w)
      → f ≡ decimal_figure w
  unfolding decimal_figure
  bare_word h i g =
      g ∙ sym (ap decimal_figure opened
      ∙ rw (ne_eqb (get_or w 0 0) 43 h, ne_eqb (get_or w 0 0) 45 i) (ap (unsigned_figure true false) (sym opened)))

-- ---- the mark

pub no_figure_lem : (w : List ℕ) → length w ≡ 0 → None ≡ figure_word w
unfolding figure_word
no_figure_lem [] h = refl
no_figure_lem (b ∷ l) h = absurd (let y : ⊥ = omega arith in y)

pub marked : (w : List ℕ) → (length w ≡ 0 → ⊥) → get_or w 0 0 ≡ 35 → {f : Option Float} → f ≡ figure_of (take (length w - 1) (drop 1 w))
    → f ≡ figure_word w
unfolding figure_word
marked [] o e g = absurd (o refl)
marked (b ∷ l) o e g = g ∙ ap figure_of (take_all (suc (length l) - 1) l (let z : length l ≤ suc (length l) - 1 = omega arith in z))
    ∙ sym (rw (eq-eqb b 35 e))

pub unmarked : (w : List ℕ) → (length w ≡ 0 → ⊥) → (get_or w 0 0 ≡ 35 → ⊥) → {f : Option Float} → f ≡ decimal_figure w → f ≡ figure_word w
unfolding figure_word
unmarked [] o e g = absurd (o refl)
unmarked (b ∷ l) o e g = g ∙ sym (rw (ne_eqb b 35 e))
