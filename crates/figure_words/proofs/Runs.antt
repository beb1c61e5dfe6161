-- A run of digits, one more at a time. Assumes nothing.
use mathlib.Core.List.{List, ◌∷◌}
use mathlib.Core.Logic.{◌⊎◌, inl, inr}
use mathlib.Core.Path.{◌≡◌, refl, sym, ap, subst, ◌∙◌}
use mathlib.Core.Bool.{Bool, true, false}
use Prim.Native.Nat.{ℕ, min, ◌+◌, ◌-◌, ◌*◌, ◌^◌, ◌<◌, ◌≤◌}
use borrow.Author.Tests.{leb-true, leb-false}
use lib.Dec.{leb}
use native.Mathlib.Nat.{pow-suc, pow-le-pow_right}
use native.Mathlib.Numerals.{add-one}
use native.Mathlib.Omega.{arith}
use lib.ListN.{length, drop, get_or}
use Rattle.counts.specs.Counts.{digit_value}
use Rattle.figure_words.specs.FigureWords.{leading_digits, behind_digits, number_from}
use Rattle.figure_words.specs.Runs.{Runs}
use Rattle.figure_words.proofs.Digits.{at_place, digit_leads, digit_passed, number_on}

further : (c i at : ℕ) → at ≤ i → c + (i - at) + 1 ≡ c + (i + 1 - at)
further c i at h = omega arith

ten : (k : ℕ) → 10 ^ (k + 1) ≡ 10 ^ k * 10
ten k = ap (λ (x : ℕ). 10 ^ x) (add-one k) ∙ pow-suc 10 k

ten_most : (k : ℕ) → k ≤ 19 → 10 ^ k ≤ 10 ^ 19
ten_most k h = let z : 0 < 10 = omega arith in pow-le-pow_right z h

pub start : (w : List ℕ) (at n before : ℕ) → at ≤ length w → before ≤ 19 → n < 10 ^ before → Runs w at n before n at
start w at n before h g l =
    let z : before ≡ before + (at - at) = omega arith in
    record {
      from = omega arith;
      to = h;
      count = omega arith;
      small = subst (λ (x : ℕ). n < 10 ^ x) z l;
      number = refl;
      digits = omega arith;
      behind = refl;
    }

module _ (w : List ℕ) (at n before m i d : ℕ) (r : Runs w at n before m i) (h : i < length w) (o : before + (i - at) < 19)
    (e : d ≡ digit_value (get_or w i 0)) (g : d < 10) where
  is_digit : digit_value (get_or w i 0) < 10
  is_digit = rw e at g

  abbrev rest : List ℕ
  rest = drop (i + 1) w

  leads : leading_digits (drop i w) ≡ get_or w i 0 ∷ leading_digits rest
  leads = ap leading_digits (at_place w i h) ∙ digit_leads (get_or w i 0) rest is_digit

  small_next : m * 10 + d < 10 ^ (before + (i + 1 - at))
  small_next =
      let a : 10 ^ (before + (i + 1 - at)) ≡ 10 ^ (before + (i - at)) * 10 = ap (λ (x : ℕ). 10 ^ x) (sym (further before i at r.from))
      ∙ ten (before + (i - at)) in
      let b = r.small in
      let c : m * 10 + d < 10 ^ (before + (i - at)) * 10 = omega arith in
      subst (λ (x : ℕ). m * 10 + d < x) (sym a) c

  pub next : Runs w at n before (m * 10 + d) (i + 1)
  next =
      let f = r.from in
      let l = r.digits in
      let k = ap length leads in
      record {
        from = omega arith;
        to = omega arith;
        count = omega arith;
        small = small_next;
        number =
            r.number
            ∙ ap (number_from m) leads
            ∙ number_on (get_or w i 0) (leading_digits rest) m
            ∙ ap (λ (v : ℕ). number_from (m * 10 + v) (leading_digits rest)) (sym e);
        digits = omega arith;
        behind = r.behind ∙ ap behind_digits (at_place w i h) ∙ digit_passed (get_or w i 0) rest is_digit;
      }

  pub number_fits : m * 10 + d < 2 ^ 64
  number_fits = let z = ten_most (before + (i + 1 - at)) (let y = r.from in omega arith) in let y = small_next in omega arith

-- where the run ends at the latest
pub stops : (w : List ℕ) (at before e : ℕ) → at ≤ length w → before ≤ 19 → e ≡ min (length w - at) (19 - before) + at
    → (e ≡ length w) ⊎ ((before + (e - at) ≡ 19) ⊎ (10 ≤ digit_value (get_or w e 0)))
stops w at before e h g z = by (leb (length w - at) (19 - before)) refl
  where
    by : (t : Bool) → leb (length w - at) (19 - before) ≡ t
        → (e ≡ length w) ⊎ ((before + (e - at) ≡ 19) ⊎ (10 ≤ digit_value (get_or w e 0)))
    by true q = inl (omega (arith, leb-true _ _ q))
    by false q = inr (inl (omega (arith, leb-false _ _ q)))
