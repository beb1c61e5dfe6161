-- Units of sizes: products of powers of given sizes. Two are compared by their exponents, which is computed. Assumes nothing.
use mathlib.Core.Path.{◌≡◌, refl, sym, ap, ◌∙◌}
use mathlib.Core.Bool.{Bool, true, ◌&&◌}
use mathlib.Core.List.{List, [], ◌∷◌}
use Prim.Native.Nat.{ℕ, zero, suc, ◌+◌, ◌*◌, ◌^◌, ◌≤◌, ◌<◌}
use native.Mathlib.Nat.{le_refl, le_trans, le_of_eq, mul-pos, mul-le-mul, mul-le-mul_right, one-mul, mul-one, mul-suc, mul-zero, mul-add}
use native.Mathlib.Nat.{pow-zero, pow-suc}
use native.Mathlib.Omega.{arith}
use lib.Dec.{T, eqb, eqb→eq}
use lib.Pow.{pow-add, pow_pos}
use lib.Ieee.Fits.{and_l, and_r}
use lib.ListN.{get_or}
use Rattle.rounding_error.proofs.Numbers.{Size, ◌per◌, ◌upto◌, Ranges}
use Rattle.rounding_error.proofs.Distances.{sorted}

abbrev pub top : Size → ℕ
top (a per c) = a

abbrev pub bottom : Size → ℕ
bottom (a per c) = c

-- the product of f b to the exponents
abbrev pub mono : (Size → ℕ) → List Size → List ℕ → ℕ
mono f [] p = 1
mono f (b ∷ B) [] = 1
mono f (b ∷ B) (e ∷ p) = f b ^ e * mono f B p

abbrev pub added : List ℕ → List ℕ → List ℕ
added [] q = q
added (e ∷ p) [] = e ∷ p
added (e ∷ p) (g ∷ q) = (e + g) ∷ added p q

abbrev pub total : List ℕ → ℕ
total [] = 0
total (e ∷ p) = e + total p

-- equal up to zeros at the end
abbrev pub alike : List ℕ → List ℕ → Bool
alike [] [] = true
alike [] (g ∷ q) = eqb g 0 && alike [] q
alike (e ∷ p) [] = eqb e 0 && alike p []
alike (e ∷ p) (g ∷ q) = eqb e g && alike p q

mono_added : (f : Size → ℕ) (B : List Size) (p q : List ℕ) → mono f B (added p q) ≡ mono f B p * mono f B q
mono_added f [] p q = refl
mono_added f (b ∷ B) [] q = sym (one-mul (mono f (b ∷ B) q))
mono_added f (b ∷ B) (e ∷ p) [] = sym (mul-one (mono f (b ∷ B) (e ∷ p)))
mono_added f (b ∷ B) (e ∷ p) (g ∷ q) =
    rw (pow-add (f b) e g, mono_added f B p q) (go (f b ^ e) (f b ^ g) (mono f B p) (mono f B q))
  where
    go : (x y s t : ℕ) → x * y * (s * t) ≡ x * s * (y * t)
    go x y s t = simp sorted

pub mono_none : (f : Size → ℕ) (B : List Size) → mono f B [] ≡ 1
mono_none f [] = refl
mono_none f (b ∷ B) = refl

alike_mono : (f : Size → ℕ) (B : List Size) (p q : List ℕ) → T (alike p q) → mono f B p ≡ mono f B q
alike_mono f [] p q t = refl
alike_mono f (b ∷ B) [] [] t = refl
alike_mono f (b ∷ B) [] (g ∷ q) t =
    rw (eqb→eq g 0 (and_l (eqb g 0) (alike [] q) t), pow-zero (f b), one-mul (mono f B q))
    (sym (mono_none f B) ∙ alike_mono f B [] q (and_r (eqb g 0) (alike [] q) t))
alike_mono f (b ∷ B) (e ∷ p) [] t =
    rw (eqb→eq e 0 (and_l (eqb e 0) (alike p []) t), pow-zero (f b), one-mul (mono f B p))
    (alike_mono f B p [] (and_r (eqb e 0) (alike p []) t) ∙ mono_none f B)
alike_mono f (b ∷ B) (e ∷ p) (g ∷ q) t =
    rw (eqb→eq e g (and_l (eqb e g) (alike p q) t), alike_mono f B p q (and_r (eqb e g) (alike p q) t))

-- ---- how far from 1
abbrev pub AllRanges : ℕ → List Size → Type 0
AllRanges R [] = Unit {0}
AllRanges R (b ∷ B) = Ranges R b × AllRanges R B

power_less : (a c X e : ℕ) → a ≤ c * X → a ^ e ≤ c ^ e * X ^ e
power_less a c X zero h = simp pow-zero (le_refl 1)
power_less a c X (suc e) h =
    rw (pow-suc a e, pow-suc c e, pow-suc X e) (le_trans (mul-le-mul (power_less a c X e h) h) (le_of_eq (go (c ^ e) (X ^ e) c X)))
  where
    go : (s t c X : ℕ) → s * t * (c * X) ≡ s * c * (t * X)
    go s t c X = simp sorted

two_power : (R e : ℕ) → (2 ^ R) ^ e ≡ 2 ^ (R * e)
two_power R zero = rw (mul-zero R, pow-zero (2 ^ R))
two_power R (suc e) = rw (pow-suc (2 ^ R) e, two_power R e, mul-suc R e, pow-add 2 (R * e) R)

mono_less : (R : ℕ) (f g : Size → ℕ) → ((b : Size) → Ranges R b → f b ≤ g b * 2 ^ R) → (B : List Size) → AllRanges R B → (p : List ℕ)
    → mono f B p ≤ mono g B p * 2 ^ (R * total p)
mono_less R f g h [] r p = le_trans (pow_pos (R * total p)) (le_of_eq (sym (one-mul (2 ^ (R * total p)))))
mono_less R f g h (b ∷ B) r [] = rw (mul-zero R) (le_refl 1)
mono_less R f g h (b ∷ B) r (e ∷ p) =
    rw (mul-add R e (total p), pow-add 2 (R * e) (R * total p), ← (two_power R e))
    (le_trans (mul-le-mul (power_less (f b) (g b) (2 ^ R) e (h b r.0)) (mono_less R f g h B r.1 p))
    (le_of_eq (go (g b ^ e) ((2 ^ R) ^ e) (mono g B p) (2 ^ (R * total p)))))
  where
    go : (s t u v : ℕ) → s * t * (u * v) ≡ s * u * (t * v)
    go s t u v = simp sorted

mono_pos : (R : ℕ) (f : Size → ℕ) → ((b : Size) → Ranges R b → 0 < f b) → (B : List Size) → AllRanges R B → (p : List ℕ) → 0 < mono f B p
mono_pos R f h [] r p = le_refl 1
mono_pos R f h (b ∷ B) r [] = le_refl 1
mono_pos R f h (b ∷ B) r (e ∷ p) = mul-pos (power_pos (f b) e (h b r.0)) (mono_pos R f h B r.1 p)
  where
    power_pos : (a e : ℕ) → 0 < a → 0 < a ^ e
    power_pos a zero k = simp pow-zero (le_refl 1)
    power_pos a (suc e) k = rw (pow-suc a e) (mul-pos (power_pos a e k) k)

-- ---- a unit: the exponents above and below the line
abbrev pub size_by : List Size → List ℕ → List ℕ → Size
size_by B p q = (mono top B p * mono bottom B q) per (mono bottom B p * mono top B q)

pub alike_upto : (B : List Size) (p q p' q' : List ℕ) → T (alike (added p q') (added p' q)) → size_by B p q upto size_by B p' q'
alike_upto B p q p' q' t =
    le_of_eq (go (mono top B p) (mono bottom B p) (mono top B q) (mono bottom B q) (mono top B p') (mono bottom B p') (mono top B q')
    (mono bottom B q')
    (sym (mono_added top B p q') ∙ alike_mono top B (added p q') (added p' q) t ∙ mono_added top B p' q)
    (sym (mono_added bottom B p q') ∙ alike_mono bottom B (added p q') (added p' q) t ∙ mono_added bottom B p' q))
  where
    go : (tp dp tq dq tp' dp' tq' dq' : ℕ) → tp * tq' ≡ tp' * tq → dp * dq' ≡ dp' * dq → tp * dq * (dp' * tq') ≡ tp' * dq' * (dp * tq)
    go tp dp tq dq tp' dp' tq' dq' h k = first ∙ ap (λ (x : ℕ). x * (dp' * dq)) h ∙ ap (λ (x : ℕ). tp' * tq * x) (sym k) ∙ last
      where
        first : tp * dq * (dp' * tq') ≡ tp * tq' * (dp' * dq)
        first = simp sorted

        last : tp' * tq * (dp * dq') ≡ tp' * dq' * (dp * tq)
        last = simp sorted

pub top_by : (B : List Size) (p q p' q' : List ℕ)
    → mono top B (added p p') * mono bottom B (added q q') ≡ mono top B p * mono bottom B q * (mono top B p' * mono bottom B q')
top_by B p q p' q' = rw (mono_added top B p p', mono_added bottom B q q')
    (go (mono top B p) (mono top B p') (mono bottom B q) (mono bottom B q'))
  where
    go : (s t u v : ℕ) → s * t * (u * v) ≡ s * u * (t * v)
    go s t u v = simp sorted

pub bottom_by : (B : List Size) (p q p' q' : List ℕ)
    → mono bottom B (added p p') * mono top B (added q q') ≡ mono bottom B p * mono top B q * (mono bottom B p' * mono top B q')
bottom_by B p q p' q' = rw (mono_added bottom B p p', mono_added top B q q')
    (go (mono bottom B p) (mono bottom B p') (mono top B q) (mono top B q'))
  where
    go : (s t u v : ℕ) → s * t * (u * v) ≡ s * u * (t * v)
    go s t u v = simp sorted

module _ (R : ℕ) (B : List Size) (r : AllRanges R B) where
  tops_pos : (p : List ℕ) → 0 < mono top B p
  tops_pos p = mono_pos R top go B r p
    where
      go : (b : Size) → Ranges R b → 0 < top b
      go (zero per c) k = least (2 ^ R) k.real k.least
        where
          least : (X : ℕ) → 0 < c → c ≤ 0 * X → 0 < 0
          least X i j = omega arith
      go (suc a per c) k = omega arith

  bottoms_pos : (p : List ℕ) → 0 < mono bottom B p
  bottoms_pos p = mono_pos R bottom go B r p
    where
      go : (b : Size) → Ranges R b → 0 < bottom b
      go (a per c) k = k.real

  pub top_pos : (p q : List ℕ) → 0 < mono top B p * mono bottom B q
  top_pos p q = mul-pos (tops_pos p) (bottoms_pos q)

  pub bottom_pos : (p q : List ℕ) → 0 < mono bottom B p * mono top B q
  bottom_pos p q = mul-pos (bottoms_pos p) (tops_pos q)

  pub ranges_of : (p q : List ℕ) → Ranges (R * total p + R * total q) (size_by B p q)
  ranges_of p q =
      record {
        real = bottom_pos p q;
        least = rw (pow-add 2 (R * total p) (R * total q))
            (le_trans (mul-le-mul (mono_less R bottom top least B r p) (mono_less R top bottom most B r q))
            (le_of_eq (go (mono top B p) (2 ^ (R * total p)) (mono bottom B q) (2 ^ (R * total q)))));
        most = rw (pow-add 2 (R * total p) (R * total q))
            (le_trans (mul-le-mul (mono_less R top bottom most B r p) (mono_less R bottom top least B r q))
            (le_of_eq (go (mono bottom B p) (2 ^ (R * total p)) (mono top B q) (2 ^ (R * total q)))));
      }
    where
      least : (b : Size) → Ranges R b → bottom b ≤ top b * 2 ^ R
      least (a per c) k = k.least

      most : (b : Size) → Ranges R b → top b ≤ bottom b * 2 ^ R
      most (a per c) k = k.most

      go : (s t u v : ℕ) → s * t * (u * v) ≡ s * u * (t * v)
      go s t u v = simp sorted

-- the exponents of the size at place i alone
abbrev pub place : ℕ → List ℕ
place zero = 1 ∷ []
place (suc i) = 0 ∷ place i

abbrev pub unit : Size
unit = 1 per 1

pub mono_place : (f : Size → ℕ) → f unit ≡ 1 → (B : List Size) (i : ℕ) → mono f B (place i) ≡ f (get_or B i unit)
mono_place f h [] i = sym h
mono_place f h (b ∷ B) zero = rw (pow-suc (f b) 0, pow-zero (f b), mono_none f B) (one (f b))
  where
    one : (x : ℕ) → 1 * x * 1 ≡ x
    one x = omega arith
mono_place f h (b ∷ B) (suc i) = rw (pow-zero (f b)) (one-mul (mono f B (place i)) ∙ mono_place f h B i)

-- a larger unit: one size in the place of another that is at most it
pub raised_upto : (B : List Size) (i j : ℕ) (p q : List ℕ) → get_or B i unit upto get_or B j unit
    → size_by B p q upto size_by B (added p (place j)) (added q (place i))
raised_upto B i j p q h =
    rw (
      mono_added top B p (place j),
      mono_added bottom B q (place i),
      mono_added bottom B p (place j),
      mono_added top B q (place i),
      mono_place top refl B j,
      mono_place bottom refl B i,
      mono_place bottom refl B j,
      mono_place top refl B i,
    )
    (go (get_or B i unit) (get_or B j unit) h)
  where
    go : (x y : Size) → x upto y → mono top B p * mono bottom B q *
        (mono bottom B p * bottom y * (mono top B q * top x)) ≤ mono top B p * top y * (mono bottom B q * bottom x) *
        (mono bottom B p * mono top B q)
    go (a per c) (b per d) u = cross (mono top B p) (mono bottom B q) (mono bottom B p) (mono top B q) u
      where
        cross : (s t v w : ℕ) → a * d ≤ b * c → s * t * (v * d * (w * a)) ≤ s * b * (t * c) * (v * w)
        cross s t v w u = let x = simp sorted at (mul-le-mul_right (s * t * v * w) u) in simp sorted (omega (arith, x))
