-- f64s that are given, as entries of a list: of at most a given size, or above 0 and their own size. Assumes nothing.
use native.Mathlib.Nat.{mul-pos, le_refl, mul-le-mul_right, one-mul, mul-one, zero-mul, mul-zero, zero-add, add-zero}
use lib.Pow.{pow_pos}
use Rattle.rounding_error.proofs.Numbers.{◌roundoffs◌, IsNumber, Near, Number, number, Size, ◌per◌, ◌of◌, Under, zero_number, value_of}
use Rattle.rounding_error.proofs.Numbers.{size_of}
use mathlib.Core.Path.{◌≡◌, refl, sym, ap, ◌∙◌, subst}
use mathlib.Core.Bool.{Bool, true, false, ◌&&◌}
use mathlib.Core.List.{List, []}
use Prim.Native.Nat.{ℕ, suc, ◌+◌, ◌*◌, ◌^◌, ◌≤◌, ◌<◌}
use native.Mathlib.Omega.{arith}
use lib.Dec.{T, leb, leb→le}
use lib.ListN.{get_or}
use lib.Ieee.{Float, nan, inf, fin, up, down}
use lib.Ieee.Fits.{and_l, and_r}
use lib.Ieee.Scale.{finite}
use lib.Ieee.Positive.{num, den, den_pos, positive, positive-finite}
use Rattle.rounding_error.proofs.Distances.{sorted, within_upto}
use Rattle.rounding_error.proofs.Counts as Counts
use Rattle.rounding_error.proofs.Chains.{Valued}
use Rattle.error_terms.proofs.Monomials.{top, bottom, mono, mono_none, place, unit, mono_place, AllRanges}
use Rattle.error_terms.proofs.Laws.{rounded_up, parts, Reaches}
use Rattle.error_terms.proofs.Terms.{shape, Known, Lowest, unit_by}
use Rattle.error_terms.proofs.Sound.{const_known, const_lowest}

ruleset plain = (sorted, one-mul, mul-one, zero-mul, mul-zero, zero-add, add-zero)

abbrev pub full : ℕ
full = 2 ^ 30

module _ (B : List Size) (i : ℕ) (a c : ℕ) (e : get_or B i unit ≡ a per c) where
  top_is : mono top B (place i) * mono bottom B [] ≡ a
  top_is = ap (λ (x : ℕ). mono top B (place i) * x) (mono_none bottom B) ∙ mul-one (mono top B (place i)) ∙ mono_place top refl B i ∙ ap
      (λ (s : Size). top s) e

  bottom_is : mono bottom B (place i) * mono top B [] ≡ c
  bottom_is = ap (λ (x : ℕ). mono bottom B (place i) * x) (mono_none top B) ∙ mul-one
      (mono bottom B (place i)) ∙ mono_place bottom refl B i ∙ ap (λ (s : Size). bottom s) e

  in_parts : (P : Size → Type 0) → P (parts a c) → P (unit_by B (place i) [])
  in_parts P h =
      subst (λ (n : ℕ). P (parts n (mono bottom B (place i) * mono top B []))) (sym top_is)
      (subst (λ (d : ℕ). P (parts a d)) (sym bottom_is) h)

  pub sized_entry : (x : Float) → 0 < c → T (finite x) → Under (1 of (a per c)) (value_of x)
      → Known B x (value_of x) (shape 0 full (place i) [])
  sized_entry x C f u =
      in_parts (λ S. Valued x (value_of x) 0 full S)
      (record {
        near = Counts.itself x (parts a c) f;
        size = within_upto (1 of (a per c)) (full of parts a c) (value_of x) zero_number C
            (go (2 ^ 30)) u;
        is = Counts.value_is x;
      })
    where
      go : (P : ℕ) → 1 * a * (c * P) ≤ P * a * c
      go P = simp plain (le_refl _)

  pub unit_is : unit_by B (place i) [] ≡ parts a c
  unit_is = ap (λ (n : ℕ). parts n (mono bottom B (place i) * mono top B [])) top_is ∙ ap (λ (d : ℕ). parts a d) bottom_is

  pub near_entry : (x : Float) (v : Number) (k : ℕ) → 0 < c → IsNumber v → Near x v (k roundoffs (a per c)) → Under (1 of (a per c)) v
      → Known B x v (shape (k * 2 ^ 30) full (place i) [])
  near_entry x v k C I n u =
      subst (λ (S : Size). Valued x v (k * 2 ^ 30) full S) (sym unit_is)
      (record {
        near = record {
          finite = n.finite;
          within = within_upto (k roundoffs (a per c)) ((k * 2 ^ 30) roundoffs parts a c) (value_of x) v (mul-pos C (pow_pos 53))
              (errors (2 ^ 30) (2 ^ 53)) n.within;
        };
        size = within_upto (1 of (a per c)) (full of parts a c) v zero_number C (sizes (2 ^ 30)) u;
        is = I;
      })
    where
      errors : (P Q : ℕ) → k * a * (c * P * Q) ≤ k * P * a * (c * Q)
      errors P Q = simp plain (le_refl _)

      sizes : (P : ℕ) → 1 * a * (c * P) ≤ P * a * c
      sizes P = simp plain (le_refl _)

  -- and back
  pub near_given : (x : Float) (v : Number) (k : ℕ) → 0 < c → Near x v ((k * 2 ^ 30) roundoffs unit_by B (place i) []) → Near x v
      (k roundoffs (a per c))
  near_given x v k C n =
      let m = subst (λ (S : Size). Near x v ((k * 2 ^ 30) roundoffs S)) unit_is n in
      record {
        finite = m.finite;
        within = within_upto ((k * 2 ^ 30) roundoffs parts a c) (k roundoffs (a per c)) (value_of x) v
            (mul-pos (mul-pos C (pow_pos 30)) (pow_pos 53)) (errors (2 ^ 30) (2 ^ 53)) m.within;
      }
    where
      errors : (P Q : ℕ) → k * P * a * (c * Q) ≤ k * a * (c * P * Q)
      errors P Q = simp plain (le_refl _)

  -- at most k times the size
  pub many_entry : (x : Float) (k : ℕ) → 0 < c → T (finite x) → Under (k of (a per c)) (value_of x)
      → Known B x (value_of x) (shape 0 (k * 2 ^ 30) (place i) [])
  many_entry x k C f u =
      in_parts (λ S. Valued x (value_of x) 0 (k * 2 ^ 30) S)
      (record {
        near = Counts.itself x (parts a c) f;
        size = within_upto (k of (a per c)) ((k * 2 ^ 30) of parts a c)
            (value_of x) zero_number C (go (2 ^ 30)) u;
        is = Counts.value_is x;
      })
    where
      go : (P : ℕ) → k * a * (c * P) ≤ k * P * a * c
      go P = simp plain (le_refl _)

  -- at least j times it
  pub many_low : (v : Number) (j : ℕ) → Reaches j a c v
      → Reaches (j * 2 ^ 30) (mono top B (place i) * mono bottom B []) (mono bottom B (place i) * mono top B [] * 2 ^ 30) v
  many_low v j h =
      subst (λ (n : ℕ). Reaches (j * 2 ^ 30) n (mono bottom B (place i) * mono top B [] * 2 ^ 30) v) (sym top_is)
      (subst (λ (d : ℕ). Reaches (j * 2 ^ 30) a (d * 2 ^ 30) v) (sym bottom_is) (own v h))
    where
      own : (v : Number) → Reaches j a c v → Reaches (j * 2 ^ 30) a (c * 2 ^ 30) v
      own (number p m e) h = go (2 ^ 30) (mul-le-mul_right (2 ^ 30) h)
        where
          go : (P : ℕ) → (j * a * e + m * c) * P ≤ p * c * P → j * P * a * e + m * (c * P) ≤ p * (c * P)
          go P u = let z = simp plain at u in simp plain (omega (arith, z))

-- its own size
pub own_entry : (B : List Size) (i : ℕ) (y : Float) → get_or B i unit ≡ size_of y → T (positive y)
    → Known B y (value_of y) (shape 0 full (place i) []) × Lowest B y (value_of y) (shape 0 full (place i) []) full
own_entry B i y e p = (sized_entry B i (num y) (den y) e y (den_pos y) (positive-finite y p) (Counts.own_size y p), (p, low))
  where
    low : Reaches full (mono top B (place i) * mono bottom B []) (mono bottom B (place i) * mono top B [] * 2 ^ 30) (value_of y)
    low =
        subst (λ (n : ℕ). Reaches full n (mono bottom B (place i) * mono top B [] * 2 ^ 30) (value_of y))
        (sym (top_is B i (num y) (den y) e))
        (subst (λ (d : ℕ). Reaches full (num y) (d * 2 ^ 30) (value_of y)) (sym (bottom_is B i (num y) (den y) e)) (own y p))
      where
        own : (y : Float) → T (positive y) → Reaches full (num y) (den y * 2 ^ 30) (value_of y)
        own nan p = absurd p
        own (inf s) p = absurd p
        own (fin true m e) p = absurd p
        own (fin false m e) p = go (m * up e) (down e) (2 ^ 30)
          where
            go : (N D P : ℕ) → P * N * D + 0 * (D * P) ≤ N * (D * P)
            go N D P = simp plain (le_refl _)

-- a constant above 0, in the unit 1
abbrev pub most : Float → ℕ
most c = rounded_up (num c * 2 ^ 30) (den c)

abbrev pub const_test : Float → ℕ → Bool
const_test c low = positive c && leb (low * den c) (num c * 2 ^ 30)

pub const_entry : (B : List Size) → AllRanges 32 B → (c : Float) (low : ℕ) → T (const_test c (suc low))
    → Known B c (value_of c) (shape 0 (most c) [] []) × Lowest B c (value_of c) (shape 0 (most c) [] []) (suc low)
const_entry B r c low t =
    let p = and_l (positive c) (leb (suc low * den c) (num c * 2 ^ 30)) t in (
      const_known B r c (positive-finite c p),
      const_lowest B r c (suc low) p (leb→le (suc low * den c) (num c * 2 ^ 30) (and_r (positive c) (leb (suc low * den c) (num c * 2 ^
          30)) t)),
    )
