-- Endings tried one after another, and tokens passed. Assumes nothing.
use mathlib.Core.List.{List}
use mathlib.Core.Bool.{Bool, true, false, ◌||◌}
use mathlib.Core.Path.{◌≡◌, refl, sym, ap, ◌∙◌}
use Prim.Native.Nat.{ℕ, zero, suc, ◌+◌, ◌<◌, ◌≤◌}
use native.Mathlib.Omega.{arith}
use lib.ListN.{length, take, drop, get_or, drop_of_length-le}
use lib.Seq.{take-take, take_at, length-take-le}
use Rattle.texts.specs.Appended.{Appended}
use Rattle.tokens.specs.declared.TokenRange.{TokenRange}
use Rattle.tokens.proofs.Bytes.{cons_at}
use Rattle.explanations.specs.declared.Fault.{Fault}
use Rattle.tokens.specs.Places.{token_at}
use Rattle.explanations.specs.Endings.{saves_here, saved, passes, pick_found, fault_from}

-- what stood before an appended text stands there still
pub start_kept : {before text after : List ℕ} {n r : ℕ} → n ≤ length before → Appended before n text after r → take n after ≡ take n before
start_kept {before} {text} {after} {n} {r} h a =
    let e = a.ends in
    sym (take-take n r after (omega (arith, e))) ∙ ap (take n) a.holds ∙ take_at (take n before) text n (length-take-le n before h)

-- and so does any part of it
pub less_kept : (before after : List ℕ) (k n : ℕ) → k ≤ n → take n after ≡ take n before → take k after ≡ take k before
less_kept before after k n h e = sym (take-take k n after h) ∙ ap (take k) e ∙ take-take k n before h

module _ (fault : Fault) (start endings : List ℕ) (j : ℕ) (s : saved fault start endings ≡ saved fault start (drop j endings)) where
  module _ (h : j < length endings) where
    saved_at : saved fault start endings
        ≡ saves_here fault start (get_or endings j 0) (drop j endings) || saved fault start (drop (j + 1) endings)
    unfolding saved
    saved_at =
        s ∙ ap (saved fault start) (cons_at endings j h)
        ∙ ap (λ (t : List ℕ). saves_here fault start (get_or endings j 0) t || saved fault start (drop (j + 1) endings))
        (sym (cons_at endings j h))

    pub hit : saves_here fault start (get_or endings j 0) (drop j endings) ≡ true → true ≡ saved fault start endings
    hit e = sym (saved_at ∙ ap (λ (t : Bool). t || saved fault start (drop (j + 1) endings)) e)

    pub miss : saves_here fault start (get_or endings j 0) (drop j endings) ≡ false
        → saved fault start endings ≡ saved fault start (drop (j + 1) endings)
    miss e = saved_at ∙ ap (λ (t : Bool). t || saved fault start (drop (j + 1) endings)) e

  pub all_tried : length endings ≤ j → false ≡ saved fault start endings
  unfolding saved
  all_tried h = sym (s ∙ ap (saved fault start) (drop_of_length-le endings h))

module _ (fault : Fault) (endings line : List ℕ) (at : ℕ) (f : TokenRange) (is : f ≡ token_at line at) where
  pub stops : (turns : ℕ) → 0 < turns → passes fault endings line f ≡ false → fault_from turns fault endings line at ≡ f
  unfolding fault_from
  stops zero h e = absurd (let y : ⊥ = omega arith in y)
  stops (suc n) h e =
      ap (λ (t : Bool). pick_found t (fault_from n fault endings line (token_at line at).to) (token_at line at))
      (ap (passes fault endings line) (sym is) ∙ e)
      ∙ sym is

  pub goes_on : (turns rest : ℕ) → turns ≡ suc rest → passes fault endings line f ≡ true
      → fault_from turns fault endings line at ≡ fault_from rest fault endings line f.to
  unfolding fault_from
  goes_on turns rest h e =
      ap (λ (k : ℕ). fault_from k fault endings line at) h
      ∙ ap (λ (t : Bool). pick_found t (fault_from rest fault endings line (token_at line at).to) (token_at line at))
      (ap (passes fault endings line) (sym is) ∙ e)
      ∙ ap (λ (g : TokenRange). fault_from rest fault endings line g.to) (sym is)

pub no_turn_lem : (fault : Fault) (endings line : List ℕ) (at turns : ℕ) → turns ≤ 0
    → fault_from turns fault endings line at ≡ record { from = at; to = at }
unfolding fault_from
no_turn_lem fault endings line at zero h = refl
no_turn_lem fault endings line at (suc n) h = absurd (let y : ⊥ = omega arith in y)
