-- A step taken as often as it fits: what is left to take from where reading stands is the whole. Assumes nothing.
use mathlib.Core.List.{List, [], ◌∷◌}
use mathlib.Core.Bool.{Bool, true, false}
use mathlib.Core.Path.{◌≡◌, refl, sym, ap, ◌∙◌}
use Prim.Native.Nat.{ℕ, zero, suc, ◌≤◌}
use native.Mathlib.Omega.{arith}
use lib.ListN.{length, take}
use lib.Ieee.{Float}
use Rattle.tokens.specs.Text.{text}
use Rattle.tokens.specs.Tokens.{line_bytes}
use Rattle.templates.specs.declared.Cursor.{Cursor}
use Rattle.templates.specs.Matching.{Reading, failed, reading, pick, same_bytes, take_one, while_fits, take_times, take_each, take_figures}
use Rattle.templates.specs.Matching.{take_token, take_tokens}
use Rattle.templates.specs.Cursors.{reading_at, Room, ReadsOn}
use Rattle.templates.proofs.Steps.{also_kept}
use Rattle.templates.proofs.Choices.{fits, same_reading, meant_fits, room_again}

on_fits : (a r : Reading) (g : Reading → Reading) → fits a ≡ true → while_fits a r g ≡ g a
on_fits failed r g h = let z : ◌≡◌ {A = ℕ} 0 1 = cc in absurd (let y : ⊥ = omega arith in y)
on_fits (reading ts t) r g h = refl

on_failed : (a r : Reading) (g : Reading → Reading) → fits a ≡ false → while_fits a r g ≡ r
on_failed failed r g h = refl
on_failed (reading ts t) r g h = let z : ◌≡◌ {A = ℕ} 0 1 = cc in absurd (let y : ⊥ = omega arith in y)

once_more : (n m : ℕ) (step : Reading → Reading) (r : Reading) → n ≡ suc m → fits (step r) ≡ true
    → take_times n step r ≡ take_times m step (step r)
unfolding take_times
once_more n m step r e h = ap (λ (k : ℕ). take_times k step r) e ∙ on_fits (step r) r (take_times m step) h

no_more : (n : ℕ) (step : Reading → Reading) (r : Reading) → fits (step r) ≡ false → take_times n step r ≡ r
unfolding take_times
no_more zero step r h = refl
no_more (suc n) step r h = on_failed (step r) r (take_times n step) h

none_left : (n : ℕ) (step : Reading → Reading) (r : Reading) → n ≤ 0 → take_times n step r ≡ r
unfolding take_times
none_left zero step r h = refl
none_left (suc n) step r h = absurd (let y : ⊥ = omega arith in y)

-- ---- a reading that failed stays so

one_failed : (p : List ℕ) → take_one p failed ≡ failed
unfolding take_one
one_failed p = refl

token_failed : (p : List ℕ) → take_token p failed ≡ failed
unfolding take_token
token_failed p = by (same_bytes p (text "F.."))
  where
    by : (t : Bool) → pick t (take_figures failed) (take_one p failed) ≡ failed
    by true = no_more line_bytes (take_one (text "F")) failed (ap fits (one_failed (text "F")))
    by false = one_failed p

pub tokens_failed : (ps : List (List ℕ)) → take_tokens ps failed ≡ failed
unfolding take_tokens
tokens_failed [] = refl
tokens_failed (p ∷ ps) = ap (take_tokens ps) (token_failed p) ∙ tokens_failed ps

-- ---- turn by turn

pub record Repeating (line : List ℕ) (step : Reading → Reading) (before after : List Float) (c s : Cursor) (turns : ℕ) : Type 0 where
  pub whole : take_each step (reading_at line before c) ≡ take_times turns step (reading_at line after s)
  pub kept : take c.figures after ≡ take c.figures before
  pub grows : c.figures ≤ s.figures
  pub room : Room line after s
  pub same : length after ≡ length before

module _ (line : List ℕ) (step : Reading → Reading) (before : List Float) (c : Cursor) where
  pub begins : Room line before c → Repeating line step before before c c line_bytes
  begins m = record { whole = refl; kept = refl; grows = omega arith; room = m; same = refl }

  module _ (between : List Float) (s : Cursor) (turns : ℕ) (v : Repeating line step before between c s turns) where
    pub all_turns : turns ≤ 0 → ReadsOn line before between c s (take_each step (reading_at line before c))
    all_turns h = record
        { is = sym (v.whole ∙ none_left turns step (reading_at line between s) h); kept = v.kept; grows = v.grows; room = v.room }

    module _ (after : List Float) (next : Cursor) (o : ReadsOn line between after s next (step (reading_at line between s))) where
      kept_on : take c.figures after ≡ take c.figures before
      kept_on = also_kept before between after c.figures s.figures v.grows v.kept o.kept

      pub again : (rest : ℕ) → turns ≡ suc rest → next.ok ≡ true → length after ≡ length between
          → Repeating line step before after c next rest
      again rest z h l =
          let g = v.grows in let k = o.grows in let q = v.same in
          record {
            whole = v.whole ∙ once_more turns rest step (reading_at line between s) z (meant_fits line between after s next _ o ∙ h)
                ∙ ap (take_times rest step) (sym o.is);
            kept = kept_on;
            grows = omega arith;
            room = o.room;
            same = omega arith;
          }

      pub ends : next.ok ≡ false → ReadsOn line before after c s (take_each step (reading_at line before c))
      ends h =
          record {
            is = same_reading line between after s o.kept
                ∙ sym (v.whole ∙ no_more turns step (reading_at line between s) (meant_fits line between after s next _ o ∙ h));
            kept = kept_on;
            grows = v.grows;
            room = room_again line between after s next _ o v.room;
          }
