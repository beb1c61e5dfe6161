-- The order of service: the next screen holds a job, and lies no further behind the last served than any screen that
-- waits. Assumes nothing.
use mathlib.Core.Path.{◌≡◌, refl, sym, ap, subst, ◌∙◌}
use mathlib.Core.Bool.{Bool, true, false, true≢false}
use Prim.Native.Nat.{ℕ, zero, suc, ◌+◌, ◌-◌, ◌%◌, ◌≤◌, ◌<◌}
use native.Mathlib.Nat.{not-suc-le-zero, le_of_suc-le-suc}
use native.Mathlib.Omega.{arith}
use Rattle.engines.specs.declared.Screens.{Screens}
use Rattle.engines.specs.Engines.{holds_job, screen_after, first_held, next_screen}
use Rattle.engines.proofs.Laws.{found, passed, none}

module _ (screens : Screens) where
  -- a screen that holds no job is passed over
  looks_on : (q n : ℕ) → holds_job screens (screen_after q) ≡ false
      → first_held screens (screen_after q) (suc n) ≡ first_held screens (screen_after (screen_after q)) n
  looks_on q n c =
      passed screens (screen_after q) (suc n) (omega arith) c
      ∙ ap (first_held screens (screen_after (screen_after q))) (let k : suc n - 1 ≡ n = omega arith in k)

  -- what is found, of n screens behind q: none, or one that holds a job
  held_step : (q n : ℕ) (c : Bool) → holds_job screens (screen_after q) ≡ c
      → (0 < first_held screens (screen_after (screen_after q)) n
      → holds_job screens (first_held screens (screen_after (screen_after q)) n) ≡ true)
      → 0 < first_held screens (screen_after q) (suc n) → holds_job screens (first_held screens (screen_after q) (suc n)) ≡ true
  held_step q n true c ih z = ap (holds_job screens) (found screens (screen_after q) (suc n) (omega arith) c) ∙ c
  held_step q n false c ih z = ap (holds_job screens) (looks_on q n c) ∙ ih (subst (λ (k : ℕ). 0 < k) (looks_on q n c) z)

  first_held_lem : (n q : ℕ) → 0 < first_held screens (screen_after q) n → holds_job screens (first_held screens (screen_after q) n) ≡ true
  first_held_lem zero q z = absurd (not-suc-le-zero (subst (λ (k : ℕ). 0 < k) (none screens (screen_after q) 0 (omega arith)) z))
  first_held_lem (suc n) q z = held_step q n (holds_job screens (screen_after q)) refl (first_held_lem n (screen_after q)) z

  pub next_holds : 0 < next_screen screens → holds_job screens (next_screen screens) ≡ true
  unfolding next_screen
  next_holds z = first_held_lem 8 screens.last z

  -- of a waiting screen m places behind q, the first held is no more than m behind
  abbrev pub NoLater : ℕ → ℕ → ℕ → Type 0
  NoLater n q m = (k : ℕ) × ((k ≤ m) × (first_held screens (screen_after q) n ≡ (q + k) % 8 + 1))

  -- one screen further on
  further : (q k : ℕ) → (screen_after q + k) % 8 + 1 ≡ (q + suc k) % 8 + 1
  further q k = omega arith

  one_on : (n q m : ℕ) → holds_job screens (screen_after q) ≡ false → NoLater n (screen_after q) m → NoLater (suc n) q (suc m)
  one_on n q m c (k, (near, is)) = (suc k, (omega (arith, near), looks_on q n c ∙ is ∙ further q k))

  module _ (screen : ℕ) (waits : holds_job screens screen ≡ true) where
    no_later_step : (n q m : ℕ) → m < suc n → (q + m) % 8 + 1 ≡ screen
        → ((k : ℕ) → k < n → (screen_after q + k) % 8 + 1 ≡ screen → NoLater n (screen_after q) k)
        → (c : Bool) → holds_job screens (screen_after q) ≡ c → NoLater (suc n) q m
    no_later_step n q m l e ih true c = (
      0,
      (omega arith, found screens (screen_after q) (suc n) (omega arith) c ∙ (let k : q % 8 + 1 ≡ (q + 0) % 8 + 1 = omega arith in k)),
    )
    no_later_step n q zero l e ih false c =
        absurd (true≢false (sym waits ∙ ap (holds_job screens) (sym e ∙ (let k : (q + 0) % 8 + 1 ≡ q % 8 + 1 = omega arith in k)) ∙ c))
    no_later_step n q (suc m) l e ih false c = one_on n q m c (ih m (le_of_suc-le-suc l) (further q m ∙ e))

    no_later : (n q m : ℕ) → m < n → (q + m) % 8 + 1 ≡ screen → NoLater n q m
    no_later zero q m l e = absurd (not-suc-le-zero l)
    no_later (suc n) q m l e = no_later_step n q m l e (no_later n (screen_after q)) (holds_job screens (screen_after q)) refl

    pub next_no_later : (m : ℕ) → m < 8 → (screens.last + m) % 8 + 1 ≡ screen
        → (k : ℕ) × ((k ≤ m) × (next_screen screens ≡ (screens.last + k) % 8 + 1))
    unfolding next_screen
    next_no_later m l e = no_later 8 screens.last m l e
