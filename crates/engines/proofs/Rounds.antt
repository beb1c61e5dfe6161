-- A waiting screen is served within eight turns that count. The next screen lies no further behind the last served than
-- the waiting one, so that with each turn that serves another the waiting one is nearer, and only its own turn takes
-- its job away. By induction over the calls. Assumes nothing.
use mathlib.Core.Path.{◌≡◌, refl, sym, ap, subst, ◌∙◌}
use mathlib.Core.Bool.{Bool, true, false, cond, ◌&&◌, true≢false}
use mathlib.Core.List.{List, [], ◌∷◌, ◌++◌}
use mathlib.Core.Logic.{◌⊎◌, inl, inr}
use Prim.Native.Nat.{ℕ, zero, suc, ◌+◌, ◌-◌, ◌%◌, ◌≤◌, ◌<◌}
use native.Mathlib.Nat.{not-suc-le-zero, le_of_suc-le-suc}
use native.Mathlib.Omega.{arith}
use borrow.Author.Tests.{ltb-true, ltb-false, le-ltb, not-true}
use lib.Dec.{ltb}
use lib.ListN.{length, get_or, length-append}
use lib.Ieee.{Float}
use Rattle.materials.specs.declared.Density.{Density}
use Rattle.fins.specs.declared.FinSet.{FinSet}
use Rattle.floats.proofs.Bools.{and_right}
use Rattle.refusals.specs.Calls.{CallOf}
use Rattle.limits.specs.Limits.{scratch_numbers}
use Rattle.jobs.specs.Jobs.{made_of}
use Rattle.engines.specs.declared.Engine.{Engine}
use Rattle.engines.specs.declared.EngineTurn.{EngineTurn}
use Rattle.engines.specs.declared.EngineReply.{EngineReply}
use Rattle.engines.specs.Engines.{is_screen, place_of, holds_job, is_free, next_screen, with_held, turn_of, submit_of, change_at}
use Rattle.engines.specs.Calls.{Call, turn, submit, change, engine_by, after_calls}
use Rattle.engines.specs.Calls.{served_by, served_over, screen_of, holds_over, WithinEight}
use Rattle.engines.proofs.Order.{next_no_later}
use Rattle.engines.proofs.Effects.{in_eight, holds_is_screen, turn_short, turn_serves, submit_busy, submit_refuses, submit_takes}
use Rattle.engines.proofs.Effects.{change_not_held, change_goes, others_stay}

-- ---- a call that is no turn, or a turn that does not count, keeps the order of service and who waits
pub record KeepsWaiting (before after : Engine) (screen : ℕ) : Type 0 where
  pub order : after.screens.last ≡ before.screens.last
  pub waits : holds_job after.screens screen ≡ true

module _ (engine : Engine) (screen : ℕ) (waits : holds_job engine.screens screen ≡ true) where
  keeps_same : (after : Engine) → after ≡ engine → KeepsWaiting engine after screen
  keeps_same after is = subst (λ (e : Engine). KeepsWaiting engine e screen) (sym is) (record { order = refl; waits = waits })

  module _ (other : ℕ) (set : FinSet) (points : List Float) (L : ℕ) where
    -- a screen that is free is not the waiting one
    apart : is_free engine.screens other ≡ true → screen ≡ other → ⊥
    unfolding is_free holds_job
    apart f e =
        true≢false
        (sym (and_right (is_screen screen) _ waits) ∙ ap (λ (s : ℕ). get_or engine.screens.held (place_of s) false) e
        ∙ not-true _ (and_right (is_screen other) _ f))

    submit_by : (f e : Bool) → is_free engine.screens other ≡ f → (made_of set points L).job.ended ≡ e
        → KeepsWaiting engine (submit_of engine other set points L).engine screen
    unfolding with_held
    submit_by false e f m = keeps_same _ (submit_busy engine other set points L f)
    submit_by true true f m = keeps_same _ (submit_refuses engine other set points L f m)
    submit_by true false f m =
        record {
          order = ap (λ (c : EngineReply). c.engine.screens.last) (submit_takes engine other set points L f m);
          waits = (others_stay engine (submit other set points L) screen (holds_is_screen engine.screens screen waits) (apart f)).0
              ∙ waits;
        }

    submit_keeps : KeepsWaiting engine (submit_of engine other set points L).engine screen
    submit_keeps = submit_by (is_free engine.screens other) (made_of set points L).job.ended refl refl

  module _ (other : ℕ) (density : Density) where
    change_by : (h : Bool) → holds_job engine.screens other ≡ h → KeepsWaiting engine (change_at engine other density).engine screen
    change_by false h = keeps_same _ (change_not_held engine other density h)
    change_by true h =
        let e = ap (λ (c : EngineReply). c.engine.screens) (change_goes engine other density h) in
        record { order = ap (λ (s : _). s.last) e; waits = ap (λ (s : _). holds_job s screen) e ∙ waits }

    change_keeps : KeepsWaiting engine (change_at engine other density).engine screen
    change_keeps = change_by (holds_job engine.screens other) refl

-- ---- over the calls, from a waiting screen that is m places behind the next
-- the turn that serves it: no more than m turns count before, and the screen keeps its job till then
pub record Served (engine : Engine) (screen m : ℕ) (calls : List Call) : Type 0 where
  pub before : List Call
  pub scratch : List Float
  pub after : List Call
  pub calls_are : calls ≡ before ++ turn scratch ∷ after
  pub few : length (served_over engine before) ≤ m
  pub waits : holds_over screen engine (before ++ turn scratch ∷ []) ≡ true
  pub serves : screen ≡ screen_of (after_calls engine before) (turn scratch)

module _ (engine : Engine) (call : Call) (calls : List Call) where
  served_first : served_over engine (call ∷ calls) ≡ served_by engine call ++ served_over (engine_by engine call) calls
  unfolding served_over
  served_first = refl

  served_counted : length (served_over engine (call ∷ calls))
      ≡ length (served_by engine call) + length (served_over (engine_by engine call) calls)
  served_counted = ap length served_first ∙ length-append (served_by engine call) (served_over (engine_by engine call) calls)

  held_first : (screen : ℕ) → holds_job engine.screens screen ≡ true
      → holds_over screen (engine_by engine call) calls ≡ true → holds_over screen engine (call ∷ calls) ≡ true
  unfolding holds_over
  held_first screen h over = ap (λ (b : Bool). b && holds_over screen (engine_by engine call) calls) h ∙ over

none_over : (engine : Engine) → served_over engine [] ≡ []
unfolding served_over
none_over engine = refl

none_held : (engine : Engine) (screen : ℕ) → holds_over screen engine [] ≡ true
unfolding holds_over
none_held engine screen = refl

-- a call before them
call_before : (engine : Engine) (screen m n : ℕ) (call : Call) (calls : List Call) → holds_job engine.screens screen ≡ true
    → length (served_by engine call) + n ≤ m → Served (engine_by engine call) screen n calls → Served engine screen m (call ∷ calls)
call_before engine screen m n call calls held l s =
    record {
      before = call ∷ s.before;
      scratch = s.scratch;
      after = s.after;
      calls_are = ap (λ (c : List Call). call ∷ c) s.calls_are;
      few = let k = served_counted engine call s.before in omega (arith, k, l, s.few);
      waits = held_first engine call (s.before ++ turn s.scratch ∷ []) screen held s.waits;
      serves = s.serves;
    }

-- what the induction tells of the calls behind
abbrev Behind : Engine → ℕ → List Call → Type 0
Behind after screen calls =
    (k : ℕ) → k < 8 → (after.screens.last + k) % 8 + 1 ≡ screen → holds_job after.screens screen ≡ true
    → k < length (served_over after calls) → Served after screen k calls

as_far_or_nearer : (k m : ℕ) → k ≤ m → (k ≡ m) ⊎ (k < m)
as_far_or_nearer zero zero l = inl refl
as_far_or_nearer zero (suc m) l = inr (omega arith)
as_far_or_nearer (suc k) zero l = absurd (not-suc-le-zero l)
as_far_or_nearer (suc k) (suc m) l = elim (as_far_or_nearer k m (le_of_suc-le-suc l))
    [ inl x ↦ inl (ap suc x) | inr x ↦ inr (omega (arith, x)) ]

module _ (engine : Engine) (screen m : ℕ) (lm : m < 8) (far : (engine.screens.last + m) % 8 + 1 ≡ screen)
    (waits : holds_job engine.screens screen ≡ true) where
  kept : (call : Call) (calls : List Call) → served_by engine call ≡ [] → KeepsWaiting engine (engine_by engine call) screen
      → m < length (served_over engine (call ∷ calls)) → Behind (engine_by engine call) screen calls → Served engine screen m (call ∷ calls)
  kept call calls none keeps l ih =
      let zero_more = ap length none in
      let counted = served_counted engine call calls in
      call_before engine screen m m call calls waits (omega (arith, zero_more))
      (ih m lm (ap (λ (t : ℕ). (t + m) % 8 + 1) keeps.order ∙ far) keeps.waits (omega (arith, l, zero_more, counted)))

  module _ (scratch : List Float) (long : scratch_numbers ≤ length scratch) (calls : List Call)
      (l : m < length (served_over engine (turn scratch ∷ calls))) where
    abbrev Next' : ℕ
    Next' = next_screen engine.screens

    abbrev After' : Engine
    After' = (turn_of engine (length scratch)).answer.engine

    served : screen_of engine (turn scratch) ≡ Next'
    served = ap (λ (b : Bool). cond b 0 Next') (le-ltb (length scratch) scratch_numbers long)

    counts_one : length (served_by engine (turn scratch)) ≡ 1
    counts_one = ap (λ (b : Bool). length (cond b [] (Next' ∷ []))) (le-ltb (length scratch) scratch_numbers long)

    now_served : Next' ≡ screen → Served engine screen m (turn scratch ∷ calls)
    now_served e =
        record {
          before = [];
          scratch = scratch;
          after = calls;
          calls_are = refl;
          few = let k = ap length (none_over engine) in omega (arith, k);
          waits = held_first engine (turn scratch) [] screen waits (none_held (engine_by engine (turn scratch)) screen);
          serves = sym (served ∙ e);
        }

    module _ (k : ℕ) (is : Next' ≡ (engine.screens.last + k) % 8 + 1) (nearer : k < m) where
      -- the screen served is another
      not_it : screen ≡ Next' → ⊥
      not_it e = let y : (engine.screens.last + k) % 8 + 1 ≡ (engine.screens.last + m) % 8 + 1 = sym is ∙ sym e ∙ sym far in
          omega (arith, y, nearer, lm)

      last_is : After'.screens.last ≡ Next'
      unfolding with_held
      last_is = ap (λ (t : CallOf EngineTurn). t.answer.engine.screens.last)
          (turn_serves engine (length scratch) long (omega (arith, is)))

      nearer_now : (After'.screens.last + (m - k - 1)) % 8 + 1 ≡ screen
      nearer_now =
          ap (λ (t : ℕ). (t + (m - k - 1)) % 8 + 1) last_is
          ∙ (let z : (Next' + (m - k - 1)) % 8 + 1 ≡ (engine.screens.last + m) % 8 + 1 = omega (arith, is, nearer) in z)
          ∙ far

      still : holds_job After'.screens screen ≡ true
      still = (others_stay engine (turn scratch) screen (holds_is_screen engine.screens screen waits) (λ e. not_it (e ∙ served))).0
          ∙ waits

      later : Behind After' screen calls → Served engine screen m (turn scratch ∷ calls)
      later ih =
          let counted = served_counted engine (turn scratch) calls in
          call_before engine screen m (m - k - 1) (turn scratch) calls waits (omega (arith, counts_one, nearer))
          (ih (m - k - 1) (omega (arith, lm)) nearer_now still (omega (arith, l, nearer, counted, counts_one)))

    turned : Behind After' screen calls → Served engine screen m (turn scratch ∷ calls)
    turned ih =
        let b = next_no_later engine.screens screen waits m lm far in
        elim (as_far_or_nearer b.0 m b.1.0) [
          | inl same ↦ now_served (b.1.1 ∙ ap (λ (k : ℕ). (engine.screens.last + k) % 8 + 1) same ∙ far)
          | inr nearer ↦ later b.0 b.1.1 nearer ih
        ]

  by_turn : (scratch : List Float) (calls : List Call) (c : Bool) → ltb (length scratch) scratch_numbers ≡ c
      → m < length (served_over engine (turn scratch ∷ calls)) → Behind (turn_of engine (length scratch)).answer.engine screen calls
      → Served engine screen m (turn scratch ∷ calls)
  by_turn scratch calls true c l ih =
      kept (turn scratch) calls (ap (λ (b : Bool). cond b [] (next_screen engine.screens ∷ [])) c)
      (keeps_same engine screen waits _ (turn_short engine (length scratch) (ltb-true _ _ c))) l ih
  by_turn scratch calls false c l ih = turned scratch (ltb-false _ _ c) calls l ih

found : (calls : List Call) (engine : Engine) (screen m : ℕ) → m < 8 → (engine.screens.last + m) % 8 + 1 ≡ screen
    → holds_job engine.screens screen ≡ true
    → m < length (served_over engine calls) → Served engine screen m calls
found [] engine screen m lm far waits l = let k = ap length (none_over engine) in absurd (let z : ⊥ = omega (arith, l, k) in z)
found (turn scratch ∷ calls) engine screen m lm far waits l =
    by_turn engine screen m lm far waits scratch calls (ltb (length scratch) scratch_numbers) refl l
    (found calls (turn_of engine (length scratch)).answer.engine screen)
found (submit other set points L ∷ calls) engine screen m lm far waits l =
    kept engine screen m lm far waits (submit other set points L) calls refl (submit_keeps engine screen waits other set points L) l
    (found calls (submit_of engine other set points L).engine screen)
found (change other density ∷ calls) engine screen m lm far waits l =
    kept engine screen m lm far waits (change other density) calls refl (change_keeps engine screen waits other density) l
    (found calls (change_at engine other density).engine screen)

pub served_soon : (engine : Engine) (screen : ℕ) (calls : List Call) → holds_job engine.screens screen ≡ true
    → 8 ≤ length (served_over engine calls) → Served engine screen 7 calls
served_soon engine screen calls waits n =
    let s = in_eight screen (holds_is_screen engine.screens screen waits) in
    let far : (engine.screens.last + (screen + 7 - engine.screens.last % 8) % 8) % 8 + 1 ≡ screen = omega (arith, s.0, s.1) in
    let r = found calls engine screen ((screen + 7 - engine.screens.last % 8) % 8) (omega arith) far waits (omega (arith, n)) in
    record {
      before = r.before;
      scratch = r.scratch;
      after = r.after;
      calls_are = r.calls_are;
      few = omega (arith, r.few);
      waits = r.waits;
      serves = r.serves;
    }

-- ---- the screens served, as a list
pub calls_both : (engine : Engine) (calls later : List Call)
    → after_calls engine (calls ++ later) ≡ after_calls (after_calls engine calls) later
calls_both engine [] later = refl
calls_both engine (call ∷ calls) later = calls_both (engine_by engine call) calls later

served_at : (screen : ℕ) (before : List Call) (engine : Engine) (call : Call) (after : List Call)
    → served_by (after_calls engine before) call ≡ screen ∷ []
    → get_or (served_over engine (before ++ call ∷ after)) (length (served_over engine before)) 0 ≡ screen
unfolding served_over
served_at screen [] engine call after e = ap (λ (l : List ℕ). get_or (l ++ served_over (engine_by engine call) after) 0 0) e
served_at screen (first ∷ before) engine call after e =
    get_d_behind (served_by engine first) (served_over (engine_by engine first) (before ++ call ∷ after))
    (served_over (engine_by engine first) before)
    ∙ served_at screen before (engine_by engine first) call after e
  where
    get_d_behind : (a b c : List ℕ) → get_or (a ++ b) (length (a ++ c)) 0 ≡ get_or b (length c) 0
    get_d_behind [] b c = refl
    get_d_behind (x ∷ a) b c = get_d_behind a b c

one_served : (engine : Engine) (screen : ℕ) (scratch : List Float) → 1 ≤ screen → screen ≡ screen_of engine (turn scratch)
    → served_by engine (turn scratch) ≡ screen ∷ []
one_served engine screen scratch some e = by (ltb (length scratch) scratch_numbers) e
  where
    by : (c : Bool) → screen ≡ cond c 0 (next_screen engine.screens) → cond c [] (next_screen engine.screens ∷ []) ≡ screen ∷ []
    by true z = absurd (not-suc-le-zero (subst (λ (k : ℕ). 1 ≤ k) z some))
    by false z = ap (λ (k : ℕ). k ∷ []) (sym z)

pub within_eight : WithinEight
within_eight engine screen calls waits n =
    let r = served_soon engine screen calls waits n in
    let some = (in_eight screen (holds_is_screen engine.screens screen waits)).0 in
    let one = one_served (after_calls engine r.before) screen r.scratch some r.serves in
    let at = length (served_over engine r.before) in
    let there = served_at screen r.before engine (turn r.scratch) r.after one in
    (at, (omega (arith, r.few), ap (λ (c : List Call). get_or (served_over engine c) at 0) r.calls_are ∙ there))
