-- What a line asks is what is replied and left; so the lines since a submission are calls on the engine that the program began with, and
-- the card that ends the job is that of the set's own line. Assumes nothing.
use Rattle.std.specs.Prelude.{Ok, Err}
use mathlib.Core.Bool.{Bool, true, false, not, cond}
use mathlib.Core.List.{List, [], ◌∷◌, ◌++◌}
use mathlib.Core.Path.{◌≡◌, refl, sym, ap, subst, ◌∙◌}
use Prim.Native.Nat.{ℕ, ◌≤◌}
use native.Mathlib.Nat.{le_trans}
use native.Mathlib.Omega.{arith}
use borrow.Author.Tests.{le-ltb}
use lib.Dec.{leb}
use lib.ListN.{length, take, get_or, length-replicate}
use lib.Ieee.{Float}
use Rattle.floats.specs.Operations.{bits}
use Rattle.tokens.specs.Text.{codes, text}
use Rattle.tokens.specs.Tokens.{line_bytes}
use Rattle.refusals.specs.declared.Refusal.{Refusal}
use Rattle.refusals.specs.declared.Refusal.TheVariants.{NoForm as no_form}
use Rattle.refusals.specs.Verdict.{Verdict}
use Rattle.refusals.specs.Order.{is_refused}
use Rattle.refusals.specs.Calls.{leaves_alone, by_verdict}
use Rattle.refusals.proofs.Accepted.{both}
use Rattle.limits.specs.Limits.{scratch_numbers, limit_check, scratch_check}
use Rattle.fins.specs.declared.FinSet.{FinSet}
use Rattle.fins.specs.Fins.{set_check, area_check}
use Rattle.planforms.specs.declared.Planform.{Planform}
use Rattle.reading.specs.declared.Asked.{Asked}
use Rattle.reading.specs.declared.Asked.TheVariants.{Refused as RefusedAsked, Set, Area, Join, Moments, Check, Tubes, Closing, Drill}
use Rattle.reading.specs.declared.Asked.TheVariants.{Copied, Placed, Moved, Without, Submit, Density, Turn, Progress}
use Rattle.reading.specs.Lines.{refused_read, pick_read, form_read, form_named, word_of, line_read}
use Rattle.answers.specs.Filled.{filled}
use Rattle.answers.specs.declared.Shape.TheVariants.{Taken as TakenShape, More as MoreShape}
use Rattle.answers.specs.Answers.{text_of, reply as answered}
use Rattle.figures.specs.declared.Figures.{Figures}
use Rattle.figures.specs.Figures.{set_strips, refused_figures, worked_figures, worked_set, set_call, set_figures}
use Rattle.figures.specs.Areas.{area_seven, refused_area, worked_area, area_call}
use Rattle.jobs.specs.Jobs.{making_check}
use Rattle.jobs.specs.Calls.{is_taken}
use Rattle.jobs.specs.Calls as alone
use Rattle.jobs.proofs.Writes.{run_no_shorter}
use Rattle.jobs.proofs.Together as job
use Rattle.engines.specs.declared.Engine.{Engine}
use Rattle.engines.specs.declared.EngineReply.{EngineReply}
use Rattle.engines.specs.declared.Turn.{Turn as Turning}
use Rattle.engines.specs.declared.Turn.TheVariants.{More, Ended}
use Rattle.engines.specs.declared.EngineTurn.{EngineTurn}
use Rattle.engines.specs.Engines.{holds_job, next_screen, turn_row, served_screen, turn_of, turned_row, submit_of}
use Rattle.engines.specs.Calls.{Call, turn, submit, engine_by, after_calls, EightScreens, job_of, screen_of, served_over, holds_over}
use Rattle.engines.specs.Calls.{GetsStrip, Serves, engine_now, OnScreen}
use Rattle.engines.proofs.Effects.{in_eight, holds_is_screen}
use Rattle.engines.proofs.Alone as one
use Rattle.engines.proofs.Submissions.{eight_behind, on_screen, strip_within_eight}
use Rattle.engines.proofs.Drawn.{turn_no_shorter, drawn_on_screen}
use Rattle.lines.specs.Lines.{Memory, refused_reply, plain_reply, set_reply, done_reply, turn_reply}
use Rattle.lines.specs.Lines.{set_effect, area_effect, submit_effect, density_effect, turn_effect, effect_of, line_effect}
use Rattle.inputs.specs.Inputs.{reply, left_by_line, left_by_lines}
use Rattle.inputs.proofs.Lines.{left_append}
use Rattle.card.specs.Program.{at_first}
use Rattle.card.specs.Screens.{calls_over}
use Rattle.card.specs.Cards.{WritesSet, AsksTurn, Replies, found_then, left_then, left_now, HeldSince}
use Rattle.card.specs.Cards.{own_since, set_now, card_now, CardOnLines}
use Rattle.card.proofs.AtFirst.{begins_at_first}
use Rattle.card.proofs.F64s.{submitted_f64}
use Rattle.card.proofs.Scratch.{enough}
use Rattle.card.proofs.Screens.{engine_by_calls}

-- ---- a line that asks something: a longer line than any form is refused as one that is none
reply_is : (line : List ℕ) (a : Asked) → (line_read line).asked ≡ a → (m : Memory)
    → reply line m ≡ text_of (effect_of a (line_read line).figures m).reply ++ (10 ∷ [])
unfolding reply line_effect line_read
reply_is line a asks m =
    by (leb (length line) line_bytes) ∙ ap (λ (x : Asked). text_of (effect_of x (line_read line).figures m).reply ++ (10 ∷ [])) asks
  where
    by : (b : Bool) → let r = pick_read b (form_read (form_named (word_of line)) line) (refused_read no_form) in
        cond b (text_of (effect_of r.asked r.figures m).reply) (text_of (refused_reply no_form)) ++ (10 ∷ [])
        ≡ text_of (effect_of r.asked r.figures m).reply ++ (10 ∷ [])
    by true = refl
    by false = refl

left_is : (line : List ℕ) (a : Asked) → (line_read line).asked ≡ a → (m : Memory)
    → left_by_line line m ≡ (effect_of a (line_read line).figures m).memory
unfolding left_by_line line_effect line_read
left_is line a asks m =
    by (leb (length line) line_bytes) ∙ ap (λ (x : Asked). (effect_of x (line_read line).figures m).memory) asks
  where
    by : (b : Bool) → let r = pick_read b (form_read (form_named (word_of line)) line) (refused_read no_form) in
        cond b (effect_of r.asked r.figures m).memory m ≡ (effect_of r.asked r.figures m).memory
    by true = refl
    by false = refl

-- ---- the scratch stays long enough
set_no_shorter : (set : FinSet) (points : List Float) (L : ℕ) (scratch : List Float)
    → length scratch ≤ length ((set_call set points L (length scratch)).leaves scratch)
unfolding set_call
set_no_shorter set points L scratch =
    run_no_shorter (set_check set points L (length scratch)) (worked_figures set points L) (λ refusal. refused_figures refusal 0)
    (set_strips set points L) scratch

area_no_shorter : (planform : Planform) (points : List Float) (L : ℕ) (scratch : List Float)
    → length scratch ≤ length ((area_call planform points L (length scratch)).leaves scratch)
unfolding area_call
area_no_shorter planform points L scratch =
    run_no_shorter (area_check planform points L (length scratch)) (worked_area planform points L) (λ refusal. refused_area refusal 0)
    (area_seven planform points L) scratch

asked_no_shorter : (a : Asked) (figures : List Float) (m : Memory) → length m.scratch ≤ length (effect_of a figures m).memory.scratch
unfolding set_effect area_effect submit_effect density_effect turn_effect
asked_no_shorter (RefusedAsked refusal) figures m = omega arith
asked_no_shorter (Set limit set points) figures m = set_no_shorter set _ limit m.scratch
asked_no_shorter (Area limit planform points) figures m = area_no_shorter planform _ limit m.scratch
asked_no_shorter Join figures m = omega arith
asked_no_shorter Moments figures m = omega arith
asked_no_shorter Check figures m = omega arith
asked_no_shorter (Tubes set radius) figures m = omega arith
asked_no_shorter (Closing count radius) figures m = omega arith
asked_no_shorter (Drill planform points x height) figures m = omega arith
asked_no_shorter Copied figures m = omega arith
asked_no_shorter Placed figures m = omega arith
asked_no_shorter Moved figures m = omega arith
asked_no_shorter Without figures m = omega arith
asked_no_shorter (Submit screen limit set points) figures m = omega arith
asked_no_shorter (Density screen density) figures m = omega arith
asked_no_shorter Turn figures m = turn_no_shorter m.engine m.scratch
asked_no_shorter (Progress screen) figures m = omega arith

line_no_shorter : (line : List ℕ) (m : Memory) → length m.scratch ≤ length (left_by_line line m).scratch
line_no_shorter line m =
    subst (λ (x : Memory). length m.scratch ≤ length x.scratch) (sym (left_is line _ refl m))
    (asked_no_shorter (line_read line).asked (line_read line).figures m)

lines_no_shorter : (lines : List (List ℕ)) (m : Memory) → length m.scratch ≤ length (left_by_lines lines m).scratch
unfolding left_by_lines
lines_no_shorter [] m = omega arith
lines_no_shorter (line ∷ lines) m = le_trans (line_no_shorter line m) (lines_no_shorter lines (left_by_line line m))

first_length : length at_first.scratch ≡ scratch_numbers
unfolding at_first
first_length = length-replicate scratch_numbers (bits 0)

stays_long : (lines : List (List ℕ)) → scratch_numbers ≤ length (left_by_lines lines at_first).scratch
stays_long lines = omega (arith, first_length, lines_no_shorter lines at_first)

-- ---- the set's own line
-- over any scratch that is long enough
same_check : (set : FinSet) (points : List Float) (L n m : ℕ) → scratch_check L n ≡ Ok tt → scratch_check L m ≡ Ok tt
    → set_check set points L n ≡ set_check set points L m
unfolding set_check
same_check set points L n m e f = rw (e, f)

same_figures : (set : FinSet) (points : List Float) (L n m : ℕ) → scratch_check L n ≡ Ok tt → scratch_check L m ≡ Ok tt
    → set_figures set points L n ≡ set_figures set points L m
unfolding set_call
same_figures set points L n m e f =
    ap (λ (v : Verdict). (by_verdict v (worked_set set points L) (λ refusal. leaves_alone (refused_figures refusal 0))).answer)
    (same_check set points L n m e f)

set_line : (line : List ℕ) (set : FinSet) (points : List Float) (L : ℕ) → WritesSet Set line set points L → limit_check L ≡ Ok tt
    → (lines : List (List ℕ)) (card : Figures)
    → card ≡ set_figures set points L scratch_numbers → Replies line (left_by_lines lines at_first) (set_reply card)
unfolding set_effect
set_line line set points L w limit lines card c =
    let m = left_by_lines lines at_first in
    let n = length m.scratch in
    reply_is line _ w.asks m
    ∙ ap (λ (f : Figures). text_of (set_reply f) ++ (10 ∷ []))
    (ap (λ (p : List Float). set_figures set p L n) w.points_are
    ∙ same_figures set points L n scratch_numbers (enough L n limit (stays_long lines)) (enough L scratch_numbers limit (omega arith))
    ∙ sym c)

-- ---- a submission that is answered taken
abbrev second : List ℕ → ℕ
second l = get_or l 1 0

refused_other : (r : Refusal) → text_of (refused_reply r) ++ (10 ∷ []) ≡ text_of (answered TakenShape [] []) ++ (10 ∷ []) → ⊥
unfolding text_of filled text codes
refused_other r e = let k : ◌≡◌ {A = ℕ} 114 116 = ap second e in let z : ⊥ = omega (arith, k) in z

accepted_if_taken : (v : Verdict) → text_of (plain_reply v TakenShape) ++ (10 ∷ []) ≡ text_of (answered TakenShape [] []) ++ (10 ∷ [])
    → v ≡ Ok tt
accepted_if_taken (Ok _) e = refl
accepted_if_taken (Err r) e = absurd (refused_other r e)

-- ---- the turn that serves a screen, as a line
module _ (m : Memory) (long : scratch_numbers ≤ length m.scratch) (screen : ℕ) (some : 1 ≤ screen)
    (next : next_screen m.engine.screens ≡ screen) where
  abbrev EngineTurn' : EngineTurn
  EngineTurn' = (turn_of m.engine (length m.scratch)).answer

  serves_screen : screen ≡ screen_of m.engine (turn m.scratch)
  serves_screen = sym next
      ∙ sym (ap (λ (b : Bool). cond b 0 (next_screen m.engine.screens)) (le-ltb (length m.scratch) scratch_numbers long))

  turn_replies : (line : List ℕ) → AsksTurn line → (t : Turning) → EngineTurn'.turn ≡ t
      → Replies line m (turn_reply t (turned_row EngineTurn').figures)
  unfolding turn_effect
  turn_replies line t a e =
      reply_is line Turn t m ∙ ap (λ (x : Turning). text_of (turn_reply x (turned_row EngineTurn').figures) ++ (10 ∷ [])) e

  held_after : (line : List ℕ) → AsksTurn line → (b : Bool) → holds_job (left_by_line line m).engine.screens screen ≡ b
      → holds_job EngineTurn'.engine.screens screen ≡ b
  unfolding turn_effect
  held_after line t b h =
      ap (λ (x : Memory). holds_job x.engine.screens screen) (sym (left_is line Turn t m)) ∙ h

-- ---- since a submission
module _ (before : List (List ℕ)) (submission : List ℕ) (since : List (List ℕ)) (screen : ℕ) (set : FinSet) (points : List Float) (L : ℕ)
    (h : HeldSince before submission since screen set points L) where
  abbrev Found' : Memory
  Found' = found_then before submission since

  abbrev Left' : Memory
  Left' = left_then before submission since

  abbrev Now' : Memory
  Now' = left_now before submission since

  abbrev Calls' : List Call
  Calls' = calls_over since Left'

  abbrev Own' : List alone.Call
  Own' = own_since before submission since screen set points L

  named : submit_of Found'.engine screen set (take h.writes.count (line_read submission).figures) L
      ≡ submit_of Found'.engine screen set points L
  named = ap (λ (p : List Float). submit_of Found'.engine screen set p L) h.writes.points_are

  was_taken : is_taken (submit_of Found'.engine screen set points L).reply ≡ true
  unfolding submit_effect
  was_taken =
      ap (λ (v : Verdict). not (is_refused v))
      (ap (λ (c : EngineReply). c.reply.verdict) (sym named)
      ∙ accepted_if_taken _ (sym (reply_is submission _ h.writes.asks Found') ∙ h.taken))

  left_engine : Left'.engine ≡ engine_by Found'.engine (submit screen set points L)
  unfolding submit_effect
  left_engine =
      ap (λ (m : Memory). m.engine) (left_is submission _ h.writes.asks Found')
      ∙ ap (λ (c : EngineReply). c.engine) named

  now_is : Now' ≡ left_by_lines since Left'
  unfolding left_by_lines
  now_is = left_append before (submission ∷ since) at_first

  engine_now_lem : Now'.engine ≡ engine_now Found'.engine screen set points L Calls'
  engine_now_lem =
      ap (λ (m : Memory). m.engine) now_is ∙ engine_by_calls since Left' ∙ ap (λ (e : Engine). after_calls e Calls') left_engine

  eight_then : EightScreens Found'.engine
  eight_then =
      subst EightScreens (sym (engine_by_calls before at_first))
      (eight_behind (calls_over before at_first) at_first.engine begins_at_first.eight)

  held_now : holds_job (engine_now Found'.engine screen set points L Calls').screens screen ≡ true
  held_now = subst (λ (e : Engine). holds_job e.screens screen ≡ true) engine_now_lem h.holds_now

  on : OnScreen Found'.engine screen set points L Calls'
  on =
      on_screen Found'.engine eight_then screen set points L Calls' was_taken
      (subst (λ (e : Engine). holds_over screen e Calls' ≡ true) left_engine h.holds)
      held_now

  eight_left : EightScreens Left'.engine
  eight_left = subst EightScreens (sym left_engine) (eight_behind (submit screen set points L ∷ []) Found'.engine eight_then)

  limit_checked : limit_check L ≡ Ok tt
  unfolding making_check
  limit_checked = (both _ _ on.job.accepted).0

  long : scratch_numbers ≤ length Now'.scratch
  long = stays_long (before ++ submission ∷ since)

  module _ (next : next_screen Now'.engine.screens ≡ screen) where
    some : 1 ≤ screen
    some = (in_eight screen (holds_is_screen Now'.engine.screens screen h.holds_now)).0

    abbrev EngineTurn'' : EngineTurn
    EngineTurn'' = (turn_of Now'.engine (length Now'.scratch)).answer

    serves : Serves screen set points L Own' EngineTurn''
    serves =
        subst
        (λ (e : Engine). screen ≡ screen_of e (turn Now'.scratch)
        → Serves screen set points L Own' (turn_of e (length Now'.scratch)).answer)
        (sym engine_now_lem) (on.next_turn Now'.scratch) (serves_screen Now' long screen some next)

    abbrev Replied' : (line : List ℕ) → AsksTurn line → (t : Turning) → EngineTurn''.turn ≡ t
        → Replies line Now' (turn_reply t (turned_row EngineTurn'').figures)
    Replied' = turn_replies Now' long screen some next

    abbrev Held' : (line : List ℕ) → AsksTurn line → (b : Bool) → holds_job (left_by_line line Now').engine.screens screen ≡ b
        → holds_job EngineTurn''.engine.screens screen ≡ b
    Held' = held_after Now' long screen some next

    more_replied : (line : List ℕ) → AsksTurn line → holds_job (left_by_line line Now').engine.screens screen ≡ true
        → Replies line Now' (answered MoreShape [] (screen ∷ []))
    more_replied line t held = Replied' line t (More screen) (serves.goes_on (Held' line t true held))

    card_replied : (line : List ℕ) → AsksTurn line → holds_job (left_by_line line Now').engine.screens screen ≡ false
        → (card : Figures) → card ≡ card_now before submission since screen set points L
        → Replies line Now' (done_reply screen card.verdict card)
    card_replied line t free card c =
        let long_enough = enough L scratch_numbers limit_checked (omega arith) in
        let ended = serves.ends_as_fresh (Held' line t false free) scratch_numbers long_enough in
        let told : (turned_row EngineTurn'').figures ≡ card =
        ap (λ (x : Turning). (turn_row x (job_of EngineTurn''.engine (served_screen x))).figures) ended.0 ∙ ended.1 ∙ sym c in
        Replied' line t (Ended screen) ended.0 ∙ ap (λ (f : Figures). text_of (done_reply screen f.verdict f) ++ (10 ∷ [])) told

  pub card_on_lines : CardOnLines before submission since screen set points L
  card_on_lines =
      record {
        engine_is = engine_now_lem;
        on_screen = on;
        over_calls = job.over_calls set points L on.job.accepted Own';
        as_alone = one.as_alone Calls' Left'.engine eight_left screen;
        drawn =
            let f64s = submitted_f64 submission screen set points L h.writes in
            drawn_on_screen Found'.engine screen set points L Calls' f64s on held_now;
        goes_on = λ line t next held. more_replied next line t held;
        ends = λ line t next free. card_replied next line t free _ refl;
        own_line =
            λ line w lines. set_line line (set_now before submission since screen set points L) points L w limit_checked lines _ refl;
      }

-- ---- a waiting screen gets its strip within eight of the lines' turns
pub strip_on_lines : (earlier lines : List (List ℕ)) (screen : ℕ) → holds_job (left_by_lines earlier at_first).engine.screens screen ≡ true
    → 8 ≤ length (served_over (left_by_lines earlier at_first).engine (calls_over lines (left_by_lines earlier at_first)))
    → GetsStrip (left_by_lines earlier at_first).engine screen (calls_over lines (left_by_lines earlier at_first))
strip_on_lines earlier lines screen =
    let calls = calls_over lines (left_by_lines earlier at_first) in
    subst (λ (e : Engine). holds_job e.screens screen ≡ true → 8 ≤ length (served_over e calls) → GetsStrip e screen calls)
    (sym (engine_by_calls earlier at_first))
    (λ waits eight. strip_within_eight at_first.engine begins_at_first (calls_over earlier at_first) screen waits calls eight)
