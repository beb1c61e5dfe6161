-- What was taken so far, and nothing else was read while it goes on.
use mathlib.Core.List.{List, [], ◌++◌, append-nil}
use mathlib.Core.Bool.{Bool, true, false, cond, ◌&&◌, true≢false}
use mathlib.Core.Logic.{◌⊎◌, inl, inr}
use mathlib.Core.Path.{◌≡◌, refl, sym, ap, ◌∙◌}
use Prim.Native.Nat.{ℕ, ◌+◌, ◌-◌, ◌*◌, ◌<◌, ◌≤◌}
use native.Mathlib.Omega.{arith}
use borrow.Author.Tests.{ltb-true, ltb-false}
use lib.ListN.{length, take, drop, length-append, length-drop, length-take}
use Rattle.tokens.specs.Tokens.{line_bytes}
use Rattle.input_lines.specs.Lines.{lines_within, begun_after, last_line, lines_of}
use Rattle.input_lines.specs.Taking.{Place, place_in, Begun}
use Rattle.input_lines.proofs.Taking.{Laws, none_handed, also_handed}
use Rattle.reads.specs.Reads.{brought, at_end, most_read}
use Rattle.reads.proofs.Turning.{some_brought, all_taken, not_all_taken, none_at_end, some_not_end, fewer_left}
use Rattle.line_runs.specs.declared.Turn.{Turn}
use Rattle.line_runs.specs.declared.End.{End}
use Rattle.line_runs.specs.Runs.{Lends, Turns, Closes, Runs}
use Rattle.line_runs.proofs.Running.{still_counted, counted_within}
use Rattle.line_runs.proofs.run.Goals as goal
use Rattle.line_runs.proofs.run.Goals.{then-loop-turn-test+else-turn-lt-MOST_READ, else-loop-turn-test}
use Rattle.line_runs.proofs.run.Invariants.{SoFar}

module _ {Memory : Type 0} {Answered : Memory → List (List ℕ) → List ℕ → Memory → Type 0} {Stays : Memory → ℕ → Memory → Type 0} {most : ℕ}
    (laws : Laws Answered Stays) {p : Place Memory} {chunk₀ : List ℕ} {q : Place Memory} {chunk : List ℕ} {turn : Turn}
    (v : SoFar Answered Stays most p chunk₀ q chunk turn) where
  -- what was handed to write can be counted
  counted : (n : ℕ) → turn.read ≤ n → turn.handed ≤ most * n
  counted n l =
      let r = v.reads in
      counted_within most (0 + length v.taken) n (still_counted 0 v.hands (omega arith)) (omega arith)

  -- the taker is still ready
  ready : {Ready : Memory → ℕ → Type 0} → ((m n : Memory) (i j : ℕ) → Ready m i → Stays m j n → Ready n (i + j)) → Ready p.memory 0
      → (n : ℕ) → turn.read ≤ n → Ready q.memory n
  ready {Ready} still first n l =
      let r = v.reads in
      let e : 0 + length v.taken + (n - length v.taken) ≡ n = omega arith in
      rw e at
      (still q.memory q.memory (0 + length v.taken) (n - length v.taken)
      (still p.memory q.memory 0 (length v.taken) first v.hands.takes.stays)
      (laws.still q.memory (n - length v.taken)))

  -- what is lent is still enough
  lends : line_bytes ≤ length p.buffer → p.state.kept ≤ line_bytes → {part : List ℕ} → 0 < length part → length part ≤ 65536
      → Lends q.buffer q.state part
  lends l w some few =
      let b = v.hands.takes.buffers in
      record { line = omega arith; within = v.hands.takes.within w; some = some; most = few }

  -- a turn more
  module _ {after : Place Memory} {chunk₁ : List ℕ} {r : Turn} (t : Turns Answered Stays most q after turn r chunk₁) where
    abbrev Rest : List ℕ
    Rest = take (brought r.got - t.taken) (drop t.taken chunk₁)

    rest_length : length Rest ≡ brought r.got - t.taken
    rest_length = let m = t.most_brought in let s = t.some in simp (length-take, length-drop) (omega arith)

    no_rest : t.taken ≡ brought r.got → Rest ≡ []
    no_rest e = let z : brought r.got - t.taken ≡ 0 = omega arith in rw z refl

    next : turn.more ≡ true → turn.read < most_read → length chunk₀ ≤ 65536 → length chunk₁ ≡ length chunk
        → SoFar Answered Stays most p chunk₀ after chunk₁ r
    next goes few d c =
        let m = t.most_brought in let s = t.some in let l = rest_length in
        let w = t.reads in let u = v.reads in let z = ap length (v.goes goes) in let k = v.chunks in
        let a = length-append v.taken (take t.taken chunk₁) in let b = length-take t.taken chunk₁ in
        record {
          taken = v.taken ++ take t.taken chunk₁;
          rest = Rest;
          hands = also_handed laws v.hands t.hands;
          reads = omega arith;
          few = omega arith;
          goes = λ g. no_rest (t.all (all_taken (brought r.got) r.all (sym t.goes ∙ g)));
          stops = λ g. no_rest (let e = none_at_end r.got g in omega arith);
          halts = λ g. not_all_taken (brought r.got) r.all (sym t.goes ∙ g);
          chunks = c ∙ k;
        }

  -- the lines that ended, and the one that has begun
  abbrev Ended : List (List ℕ)
  Ended = lines_within [] v.taken

  abbrev Last : List ℕ
  Last = begun_after [] v.taken

  -- the end of the run: nothing more was to be read, or too much was
  closed : {told : Memory → Bool → List ℕ} {after : Memory} {out : List ℕ} {r : End}
      → ((m n : Memory) (i : ℕ) → Stays m i n → told n ≡ told m) → Begun p [] → (turn.more ≡ false) ⊎ (most_read ≤ turn.read)
      → Closes Answered told q after turn out r → Runs Answered told p.memory after out r
  closed {told} {after} {out} {r} same k halted e =
      let h = v.hands in let c = h.counts in let d = e.counts in let l = length-append h.text e.text in
      let got : r.turn.got ≡ turn.got = ap (λ (t : Turn). t.got) e.same in
      let read : r.turn.read ≡ turn.read = ap (λ (t : Turn). t.read) e.same in
      record {
        taken = v.taken;
        rest = v.rest;
        reads = read ∙ v.reads;
        text = h.text ++ e.text;
        hands = omega arith;
        answers =
            rw got
            (up_to (at_end turn.got)
            (laws.then_lines p.memory q.memory after Ended (cond (at_end turn.got) (last_line Last) []) h.text e.text
            (h.takes.answers [] k) (e.answers Last (h.takes.keeps [] k))));
        all = λ a. v.stops (sym (ap at_end got) ∙ a);
        stops = λ b a. rw read (by (rw got at b) a halted);
        tells =
            e.tells
            ∙ ap (λ (f : Bool → List ℕ). f (at_end r.turn.got && r.all))
            (same p.memory q.memory (length v.taken) h.takes.stays);
        room = e.room;
      }
    where
      up_to : (b : Bool) {text : List ℕ} → Answered p.memory (Ended ++ cond b (last_line Last) []) text after
          → Answered p.memory (cond b (lines_of v.taken) Ended) text after
      up_to true a = a
      up_to false a = rw (append-nil Ended) at a

      by : 0 < brought turn.got → r.all ≡ true → (turn.more ≡ false) ⊎ (most_read ≤ turn.read) → most_read ≤ turn.read
      by b a (inl m) = absurd (true≢false (sym a ∙ e.all (some_not_end turn.got b) ∙ v.halts m b))
      by b a (inr m) = m

pub loop-turn-init : goal.loop-turn-init
loop-turn-init g c =
    record {
      taken = [];
      rest = [];
      hands = none_handed g.T.Answers.laws;
      reads = refl;
      few = omega arith;
      goes = λ _. refl;
      stops = λ _. refl;
      halts = λ e. absurd (true≢false e);
      chunks = refl;
    }

pub take_turn-turn-requires : goal.take_turn-turn-requires
take_turn-turn-requires g c =
    let m = g.T.Answers in let v = c.loop-turn.invariant in let d = c.requires.0 in
    let begun : Begun (place_in c.args.buffer.now c.no_line-state.result c.args.taker.now) [] = c.no_line-state.ensures c.args.buffer.now in
    let k = begun.count in let chunks = v.chunks in let few = d.most in let some = d.some in
    let l = ltb-true c.loop-turn.turn.read most_read c.if-turn-lt-MOST_READ.true-raw in (
      lends m.laws v d.line (omega arith) (omega arith) (omega arith),
      counted m.laws v most_read (omega arith),
      l,
      ready m.laws v m.still_ready c.requires.1 most_read (omega arith),
    )

pub loop-turn-smaller : goal.loop-turn-smaller
loop-turn-smaller g c =
    let p = c.take_turn-turn.ensures in let r = c.take_turn-turn.result in
    fewer_left c.loop-turn.turn.read (brought r.got) r.read c.loop-turn.turn.more r.more c.loop-turn-test.true
    (ltb-true c.loop-turn.turn.read most_read c.if-turn-lt-MOST_READ.true-raw) p.reads
    (λ h. some_brought (brought r.got) r.all (sym p.goes ∙ h))

pub loop-turn-preserved : goal.loop-turn-preserved
loop-turn-preserved g c =
    next g.T.Answers.laws c.loop-turn.invariant c.take_turn-turn.ensures c.loop-turn-test.true
    (ltb-true c.loop-turn.turn.read most_read c.if-turn-lt-MOST_READ.true-raw) c.requires.0.most c.take_turn-turn.auto.chunk

pub end_run-requires : goal.end_run-requires
end_run-requires g c =
    let m = g.T.Answers in let v = c.loop-turn.invariant in let d = c.requires.0 in
    let begun : Begun (place_in c.args.buffer.now c.no_line-state.result c.args.taker.now) [] = c.no_line-state.ensures c.args.buffer.now in
    let k = begun.count in let chunks = v.chunks in let few = d.most in let some = d.some in (
      (let b = v.hands.takes.buffers in let line = d.line in omega arith),
      v.hands.takes.within (omega arith),
      counted m.laws v (most_read + 65536) v.few,
      ready m.laws v m.still_ready c.requires.1 (most_read + 65536) v.few,
    )

pub shape_of-buffer : goal.shape_of-buffer
shape_of-buffer g c = c.loop-turn.invariant.hands.takes.buffers

pub shape_of-chunk : goal.shape_of-chunk
shape_of-chunk g c = c.loop-turn.invariant.chunks

pub returns : goal.returns
returns g c =
    let begun : Begun (place_in c.args.buffer.now c.no_line-state.result c.args.taker.now) [] = c.no_line-state.ensures c.args.buffer.now in
    let turn = c.loop-turn.turn in
    let halted : (turn.more ≡ false) ⊎ (most_read ≤ turn.read) =
    elim c.loop-turn-test.branch [
      | then-loop-turn-test+else-turn-lt-MOST_READ w ↦ inr (ltb-false turn.read most_read w.if-turn-lt-MOST_READ.false-raw)
      | else-loop-turn-test w ↦ inl w.loop-turn-test.false
    ] in
    closed g.T.Answers.laws c.loop-turn.invariant g.T.Answers.told_stays begun halted c.end_run.ensures
