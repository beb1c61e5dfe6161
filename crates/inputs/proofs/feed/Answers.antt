-- `inputs::feed` meets its contract: what was taken of the chunk so far, the bytes of a line and its newline each time. Assumes nothing.
use mathlib.Core.List.{List, []}
use mathlib.Core.Logic.{◌⊎◌, inl, inr}
use mathlib.Core.Path.{◌≡◌, refl, sym, ap, ◌∙◌}
use Prim.Native.Nat.{ℕ, zero, suc, ◌+◌, ◌-◌, ◌<◌, ◌≤◌}
use native.Mathlib.Nat.{not-suc-le-zero, eq-or-lt_of_le}
use native.Mathlib.Omega.{arith}
use lib.ListN.{length, take, drop, get_or, length-take, length-drop}
use lib.Seq.{take_all, get_or-drop}
use Rattle.texts.specs.Appended.{Appended}
use Rattle.input_lines.specs.declared.KeptLine.{KeptLine}
use Rattle.input_lines.specs.Kept.{Keeps, KeepsLine}
use Rattle.input_lines.specs.Taking.{Begun}
use Rattle.inputs.specs.Inputs.{reply_bytes}
use Rattle.inputs.specs.States.{Place, memory_at, kept_reply, kept_left, SameLengths, TakesInto, Feeds}
use Rattle.inputs.proofs.Lengths.{grow}
use Rattle.inputs.proofs.Taking.{none_into, line_more, newline_more}
use Rattle.inputs.proofs.feed.Goals as goal
use Rattle.inputs.proofs.feed.Invariants.{RoomAfter, SoFar}

-- what is left of the chunk
abbrev rest : List ℕ → ℕ → List ℕ
rest chunk taken = take (length chunk - taken) (drop taken chunk)

rest_all : (chunk : List ℕ) (taken : ℕ) → rest chunk taken ≡ drop taken chunk
rest_all chunk taken = take_all (length chunk - taken) (drop taken chunk) (simp length-drop (omega arith))

rest_length : (chunk : List ℕ) (taken : ℕ) → length (rest chunk taken) ≡ length chunk - taken
rest_length chunk taken = simp (length-take, length-drop) (omega arith)

module _ {p : Place} {chunk out₀ : List ℕ} {n : ℕ} {q : Place} {out : List ℕ} {taken written : ℕ}
    (v : SoFar p chunk out₀ n q out taken written) where
  -- the bytes of a line: no reply is longer for them
  kept : {after : List ℕ} {r : KeptLine} → taken < length chunk → reply_bytes ≤ length out - written
      → KeepsLine q.buffer after q.state (rest chunk taken) r → length after ≡ length q.buffer
      → SoFar p chunk out₀ n (record { buffer = after; state = r.state; memory = q.memory }) out (taken + r.taken) written
  kept {after} {r} h g k e =
      let l = rest_length chunk taken in let m = k.some in
      record { into = into; some = omega arith; each = room; begins = λ z. v.begins (omega arith) }
    where
      into :
          TakesInto p (take (taken + r.taken) chunk) (record { buffer = after; state = r.state; memory = q.memory }) out₀ n out written
      into = line_more chunk taken v.into (rw (rest_all chunk taken) at k) e

      room : (begun : List ℕ) → Begun p begun → (j : ℕ) → j < taken + r.taken → RoomAfter p chunk out₀ n begun j
      room begun b j l =
          let m = grow begun chunk (memory_at p) j (taken + r.taken) (omega arith) in
          let t = ap length (into.takes.answers begun b).replied in let a = into.appended.ends in
          let o = into.outs in let w = into.room in
          omega arith

  -- after a line's bytes that are not all of the chunk, its newline
  ended : {after : List ℕ} {r : KeptLine} → taken < length chunk → KeepsLine q.buffer after q.state (rest chunk taken) r
      → (taken + r.taken ≡ length chunk → ⊥) → get_or chunk (taken + r.taken) 0 ≡ 10
  ended {after} {r} h k e =
      let l = rest_length chunk taken in let m = k.some in
      sym (get_or-drop taken chunk r.taken 0)
      ∙ ap (λ (x : List ℕ). get_or x r.taken 0) (sym (rest_all chunk taken)) ∙ k.ends (omega arith)

  -- a newline
  next : {r : Place} {out₁ : List ℕ} {w : ℕ} → taken < length chunk → reply_bytes ≤ length out - written → get_or chunk taken 0 ≡ 10
      → ((buffer : List ℕ) → Keeps buffer r.state [])
      → length r.buffer ≡ length q.buffer → SameLengths q.memory 1 r.memory → length out₁ ≡ length out
      → Appended out written (kept_reply q) out₁ w → memory_at r ≡ kept_left q → SoFar p chunk out₀ n r out₁ (taken + 1) w
  next {r} {out₁} {w} h g b empty buffers same e a left =
      let f = v.into.room in
      record {
        into = newline_more chunk taken v.into h b empty buffers same a left (omega arith) e;
        some = omega arith;
        each = λ begun k j l. room begun k j (eq-or-lt_of_le (let m : j ≤ taken = omega arith in m));
        begins = λ z. absurd (let y : ⊥ = omega arith in y);
      }
    where
      room : (begun : List ℕ) → Begun p begun → (j : ℕ) → (j ≡ taken) ⊎ (j < taken) → RoomAfter p chunk out₀ n begun j
      room begun k j (inl z) =
          let e = ap length (v.into.takes.answers begun k).replied in let a = v.into.appended.ends in
          let o = v.into.outs in let w = v.into.room in
          rw z (omega arith)
      room begun k j (inr z) = v.each begun k j z

  -- out has no room for one reply more
  stops : length out - written < reply_bytes → Feeds p q chunk out₀ n out (record { state = q.state; taken = taken; written = written })
  stops h =
      let e = v.into.outs in
      record { into = v.into; some = v.some; each = v.each; all = λ _. omega arith; moves = λ g m. moved m taken refl }
    where
      moved : n + reply_bytes ≤ length out₀ → (k : ℕ) → taken ≡ k → 0 < taken
      moved m zero z = let b = v.begins z in let e = v.into.outs in absurd (let y : ⊥ = omega arith in y)
      moved m (suc k) z = omega arith

  -- or all of the chunk is taken
  ends : length chunk ≤ taken → Feeds p q chunk out₀ n out (record { state = q.state; taken = taken; written = written })
  ends h =
      record {
        into = v.into;
        some = v.some;
        each = v.each;
        all = λ g. absurd (let z : ⊥ = omega arith in z);
        moves = λ g m. omega arith;
      }

pub loop-taken-init : goal.loop-taken-init
loop-taken-init c =
    record { into = none_into c.requires.1; some = omega arith; each = λ begun k j l. absurd (not-suc-le-zero l); begins = λ _. refl }

pub loop-taken-preserved : goal.loop-taken-preserved
loop-taken-preserved c =
    let k = (kept c.loop-taken.invariant c.loop-taken-test.true c.if-out-written-lt-REPLY_BYTES.false
    c.keep_line-line.ensures c.keep_line-line.auto.buffer) in
    let m = k.some in
    let reply = c.reply-written in
    next k (omega (arith, c.if-end-chunk.false, m)) c.if-out-written-lt-REPLY_BYTES.false
    (ended c.loop-taken.invariant c.loop-taken-test.true c.keep_line-line.ensures c.if-end-chunk.false) c.no_line-state.ensures
    refl (record { scratches = reply.auto.scratch; numbers = reply.auto.engine_numbers; counts = reply.auto.engine_counts })
    reply.auto.out reply.ensures.appended reply.ensures.leaves

pub returns-then-end-chunk : goal.returns-then-end-chunk
returns-then-end-chunk c =
    let e = c.if-end-chunk.true in ends (kept c.loop-taken.invariant c.loop-taken-test.true c.if-out-written-lt-REPLY_BYTES.false
    c.keep_line-line.ensures c.keep_line-line.auto.buffer) (omega arith)
