-- A call of `feed` with its replies written, and what was put at the start of a buffer. Assumes nothing.
use mathlib.Core.List.{List}
use mathlib.Core.Bool.{Bool}
use mathlib.Core.Path.{◌≡◌, refl, ap}
use Prim.Native.Nat.{ℕ, ◌+◌, ◌-◌, ◌^◌, ◌<◌, ◌≤◌}
use native.Mathlib.Omega.{arith}
use lib.ListN.{length, take, drop, length-take, length-drop}
use lib.Seq.{take_all}
use Rattle.texts.specs.Appended.{Appended}
use Rattle.input_lines.specs.declared.State.{State}
use Rattle.input_lines.specs.Taking.{place_in}
use Rattle.input_lines.specs.Taking.{Takes as TakesOver}
use Rattle.inputs.specs.Inputs.{reply_bytes}
use Rattle.inputs.specs.declared.Fed.{Fed}
use Rattle.inputs.specs.States.{Takes, Feeds}
use Rattle.reads.specs.Reads.{most_read}
use Rattle.line_runs.specs.declared.Step.{Step}
use Rattle.card.specs.declared.Replying.{Replying}
use Rattle.card.specs.Program.{lent_at, Counted, AnsweredOver, StaysOver, Steps}

-- what is taken over scratch and engine is taken over what replies
over : {buffer after : List ℕ} {s t : State} {m n : Replying} {bytes text : List ℕ}
    → Takes (place_in buffer s (lent_at m)) bytes (place_in after t (lent_at n)) text
    → TakesOver AnsweredOver StaysOver reply_bytes (place_in buffer s m) bytes (place_in after t n) text
over t =
    record {
      answers = λ begun k. record { answered = t.answers begun k };
      keeps = t.keeps;
      short = t.short;
      within = t.within;
      buffers = t.buffers;
      stays = record { lengths = t.stays };
    }

-- the bytes of a chunk from a place on, as `feed` is handed them
rest_all : (chunk : List ℕ) (at : ℕ) → take (length chunk - at) (drop at chunk) ≡ drop at chunk
rest_all chunk at = take_all (length chunk - at) (drop at chunk) (simp length-drop (omega arith))

-- a call of `feed`, with its replies written
module _ {buffer after : List ℕ} (m n : Replying) (chunk : List ℕ) (s : Step) {out written : List ℕ} {f : Fed} (h : s.taken < length chunk)
    (o : reply_bytes ≤ length out)
    (fed : Feeds (place_in buffer s.state (lent_at m)) (place_in after f.state (lent_at n))
    (take (length chunk - s.taken) (drop s.taken chunk)) out 0 written f) where
  rest_length : length (take (length chunk - s.taken) (drop s.taken chunk)) ≡ length chunk - s.taken
  rest_length = simp (length-take, length-drop) (omega arith)

  pub fed_within : s.taken + f.taken ≤ length chunk
  fed_within = let l = rest_length in let i = fed.some in omega arith

  pub fed_steps : (all : Bool)
      → Steps (place_in buffer s.state m) (place_in after f.state n) s
      (record { state = f.state; taken = s.taken + f.taken; handed = s.handed + f.written; written = f.written; all = all })
      chunk written
  fed_steps all =
      let e : s.taken + f.taken - s.taken ≡ f.taken = omega arith in
      let l = rest_length in let d = fed.moves (omega arith) (omega arith) in
      record {
        takes = rw (e, fed.into.appended.holds) (over (rw (rest_all chunk s.taken) at fed.into.takes));
        room = fed.into.room;
        counts = refl;
        more = omega arith;
        some = fed_within;
      }

  pub fed_fits : Counted (most_read + s.taken) s.handed → length chunk ≤ 65536 → s.handed + f.written < 2 ^ 64
  fed_fits c m =
      let t = fed.into.takes.short in let e = fed.into.appended.ends in
      let a = length-take f.taken (take (length chunk - s.taken) (drop s.taken chunk)) in let l = rest_length in
      omega arith

-- what was put at the start of a buffer lies in it
pub put_within : {before text after : List ℕ} {r : ℕ} → Appended before 0 text after r → r ≤ length after
put_within {after = after} {r = r} a = let e = a.ends in let f = ap length a.holds in let l = length-take r after in omega arith
