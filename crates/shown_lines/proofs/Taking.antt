-- The blocks of lines; bytes taken and their blocks handed to write: up to a chunk's end, and past a newline. Assumes nothing.
use mathlib.Core.List.{List, [], ◌++◌, append-nil}
use mathlib.Core.Bool.{Bool, true, false, cond}
use mathlib.Core.Path.{◌≡◌, refl, sym, ap, ◌∙◌}
use Prim.Native.Nat.{ℕ, ◌+◌, ◌-◌, ◌<◌, ◌≤◌}
use native.Mathlib.Omega.{arith}
use borrow.Author.Tests.{lt-leb, ltb-true, ltb-false}
use lib.Dec.{ltb}
use lib.ListN.{length, take, drop, get_or, length-take, length-drop}
use lib.Seq.{length-take-le, take_all}
use Rattle.texts.specs.Appended.{Appended}
use Rattle.tokens.specs.Tokens.{line_bytes}
use Rattle.input_lines.specs.declared.State.{State}
use Rattle.input_lines.specs.declared.KeptLine.{KeptLine}
use Rattle.input_lines.specs.Kept.{Keeps, KeepsLine}
use Rattle.input_lines.proofs.Keeping.{next_taken}
use Rattle.input_lines.specs.Taking.{place_in}
use Rattle.input_lines.proofs.Taking.{also, line_taken, newline_taken}
use Rattle.line_runs.specs.declared.Last.{Last}
use Rattle.line_runs.specs.declared.Step.{Step}
use Rattle.blocks.specs.Words.{shape_in, figures_in, counts_in}
use Rattle.tokens.specs.Text.{text}
use Rattle.counts.specs.Counts.{count_text}
use Rattle.blocks.specs.Cards.{newline, no_answer, shown, block_of, numbered_block, numbered_bytes}
use Rattle.explanations.specs.Faults.{fault_of}
use Rattle.explanations.specs.Explanations.{explained, too_long, explanation_of, kept_explanation, numbered}
use Rattle.shown_lines.specs.declared.Maker.{Maker}
use Rattle.shown_lines.specs.declared.Maker.TheVariants.{Blocks, Explanations}
use Rattle.shown_lines.specs.declared.Showing.{Showing}
use Rattle.shown_lines.specs.Program.{made_by, kept_by, blocks_from, ShowsLine, Steps}
use Rattle.shown_lines.specs.Laws.{laws}

-- a line of which not all is kept has the block of what is kept: both are too long for an answer
long_block : (line : List ℕ) → 512 < length line → block_of line ≡ no_answer ++ newline
unfolding block_of
long_block line h =
    ap (λ (t : Bool). cond t (shown (shape_in line) (figures_in line) (counts_in line)) (no_answer ++ newline)) (lt-leb (length line) 512 h)

same_block : {buffer : List ℕ} {s : State} {begun : List ℕ} → Keeps buffer s begun → block_of (take s.kept buffer) ≡ block_of begun
same_block {buffer} {s} {begun} k = by (ltb line_bytes (length begun)) refl
  where
    by : (t : Bool) → ltb line_bytes (length begun) ≡ t → block_of (take s.kept buffer) ≡ block_of begun
    by false e = ap block_of (k.bytes ∙ take_all line_bytes begun (ltb-false line_bytes (length begun) e))
    by true e =
        let h = ltb-true line_bytes (length begun) e in
        let l = ap length k.bytes in let m = length-take line_bytes begun in
        long_block (take s.kept buffer) (omega arith) ∙ sym (long_block begun (omega arith))

kept_block : {buffer : List ℕ} {s : State} {begun : List ℕ} (n : ℕ) → Keeps buffer s begun
    → numbered_block n (take s.kept buffer) ≡ numbered_block n begun
unfolding numbered_block
kept_block n k = ap (λ (b : List ℕ). text "line " ++ (count_text n ++ (newline ++ b))) (same_block k)

-- a line of which not all is kept is too long to be explained
kept_explanation_lem : {buffer : List ℕ} {s : State} {begun : List ℕ} → Keeps buffer s begun
    → kept_explanation (take s.kept buffer) s.over ≡ explanation_of begun
unfolding explanation_of
kept_explanation_lem {buffer} {s} {begun} k = by (ltb line_bytes (length begun)) refl
  where
    over : (t : Bool) → ltb line_bytes (length begun) ≡ t
        → kept_explanation (take s.kept buffer) s.over ≡ cond t too_long (explanation_of (take s.kept buffer))
    over t e = ap (λ (t : Bool). cond t too_long (explanation_of (take s.kept buffer))) (k.over ∙ e)

    by : (t : Bool) → ltb line_bytes (length begun) ≡ t → kept_explanation (take s.kept buffer) s.over ≡ explanation_of begun
    by true e = over true e ∙ sym (ap (λ (t : Bool). cond t too_long (explained begun (fault_of begun))) e)
    by false e = over false e ∙ ap explanation_of (k.bytes ∙ take_all line_bytes begun (ltb-false line_bytes (length begun) e))

-- of either maker
pub kept_made : (maker : Maker) {buffer : List ℕ} {s : State} {begun : List ℕ} (n : ℕ) → Keeps buffer s begun
    → kept_by maker n (take s.kept buffer) s.over ≡ made_by maker n begun
kept_made Blocks n k = kept_block n k
kept_made Explanations n k = ap (numbered n) (kept_explanation_lem k)

-- the next bytes of a chunk, as `keep_line` is handed them
rest_all : (chunk : List ℕ) (at : ℕ) → take (length chunk - at) (drop at chunk) ≡ drop at chunk
rest_all chunk at = take_all (length chunk - at) (drop at chunk) (simp length-drop (omega arith))

-- what was put at the start of a buffer lies in it
pub put_within : {before text after : List ℕ} {r : ℕ} → Appended before 0 text after r → r ≤ length after
put_within {after = after} {r = r} a = let e = a.ends in let f = ap length a.holds in let l = length-take r after in omega arith

module _ {buffer after : List ℕ} (chunk : List ℕ) (s : Step) {line : KeptLine} (h : s.taken < length chunk)
    (p : KeepsLine buffer after s.state (take (length chunk - s.taken) (drop s.taken chunk)) line) where
  pub end_fits : s.taken + line.taken ≤ length chunk
  end_fits = let e = p.some in let l = ap length (rest_all chunk s.taken) in let m = length-drop s.taken chunk in omega arith

module _ {buffer after : List ℕ} (chunk : List ℕ) (s : Step) {m : Showing} {line : KeptLine} (h : s.taken < length chunk)
    (p : KeepsLine buffer after s.state (take (length chunk - s.taken) (drop s.taken chunk)) line)
    (b : length after ≡ length buffer) where
  -- its end
  pub to_end : (out : List ℕ) → s.taken + line.taken ≡ length chunk
      → Steps (place_in buffer s.state m) (place_in after line.state m) s
      (record { state = line.state; taken = s.taken + line.taken; handed = s.handed; written = 0; all = true }) chunk out
  to_end out g =
      let e : s.taken + line.taken - s.taken ≡ line.taken = omega arith in
      let k = rw (rest_all chunk s.taken) at p in
      record {
        takes = rw e (line_taken laws {p = place_in buffer s.state m} k b);
        room = omega arith;
        counts = omega arith;
        more = omega arith;
        some = omega arith;
      }

  -- a newline
  pub past_newline : {n : Showing} {next : State} {out : List ℕ} {last : Last} → (s.taken + line.taken ≡ length chunk → ⊥)
      → ((b : List ℕ) → Keeps b next []) → length out ≡ numbered_bytes → ShowsLine m.maker after line.state (m.ended + 1) out last
      → n.ended ≡ m.ended + 1 → n.maker ≡ m.maker
      → Steps (place_in buffer s.state m) (place_in after next n) s
      (record {
        state = next;
        taken = s.taken + line.taken + 1;
        handed = s.handed + last.written;
        written = last.written;
        all = last.all;
      }) chunk out
  unfolding blocks_from
  past_newline {n} {next} {out} {last} g e o q ended maker =
      let f = end_fits chunk s h p in let d = length-drop s.taken chunk in
      let k = rw (rest_all chunk s.taken) at p in
      let less : line.taken < length (drop s.taken chunk) = omega arith in
      let z : s.taken + line.taken + 1 - s.taken ≡ line.taken + 1 = omega arith in
      let w = q.room in let l = length-take-le last.written out w in
      record {
        takes =
            rw (z, next_taken (drop s.taken chunk) line.taken less)
            (also laws (line_taken laws {p = place_in buffer s.state m} k b)
            (newline_taken laws {q = place_in after next n} (get_or (drop s.taken chunk) line.taken 0) (k.ends less) e
            (λ begun g. record {
              shown = record { blocks = q.block begun g ∙ sym (append-nil (made_by m.maker (m.ended + 1) begun)); ends = omega arith };
              maker = maker;
            })
            (omega arith) refl (record { ended = omega arith; maker = maker })));
        room = q.room;
        counts = refl;
        more = omega arith;
        some = omega arith;
      }
