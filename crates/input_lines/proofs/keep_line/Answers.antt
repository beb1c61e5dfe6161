-- `input_lines::keep_line` meets its contract: no line ends before the first newline, and the bytes up to it are kept.
-- Assumes nothing.
use Rattle.std.proofs.Common.{ℕ, ◌<◌, ◌≤◌, List, length, take, sym, ◌∙◌, arith, eqb-true, eq-eqb}
use Rattle.std.specs.Prelude.{Option, None, Some}
use Rattle.std.specs.Option.{unwrap_or}
use Rattle.std.proofs.lemmas.List.{get_or-take}
use Rattle.std.proofs.Math.Seq.{length-take-le}
use Rattle.memchr.specs.Find.{Nowhere, Passes, IsFirstByte, is_byte}
use Rattle.input_lines.specs.Kept.{KeepsBytes, KeepsLine}
use Rattle.input_lines.specs.declared.State.{State}
use Rattle.input_lines.proofs.Keeping.{NoNewline, line_kept}
use Rattle.input_lines.proofs.keep_line.Goals as goal

none_before : (bytes : List ℕ) (i : ℕ) → i ≤ length bytes → Nowhere (Passes (is_byte 10) bytes) 0 i → NoNewline (take i bytes)
none_before bytes i h n k l e =
    let m = length-take-le i bytes h in let lt : k < i = omega arith in
    n k (omega arith) lt (eq-eqb _ 10 (sym (get_or-take i bytes k 0 lt) ∙ e))

kept : (buffer after bytes : List ℕ) (s r : State) (found : Option ℕ) → IsFirstByte (is_byte 10) bytes found
    → KeepsBytes buffer after s r (take (unwrap_or found (length bytes)) bytes)
    → KeepsLine buffer after s bytes (record { state = r; taken = unwrap_or found (length bytes) })
kept buffer after bytes s r None f k =
    line_kept buffer after bytes s r (length bytes) (none_before bytes (length bytes) (omega arith) f) (omega arith) (λ h. omega arith) k
kept buffer after bytes s r (Some i) f k =
    let first = f.0 in let h : i ≤ length bytes = omega (arith, first.high) in
    line_kept buffer after bytes s r i (none_before bytes i h first.before) h (λ l. eqb-true _ _ f.1) k

pub returns : goal.returns
returns c =
    let k = rw c.unwrap_or-taken.ensures at c.keep-state.ensures in
    rw c.unwrap_or-taken.ensures (kept _ _ c.args.bytes.now _ _ c.memchr.result c.memchr.ensures k)
