-- `lines::has_room` meets its contract: the difference is taken where there is one. Assumes nothing.
use mathlib.Core.Bool.{Bool, true, false}
use mathlib.Core.Path.{◌≡◌, refl, sym, ◌∙◌}
use Prim.Native.Nat.{ℕ, ◌+◌, ◌-◌, ◌≤◌}
use native.Mathlib.Omega.{arith}
use borrow.Author.Tests.{leb-true, leb-false, le-leb, lt-leb}
use lib.Dec.{leb}
use Rattle.answers.specs.Answers.{answer_bytes}
use Rattle.lines.proofs.has_room.Goals as goal

fits : (len n : ℕ) → answer_bytes ≤ len → leb n (len - answer_bytes) ≡ leb (n + answer_bytes) len
fits len n h = by (leb n (len - answer_bytes)) refl
  where
    by : (t : Bool) → leb n (len - answer_bytes) ≡ t → t ≡ leb (n + answer_bytes) len
    by true e = let g = leb-true n (len - answer_bytes) e in sym (le-leb (n + answer_bytes) len (omega arith))
    by false e = let g = leb-false n (len - answer_bytes) e in sym (lt-leb (n + answer_bytes) len (omega arith))

pub returns-then-len-ge-ANSWER_BYTES : goal.returns-then-len-ge-ANSWER_BYTES
returns-then-len-ge-ANSWER_BYTES c = fits c.args.len c.args.n c.if-len-ge-ANSWER_BYTES.true

pub returns-else-len-ge-ANSWER_BYTES : goal.returns-else-len-ge-ANSWER_BYTES
returns-else-len-ge-ANSWER_BYTES c =
    let h = c.if-len-ge-ANSWER_BYTES.false in
    lt-leb answer_bytes c.args.len (omega arith)
    ∙ sym (lt-leb (c.args.n + answer_bytes) c.args.len (omega arith))
