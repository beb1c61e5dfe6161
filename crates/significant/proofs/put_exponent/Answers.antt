-- `significant::put_exponent` meets its contract: its sign, and its size behind it. Assumes nothing.
use mathlib.Core.List.{◌∷◌, []}
use Prim.Native.Nat.{◌-◌}
use native.Mathlib.Omega.{arith}
use borrow.Author.Tests.{le-leb, lt-leb}
use Rattle.texts.proofs.Appending.{then}
use Rattle.tokens.specs.Text.{text, codes}
use Rattle.counts.specs.Counts.{count_text}
use Rattle.significant.proofs.put_exponent.Goals as goal

pub returns-then-w-ge1075 : goal.returns-then-w-ge1075
unfolding text codes
returns-then-w-ge1075 c =
    rw (le-leb 1075 c.args.w (omega arith))
    (then c.args.out.now c.put_bytes-e.new.out c.put_count.new.out c.args.at c.put_bytes-e.result c.put_count.result
    (101 ∷ []) (count_text (c.args.w - 1075)) c.put_bytes-e.ensures c.put_count.ensures)

pub returns : goal.returns
unfolding text codes
returns c =
    rw (lt-leb 1075 c.args.w (omega arith))
    (then c.args.out.now c.put_bytes-minus.new.out c.put_count-2.new.out c.args.at c.put_bytes-minus.result
    c.put_count-2.result (101 ∷ 45 ∷ []) (count_text (1075 - c.args.w)) c.put_bytes-minus.ensures c.put_count-2.ensures)
