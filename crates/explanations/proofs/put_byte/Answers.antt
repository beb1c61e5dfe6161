-- `explanations::put_byte` meets its contract: a word, and the number. Assumes nothing.
use Prim.Native.Nat.{◌+◌}
use native.Mathlib.Omega.{arith}
use Rattle.tokens.specs.Text.{text, codes}
use Rattle.counts.proofs.Printing.{twenty}
use Rattle.explanations.proofs.Wanting.{also}
use Rattle.explanations.proofs.put_byte.Goals as goal

pub returns : goal.returns
unfolding text codes
returns c =
    let e = c.put_bytes-heading.ensures.ends in let f = c.put_count.ensures.ends in let t = twenty (c.args.from + 1) in
    record {
      appended = also c.put_bytes-heading.ensures c.put_count.ensures;
      upper_bound = omega (arith, e, f, t);
    }
