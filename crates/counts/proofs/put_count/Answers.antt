-- `counts::put_count` meets its contract: what `io::decimal` prints, appended. Assumes nothing.
use mathlib.Core.List.{List}
use mathlib.Core.Path.{subst, ◌∙◌}
use Prim.Native.Nat.{ℕ}
use native.Mathlib.Omega.{arith}
use lib.ListN.{length-take}
use Rattle.texts.specs.Appended.{Appended}
use Rattle.counts.proofs.Printing.{at_most_twenty, printed}
use Rattle.counts.proofs.put_count.Goals as goal

pub returns : goal.returns
returns c =
    subst (λ (t : List ℕ). Appended c.args.out.now c.args.n t c.put_bytes.new.out c.put_bytes.result)
    (c.decimal-k.ensures.digits ∙ printed c.args.count c.decimal-k.result (omega arith) c.decimal-k.ensures.len)
    c.put_bytes.ensures
