-- `significant::put_three` meets its contract: one text behind the other. Assumes nothing.
use mathlib.Core.List.{◌++◌}
use Rattle.texts.proofs.Appending.{then}
use Rattle.significant.proofs.put_three.Goals as goal

pub returns : goal.returns
returns c =
    then c.args.out.now c.put_bytes-first.new.out c.put_bytes.new.out c.args.at c.put_bytes-first.result
    c.put_bytes.result c.args.a.now (c.args.b.now ++ c.args.c.now) c.put_bytes-first.ensures
    (then c.put_bytes-first.new.out c.put_bytes-second.new.out c.put_bytes.new.out c.put_bytes-first.result c.put_bytes-second.result
    c.put_bytes.result c.args.b.now c.args.c.now c.put_bytes-second.ensures c.put_bytes.ensures)
