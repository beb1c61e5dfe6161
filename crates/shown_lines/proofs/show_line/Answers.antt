-- `shown_lines::show_line` meets its contract: what `put_made` put at the start of `out` is what is written. Assumes nothing.
use mathlib.Core.Path.{sym, ◌∙◌}
use native.Mathlib.Omega.{arith}
use lib.ListN.{length-take}
use lib.Seq.{length-take-le}
use Rattle.shown_lines.proofs.Taking.{kept_made, put_within}
use Rattle.shown_lines.proofs.show_line.Goals as goal

pub slice_bounds-put_made-end : goal.slice_bounds-put_made-end
slice_bounds-put_made-end c = simp length-take (omega arith)

pub slice_bounds-write_all-end : goal.slice_bounds-write_all-end
slice_bounds-write_all-end c = put_within c.put_made-written.ensures

pub slice_bounds-write_all-end-2 : goal.slice_bounds-write_all-end-2
slice_bounds-write_all-end-2 c =
    sym (length-take-le c.put_made-written.result c.put_made-written.new.out (put_within c.put_made-written.ensures))

pub returns : goal.returns
returns c =
    let p = c.put_made-written.ensures in
    record { block = λ begun k. p.holds ∙ kept_made c.args.maker c.args.number k; room = put_within p }
