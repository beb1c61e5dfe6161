-- `lines::reply_line` meets its contract: the request that was read is answered. Assumes nothing.
use mathlib.Core.Path.{sym, ap, ◌∙◌}
use native.Mathlib.Omega.{arith}
use lib.ListN.{length-take}
use Rattle.lines.specs.Lines.{lent_in, memory_of, Effect}
use Rattle.lines.proofs.Asking.{all_there, effect_is, same_left}
use Rattle.lines.proofs.reply_line.Goals as goal

pub slice_bounds-request_reply-end : goal.slice_bounds-request_reply-end
slice_bounds-request_reply-end c =
    let e = all_there c.args.line.now c.read_line-read.new.values c.read_line-read.result c.read_line-read.ensures in
    let l = length-take c.read_line-read.result.figures c.read_line-read.new.values in
    omega arith

pub slice_bounds-request_reply-end-2 : goal.slice_bounds-request_reply-end-2
slice_bounds-request_reply-end-2 c =
    sym (all_there c.args.line.now c.read_line-read.new.values c.read_line-read.result c.read_line-read.ensures)

pub returns : goal.returns
returns c =
    let lent = lent_in c.args.scratch.now c.args.numbers.now c.args.counts.now in
    let e = effect_is c.args.line.now c.read_line-read.new.values c.read_line-read.result c.read_line-read.ensures (memory_of lent) in
    record {
      replies = c.request_reply.ensures.replies ∙ ap (λ (x : Effect). x.reply) e;
      left =
          same_left e c.request_reply.ensures.left;
    }
