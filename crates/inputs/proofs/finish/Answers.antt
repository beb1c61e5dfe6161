-- `inputs::finish` meets its contract: no byte kept is no line. Assumes nothing.
use mathlib.Core.List.{[]}
use mathlib.Core.Path.{refl}
use native.Mathlib.Omega.{arith}
use Rattle.texts.proofs.Appending.{nothing}
use Rattle.input_lines.proofs.Keeping.{no_last_line, last_line_lem}
use Rattle.inputs.specs.Inputs.{replies, left_by_lines}
use Rattle.inputs.specs.States.{place_in, kept_reply}
use Rattle.inputs.proofs.Keeping.{kept_answered, reply_short}
use Rattle.inputs.proofs.finish.Goals as goal

pub returns-then-kept-eq0 : goal.returns-then-kept-eq0
unfolding replies left_by_lines
returns-then-kept-eq0 c =
    record {
      text = [];
      answers = λ begun k.
          rw (no_last_line c.args.buffer.now c.args.s begun k c.if-kept-eq0.true) (record { replied = refl; leaves = refl });
      short = omega arith;
      appended = nothing c.args.out.now c.args.n;
      room = omega arith;
    }

pub returns : goal.returns
returns c =
    let stood = place_in c.args.buffer.now c.args.s c.args.scratch.now c.args.engine_numbers.now c.args.engine_counts.now in
    let e = c.reply.ensures.appended.ends in
    let h = reply_short stood in
    let l = c.reply.auto.out in
    record {
      text = kept_reply stood;
      answers = λ begun k.
          rw (last_line_lem c.args.buffer.now c.args.s begun k c.if-kept-eq0.false)
          (kept_answered stood begun k c.reply.ensures.leaves);
      short = h;
      appended = c.reply.ensures.appended;
      room = omega arith;
    }
