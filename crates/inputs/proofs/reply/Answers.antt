-- `inputs::reply` meets its contract: the answer, and a newline behind it. Assumes nothing.
use mathlib.Core.List.{◌∷◌, []}
use native.Mathlib.Omega.{arith}
use Rattle.texts.proofs.Appending.{then}
use Rattle.inputs.specs.States.{place_in, kept_answer}
use Rattle.inputs.proofs.Keeping.{answer_kept_short}
use Rattle.inputs.proofs.reply.Goals as goal

pub put_bytes-requires : goal.put_bytes-requires
put_bytes-requires c =
    let h = answer_kept_short (place_in c.args.buffer.now c.args.s c.args.scratch.now c.args.engine_numbers.now c.args.engine_counts.now) in
    let e = c.answer_kept-end.ensures.appended.ends in
    let l = c.answer_kept-end.auto.out in
    omega arith

pub returns : goal.returns
returns c =
    let answered = c.answer_kept-end in
    record {
      appended =
          then c.args.out.now answered.new.out c.put_bytes.new.out c.args.n answered.result c.put_bytes.result
          (kept_answer (place_in c.args.buffer.now c.args.s c.args.scratch.now c.args.engine_numbers.now c.args.engine_counts.now))
          (10 ∷ []) answered.ensures.appended c.put_bytes.ensures;
      leaves = answered.ensures.leaves;
    }
