-- `shown_lines::show_next` meets its contract: up to the chunk's end, or past a newline. Assumes nothing.
use mathlib.Core.Path.{refl}
use native.Mathlib.Omega.{arith}
use Rattle.shown_lines.proofs.Taking.{to_end, past_newline}
use Rattle.shown_lines.proofs.show_next.Goals as goal

pub returns-then-end-chunk : goal.returns-then-end-chunk
returns-then-end-chunk c = record {
  steps = to_end c.args.chunk.now c.args.s c.requires.2 c.keep_line-line.ensures c.keep_line-line.auto.buffer c.args.showing.now.out
      c.if-end-chunk.true;
  lines = omega arith;
}

pub returns : goal.returns
returns c = record {
  steps = past_newline c.args.chunk.now c.args.s c.requires.2 c.keep_line-line.ensures c.keep_line-line.auto.buffer
      c.if-end-chunk.false c.no_line-next.ensures (let a = c.show_line-last.auto.out in omega arith)
      c.show_line-last.ensures refl refl;
  lines = omega arith;
}
