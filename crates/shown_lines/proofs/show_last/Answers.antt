-- `shown_lines::show_last` meets its contract: no byte kept is no line. Assumes nothing.
use mathlib.Core.List.{append-nil}
use mathlib.Core.Path.{refl, sym, ◌∙◌}
use Prim.Native.Nat.{◌+◌}
use native.Mathlib.Omega.{arith}
use Rattle.input_lines.proofs.Keeping.{no_last_line, last_line_lem}
use Rattle.shown_lines.specs.Program.{made_by, blocks_from}
use Rattle.shown_lines.proofs.show_last.Goals as goal

pub returns-then-kept-eq0 : goal.returns-then-kept-eq0
unfolding blocks_from
returns-then-kept-eq0 c =
    record {
      answers =
          λ begun k. rw (no_last_line c.args.buffer.now c.args.s begun k c.if-kept-eq0.true)
          (record { shown = record { blocks = refl; ends = omega arith }; maker = refl });
      short = omega arith;
      room = omega arith;
      same_told = refl;
    }

pub returns : goal.returns
unfolding blocks_from
returns c =
    let s = c.show_line-last.ensures in
    record {
      answers =
          λ begun k. rw (last_line_lem c.args.buffer.now c.args.s begun k c.if-kept-eq0.false)
          (record {
            shown =
                record {
                  blocks = s.block begun k ∙ sym (append-nil (made_by c.args.showing.now.maker (c.args.showing.now.ended + 1) begun));
                  ends = omega arith;
                };
            maker = refl;
          });
      short = (let r = s.room in let a = c.show_line-last.auto.out in omega arith);
      room = s.room;
      same_told = refl;
    }
