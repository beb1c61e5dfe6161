-- `blocks::words::put_count` meets its contract: one byte and one count more. Assumes nothing.
use mathlib.Core.Path.{refl}
use Rattle.texts.proofs.Appending.{byte_put}
use Rattle.blocks.proofs.Growing.{one_more}
use Rattle.blocks.proofs.words.put_count.Goals as goal

pub returns : goal.returns
returns c =
    record {
      of_shape = byte_put c.args.shape.now c.args.p.bytes 78 c.requires.0;
      of_counts = one_more c.args.counts.now c.args.p.counts c.args.n c.requires.1;
      same_figures = refl;
    }
