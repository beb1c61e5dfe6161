-- `blocks::words::put_figure` meets its contract: one byte and one figure more. Assumes nothing.
use mathlib.Core.Path.{refl}
use Rattle.texts.proofs.Appending.{byte_put}
use Rattle.blocks.proofs.Growing.{one_more}
use Rattle.blocks.proofs.words.put_figure.Goals as goal

pub returns : goal.returns
returns c =
    record {
      of_shape = byte_put c.args.shape.now c.args.p.bytes 70 c.requires.0;
      of_figures = one_more c.args.figures.now c.args.p.figures c.args.x c.requires.1;
      same_counts = refl;
    }
