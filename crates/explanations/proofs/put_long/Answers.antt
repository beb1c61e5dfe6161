-- `explanations::put_long` meets its contract: the one text. Assumes nothing.
use Rattle.tokens.specs.Text.{text, codes}
use Rattle.explanations.proofs.put_long.Goals as goal

pub returns : goal.returns
unfolding text codes
returns c =
    c.put_bytes.ensures
