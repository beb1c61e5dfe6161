-- `explanations::put_explained` meets its contract: by whether the line is refused. Assumes nothing.
use mathlib.Core.Path.{sym, ap, ◌∙◌}
use Rattle.tokens.specs.Text.{text, codes}
use Rattle.explanations.specs.Explanations.{explained}
use Rattle.explanations.proofs.Wanting.{same_put}
use Rattle.explanations.proofs.put_explained.Goals as goal

pub returns-in-None : goal.returns-in-None
unfolding text codes
returns-in-None c =
    same_put (ap (explained c.args.line.now) (sym c.in-None.is ∙ c.fault_of.ensures)) c.put_bytes.ensures
