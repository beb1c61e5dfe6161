-- `reading::planform_in` meets its contract: the definition reads the same figures. Assumes nothing.
use Rattle.planforms.specs.Numbered.{planform_of}
use Rattle.reading.proofs.planform_in.Goals as goal

pub returns : goal.returns
unfolding planform_of
returns c =
    rw (
      c.planform_of.ensures,
      c.figure-4.ensures,
      c.figure-3.ensures,
      c.figure-2.ensures,
      c.figure.ensures,
    )
