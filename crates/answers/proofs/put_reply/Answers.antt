-- `answers::put_reply` meets its contract: the template is the definition's, and no template is too long. Assumes nothing.
use mathlib.Core.Path.{ap}
use native.Mathlib.Omega.{arith}
use Rattle.answers.specs.Filled.{room}
use Rattle.answers.specs.Answers.{text_of}
use Rattle.answers.proofs.Lengths.{template_fits}
use Rattle.answers.proofs.put_reply.Goals as goal

pub put_filled-requires : goal.put_filled-requires
put_filled-requires c =
    let e = ap room c.template.ensures in let h = template_fits c.args.reply.shape in
    omega (arith, e, h, c.requires)

pub returns : goal.returns
unfolding text_of
returns c = rw c.template.ensures at c.put_filled.ensures
