-- `explanations::fault_of` meets its contract: a program that has read nothing else answers the line. Assumes nothing.
use mathlib.Core.Path.{ap, ◌∙◌}
use Rattle.explanations.specs.Faults.{fault_in, alone, fault_of}
use Rattle.explanations.proofs.fault_of.Goals as goal

pub returns : goal.returns
unfolding fault_of alone
returns c = c.fault_in.ensures ∙ ap fault_in c.reply_line-reply.ensures.replies
