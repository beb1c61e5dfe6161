-- `refusals::write_values` meets its contract. Assumes nothing.
use Rattle.refusals.specs.Lent.{with_values}
use Rattle.refusals.proofs.Lists.{two_written}
use Rattle.refusals.proofs.write_values.Goals as goal

pub returns : goal.returns
unfolding with_values
returns c =
    let s = c.before.before in
    rw c.verdict_values-found.ensures (two_written c.args.values.now _ _ c.requires)
