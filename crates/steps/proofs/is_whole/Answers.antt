-- `steps::is_whole` meets its contract: the parts leave a remainder where the units do. Assumes nothing.
use Rattle.steps.proofs.Signs.{whole}
use Rattle.steps.proofs.is_whole.Goals as goal

pub returns : goal.returns
returns c = whole c.args.length_m _ _ c.parts_of-s.ensures
