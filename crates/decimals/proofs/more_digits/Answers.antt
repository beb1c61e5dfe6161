-- `decimals::more_digits` meets its contract: neither shift loses a bit. Assumes nothing.
use Rattle.decimals.proofs.Steps.{stepped}
use Rattle.decimals.proofs.more_digits.Goals as goal

pub returns : goal.returns
returns c = let a = c.args in let p = c.requires in
    stepped a.e a.z a.v.quotient a.v.rest a.v.places p.0 p.1 p.2 p.3
