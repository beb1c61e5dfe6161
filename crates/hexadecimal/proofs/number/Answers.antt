-- `hexadecimal::number` meets its contract: where each byte is a digit, it is taken for its value. Assumes nothing.
use Rattle.hexadecimal.proofs.Words.{values_small, digits_gathered}
use Rattle.hexadecimal.proofs.number.Goals as goal

pub gathered-requires : goal.gathered-requires
gathered-requires c = values_small c.args.w c.values.result c.values.ensures

pub returns : goal.returns
returns c = digits_gathered c.args.w c.values.result c.gathered.result c.requires
    c.values.ensures c.gathered.ensures
