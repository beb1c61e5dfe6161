-- `rings::joined_copies` meets its contract: the front of the list holds the copies (rings/proofs/Lists). Assumes nothing.
use Rattle.std.proofs.Common.{◌∙◌}
use Rattle.rings.proofs.Lists.{front_joined}
use Rattle.rings.proofs.joined_copies.Goals as goal

pub returns : goal.returns
returns c =
    let a = c.args in
    c.join.ensures ∙ front_joined a.body a.base_angle_rad a.count c.copies-list.result c.copies-list.ensures.long c.requires
    c.copies-list.ensures.filled
