-- `tubes::check_tubes` meets its contract: what the tubes stand on is checked first. Assumes nothing.
use Rattle.std.proofs.Common.{rules}
use Rattle.tubes.proofs.Groups.{tube_check_by_group}
use Rattle.tubes.proofs.check_tubes.Goals as goal

pub returns-in_err-check_mount : goal.returns-in_err-check_mount
returns-in_err-check_mount c = rw (tube_check_by_group c.args.set c.args.body_radius_m) (search rules)

pub returns-in_err-check_length : goal.returns-in_err-check_length
returns-in_err-check_length c = rw (tube_check_by_group c.args.set c.args.body_radius_m) (search rules)

pub returns-in_err-check_length-2 : goal.returns-in_err-check_length-2
returns-in_err-check_length-2 c = rw (tube_check_by_group c.args.set c.args.body_radius_m) (search rules)

pub returns-in_err-check_wall : goal.returns-in_err-check_wall
returns-in_err-check_wall c = rw (tube_check_by_group c.args.set c.args.body_radius_m) (search rules)

pub returns : goal.returns
returns c = rw (tube_check_by_group c.args.set c.args.body_radius_m) (search rules)
