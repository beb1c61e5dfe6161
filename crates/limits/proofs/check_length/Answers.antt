-- `limits::check_length` meets its contract, by what the calls ensure. Assumes nothing.
use Rattle.limits.specs.Limits.{length_check}
use Rattle.limits.proofs.check_length.Goals as goal

pub returns : goal.returns
unfolding length_check
returns c =
    rw (
      c.refuse_unless.ensures,
      c.length_within-within.ensures,
      c.negative_allowed.ensures,
      c.zero_allowed.ensures,
    )
