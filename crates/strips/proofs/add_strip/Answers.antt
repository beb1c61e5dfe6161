-- `strips::add_strip` meets its contract, part by part. Assumes nothing.
use Rattle.strips.specs.Strips.{with_strip}
use Rattle.strips.proofs.add_strip.Goals as goal

pub returns : goal.returns
unfolding with_strip
returns c = rw (
  c.wrapping_add_usize-2.ensures.value,
  c.wrapping_add_usize.ensures.value,
  c.plus-value.ensures,
)
