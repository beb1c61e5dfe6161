-- `fins::set_in` meets its contract: each part is read. Assumes nothing.
use Rattle.fins.specs.Numbered.{set_in}
use Rattle.fins.proofs.set_in.Goals as goal

pub returns : goal.returns
unfolding set_in
returns c =
    let d = c.before in
    let f = d.before.before.before.before.before.before in
    let t = f.before.before.before.before in
    rw (
      c.numbered_set.ensures,
      c.numbered_density.ensures,
      c.fillet_of.ensures,
      c.tab_of.ensures,
      c.ok.ensures.value,
      c.try_from.ensures.0,
      c.planform_of.ensures,
    )
