-- `reading::set_in` meets its contract: each part is the definition's. Assumes nothing.
use mathlib.Core.Path.{◌∙◌}
use Rattle.reading.proofs.Sets.{together, tab_is, fillet_is}
use Rattle.reading.proofs.set_in.Goals as goal

pub returns : goal.returns
returns c =
    together _ _ c.planform_in-planform.ensures (c.ok-section.ensures.value ∙ c.try_from.ensures.0)
    c.behind-slab.ensures
    (tab_is _ _ c.tab_of-tab.ensures c.figure.ensures c.figure-2.ensures
    c.figure-3.ensures)
    c.behind-glue.ensures
    (fillet_is _ _ c.fillet_of-fillet.ensures c.figure-4.ensures c.figure-5.ensures)
    c.behind-angles.ensures c.figure-6.ensures c.numbered_density-density.ensures
    c.figure-7.ensures c.figure-8.ensures
    c.figure-9.ensures c.figure-10.ensures c.numbered_set.ensures
