-- `reading::take_set` meets its contract: its parts are taken one after another. Assumes nothing.
use mathlib.Core.Path.{◌∙◌}
use Rattle.tokens.specs.Text.{text, codes}
use Rattle.templates.specs.Matching.{cut_after}
use Rattle.reading.specs.Parts.{take_section, take_tab, take_fillet}
use Rattle.reading.proofs.Sets.{set_taken, set_parts}
use Rattle.reading.proofs.take_set.Goals as goal

pub shape_of-values : goal.shape_of-values
shape_of-values c =
    c.take_text-end.auto.values
    ∙ c.take_density-density.auto.values
    ∙ c.take_text-radius.auto.values
    ∙ c.take_optional-fillet.auto.values
    ∙ c.take_optional-tab.auto.values
    ∙ c.take_text-between.auto.values
    ∙ c.take_one_of-section.auto.values
    ∙ c.take_text-thickness.auto.values
    ∙ c.take_planform-planform.auto.values
    ∙ c.take_text-count.auto.values
    ∙ c.take_text-limit.auto.values

pub returns : goal.returns
unfolding take_section take_tab take_fillet text codes cut_after
returns c =
    let m = c.requires in record {
      takes = set_taken _ m c.take_text-limit.ensures c.take_text-count.ensures c.take_planform-planform.ensures
          c.take_text-thickness.ensures
          c.take_one_of-section.ensures c.take_text-between.ensures c.take_optional-tab.ensures c.take_optional-fillet.ensures
          c.take_text-radius.ensures c.take_density-density.ensures c.take_text-end.ensures;
      parts_value = set_parts _ m c.take_text-limit.ensures c.take_text-count.ensures c.take_planform-planform.ensures
          c.take_text-thickness.ensures
          c.take_one_of-section.ensures c.take_text-between.ensures c.take_optional-tab.ensures c.take_optional-fillet.ensures
          c.take_text-radius.ensures c.take_density-density.ensures c.take_text-end.ensures;
    }
