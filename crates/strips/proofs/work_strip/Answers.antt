-- `strips::work_strip` meets its contract: the strip between the two heights, halved, and added. Assumes nothing.
use Rattle.std.proofs.Common.{◌≡◌, ap, ◌∙◌}
use Rattle.halving.specs.declared.Integral.{Integral}
use Rattle.halving.specs.declared.Totals.{Totals}
use Rattle.strips.specs.Strips.{with_strip, in_words}
use Rattle.strips.proofs.work_strip.Goals as goal

added : (totals : Totals) (r strip x : Integral) → x ≡ in_words (with_strip totals r) → r ≡ strip → x ≡ in_words (with_strip totals strip)
added totals r strip x sum e = sum ∙ ap (λ (y : Integral). in_words (with_strip totals y)) e

pub returns : goal.returns
returns c =
    record {
      total = added _ _ _ _ c.add_strip.ensures c.integrate-strip.ensures.answer;
      scratch = c.integrate-strip.ensures.scratch;
    }
