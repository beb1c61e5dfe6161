-- `explanations::saves_with` meets its contract: the ending stands behind the start. Assumes nothing.
use mathlib.Core.Path.{ap, ◌∙◌}
use native.Mathlib.Omega.{arith}
use Rattle.explanations.specs.Faults.{fault_of}
use Rattle.explanations.specs.Endings.{saves_from}
use Rattle.explanations.proofs.Saving.{start_kept}
use Rattle.explanations.proofs.saves_with.Goals as goal

pub returns : goal.returns
returns c =
    let h = c.requires in record {
      value = c.saves_from.ensures ∙ ap (saves_from c.args.fault) (c.fault_of-other.ensures ∙ ap fault_of c.put_bytes-m.ensures.holds);
      trial_unchanged = start_kept (omega (arith, h)) c.put_bytes-m.ensures;
    }
