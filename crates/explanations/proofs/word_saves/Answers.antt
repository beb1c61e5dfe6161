-- `explanations::word_saves` meets its contract: the word stands behind the start. Assumes nothing.
use mathlib.Core.List.{List}
use mathlib.Core.Path.{ap, ◌∙◌}
use Prim.Native.Nat.{ℕ}
use native.Mathlib.Omega.{arith}
use Rattle.explanations.specs.Endings.{saved}
use Rattle.explanations.proofs.Saving.{start_kept, less_kept}
use Rattle.explanations.proofs.word_saves.Goals as goal

pub returns : goal.returns
returns c =
    let e = c.put_bytes-m.ensures.ends in let h = c.requires in record {
      value = c.is_saved.ensures.value ∙ ap (λ (t : List ℕ). saved c.args.fault t c.args.endings.now) c.put_bytes-m.ensures.holds;
      trial_unchanged = less_kept c.put_bytes-m.new.out c.is_saved.new.trial c.args.k c.put_bytes-m.result (omega (arith, e))
          c.is_saved.ensures.trial_unchanged
          ∙ start_kept (omega (arith, h)) c.put_bytes-m.ensures;
    }
