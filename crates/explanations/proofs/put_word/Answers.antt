-- `explanations::put_word` meets its contract: the word is put where the start with it is saved. Assumes nothing.
use mathlib.Core.Path.{sym, ◌∙◌}
use borrow.Author.Tests.{not-true, not-false}
use lib.ListN.{take}
use Rattle.explanations.proofs.Wanting.{not_wanted, is_wanted}
use Rattle.explanations.proofs.put_word.Goals as goal

pub returns-then-not-word_saves : goal.returns-then-not-word_saves
returns-then-not-word_saves c =
    let s = c.args in record {
      appended = not_wanted s.fault s.endings.now (take s.k s.trial.now) s.word.now _ _
          (sym c.word_saves.ensures.value ∙ not-true _ c.if-not-word_saves.true-raw);
      trial_unchanged = c.word_saves.ensures.trial_unchanged;
    }

pub returns : goal.returns
returns c =
    let s = c.args in record {
      appended = is_wanted s.fault s.endings.now (take s.k s.trial.now) s.word.now
          (sym c.word_saves.ensures.value ∙ not-false _ c.if-not-word_saves.false-raw)
          c.put_bytes-space.ensures c.put_bytes.ensures;
      trial_unchanged = c.word_saves.ensures.trial_unchanged;
    }
