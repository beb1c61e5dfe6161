-- `explanations::put_wanted` meets its contract: `F` is tried first, and then the words. Assumes nothing.
use mathlib.Core.List.{List}
use mathlib.Core.Path.{sym, ap, ◌∙◌}
use Prim.Native.Nat.{ℕ}
use lib.ListN.{take}
use Rattle.tokens.specs.Text.{text, codes}
use Rattle.templates.specs.Matching.{cut_at_bars}
use Rattle.explanations.specs.Endings.{wanted_of}
use Rattle.explanations.proofs.Wanting.{by_true, by_false, same_put}
use Rattle.explanations.proofs.put_wanted.Goals as goal

pub returns-then-word_saves : goal.returns-then-word_saves
unfolding text codes
returns-then-word_saves c =
    let s = c.args in
    by_true (wanted_of s.fault s.endings.now (take s.k s.trial.now) (cut_at_bars s.table.now))
    (sym c.word_saves.ensures.value ∙ c.if-word_saves.true) c.put_bytes.ensures

pub returns : goal.returns
unfolding text codes
returns c =
    let s = c.args in
    by_false (text " F") (sym c.word_saves.ensures.value ∙ c.if-word_saves.false)
    (same_put (ap (λ (t : List ℕ). wanted_of s.fault s.endings.now t (cut_at_bars s.table.now)) c.word_saves.ensures.trial_unchanged)
    c.put_words.ensures.appended)
