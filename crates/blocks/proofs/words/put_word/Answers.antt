-- `blocks::words::put_word` meets its contract: by what the word is. Assumes nothing.
use mathlib.Core.Path.{sym, ◌∙◌}
use Rattle.blocks.proofs.Reading.{word_none, word_figure}
use Rattle.blocks.proofs.words.put_word.Goals as goal

pub returns-then-word-eq0 : goal.returns-then-word-eq0
returns-then-word-eq0 c =
    let s = c.args in
    word_none s.word.now s.p s.shape.now s.figures.now s.counts.now c.if-word-eq0.true

pub returns-in-Some : goal.returns-in-Some
returns-in-Some c =
    let s = c.args in
    word_figure s.word.now s.p c.put_figure.result s.shape.now c.put_figure.new.shape _ s.figures.now
    c.put_figure.new.figures s.counts.now (sym c.in-Some.is ∙ c.read_figure.ensures)
    c.put_figure.ensures
