-- `figure_words::read_figure` meets its contract: by the mark. Assumes nothing.
use Rattle.figure_words.proofs.Words.{no_figure_lem, marked, unmarked}
use Rattle.figure_words.proofs.read_figure.Goals as goal

pub returns-then-word-eq0 : goal.returns-then-word-eq0
returns-then-word-eq0 c = no_figure_lem c.args.word.now c.if-word-eq0.true

pub returns-then-word-eq35 : goal.returns-then-word-eq35
returns-then-word-eq35 c = marked c.args.word.now c.if-word-eq0.false c.if-word-eq35.true c.read_figure.ensures

pub returns : goal.returns
returns c = unmarked c.args.word.now c.if-word-eq0.false c.if-word-eq35.false c.read_decimal.ensures
