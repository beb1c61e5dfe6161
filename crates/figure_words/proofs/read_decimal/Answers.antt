-- `figure_words::read_decimal` meets its contract: by its sign. Assumes nothing.
use Rattle.figure_words.proofs.Words.{no_word, plus_word, minus_word, bare_word}
use Rattle.figure_words.proofs.read_decimal.Goals as goal

pub returns-then-word-eq0 : goal.returns-then-word-eq0
returns-then-word-eq0 c = no_word c.args.word.now c.if-word-eq0.true

pub returns-then-b-eq43 : goal.returns-then-b-eq43
returns-then-b-eq43 c = plus_word c.args.word.now c.if-word-eq0.false c.if-b-eq43.true c.read_unsigned.ensures

pub returns-then-b-eq45 : goal.returns-then-b-eq45
returns-then-b-eq45 c = minus_word c.args.word.now c.if-word-eq0.false c.if-b-eq45.true c.read_unsigned-then-b-eq45.ensures

pub returns : goal.returns
returns c = bare_word c.args.word.now c.if-word-eq0.false c.if-b-eq43.false c.if-b-eq45.false
    c.read_unsigned-2.ensures
