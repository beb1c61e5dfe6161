-- `card::tell` meets its contract: nothing, or the one line. Assumes nothing.
use Rattle.tokens.specs.Text.{text, codes}
use Rattle.texts.proofs.Appending.{nothing}
use Rattle.card.specs.Program.{told}
use Rattle.card.proofs.tell.Goals as goal

pub returns-then-answered : goal.returns-then-answered
unfolding told
returns-then-answered c = rw c.if-answered.true (nothing c.args.out.now 0)

pub returns : goal.returns
unfolding told text codes
returns c = rw c.if-answered.false c.put_bytes.ensures
