-- `explanations::put_where` meets its contract: the code's tables are the definition's. Assumes nothing.
use mathlib.Core.List.{[]}
use mathlib.Core.Path.{sym, ◌∙◌}
use borrow.Author.Tests.{not-false}
use Rattle.tokens.specs.Text.{text, codes}
use Rattle.explanations.specs.Examples.{examples, form_words}
use Rattle.explanations.proofs.Wanting.{by_true}
use Rattle.explanations.proofs.put_where.Goals as goal

pub returns : goal.returns
unfolding examples form_words text codes
returns c =
    by_true [] (sym c.is_placed.ensures ∙ not-false _ c.if-not-is_placed.false-raw)
    c.put_place.ensures
