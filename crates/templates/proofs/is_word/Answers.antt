-- `templates::is_word` meets its contract: each byte is a word's. Assumes nothing.
use mathlib.Core.Path.{◌∙◌}
use Rattle.std.proofs.Common.{rules, tests}
use Rattle.std.proofs.lemmas.Iterator.{YieldsList-from_slice}
use Rattle.std.proofs.lemmas.Iterator.Search.{all_from_yields_List}
use Rattle.templates.specs.Matching.{is_word_byte}
use Rattle.templates.proofs.WordBytes.{all_word}
use Rattle.templates.proofs.is_word.Goals as goal

pub returns : goal.returns
returns c =
    all_from_yields_List is_word_byte _ _ _ c.all.ensures.ran (YieldsList-from_slice c.args.token.now cc)
    (λ x b q k. search (rules, tests))
    ∙ all_word c.args.token.now
