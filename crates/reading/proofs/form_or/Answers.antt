-- `reading::form_or` meets its contract: by whether the bytes are the same. Assumes nothing.
use mathlib.Core.Path.{sym, ◌∙◌}
use Rattle.reading.specs.Lines.{pick_form}
use Rattle.reading.proofs.form_or.Goals as goal

pub returns-then-same_bytes : goal.returns-then-same_bytes
unfolding pick_form
returns-then-same_bytes c = rw (sym c.same_bytes.ensures ∙ c.if-same_bytes.true)

pub returns-else-same_bytes : goal.returns-else-same_bytes
unfolding pick_form
returns-else-same_bytes c = rw (sym c.same_bytes.ensures ∙ c.if-same_bytes.false)
