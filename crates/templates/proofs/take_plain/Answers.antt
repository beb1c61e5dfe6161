-- `templates::take_plain` meets its contract: the tests are the definition's. Assumes nothing.
use mathlib.Core.Bool.{Bool}
use mathlib.Core.Path.{sym, ap, ◌∙◌}
use Rattle.templates.specs.Matching.{same_bytes}
use Rattle.templates.specs.Cursors.{not_aform, on_to, pick_cursor}
use Rattle.templates.proofs.Steps.{letter_n}
use Rattle.templates.proofs.take_plain.Goals as goal

pub returns-then-count : goal.returns-then-count
returns-then-count c =
    let s = c.args in
    let e = ap (same_bytes s.wanted.now) letter_n ∙ sym c.same_bytes-count.ensures ∙ c.if-count.true in
    rw e c.take_count.ensures

pub returns-else-count : goal.returns-else-count
returns-else-count c =
    let s = c.args in
    let e = ap (same_bytes s.wanted.now) letter_n ∙ sym c.same_bytes-count.ensures ∙ c.if-count.false in
    rw e (c.behind.ensures ∙ ap (λ (t : Bool). pick_cursor t (on_to s.c s.to) (not_aform s.c)) c.same_bytes.ensures)
