-- `templates::take_count` meets its contract: by what the word is. Assumes nothing.
use mathlib.Core.Path.{sym, ap, ◌∙◌}
use Rattle.std.specs.Prelude.{Option, ℕ}
use Rattle.templates.specs.Cursors.{counted}
use Rattle.templates.proofs.take_count.Goals as goal

pub returns-in-Some : goal.returns-in-Some
returns-in-Some c =
    let s = c.args in
    ap (λ (k : Option ℕ). counted k s.c s.to) (sym c.in-Some.is ∙ c.read_count.ensures)

pub returns-in-None : goal.returns-in-None
returns-in-None c =
    let s = c.args in
    c.not_a_form.ensures ∙ ap (λ (k : Option ℕ). counted k s.c s.to) (sym c.in-None.is ∙ c.read_count.ensures)
