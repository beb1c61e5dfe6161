-- `reading::form_named` meets its contract: a word after another, from the last on. Assumes nothing.
use mathlib.Core.List.{List}
use mathlib.Core.Path.{◌≡◌, ap, ◌∙◌}
use Prim.Native.Nat.{ℕ}
use Rattle.tokens.specs.Text.{text, codes}
use Rattle.reading.specs.declared.Form.{Form}
use Rattle.reading.specs.Lines.{pick_form, form_named}
use Rattle.reading.proofs.form_named.Goals as goal

or : (word name : List ℕ) (form : Form) {a b r : Form} → r ≡ pick_form word name form a → a ≡ b → r ≡ pick_form word name form b
or word name form e f = e ∙ ap (pick_form word name form) f

pub returns : goal.returns
unfolding form_named text codes
returns c =
    or _ _ _ c.form_or.ensures
    (or _ _ _ c.form_or-area.ensures
    (or _ _ _ c.form_or-join.ensures
    (or _ _ _ c.form_or-moments.ensures
    (or _ _ _ c.form_or-check.ensures
    (or _ _ _ c.form_or-tubes.ensures
    (or _ _ _ c.form_or-closing.ensures
    (or _ _ _ c.form_or-drill.ensures
    (or _ _ _ c.form_or-copied.ensures
    (or _ _ _ c.form_or-placed.ensures
    (or _ _ _ c.form_or-moved.ensures
    (or _ _ _ c.form_or-without.ensures
    (or _ _ _ c.form_or-submit.ensures
    (or _ _ _ c.form_or-density.ensures
    (or _ _ _ c.form_or-turn.ensures
    c.form_or-progress.ensures))))))))))))))
