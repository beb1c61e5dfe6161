-- `reading::read_line` meets its contract: the form of the word after the first bracket. Assumes nothing.
use mathlib.Core.Bool.{Bool}
use mathlib.Core.List.{List}
use mathlib.Core.Path.{◌≡◌, sym, ap, subst, ◌∙◌}
use Prim.Native.Nat.{ℕ, ◌<◌, ◌≤◌}
use borrow.Author.Tests.{le-leb, lt-leb}
use lib.ListN.{length}
use Rattle.refusals.specs.declared.Refusal.TheVariants.{NoForm}
use Rattle.tokens.specs.Tokens.{line_bytes}
use Rattle.reading.specs.declared.Form.{Form}
use Rattle.reading.specs.Lines.{refused_read, pick_read, form_named, form_read, word_of, line_read}
use Rattle.reading.specs.Reads.{Reads}
use Rattle.reading.proofs.Stands.{no_form_lem}
use Rattle.reading.proofs.read_line.Goals as goal

too_long : (line : List ℕ) → line_bytes < length line → line_read line ≡ refused_read NoForm
unfolding line_read
too_long line h = ap (λ (t : Bool). pick_read t (form_read (form_named (word_of line)) line) (refused_read NoForm)) (lt-leb _ _ h)

is_form : (line word : List ℕ) (form : Form) → length line ≤ line_bytes → word ≡ word_of line → form ≡ form_named word
    → line_read line ≡ form_read form line
unfolding line_read
is_form line word form h e f =
    ap (λ (t : Bool). pick_read t (form_read (form_named (word_of line)) line) (refused_read NoForm)) (le-leb _ _ h)
    ∙ ap (λ (x : Form). form_read x line) (sym (f ∙ ap form_named e))

pub returns-then-line-gt-LINE_BYTES : goal.returns-then-line-gt-LINE_BYTES
returns-then-line-gt-LINE_BYTES c = subst (Reads _ _) (sym (too_long _ c.if-line-gt-LINE_BYTES.true)) (no_form_lem _ c.refused.ensures)

pub returns : goal.returns
returns c =
    subst (Reads _ _) (sym (is_form _ _ _ c.if-line-gt-LINE_BYTES.false c.word_of-found.ensures.word c.form_named-form.ensures))
    c.read_form.ensures
