-- `reading::read_form` meets its contract: each arm knows the form. Assumes nothing.
use mathlib.Core.List.{List}
use mathlib.Core.Path.{◌≡◌, sym, subst}
use Prim.Native.Nat.{ℕ}
use lib.Ieee.{Float}
use Rattle.tokens.specs.Text.{text, codes}
use Rattle.reading.specs.declared.Form.{Form}
use Rattle.reading.specs.declared.Line.{Line}
use Rattle.reading.specs.Lines.{form_read, list_read, plain_read}
use Rattle.reading.specs.Reads.{Reads}
use Rattle.reading.proofs.read_form.Goals as goal

known : (line : List ℕ) {v : List Float} {r : Line} {a b : Form} → a ≡ b → Reads v r (form_read b line) → Reads v r (form_read a line)
known line {v} {r} e h = subst (λ (x : Form). Reads v r (form_read x line)) (sym e) h

pub returns-in-Join : goal.returns-in-Join
unfolding list_read text codes
returns-in-Join c = known _ c.in-Join.is c.read_list.ensures

pub returns-in-Moments : goal.returns-in-Moments
unfolding plain_read text codes
returns-in-Moments c = known _ c.in-Moments.is c.read_plain.ensures

pub returns-in-Check : goal.returns-in-Check
unfolding plain_read text codes
returns-in-Check c = known _ c.in-Check.is c.read_plain-in-Check.ensures

pub returns-in-Copied : goal.returns-in-Copied
unfolding list_read text codes
returns-in-Copied c = known _ c.in-Copied.is c.read_list-in-Copied.ensures

pub returns-in-Placed : goal.returns-in-Placed
unfolding list_read text codes
returns-in-Placed c = known _ c.in-Placed.is c.read_list-in-Placed.ensures

pub returns-in-Moved : goal.returns-in-Moved
unfolding plain_read text codes
returns-in-Moved c = known _ c.in-Moved.is c.read_plain-in-Moved.ensures

pub returns-in-Without : goal.returns-in-Without
unfolding plain_read text codes
returns-in-Without c = known _ c.in-Without.is c.read_plain-in-Without.ensures

pub returns-in-Turn : goal.returns-in-Turn
unfolding plain_read text codes
returns-in-Turn c = known _ c.in-Turn.is c.read_plain-in-Turn.ensures
