-- How the code keeps what a line asks: its figures are at the start of a lent slice.
use Rattle.std.specs.Prelude.{Bool, true, false, List, [], ◌∷◌, ◌≡◌, ℕ, ◌≤◌, length, take, drop, Float}
use Rattle.refusals.specs.declared.Refusal.{Refusal}
use Rattle.refusals.specs.declared.Refusal.TheVariants.{NoForm as no_form, NoFigure as no_figure}
use Rattle.tokens.specs.Tokens.{tokens}
use Rattle.tokens.specs.Found.{part}
use Rattle.tokens.specs.declared.TokenRange.{TokenRange}
use Rattle.templates.specs.declared.Cursor.{Cursor}
use Rattle.reading.specs.declared.Asked.{Asked}
use Rattle.reading.specs.declared.Asked.TheVariants.{Refused}
use Rattle.reading.specs.declared.Line.{Line}
use Rattle.reading.specs.Lines.{Read, word_of}

abbrev pub refused_line : Refusal → Line
refused_line refusal = record { asked = Refused refusal; figures = 0 }

pub record Reads (values : List Float) (r : Line) (line : Read) : Type 0 where
  pub asked : r.asked ≡ line.asked
  pub count : r.figures ≡ length line.figures
  pub figures : take r.figures values ≡ line.figures

-- a line that was read, where no token is left after its form; else it is refused as no form
abbrev pub at_end : List (List ℕ) → Line → Line
at_end [] q = q
at_end (w ∷ ts) q = refused_line no_form

abbrev pub either : Bool → Line → Line → Line
either true a b = a
either false a b = b

abbrev pub end_of : List ℕ → Cursor → Asked → Line
end_of line c asked =
    either c.ok
    (at_end (tokens (drop c.at line)) (either c.spoiled (refused_line no_figure) (record {
      asked =
          asked;
      figures = c.figures;
    })))
    (refused_line no_form)

-- r is where the word that names a line's form stands, or an empty range where there is none
pub record IsWordOf (line : List ℕ) (r : TokenRange) : Type 0 where
  pub word : part line r.from r.to ≡ word_of line
  pub ordered : r.from ≤ r.to
  pub within : r.to ≤ length line
