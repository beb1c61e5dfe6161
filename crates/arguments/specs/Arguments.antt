-- What the words after a program's name ask for: at most one word is understood, so that none is passed over.
use Rattle.std.specs.Prelude.{cond, List, ℕ, leb}
use Rattle.tokens.specs.Text.{text}
use Rattle.templates.specs.Matching.{same_bytes}
use Rattle.arguments.specs.declared.Command.{Command}
use Rattle.arguments.specs.declared.Command.TheVariants.{Run, Help, Version, Unknown}

-- what a single word asks for
abbrev pub word_asked : List ℕ → Command
word_asked word =
    cond (same_bytes word (text "--help")) Help (cond (same_bytes word (text "--version")) Version Unknown)

-- what is asked, by the number of arguments, the program's name among them, and by the first word after the name
abbrev pub asked_by : ℕ → List ℕ → Command
asked_by count word = cond (leb 2 count) (cond (leb count 2) (word_asked word) Unknown) Run
