-- An answer that is a value or the refusal that withholds it: the verdict that it is of, and the answer by a verdict.
use Rattle.std.specs.Prelude.{Result, Ok, Err}
use Rattle.refusals.specs.declared.Refusal.{Refusal}
use Rattle.refusals.specs.Verdict.{Verdict}
use Rattle.refusals.specs.Given.{IsAnswer}

abbrev pub verdict_in : {A : Type 0} → Result A Refusal → Verdict
verdict_in (Ok value) = Ok tt
verdict_in (Err refusal) = Err refusal

abbrev pub unless_refused : {A : Type 0} → Verdict → A → Result A Refusal
unless_refused (Ok _) value = Ok value
unless_refused (Err refusal) value = Err refusal

-- a call's answer is the definition's, with the number and values of its verdict
abbrev pub IsResult : {A : Type 0} → Result A Refusal → Result A Refusal → Type 0
IsResult answer definition = IsAnswer verdict_in answer definition
