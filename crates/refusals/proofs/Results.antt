-- An answer by a verdict that a check gave: what is known of the verdict says which answer it is. Assumes nothing.
use mathlib.Core.Path.{◌≡◌, sym, ap, ◌∙◌}
use Rattle.std.specs.Prelude.{Result}
use Rattle.refusals.specs.declared.Refusal.{Refusal}
use Rattle.refusals.specs.Verdict.{Verdict}
use Rattle.refusals.specs.Results.{unless_refused}

-- `got` is what a check gave, which is `known`: the answer for that is the check's
pub by_verdict_lem : {A : Type 0} (value : A) {check got known : Verdict} {r : Result A Refusal} → got ≡ check → got ≡ known
    → r ≡ unless_refused known value → r ≡ unless_refused check value
by_verdict_lem value p t a = a ∙ ap (λ (v : Verdict). unless_refused v value) (sym t ∙ p)
