-- How a strip ends: accepted, or not converged, with the component.
use Rattle.std.specs.Prelude.{ℕ, Result, Ok, Err}
use Rattle.halving.specs.declared.NotConverged.{NotConverged}

abbrev pub Ending : Type 0
Ending = Result (Unit {0}) NotConverged

abbrev pub accepted : Ending
accepted = Ok tt

abbrev pub not_converged : ℕ → Ending
not_converged component = Err (record { component = component })
