-- Lines leave the engine as the calls that they ask for leave it; so a screen that holds a job when lines begin is
-- served within eight of their turns, whatever the other lines are. Assumes nothing.
use mathlib.Core.Bool.{Bool, true, false, cond}
use mathlib.Core.List.{List, [], ◌∷◌}
use mathlib.Core.Path.{◌≡◌, refl, sym, ap, ◌∙◌}
use Prim.Native.Nat.{ℕ, ◌<◌, ◌≤◌}
use lib.Dec.{leb}
use lib.ListN.{length, get_or}
use lib.Ieee.{Float}
use Rattle.tokens.specs.Tokens.{line_bytes}
use Rattle.reading.specs.declared.Asked.{Asked}
use Rattle.reading.specs.declared.Asked.TheVariants.{Refused, Set, Area, Join, Moments, Check, Tubes, Closing, Drill, Copied, Placed}
use Rattle.reading.specs.declared.Asked.TheVariants.{Moved, Without, Submit, Density, Turn, Progress}
use Rattle.reading.specs.Lines.{line_read}
use Rattle.engines.specs.declared.Engine.{Engine}
use Rattle.engines.specs.Engines.{holds_job}
use Rattle.engines.specs.Calls.{after_calls, served_over}
use Rattle.engines.proofs.Rounds.{within_eight, calls_both}
use Rattle.lines.specs.Lines.{Memory, submit_effect, density_effect, turn_effect, set_effect, area_effect, effect_of, line_effect}
use Rattle.inputs.specs.Inputs.{left_by_line, left_by_lines}
use Rattle.card.specs.Screens.{calls_by, calls_over, EngineByCalls}

by_asked : (a : Asked) (figures : List Float) (m : Memory)
    → (effect_of a figures m).memory.engine ≡ after_calls m.engine (effect_of a figures m).calls
unfolding set_effect area_effect submit_effect density_effect turn_effect
by_asked (Refused refusal) figures m = refl
by_asked (Set limit set points) figures m = refl
by_asked (Area limit planform points) figures m = refl
by_asked Join figures m = refl
by_asked Moments figures m = refl
by_asked Check figures m = refl
by_asked (Tubes set radius) figures m = refl
by_asked (Closing count radius) figures m = refl
by_asked (Drill planform points x height) figures m = refl
by_asked Copied figures m = refl
by_asked Placed figures m = refl
by_asked Moved figures m = refl
by_asked Without figures m = refl
by_asked (Submit screen limit set points) figures m = refl
by_asked (Density screen density) figures m = refl
by_asked Turn figures m = refl
by_asked (Progress screen) figures m = refl

by_line : (line : List ℕ) (m : Memory) → (left_by_line line m).engine ≡ after_calls m.engine (calls_by line m)
unfolding left_by_line line_effect
by_line line m = by (leb (length line) line_bytes)
  where
    by : (t : Bool) → (cond t (line_effect line m).memory m).engine ≡ after_calls m.engine (cond t (line_effect line m).calls [])
    by true = by_asked (line_read line).asked (line_read line).figures m
    by false = refl

pub engine_by_calls : EngineByCalls
unfolding left_by_lines calls_over
engine_by_calls [] m = refl
engine_by_calls (line ∷ lines) m =
    let left = left_by_line line m in
    engine_by_calls lines left
    ∙ ap (λ (e : Engine). after_calls e (calls_over lines left)) (by_line line m)
    ∙ sym (calls_both m.engine (calls_by line m) (calls_over lines left))

-- of lines from any memory on, among whose turns eight count
pub served_within_eight : (lines : List (List ℕ)) (m : Memory) (screen : ℕ) → holds_job m.engine.screens screen ≡ true
    → 8 ≤ length (served_over m.engine (calls_over lines m))
    → (i : ℕ) × ((i < 8) × (get_or (served_over m.engine (calls_over lines m)) i 0 ≡ screen))
served_within_eight lines m screen held eight = within_eight m.engine screen (calls_over lines m) held eight
