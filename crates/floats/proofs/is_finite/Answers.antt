-- `floats::is_finite` meets its contract: past the first test the second decides. Assumes nothing.
use mathlib.Core.Path.{◌≡◌, refl, sym}
use mathlib.Core.Bool.{true, false}
use lib.Ieee.{Float, nan, inf, fin, of_bits, div, neg, lt}
use Rattle.floats.specs.Floats.{is_finite}
use Rattle.floats.proofs.is_finite.Goals as goal

below_top : (x : Float) → lt (inf true) x ≡ true → lt x (inf false) ≡ is_finite x
unfolding lt
below_top nan h = refl
below_top (inf true) h = sym h
below_top (inf false) h = refl
below_top (fin s m e) h = refl

not_above_bottom : (x : Float) → lt (inf true) x ≡ false → lt (inf true) x ≡ is_finite x
unfolding lt
not_above_bottom nan h = refl
not_above_bottom (inf true) h = refl
not_above_bottom (inf false) h = h
not_above_bottom (fin s m e) h = refl

pub returns-then-top-x : goal.returns-then-top-x
unfolding div of_bits neg
returns-then-top-x c = below_top c.args.x c.if-top-x.true

pub returns-else-top-x : goal.returns-else-top-x
unfolding div of_bits neg
returns-else-top-x c = not_above_bottom c.args.x c.if-top-x.false
