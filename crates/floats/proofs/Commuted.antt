-- A rounded product does not depend on which factor stands first. Assumes nothing.
use mathlib.Core.Path.{◌≡◌, refl, ap}
use mathlib.Core.Bool.{Bool, true, false, cond}
use Prim.Native.Nat.{◌*◌}
use native.Mathlib.Nat.{mul_comm}
use lib.Dec.{eqb}
use lib.Ieee.{Float, nan, inf, fin, up, down, unlike, mul}
use Rattle.floats.specs.Operations.{◌⊗◌}

unlike_commuted : (s t : Bool) → unlike s t ≡ unlike t s
unlike_commuted true true = refl
unlike_commuted true false = refl
unlike_commuted false true = refl
unlike_commuted false false = refl

pub times_commuted : (x y : Float) → x ⊗ y ≡ y ⊗ x
unfolding mul
times_commuted nan nan = refl
times_commuted nan (inf t) = refl
times_commuted nan (fin t n d) = refl
times_commuted (inf s) nan = refl
times_commuted (inf s) (inf t) = ap inf (unlike_commuted s t)
times_commuted (inf s) (fin t n d) = ap (λ (u : Bool). cond (eqb n 0) nan (inf u)) (unlike_commuted s t)
times_commuted (fin s m e) nan = refl
times_commuted (fin s m e) (inf t) = ap (λ (u : Bool). cond (eqb m 0) nan (inf u)) (unlike_commuted s t)
times_commuted (fin s m e) (fin t n d) = rw (unlike_commuted s t, mul_comm (m * up e) (n * up d), mul_comm (down e) (down d))
