-- A text appended is any text equal to it appended. Assumes nothing.
use mathlib.Core.List.{List}
use mathlib.Core.Path.{◌≡◌, subst}
use Prim.Native.Nat.{ℕ}
use Rattle.texts.specs.Appended.{Appended}

pub same_text : {out written : List ℕ} {n r : ℕ} {a b : List ℕ} → a ≡ b → Appended out n a written r → Appended out n b written r
same_text {out} {written} {n} {r} e p = subst (λ (t : List ℕ). Appended out n t written r) e p
