-- Laws of tests: what `&&` and `||` say of their parts, and that no test is both. Assumes nothing.
use mathlib.Core.Path.{◌≡◌, refl, sym}
use mathlib.Core.Bool.{Bool, true, false, ◌&&◌, ◌||◌, true≢false}
use lib.Dec.{T}

pub no : {A : Type 0} → true ≡ false → A
no h = absurd (true≢false h)

pub of_true : (p : Bool) → p ≡ true → T p
of_true true h = tt
of_true false h = no (sym h)

pub and_left : (p q : Bool) → (p && q) ≡ true → p ≡ true
and_left true q h = refl
and_left false q h = h

pub and_right : (p q : Bool) → (p && q) ≡ true → q ≡ true
and_right true q h = h
and_right false q h = no (sym h)

pub and_true : (p : Bool) → (p && true) ≡ p
and_true true = refl
and_true false = refl

pub and_false : (p : Bool) → (p && false) ≡ false
and_false true = refl
and_false false = refl

pub or_true : (p q : Bool) → q ≡ true → (p || q) ≡ true
or_true true q h = refl
or_true false q h = h

-- one of the two holds, and the first does not
pub or_second : (p q : Bool) → (p || q) ≡ true → p ≡ false → q ≡ true
or_second true q h g = no g
or_second false q h g = h

-- neither holds
pub neither : (p q : Bool) → (p || q) ≡ false → (p ≡ false) × (q ≡ false)
neither true q h = no h
neither false q h = (refl, h)
