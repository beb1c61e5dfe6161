-- `sections::chord_moments` meets its contract: zeros by the test of the width, else by the section. Assumes nothing.
use mathlib.Core.Path.{◌≡◌, refl, ap, ◌∙◌}
use mathlib.Core.List.{List}
use mathlib.Core.Logic.{◌⊎◌, inl, inr}
use native.Mathlib.Omega.{arith}
use denote.Enum.Declared.{tag_of}
use lib.Ieee.{Float}
use Rattle.floats.specs.Operations.{◌⊖◌}
use Rattle.sections.specs.declared.Section.{Section}
use Rattle.sections.specs.declared.Section.TheVariants.{Square, Rounded, Airfoil, AirfoilOpen}
use Rattle.sections.specs.ChordMoments.{naca4_moments, airfoil_moments, tail_of, section_moments, chord_moments}
use Rattle.sections.specs.contracts.Section.{the_type}
use Rattle.sections.proofs.chord_moments.Goals as goal

-- the last two sections of four
airfoil : (s : Section) → (tag_of the_type s ≡ 2) ⊎ (tag_of the_type s ≡ 3) → (a b c t : Float)
    → airfoil_moments (tail_of s) a c t ≡ section_moments s a b c t
airfoil Square (inl e) a b c t = absurd (let z : ⊥ = omega arith in z)
airfoil Square (inr e) a b c t = absurd (let z : ⊥ = omega arith in z)
airfoil Rounded (inl e) a b c t = absurd (let z : ⊥ = omega arith in z)
airfoil Rounded (inr e) a b c t = absurd (let z : ⊥ = omega arith in z)
airfoil Airfoil k a b c t = refl
airfoil AirfoilOpen k a b c t = refl

pub returns-then-c : goal.returns-then-c
unfolding chord_moments
returns-then-c c = rw c.if-c.true

pub returns-in-Square : goal.returns-in-Square
unfolding chord_moments
returns-in-Square c = rw (c.if-c.false, c.in-Square.is) c.square_moments.ensures

pub returns-in-Rounded : goal.returns-in-Rounded
unfolding chord_moments
returns-in-Rounded c = rw (c.if-c.false, c.in-Rounded.is) c.rounded_moments.ensures

pub returns-in-Airfoil : goal.returns-in-Airfoil
unfolding chord_moments
returns-in-Airfoil c =
    let s = c.args in
    let w = s.b ⊖ s.a in
    rw c.if-c.false
    (c.airfoil_moments.ensures
    ∙ ap (λ (k : List Float). naca4_moments k s.a w s.t) c.tail.ensures
    ∙ airfoil s.section c.in-Airfoil.in-Airfoil-own.keys3 s.a s.b w s.t)
