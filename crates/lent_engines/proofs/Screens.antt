-- The screens at the start of the counts: what is written is what is read. Assumes nothing.
use mathlib.Core.Path.{◌≡◌, refl, ap, ◌∙◌}
use mathlib.Core.Bool.{Bool, true, false, not}
use mathlib.Core.List.{List, [], ◌∷◌, ◌++◌}
use Prim.Native.Nat.{ℕ, ◌≤◌}
use lib.Dec.{eqb}
use lib.ListN.{length, get_or, drop}
use lib.Seq.{sets, sets-eq}
use mir.Val.{Val}
use denote.Laws.{Is}
use denote.Struct.Laws as LL
use Rattle.lent_jobs.specs.Memory.{flag}
use Rattle.engines.specs.declared.Screens.{Screens}
use Rattle.engines.specs.contracts.Screens as S
use Rattle.engines.proofs.Screens.TheLaws as S'
use Rattle.lent_engines.specs.Memory.{eight, screen_counts, screens_in}
use Rattle.lent_engines.specs.Lent.{WritesScreens}
use Rattle.lent_engines.proofs.Eight.{eight_ext, eight_of}

-- what owning the screens tells: there are eight
pub held_eight : (screens : Screens) (vals : List Val) → Is S.the_row screens vals → length screens.held ≡ 8
held_eight screens vals is =
    let held = (LL.owed S.the_type S'.the_laws screens vals is).0 in
    held.1.0.1

flag_read : (b : Bool) → not (eqb (flag b) 0) ≡ b
flag_read true = refl
flag_read false = refl

pub screens_read : (screens : Screens) (rest : List ℕ) → length screens.held ≡ 8 → screens_in (screen_counts screens ++ rest) ≡ screens
unfolding screens_in
screens_read screens rest h =
    ap (λ (held : List Bool). record { held = held; last = screens.last })
    (eight_ext false (λ i. not (eqb (flag (get_or screens.held i false)) 0)) (λ i. get_or screens.held i false)
    (λ i k. flag_read (get_or screens.held i false))
    ∙ eight_of false screens.held h)

-- nine stores from the start
pub screens_written : (screens : Screens) (counts written : List ℕ) → 9 ≤ length counts → length screens.held ≡ 8
    → written ≡ screen_counts screens
    → WritesScreens screens counts (sets counts 0 (eight (λ i. get_or written i 0) ++ (get_or written 8 0 ∷ [])))
screens_written screens counts written room h e =
    let stored : sets counts 0 (eight (λ i. get_or written i 0) ++ (get_or written 8 0 ∷ [])) ≡ screen_counts screens ++ drop 9 counts =
    ap (λ (w : List ℕ). sets counts 0 (eight (λ i. get_or w i 0) ++ (get_or w 8 0 ∷ []))) e ∙ sets-eq (screen_counts screens) counts 0 room
    in
    record { counts_are = stored; held = ap screens_in stored ∙ screens_read screens (drop 9 counts) h }
