-- A word's bytes are each a word's. Assumes nothing.
use mathlib.Core.List.{List, [], ◌∷◌}
use mathlib.Core.Bool.{Bool, ◌&&◌}
use mathlib.Core.Path.{◌≡◌, refl, ap}
use Prim.Native.Nat.{ℕ}
use Rattle.std.specs.List.{list_all}
use Rattle.templates.specs.Matching.{is_word_byte, is_word}

pub all_word : (w : List ℕ) → list_all is_word_byte w ≡ is_word w
unfolding is_word
all_word [] = refl
all_word (b ∷ w) = ap (λ (t : Bool). is_word_byte b && t) (all_word w)
