-- Lines behind others: what is replied to them, and what is left. Assumes nothing.
use mathlib.Core.List.{List, [], ◌∷◌, ◌++◌, append_assoc}
use mathlib.Core.Path.{◌≡◌, refl, sym, ap, ◌∙◌}
use Prim.Native.Nat.{ℕ}
use Rattle.lines.specs.Lines.{Memory}
use Rattle.inputs.specs.Inputs.{reply, replies, left_by_line, left_by_lines}

-- what lines and more lines leave
pub left_append : (l k : List (List ℕ)) (memory : Memory) → left_by_lines (l ++ k) memory ≡ left_by_lines k (left_by_lines l memory)
unfolding left_by_lines
left_append [] k memory = refl
left_append (line ∷ l) k memory = left_append l k (left_by_line line memory)

-- and the replies to them
pub replies_append : (l k : List (List ℕ)) (memory : Memory)
    → replies (l ++ k) memory ≡ replies l memory ++ replies k (left_by_lines l memory)
unfolding replies left_by_lines
replies_append [] k memory = refl
replies_append (line ∷ l) k memory =
    let left = left_by_line line memory in
    ap (λ (t : List ℕ). reply line memory ++ t) (replies_append l k left)
    ∙ sym (append_assoc (reply line memory) (replies l left) (replies k (left_by_lines l left)))
