-- The laws of `line_runs::Answers`, which shown lines keep.
use mathlib.Core.List.{List, [], ◌∷◌, ◌++◌, append_assoc}
use mathlib.Core.Path.{◌≡◌, refl, sym, ap, ◌∙◌}
use Prim.Native.Nat.{ℕ, ◌+◌, ◌≤◌}
use native.Mathlib.Omega.{arith}
use lib.ListN.{length, length-append}
use Rattle.input_lines.proofs.Taking.{Laws}
use Rattle.blocks.specs.Cards.{numbered_bytes}
use Rattle.shown_lines.specs.declared.Maker.{Maker}
use Rattle.shown_lines.specs.declared.Showing.{Showing}
use Rattle.shown_lines.specs.Program.{made_by, blocks_from, told, Shown, ShownOver, StaysOver}

blocks_append : (maker : Maker) (n : ℕ) (l k : List (List ℕ))
    → blocks_from maker n (l ++ k) ≡ blocks_from maker n l ++ blocks_from maker (n + length l) k
unfolding blocks_from
blocks_append maker n [] k = let e : n ≡ n + 0 = omega arith in ap (λ (i : ℕ). blocks_from maker i k) e
blocks_append maker n (line ∷ l) k =
    let e : n + 1 + length l ≡ n + length (line ∷ l) = omega arith in
    ap (λ (t : List ℕ). made_by maker n line ++ t)
    (blocks_append maker (n + 1) l k ∙ ap (λ (i : ℕ). blocks_from maker (n + 1) l ++ blocks_from maker i k) e)
    ∙ sym (append_assoc (made_by maker n line) (blocks_from maker (n + 1) l)
    (blocks_from maker (n + length (line ∷ l)) k))

both : (maker : Maker) (m n o : ℕ) (l k : List (List ℕ)) (x y : List ℕ) → Shown maker m l x n → Shown maker n k y o
    → Shown maker m (l ++ k) (x ++ y) o
both maker m n o l k x y p q =
    let e = p.ends in let f = q.ends in let g = length-append l k in
    let i : n + 1 ≡ m + 1 + length l = omega arith in
    record {
      blocks = ap (λ (t : List ℕ). t ++ y) p.blocks
          ∙ ap (λ (t : List ℕ). blocks_from maker (m + 1) l ++ t) (q.blocks ∙ ap (λ (j : ℕ). blocks_from maker j k) i)
          ∙ sym (blocks_append maker (m + 1) l k);
      ends = omega arith;
    }

pub laws : Laws ShownOver StaysOver
unfolding blocks_from
laws =
    record {
      no_lines = λ m. record { shown = record { blocks = refl; ends = omega arith }; maker = refl };
      then_lines = λ m n o l k x y p q.
          record {
            shown = both m.maker m.ended n.ended o.ended l k x y p.shown (rw p.maker at q.shown);
            maker = q.maker ∙ p.maker;
          };
      still = λ m i. record { ended = omega arith; maker = refl };
      then_stays = λ m n o i j p q.
          let e = p.ended in let f = q.ended in record { ended = omega arith; maker = q.maker ∙ p.maker };
    }

-- the lines that ended are no more than the bytes that were taken
pub still_ready : (m n : Showing) (i j : ℕ) → m.ended ≤ i → StaysOver m j n → n.ended ≤ i + j
still_ready m n i j h s = let e = s.ended in omega arith

pub told_stays : (m n : Showing) (i : ℕ) → StaysOver m i n → told n.maker ≡ told m.maker
told_stays m n i s = ap (λ (maker : Maker). told maker) s.maker

pub few : numbered_bytes ≤ 1050
few = omega arith
