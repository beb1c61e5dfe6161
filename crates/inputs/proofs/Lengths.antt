-- How long replies are: those to more bytes are no shorter, and those to an input with a byte have one. Assumes nothing.
use mathlib.Core.List.{List, [], ◌∷◌, ◌++◌}
use mathlib.Core.Bool.{Bool, true, false, cond}
use mathlib.Core.Path.{◌≡◌, refl, ap, ◌∙◌}
use Prim.Native.Nat.{ℕ, ◌+◌, ◌-◌, ◌<◌, ◌≤◌}
use native.Mathlib.Omega.{arith}
use lib.Dec.{eqb, leb}
use lib.ListN.{length, take, drop, length-append}
use lib.Seq.{take-add}
use Rattle.refusals.specs.declared.Refusal.TheVariants.{NoForm}
use Rattle.tokens.specs.Tokens.{line_bytes}
use Rattle.answers.specs.Answers.{text_of}
use Rattle.lines.specs.Lines.{Memory, refused_reply, answer_of}
use Rattle.input_lines.specs.Lines.{lines_within, begun_after, last_line, lines_of}
use Rattle.input_lines.proofs.Cutting.{lines_twice}
use Rattle.inputs.specs.Inputs.{reply, left_by_line, left_by_lines, replies, replies_to}
use Rattle.inputs.proofs.Lines.{replies_append}

-- the replies to the first bytes are no longer than those to more of them
pub grow : (begun bytes : List ℕ) (m : Memory) (j i : ℕ) → j ≤ i
    → length (replies (lines_within begun (take j bytes)) m) ≤ length (replies (lines_within begun (take i bytes)) m)
grow begun bytes m j i h =
    let a = take j bytes in let b = take (i - j) (drop j bytes) in
    let sum : i ≡ j + (i - j) = omega arith in
    let e : take i bytes ≡ a ++ b = ap (λ (k : ℕ). take k bytes) sum ∙ take-add j (i - j) bytes in
    let k = lines_within (begun_after begun a) b in
    let l = replies_append (lines_within begun a) k m in
    let n = length-append (replies (lines_within begun a) m) (replies k (left_by_lines (lines_within begun a) m)) in
    rw (e, lines_twice begun a b, l) (omega arith)

-- a line that has begun, or another byte, is a line at the end
abbrev Some : List ℕ → List ℕ → Type 0
Some begun bytes = 0 < length begun + length bytes → 0 < length (lines_within begun bytes ++ last_line (begun_after begun bytes))

some_lines : (begun bytes : List ℕ) → Some begun bytes
unfolding lines_within begun_after
some_lines [] [] h = absurd (let z : ⊥ = omega arith in z)
some_lines (c ∷ begun) [] h = omega arith
some_lines begun (b ∷ bs) h = by (eqb b 10) refl (some_lines (begun ++ (b ∷ [])) bs)
  where
    by : (t : Bool) → eqb b 10 ≡ t → Some (begun ++ (b ∷ [])) bs
        → 0 < length (lines_within begun (b ∷ bs) ++ last_line (begun_after begun (b ∷ bs)))
    by true e i = rw e (omega arith)
    by false e i = let l = length-append begun (b ∷ []) in rw e (i (omega arith))

-- a reply has a byte, its newline
some_reply : (line : List ℕ) (m : Memory) → 0 < length (reply line m)
unfolding reply
some_reply line m = by (cond (leb (length line) line_bytes) (answer_of line m) (text_of (refused_reply NoForm)))
  where
    by : (text : List ℕ) → 0 < length (text ++ (10 ∷ []))
    by text = let e = length-append text (10 ∷ []) in omega arith

some_replies : (lines : List (List ℕ)) (m : Memory) → 0 < length lines → 0 < length (replies lines m)
unfolding replies
some_replies [] m h = absurd (let z : ⊥ = omega arith in z)
some_replies (line ∷ lines) m h =
    let e = length-append (reply line m) (replies lines (left_by_line line m)) in let f = some_reply line m in
    omega arith

pub some_replied : (input : List ℕ) (m : Memory) → 0 < length input → 0 < length (replies_to input m)
some_replied input m h = some_replies (lines_of input) m (some_lines [] input (omega arith))
