-- How long what goes with a number is, and a word that is cut. Assumes nothing.
use mathlib.Core.List.{List, [], ◌∷◌, ◌++◌}
use mathlib.Core.Bool.{Bool, true, false, cond}
use mathlib.Core.Path.{◌≡◌, refl}
use Prim.Native.Nat.{ℕ, ◌+◌, ◌-◌, ◌≤◌}
use native.Mathlib.Omega.{arith}
use borrow.Author.Tests.{ltb-true, ltb-false}
use lib.Dec.{eqb, ltb, leb→le}
use lib.ListN.{length, take, drop, length-append, length-take}
use Rattle.tokens.specs.Text.{text, codes}
use Rattle.tokens.specs.Tokens.{line_bytes}
use Rattle.tokens.specs.declared.TokenRange.{TokenRange}
use Rattle.counts.specs.Counts.{count_text}
use Rattle.counts.proofs.Printing.{twenty}
use Rattle.templates.specs.Matching.{cut_at_bars, cut_after}
use Rattle.blocks.specs.Tables.{text_for}
use Rattle.blocks.specs.Cards.{refusal_text}
use Rattle.blocks.proofs.Said.{at_most_lem, refusal_fits}
use Rattle.std.specs.Prelude.{Option, Some, None}
use Rattle.explanations.specs.declared.Fault.{Fault}
use Rattle.explanations.specs.Faults.{fault_of}
use Rattle.explanations.specs.Endings.{saved, fault_place, wanted_word, wanted_of, wanted_text}
use Rattle.explanations.specs.Examples.{examples, form_words, details}
use Rattle.explanations.specs.Explanations.{edges_text, detail_key, detail_text, expected_text, short_end, shown_text, at_place, is_placed}
use Rattle.explanations.specs.Explanations.{place_text}
use Rattle.explanations.specs.Explanations.{fault_text, explained, too_long, explanation_of, kept_explanation}
use Rattle.explanations.proofs.Wanting.{few}

module _ (from to : ℕ) where
  pub short_order : from ≤ to → from ≤ short_end from to
  short_order h = by (ltb (to - from) 40)
    where
      by : (t : Bool) → from ≤ cond t to (from + 40)
      by true = h
      by false = omega arith

  pub short_within : from ≤ to → short_end from to ≤ to
  short_within h = by (ltb (to - from) 40) refl
    where
      by : (t : Bool) → ltb (to - from) 40 ≡ t → cond t to (from + 40) ≤ to
      by true e = omega arith
      by false e = let g = ltb-false (to - from) 40 e in omega (arith, g, h)

  pub short_few : short_end from to - from ≤ 40
  short_few = by (ltb (to - from) 40) refl
    where
      by : (t : Bool) → ltb (to - from) 40 ≡ t → cond t to (from + 40) - from ≤ 40
      by true e = let g = ltb-true (to - from) 40 e in omega (arith, g)
      by false e = omega arith

pub edges_few : (fault : Fault) → length (edges_text fault) ≤ 60
unfolding text codes
edges_few fault =
    let a = twenty fault.first in let b = twenty fault.second in
    let c = length-append (count_text fault.first) (text " and " ++ count_text fault.second) in
    omega (arith, a, b, c)

pub detail_few : (key : List ℕ) → length (text_for key (cut_at_bars details)) ≤ 100
unfolding details text codes cut_after
detail_few key = at_most_lem length 100 key (cut_at_bars details) (omega arith) tt

-- ---- how long an explanation is

abbrev size : List (List ℕ) → ℕ
size [] = 0
size (w ∷ ws) = length w + 1 + size ws

either : (t : Bool) (x y : List ℕ) (k : ℕ) → length x ≤ k → length y ≤ k → length (cond t x y) ≤ k
either true x y k a b = a
either false x y k a b = b

module _ (fault : Fault) (endings start : List ℕ) where
  words_size : (ws : List (List ℕ)) → length (wanted_of fault endings start ws) ≤ size ws
  unfolding wanted_of
  words_size [] = omega arith
  words_size (w ∷ ws) =
      let a = length-append (wanted_word fault endings start w) (wanted_of fault endings start ws) in
      let f = few fault endings start w in let s = words_size ws in
      omega (arith, a, f, s)

form_words_lem : size (cut_at_bars form_words) ≤ 400
unfolding form_words text codes cut_after
form_words_lem = leb→le (size (cut_at_bars form_words)) 400 tt

wanted_few : (fault : Fault) (endings start : List ℕ) → length (wanted_text fault endings form_words start) ≤ 400
unfolding text codes
wanted_few fault endings start =
    let s = words_size fault endings start (cut_at_bars form_words) in let f = form_words_lem in
    either (saved fault (start ++ text "F") endings) (text " F") (wanted_of fault endings start (cut_at_bars form_words)) 400 (omega arith)
    (omega (arith, s, f))

place_few : (endings line : List ℕ) (fault : Fault) (f : TokenRange) → length (at_place endings form_words line fault f) ≤ 450
unfolding text codes
place_few endings line fault f =
    let b = twenty (f.from + 1) in let a = wanted_few fault endings (take f.from line ++ text " ") in
    let s = short_few f.from f.to in let l = length-take (short_end f.from f.to - f.from) (drop f.from line) in
    let e = either (eqb fault.number 18) (expected_text endings form_words line fault f.from) (shown_text line f) 420 (omega (arith, a))
    (omega (arith, l, s)) in
    let c = length-append (count_text (f.from + 1))
    (cond (eqb fault.number 18) (expected_text endings form_words line fault f.from) (shown_text line f)) in
    omega (arith, b, e, c)

detail_text_few : (fault : Fault) → length (detail_text details fault) ≤ 100
detail_text_few fault =
    let e = edges_few fault in
    either (eqb fault.number 7) (edges_text fault) (text_for (detail_key fault) (cut_at_bars details)) 100 (omega (arith, e))
    (detail_few (detail_key fault))

fault_few : (line : List ℕ) (fault : Fault) → length (fault_text line fault) ≤ 800
unfolding text codes
fault_few line fault =
    let place = place_text examples form_words line fault in
    let p = either (is_placed fault.number) (at_place examples form_words line fault (fault_place fault examples line)) [] 450
    (place_few examples line fault (fault_place fault examples line)) (omega arith) in
    let d = detail_text_few fault in let r = refusal_fits fault.number in
    let a = length-append (refusal_text fault.number) (detail_text details fault ++ place) in
    let b = length-append (detail_text details fault) place in
    omega (arith, p, d, r, a, b)

explained_few : (line : List ℕ) (found : Option Fault) → length (explained line found) ≤ 800
unfolding text codes
explained_few line None = omega arith
explained_few line (Some fault) = fault_few line fault

pub kept_few : (line : List ℕ) (over : Bool) → length (kept_explanation line over) ≤ 800
unfolding explanation_of text codes
kept_few line over =
    let found = fault_of line in
    either over too_long (cond (ltb line_bytes (length line)) too_long (explained line found)) 800 (omega arith)
    (either (ltb line_bytes (length line)) too_long (explained line found) 800 (omega arith) (explained_few line found))
