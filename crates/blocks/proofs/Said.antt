-- A text of a table, or another where there is none; and how long the texts are. Assumes nothing.
use mathlib.Core.List.{List, [], ◌∷◌, ◌++◌}
use mathlib.Core.Bool.{Bool, true, false, ◌&&◌, cond}
use mathlib.Core.Path.{◌≡◌, refl, sym, ap, subst, ◌∙◌}
use Prim.Native.Nat.{ℕ, ◌+◌, ◌<◌, ◌≤◌}
use native.Mathlib.Omega.{arith}
use borrow.Author.Tests.{le-leb, lt-leb}
use lib.Dec.{T, eqb, leb, leb→le}
use lib.ListN.{length, take, length-append}
use lib.Ieee.{Float, lt}
use lib.Ieee.Fits.{and_l, and_r}
use Rattle.floats.specs.Operations.{◌⊗◌, bits, at}
use Rattle.floats.specs.Floats.{abs_of}
use Rattle.texts.specs.Appended.{Appended}
use Rattle.texts.proofs.Appending.{nothing, then}
use Rattle.tokens.specs.Text.{text, codes}
use Rattle.counts.specs.Counts.{count_text}
use Rattle.counts.proofs.Printing.{twenty}
use Rattle.templates.specs.Matching.{same_bytes, cut_at_bars}
use Rattle.blocks.specs.declared.words.Read.{Read}
use Rattle.blocks.specs.Words.{shape_in, figures_in, counts_in}
use Rattle.blocks.specs.Steps.{IsRead}
use Rattle.blocks.specs.Tables.{text_for, with_bars}
use Rattle.blocks.specs.Filled.{of_first, plain_piece, plain, filled, room, plain_most}
use Rattle.blocks.specs.Cards.{newline, or_else, sentences, refusal_text, card_piece, card_most, card, cards, no_answer, shown}
use Rattle.blocks.specs.Cards.{block_of}
use Rattle.blocks.specs.Cards.{largest_from, beside_from, mass_figures, mass_line, moment_at, moment_figures, moment_line, all_zero}
use Rattle.blocks.specs.Cards.{mixed_figures, mixed_line, mixed_text, is_body_mark, body_piece, body_most}
use Rattle.blocks.proofs.Bars.{cut_into}
use Rattle.blocks.proofs.Pieces.{plain_fits}
use Rattle.blocks.proofs.Whole.{filled_fits}

-- ---- a text, or another

some_text : (t other : List ℕ) → 0 < length t → or_else t other ≡ t
some_text t other h = ap (λ (c : Bool). cond c t other) (le-leb 1 (length t) h)

no_text : (t other : List ℕ) → length t ≡ 0 → or_else t other ≡ other
no_text t other h = ap (λ (c : Bool). cond c t other) (lt-leb 1 (length t) (omega (arith, h)))

module _ (out after p t other : List ℕ) (n r : ℕ) (e : p ≡ t) where
  pub text_found : 0 < length p → Appended out n p after r → Appended out n (or_else t other) after r
  text_found h a = subst (λ (x : List ℕ). Appended out n x after r) (e ∙ sym (some_text t other (subst (λ (x : List ℕ). 0 < length x) e h)))
      a

  pub text_none : length p ≡ 0 → Appended out n other after r → Appended out n (or_else t other) after r
  text_none h a = subst (λ (x : List ℕ). Appended out n x after r) (sym (no_text t other (ap length (sym e) ∙ h))) a

-- ---- what holds of every text of a table holds of the one that is found

abbrev pub each : (List ℕ → Bool) → List (List ℕ) → Bool
each f [] = true
each f (t ∷ ts) = f t && each f ts

pub at_most_lem : (m : List ℕ → ℕ) (k : ℕ) (key : List ℕ) (ts : List (List ℕ)) → m [] ≤ k → T (each (λ t. leb (m t) k) ts)
    → m (text_for key ts) ≤ k
unfolding text_for
at_most_lem m k key [] o h = o
at_most_lem m k key (s ∷ []) o h = o
at_most_lem m k key (s ∷ t ∷ ts) o h = by (same_bytes key s) (at_most_lem m k key ts o)
  where
    behind : T (leb (m t) k && each (λ t. leb (m t) k) ts)
    behind = and_r (leb (m s) k) (leb (m t) k && each (λ t. leb (m t) k) ts) h

    by : (c : Bool) → (T (each (λ t. leb (m t) k) ts) → m (text_for key ts) ≤ k) → m (cond c t (text_for key ts)) ≤ k
    by true f = leb→le (m t) k (and_l (leb (m t) k) (each (λ t. leb (m t) k) ts) behind)
    by false f = f (and_r (leb (m t) k) (each (λ t. leb (m t) k) ts) behind)

-- ---- the sentences

sentences_cut : cut_at_bars (with_bars sentences) ≡ sentences
unfolding sentences text codes
sentences_cut = cut_into _ _ tt

sentence_short : (key : List ℕ) → length (text_for key sentences) ≤ 150
unfolding sentences text codes
sentence_short key = at_most_lem length 150 key sentences (omega arith) tt

module _ (table key : List ℕ) (e : table ≡ with_bars sentences) where
  cut : cut_at_bars table ≡ sentences
  cut = ap cut_at_bars e ∙ sentences_cut

  pub short_in_table : length (text_for key (cut_at_bars table)) ≤ 150
  short_in_table = subst (λ (ts : List (List ℕ)). length (text_for key ts) ≤ 150) (sym cut) (sentence_short key)

  pub said : (out after other : List ℕ) (n r : ℕ) → Appended out n (or_else (text_for key (cut_at_bars table)) other) after r
      → Appended out n (or_else (text_for key sentences) other) after r
  said out after other n r a = subst (λ (ts : List (List ℕ)). Appended out n (or_else (text_for key ts) other) after r) cut a

sentence_or_none : (key : List ℕ) → length (or_else (text_for key sentences) (text "no number of the table")) ≤ 150
unfolding text codes
sentence_or_none key = by (leb 1 (length (text_for key sentences)))
  where
    none : length (text "no number of the table") ≤ 150
    none = omega arith

    by : (c : Bool) → length (cond c (text_for key sentences) (text "no number of the table")) ≤ 150
    by true = sentence_short key
    by false = none

pub refusal_fits : (n : ℕ) → length (refusal_text n) ≤ 180
unfolding text codes
refusal_fits n =
    let a = length-append (count_text n) (text ": " ++ or_else (text_for (count_text n) sentences) (text "no number of the table")) in
    let t = twenty n in
    let s = sentence_or_none (count_text n) in
    omega (arith, a, t, s)

-- ---- blocks

-- a line of a body has room, as the definition has it and as the code has it
module _ (line : List ℕ) (most : ℕ) (h : room plain_most line ≤ most) where
  line_fits : (figures : List Float) → length (filled plain line figures []) ≤ most
  line_fits figures = let f = filled_fits plain plain_most plain_fits line figures [] in omega (arith, f, h)

  pub line_asked : (n k : ℕ) → n + most ≤ k → n + room plain_most line ≤ k
  line_asked n k g = omega (arith, g, h)

pub line_said : (out after line : List ℕ) (fs gs : List Float) (n r : ℕ) → gs ≡ fs → Appended out n (filled plain line gs []) after r
    → Appended out n (filled plain line fs []) after r
line_said out after line fs gs n r e a = subst (λ (x : List Float). Appended out n (filled plain line x []) after r) e a

pub mass_line_room : room plain_most mass_line ≤ 130
unfolding mass_line room text codes
mass_line_room = leb→le (room plain_most mass_line) 130 tt

pub moment_line_room : room plain_most moment_line ≤ 330
unfolding moment_line room text codes
moment_line_room = leb→le (room plain_most moment_line) 330 tt

pub mixed_line_room : room plain_most mixed_line ≤ 200
unfolding mixed_line room text codes
mixed_line_room = leb→le (room plain_most mixed_line) 200 tt

body_fits : (b : ℕ) (figures : List Float) → length (body_piece b figures) ≤ body_most b
body_fits b figures = by (eqb b 66) (eqb b 67) (all_zero (moment_at figures 7) (moment_at figures 8) (moment_at figures 9))
  where
    by : (s t z : Bool)
        → length (cond s (filled plain mass_line (mass_figures figures) [])
        (cond t (filled plain moment_line (moment_figures figures) []) (cond z [] (filled plain mixed_line (mixed_figures figures) []))))
        ≤ cond s 130 (cond t 330 200)
    by true t z = line_fits mass_line 130 mass_line_room (mass_figures figures)
    by false true z = line_fits moment_line 330 moment_line_room (moment_figures figures)
    by false false true = omega arith
    by false false false = line_fits mixed_line 200 mixed_line_room (mixed_figures figures)

pub card_fits : (b : ℕ) (figures : List Float) (counts : List ℕ) → length (card_piece b figures counts) ≤ card_most b
card_fits b figures counts = by (is_body_mark b) (eqb b 82) counts
  where
    by : (s t : Bool) (counts : List ℕ) → length
        (cond s (body_piece b figures) (cond t (of_first refusal_text counts) (plain_piece b figures counts))) ≤ cond s (body_most b)
        (cond t 180 (plain_most b))
    by true t counts = body_fits b figures
    by false true [] = omega arith
    by false true (n ∷ ns) = refusal_fits n
    by false false counts = plain_fits b figures counts

cards_cut : cut_at_bars (with_bars cards) ≡ cards
unfolding cards text codes
cards_cut = cut_into _ _ tt

card_room : (key : List ℕ) → room card_most (text_for key cards) ≤ 1000
unfolding cards room text codes
card_room key = at_most_lem (room card_most) 1000 key cards (omega arith) tt

module _ (table key : List ℕ) (e : table ≡ with_bars cards) where
  cards_in : cut_at_bars table ≡ cards
  cards_in = ap cut_at_bars e ∙ cards_cut

  pub room_in_table : room card_most (text_for key (cut_at_bars table)) ≤ 1000
  room_in_table = subst (λ (ts : List (List ℕ)). room card_most (text_for key ts) ≤ 1000) (sym cards_in) (card_room key)

  pub shown_from : (out after : List ℕ) (figures : List Float) (counts : List ℕ) (n r : ℕ)
      → Appended out n (or_else (filled card (text_for key (cut_at_bars table)) figures counts) no_answer ++ newline) after r
      → Appended out n (shown key figures counts) after r
  shown_from out after figures counts n r a = subst (λ (ts : List (List ℕ)). Appended out n
      (or_else (filled card (text_for key ts) figures counts) no_answer ++ newline) after r) cards_in a

-- a block that is there, and its empty line; or that there is none
module _ (out between after t other : List ℕ) (n m r : ℕ) (first : Appended out n t between m) where
  pub block_put : n < m → Appended between m newline after r → Appended out n (or_else t other ++ newline) after r
  block_put h a =
      let e = first.ends in
      subst (λ (x : List ℕ). Appended out n (x ++ newline) after r) (sym (some_text t other (omega (arith, h, e))))
      (then out between after n m r t newline first a)

  pub none_put : m ≤ n → Appended between n (other ++ newline) after r → Appended out n (or_else t other ++ newline) after r
  none_put h a =
      let e = first.ends in
      let z : length t ≡ 0 = omega (arith, h, e) in
      let s : m ≡ n = omega (arith, h, e) in
      subst (λ (x : List ℕ). Appended out n (x ++ newline) after r) (sym (no_text t other z))
      (subst (λ (x : List ℕ). Appended out n (x ++ (other ++ newline)) after r) (empty t z)
      (then out between after n n r t (other ++ newline) (subst (λ (k : ℕ). Appended out n t between k) s first) a))
    where
      empty : (l : List ℕ) → length l ≡ 0 → l ≡ []
      empty [] k = refl
      empty (x ∷ xs) k = absurd (let y : ⊥ = omega arith in y)

-- ---- a figure beside others, which is shown as 0 where it is small

pub beside : (f : List Float) (k i : ℕ) (x size largest : Float) (t : Bool) → x ≡ at f i → size ≡ abs_of x → largest ≡ largest_from f k
    → lt (size ⊗ bits 0x4270_0000_0000_0000) largest ≡ t → cond t (bits 0) x ≡ beside_from f k i
unfolding beside_from
beside f k i x size largest t a s l h =
    let m = ap (λ (y : Float). lt (y ⊗ bits 0x4270_0000_0000_0000) largest) (s ∙ ap abs_of a) in
    let n = ap (λ (y : Float). lt (abs_of (at f i) ⊗ bits 0x4270_0000_0000_0000) y) l in
    ap (λ (y : Float). cond t (bits 0) y) a ∙ ap (λ (c : Bool). cond c (bits 0) (at f i)) (sym h ∙ m ∙ n)

-- ---- a body's mixed entries, which are left out where they are 0

module _ (out after : List ℕ) (figures : List Float) (n r : ℕ) (xy xz yz : Float) (t : Bool) where
  module _ (a : xy ≡ moment_at figures 7) (b : xz ≡ moment_at figures 8) (c : yz ≡ moment_at figures 9) (z : t ≡ all_zero xy xz yz) where
    tested : t ≡ all_zero (moment_at figures 7) (moment_at figures 8) (moment_at figures 9)
    tested =
        z ∙ ap (λ (x : Float). all_zero x xz yz) a ∙ ap (λ (x : Float). all_zero (moment_at figures 7) x yz) b
        ∙ ap (λ (x : Float). all_zero (moment_at figures 7) (moment_at figures 8) x) c

    same : xy ∷ xz ∷ yz ∷ [] ≡ mixed_figures figures
    same =
        ap (λ (x : Float). x ∷ xz ∷ yz ∷ []) a ∙ ap (λ (x : Float). moment_at figures 7 ∷ x ∷ yz ∷ []) b
        ∙ ap (λ (x : Float). moment_at figures 7 ∷ moment_at figures 8 ∷ x ∷ []) c

    pub none_mixed : t ≡ true → Appended out n (mixed_text figures) out n
    none_mixed h =
        subst (λ (u : Bool). Appended out n (cond u [] (filled plain mixed_line (mixed_figures figures) [])) out n) (sym h ∙ tested)
        (nothing out n)

    pub some_mixed : t ≡ false → Appended out n (filled plain mixed_line (xy ∷ xz ∷ yz ∷ []) []) after r
        → Appended out n (mixed_text figures) after r
    some_mixed h d =
        subst (λ (u : Bool). Appended out n (cond u [] (filled plain mixed_line (mixed_figures figures) [])) after r) (sym h ∙ tested)
        (subst (λ (fs : List Float). Appended out n (filled plain mixed_line fs []) after r) same d)

-- ---- the text that is found

pub found_room : (p t : List ℕ) (n k : ℕ) → p ≡ t → room card_most t ≤ 1000 → n + 1024 ≤ k → n + room card_most p ≤ k
found_room p t n k e h g = let f = ap (room card_most) e in omega (arith, f, h, g)

pub found_filled : (out after p t : List ℕ) (figures : List Float) (counts : List ℕ) (n m : ℕ) → p ≡ t
    → Appended out n (filled card p figures counts) after m → Appended out n (filled card t figures counts) after m
found_filled out after p t figures counts n m e a = subst (λ (x : List ℕ). Appended out n (filled card x figures counts) after m) e a

-- a block is no longer than its room
pub card_short : (out after p t : List ℕ) (figures : List Float) (counts : List ℕ) (n m : ℕ) → p ≡ t → room card_most t ≤ 1000
    → Appended out n (filled card p figures counts) after m → m ≤ n + 1000
card_short out after p t figures counts n m e h a =
    let f = filled_fits card card_most card_fits p figures counts in
    let g = a.ends in
    let k = ap (room card_most) e in
    omega (arith, f, g, h, k)

-- ---- a line

pub long_line : (line out after : List ℕ) (n r : ℕ) → 512 < length line → Appended out n (no_answer ++ newline) after r
    → Appended out n (block_of line) after r
unfolding block_of
long_line line out after n r h a =
    subst (λ (c : Bool). Appended out n (cond c (shown (shape_in line) (figures_in line) (counts_in line)) (no_answer ++ newline)) after r)
    (sym (lt-leb (length line) 512 h)) a

pub answer_line : (line : List ℕ) (p : Read) (shape : List ℕ) (figures : List Float) (counts out after : List ℕ) (n r : ℕ)
    → length line ≤ 512 → IsRead line p shape figures counts
    → Appended out n (shown (take p.bytes shape) (take p.figures figures) (take p.counts counts)) after r
    → Appended out n (block_of line) after r
unfolding block_of
answer_line line p shape figures counts out after n r h d a =
    subst (λ (c : Bool). Appended out n (cond c (shown (shape_in line) (figures_in line) (counts_in line)) (no_answer ++ newline)) after r)
    (sym (le-leb (length line) 512 h))
    (subst (λ (s : List ℕ). Appended out n (shown s (figures_in line) (counts_in line)) after r) d.of_shape
    (subst (λ (f : List Float). Appended out n (shown (take p.bytes shape) f (counts_in line)) after r) d.of_figures
    (subst (λ (k : List ℕ). Appended out n (shown (take p.bytes shape) (take p.figures figures) k) after r) d.of_counts a)))
