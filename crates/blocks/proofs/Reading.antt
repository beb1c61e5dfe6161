-- A line word by word: the word that is being read grows, and ends; what was read with what is still to come is the whole. Assumes nothing.
use mathlib.Core.List.{List, [], ◌∷◌, ◌++◌, append-nil, append_assoc}
use mathlib.Core.Bool.{Bool, true, false, cond}
use mathlib.Core.Path.{◌≡◌, refl, sym, ap, subst, ◌∙◌}
use Prim.Native.Nat.{ℕ, ◌+◌, ◌-◌, ◌<◌, ◌≤◌}
use native.Mathlib.Omega.{arith}
use borrow.Author.Tests.{not-true, lt-ltb, le-ltb, ltb-true, ltb-false, eq-eqb, ne_eqb}
use lib.Dec.{ltb, eqb}
use lib.ListN.{length, take, drop, set, get_or, drop_of_length-le, length-take, length-drop}
use lib.Ieee.{Float}
use Rattle.std.specs.Prelude.{Option, Some, None}
use Rattle.hexadecimal.specs.Hex.{figure_of}
use Rattle.counts.specs.Counts.{count_of, capped_count}
use Rattle.texts.specs.Appended.{Appended}
use Rattle.texts.proofs.Appending.{nothing, byte_put}
use Rattle.tokens.specs.Tokens.{ends_word}
use Rattle.tokens.specs.Found.{part, IsWordEnd}
use Rattle.tokens.specs.Places.{run, in_word}
use Rattle.tokens.proofs.Bytes.{cons_at, part_longer, part_none}
use Rattle.tokens.proofs.Places.{along}
use Rattle.blocks.specs.declared.words.Read.{Read}
use Rattle.blocks.specs.Words.{by_kind, other_shape, word_shape, word_figures, word_counts, over_words, shape_in, figures_in, counts_in}
use Rattle.blocks.specs.Steps.{Grown, IsEnd, end_bytes, PutsFigure, PutsCount, PutsPlain, PutsOther, PutsWord, IsRead}
use Rattle.blocks.proofs.Growing.{unchanged}

-- ---- a word that is being read, whatever it gives

module _ {A : Type 0} (f : List ℕ → List A) (g : ℕ → List A) (l : List ℕ) where
  pub begins : (i : ℕ) → over_words f g [] (drop i l) ≡ over_words f g (part l i i) (drop i l)
  begins i = ap (λ (w : List ℕ). over_words f g w (drop i l)) (sym (part_none l i))

  byte : (w : List ℕ) (j : ℕ) (t : Bool) → j < length l → ends_word (get_or l j 0) ≡ t
      → over_words f g w (drop j l)
      ≡ cond t (f w ++ (g (get_or l j 0) ++ over_words f g [] (drop (j + 1) l)))
      (over_words f g (w ++ (get_or l j 0 ∷ [])) (drop (j + 1) l))
  unfolding over_words
  byte w j t h e =
      ap (over_words f g w) (cons_at l j h)
      ∙ ap (λ (t : Bool). cond t (f w ++ (g (get_or l j 0) ++ over_words f g [] (drop (j + 1) l)))
      (over_words f g (w ++ (get_or l j 0 ∷ [])) (drop (j + 1) l))) e

  pub grows : (i j : ℕ) → i ≤ j → j < length l → ends_word (get_or l j 0) ≡ false
      → over_words f g [] (drop i l) ≡ over_words f g (part l i j) (drop j l)
      → over_words f g [] (drop i l) ≡ over_words f g (part l i (j + 1)) (drop (j + 1) l)
  grows i j a h e t = t ∙ byte (part l i j) j false h e
      ∙ ap (λ (w : List ℕ). over_words f g w (drop (j + 1) l)) (sym (part_longer l i j a h))

  abbrev Passed : ℕ → ℕ → Type 0
  Passed i j = (i ≤ j) × (over_words f g [] (drop i l) ≡ over_words f g (part l i j) (drop j l))

  -- up to its end a word only grows
  pub grown : (i to : ℕ) → i ≤ length l → to ≡ i + run in_word (drop i l)
      → over_words f g [] (drop i l) ≡ over_words f g (part l i to) (drop to l)
  grown i to h e = rw e (along in_word l (Passed i) step (length l - i) i refl (omega arith, begins i)).1
    where
      step : (j : ℕ) → j < length l → in_word (get_or l j 0) ≡ true → Passed i j → Passed i (j + 1)
      step j b t p = let a = p.0 in (omega (arith, a), grows i j a b (not-true _ t) p.1)

  behind : (w : List ℕ) (j : ℕ) → length l ≤ j → over_words f g w (drop j l) ≡ f w
  unfolding over_words
  behind w j h = ap (over_words f g w) (drop_of_length-le l h)

  -- a word, the byte that ends it, and the rest; a word of no bytes gives nothing
  pub word_ends : (w : List ℕ) (to : ℕ) → f [] ≡ [] → (to < length l → ends_word (get_or l to 0) ≡ true)
      → over_words f g w (drop to l) ≡ f w ++ (cond (ltb to (length l)) (g (get_or l to 0)) [] ++ over_words f g [] (drop (to + 1) l))
  word_ends w to z stops = by (ltb to (length l)) refl
    where
      by : (t : Bool) → ltb to (length l) ≡ t
          → over_words f g w (drop to l) ≡ f w ++ (cond t (g (get_or l to 0)) [] ++ over_words f g [] (drop (to + 1) l))
      by true e = let h = ltb-true to (length l) e in byte w to true h (stops h)
      by false e =
          let h = ltb-false to (length l) e in
          behind w to h ∙ sym (append-nil (f w)) ∙ ap (λ (t : List A). f w ++ t) (sym (behind [] (to + 1) (omega (arith, h)) ∙ z))

-- ---- words

no_word : (w : List ℕ) → length w ≡ 0 → w ≡ []
no_word [] h = refl
no_word (b ∷ bs) h = absurd (let z : ⊥ = omega arith in z)

pub shape_of_none : word_shape [] ≡ []
unfolding figure_of count_of
shape_of_none = refl

pub figures_of_none : word_figures [] ≡ []
unfolding figure_of count_of
figures_of_none = refl

pub counts_of_none : word_counts [] ≡ []
unfolding figure_of count_of
counts_of_none = refl

-- a word gives no more than it has bytes
pub shape_short : (w : List ℕ) → length (word_shape w) ≤ length w
shape_short [] = let e = ap length shape_of_none in omega (arith, e)
shape_short (b ∷ bs) = by (figure_of (b ∷ bs)) (capped_count (count_of (b ∷ bs))) (eqb (length (b ∷ bs)) 1)
  where
    by : (k : Option Float) (c : Option ℕ) (t : Bool)
        → length (by_kind k c (λ x. 70 ∷ []) (λ n. 78 ∷ []) (cond t (63 ∷ []) (b ∷ bs))) ≤ length (b ∷ bs)
    by (Some x) c t = omega arith
    by None (Some n) t = omega arith
    by None None true = omega arith
    by None None false = omega arith

figures_short : (w : List ℕ) → length (word_figures w) ≤ length w
figures_short [] = let e = ap length figures_of_none in omega (arith, e)
figures_short (b ∷ bs) = by (figure_of (b ∷ bs)) (capped_count (count_of (b ∷ bs)))
  where
    by : (k : Option Float) (c : Option ℕ) → length (by_kind {A = List Float} k c (λ x. x ∷ []) (λ n. []) []) ≤ length (b ∷ bs)
    by (Some x) c = omega arith
    by None (Some n) = omega arith
    by None None = omega arith

counts_short : (w : List ℕ) → length (word_counts w) ≤ length w
counts_short [] = let e = ap length counts_of_none in omega (arith, e)
counts_short (b ∷ bs) = by (figure_of (b ∷ bs)) (capped_count (count_of (b ∷ bs)))
  where
    by : (k : Option Float) (c : Option ℕ) → length (by_kind {A = List ℕ} k c (λ x. []) (λ n. n ∷ []) []) ≤ length (b ∷ bs)
    by (Some x) c = omega arith
    by None (Some n) = omega arith
    by None None = omega arith

-- ---- what a word gives, by what it is

module _ (w : List ℕ) (p r : Read) (shape shape' : List ℕ) where
  pub other_count : (n : ℕ) (counts counts' : List ℕ) → Some n ≡ capped_count (count_of w) → PutsCount n p r shape shape' counts counts'
      → PutsOther w p r shape shape' counts counts'
  other_count n counts counts' e h =
      record {
        of_shape = subst (λ (k : Option ℕ). Appended shape p.bytes (by_kind None k (λ x. 70 ∷ []) (λ n. 78 ∷ []) (other_shape w)) shape'
            r.bytes) e h.of_shape;
        of_counts = subst (λ (k : Option ℕ). Grown counts p.counts (by_kind None k (λ x. []) (λ n. n ∷ []) []) counts' r.counts) e
            h.of_counts;
        same_figures = h.same_figures;
      }

  other_plain : (counts : List ℕ) → None ≡ capped_count (count_of w) → PutsPlain (other_shape w) p r shape shape'
      → PutsOther w p r shape shape' counts counts
  other_plain counts e h =
      record {
        of_shape = subst (λ (k : Option ℕ). Appended shape p.bytes (by_kind None k (λ x. 70 ∷ []) (λ n. 78 ∷ []) (other_shape w)) shape'
            r.bytes) e h.of_shape;
        of_counts = subst (λ (k : Option ℕ). Grown counts p.counts (by_kind None k (λ x. []) (λ n. n ∷ []) []) counts r.counts) e
            (unchanged counts p.counts r.counts h.same_counts);
        same_figures = h.same_figures;
      }

  pub other_byte : (counts : List ℕ) → None ≡ capped_count (count_of w) → length w ≡ 1 → PutsPlain (63 ∷ []) p r shape shape'
      → PutsOther w p r shape shape' counts counts
  other_byte counts e one h =
      other_plain counts e (subst (λ (t : Bool). PutsPlain (cond t (63 ∷ []) w) p r shape shape') (sym (eq-eqb (length w) 1 one)) h)

  pub other_bytes : (counts : List ℕ) → None ≡ capped_count (count_of w) → (length w ≡ 1 → ⊥) → PutsPlain w p r shape shape'
      → PutsOther w p r shape shape' counts counts
  other_bytes counts e many h =
      other_plain counts e (subst (λ (t : Bool). PutsPlain (cond t (63 ∷ []) w) p r shape shape') (sym (ne_eqb (length w) 1 many)) h)

  pub word_figure : (x : Float) (figures figures' : List Float) (counts : List ℕ) → Some x ≡ figure_of w
      → PutsFigure x p r shape shape' figures figures' → PutsWord w p r shape shape' figures figures' counts counts
  word_figure x figures figures' counts e h =
      record {
        of_shape = subst (λ (k : Option Float). Appended shape p.bytes
            (by_kind k (capped_count (count_of w)) (λ x. 70 ∷ []) (λ n. 78 ∷ []) (other_shape w)) shape' r.bytes) e h.of_shape;
        of_figures = subst (λ (k : Option Float). Grown figures p.figures (by_kind k (capped_count (count_of w)) (λ x. x ∷ []) (λ n. []) [])
            figures' r.figures) e h.of_figures;
        of_counts = subst (λ (k : Option Float). Grown counts p.counts
            (by_kind k (capped_count (count_of w)) (λ x. []) (λ n. n ∷ []) []) counts r.counts)
            e (unchanged counts p.counts r.counts h.same_counts);
      }

  pub word_other : (figures : List Float) (counts counts' : List ℕ) → None ≡ figure_of w → PutsOther w p r shape shape' counts counts'
      → PutsWord w p r shape shape' figures figures counts counts'
  word_other figures counts counts' e h =
      record {
        of_shape = subst (λ (k : Option Float). Appended shape p.bytes
            (by_kind k (capped_count (count_of w)) (λ x. 70 ∷ []) (λ n. 78 ∷ []) (other_shape w)) shape' r.bytes) e h.of_shape;
        of_figures = subst (λ (k : Option Float). Grown figures p.figures (by_kind k (capped_count (count_of w)) (λ x. x ∷ []) (λ n. []) [])
            figures r.figures) e (none (capped_count (count_of w)));
        of_counts = subst (λ (k : Option Float). Grown counts p.counts
            (by_kind k (capped_count (count_of w)) (λ x. []) (λ n. n ∷ []) []) counts' r.counts) e h.of_counts;
      }
    where
      none : (c : Option ℕ) → Grown figures p.figures (by_kind {A = List Float} None c (λ x. x ∷ []) (λ n. []) []) figures r.figures
      none (Some n) = unchanged figures p.figures r.figures h.same_figures
      none None = unchanged figures p.figures r.figures h.same_figures

pub word_none : (w : List ℕ) (p : Read) (shape : List ℕ) (figures : List Float) (counts : List ℕ) → length w ≡ 0
    → PutsWord w p p shape shape figures figures counts counts
word_none w p shape figures counts h =
    let e = no_word w h in
    record {
      of_shape = subst (λ (t : List ℕ). Appended shape p.bytes t shape p.bytes) (sym (ap word_shape e ∙ shape_of_none))
          (nothing shape p.bytes);
      of_figures = subst (λ (t : List Float). Grown figures p.figures t figures p.figures) (sym (ap word_figures e ∙ figures_of_none))
          (unchanged figures p.figures p.figures refl);
      of_counts = subst (λ (t : List ℕ). Grown counts p.counts t counts p.counts) (sym (ap word_counts e ∙ counts_of_none))
          (unchanged counts p.counts p.counts refl);
    }

-- ---- the byte that ends a word

pub end_byte : (line shape : List ℕ) (p : Read) (to : ℕ) → to < length line → p.bytes < length shape
    → PutsPlain (end_bytes line to) p (record { bytes = p.bytes + 1; figures = p.figures; counts = p.counts }) shape
    (set shape p.bytes (get_or line to 0))
end_byte line shape p to h g =
    record {
      of_shape = subst (λ (t : Bool). Appended shape p.bytes (cond t (get_or line to 0 ∷ []) []) (set shape p.bytes (get_or line to 0))
          (p.bytes + 1)) (sym (lt-ltb to (length line) h)) (byte_put shape p.bytes (get_or line to 0) g);
      same_figures = refl;
      same_counts = refl;
    }

pub no_byte : (line shape : List ℕ) (p : Read) (to : ℕ) → length line ≤ to → PutsPlain (end_bytes line to) p p shape shape
no_byte line shape p to h =
    record {
      of_shape = subst (λ (t : Bool). Appended shape p.bytes (cond t (get_or line to 0 ∷ []) []) shape p.bytes)
          (sym (le-ltb to (length line) h)) (nothing shape p.bytes);
      same_figures = refl;
      same_counts = refl;
    }

-- ---- the whole line

pub record SoFar (line : List ℕ) (r : Read) (i : ℕ) (shape : List ℕ) (figures : List Float) (counts : List ℕ) : Type 0 where
  pub of_shape : shape_in line ≡ take r.bytes shape ++ over_words word_shape (λ b. b ∷ []) [] (drop i line)
  pub of_figures : figures_in line ≡ take r.figures figures ++ over_words word_figures (λ b. []) [] (drop i line)
  pub of_counts : counts_in line ≡ take r.counts counts ++ over_words word_counts (λ b. []) [] (drop i line)
  pub bytes_behind : r.bytes ≤ i
  pub bytes_fit : r.bytes ≤ length line
  pub figures_behind : r.figures ≤ i
  pub figures_fit : r.figures ≤ length line
  pub counts_behind : r.counts ≤ i
  pub counts_fit : r.counts ≤ length line
  pub within : i ≤ length line + 1

pub nothing_read : (line shape : List ℕ) (figures : List Float) (counts : List ℕ)
    → SoFar line (record { bytes = 0; figures = 0; counts = 0 }) 0 shape figures counts
nothing_read line shape figures counts =
    record {
      of_shape = refl;
      of_figures = refl;
      of_counts = refl;
      bytes_behind = omega arith;
      bytes_fit = omega arith;
      figures_behind = omega arith;
      figures_fit = omega arith;
      counts_behind = omega arith;
      counts_fit = omega arith;
      within = omega arith;
    }

-- one list: what was there, a word's share, and the rest
joined : {A : Type 0} (whole before more rest after : List A) → whole ≡ before ++ (more ++ rest) → after ≡ before ++ more
    → whole ≡ after ++ rest
joined whole before more rest after e f = e ∙ sym (append_assoc before more rest) ∙ ap (λ (t : _). t ++ rest) (sym f)

nothing_between : {A : Type 0} (t : Bool) (rest : List A) → cond t [] [] ++ rest ≡ rest
nothing_between true rest = refl
nothing_between false rest = refl

pub part_length : (l : List ℕ) (i to : ℕ) → i ≤ to → to ≤ length l → length (part l i to) ≡ to - i
part_length l i to a b = let t = length-take (to - i) (drop i l) in let d = length-drop i l in omega (arith, t, d)

end_short : (l : List ℕ) (to : ℕ) → length (end_bytes l to) ≤ 1
end_short l to = by (ltb to (length l))
  where
    by : (t : Bool) → length (cond t (get_or l to 0 ∷ []) []) ≤ 1
    by true = omega arith
    by false = omega arith

-- and none at the line's end
no_end : (l : List ℕ) (to : ℕ) → length l ≤ to → length (end_bytes l to) ≡ 0
no_end l to h = ap (λ (t : Bool). length (cond t (get_or l to 0 ∷ []) [])) (le-ltb to (length l) h)

-- the end of a word, as a line's tokens have it, is its end as a line's words have it
pub is_end : (line : List ℕ) (i to : ℕ) → i ≤ length line → IsWordEnd line i to → IsEnd line i to
is_end line i to h e =
    record {
      behind = e.behind;
      within = e.within;
      shape = grown word_shape (λ b. b ∷ []) line i to h e.place;
      figures = grown word_figures (λ b. []) line i to h e.place;
      counts = grown word_counts (λ b. []) line i to h e.place;
      stops = e.stops;
    }

module _ (line : List ℕ) (r w q : Read) (i to : ℕ) (shape shape₁ shape₂ : List ℕ) (figures figures₁ : List Float) (counts counts₁ : List ℕ)
    (v : SoFar line r i shape figures counts) (e : IsEnd line i to)
    (put : PutsWord (part line i to) r w shape shape₁ figures figures₁ counts counts₁)
    (end : PutsPlain (end_bytes line to) w q shape₁ shape₂) where
  pub one_word : SoFar line q (to + 1) shape₂ figures₁ counts₁
  one_word =
      let l = part_length line i to e.behind e.within in
      let s = shape_short (part line i to) in
      let f = figures_short (part line i to) in
      let n = counts_short (part line i to) in
      let b = end_short line to in
      let se = put.of_shape.ends in
      let fe = put.of_figures.ends in
      let ne = put.of_counts.ends in
      let be = end.of_shape.ends in
      let sf = end.same_figures in
      let sc = end.same_counts in
      let within = e.within in
      let behind = e.behind in
      let vb = v.bytes_behind in
      let vf = v.figures_behind in
      let vc = v.counts_behind in
      record {
        of_shape =
            joined (shape_in line) (take r.bytes shape) (word_shape (part line i to) ++ end_bytes line to)
            (over_words word_shape (λ b. b ∷ []) [] (drop (to + 1) line)) (take q.bytes shape₂)
            (v.of_shape ∙ ap (λ (t : List ℕ). take r.bytes shape ++ t)
            (e.shape ∙ word_ends word_shape (λ b. b ∷ []) line (part line i to) to shape_of_none e.stops
            ∙ sym (append_assoc (word_shape (part line i to)) (end_bytes line to) _)))
            (end.of_shape.holds ∙ ap (λ (t : List ℕ). t ++ end_bytes line to) put.of_shape.holds
            ∙ append_assoc (take r.bytes shape) (word_shape (part line i to)) (end_bytes line to));
        of_figures =
            joined (figures_in line) (take r.figures figures) (word_figures (part line i to))
            (over_words word_figures (λ b. []) [] (drop (to + 1) line)) (take q.figures figures₁)
            (v.of_figures ∙ ap (λ (t : List Float). take r.figures figures ++ t)
            (e.figures ∙ word_ends word_figures (λ b. []) line (part line i to) to figures_of_none e.stops
            ∙ ap (λ (t : List Float). word_figures (part line i to) ++ t) (nothing_between (ltb to (length line)) _)))
            (ap (λ (k : ℕ). take k figures₁) sf ∙ put.of_figures.holds);
        of_counts =
            joined (counts_in line) (take r.counts counts) (word_counts (part line i to))
            (over_words word_counts (λ b. []) [] (drop (to + 1) line)) (take q.counts counts₁)
            (v.of_counts ∙ ap (λ (t : List ℕ). take r.counts counts ++ t)
            (e.counts ∙ word_ends word_counts (λ b. []) line (part line i to) to counts_of_none e.stops
            ∙ ap (λ (t : List ℕ). word_counts (part line i to) ++ t) (nothing_between (ltb to (length line)) _)))
            (ap (λ (k : ℕ). take k counts₁) sc ∙ put.of_counts.holds);
        bytes_behind = omega (arith, l, s, b, se, be, vb, behind);
        bytes_fit = fit (ltb to (length line)) refl;
        figures_behind = omega (arith, l, f, fe, sf, vf, behind);
        figures_fit = omega (arith, l, f, fe, sf, vf, behind, within);
        counts_behind = omega (arith, l, n, ne, sc, vc, behind);
        counts_fit = omega (arith, l, n, ne, sc, vc, behind, within);
        within = omega (arith, within);
      }
    where
      fit : (t : Bool) → ltb to (length line) ≡ t → q.bytes ≤ length line
      fit true g =
          let h = ltb-true to (length line) g in
          let l = part_length line i to e.behind e.within in
          let s = shape_short (part line i to) in
          let b = end_short line to in
          let se = put.of_shape.ends in
          let be = end.of_shape.ends in
          let vb = v.bytes_behind in
          let k = e.behind in
          omega (arith, h, l, s, b, se, be, vb, k)
      fit false g =
          let h = ltb-false to (length line) g in
          let l = part_length line i to e.behind e.within in
          let s = shape_short (part line i to) in
          let b = no_end line to h in
          let se = put.of_shape.ends in
          let be = end.of_shape.ends in
          let vb = v.bytes_behind in
          let k = e.behind in
          let m = e.within in
          omega (arith, h, l, s, b, se, be, vb, k, m)

pub all_read : (line : List ℕ) (r : Read) (i : ℕ) (shape : List ℕ) (figures : List Float) (counts : List ℕ)
    → SoFar line r i shape figures counts → length line ≤ i → IsRead line r shape figures counts
all_read line r i shape figures counts v h =
    record {
      of_shape = sym (v.of_shape ∙ ap (λ (t : List ℕ). take r.bytes shape ++ t)
          (behind word_shape (λ b. b ∷ []) line [] i h ∙ shape_of_none) ∙ append-nil (take r.bytes shape));
      of_figures = sym (v.of_figures ∙ ap (λ (t : List Float). take r.figures figures ++ t)
          (behind word_figures (λ b. []) line [] i h ∙ figures_of_none) ∙ append-nil (take r.figures figures));
      of_counts = sym (v.of_counts ∙ ap (λ (t : List ℕ). take r.counts counts ++ t)
          (behind word_counts (λ b. []) line [] i h ∙ counts_of_none) ∙ append-nil (take r.counts counts));
      bytes_fit = v.bytes_fit;
      figures_fit = v.figures_fit;
      counts_fit = v.counts_fit;
    }
