-- One byte of a text: what each of its cases appends and uses up. Assumes nothing.
use mathlib.Core.List.{List, [], ◌∷◌}
use mathlib.Core.Bool.{Bool, true, false, ◌||◌, cond, true≢false}
use mathlib.Core.Path.{◌≡◌, refl, sym, ap, subst, ◌∙◌}
use Prim.Native.Nat.{ℕ, suc, ◌+◌, ◌-◌, ◌<◌, ◌≤◌}
use native.Mathlib.Omega.{arith}
use borrow.Author.Tests.{eq-eqb, ne_eqb}
use lib.Dec.{eqb}
use lib.ListN.{length, take, drop, get_or, set, drop_of_length-le, length-drop}
use lib.Seq.{drop-cons, drop-drop, take_all}
use lib.Ieee.{Float, nan}
use Rattle.texts.specs.Appended.{Appended}
use Rattle.texts.proofs.Appending.{nothing, byte_put}
use Rattle.counts.specs.Counts.{count_text}
use Rattle.counts.proofs.Printing.{twenty}
use Rattle.significant.specs.Printed.{decimal_text}
use Rattle.significant.proofs.Fits.{decimal_fits}
use Rattle.blocks.specs.declared.filling.Place.{Place}
use Rattle.blocks.specs.Filled.{of_first, is_figure_mark, figure_as, plain_piece, plain, filled, plain_most}
use Rattle.blocks.specs.Cards.{mass_figures, mass_line, moment_figures, moment_line, mixed_text, is_body_mark, body_piece, body_most}
use Rattle.blocks.specs.Cards.{refusal_text, card, card_most}
use Rattle.blocks.specs.Steps.{HasRoom, PutsPiece}

-- a byte's text has room in what is set aside for it
pub plain_fits : (b : ℕ) (figures : List Float) (counts : List ℕ) → length (plain_piece b figures counts) ≤ plain_most b
plain_fits b figures counts = by (is_figure_mark b) (eqb b 78) figures counts
  where
    by : (t u : Bool) (figures : List Float) (counts : List ℕ)
        → length (cond t (of_first (figure_as b) figures) (cond u (of_first count_text counts) (b ∷ []))) ≤ cond t 44 (cond u 20 1)
    by true u [] counts = omega arith
    by true u (x ∷ xs) counts = decimal_fits 6 (cond (eqb b 71) 3 0) false x
    by false true figures [] = omega arith
    by false true figures (n ∷ ns) = twenty n
    by false false figures counts = omega arith

module _ {A : Type 0} (l : List A) (i : ℕ) where
  next_left : drop (i + 1) l ≡ drop 1 (drop i l)
  next_left = sym (drop-drop 1 i l)

  cons_left : (d : A) → i < length l → drop i l ≡ get_or l i d ∷ drop (suc i) l
  cons_left d h = drop-cons l i d h

-- a byte of one kind is none of another
unlike : (kind : ℕ → Bool) (b k : ℕ) → kind b ≡ true → kind k ≡ false → eqb b k ≡ false
unlike kind b k h e = ne_eqb b k (λ q. true≢false (sym h ∙ ap kind q ∙ e))

module _ (before : List ℕ) (p : Place) (b : ℕ) (figures : List Float) (counts : List ℕ) where
  -- a figure's mark
  module _ (h : is_figure_mark b ≡ true) (k : p.counts ≤ length counts) where
    same_counts : plain.counts_after b (drop p.counts counts) ≡ drop p.counts counts
    same_counts = ap (λ (t : Bool). cond t (drop 1 (drop p.counts counts)) (drop p.counts counts)) (unlike is_figure_mark b 78 h refl)

    pub no_figure_lem : p.figures ≤ length figures → length figures ≤ p.figures → PutsPiece plain before before p p b figures counts
    no_figure_lem m g =
        let d = drop_of_length-le figures g in
        record {
          put = rw (h, d) (nothing before p.n);
          next_figures = rw (h, d);
          next_counts = sym same_counts;
          figures_left = m;
          counts_left = k;
        }

    pub figure_put : (after : List ℕ) (end : ℕ) → p.figures < length figures
        → Appended before p.n (figure_as b (get_or figures p.figures nan)) after end
        → PutsPiece plain before after p (record { n = end; figures = p.figures + 1; counts = p.counts }) b figures counts
    figure_put after end g a =
        record {
          put = rw (h, cons_left figures p.figures nan g) a;
          next_figures = rw h (next_left figures p.figures);
          next_counts = sym same_counts;
          figures_left = omega arith;
          counts_left = k;
        }

  -- `N`
  module _ (h : b ≡ 78) (k : p.figures ≤ length figures) where
    n : eqb b 78 ≡ true
    n = eq-eqb b 78 h

    no_mark : is_figure_mark b ≡ false
    no_mark = ap is_figure_mark h

    pub no_count : p.counts ≤ length counts → length counts ≤ p.counts → PutsPiece plain before before p p b figures counts
    no_count m g =
        let d = drop_of_length-le counts g in
        record {
          put = rw (no_mark, n, d) (nothing before p.n);
          next_figures = rw no_mark;
          next_counts = rw (n, d);
          figures_left = k;
          counts_left = m;
        }

    pub count_put : (after : List ℕ) (end : ℕ) → p.counts < length counts
        → Appended before p.n (count_text (get_or counts p.counts 0)) after end
        → PutsPiece plain before after p (record { n = end; figures = p.figures; counts = p.counts + 1 }) b figures counts
    count_put after end g a =
        record {
          put = rw (no_mark, n, cons_left counts p.counts 0 g) a;
          next_figures = rw no_mark;
          next_counts = rw n (next_left counts p.counts);
          figures_left = k;
          counts_left = omega arith;
        }

  -- any other byte
  pub plain_put : is_figure_mark b ≡ false → (b ≡ 78 → ⊥) → p.figures ≤ length figures → p.counts ≤ length counts → p.n < length before
      → PutsPiece plain before (set before p.n b) p (record { n = p.n + 1; figures = p.figures; counts = p.counts }) b figures counts
  plain_put x g k m l =
      let y = ne_eqb b 78 g in
      record { put = rw (x, y) (byte_put before p.n b l); next_figures = rw x; next_counts = rw y; figures_left = k; counts_left = m }

  -- the room that is asked for each case
  module _ (m : HasRoom plain_most before p b figures counts) where
    pub figure_room : is_figure_mark b ≡ true → p.n + 44 ≤ length before
    figure_room h = let q = m.bytes in let e : plain_most b ≡ 44 = rw h in omega (arith, q, e)

    pub count_room : b ≡ 78 → p.n + 20 ≤ length before
    count_room h =
        let q = m.bytes in
        let x : is_figure_mark b ≡ false = ap is_figure_mark h in
        let e : plain_most b ≡ 20 = rw (x, eq-eqb b 78 h) in
        omega (arith, q, e)

    pub one_byte : is_figure_mark b ≡ false → (b ≡ 78 → ⊥) → p.n < length before
    one_byte x g =
        let q = m.bytes in
        let y = ne_eqb b 78 g in
        let e : plain_most b ≡ 1 = rw (x, y) in
        omega (arith, q, e)

-- ---- a block's marks

module _ (before : List ℕ) (p : Place) (b : ℕ) (figures : List Float) (counts : List ℕ) (i : p.figures ≤ length figures)
    (j : p.counts ≤ length counts) where
  -- a body's mark
  pub body_put : is_body_mark b ≡ true → (after : List ℕ) (end : ℕ)
      → Appended before p.n (body_piece b (take (length figures - p.figures) (drop p.figures figures))) after end
      → PutsPiece card before after p (record { n = end; figures = p.figures; counts = p.counts }) b figures counts
  body_put h after end d =
      let k = length-drop p.figures figures in
      let a = subst (λ (fs : List Float). Appended before p.n (body_piece b fs) after end)
      (take_all (length figures - p.figures) (drop p.figures figures) (omega (arith, k))) d in
      let u = unlike is_body_mark b in
      let x : is_figure_mark b ≡ false = or_none (eqb b 71) (eqb b 70) (u 71 h refl) (u 70 h refl) in
      let y = or_none (eqb b 78) (eqb b 82) (u 78 h refl) (u 82 h refl) in
      record { put = by (is_body_mark b) _ _ h a; next_figures = rw x; next_counts = rw y; figures_left = i; counts_left = j }
    where
      or_none : (s t : Bool) → s ≡ false → t ≡ false → (s || t) ≡ false
      or_none s t e f = rw (e, f)

      by : (t : Bool) (piece other : List ℕ) → t ≡ true → Appended before p.n piece after end
          → Appended before p.n (cond t piece other) after end
      by t piece other e a = subst (λ (t : Bool). Appended before p.n (cond t piece other) after end) (sym e) a

  -- `R`
  module _ (h : b ≡ 82) where
    no_b : is_body_mark b ≡ false
    no_b = ap is_body_mark h

    no_n : eqb b 78 ≡ false
    no_n = ap (λ (k : ℕ). eqb k 78) h

    no_f : is_figure_mark b ≡ false
    no_f = ap is_figure_mark h

    is_r : eqb b 82 ≡ true
    is_r = eq-eqb b 82 h

    pub no_refusal : length counts ≤ p.counts → PutsPiece card before before p p b figures counts
    no_refusal g =
        let d = drop_of_length-le counts g in
        record {
          put = rw (no_b, is_r, d) (nothing before p.n);
          next_figures = rw no_f;
          next_counts = rw (no_n, is_r, d);
          figures_left = i;
          counts_left = j;
        }

    pub refusal_put : (after : List ℕ) (end : ℕ) → p.counts < length counts
        → Appended before p.n (refusal_text (get_or counts p.counts 0)) after end
        → PutsPiece card before after p (record { n = end; figures = p.figures; counts = p.counts + 1 }) b figures counts
    refusal_put after end g a =
        record {
          put = rw (no_b, is_r, cons_left counts p.counts 0 g) a;
          next_figures = rw no_f;
          next_counts = rw (no_n, is_r) (next_left counts p.counts);
          figures_left = i;
          counts_left = omega arith;
        }

  -- any other
  pub other_put : is_body_mark b ≡ false → (b ≡ 82 → ⊥) → (after : List ℕ) (r : Place) → PutsPiece plain before after p r b figures counts
      → PutsPiece card before after p r b figures counts
  other_put x g after r a =
      let y = ne_eqb b 82 g in
      record {
        put = rw (x, y) a.put;
        next_figures = a.next_figures;
        next_counts = a.next_counts ∙ sym (or_false (eqb b 78) (eqb b 82) y);
        figures_left = a.figures_left;
        counts_left = a.counts_left;
      }
    where
      or_false : (s t : Bool) → t ≡ false → cond (s || t) (drop 1 (drop p.counts counts)) (drop p.counts counts)
          ≡ cond s (drop 1 (drop p.counts counts)) (drop p.counts counts)
      or_false true t e = refl
      or_false false t e = ap (λ (t : Bool). cond t (drop 1 (drop p.counts counts)) (drop p.counts counts)) e

  module _ (m : HasRoom card_most before p b figures counts) where
    pub body_room : is_body_mark b ≡ true → p.n + body_most b ≤ length before
    body_room h = let q = m.bytes in
        let e : card_most b ≡ body_most b = ap (λ (t : Bool). cond t (body_most b) (cond (eqb b 82) 180 (plain_most b))) h in
        omega (arith, q, e)

    pub refusal_room : b ≡ 82 → p.n + 180 ≤ length before
    refusal_room h =
        let q = m.bytes in
        let e : card_most b ≡ 180 = rw (no_b h, eq-eqb b 82 h) in
        omega (arith, q, e)

    pub other_room : is_body_mark b ≡ false → (b ≡ 82 → ⊥) → HasRoom plain_most before p b figures counts
    other_room f g =
        let e : card_most b ≡ plain_most b = rw (f, ne_eqb b 82 g) in
        let q = m.bytes in
        record { figures_left = m.figures_left; counts_left = m.counts_left; bytes = omega (arith, q, e) }

-- ---- a figure by its mark

module _ (out after : List ℕ) (n r b : ℕ) (x : Float) where
  pub marked_thousand : b ≡ 71 → Appended out n (decimal_text 6 3 false x) after r → Appended out n (figure_as b x) after r
  marked_thousand h a = rw (eq-eqb b 71 h) a

  pub marked_other : (b ≡ 71 → ⊥) → Appended out n (decimal_text 6 0 false x) after r → Appended out n (figure_as b x) after r
  marked_other h a = rw (ne_eqb b 71 h) a

-- ---- a part of a body by its mark

module _ (out after : List ℕ) (n r b : ℕ) (f : List Float) where
  pub mass_put : b ≡ 66 → Appended out n (filled plain mass_line (mass_figures f) []) after r → Appended out n (body_piece b f) after r
  mass_put h a = rw (eq-eqb b 66 h) a

  pub moments_put : (b ≡ 66 → ⊥) → b ≡ 67 → Appended out n (filled plain moment_line (moment_figures f) []) after r
      → Appended out n (body_piece b f) after r
  moments_put g h a = rw (ne_eqb b 66 g, eq-eqb b 67 h) a

  pub mixed_put : (b ≡ 66 → ⊥) → (b ≡ 67 → ⊥) → Appended out n (mixed_text f) after r → Appended out n (body_piece b f) after r
  mixed_put g h a = rw (ne_eqb b 66 g, ne_eqb b 67 h) a

module _ (n b k : ℕ) (m : n + body_most b ≤ k) where
  pub mass_room : b ≡ 66 → n + 130 ≤ k
  mass_room h = let e : body_most b ≡ 130 = rw (eq-eqb b 66 h) in omega (arith, m, e)

  pub moments_room : (b ≡ 66 → ⊥) → b ≡ 67 → n + 330 ≤ k
  moments_room g h = let e : body_most b ≡ 330 = rw (ne_eqb b 66 g, eq-eqb b 67 h) in omega (arith, m, e)

  pub mixed_room : (b ≡ 66 → ⊥) → (b ≡ 67 → ⊥) → n + 200 ≤ k
  mixed_room g h = let e : body_most b ≡ 200 = rw (ne_eqb b 66 g, ne_eqb b 67 h) in omega (arith, m, e)
