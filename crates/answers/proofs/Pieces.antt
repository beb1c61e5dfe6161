-- One byte of a template: what each of its cases appends and uses up. Assumes nothing.
use mathlib.Core.List.{List, [], ◌∷◌}
use mathlib.Core.Bool.{Bool, true, false, cond}
use mathlib.Core.Path.{◌≡◌, sym}
use Prim.Native.Nat.{ℕ, suc, ◌+◌, ◌<◌, ◌≤◌}
use native.Mathlib.Omega.{arith}
use borrow.Author.Tests.{eq-eqb, ne_eqb}
use lib.Dec.{eqb}
use lib.ListN.{length, drop, get_or, set, drop_of_length-le}
use lib.Seq.{drop-cons, drop-drop}
use lib.Ieee.{Float, nan}
use Rattle.hexadecimal.specs.Hex.{figure_text}
use Rattle.hexadecimal.proofs.RoundTrip.{figure_length}
use Rattle.texts.specs.Appended.{Appended}
use Rattle.texts.proofs.Appending.{nothing, byte_put}
use Rattle.counts.specs.Counts.{count_text}
use Rattle.counts.proofs.Printing.{twenty}
use Rattle.answers.specs.declared.Place.{Place}
use Rattle.answers.specs.Filled.{first_figure, first_count, piece, room_for}
use Rattle.answers.specs.Places.{HasRoom, PutPiece}

-- a byte's text has room in what is set aside for it
pub piece_fits : (b : ℕ) (figures : List Float) (counts : List ℕ) → length (piece b figures counts) ≤ room_for b
piece_fits b figures counts = by (eqb b 70) (eqb b 78) figures counts
  where
    by : (t u : Bool) (figures : List Float) (counts : List ℕ)
        → length (cond t (first_figure figures) (cond u (first_count counts) (b ∷ []))) ≤ cond t 16 (cond u 20 1)
    by true u [] counts = omega arith
    by true u (x ∷ xs) counts = let h = figure_length x in omega arith
    by false true figures [] = omega arith
    by false true figures (n ∷ ns) = twenty n
    by false false figures counts = omega arith

module _ {A : Type 0} (l : List A) (i : ℕ) where
  next_left : drop (i + 1) l ≡ drop 1 (drop i l)
  next_left = sym (drop-drop 1 i l)

  cons_left : (d : A) → i < length l → drop i l ≡ get_or l i d ∷ drop (suc i) l
  cons_left d h = drop-cons l i d h

module _ (before : List ℕ) (p : Place) (b : ℕ) (figures : List Float) (counts : List ℕ) where
  -- `F`
  module _ (h : b ≡ 70) (k : p.counts ≤ length counts) where
    f : eqb b 70 ≡ true
    f = eq-eqb b 70 h

    not_n : eqb b 78 ≡ false
    not_n = ne_eqb b 78 (λ q. omega arith)

    pub no_figure_lem : p.figures ≤ length figures → length figures ≤ p.figures → PutPiece before before p p b figures counts
    no_figure_lem m g =
        let d = drop_of_length-le figures g in
        record {
          put = rw (f, d) (nothing before p.n);
          next_figures = rw (f, d);
          next_counts = rw not_n;
          figures_left = m;
          counts_left = k;
        }

    pub figure_put : (after : List ℕ) (end : ℕ) → p.figures < length figures
        → Appended before p.n (figure_text (get_or figures p.figures nan)) after end
        → PutPiece before after p (record { n = end; figures = p.figures + 1; counts = p.counts }) b figures counts
    figure_put after end g a =
        record {
          put = rw (f, cons_left figures p.figures nan g) a;
          next_figures = rw f (next_left figures p.figures);
          next_counts = rw not_n;
          figures_left = omega arith;
          counts_left = k;
        }

  -- `N`
  module _ (h : b ≡ 78) (k : p.figures ≤ length figures) where
    n : eqb b 78 ≡ true
    n = eq-eqb b 78 h

    not_f : eqb b 70 ≡ false
    not_f = ne_eqb b 70 (λ q. omega arith)

    pub no_count : p.counts ≤ length counts → length counts ≤ p.counts → PutPiece before before p p b figures counts
    no_count m g =
        let d = drop_of_length-le counts g in
        record {
          put = rw (not_f, n, d) (nothing before p.n);
          next_figures = rw not_f;
          next_counts = rw (n, d);
          figures_left = k;
          counts_left = m;
        }

    pub count_put : (after : List ℕ) (end : ℕ) → p.counts < length counts
        → Appended before p.n (count_text (get_or counts p.counts 0)) after end
        → PutPiece before after p (record { n = end; figures = p.figures; counts = p.counts + 1 }) b figures counts
    count_put after end g a =
        record {
          put = rw (not_f, n, cons_left counts p.counts 0 g) a;
          next_figures = rw not_f;
          next_counts = rw n (next_left counts p.counts);
          figures_left = k;
          counts_left = omega arith;
        }

  -- any other byte
  pub plain_put : (b ≡ 70 → ⊥) → (b ≡ 78 → ⊥) → p.figures ≤ length figures → p.counts ≤ length counts → p.n < length before
      → PutPiece before (set before p.n b) p (record { n = p.n + 1; figures = p.figures; counts = p.counts }) b figures counts
  plain_put h g k m l =
      let x = ne_eqb b 70 h in
      let y = ne_eqb b 78 g in
      record { put = rw (x, y) (byte_put before p.n b l); next_figures = rw x; next_counts = rw y; figures_left = k; counts_left = m }

  -- the room that is asked for each case
  module _ (m : HasRoom before p b figures counts) where
    pub figure_room : b ≡ 70 → p.n + 16 ≤ length before
    figure_room h = let q = m.bytes in let e : room_for b ≡ 16 = rw (eq-eqb b 70 h) in omega arith

    pub count_room : b ≡ 78 → p.n + 20 ≤ length before
    count_room h =
        let q = m.bytes in
        let x = ne_eqb b 70 (λ q. omega arith) in
        let e : room_for b ≡ 20 = rw (x, eq-eqb b 78 h) in
        omega arith

    pub one_byte : (b ≡ 70 → ⊥) → (b ≡ 78 → ⊥) → p.n < length before
    one_byte h g =
        let q = m.bytes in
        let x = ne_eqb b 70 h in
        let y = ne_eqb b 78 g in
        let e : room_for b ≡ 1 = rw (x, y) in
        omega arith
