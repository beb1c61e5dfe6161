-- One token of a template against the token found in the line, and what that leaves. Assumes nothing.
use mathlib.Core.List.{List, [], ◌∷◌, ◌++◌}
use mathlib.Core.Bool.{Bool, true, false}
use mathlib.Core.Path.{◌≡◌, refl, sym, ap, subst, ◌∙◌}
use Prim.Native.Nat.{ℕ, ◌+◌, ◌-◌, ◌<◌, ◌≤◌}
use native.Mathlib.Numerals.{add-one}
use native.Mathlib.Omega.{arith}
use lib.ListN.{length, take, drop, set, length-set, length-take, length-drop}
use lib.Seq.{take-suc-set, take-set-le, take-take}
use lib.Ieee.{Float}
use Rattle.std.specs.Prelude.{Option, Some, None}
use Rattle.counts.specs.Counts.{count_of, capped_count}
use Rattle.tokens.specs.Text.{text, codes}
use Rattle.tokens.specs.Tokens.{tokens}
use Rattle.tokens.specs.Found.{part, IsFound}
use Rattle.tokens.specs.declared.TokenRange.{TokenRange}
use Rattle.figure_words.specs.FigureWords.{figure_word}
use Rattle.figure_words.proofs.RoundTrip.{figure_has_a_byte}
use Rattle.templates.specs.Matching.{Reading, failed, reading, pick, same_bytes, spoil, is_word, take_count, take_word, take_one}
use Rattle.templates.specs.Cursors.{taken_before, reading_at, Room, ReadsOn, IsWordAt, not_aform, on_to, spoiled_to, pick_cursor, counted}
use Rattle.templates.specs.Cursors.{plain_to}
use Rattle.templates.specs.declared.Cursor.{Cursor}

module _ (line : List ℕ) (v : List Float) (c : Cursor) (m : Room line v c) where
  abbrev rest : ℕ → Reading
  rest to = reading (tokens (drop to line)) (taken_before v c)

  -- the cursor that stays, and one behind a token
  pub stays : (meant : Reading) → failed ≡ meant → ReadsOn line v v c (not_aform c) meant
  stays meant e = record
      { is = e; kept = refl; grows = omega arith; room = record { short = m.short; room = m.room; within = m.within; few = m.few } }

  moves : (r : Cursor) (meant : Reading) → r.figures ≡ c.figures → c.at ≤ r.at → r.at ≤ length line → reading_at line v r ≡ meant
      → ReadsOn line v v c r meant
  moves r meant q a h e =
      let f = m.few in
      record { is = e; kept = refl; grows = omega arith; room = record { short = m.short; room = m.room; within = h; few = omega arith } }

  passes : (to : ℕ) (meant : Reading) → c.at ≤ to → to ≤ length line → rest to ≡ meant → ReadsOn line v v c (on_to c to) meant
  passes to meant a h e = moves (on_to c to) meant refl a h e

  -- on a line that is no form nothing changes
  pub no_form_lem : (p : List ℕ) → c.ok ≡ false → ReadsOn line v v c c (take_one p (reading_at line v c))
  unfolding take_one
  no_form_lem p e =
      let r : reading_at line v c ≡ failed = ap (λ (t : Bool). pick t (rest c.at) failed) e in
      record { is = r ∙ ap (take_one p) (sym r); kept = refl; grows = omega arith; room = m }

  -- a token found from c on, or none
  module _ (p : List ℕ) (ok : c.ok ≡ true) (f : TokenRange) (is : IsFound line c.at f) where
    start : (ts : List (List ℕ)) → tokens (drop c.at line) ≡ ts → reading_at line v c ≡ reading ts (taken_before v c)
    start ts e = ap (λ (t : Bool). pick t (rest c.at) failed) ok ∙ ap (λ (l : List (List ℕ)). reading l (taken_before v c)) e

    pub none_left : f.to ≤ f.from → ReadsOn line v v c (not_aform c) (take_one p (reading_at line v c))
    unfolding take_one
    none_left h = stays (take_one p (reading_at line v c)) (ap (take_one p) (sym (start [] (is.none h))))

    pub one_read : f.from < f.to
        → take_one p (reading_at line v c) ≡ take_word p (part line f.from f.to) (tokens (drop f.to line)) (taken_before v c)
    unfolding take_one
    one_read h = ap (take_one p) (start _ (is.first h))

    pub word_place : IsWordAt line c f
    word_place = record { behind = is.behind; ordered = is.ordered; within = is.within m.within }

-- ---- words

pub letter_f : text "F" ≡ 70 ∷ []
unfolding text codes
letter_f = refl

pub letter_n : text "N" ≡ 78 ∷ []
unfolding text codes
letter_n = refl

pub letters_f : text "F.." ≡ 70 ∷ 46 ∷ 46 ∷ []
unfolding text codes
letters_f = refl

part_length : (line : List ℕ) (from to : ℕ) → from ≤ to → to ≤ length line → length (part line from to) ≡ to - from
part_length line from to a h = simp (length-take, length-drop) (omega arith)

module _ (line : List ℕ) (v : List Float) (c : Cursor) (f : TokenRange) (p : List ℕ) (m : Room line v c) (w : IsWordAt line c f) where
  abbrev meant : Reading
  meant = take_word p (part line f.from f.to) (tokens (drop f.to line)) (taken_before v c)

  later : c.at ≤ f.to
  later = let a = w.behind in let b = w.ordered in omega arith

  pub plain_word : same_bytes p (text "F") ≡ false → ReadsOn line v v c (plain_to p (part line f.from f.to) c f.to) meant
  unfolding take_word
  plain_word e = rw e
      (by (same_bytes p (text "N")) (same_bytes p (part line f.from f.to)) (capped_count (count_of (part line f.from f.to))))
    where
      by : (n s : Bool) (k : Option ℕ) → ReadsOn line v v c (pick_cursor n (counted k c f.to) (pick_cursor s (on_to c f.to) (not_aform c)))
          (pick n (take_count k (tokens (drop f.to line)) (taken_before v c))
          (pick s (reading (tokens (drop f.to line)) (taken_before v c)) failed))
      by true s (Some n) = moves line v c m (counted (Some n) c f.to)
          (take_count (Some n) (tokens (drop f.to line)) (taken_before v c)) refl later w.within refl
      by true s None = stays line v c m failed refl
      by false true k = passes line v c m f.to (reading (tokens (drop f.to line)) (taken_before v c)) later w.within refl
      by false false k = stays line v c m failed refl

  pub no_figure_lem : same_bytes p (text "F") ≡ true → figure_word (part line f.from f.to) ≡ None
      → ReadsOn line v v c (pick_cursor (is_word (part line f.from f.to)) (spoiled_to c f.to) (not_aform c)) meant
  unfolding take_word
  no_figure_lem e n = rw (e, n) (by (is_word (part line f.from f.to)))
    where
      by : (t : Bool) → ReadsOn line v v c (pick_cursor t (spoiled_to c f.to) (not_aform c))
          (pick t (reading (tokens (drop f.to line)) (spoil (taken_before v c))) failed)
      by true = moves line v c m (spoiled_to c f.to) (reading (tokens (drop f.to line)) (spoil (taken_before v c))) refl later
          w.within refl
      by false = stays line v c m failed refl

  -- there is room for one more figure
  pub figure_room : (x : Float) → figure_word (part line f.from f.to) ≡ Some x → (c.figures + 1 ≤ f.to) × (c.figures < length v)
  figure_room x n =
      let l = figure_has_a_byte (part line f.from f.to) x n in
      let k = part_length line f.from f.to w.ordered w.within in
      let a = w.behind in let b = w.ordered in let g = w.within in let s = m.short in let q = m.room in let r = m.few in
      (omega arith, omega arith)

  pub figure_read : (x : Float) → same_bytes p (text "F") ≡ true → figure_word (part line f.from f.to) ≡ Some x
      → ReadsOn line v (set v c.figures x) c
      (record { ok = true; at = f.to; figures = c.figures + 1; number = c.number; spoiled = c.spoiled }) meant
  unfolding take_word
  figure_read x e n =
      let h = figure_room x n in let i = h.0 in let j = h.1 in let q = m.room in
      let t : take (c.figures + 1) (set v c.figures x) ≡ take c.figures v ++ (x ∷ []) = ap (λ (k : ℕ). take k (set v c.figures x))
      (add-one c.figures) ∙ take-suc-set v c.figures x j in
      record {
        is = rw (e, n)
            (ap (λ (l : List Float). reading (tokens (drop f.to line))
            (record { figures = l; number = c.number; spoiled = c.spoiled })) t);
        kept = take-set-le c.figures v c.figures x (omega arith);
        grows = omega arith;
        room = record { short = m.short; room = simp length-set q; within = w.within; few = omega arith };
      }

-- reading on twice
pub also_kept : (before between after : List Float) (n m : ℕ) → n ≤ m → take n between ≡ take n before → take m after ≡ take m between
    → take n after ≡ take n before
also_kept before between after n m h e f = sym (take-take n m after h) ∙ ap (take n) f ∙ take-take n m between h ∙ e

-- the same at an equal cursor and an equal meaning
pub as_is : (line : List ℕ) (before after : List Float) (c : Cursor) {r q : Cursor} {m n : Reading} → r ≡ q → m ≡ n
    → ReadsOn line before after c q n → ReadsOn line before after c r m
as_is line before after c {r} {q} {m} {n} e f x =
    subst (λ (y : Cursor). ReadsOn line before after c y m) (sym e) (subst (λ (y : Reading). ReadsOn line before after c q y) (sym f) x)
