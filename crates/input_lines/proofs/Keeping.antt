-- The state of the line that has begun: empty, some bytes longer, and at the input's end. Assumes nothing.
use mathlib.Core.List.{List, [], ◌∷◌, ◌++◌, append-nil, append_assoc}
use mathlib.Core.Bool.{Bool, true, false, ◌||◌}
use mathlib.Core.Path.{◌≡◌, refl, sym, ap, ◌∙◌}
use Prim.Native.Nat.{ℕ, suc, ◌+◌, ◌-◌, ◌<◌, ◌≤◌, min}
use native.Mathlib.Numerals.{add-one}
use native.Mathlib.Omega.{arith}
use borrow.Author.Tests.{lt-ltb, le-ltb, ltb-true, ltb-false, eqb-true}
use lib.Dec.{ltb, eqb}
use lib.ListN.{length, take, get_or, length-append}
use lib.Seq.{take_all, take-suc, take_at, take-append-le, take-append-add, length-take-le}
use Rattle.tokens.specs.Tokens.{line_bytes}
use Rattle.input_lines.specs.declared.State.{State}
use Rattle.input_lines.specs.Lines.{lines_within, begun_after, last_line}
use Rattle.input_lines.specs.Kept.{Keeps, KeepsBytes, KeepsLine}

pub empty : (buffer : List ℕ) → Keeps buffer (record { kept = 0; over = false }) []
empty buffer = record { count = refl; bytes = refl; over = refl }

-- ---- more bytes of the line, as many as there is room for
module _ (begun line : List ℕ) (kept m : ℕ) (count : kept ≡ min line_bytes (length begun))
    (most : m ≡ min (length line) (line_bytes - kept))
  where
    first_bytes : take line_bytes begun ++ take m line ≡ take line_bytes (begun ++ line)
    first_bytes = go (ltb line_bytes (length begun)) refl
      where
        go : (t : Bool) → ltb line_bytes (length begun) ≡ t → take line_bytes begun ++ take m line ≡ take line_bytes (begun ++ line)
        go true t =
            let l = ltb-true line_bytes (length begun) t in
            let z : m ≡ 0 = omega arith in
            ap (λ (k : ℕ). take line_bytes begun ++ take k line) z ∙ append-nil (take line_bytes begun)
            ∙ sym (take-append-le line_bytes begun line (omega arith))
        go false t =
            let l = ltb-false line_bytes (length begun) t in
            let e : length begun + (line_bytes - length begun) ≡ line_bytes = omega arith in
            let f : take m line ≡ take (line_bytes - length begun) line =
            same_bytes (ltb (line_bytes - length begun) (length line)) refl l in
            ap (λ (a : List ℕ). a ++ take m line) (take_all line_bytes begun l) ∙ ap (λ (a : List ℕ). begun ++ a) f
            ∙ sym (take-append-add begun line (line_bytes - length begun)) ∙ ap (λ (k : ℕ). take k (begun ++ line)) e
          where
            same_bytes : (t : Bool) → ltb (line_bytes - length begun) (length line) ≡ t → length begun ≤ line_bytes
                → take m line ≡ take (line_bytes - length begun) line
            same_bytes true t l = let h = ltb-true (line_bytes - length begun) (length line) t in
                ap (λ (k : ℕ). take k line) (let e : m ≡ line_bytes - length begun = omega arith in e)
            same_bytes false t l =
                let h = ltb-false (line_bytes - length begun) (length line) t in
                take_all m line (omega arith) ∙ sym (take_all (line_bytes - length begun) line h)

    more_over : (ltb line_bytes (length begun) || ltb (line_bytes - kept) (length line)) ≡ ltb line_bytes (length begun + length line)
    more_over = go (ltb line_bytes (length begun)) (ltb (line_bytes - kept) (length line)) refl refl
      where
        go : (t u : Bool) → ltb line_bytes (length begun) ≡ t → ltb (line_bytes - kept) (length line) ≡ u
            → (t || u) ≡ ltb line_bytes (length begun + length line)
        go true u t v = let l = ltb-true line_bytes (length begun) t in sym (lt-ltb line_bytes (length begun + length line) (omega arith))
        go false true t v =
            let l = ltb-false line_bytes (length begun) t in let h = ltb-true (line_bytes - kept) (length line) v in
            sym (lt-ltb line_bytes (length begun + length line) (omega arith))
        go false false t v =
            let l = ltb-false line_bytes (length begun) t in let h = ltb-false (line_bytes - kept) (length line) v in
            sym (le-ltb line_bytes (length begun + length line) (omega arith))

pub more_kept : (buffer rest line : List ℕ) (s : State) (m : ℕ) → line_bytes ≤ length buffer → s.kept ≤ line_bytes
    → m ≡ min (length line) (line_bytes - s.kept)
    → KeepsBytes buffer (take s.kept buffer ++ (take m line ++ rest)) s
    (record { kept = s.kept + m; over = s.over || ltb (line_bytes - s.kept) (length line) }) line
more_kept buffer rest line s m b w e = record { within = omega arith; keeps = by }
  where
    by : (begun : List ℕ) → Keeps buffer s begun
        → Keeps (take s.kept buffer ++ (take m line ++ rest))
        (record { kept = s.kept + m; over = s.over || ltb (line_bytes - s.kept) (length line) }) (begun ++ line)
    by begun k =
        let n = k.count in
        let l = length-append begun line in
        let p = length-take-le s.kept buffer (omega arith) in
        let q = length-take-le m line (omega arith) in
        let a = length-append (take s.kept buffer) (take m line) in
        record {
          count = omega arith;
          bytes = ap (take (s.kept + m)) (sym (append_assoc (take s.kept buffer) (take m line) rest))
              ∙ take_at (take s.kept buffer ++ take m line) rest (s.kept + m) (omega arith)
              ∙ ap (λ (x : List ℕ). x ++ take m line) k.bytes
              ∙ first_bytes begun line s.kept m n e;
          over = ap (λ (t : Bool). t || ltb (line_bytes - s.kept) (length line)) k.over ∙ more_over begun line s.kept m n e
              ∙ ap (ltb line_bytes) (sym l);
        }

-- ---- up to the first newline no line ends
pub record OneLine (bytes : List ℕ) : Type 0 where
  pub none_ends : (begun : List ℕ) → lines_within begun bytes ≡ []
  pub goes_on : (begun : List ℕ) → begun_after begun bytes ≡ begun ++ bytes

-- no byte of l is a newline
abbrev pub NoNewline : List ℕ → Type 0
NoNewline l = (k : ℕ) → k < length l → get_or l k 0 ≡ 10 → ⊥

pub before_newline : (l : List ℕ) → NoNewline l → OneLine l
unfolding lines_within begun_after
before_newline [] clear = record { none_ends = λ begun. refl; goes_on = λ begun. sym (append-nil begun) }
before_newline (x ∷ l) clear = by (eqb x 10) refl (before_newline l (λ k h. clear (suc k) (omega arith)))
  where
    by : (t : Bool) → eqb x 10 ≡ t → OneLine l → OneLine (x ∷ l)
    by true e i = absurd (clear 0 (omega arith) (eqb-true x 10 e))
    by false e i =
        record {
          none_ends = λ begun. rw e (i.none_ends (begun ++ (x ∷ [])));
          goes_on = λ begun. rw e (i.goes_on (begun ++ (x ∷ [])) ∙ append_assoc begun (x ∷ []) l);
        }

-- the bytes before the first newline, or all
pub line_kept : (buffer after bytes : List ℕ) (s r : State) (taken : ℕ) → NoNewline (take taken bytes) → taken ≤ length bytes
    → (taken < length bytes → get_or bytes taken 0 ≡ 10) → KeepsBytes buffer after s r (take taken bytes)
    → KeepsLine buffer after s bytes (record { state = r; taken = taken })
line_kept buffer after bytes s r taken clear some ends k =
    record {
      none_ends = (before_newline (take taken bytes) clear).none_ends;
      keeps = λ begun g. rw ((before_newline (take taken bytes) clear).goes_on begun) (k.keeps begun g);
      within = k.within;
      some = some;
      ends = ends;
    }

-- the bytes of a chunk up to the next place
pub next_taken : (chunk : List ℕ) (i : ℕ) → i < length chunk → take (i + 1) chunk ≡ take i chunk ++ (get_or chunk i 0 ∷ [])
next_taken chunk i h = ap (λ (k : ℕ). take k chunk) (add-one i) ∙ take-suc chunk i 0 h

-- at the input's end: no byte kept is no line
pub no_last_line : (buffer : List ℕ) (s : State) (begun : List ℕ) → Keeps buffer s begun → s.kept ≡ 0 → last_line begun ≡ []
no_last_line buffer s [] k h = refl
no_last_line buffer s (b ∷ bs) k h = absurd (let n = k.count in let z : ⊥ = omega arith in z)

pub last_line_lem : (buffer : List ℕ) (s : State) (begun : List ℕ) → Keeps buffer s begun → (s.kept ≡ 0 → ⊥) → last_line begun ≡ begun ∷ []
last_line_lem buffer s [] k h = absurd (h k.count)
last_line_lem buffer s (b ∷ bs) k h = refl
