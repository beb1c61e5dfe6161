-- Pieces in the scratch: read back, and put at a place. Assumes nothing.
use mathlib.Core.Path.{◌≡◌, refl, sym, ap, ap₂, ◌∙◌}
use mathlib.Core.List.{List, [], ◌∷◌, ◌++◌, append-nil}
use Prim.Native.Nat.{ℕ, zero, suc, ◌+◌, ◌*◌, ◌-◌, ◌≤◌, ◌<◌}
use native.Mathlib.Nat.{not-suc-le-zero, le_of_suc-le-suc}
use native.Mathlib.Omega.{arith}
use borrow.Rule.Slice.PartMut.{put_mid}
use lib.ListN.{length, take, drop, get_or, set, drop_of_length-le, length-append, length-drop, length-set, take-append-drop}
use lib.Seq.{drop-drop, drop-cons, length-take-le}
use lib.Ieee.{Float, nan}
use Rattle.floats.specs.Operations.{at, tabulate, tabulate_from}
use Rattle.limits.specs.Limits.{piece_numbers}
use Rattle.quadrature.specs.declared.Piece.{Piece}
use Rattle.pieces.specs.Stored.{numbers_of, stored, written, piece_in, read_at, pieces_in, put_at}

-- seven numbers, place by place
seven_are : (l : List Float) → length l ≡ 7 → l ≡ tabulate 7 (at l)
seven_are [] h = absurd (omega arith)
seven_are (a ∷ []) h = absurd (omega arith)
seven_are (a ∷ b ∷ []) h = absurd (omega arith)
seven_are (a ∷ b ∷ c ∷ []) h = absurd (omega arith)
seven_are (a ∷ b ∷ c ∷ d ∷ []) h = absurd (omega arith)
seven_are (a ∷ b ∷ c ∷ d ∷ e ∷ []) h = absurd (omega arith)
seven_are (a ∷ b ∷ c ∷ d ∷ e ∷ f ∷ []) h = absurd (omega arith)
seven_are (a ∷ b ∷ c ∷ d ∷ e ∷ f ∷ g ∷ []) h = refl
seven_are (a ∷ b ∷ c ∷ d ∷ e ∷ f ∷ g ∷ i ∷ l) h = absurd (omega arith)

-- two numbers, seven and seven over sixteen
pub sevens_stored : (s v e : List Float) (p : Piece) → length s ≡ piece_numbers → v ≡ tabulate 7 (at p.value)
    → e ≡ tabulate 7 (at p.error) → put_mid 9 7 (put_mid 2 7 (set (set s 0 p.start) 1 p.end) v) e ≡ numbers_of p
sevens_stored [] v e p n f g = absurd (omega arith)
sevens_stored (x ∷ []) v e p n f g = absurd (omega arith)
sevens_stored (x ∷ y ∷ rest) v e p n f g =
    let h : length (drop 7 rest) ≤ 7 = simp length-drop (omega arith) in
    rw (f, g, drop_of_length-le (drop 7 rest) h, append-nil (tabulate 7 (at p.error)))

-- the sixteen are still sixteen after the first seven
pub seven_stored_length : (s v : List Float) (a b : Float) (f : ℕ → Float) → length s ≡ piece_numbers → v ≡ tabulate 7 f
    → length (put_mid 2 7 (set (set s 0 a) 1 b) v) ≡ piece_numbers
seven_stored_length [] v a b f n e = absurd (omega arith)
seven_stored_length (x ∷ []) v a b f n e = absurd (omega arith)
seven_stored_length (x ∷ y ∷ rest) v a b f n e = rw e (simp length-drop (omega arith))

pub part_size : (i : ℕ) → i * piece_numbers + piece_numbers - i * piece_numbers ≡ piece_numbers
part_size i = omega arith

-- the pieces from place i on
pub pieces_step : (n i : ℕ) (s : List Float) → i < n
    → pieces_in (n - i) (drop (i * piece_numbers) s) ≡ read_at s i ∷ pieces_in (n - (i + 1)) (drop ((i + 1) * piece_numbers) s)
pieces_step n i s h =
    let e : n - i ≡ suc (n - (i + 1)) = omega arith in
    let f : (i + 1) * piece_numbers ≡ i * piece_numbers + piece_numbers = omega arith in
    rw (e, f, ← drop-drop piece_numbers (i * piece_numbers) s)

pub length_pieces : (n : ℕ) (s : List Float) → length (pieces_in n s) ≡ n
length_pieces zero s = refl
length_pieces (suc n) s = ap suc (length_pieces n (drop piece_numbers s))

-- the piece at a place, by the scratch and by the list
pub piece_at_lem : (n i : ℕ) (s : List Float) (d : Piece) → i < n → get_or (pieces_in n s) i d ≡ read_at s i
piece_at_lem zero i s d h = absurd (not-suc-le-zero h)
piece_at_lem (suc n) zero s d h = refl
piece_at_lem (suc n) (suc i) s d h =
    let e : suc i * piece_numbers ≡ piece_numbers + i * piece_numbers = omega arith in
    piece_at_lem n i (drop piece_numbers s) d (le_of_suc-le-suc h)
    ∙ ap (λ (l : List Float). piece_in (take piece_numbers l))
    (drop-drop (i * piece_numbers) piece_numbers s ∙ ap (λ (j : ℕ). drop j s) (sym e))

-- ---- the scratch is its pieces and what is behind them

elements : (l : List Float) (n i : ℕ) → i + n ≡ length l → tabulate_from i n (at l) ≡ drop i l
elements l zero i e =
    let h : length l ≤ i = omega arith in
    sym (drop_of_length-le l h)
elements l (suc n) i e =
    let h : i < length l = omega arith in
    let f : suc i + n ≡ length l = omega arith in
    ap (λ (r : List Float). at l i ∷ r) (elements l n (suc i) f) ∙ sym (drop-cons l i nan h)

sixteen : (l : List Float) → length l ≡ piece_numbers → numbers_of (piece_in l) ≡ l
sixteen l e = elements l piece_numbers 0 (sym e)

pub written_same : (n : ℕ) (s : List Float) → n * piece_numbers ≤ length s → stored (pieces_in n s) ++ drop (n * piece_numbers) s ≡ s
written_same zero s h = refl
written_same (suc n) s h =
    let e : suc n * piece_numbers ≡ piece_numbers + n * piece_numbers = omega arith in
    let k : n * piece_numbers ≤ length (drop piece_numbers s) = simp length-drop (omega arith) in
    let m : piece_numbers ≤ length s = omega arith in
    ap (λ (r : List Float). numbers_of (piece_in (take piece_numbers s)) ++ (stored (pieces_in n (drop piece_numbers s)) ++ r))
    (ap (λ (j : ℕ). drop j s) e ∙ sym (drop-drop (n * piece_numbers) piece_numbers s))
    ∙ ap (λ (r : List Float). numbers_of (piece_in (take piece_numbers s)) ++ r) (written_same n (drop piece_numbers s) k)
    ∙ ap (λ (l : List Float). l ++ drop piece_numbers s) (sixteen (take piece_numbers s) (length-take-le piece_numbers s m))
    ∙ take-append-drop piece_numbers s

put_later : (p q : Piece) (l : List Float) (i : ℕ) → put_at (numbers_of p ++ l) (suc i) q ≡ numbers_of p ++ put_at l i q
put_later p q l i =
    let e : suc i * piece_numbers
    ≡ suc (suc (suc (suc (suc (suc (suc (suc (suc (suc (suc (suc (suc (suc (suc (suc (i * piece_numbers)))))))))))))))) = omega arith in
    let f : suc i * piece_numbers + piece_numbers
    ≡ suc (suc (suc (suc (suc (suc (suc (suc (suc (suc (suc (suc (suc (suc (suc (suc (i * piece_numbers + piece_numbers)))))))))))))))) =
    omega arith in
    ap₂ (λ (x y : ℕ). take x (numbers_of p ++ l) ++ (numbers_of q ++ drop y (numbers_of p ++ l))) e f

put_in_place : (pieces : List Piece) (i : ℕ) (q : Piece) (r : List Float) → i < length pieces
    → put_at (stored pieces ++ r) i q ≡ stored (set pieces i q) ++ r
put_in_place [] i q r h = absurd (not-suc-le-zero h)
put_in_place (p ∷ pieces) zero q r h = refl
put_in_place (p ∷ pieces) (suc i) q r h = put_later p q (stored pieces ++ r) i
    ∙ ap (λ (l : List Float). numbers_of p ++ l) (put_in_place pieces i q r (le_of_suc-le-suc h))

put_behind : (pieces : List Piece) (q : Piece) (r : List Float)
    → put_at (stored pieces ++ r) (length pieces) q ≡ stored (pieces ++ (q ∷ [])) ++ drop piece_numbers r
put_behind [] q r = refl
put_behind (p ∷ pieces) q r = put_later p q (stored pieces ++ r) (length pieces)
    ∙ ap (λ (l : List Float). numbers_of p ++ l) (put_behind pieces q r)

-- "The left half replaces it, the right half is appended."
pub halves_stored : (n i : ℕ) (s : List Float) (l r : Piece) → i < n → n * piece_numbers ≤ length s
    → put_at (put_at s i l) n r ≡ written (set (pieces_in n s) i l ++ (r ∷ [])) s
halves_stored n i s l r h k =
    let ps = pieces_in n s in
    let z = drop (n * piece_numbers) s in
    let a : length ps ≡ n = length_pieces n s in
    let b : length (set ps i l) ≡ n = length-set ps i l ∙ a in
    let d : length (set ps i l ++ (r ∷ [])) * piece_numbers ≡ n * piece_numbers + piece_numbers = rw (length-append, b) (omega arith) in
    ap (λ (x : List Float). put_at (put_at x i l) n r) (sym (written_same n s k))
    ∙ ap (λ (x : List Float). put_at x n r) (put_in_place ps i l z (omega arith))
    ∙ ap (λ (j : ℕ). put_at (stored (set ps i l) ++ z) j r) (sym b)
    ∙ put_behind (set ps i l) r z
    ∙ ap (λ (x : List Float). stored (set ps i l ++ (r ∷ [])) ++ x)
    (drop-drop piece_numbers (n * piece_numbers) s ∙ ap (λ (j : ℕ). drop j s) (sym d))
