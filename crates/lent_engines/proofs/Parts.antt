-- A part of a list that is written over, and the parts beside it. Assumes nothing.
use mathlib.Core.Path.{◌≡◌, sym, ap, ◌∙◌}
use mathlib.Core.List.{List, ◌++◌, append_assoc}
use Prim.Native.Nat.{ℕ, ◌+◌, ◌-◌, ◌≤◌}
use native.Mathlib.Omega.{arith}
use lib.ListN.{length, take, drop, length-drop, length-append, take-append-drop}
use lib.Seq.{take-append-le, take_at, drop_at, drop-drop, take-add, length-take-le}
use Rattle.lent_engines.specs.Memory.{put}

module _ {A : Type 0} where
  module _ (a n : ℕ) (l p : List A) (fits : a + n ≤ length l) (size : length p ≡ n) where
    before_length : length (take a l) ≡ a
    before_length = length-take-le a l (omega arith)

    pub put_there : take n (drop a (put a n l p)) ≡ p
    put_there = ap (take n) (drop_at (take a l) (p ++ drop (a + n) l) a before_length) ∙ take_at p (drop (a + n) l) n size

    -- in front of it
    pub put_take : (m : ℕ) → m ≤ a → take m (put a n l p) ≡ take m l
    put_take m h =
        take-append-le m (take a l) (p ++ drop (a + n) l) (omega (arith, before_length))
        ∙ sym (take-append-le m (take a l) (drop a l) (omega (arith, before_length)))
        ∙ ap (take m) (take-append-drop a l)

    -- behind it
    pub put_drop : (m : ℕ) → a + n ≤ m → drop m (put a n l p) ≡ drop m l
    put_drop m h =
        let whole : length (take a l ++ p) ≡ a + n = simp length-append (omega (arith, before_length)) in
        let k : (a + n) + (m - (a + n)) ≡ m = omega arith in
        ap (drop m) (sym (append_assoc (take a l) p (drop (a + n) l)))
        ∙ ap (λ (i : ℕ). drop i ((take a l ++ p) ++ drop (a + n) l)) (sym k)
        ∙ sym (drop-drop (m - (a + n)) (a + n) ((take a l ++ p) ++ drop (a + n) l))
        ∙ ap (drop (m - (a + n))) (drop_at (take a l ++ p) (drop (a + n) l) (a + n) whole)
        ∙ drop-drop (m - (a + n)) (a + n) l
        ∙ ap (λ (i : ℕ). drop i l) k

  -- a part by its end
  pub part_by_end : (m k : ℕ) (l : List A) → m ≤ length l → drop m (take (m + k) l) ≡ take k (drop m l)
  part_by_end m k l h = ap (drop m) (take-add m k l) ∙ drop_at (take m l) (take k (drop m l)) m (length-take-le m l h)

  -- a part in front of what is written over, and one behind it
  module _ (a n : ℕ) (l p : List A) (fits : a + n ≤ length l) (size : length p ≡ n) where
    pub part_before : (m k : ℕ) → m + k ≤ a → take k (drop m (put a n l p)) ≡ take k (drop m l)
    part_before m k h =
        let room : m ≤ length (put a n l p) = simp (length-append, length-drop) (omega (arith, length-take-le a l (omega arith))) in
        sym (part_by_end m k (put a n l p) room) ∙ ap (drop m) (put_take a n l p fits size (m + k) h) ∙ part_by_end m k l (omega arith)

    pub part_behind : (m k : ℕ) → a + n ≤ m → take k (drop m (put a n l p)) ≡ take k (drop m l)
    part_behind m k h = ap (take k) (put_drop a n l p fits size m h)
