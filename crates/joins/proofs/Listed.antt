-- Bodies written one after another over a list: what it holds then, its length, and each body read back. Assumes nothing.
use mathlib.Core.List.{List, ◌++◌}
use mathlib.Core.Logic.{⊎_elim}
use mathlib.Core.Path.{◌≡◌, refl, sym, ap, ◌∙◌}
use Prim.Native.Nat.{ℕ, zero, suc, ◌+◌, ◌*◌, ◌<◌, ◌≤◌}
use native.Mathlib.Nat.{eq-or-lt_of_le, le_antisymm}
use native.Mathlib.Numerals.{add-one}
use native.Mathlib.Omega.{arith}
use lib.ListN.{length, take, drop, length-append, length-drop, get_or-append}
use lib.Seq.{take_at, drop_at, drop-drop, get_or-append-add}
use lib.Ieee.{Float, nan}
use Rattle.floats.specs.Operations.{at}
use Rattle.bodies.specs.declared.Body.{Body}
use Rattle.bodies.specs.Layout.{body_numbers, body_of, numbers_of}
use Rattle.bodies.proofs.SameNumbers.{same_body}
use Rattle.joins.specs.Flat.{body_at, listed, with_body, with_bodies}

-- a body as it is read back from its numbers
abbrev pub read_back : Body → Body
read_back b = body_of (at (numbers_of b))

module _ (f : ℕ → Body) where
  pub length_listed : (n : ℕ) → length (listed f n) ≡ body_numbers * n
  unfolding listed
  length_listed zero = refl
  length_listed (suc n) = let e = length_listed n in length-append (listed f n) (numbers_of (f n)) ∙ omega arith

  -- number i of body k
  entry : (n k i : ℕ) → k < n → i < body_numbers → at (listed f n) (body_numbers * k + i) ≡ at (numbers_of (f k)) i
  unfolding listed
  entry zero k i h l = absurd (let z : ⊥ = omega arith in z)
  entry (suc n) k i h l =
      let long = length_listed n in
      ⊎_elim
      (λ (e : k ≡ n).
      ap (λ (m : ℕ). at (listed f n ++ numbers_of (f n)) (body_numbers * m + i)) e
      ∙ ap (λ (m : ℕ). at (listed f n ++ numbers_of (f n)) (m + i)) (sym long)
      ∙ get_or-append-add (listed f n) (numbers_of (f n)) i nan
      ∙ ap (λ (m : ℕ). at (numbers_of (f m)) i) (sym e))
      (λ (j : k < n). get_or-append (listed f n) (numbers_of (f n)) nan (body_numbers * k + i) (omega arith) ∙ entry n k i j l)
      (eq-or-lt_of_le (omega arith))

  pub read_back_lem : (n k : ℕ) → k < n → body_at (listed f n) k ≡ read_back (f k)
  read_back_lem n k h = same_body (λ i. at (listed f n) (body_numbers * k + i)) (at (numbers_of (f k))) (λ i l. entry n k i h l)

  module _ (l : List Float) where
    pub none_written : l ≡ with_bodies f 0 l
    unfolding listed
    none_written = refl

    pub one_written : (k : ℕ) {c r : List Float} {b : Body} → c ≡ with_bodies f k l → b ≡ f k → r ≡ with_body c k b
        → r ≡ with_bodies f (k + 1) l
    unfolding listed
    one_written k p q e =
        let next : body_numbers * k + body_numbers ≡ body_numbers * (k + 1) = omega arith in
        let front : take (body_numbers * k) (with_bodies f k l) ≡ listed f k = take_at (listed f k) (drop (body_numbers * k) l)
        (body_numbers * k) (length_listed k) in
        let back : drop (body_numbers * k + body_numbers) (with_bodies f k l) ≡ drop (body_numbers * (k + 1)) l =
        sym (drop-drop body_numbers (body_numbers * k) (with_bodies f k l))
        ∙ ap (drop body_numbers) (drop_at (listed f k) (drop (body_numbers * k) l) (body_numbers * k) (length_listed k))
        ∙ drop-drop body_numbers (body_numbers * k) l
        ∙ ap (λ (m : ℕ). drop m l) next in
        rw (e, p, q, front, back, add-one)

    pub all_written : (k n : ℕ) {c : List Float} → c ≡ with_bodies f k l → k ≤ n → n ≤ k → c ≡ with_bodies f n l
    all_written k n p g h = p ∙ ap (λ (m : ℕ). with_bodies f m l) (le_antisymm g h)

    pub first_bodies : (n : ℕ) {c : List Float} → c ≡ with_bodies f n l → take (body_numbers * n) c ≡ listed f n
    first_bodies n p =
        ap (take (body_numbers * n)) p ∙ take_at (listed f n) (drop (body_numbers * n) l) (body_numbers * n) (length_listed n)

    pub length_written : (n : ℕ) {c : List Float} → c ≡ with_bodies f n l → body_numbers * n ≤ length l → length c ≡ length l
    length_written n p h =
        let a = length_listed n in
        let d = length-drop (body_numbers * n) l in
        ap length p ∙ length-append (listed f n) (drop (body_numbers * n) l) ∙ omega arith
