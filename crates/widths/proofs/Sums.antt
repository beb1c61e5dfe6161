-- What is folded over the width w is what is folded over the width v, where the components between are zero: tests, scores, the highest
-- component; and the sums, bounds and worst piece of pieces with zeros behind. Assumes nothing.
use mathlib.Core.Path.{◌≡◌, refl, ap, ◌∙◌, subst}
use mathlib.Core.Bool.{Bool, true, false, ◌||◌, cond}
use mathlib.Core.List.{List, [], ◌∷◌, ◌++◌, map}
use mathlib.Core.Logic.{⊎_elim}
use Prim.Native.Nat.{ℕ, zero, suc, ◌+◌, ◌-◌, ◌≤◌, ◌<◌}
use native.Mathlib.Nat.{le_refl, le_of_suc-le-suc, eq-or-lt_of_le, not-suc-le-zero}
use native.Mathlib.Omega.{arith}
use lib.Dec.{T}
use lib.ListN.{length, replicate, get_or-replicate, length-map, get_or-append}
use lib.Seq.{get_or-append-add}
use lib.Ieee.{Float, nan, le, ne}
use Rattle.floats.specs.Operations.{◌⊕◌, ◌⊘◌, bits, at, every}
use Rattle.floats.proofs.Bools.{and_true}
use Rattle.floats.proofs.Every.{every_fails}
use Rattle.quadrature.specs.declared.Piece.{Piece}
use Rattle.tolerance.specs.Bounds.{sum_from, total_of, error_of, absolute, bound_for, bound_of, error_within, converged, score_of, last_highest}
use Rattle.tolerance.specs.Bounds.{piece_at, worst_place, component_of}
use Rattle.tolerance.proofs.Places.{highest_same, highest_below}
use Rattle.tolerance.proofs.AllPieces.{All, all_at}
use Rattle.rounding.proofs.Signs.{plus, max_plus, max_zero, zero_plus}
use Rattle.rounding.proofs.Zeros.{zero_plus_zero}
use Rattle.pieces.specs.Stored.{widened}
use Rattle.widths.proofs.Bounds.{bound_zero, zero_within, zero_over_absolute, Over0, over_up, over_beyond, nan_over, error_over}

-- ---- from v to w
-- a statement about v holds of every w from v on, if it goes on by one
pub upward : (v : ℕ) (P : ℕ → Type 0) → P v → ((n : ℕ) → v ≤ n → P n → P (suc n)) → (w : ℕ) → v ≤ w → P w
upward v P p step zero l = subst P (let e : v ≡ 0 = omega arith in e) p
upward v P p step (suc w) l =
    ⊎_elim (λ (e : v ≡ suc w). subst P e p) (λ (m : v < suc w). step w (le_of_suc-le-suc m) (upward v P p step w (le_of_suc-le-suc m)))
    (eq-or-lt_of_le l)

pub every_same : (n : ℕ) (p q : ℕ → Bool) → ((k : ℕ) → k < n → p k ≡ q k) → every n p ≡ every n q
unfolding every
every_same zero p q e = refl
every_same (suc n) p q e = rw (every_same n p q (λ k l. e k (omega arith)), e n (le_refl (suc n)))

pub every_up : (v w : ℕ) → v ≤ w → (p q : ℕ → Bool) → ((k : ℕ) → k < v → p k ≡ q k) → ((k : ℕ) → v ≤ k → k < w → p k ≡ true)
    → every w p ≡ every v q
unfolding every
every_up v w l p q e t =
    upward v (λ n. n ≤ w → every n p ≡ every v q) (λ z. every_same v p q e)
    (λ n a h b. rw (h (omega arith), t n a b) (and_true (every v q)))
    w l (le_refl w)

-- ---- scores
score_same : (n : ℕ) (bound other : ℕ → Float) (p q : Piece) → ((k : ℕ) → k < n → at p.error k ⊘ bound k ≡ at q.error k ⊘ other k)
    → score_of n bound p ≡ score_of n other q
unfolding score_of
score_same zero bound other p q e = refl
score_same (suc n) bound other p q e = rw (score_same n bound other p q (λ k l. e k (omega arith)), e n (le_refl (suc n)))

score_plus : (n : ℕ) (bound : ℕ → Float) (p : Piece) → T (plus (score_of n bound p))
unfolding score_of
score_plus zero bound p = zero_plus
score_plus (suc n) bound p = max_plus (score_of n bound p) (at p.error n ⊘ bound n) (score_plus n bound p)

score_up : (v w : ℕ) → v ≤ w → (bound other : ℕ → Float) (p q : Piece)
    → ((k : ℕ) → k < v → at p.error k ⊘ bound k ≡ at q.error k ⊘ other k)
    → ((k : ℕ) → v ≤ k → k < w → at p.error k ⊘ bound k ≡ bits 0) → score_of w bound p ≡ score_of v other q
unfolding score_of
score_up v w l bound other p q e z =
    upward v (λ n. n ≤ w → score_of n bound p ≡ score_of v other q) (λ t. score_same v bound other p q e)
    (λ n a h b. rw (h (omega arith), z n a b) (max_zero (score_of v other q) (score_plus v other q)))
    w l (le_refl w)

-- ---- the component of 13: where one of the numbers is over 0, so is the highest, and a 0 behind it is not
pub highest_over : (g : ℕ → Float) (n k : ℕ) → k ≤ n → Over0 (g k) → Over0 (g (last_highest g n))
unfolding last_highest
highest_over g zero k l o = subst (λ (i : ℕ). Over0 (g i)) (let e : k ≡ 0 = omega arith in e) o
highest_over g (suc n) k l o =
    ⊎_elim (λ (e : k ≡ suc n). last (subst (λ (i : ℕ). Over0 (g i)) e o) (last_highest g n) (ne (g (suc n)) (g (suc n))) refl
    (le (g (last_highest g n)) (g (suc n))) refl)
    (λ (m : k < suc n). before (last_highest g n) (highest_over g n k (le_of_suc-le-suc m) o) (ne (g (suc n)) (g (suc n))) refl
    (le (g (last_highest g n)) (g (suc n))) refl)
    (eq-or-lt_of_le l)
  where
    last : Over0 (g (suc n)) → (i : ℕ) (a : Bool) → ne (g (suc n)) (g (suc n)) ≡ a → (b : Bool) → le (g i) (g (suc n)) ≡ b
        → Over0 (g (cond (a || b) (suc n) i))
    last o i true p b q = o
    last o i false p true q = o
    last o i false p false q = over_beyond (g i) (g (suc n)) q p o

    before : (i : ℕ) → Over0 (g i) → (a : Bool) → ne (g (suc n)) (g (suc n)) ≡ a → (b : Bool) → le (g i) (g (suc n)) ≡ b
        → Over0 (g (cond (a || b) (suc n) i))
    before i o true p b q = nan_over (g (suc n)) p
    before i o false p true q = over_up (g i) (g (suc n)) q o
    before i o false p false q = o

zero_equals_itself : ne (bits 0) (bits 0) ≡ false
zero_equals_itself = unfold ne lib.Ieee.of_bits in refl

highest_up : (v w : ℕ) → v ≤ w → (g h : ℕ → Float) → ((k : ℕ) → k < v → g k ≡ h k) → ((k : ℕ) → v ≤ k → k < w → g k ≡ bits 0) → (k : ℕ)
    → k < v → Over0 (h k)
    → last_highest g (w - 1) ≡ last_highest h (v - 1)
unfolding last_highest
highest_up v w l g h e z k b o =
    upward v (λ n. n ≤ w → last_highest g (n - 1) ≡ last_highest h (v - 1)) (λ t. highest_same g h (v - 1) (λ i j. e i (omega arith))) step
    w
    l (le_refl w)
  where
    top : Over0 (g (last_highest h (v - 1)))
    top = rw (e (last_highest h (v - 1)) (omega (arith, highest_below h (v - 1)))) (highest_over h (v - 1) k (omega arith) o)

    pick : (n i : ℕ) → g (suc n) ≡ bits 0 → Over0 (g i) → cond (ne (g (suc n)) (g (suc n)) || le (g i) (g (suc n))) (suc n) i ≡ i
    pick n i q t = rw (q, zero_equals_itself, t)

    again : (n : ℕ) → v ≤ suc n → suc n < w → last_highest g n ≡ last_highest h (v - 1) → last_highest g (suc n) ≡ last_highest h (v - 1)
    again n a c q = rw q (pick n (last_highest h (v - 1)) (z (suc n) a c) top)

    step : (n : ℕ) → v ≤ n → (n ≤ w → last_highest g (n - 1) ≡ last_highest h (v - 1)) → suc n ≤ w
        → last_highest g (suc n - 1) ≡ last_highest h (v - 1)
    step zero a q c = absurd (let t : ⊥ = omega arith in t)
    step (suc n) a q c =
        let x : suc (suc n) - 1 ≡ suc n = omega arith in
        let y : suc n - 1 ≡ n = omega arith in
        rw x (again n a c (subst (λ (m : ℕ). last_highest g m ≡ last_highest h (v - 1)) y (q (omega arith))))

-- ---- pieces with zeros behind their v values and errors
abbrev pub Wide : ℕ → Piece → Type 0
Wide v p = (length p.value ≡ v) × (length p.error ≡ v)

abbrev pub AllWide : ℕ → List Piece → Type 0
AllWide v pieces = All (Wide v) pieces

pub behind_first : (v d : ℕ) (l : List Float) → length l ≡ v → (k : ℕ) → k < v → at (l ++ replicate d (bits 0)) k ≡ at l k
behind_first v d l n k b = get_or-append l (replicate d (bits 0)) nan k (rw n b)

pub behind_others : (v w : ℕ) (l : List Float) → length l ≡ v → (k : ℕ) → v ≤ k → k < w → at (l ++ replicate (w - v) (bits 0)) k ≡ bits 0
behind_others v w l n k a b =
    let e : k ≡ length l + (k - v) = omega arith in
    ap (at (l ++ replicate (w - v) (bits 0))) e
    ∙ get_or-append-add l (replicate (w - v) (bits 0)) (k - v) nan
    ∙ get_or-replicate (w - v) (k - v) (bits 0) nan (omega arith)

module _ (v w : ℕ) (l : v ≤ w) where
  abbrev Wider : List Piece → List Piece
  Wider pieces = map (widened (w - v)) pieces

  -- ---- sums
  sum_first : (part : Piece → List Float) → ((p : Piece) → part (widened (w - v) p) ≡ part p ++ replicate (w - v) (bits 0)) → (k : ℕ)
      → k < v → (sum : Float) (pieces : List Piece)
      → ((p : Piece) → Wide v p → length (part p) ≡ v) → AllWide v pieces
      → sum_from sum (λ p. at (part p) k) (Wider pieces) ≡ sum_from sum (λ p. at (part p) k) pieces
  sum_first part e k b sum [] n a = refl
  sum_first part e k b sum (p ∷ pieces) n a =
      sum_first part e k b (sum ⊕ at (part (widened (w - v) p)) k) pieces n a.1
      ∙ ap (λ (x : Float). sum_from (sum ⊕ x) (λ p. at (part p) k) pieces)
      (ap (λ (t : List Float). at t k) (e p) ∙ behind_first v (w - v) (part p) (n p a.0) k b)

  sum_others : (part : Piece → List Float) → ((p : Piece) → part (widened (w - v) p) ≡ part p ++ replicate (w - v) (bits 0)) → (k : ℕ)
      → v ≤ k → k < w → (pieces : List Piece)
      → ((p : Piece) → Wide v p → length (part p) ≡ v) → AllWide v pieces → sum_from (bits 0) (λ p. at (part p) k) (Wider pieces) ≡ bits 0
  sum_others part e k a b [] n z = refl
  sum_others part e k a b (p ∷ pieces) n z =
      ap (λ (x : Float). sum_from (bits 0 ⊕ x) (λ p. at (part p) k) (Wider pieces))
      (ap (λ (t : List Float). at t k) (e p) ∙ behind_others v w (part p) (n p z.0) k a b)
      ∙ ap (λ (x : Float). sum_from x (λ p. at (part p) k) (Wider pieces)) zero_plus_zero
      ∙ sum_others part e k a b pieces n z.1

  module _ (pieces : List Piece) (z : AllWide v pieces) where
    pub total_first : (k : ℕ) → k < v → total_of (Wider pieces) k ≡ total_of pieces k
    unfolding total_of
    total_first k b = sum_first (λ p. p.value) (λ p. refl) k b (bits 0) pieces (λ p a. a.0) z

    pub error_first : (k : ℕ) → k < v → error_of (Wider pieces) k ≡ error_of pieces k
    unfolding error_of
    error_first k b = sum_first (λ p. p.error) (λ p. refl) k b (bits 0) pieces (λ p a. a.1) z

    pub total_others : (k : ℕ) → v ≤ k → k < w → total_of (Wider pieces) k ≡ bits 0
    unfolding total_of
    total_others k a b = sum_others (λ p. p.value) (λ p. refl) k a b pieces (λ p a. a.0) z

    pub error_others : (k : ℕ) → v ≤ k → k < w → error_of (Wider pieces) k ≡ bits 0
    unfolding error_of
    error_others k a b = sum_others (λ p. p.error) (λ p. refl) k a b pieces (λ p a. a.1) z

    bound_first : (k : ℕ) → k < v → bound_of (Wider pieces) k ≡ bound_of pieces k
    bound_first k b = ap bound_for (total_first k b)

    bound_others : (k : ℕ) → v ≤ k → k < w → bound_of (Wider pieces) k ≡ absolute
    bound_others k a b = ap bound_for (total_others k a b) ∙ bound_zero

    -- ---- "no summed error over its bound"
    pub converged_same : converged w (Wider pieces) ≡ converged v pieces
    unfolding converged
    converged_same =
        every_up v w l (error_within (Wider pieces)) (error_within pieces)
        (λ k b. ap (λ (x : Float). le x (bound_of (Wider pieces) k)) (error_first k b) ∙ ap (le (error_of pieces k)) (bound_first k b))
        (λ k a b. ap (λ (x : Float). le x (bound_of (Wider pieces) k)) (error_others k a b) ∙ ap (le (bits 0)) (bound_others k a b)
        ∙ zero_within)

    -- ---- the worst piece
    pub piece_score : (p : Piece) → Wide v p → score_of w (bound_of (Wider pieces)) (widened (w - v) p) ≡ score_of v (bound_of pieces) p
    piece_score p n =
        score_up v w l (bound_of (Wider pieces)) (bound_of pieces) (widened (w - v) p) p
        (λ k b. ap (λ (x : Float). x ⊘ bound_of (Wider pieces) k) (behind_first v (w - v) p.error n.1 k b)
        ∙ ap (λ (x : Float). at p.error k ⊘ x) (bound_first k b))
        (λ k a b. ap (λ (x : Float). x ⊘ bound_of (Wider pieces) k) (behind_others v w p.error n.1 k a b)
        ∙ ap (λ (x : Float). bits 0 ⊘ x) (bound_others k a b) ∙ zero_over_absolute)

    -- ---- 13's component
    pub component_same : converged v pieces ≡ false → component_of w (Wider pieces) ≡ component_of v pieces
    unfolding component_of converged
    component_same c =
        let f = every_fails v (error_within pieces) c in
        highest_up v w l (λ k. error_of (Wider pieces) k ⊘ bound_of (Wider pieces) k) (λ k. error_of pieces k ⊘ bound_of pieces k)
        (λ k b. ap (λ (x : Float). x ⊘ bound_of (Wider pieces) k) (error_first k b)
        ∙ ap (λ (x : Float). error_of pieces k ⊘ x) (bound_first k b))
        (λ k a b. ap (λ (x : Float). x ⊘ bound_of (Wider pieces) k) (error_others k a b)
        ∙ ap (λ (x : Float). bits 0 ⊘ x) (bound_others k a b) ∙ zero_over_absolute)
        f.0 f.1.0 (error_over (error_of pieces f.0) (total_of pieces f.0) f.1.1)

  pub wider_at : (pieces : List Piece) (i : ℕ) → i < length pieces → piece_at (Wider pieces) i ≡ widened (w - v) (piece_at pieces i)
  wider_at [] i b = absurd (not-suc-le-zero b)
  wider_at (p ∷ pieces) zero b = refl
  wider_at (p ∷ pieces) (suc i) b = wider_at pieces i (le_of_suc-le-suc b)

  pub worst_same : (pieces : List Piece) → AllWide v pieces → 1 ≤ length pieces → worst_place w (Wider pieces) ≡ worst_place v pieces
  unfolding worst_place
  worst_same pieces z n =
      let e : length (Wider pieces) ≡ length pieces = length-map pieces (widened (w - v)) in
      ap (λ (m : ℕ). last_highest (λ i. score_of w (bound_of (Wider pieces)) (piece_at (Wider pieces) i)) (m - 1)) e
      ∙ highest_same (λ i. score_of w (bound_of (Wider pieces)) (piece_at (Wider pieces) i))
      (λ i. score_of v (bound_of pieces) (piece_at pieces i)) (length pieces - 1)
      (λ i b. let c : i < length pieces = omega arith in ap (score_of w (bound_of (Wider pieces))) (wider_at pieces i c)
      ∙ piece_score pieces z (piece_at pieces i) (all_at (Wide v) pieces i c z))
