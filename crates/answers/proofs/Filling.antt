-- A template filled in byte by byte: what is there with what is still to come is the whole, and there is room for it. Assumes nothing.
use mathlib.Core.List.{List, [], ◌∷◌, ◌++◌, append_assoc}
use mathlib.Core.Path.{◌≡◌, refl, sym, ap, ◌∙◌}
use Prim.Native.Nat.{ℕ, ◌+◌, ◌<◌, ◌≤◌}
use native.Mathlib.Numerals.{add-one}
use native.Mathlib.Omega.{arith}
use lib.ListN.{length, drop, get_or, length-append, drop_of_length-le}
use lib.Seq.{drop-cons}
use lib.Ieee.{Float}
use Rattle.texts.specs.Appended.{Appended}
use Rattle.texts.proofs.Appending.{append_nil, nothing, then}
use Rattle.answers.specs.declared.Place.{Place}
use Rattle.answers.specs.Filled.{piece, figures_after, counts_after, filled, room_for, room}
use Rattle.answers.specs.Places.{HasRoom, PutPiece}
use Rattle.answers.proofs.Pieces.{piece_fits}

-- no longer than the room that is set aside
pub filled_fits : (template : List ℕ) (figures : List Float) (counts : List ℕ) → length (filled template figures counts) ≤ room template
unfolding filled room
filled_fits [] figures counts = omega arith
filled_fits (b ∷ bs) figures counts =
    let h = piece_fits b figures counts in
    let g = filled_fits bs (figures_after b figures) (counts_after b counts) in
    simp length-append (omega arith)

module _ (l : List ℕ) (i : ℕ) (h : i < length l) where
  cons_at : drop i l ≡ get_or l i 0 ∷ drop (i + 1) l
  cons_at = drop-cons l i 0 h ∙ ap (λ (k : ℕ). get_or l i 0 ∷ drop k l) (sym (add-one i))

  room_at : room (drop i l) ≡ room_for (get_or l i 0) + room (drop (i + 1) l)
  unfolding room
  room_at = ap room cons_at

  filled_at : (figures : List Float) (counts : List ℕ) → filled (drop i l) figures counts
      ≡ piece (get_or l i 0) figures counts
      ++ filled (drop (i + 1) l) (figures_after (get_or l i 0) figures) (counts_after (get_or l i 0) counts)
  unfolding filled
  filled_at figures counts = ap (λ (t : List ℕ). filled t figures counts) cons_at

pub record SoFar (before : List ℕ) (n : ℕ) (template : List ℕ) (figures : List Float) (counts : List ℕ) (out : List ℕ) (p : Place)
    (i : ℕ) : Type 0 where
  pub done : List ℕ
  pub put : Appended before n done out p.n
  pub whole : filled template figures counts ≡ done ++ filled (drop i template) (drop p.figures figures) (drop p.counts counts)
  pub has_room : p.n + room (drop i template) ≤ length out
  pub within : i ≤ length template
  pub figures_left : p.figures ≤ length figures
  pub counts_left : p.counts ≤ length counts
  pub same : length out ≡ length before

module _ {before : List ℕ} {n : ℕ} {template : List ℕ} {figures : List Float} {counts : List ℕ} where
  pub start : n + room template ≤ length before
      → SoFar before n template figures counts before (record { n = n; figures = 0; counts = 0 }) 0
  start h = record {
    done = [];
    put = nothing before n;
    whole = refl;
    has_room = h;
    within = omega arith;
    figures_left = omega arith;
    counts_left = omega arith;
    same = refl;
  }

  module _ {out : List ℕ} {p : Place} {i : ℕ} (v : SoFar before n template figures counts out p i) where
    pub has_room_at : i < length template → HasRoom out p (get_or template i 0) figures counts
    has_room_at h =
        let r = room_at template i h in let q = v.has_room in
        record { figures_left = v.figures_left; counts_left = v.counts_left; bytes = omega arith }

    pub next : {after : List ℕ} {r : Place} → i < length template → PutPiece out after p r (get_or template i 0) figures counts
        → length after ≡ length out → SoFar before n template figures counts after r (i + 1)
    next {after} {r} h u l =
        let m = room_at template i h in let q = v.has_room in let s = v.same in let e = u.put.ends in
        let k = piece_fits (get_or template i 0) (drop p.figures figures) (drop p.counts counts) in
        record {
          done = v.done ++ piece (get_or template i 0) (drop p.figures figures) (drop p.counts counts);
          put = then before out after n p.n r.n v.done
              (piece (get_or template i 0) (drop p.figures figures) (drop p.counts counts)) v.put u.put;
          whole =
              v.whole ∙ ap (λ (t : List ℕ). v.done ++ t) (filled_at template i h (drop p.figures figures) (drop p.counts counts))
              ∙ sym (append_assoc v.done (piece (get_or template i 0) (drop p.figures figures) (drop p.counts counts)) _)
              ∙ ap (λ (t : List ℕ). (v.done ++ piece (get_or template i 0) (drop p.figures figures) (drop p.counts counts)) ++ t)
              (ap (λ (fs : List Float). filled (drop (i + 1) template) fs (counts_after (get_or template i 0) (drop p.counts counts)))
              (sym u.next_figures)
              ∙ ap (filled (drop (i + 1) template) (drop r.figures figures)) (sym u.next_counts));
          has_room = omega arith;
          within = omega arith;
          figures_left = u.figures_left;
          counts_left = u.counts_left;
          same = omega arith;
        }

    pub ends : length template ≤ i → Appended before n (filled template figures counts) out p.n
    unfolding filled
    ends h =
        let d = drop_of_length-le template h in
        let e : filled template figures counts ≡ v.done = v.whole
        ∙ ap (λ (t : List ℕ). v.done ++ filled t (drop p.figures figures) (drop p.counts counts)) d ∙ append_nil v.done in
        rw e v.put
