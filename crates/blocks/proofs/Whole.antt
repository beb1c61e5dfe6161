-- A text filled in byte by byte: what is there with what is still to come is the whole, and there is room for it. Assumes nothing.
use mathlib.Core.List.{List, [], ◌∷◌, ◌++◌, append-nil, append_assoc}
use mathlib.Core.Path.{◌≡◌, refl, sym, ap, ◌∙◌}
use Prim.Native.Nat.{ℕ, ◌+◌, ◌<◌, ◌≤◌}
use native.Mathlib.Omega.{arith}
use lib.ListN.{length, drop, get_or, length-append, drop_of_length-le}
use lib.Ieee.{Float}
use Rattle.texts.specs.Appended.{Appended}
use Rattle.texts.proofs.Appending.{nothing, then}
use Rattle.tokens.proofs.Bytes.{cons_at}
use Rattle.blocks.specs.declared.filling.Place.{Place}
use Rattle.blocks.specs.Filled.{Marks, figures_after, filled, room}
use Rattle.blocks.specs.Steps.{HasRoom, PutsPiece}

module _ (m : Marks) (most : ℕ → ℕ) (fits : (b : ℕ) (figures : List Float) (counts : List ℕ) → length (m.piece b figures counts) ≤ most b)
  where
    -- no longer than the room that is set aside
    pub filled_fits : (template : List ℕ) (figures : List Float) (counts : List ℕ)
        → length (filled m template figures counts) ≤ room most template
    unfolding filled room
    filled_fits [] figures counts = omega arith
    filled_fits (b ∷ bs) figures counts =
        let h = fits b figures counts in
        let g = filled_fits bs (figures_after b figures) (m.counts_after b counts) in
        let e = length-append (m.piece b figures counts) (filled m bs (figures_after b figures) (m.counts_after b counts)) in
        omega (arith, h, g, e)

    room_at : (l : List ℕ) (i : ℕ) → i < length l → room most (drop i l) ≡ most (get_or l i 0) + room most (drop (i + 1) l)
    unfolding room
    room_at l i h = ap (room most) (cons_at l i h)

    filled_at : (l : List ℕ) (i : ℕ) → i < length l → (figures : List Float) (counts : List ℕ)
        → filled m (drop i l) figures counts ≡ m.piece (get_or l i 0) figures counts ++ filled m (drop (i + 1) l)
        (figures_after (get_or l i 0) figures) (m.counts_after (get_or l i 0) counts)
    unfolding filled
    filled_at l i h figures counts = ap (λ (t : List ℕ). filled m t figures counts) (cons_at l i h)

    pub record SoFar (before : List ℕ) (n : ℕ) (template : List ℕ) (figures : List Float) (counts : List ℕ) (out : List ℕ) (p : Place)
        (i : ℕ) : Type 0 where
      pub done : List ℕ
      pub put : Appended before n done out p.n
      pub whole : filled m template figures counts
          ≡ done ++ filled m (drop i template) (drop p.figures figures) (drop p.counts counts)
      pub has_room : p.n + room most (drop i template) ≤ length out
      pub within : i ≤ length template
      pub figures_left : p.figures ≤ length figures
      pub counts_left : p.counts ≤ length counts
      pub same : length out ≡ length before

    module _ {before : List ℕ} {n : ℕ} {template : List ℕ} {figures : List Float} {counts : List ℕ} where
      pub start : n + room most template ≤ length before
          → SoFar before n template figures counts before (record { n = n; figures = 0; counts = 0 }) 0
      start h = record {
        done = [];
        put = nothing before n;
        whole = refl;
        has_room = h;
        within = omega arith;
        figures_left = omega arith;
        counts_left = omega arith;
        same = refl;
      }

      module _ {out : List ℕ} {p : Place} {i : ℕ} (v : SoFar before n template figures counts out p i) where
        pub has_room_at : i < length template → HasRoom most out p (get_or template i 0) figures counts
        has_room_at h =
            let r = room_at template i h in
            let q = v.has_room in
            record { figures_left = v.figures_left; counts_left = v.counts_left; bytes = omega (arith, r, q) }

        pub next : {after : List ℕ} {r : Place} → i < length template → PutsPiece m out after p r (get_or template i 0) figures counts
            → length after ≡ length out → SoFar before n template figures counts after r (i + 1)
        next {after} {r} h u l =
            let o = room_at template i h in
            let q = v.has_room in
            let s = v.same in
            let e = u.put.ends in
            let k = fits (get_or template i 0) (drop p.figures figures) (drop p.counts counts) in
            let piece = m.piece (get_or template i 0) (drop p.figures figures) (drop p.counts counts) in
            record {
              done = v.done ++ piece;
              put = then before out after n p.n r.n v.done piece v.put u.put;
              whole =
                  v.whole ∙ ap (λ (t : List ℕ). v.done ++ t)
                  (filled_at template i h (drop p.figures figures) (drop p.counts counts))
                  ∙ sym (append_assoc v.done piece _)
                  ∙ ap (λ (t : List ℕ). (v.done ++ piece) ++ t)
                  (ap (λ (fs : List Float). filled m (drop (i + 1) template) fs
                  (m.counts_after (get_or template i 0) (drop p.counts counts))) (sym u.next_figures)
                  ∙ ap (filled m (drop (i + 1) template) (drop r.figures figures)) (sym u.next_counts));
              has_room = omega (arith, o, q, e, k, l);
              within = omega arith;
              figures_left = u.figures_left;
              counts_left = u.counts_left;
              same = omega (arith, l, s);
            }

        pub ends : length template ≤ i → Appended before n (filled m template figures counts) out p.n
        unfolding filled
        ends h =
            let d = drop_of_length-le template h in
            let e : filled m template figures counts ≡ v.done = v.whole
            ∙ ap (λ (t : List ℕ). v.done ++ filled m t (drop p.figures figures) (drop p.counts counts)) d ∙ append-nil v.done in
            rw e v.put
