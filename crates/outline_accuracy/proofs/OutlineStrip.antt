-- A strip of an outline, from its points: its samples' widths, and its value where it is one piece. Assumes nothing.
use mathlib.Core.Path.{◌≡◌, refl, sym, ap, ◌∙◌, subst}
use mathlib.Core.Bool.{Bool, true, false, cond}
use mathlib.Core.List.{List, [], ◌∷◌, map}
use mathlib.Core.Logic.{◌⊎◌, inl, inr}
use Prim.Native.Nat.{ℕ, zero, suc, ◌+◌, ◌≤◌, ◌<◌}
use native.Mathlib.Nat.{le_refl, le_trans, le-suc, mod-lt}
use native.Mathlib.Omega.{arith}
use lib.Dec.{leb}
use lib.Ieee.{Float, lt, is_nan}
use lib.Ieee.Bits.{is_true}
use Rattle.floats.specs.Operations.{◌⊗◌, ◌⊘◌, bits, at}
use Rattle.rounding.proofs.Signs.{finite_no_nan}
use Rattle.sorting.specs.Sorted as Sorted
use Rattle.segments.specs.Segments.{next}
use Rattle.planforms.specs.declared.Planform.TheVariants.{Outline}
use Rattle.planforms.specs.Planforms.{x_at, height_at, pair_count, span_of}
use Rattle.chords.specs.Chords.{edge_crossed, edge_crossing, crossings, outline_crossings, ends_at, paired}
use Rattle.integrands.specs.Integrands.{scale_of, sums_from, area_three, area_values}
use Rattle.integrands.specs.declared.Kind.TheVariants.{Area as area}
use Rattle.quadrature.specs.Rule.{half_sum, half_width, weighted_to, kronrod_weight}
use Rattle.rounding_error.proofs.Numbers.{Number, ◌per◌, ◌of◌, ◌plus◌, ◌less◌, ◌times◌, ◌roundoffs◌, Under, Near, Ranges, value_of}
use Rattle.error_terms.proofs.Terms.{Known}
use Rattle.error_terms.proofs.Floors.{NotBelow}
use Rattle.outline_accuracy.specs.OutlineAreas.{crossed_edges, edges_crossed}
use Rattle.outline_accuracy.proofs.Heights.{sample_metres, metres_near, sample_above, sample_below}
use Rattle.accuracy.proofs.Samples.{node_of, height_of, IsSample, Sample}
use Rattle.outline_accuracy.proofs.Samples.{StripSized, Spanning, strip_given}
use Rattle.outline_accuracy.proofs.Chord as Chord
use Rattle.outline_accuracy.proofs.Chord.{Pair, chord_width}
use Rattle.outline_accuracy.proofs.WeightedSum.{sample_shape}
use Rattle.outline_accuracy.proofs.StripArea as Strip
use Rattle.outline_accuracy.proofs.Edges.{Outside, Corner, spanning, crossings_are}

-- one chord's sums
one_chord_lem : (scale t a b : Float)
    → at (area_values (sums_from area scale t (bits 0 ∷ bits 0 ∷ bits 0 ∷ bits 0 ∷ []) (paired (a ∷ b ∷ []))))
    0 ≡ chord_width scale a b
unfolding paired sums_from
one_chord_lem scale t a b = refl

-- the edges of the list are crossed
abbrev pub Each : (ℕ → Type 0) → List ℕ → Type 0
Each P [] = Unit {0}
Each P (i ∷ l) = P i × Each P l

module _ (points : List Float) (n : ℕ) (h : Float) where
  abbrev pub Crossed : ℕ → Type 0
  Crossed i = (i < n) × (edge_crossed points h i (next n i) ≡ true)

  pub each_crossed : (k : ℕ) → k ≤ n → Each Crossed (crossed_edges points n h k)
  unfolding crossed_edges
  each_crossed zero l = tt
  each_crossed (suc i) l = go (edge_crossed points h i (next n i)) refl (each_crossed i (le_trans (le-suc i) l))
    where
      go : (b : Bool) → edge_crossed points h i (next n i) ≡ b → Each Crossed (crossed_edges points n h i)
          → Each Crossed (cond b (i ∷ crossed_edges points n h i) (crossed_edges points n h i))
      go true e r = ((l, e), r)
      go false e r = r

module _ (points : List Float) (few : leb (pair_count points) 64 ≡ true) where
  abbrev n : ℕ
  n = pair_count points

  abbrev scale : Float
  scale = scale_of Outline points

  abbrev span : Float
  span = span_of Outline points

  -- the width at a sample, as it is worked
  abbrev pub width_at : Float → Float
  width_at t = at (area_three Outline points t) 0

  ends_are : (H : Float) → ends_at Outline points H ≡ Sorted.sorted (crossings points n H n)
  unfolding ends_at outline_crossings
  ends_are H = ap (λ (b : Bool). cond b (Sorted.sorted (crossings points n H n)) []) few

  width_is : (t a b : Float) → Sorted.sorted (crossings points n (t ⊗ scale) n) ≡ a ∷ b ∷ [] → width_at t ≡ chord_width scale a b
  unfolding area_three
  width_is t a b e =
      ap (λ (l : List Float). at (area_values (sums_from area scale t (bits 0 ∷ bits 0 ∷ bits 0 ∷ bits 0 ∷ []) (paired l))) 0)
      (ends_are (t ⊗ scale) ∙ e) ∙ one_chord_lem scale t a b

  module _ (b d : ℕ) (L_ranges : Ranges 32 (b per d)) (corner : (i : ℕ) → i < n → Corner b d span (x_at points i) (height_at points i))
      (h k : Float)
      (g : StripSized h k span scale) (rising : lt h k ≡ true) (outside : (i : ℕ) → i < n → Outside h k (height_at points i)) where
    some : (i : ℕ) → i < n → 0 < n
    some i l = omega arith

    next_below : (i : ℕ) → i < n → next n i < n
    next_below i l = mod-lt (i + 1) (some i l)

    abbrev pub rises : ℕ → Bool
    rises i = lt (height_at points i) (height_at points (next n i))

    abbrev pub Edge : ℕ → Type 0
    Edge i = Spanning h k span b d (rises i) (x_at points i) (height_at points i) (x_at points (next n i)) (height_at points (next n i))

    pub edge_spans : (i : ℕ) → Crossed points n h i → Edge i
    edge_spans i c =
        spanning b d span h k (x_at points i) (height_at points i) (x_at points (next n i)) (height_at points (next n i)) g.lower_finite
        g.upper_finite
        (corner i c.0) (corner (next n i) (next_below i c.0)) (outside i c.0) (outside (next n i) (next_below i c.0)) c.1

    number' : (i : ℕ) → i < n → is_nan (height_at points i) ≡ false
    number' i l = finite_no_nan (height_at points i) (corner i l).y_finite

    abbrev metres : Sample → Float
    metres s = sample_metres h k span scale (strip_given h k span scale g) s

    crossings_at : (s : Sample) → IsSample s → crossings points n (metres s) n ≡ map (λ i. edge_crossing points (metres s) i (next n i))
        (edges_crossed points h)
    crossings_at s i =
        crossings_are h k (metres s) (finite_no_nan h g.lower_finite) (finite_no_nan k g.upper_finite)
        (finite_no_nan (metres s) (metres_near h k span scale (strip_given h k span scale g) s i).finite) rising
        (is_true _ (sample_above h k span scale (strip_given h k span scale g) g.high_enough s i))
        (sample_below h k span scale (strip_given h k span scale g) g.high_enough s i) points n number' outside n (le_refl n)

    module _ (left right : ℕ) (l : Edge left) (r : Edge right)
        (two_edges : (edges_crossed points h ≡ right ∷ left ∷ []) ⊎ (edges_crossed points h ≡ left ∷ right ∷ [])) where
      abbrev xp : ℕ → Float
      xp i = x_at points i

      abbrev yp : ℕ → Float
      yp i = height_at points i

      abbrev xq : ℕ → Float
      xq i = x_at points (next n i)

      abbrev yq : ℕ → Float
      yq i = height_at points (next n i)

      abbrev pub left_at : Number → Number
      left_at η =
          Chord.left_at h k span scale g b d L_ranges (rises left) (xp left) (yp left) (xq left) (yq left) l (rises right) (xp right)
          (yp right) (xq right) (yq right) r η

      abbrev pub right_at : Number → Number
      right_at η = Chord.right_at h k span scale g b d L_ranges (rises left) (xp left) (yp left) (xq left) (yq left) l (rises right)
          (xp right) (yp right) (xq right) (yq right) r η

      abbrev M : Number
      M = Strip.M h k span scale g b d L_ranges (rises left) (xp left) (yp left) (xq left) (yq left) l (rises right) (xp right) (yp right)
          (xq right) (yq right) r

      abbrev slant : Number
      slant = Strip.slant h k span scale g b d L_ranges (rises left) (xp left) (yp left) (xq left) (yq left) l (rises right) (xp right)
          (yp right) (xq right) (yq right) r

      abbrev pub exact_strip : Number
      exact_strip = Strip.exact_strip h k span scale g b d L_ranges (rises left) (xp left) (yp left) (xq left) (yq left) l (rises right)
          (xp right) (yp right) (xq right) (yq right) r

      abbrev low : Float
      low = h ⊘ scale

      abbrev high : Float
      high = k ⊘ scale

      module _ (at_lower : NotBelow (right_at (value_of h) less left_at (value_of h)))
          (at_upper : NotBelow (right_at (value_of k) less left_at (value_of k))) where
        abbrev exactly : Sample → Number
        exactly s = Chord.exactly h k span scale g b d L_ranges (rises left) (xp left) (yp left) (xq left) (yq left) l (rises right)
            (xp right) (yp right) (xq right) (yq right) r s

        abbrev Sorting : Sample → List Float → Type 0
        Sorting s list = Pair list (left_at (exactly s)) (right_at (exactly s)) (Chord.error h k span scale g b d L_ranges)

        abbrev cross : Sample → ℕ → Float
        cross s j = edge_crossing points (metres s) j (next n j)

        pair : (s : Sample) → IsSample s → Sorting s (crossings points n (metres s) n)
        pair s i =
            let both = Chord.crossings_sorted h k span scale g b d L_ranges (rises left) (xp left) (yp left) (xq left) (yq left) l
            (rises right) (xp right) (yp right)
            (xq right) (yq right) r at_lower at_upper s i in
            go both two_edges
          where
            go : Sorting s (cross s left ∷ cross s right ∷ []) × Sorting s (cross s right ∷ cross s left ∷ [])
                → (edges_crossed points h ≡ right ∷ left ∷ []) ⊎ (edges_crossed points h ≡ left ∷ right ∷ []) → Sorting s
                (crossings points n (metres s) n)
            go both (inl e) = subst (Sorting s) (sym (crossings_at s i ∙ ap (map (cross s)) e)) both.1
            go both (inr e) = subst (Sorting s) (sym (crossings_at s i ∙ ap (map (cross s)) e)) both.0

        sample_known : (s : Sample) → IsSample s
            → Known (Chord.bases h k span scale g b d L_ranges) (width_at (height_of s (half_sum low high) (half_width low high)))
            (M plus node_of s times slant) sample_shape
        sample_known s i =
            let p = pair s i in
            subst (λ (x : Float). Known (Chord.bases h k span scale g b d L_ranges) x (M plus node_of s times slant) sample_shape)
            (sym (width_is (height_of s (half_sum low high) (half_width low high)) p.left p.right p.is))
            (Chord.sample_known h k span scale g b d L_ranges (rises left) (xp left) (yp left) (xq left) (yq left) l (rises right)
            (xp right) (yp right) (xq right)
            (yq right) r at_lower at_upper s i p.left p.right p.left_near p.right_near)

        pub strip_value : Near (half_width low high ⊗ weighted_to 7 kronrod_weight width_at (half_sum low high) (half_width low high))
            exact_strip
            (177 roundoffs Strip.area_unit h k span scale g b d L_ranges)
        strip_value = Strip.strip_near h k span scale g b d L_ranges (rises left) (xp left) (yp left) (xq left) (yq left) l (rises right)
            (xp right) (yp right) (xq right)
            (yq right) r width_at sample_known

        pub strip_size : Under (2 of Strip.area_unit h k span scale g b d L_ranges) exact_strip
        strip_size = Strip.strip_size h k span scale g b d L_ranges (rises left) (xp left) (yp left) (xq left) (yq left) l (rises right)
            (xp right) (yp right) (xq right)
            (yq right) r width_at sample_known
