-- Tables whose texts are cut at bars: one key and its text at a time. Assumes nothing.
use mathlib.Core.List.{List, [], ◌∷◌, ◌++◌, append-nil, append_assoc}
use mathlib.Core.Bool.{Bool, true, false, not, cond}
use mathlib.Core.Path.{◌≡◌, refl, sym, ap, ◌∙◌}
use Prim.Native.Nat.{ℕ, ◌+◌, ◌<◌, ◌≤◌}
use borrow.Author.Tests.{lt-ltb, le-ltb}
use lib.Dec.{T, ltb, eqb}
use lib.ListN.{length, drop, drop_of_length-le}
use lib.Ieee.Fits.{and_l, and_r}
use Rattle.std.specs.Prelude.{Some, None}
use Rattle.tokens.specs.Found.{part}
use Rattle.templates.specs.Matching.{same_bytes, cut_after, cut_at_bars}
use Rattle.templates.specs.Cursors.{IsBarEnd}
use Rattle.blocks.specs.Tables.{text_for, with_bars, no_bar, no_bars}
use Rattle.blocks.specs.Steps.{IsTextFor}

module _ (table key : List ℕ) where
  -- the texts from a place on
  abbrev pub From : ℕ → List (List ℕ)
  From at = cut_at_bars (drop at table)

  pub nothing_found : (rest : List ℕ) → text_for key (cut_at_bars table) ≡ rest → rest ≡ []
      → IsTextFor table key None
  nothing_found rest e f = sym (e ∙ f)

  at_end_lem : (at : ℕ) → length table ≤ at → text_for key (From at) ≡ []
  unfolding text_for cut_after
  at_end_lem at h = ap (λ (t : List ℕ). text_for key (cut_at_bars t)) (drop_of_length-le table h)

  pub ends_here : (at : ℕ) → text_for key (cut_at_bars table) ≡ text_for key (From at) → length table ≤ at
      → IsTextFor table key None
  ends_here at e h = nothing_found (text_for key (From at)) e (at_end_lem at h)

  module _ (at end : ℕ) (first : IsBarEnd table at end) where
    last_key : length table ≤ end → text_for key (From at) ≡ []
    unfolding text_for
    last_key h = ap (text_for key)
        (first.cut ∙ ap (λ (t : Bool). part table at end ∷ cond t (cut_at_bars (drop (end + 1) table)) []) (le-ltb end (length table) h))

    pub key_alone : text_for key (cut_at_bars table) ≡ text_for key (From at) → length table ≤ end
        → IsTextFor table key None
    key_alone e h = nothing_found (text_for key (From at)) e (last_key h)

    module _ (to : ℕ) (h : end < length table) (second : IsBarEnd table (end + 1) to) where
      pair : From at ≡ part table at end ∷ (part table (end + 1) to ∷ cond (ltb to (length table)) (cut_at_bars (drop (to + 1) table)) [])
      pair =
          first.cut
          ∙ ap (λ (t : Bool). part table at end ∷ cond t (cut_at_bars (drop (end + 1) table)) []) (lt-ltb end (length table) h)
          ∙ ap (λ (ts : List (List ℕ)). part table at end ∷ ts) second.cut

      tested : (t : Bool) → same_bytes key (part table at end) ≡ t
          → text_for key (From at)
          ≡ cond t (part table (end + 1) to) (text_for key (cond (ltb to (length table)) (cut_at_bars (drop (to + 1) table)) []))
      unfolding text_for
      tested t e =
          ap (text_for key) pair
          ∙ ap (λ (t : Bool). cond t (part table (end + 1) to)
          (text_for key (cond (ltb to (length table)) (cut_at_bars (drop (to + 1) table)) []))) e

      pub found : text_for key (cut_at_bars table) ≡ text_for key (From at) → same_bytes key (part table at end) ≡ true
          → IsTextFor table key (Some (record { from = end + 1; to = to }))
      found e s = record { is = sym (e ∙ tested true s); ordered = second.behind; within = second.within }

      pub passed : text_for key (cut_at_bars table) ≡ text_for key (From at) → same_bytes key (part table at end) ≡ false
          → to < length table
          → text_for key (cut_at_bars table) ≡ text_for key (From (to + 1))
      passed e s g = e ∙ tested false s
          ∙ ap (λ (t : Bool). text_for key (cond t (cut_at_bars (drop (to + 1) table)) [])) (lt-ltb to (length table) g)

      pub passed_last : text_for key (cut_at_bars table) ≡ text_for key (From at) → same_bytes key (part table at end) ≡ false
          → length table ≤ to → IsTextFor table key None
      unfolding text_for
      passed_last e s g =
          nothing_found (text_for key (From at)) e
          (tested false s ∙ ap (λ (t : Bool). text_for key (cond t (cut_at_bars (drop (to + 1) table)) [])) (le-ltb to (length table) g))

-- ---- texts without bars of their own, with bars between them, are cut into themselves

no_bar_cut : (s t rest : List ℕ) → T (no_bar t) → cut_after s (t ++ (124 ∷ rest)) ≡ (s ++ t) ∷ cut_at_bars rest
unfolding cut_after
no_bar_cut s [] rest h = ap (λ (w : List ℕ). w ∷ cut_at_bars rest) (sym (append-nil s))
no_bar_cut s (b ∷ t) rest h =
    by (eqb b 124) refl (and_l (not (eqb b 124)) (no_bar t) h)
    ∙ no_bar_cut (s ++ (b ∷ [])) t rest (and_r (not (eqb b 124)) (no_bar t) h)
    ∙ ap (λ (w : List ℕ). w ∷ cut_at_bars rest) (append_assoc s (b ∷ []) t)
  where
    by : (c : Bool) → eqb b 124 ≡ c → T (not c)
        → cond c (s ∷ cut_at_bars (t ++ (124 ∷ rest))) (cut_after (s ++ (b ∷ [])) (t ++ (124 ∷ rest)))
        ≡ cut_after (s ++ (b ∷ [])) (t ++ (124 ∷ rest))
    by true e g = absurd g
    by false e g = refl

last_cut : (s t : List ℕ) → T (no_bar t) → cut_after s t ≡ (s ++ t) ∷ []
unfolding cut_after
last_cut s [] h = ap (λ (w : List ℕ). w ∷ []) (sym (append-nil s))
last_cut s (b ∷ t) h =
    by (eqb b 124) refl (and_l (not (eqb b 124)) (no_bar t) h)
    ∙ last_cut (s ++ (b ∷ [])) t (and_r (not (eqb b 124)) (no_bar t) h)
    ∙ ap (λ (w : List ℕ). w ∷ []) (append_assoc s (b ∷ []) t)
  where
    by : (c : Bool) → eqb b 124 ≡ c → T (not c) → cond c (s ∷ cut_at_bars t) (cut_after (s ++ (b ∷ [])) t) ≡ cut_after (s ++ (b ∷ [])) t
    by true e g = absurd g
    by false e g = refl

pub cut_into : (t : List ℕ) (ts : List (List ℕ)) → T (no_bars (t ∷ ts)) → cut_at_bars (with_bars (t ∷ ts)) ≡ t ∷ ts
unfolding with_bars
cut_into t [] h = last_cut [] t (and_l (no_bar t) true h)
cut_into t (s ∷ ts) h =
    no_bar_cut [] t (with_bars (s ∷ ts)) (and_l (no_bar t) (no_bars (s ∷ ts)) h)
    ∙ ap (λ (k : List (List ℕ)). t ∷ k) (cut_into s ts (and_r (no_bar t) (no_bars (s ∷ ts)) h))
