-- The words that save, appended one after another. Assumes nothing.
use mathlib.Core.List.{List, [], ◌∷◌, ◌++◌, append_assoc}
use mathlib.Core.Bool.{Bool, true, false, cond}
use mathlib.Core.Path.{◌≡◌, refl, sym, ap, subst, ◌∙◌}
use Prim.Native.Nat.{ℕ, ◌+◌, ◌-◌, ◌<◌, ◌≤◌}
use native.Mathlib.Omega.{arith}
use borrow.Author.Tests.{lt-ltb, le-ltb}
use lib.Dec.{ltb}
use lib.ListN.{length, take, drop, length-take, length-drop}
use Rattle.texts.specs.Appended.{Appended}
use Rattle.texts.proofs.Appending.{append_nil, nothing, then}
use Rattle.tokens.specs.Found.{part}
use Rattle.templates.specs.Matching.{cut_at_bars}
use Rattle.templates.specs.Cursors.{IsBarEnd}
use Rattle.explanations.specs.declared.Fault.{Fault}
use Rattle.explanations.specs.Endings.{saved, wanted_word, wanted_of}

module _ (fault : Fault) (endings start word : List ℕ) where
  pub not_wanted : (out : List ℕ) (n : ℕ) → saved fault (start ++ word) endings ≡ false
      → Appended out n (wanted_word fault endings start word) out n
  not_wanted out n e = rw e (nothing out n)

  pub is_wanted : {out between after : List ℕ} {n m r : ℕ} → saved fault (start ++ word) endings ≡ true → Appended out n (32 ∷ []) between m
      → Appended between m word after r
      → Appended out n (wanted_word fault endings start word) after r
  is_wanted {out} {between} {after} {n} {m} {r} e p q = rw e (then out between after n m r (32 ∷ []) word p q)

  pub few : length (wanted_word fault endings start word) ≤ length word + 1
  few = by (saved fault (start ++ word) endings)
    where
      by : (t : Bool) → length (cond t (32 ∷ word) []) ≤ length word + 1
      by true = omega arith
      by false = omega arith

pub part_length : (l : List ℕ) (i end : ℕ) → i ≤ end → end ≤ length l → length (part l i end) ≡ end - i
part_length l i end h g = let a = length-take (end - i) (drop i l) in let b = length-drop i l in omega (arith, a, b, h, g)

pub record Listing (out₀ : List ℕ) (n : ℕ) (trial₀ : List ℕ) (k : ℕ) (endings : List ℕ) (fault : Fault) (table out trial : List ℕ)
    (at i : ℕ) : Type 0 where
  pub place : i ≤ length table
  pub same_out : length out ≡ length out₀
  pub same_trial : length trial ≡ length trial₀
  pub kept : take k trial ≡ take k trial₀
  pub few_bytes : at ≤ n + i
  pub text : List ℕ
  pub put : Appended out₀ n text out at
  pub whole : wanted_of fault endings (take k trial₀) (cut_at_bars table)
      ≡ text ++ wanted_of fault endings (take k trial₀) (cut_at_bars (drop i table))

module _ (out₀ : List ℕ) (n : ℕ) (trial₀ : List ℕ) (k : ℕ) (endings : List ℕ) (fault : Fault) (table : List ℕ) where
  pub begins : Listing out₀ n trial₀ k endings fault table out₀ trial₀ n 0
  begins =
      record {
        place = omega arith;
        same_out = refl;
        same_trial = refl;
        kept = refl;
        few_bytes = omega arith;
        text = [];
        put = nothing out₀
            n;
        whole = refl;
      }

  module _ (out trial : List ℕ) (at i end : ℕ) (v : Listing out₀ n trial₀ k endings fault table out trial at i) (b : IsBarEnd table i end)
      (after trial' : List ℕ) (r : ℕ) (p : Appended out at (wanted_word fault endings (take k trial) (part table i end)) after r) where
    abbrev start : List ℕ
    start = take k trial₀

    abbrev this : List ℕ
    this = wanted_word fault endings start (part table i end)

    here : Appended out₀ n (v.text ++ this) after r
    here = then out₀ out after n at r v.text this v.put (rw v.kept at p)

    split : wanted_of fault endings start (cut_at_bars table)
        ≡ v.text ++ (this ++ wanted_of fault endings start (cond (ltb end (length table)) (cut_at_bars (drop (end + 1) table)) []))
    unfolding wanted_of
    split = v.whole ∙ ap (λ (ws : List (List ℕ)). v.text ++ wanted_of fault endings start ws) b.cut

    pub was_last : length table ≤ end → Appended out₀ n (wanted_of fault endings start (cut_at_bars table)) after r
    unfolding wanted_of
    was_last h =
        let e : wanted_of fault endings start (cut_at_bars table) ≡ v.text ++ this = split
        ∙ ap (λ (t : Bool). v.text ++ (this ++ wanted_of fault endings start (cond t (cut_at_bars (drop (end + 1) table)) [])))
        (le-ltb end (length table) h)
        ∙ ap (λ (t : List ℕ). v.text ++ t) (append_nil this) in
        rw e here

    pub next : end < length table → length after ≡ length out → length trial' ≡ length trial → take k trial' ≡ take k trial
        → Listing out₀ n trial₀ k endings fault table after trial' r (end + 1)
    next h l m q =
        let a = v.same_out in let c = v.same_trial in let f = v.few_bytes in
        let w = few fault endings start (part table i end) in let g = part_length table i end b.behind b.within in
        let o = b.behind in
        let ends = (rw v.kept at p).ends in
        record {
          place = omega arith;
          same_out = omega (arith, a, l);
          same_trial = omega (arith, c, m);
          kept = q ∙ v.kept;
          few_bytes = omega (arith, f, w, g, ends, o);
          text = v.text ++ this;
          put = here;
          whole =
              split
              ∙ ap (λ (t : Bool). v.text ++ (this ++ wanted_of fault endings start (cond t (cut_at_bars (drop (end + 1) table)) [])))
              (lt-ltb end (length table) h)
              ∙ sym (append_assoc v.text this (wanted_of fault endings start (cut_at_bars (drop (end + 1) table))));
        }

-- one text, and another behind it
pub also : {out a b : List ℕ} {n i r : ℕ} {x y : List ℕ} → Appended out n x a i → Appended a i y b r → Appended out n (x ++ y) b r
also {out} {a} {b} {n} {i} {r} {x} {y} p q = then out a b n i r x y p q

pub by_true : {out a : List ℕ} {n r : ℕ} {x : List ℕ} {t : Bool} (y : List ℕ) → t ≡ true → Appended out n x a r
    → Appended out n (cond t x y) a r
by_true y e p = rw e p

pub by_false : {out a : List ℕ} {n r : ℕ} {y : List ℕ} {t : Bool} (x : List ℕ) → t ≡ false → Appended out n y a r
    → Appended out n (cond t x y) a r
by_false x e p = rw e p

pub same_put : {out a : List ℕ} {n r : ℕ} {x y : List ℕ} → x ≡ y → Appended out n x a r → Appended out n y a r
same_put {out} {a} {n} {r} e p = subst (λ (t : List ℕ). Appended out n t a r) e p
