-- `templates::take_text` meets its contract: what is left of the template, taken from where reading stands, is the whole. Assumes nothing.
use mathlib.Core.Bool.{Bool, true, false}
use mathlib.Core.List.{List, ◌∷◌, []}
use mathlib.Core.Path.{◌≡◌, refl, sym, ap, ◌∙◌}
use Prim.Native.Nat.{ℕ, ◌<◌}
use native.Mathlib.Omega.{arith}
use borrow.Author.Tests.{not-true}
use lib.ListN.{length, drop}
use lib.Ieee.{Float}
use Rattle.tokens.specs.Tokens.{tokens}
use Rattle.tokens.specs.Found.{part, IsFound}
use Rattle.tokens.specs.declared.TokenRange.{TokenRange}
use Rattle.tokens.proofs.Bytes.{at_end_lem}
use Rattle.templates.specs.Matching.{Reading, failed, reading, pick, same_bytes, take_one, take_figures, take_token, take_tokens, take_text}
use Rattle.templates.specs.Cursors.{taken_before, reading_at, Room, ReadsOn}
use Rattle.templates.specs.declared.Cursor.{Cursor}
use Rattle.templates.proofs.Steps.{letters_f, also_kept, as_is}
use Rattle.templates.proofs.Repeats.{tokens_failed}
use Rattle.templates.proofs.take_text.Goals as goal
use Rattle.templates.proofs.take_text.Invariants.{SoFar}

-- a token by whether it is `F..`
module _ (p : List ℕ) (r : Reading) (t : Bool) (e : t ≡ same_bytes p (70 ∷ 46 ∷ 46 ∷ [])) where
  figures_token : t ≡ true → take_token p r ≡ take_figures r
  unfolding take_token
  figures_token h = ap (λ (x : Bool). pick x (take_figures r) (take_one p r)) (ap (same_bytes p) letters_f ∙ sym e ∙ h)

  other_token : t ≡ false → take_token p r ≡ take_one p r
  unfolding take_token
  other_token h = ap (λ (x : Bool). pick x (take_figures r) (take_one p r)) (ap (same_bytes p) letters_f ∙ sym e ∙ h)

module _ (line template : List ℕ) (before : List Float) (c : Cursor) where
  start : Room line before c → SoFar line template before before c c 0
  unfolding take_text
  start m = record { place = omega arith; whole = refl; kept = refl; grows = omega arith; room = m; same = refl }

  module _ (between : List Float) (s : Cursor) (i : ℕ) (v : SoFar line template before between c s i) where
    ends : take_tokens (tokens (drop i template)) (reading_at line between s) ≡ reading_at line between s
        → ReadsOn line before between c s (take_text template (reading_at line before c))
    ends e = record { is = sym (v.whole ∙ e); kept = v.kept; grows = v.grows; room = v.room }

    all_taken : tokens (drop i template) ≡ [] → ReadsOn line before between c s (take_text template (reading_at line before c))
    unfolding take_tokens
    all_taken e = ends (ap (λ (ts : List (List ℕ)). take_tokens ts (reading_at line between s)) e)

    no_form_lem : s.ok ≡ false → ReadsOn line before between c s (take_text template (reading_at line before c))
    no_form_lem e =
        let r : reading_at line between s ≡ failed =
        ap (λ (t : Bool). pick t (reading (tokens (drop s.at line)) (taken_before between s)) failed) e in
        ends (ap (take_tokens (tokens (drop i template))) r ∙ tokens_failed (tokens (drop i template)) ∙ sym r)

    next : (after : List Float) (r : Cursor) (f : TokenRange) → IsFound template i f → f.from < f.to
        → ReadsOn line between after s r (take_token (part template f.from f.to) (reading_at line between s))
        → length after ≡ length between
        → SoFar line template before after c r f.to
    unfolding take_tokens
    next after r f is h o l =
        let g = v.grows in let k = o.grows in let m = v.same in
        record {
          place = is.within v.place;
          whole = v.whole ∙ ap (λ (ts : List (List ℕ)). take_tokens ts (reading_at line between s)) (is.first h)
              ∙ ap (take_tokens (tokens (drop f.to template))) (sym o.is);
          kept = also_kept before between after c.figures s.figures g v.kept o.kept;
          grows = omega arith;
          room = o.room;
          same = omega arith;
        }

pub loop-i-init : goal.loop-i-init
loop-i-init c = start c.args.line.now c.args.template.now c.args.values.now c.args.c c.requires

pub returns-then-not-s : goal.returns-then-not-s
returns-then-not-s c = no_form_lem _ _ _ _ _ _ _ c.loop-i.invariant (not-true _ c.if-not-s.true)

pub returns-then-to-from : goal.returns-then-to-from
returns-then-to-from c = all_taken _ _ _ _ _ _ _ c.loop-i.invariant
    (c.next_token-wanted.ensures.none c.if-to-from.true)

pub loop-i-smaller-then-figures : goal.loop-i-smaller-then-figures
loop-i-smaller-then-figures c =
    let w = c.next_token-wanted.ensures.within c.loop-i.invariant.place in
    let b = c.next_token-wanted.ensures.behind in
    omega arith

pub loop-i-preserved-then-figures : goal.loop-i-preserved-then-figures
loop-i-preserved-then-figures c =
    next _ _ _ _ _ _ _ c.loop-i.invariant _ _ _ c.next_token-wanted.ensures (omega arith)
    (as_is _ _ _ _ refl (figures_token _ _ _ c.same_bytes-figures.ensures c.if-figures.true) c.take_figures-s.ensures)
    c.take_figures-s.auto.values

pub loop-i-smaller : goal.loop-i-smaller
loop-i-smaller c =
    let w = c.next_token-wanted.ensures.within c.loop-i.invariant.place in
    let b = c.next_token-wanted.ensures.behind in
    omega arith

pub loop-i-preserved : goal.loop-i-preserved
loop-i-preserved c =
    next _ _ _ _ _ _ _ c.loop-i.invariant _ _ _ c.next_token-wanted.ensures (omega arith)
    (as_is _ _ _ _ refl (other_token _ _ _ c.same_bytes-figures.ensures c.if-figures.false) c.take_one-s.ensures)
    c.take_one-s.auto.values

pub returns : goal.returns
returns c = all_taken _ _ _ _ _ _ _ c.loop-i.invariant (at_end_lem _ _ c.loop-i-test.false)
