-- Where reading stands behind a part, in the code and in the definition: a part that was read had a beginning that was read, and at the
-- end of a form the numbers and figures of its parts are those of the readings behind them. Assumes nothing.
use mathlib.Core.Bool.{Bool, true, false}
use mathlib.Core.List.{List, [], ◌∷◌}
use mathlib.Core.Path.{◌≡◌, refl, sym, ap, ap₂, subst, ◌∙◌}
use Prim.Native.Nat.{ℕ, zero, suc, ◌≤◌}
use native.Mathlib.Omega.{arith}
use lib.ListN.{length, take, drop}
use lib.Seq.{length-take-le}
use lib.Ieee.{Float}
use Rattle.refusals.specs.declared.Refusal.TheVariants.{NoForm as no_form, NoFigure as no_figure}
use Rattle.tokens.specs.Tokens.{line_bytes, tokens}
use Rattle.templates.specs.declared.Cursor.{Cursor}
use Rattle.templates.specs.Matching.{Reading, failed, reading, pick, take_text, take_times, take_each, while_fits, or_else, numbered, first_of}
use Rattle.templates.specs.Matching.{optional}
use Rattle.templates.specs.Cursors.{taken_before, reading_at, Room, Takes, line_start}
use Rattle.templates.proofs.Choices.{fits, fits_at}
use Rattle.templates.proofs.Repeats.{tokens_failed}
use Rattle.reading.specs.declared.Asked.{Asked}
use Rattle.reading.specs.declared.Line.{Line}
use Rattle.reading.specs.Parts.{number_in, figures_in, end_in, take_planform, take_section, take_tab, take_fillet, take_density}
use Rattle.reading.specs.Lines.{refused_read, start, ended}
use Rattle.reading.specs.Reads.{refused_line, Reads, either, at_end, end_of}

-- ---- a reading that failed stays so
abbrev pub Strict : (Reading → Reading) → Type 0
Strict step = step failed ≡ failed

pub text_strict : (template : List ℕ) → Strict (take_text template)
unfolding take_text
text_strict template = tokens_failed (tokens template)

first_strict : (templates : List (List ℕ)) (k : ℕ) → first_of k templates failed ≡ failed
unfolding first_of
first_strict [] k = refl
first_strict (template ∷ templates) k =
    ap (λ (r : Reading). or_else (numbered k r) (first_of (suc k) templates failed)) (text_strict template) ∙ first_strict templates (suc k)

optional_strict : (templates : List (List ℕ)) → Strict (optional templates)
optional_strict templates = ap (λ (r : Reading). or_else r failed) (first_strict templates 1)

times_strict : (n : ℕ) (step : Reading → Reading) → Strict step → take_times n step failed ≡ failed
unfolding take_times
times_strict zero step e = refl
times_strict (suc n) step e = ap (λ (r : Reading). while_fits r failed (take_times n step)) e

pub each_strict : (template : List ℕ) → Strict (take_each (take_text template))
each_strict template = times_strict line_bytes (take_text template) (text_strict template)

pub planform_strict : Strict take_planform
unfolding take_planform
planform_strict = first_strict _ 1

pub section_strict : Strict take_section
unfolding take_section
section_strict = first_strict _ 1

pub tab_strict : Strict take_tab
unfolding take_tab
tab_strict = optional_strict _

pub fillet_strict : Strict take_fillet
unfolding take_fillet
fillet_strict = optional_strict _

pub density_strict : Strict take_density
unfolding take_density
density_strict = first_strict _ 1

-- ---- where reading stands

-- the reading behind a part, as the code keeps it
pub record Stands (line : List ℕ) (v : List Float) (c : Cursor) (r : Reading) : Type 0 where
  pub is : reading_at line v c ≡ r
  pub room : Room line v c

-- all of a cursor's figures are there
pub few : (line : List ℕ) (v : List Float) (c : Cursor) → Room line v c → length (take c.figures v) ≡ c.figures
few line v c m = let a = m.short in let b = m.room in let d = m.within in let e = m.few in length-take-le c.figures v (omega arith)

pub at_start : (line : List ℕ) (v : List Float) (c : Cursor) → c ≡ line_start → Room line v c → Stands line v c (start line)
at_start line v c e m = record { is = ap (reading_at line v) e; room = m }

module _ (line : List ℕ) {v w : List Float} {c d : Cursor} (step : Reading → Reading) (o : Takes step line v w c d) where
  -- on from there
  pub on : {r : Reading} → Stands line v c r → Stands line w d (step r)
  on s = record { is = o.is ∙ ap step s.is; room = o.room }

  -- what was read had a beginning
  pub was : Strict step → d.ok ≡ true → c.ok ≡ true
  was strict e = by c.ok refl
    where
      by : (t : Bool) → c.ok ≡ t → c.ok ≡ true
      by true h = h
      by false h =
          let f : reading_at line v c ≡ failed =
          ap (λ (b : Bool). pick b (reading (tokens (drop c.at line)) (taken_before v c)) failed) h in
          let g : true ≡ false = sym e ∙ sym (fits_at line w d) ∙ ap fits (o.is ∙ ap step f ∙ strict) in
          absurd (let z : ◌≡◌ {A = ℕ} 0 1 = cc in let y : ⊥ = omega arith in y)

module _ (line : List ℕ) {v : List Float} {c : Cursor} {r : Reading} (s : Stands line v c r) (ok : c.ok ≡ true) where
  goes : r ≡ reading (tokens (drop c.at line)) (taken_before v c)
  goes = sym s.is ∙ ap (λ (t : Bool). pick t (reading (tokens (drop c.at line)) (taken_before v c)) failed) ok

  pub number_is : c.number ≡ number_in r
  number_is = sym (ap number_in goes)

  pub figures_are : take c.figures v ≡ figures_in r
  figures_are = sym (ap figures_in goes)

  pub end_is : c.figures ≡ end_in r
  end_is = sym (few line v c s.room) ∙ ap length figures_are

-- ---- the end of a form
module _ (line : List ℕ) (v : List Float) (c : Cursor) (m : Room line v c) (asked meant : Asked) (same : c.ok ≡ true → asked ≡ meant) where
  told : (ok : Bool) → c.ok ≡ ok → (ts : List (List ℕ)) (spoiled : Bool)
      → Reads v (either ok (at_end ts (either spoiled (refused_line no_figure) (record { asked = asked; figures = c.figures })))
      (refused_line no_form))
      (ended (pick ok (reading ts (record { figures = take c.figures v; number = c.number; spoiled = spoiled })) failed) meant)
  told false e ts spoiled = record { asked = refl; count = refl; figures = refl }
  told true e [] true = record { asked = refl; count = refl; figures = refl }
  told true e [] false = record { asked = same e; count = sym (few line v c m); figures = refl }
  told true e (w ∷ ts) spoiled = record { asked = refl; count = refl; figures = refl }

  pub ends : (q : Line) {r : Reading} → q ≡ end_of line c asked → Stands line v c r → Reads v q (ended r meant)
  ends q {r} e s =
      subst (λ (x : Line). Reads v x (ended r meant)) (sym e)
      (subst (λ (x : Reading). Reads v (end_of line c asked) (ended x meant)) s.is
      (told c.ok refl (tokens (drop c.at line)) c.spoiled))

-- what is no form is refused
pub no_form_lem : (v : List Float) {q : Line} → q ≡ refused_line no_form → Reads v q (refused_read no_form)
no_form_lem v e = subst (λ (x : Line). Reads v x (refused_read no_form)) (sym e) (record { asked = refl; count = refl; figures = refl })

pub start_room : (line : List ℕ) (v : List Float) (c : Cursor) → c ≡ line_start → length line ≤ line_bytes → length line ≤ length v
    → Room line v c
start_room line v c e a b = subst (Room line v) (sym e) (record { short = a; room = b; within = omega arith; few = omega arith })

-- ---- the forms

-- in one text
module _ (line template : List ℕ) {v w : List Float} {c e : Cursor} (s : c ≡ line_start) (m : Room line v c)
    (o : Takes (take_text template) line v w c e) where
  abbrev Whole' : Reading
  Whole' = take_text template (start line)

  stood : Stands line w e Whole'
  stood = on line (take_text template) o (at_start line v c s m)

  pub whole_ends : (F : ℕ → List Float → Asked) {asked : Asked} {q : Line} → asked ≡ F e.number (take e.figures w)
      → q ≡ end_of line e asked
      → Reads w q (ended Whole' (F (number_in Whole') (figures_in Whole')))
  whole_ends F a f =
      ends line w e o.room _ _ (λ ok. a ∙ ap₂ F (number_is line stood ok) (figures_are line stood ok)) _ f stood

-- a part between two texts
module _ (line head tail : List ℕ) {v₀ v₁ v₂ v₃ : List Float} {c h p e : Cursor} (part : Reading → Reading) (strict : Strict part)
    (s : c ≡ line_start) (m : Room line v₀ c)
    (o₁ : Takes (take_text head) line v₀ v₁ c h) (o₂ : Takes part line v₁ v₂ h p) (o₃ : Takes (take_text tail) line v₂ v₃ p e) where
  abbrev Head' : Reading
  Head' = take_text head (start line)

  abbrev Part' : Reading
  Part' = part Head'

  abbrev All' : Reading
  All' = take_text tail Part'

  s₁ : Stands line v₁ h Head'
  s₁ = on line (take_text head) o₁ (at_start line v₀ c s m)

  s₂ : Stands line v₂ p Part'
  s₂ = on line part o₂ s₁

  s₃ : Stands line v₃ e All'
  s₃ = on line (take_text tail) o₃ s₂

  module _ (ok : e.ok ≡ true) where
    part_ok : p.ok ≡ true
    part_ok = was line (take_text tail) o₃ (text_strict tail) ok

    head_ok : h.ok ≡ true
    head_ok = was line part o₂ strict part_ok

  pub parted_ends : (F : ℕ → ℕ → ℕ → List Float → Asked) {asked : Asked} {q : Line}
      → asked ≡ F h.number p.number p.figures (take e.figures v₃)
      → q ≡ end_of line e asked → Reads v₃ q (ended All' (F (number_in Head') (number_in Part') (end_in Part') (figures_in All')))
  parted_ends F a f = ends line v₃ e o₃.room _ _ (λ ok. a ∙ same ok) _ f s₃
    where
      same : e.ok ≡ true → F h.number p.number p.figures (take e.figures v₃)
          ≡ F (number_in Head') (number_in Part') (end_in Part') (figures_in All')
      same ok =
          ap₂ (λ (i j : ℕ). F i j p.figures (take e.figures v₃)) (number_is line s₁ (head_ok ok)) (number_is line s₂ (part_ok ok))
          ∙ ap₂ (λ (k : ℕ) (l : List Float). F (number_in Head') (number_in Part') k l) (end_is line s₂ (part_ok ok))
          (figures_are line s₃ ok)

  -- the same, of parts that were kept behind the head
  pub kept_ends : {A : Type 0} (parts : A) (parts_of : Reading → A) → (p.ok ≡ true → parts ≡ parts_of (reading_at line v₁ h))
      → (F : ℕ → A → List Float → Asked) {asked : Asked} {q : Line} → asked ≡ F h.number parts (take e.figures v₃)
      → q ≡ end_of line e asked → Reads v₃ q (ended All' (F (number_in Head') (parts_of Head') (figures_in All')))
  kept_ends {A} parts parts_of kept F a f = ends line v₃ e o₃.room _ _ (λ ok. a ∙ same ok) _ f s₃
    where
      same : e.ok ≡ true → F h.number parts (take e.figures v₃) ≡ F (number_in Head') (parts_of Head') (figures_in All')
      same ok =
          ap₂ (λ (i : ℕ) (l : List Float). F i parts l) (number_is line s₁ (head_ok ok)) (figures_are line s₃ ok)
          ∙ ap (λ (x : A). F (number_in Head') x (figures_in All')) (kept (part_ok ok) ∙ ap parts_of s₁.is)

-- one part alone, whose own parts were kept
module _ (line : List ℕ) {v w : List Float} {c e : Cursor} (part : Reading → Reading) (s : c ≡ line_start) (m : Room line v c)
    (o : Takes part line v w c e) where
  begun : Stands line v c (start line)
  begun = at_start line v c s m

  read : Stands line w e (part (start line))
  read = on line part o begun

  pub alone_ends : {A : Type 0} (parts : A) (parts_of : Reading → A) → (e.ok ≡ true → parts ≡ parts_of (reading_at line v c))
      → (F : A → List Float → Asked) {asked : Asked} {q : Line} → asked ≡ F parts (take e.figures w)
      → q ≡ end_of line e asked → Reads w q (ended (part (start line)) (F (parts_of (start line)) (figures_in (part (start line)))))
  alone_ends {A} parts parts_of kept F a f =
      ends line w e o.room _ _
      (λ ok. a ∙ ap₂ (λ (x : A) (l : List Float). F x l) (kept ok ∙ ap parts_of begun.is) (figures_are line read ok)) _ f read
