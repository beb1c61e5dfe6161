-- What a call on lent memory promises follows from what its parts did, or from a list that has no room. Assumes nothing.
use mathlib.Core.Path.{◌≡◌, refl, sym, ap, ◌∙◌}
use mathlib.Core.Bool.{Bool, true, false, true≢false, not, ◌&&◌}
use mathlib.Core.List.{List}
use Prim.Native.Nat.{ℕ, ◌≤◌, ◌<◌}
use borrow.Author.Tests.{le-leb, lt-leb, leb-true}
use lib.Dec.{leb}
use lib.ListN.{length, set}
use lib.Ieee.{Float}
use Rattle.std.specs.Prelude.{Option, Some, None}
use Rattle.refusals.specs.Calls.{CallOf}
use Rattle.refusals.proofs.Accepted.{both_true}
use Rattle.materials.specs.declared.Density.{Density}
use Rattle.fins.specs.declared.FinSet.{FinSet}
use Rattle.joins.specs.Flat.{with_body}
use Rattle.figures.specs.Numbered.{figure_counts}
use Rattle.jobs.specs.declared.JobProgress.{JobProgress}
use Rattle.jobs.specs.declared.Reply.{Reply}
use Rattle.jobs.specs.declared.Row.{Row}
use Rattle.lent_engines.specs.Memory.{engine_counts_length}
use Rattle.lent_engines.specs.Lent.{Lists, Clears}
use Rattle.lent_engines.proofs.Calls.{leaves_none}
use Rattle.screen_exports.specs.Calls.{MemoryKind, Effect, TellsReply, TellsRow, with_progress, no_form, asked_of_set, asked_of_density}
use Rattle.screen_exports.specs.Calls.{told_room, row_room, ReplyCall, RowCall, ProgressCall}
use Rattle.screen_exports.specs.JobCalls.{job_memory}
use Rattle.screen_exports.specs.EngineCalls.{engine_memory, clear_room, ClearCall}

-- ---- memory that no call changes is as it was

pub job_stays : (l : Lists) → job_memory.Leaves (job_memory.unchanged l) l l
job_stays l = record { numbers_are = refl; counts_are = refl; held = refl }

pub engine_stays : (l : Lists) → engine_memory.Leaves (engine_memory.unchanged l) l l
engine_stays l = leaves_none l

-- ---- what is known of the lists' lengths where there is room, and where there is none

pub enough : {m k n l : ℕ} → (leb m k && leb n l) ≡ true → (m ≤ k) × (n ≤ l)
enough {m} {k} {n} {l} h = let t = both_true (leb m k) (leb n l) h in (leb-true m k t.0, leb-true n l t.1)

not_true : (b : Bool) → not b ≡ true → b ≡ false
not_true true h = absurd (true≢false (sym h))
not_true false h = refl

not_false : (b : Bool) → not b ≡ false → b ≡ true
not_false true h = refl
not_false false h = absurd (true≢false h)

module _ {a b x y : Bool} (first : a ≡ x) (second : b ≡ y) where
  pub fits_not : not (a && b) ≡ true → (x && y) ≡ false
  fits_not h = rw (← first, ← second) (not_true (a && b) h)

  pub fits : not (a && b) ≡ false → (x && y) ≡ true
  fits h = rw (← first, ← second) (not_false (a && b) h)

  pub memory_fits : not (a && b) ≡ false → x ≡ true
  memory_fits h = (both_true x y (fits h)).0

  pub told_fits : not (a && b) ≡ false → y ≡ true
  told_fits h = (both_true x y (fits h)).1

-- ---- an engine is cleared

pub clear_refused : (counts : List ℕ) → length counts < engine_counts_length → ClearCall counts 18 counts
clear_refused counts few =
    let none : clear_room counts ≡ false = lt-leb engine_counts_length (length counts) few in
    record { returned = rw none; cleared = rw none; held = λ e. absurd (true≢false (sym e ∙ none)) }

pub clear_written : (counts counts' : List ℕ) → engine_counts_length ≤ length counts → Clears counts counts' → ClearCall counts 0 counts'
clear_written counts counts' enough w =
    let fits : clear_room counts ≡ true = le-leb engine_counts_length (length counts) enough in
    record { returned = rw fits; cleared = rw fits w.counts_are; held = λ e. w.held }

-- ---- a job's memory or an engine's

module _ {Change : Type 0} (memory : MemoryKind Change) (stays : (l : Lists) → memory.Leaves (memory.unchanged l) l l)
    (before : Lists) where
  -- a call that is replied to
  module _ {effect : Effect Change} {n : ℕ} {tells : List ℕ → Reply → List ℕ} {told : List ℕ} where
    pub reply_refused : told_room memory before n told ≡ false → ReplyCall memory before effect n tells told 18 before told
    reply_refused none = record { returned = rw none; counted = rw none; leaves = rw none (stays before) }

    pub reply_told : {done : Effect Change} {a : Reply} {r : ℕ} {after : Lists} {told' : List ℕ} → told_room memory before n told ≡ true →
        effect ≡ done → a ≡ done.reply → memory.Leaves done.change before after → TellsReply tells a told r told' →
        ReplyCall memory before effect n tells told r after told'
    reply_told fits is answered leaves t =
        record {
          returned = rw (fits, is, ← answered) t.returned;
          counted = rw (fits, is, ← answered) t.counted;
          leaves = rw (fits, is) leaves;
        }

  -- numbers that are read as those asked stand for a set or a density, or for none: no form, and the memory stays
  module _ {n : ℕ} {tells : List ℕ → Reply → List ℕ} {told : List ℕ} {asked read : Option FinSet} (ask : FinSet → Effect Change) where
    pub set_told : {a : Reply} {r : ℕ} {after : Lists} {told' : List ℕ} (set : FinSet) → told_room memory before n told ≡ true →
        read ≡ asked → read ≡ Some set → a ≡ (ask set).reply → memory.Leaves (ask set).change before after →
        TellsReply tells a told r told' → ReplyCall memory before (asked_of_set memory before asked ask) n tells told r after told'
    set_told set fits same known answered leaves t = reply_told fits (rw (← same, known)) answered leaves t

    pub no_set_told : {a : Reply} {r : ℕ} {told' : List ℕ} → told_room memory before n told ≡ true →
        read ≡ asked → read ≡ None → a ≡ (no_form memory before).reply → TellsReply tells a told r told' →
        ReplyCall memory before (asked_of_set memory before asked ask) n tells told r before told'
    no_set_told fits same none answered t = reply_told fits (rw (← same, none)) answered (stays before) t

  module _ {n : ℕ} {tells : List ℕ → Reply → List ℕ} {told : List ℕ} {asked read : Option Density} (ask : Density → Effect Change) where
    pub density_told : {a : Reply} {r : ℕ} {after : Lists} {told' : List ℕ} (density : Density) → told_room memory before n told ≡ true →
        read ≡ asked → read ≡ Some density → a ≡ (ask density).reply → memory.Leaves (ask density).change before after →
        TellsReply tells a told r told' → ReplyCall memory before (asked_of_density memory before asked ask) n tells told r after told'
    density_told density fits same known answered leaves t = reply_told fits (rw (← same, known)) answered leaves t

    pub no_density_told : {a : Reply} {r : ℕ} {told' : List ℕ} → told_room memory before n told ≡ true →
        read ≡ asked → read ≡ None → a ≡ (no_form memory before).reply → TellsReply tells a told r told' →
        ReplyCall memory before (asked_of_density memory before asked ask) n tells told r before told'
    no_density_told fits same none answered t = reply_told fits (rw (← same, none)) answered (stays before) t

  -- a step or a turn
  module _ {change : Change} {row : CallOf Row} {n : ℕ} {further : List ℕ → List ℕ} {scratch body : List Float} {told : List ℕ} where
    pub row_refused : row_room memory before body n told ≡ false →
        RowCall memory before change row n further scratch body told 18 before scratch body told
    row_refused none = record { returned = rw none; figures = rw none; counted = rw none; lent = rw none; leaves = rw none (stays before) }

    pub row_told : {found : Row} {r : ℕ} {after : Lists} {scratch' body' : List Float} {told' told'' : List ℕ} →
        row_room memory before body n told ≡ true → found ≡ row.answer → TellsRow found body told r body' told' →
        told'' ≡ further told' → scratch' ≡ row.leaves scratch → memory.Leaves change before after →
        RowCall memory before change row n further scratch body told r after scratch' body' told''
    row_told fits is t counted lent leaves =
        record {
          returned = rw fits (t.returned ∙ ap (λ (x : Row). x.number) is);
          figures = rw fits (t.figures ∙ ap (λ (x : Row). with_body body 0 x.figures.body) is);
          counted = rw fits (counted ∙ ap further (t.counted ∙ ap (λ (x : Row). figure_counts x.figures told) is));
          lent = rw fits lent;
          leaves = rw fits leaves;
        }

  -- how far a job is
  module _ {p : JobProgress} {told : List ℕ} where
    pub progress_refused : told_room memory before 4 told ≡ false → ProgressCall memory before p told 18 told
    progress_refused none = record { returned = rw none; counted = rw none }

    pub progress_told : {q : JobProgress} {told' : List ℕ} → told_room memory before 4 told ≡ true →
        q ≡ p → told' ≡ with_progress told q →
        ProgressCall memory before p told 0 told'
    progress_told fits e w = record { returned = rw fits; counted = rw fits (w ∙ ap (with_progress told) e) }
