-- The engine that lists hold: one job and the screens written, and what a call leaves of it. Assumes nothing.
use mathlib.Core.Path.{◌≡◌, refl, sym, ap, ap₂, subst, ◌∙◌}
use mathlib.Core.Bool.{Bool, true, false, not}
use mathlib.Core.List.{List, ◌++◌, append-nil}
use Prim.Native.Nat.{ℕ, ◌+◌, ◌-◌, ◌*◌, ◌≤◌, ◌<◌}
use native.Mathlib.Omega.{arith}
use borrow.Author.Tests.{ltb-true, ltb-false}
use lib.Dec.{eqb, ltb}
use lib.ListN.{length, take, drop, length-drop, drop_of_length-le}
use lib.Seq.{get_or-take, get_or-set_same, drop-append-add, drop-drop, length-take-le}
use lib.Ieee.{Float}
use borrow.Rule.Slice.PartMut.{put_mid, Post-is}
use Rattle.jobs.specs.declared.Job.{Job}
use Rattle.lent_jobs.specs.Memory.{job_numbers_length, job_counts_length, count_at, numbers_of, counts_of, job_in}
use Rattle.lent_jobs.specs.Lent.{Holds as HoldsJob}
use Rattle.engines.specs.declared.Screens.{Screens}
use Rattle.engines.specs.declared.Engine.{Engine}
use Rattle.engines.specs.NoJob.{no_job}
use Rattle.engines.specs.Engines.{job_at, with_job}
use Rattle.lent_engines.specs.Memory.{engine_numbers_length, engine_counts_length, eight, screen_counts, screens_in, put, numbers_at, counts_at, job_in_at}
use Rattle.lent_engines.specs.Memory.{engine_in}
use Rattle.lent_engines.specs.Lent.{Room, lists, WritesScreens, WritesAt}
use Rattle.lent_engines.proofs.Eight.{at_eight, eight_ext, eight_set}
use Rattle.lent_engines.proofs.Parts.{put_there, put_take, put_drop, part_before, part_behind}

pub screens_of : (numbers : List Float) (counts : List ℕ) → (engine_in numbers counts).screens ≡ screens_in counts
unfolding engine_in
screens_of numbers counts = refl

pub job_of : (numbers : List Float) (counts : List ℕ) (place : ℕ) → place < 8
    → job_at (engine_in numbers counts) place ≡ job_in_at numbers counts place
unfolding engine_in
job_of numbers counts place h = at_eight no_job (job_in_at numbers counts) place h

-- nine counts are read, and no others
screens_first : (counts : List ℕ) → screens_in counts ≡ screens_in (take 9 counts)
unfolding screens_in
screens_first counts =
    ap₂ (λ (held : List Bool) (last : ℕ). record { held = held; last = last })
    (eight_ext false (λ i. not (eqb (count_at counts i) 0)) (λ i. not (eqb (count_at (take 9 counts) i) 0))
    (λ i k. ap (λ (n : ℕ). not (eqb n 0)) (sym (get_or-take 9 counts i 0 (omega arith)))))
    (sym (get_or-take 9 counts 8 0 (omega arith)))

-- a place beside another one
data Beside (i j : ℕ) : Type 0 where
  before : j < i → Beside i j
  behind : i < j → Beside i j

beside : (i j : ℕ) → (j ≡ i → ⊥) → (b : Bool) → ltb j i ≡ b → Beside i j
beside i j other true e = before (ltb-true j i e)
beside i j other false e = behind (omega (arith, ltb-false j i e, other))

counts_length : (screens : Screens) (counts counts₁ : List ℕ) → 9 ≤ length counts → WritesScreens screens counts counts₁
    → length counts₁ ≡ length counts
counts_length screens counts counts₁ room written = ap length written.counts_are ∙ simp length-drop (omega arith)

module _ (numbers : List Float) (counts counts₁ : List ℕ) (place : ℕ) (screens : Screens) (job : Job) (p : List Float) (q : List ℕ) where
  module _ (room : Room numbers counts) (below : place < 8) (written : WritesScreens screens counts counts₁)
      (length_p : length p ≡ job_numbers_length) (length_q : length q ≡ job_counts_length) where
    abbrev numbers₂ : List Float
    numbers₂ = put (place * job_numbers_length) job_numbers_length numbers p

    abbrev counts₂ : List ℕ
    counts₂ = put (9 + place * job_counts_length) job_counts_length counts₁ q

    fits_numbers : place * job_numbers_length + job_numbers_length ≤ length numbers
    fits_numbers = omega arith

    fits_counts : (9 + place * job_counts_length) + job_counts_length ≤ length counts₁
    fits_counts = omega (arith, counts_length screens counts counts₁ (omega arith) written)

    other_numbers : (j : ℕ) → Beside place j → numbers_at numbers₂ j ≡ numbers_at numbers j
    other_numbers j (before h) = part_before (place * job_numbers_length) job_numbers_length numbers p fits_numbers length_p
        (j * job_numbers_length) job_numbers_length
        (omega arith)
    other_numbers j (behind h) = part_behind (place * job_numbers_length) job_numbers_length numbers p fits_numbers length_p
        (j * job_numbers_length) job_numbers_length
        (omega arith)

    behind_screens : (m : ℕ) → drop (9 + m) counts₁ ≡ drop (9 + m) counts
    behind_screens m =
        ap (drop (9 + m)) written.counts_are ∙ drop-append-add (screen_counts screens) (drop 9 counts) m ∙ drop-drop m 9 counts

    other_counts : (j : ℕ) → Beside place j → counts_at counts₂ j ≡ counts_at counts j
    other_counts j (before h) =
        part_before (9 + place * job_counts_length) job_counts_length counts₁ q fits_counts length_q (9 + j * job_counts_length)
        job_counts_length (omega arith)
        ∙ ap (take job_counts_length) (behind_screens (j * job_counts_length))
    other_counts j (behind h) =
        part_behind (9 + place * job_counts_length) job_counts_length counts₁ q fits_counts length_q (9 + j * job_counts_length)
        job_counts_length (omega arith)
        ∙ ap (take job_counts_length) (behind_screens (j * job_counts_length))

    there : job_in p q ≡ job → job_in_at numbers₂ counts₂ place ≡ job
    unfolding job_in_at
    there e =
        ap₂ job_in (put_there (place * job_numbers_length) job_numbers_length numbers p fits_numbers length_p)
        (put_there (9 + place * job_counts_length) job_counts_length counts₁ q fits_counts length_q) ∙ e

    other : (j : ℕ) → j < 8 → (j ≡ place → ⊥) → job_in_at numbers₂ counts₂ j ≡ job_in_at numbers counts j
    unfolding job_in_at
    other j h o = let at = beside place j o _ refl in ap₂ job_in (other_numbers j at) (other_counts j at)

    screens_there : screens_in counts₂ ≡ screens
    screens_there =
        screens_first counts₂
        ∙ ap screens_in (put_take (9 + place * job_counts_length) job_counts_length counts₁ q fits_counts length_q 9 (omega arith))
        ∙ sym (screens_first counts₁)
        ∙ written.held

    -- the job that a call left at its place is the one that it put there
    job_there : job_at (with_job (engine_in numbers counts) place screens job) place ≡ job
    unfolding engine_in
    job_there = get_or-set_same (eight (job_in_at numbers counts)) place job no_job below

    pub engine_written : job_in p q ≡ job → p ≡ numbers_of job → q ≡ counts_of job
        → WritesAt (with_job (engine_in numbers counts) place screens job) place (lists numbers counts) (lists numbers₂ counts₂)
    unfolding engine_in
    engine_written e p-is q-is =
        record {
          lists_are =
              ap₂ lists
              (ap (put (place * job_numbers_length) job_numbers_length numbers) (p-is ∙ ap numbers_of (sym job_there)))
              (ap₂ (put (9 + place * job_counts_length) job_counts_length) written.counts_are (q-is ∙ ap counts_of (sym job_there)));
          held =
              ap₂ (λ (s : Screens) (jobs : List Job). record { screens = s; jobs = jobs }) screens_there
              (eight_set no_job (job_in_at numbers counts) (job_in_at numbers₂ counts₂) place job below (there e) other);
          numbers_beyond =
              put_drop (place * job_numbers_length) job_numbers_length numbers p fits_numbers length_p engine_numbers_length (omega arith);
          counts_beyond =
              put_drop (9 + place * job_counts_length) job_counts_length counts₁ q fits_counts length_q engine_counts_length (omega arith)
              ∙ behind_screens (8 * job_counts_length);
        }

-- ---- the parts as the code cuts them

part_numbers : (place : ℕ) → place * job_numbers_length + job_numbers_length - place * job_numbers_length ≡ job_numbers_length
part_numbers place = omega arith

part_counts : (place : ℕ) → 9 + place * job_counts_length + job_counts_length - (9 + place * job_counts_length) ≡ job_counts_length
part_counts place = omega arith

part_length : {A : Type 0} (a n k : ℕ) (l : List A) → k ≡ n → a + n ≤ length l → length (take k (drop a l)) ≡ n
part_length a n k l e h = length-take-le k (drop a l) (simp length-drop (omega arith)) ∙ e

pub numbers_part_lem : (numbers : List Float) (place : ℕ) → engine_numbers_length ≤ length numbers → place < 8
    → length (take (place * job_numbers_length + job_numbers_length - place * job_numbers_length)
    (drop (place * job_numbers_length) numbers)) ≡ job_numbers_length
numbers_part_lem numbers place room below =
    part_length (place * job_numbers_length) job_numbers_length _ numbers (part_numbers place) (omega arith)

pub counts_part_lem : (screens : Screens) (counts counts₁ : List ℕ) (place : ℕ) → engine_counts_length ≤ length counts → place < 8
    → WritesScreens screens counts counts₁
    → length (take (9 + place * job_counts_length + job_counts_length - (9 + place * job_counts_length))
    (drop (9 + place * job_counts_length) counts₁)) ≡ job_counts_length
counts_part_lem screens counts counts₁ place room below written =
    let same = counts_length screens counts counts₁ (omega arith) written in
    part_length (9 + place * job_counts_length) job_counts_length _ counts₁ (part_counts place) (omega arith)

pub job_read : (numbers : List Float) (counts : List ℕ) (place : ℕ) → place < 8 → (r : Job)
    → r ≡ job_in
    (take (place * job_numbers_length + job_numbers_length - place * job_numbers_length) (drop (place * job_numbers_length) numbers))
    (take (9 + place * job_counts_length + job_counts_length - (9 + place * job_counts_length))
    (drop (9 + place * job_counts_length) counts))
    → r ≡ job_at (engine_in numbers counts) place
unfolding job_in_at
job_read numbers counts place h r e =
    e
    ∙ ap₂ job_in (ap (λ (n : ℕ). take n (drop (place * job_numbers_length) numbers)) (part_numbers place))
    (ap (λ (n : ℕ). take n (drop (9 + place * job_counts_length) counts)) (part_counts place))
    ∙ sym (job_of numbers counts place h)

put_is : {A : Type 0} (a b : ℕ) (l p : List A) → a ≤ b → put_mid a (b - a) l p ≡ take a l ++ (p ++ drop b l)
put_is {A} a b l p h = ap (λ (rest : List A). take a l ++ (p ++ rest)) (Post-is a b l h)

-- a job's part is written whole: what the part held does not matter
whole : {A : Type 0} (l rest p : List A) (n : ℕ) → length rest ≤ n → p ≡ l ++ drop n rest → p ≡ l
whole {A} l rest p n h e = e ∙ ap (λ (r : List A). l ++ r) (drop_of_length-le rest h) ∙ append-nil l

module _ (numbers : List Float) (counts counts₁ : List ℕ) (place : ℕ) (screens : Screens) (job : Job) (p : List Float) (q : List ℕ) where
  abbrev engine' : Engine
  engine' = with_job (engine_in numbers counts) place screens job

  abbrev numbers_part : List Float
  numbers_part =
      take (place * job_numbers_length + job_numbers_length - place * job_numbers_length) (drop (place * job_numbers_length) numbers)

  abbrev counts_part : List ℕ
  counts_part = take (9 + place * job_counts_length + job_counts_length - (9 + place * job_counts_length))
      (drop (9 + place * job_counts_length) counts₁)

  abbrev counts₂' : List ℕ
  counts₂' = put_mid (9 + place * job_counts_length) (9 + place * job_counts_length + job_counts_length - (9 + place * job_counts_length))
      counts₁ q

  pub written_back : Room numbers counts → place < 8 → WritesScreens screens counts counts₁ → length p ≡ job_numbers_length
      → length q ≡ job_counts_length
      → HoldsJob job numbers_part counts_part p q
      → WritesAt (with_job (engine_in numbers counts) place screens job) place (lists numbers counts)
      (lists (put_mid (place * job_numbers_length) (place * job_numbers_length + job_numbers_length - place * job_numbers_length) numbers p)
      (put_mid (9 + place * job_counts_length) (9 + place * job_counts_length + job_counts_length - (9 + place * job_counts_length)) counts₁
      q))
  written_back room below written h k holds =
      let n : place * job_numbers_length ≤ place * job_numbers_length + job_numbers_length = omega arith in
      let m : 9 + place * job_counts_length ≤ 9 + place * job_counts_length + job_counts_length = omega arith in
      let few : length numbers_part ≤ job_numbers_length = omega (arith, numbers_part_lem numbers place room.0 below) in
      let some : length counts_part ≤ job_counts_length =
      omega (arith, counts_part_lem screens counts counts₁ place room.1 below written) in
      subst (λ (l : List Float). WritesAt engine' place (lists numbers counts) (lists l counts₂'))
      (sym (put_is (place * job_numbers_length) (place * job_numbers_length + job_numbers_length) numbers p n))
      (subst (λ (l : List ℕ). WritesAt engine' place (lists numbers counts)
      (lists (put (place * job_numbers_length) job_numbers_length numbers p) l))
      (sym (put_is (9 + place * job_counts_length) (9 + place * job_counts_length + job_counts_length) counts₁ q m))
      (engine_written numbers counts counts₁ place screens job p q room below written h k holds.held
      (whole (numbers_of job) numbers_part p job_numbers_length few holds.numbers_are)
      (whole (counts_of job) counts_part q job_counts_length some holds.counts_are)))
