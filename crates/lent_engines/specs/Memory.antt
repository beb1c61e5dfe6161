-- The engine in lent memory (document 02, Paper 10), as C, Rust and the card program lend it: a list of numbers and a
-- list of counts. Lists of zeros hold an engine with no job, none served.
use Rattle.std.specs.Prelude.{false, not, List, [], ◌∷◌, ◌++◌, ℕ, ◌+◌, ◌*◌, eqb, take, drop, get_or, Float}
use Rattle.jobs.specs.declared.Job.{Job}
use Rattle.lent_jobs.specs.Memory.{job_numbers_length, job_counts_length, count_at, flag, job_in}
use Rattle.engines.specs.declared.Screens.{Screens}
use Rattle.engines.specs.declared.Engine.{Engine}

-- the lengths of the two lists: the numbers of eight jobs; and for each screen whether it holds a job, the screen
-- served last, and the counts of eight jobs
abbrev pub engine_numbers_length : ℕ
engine_numbers_length = 8 * job_numbers_length

abbrev pub engine_counts_length : ℕ
engine_counts_length = 9 + 8 * job_counts_length

abbrev pub eight : {A : Type 0} → (ℕ → A) → List A
eight f = f 0 ∷ f 1 ∷ f 2 ∷ f 3 ∷ f 4 ∷ f 5 ∷ f 6 ∷ f 7 ∷ []

-- the screens as counts: for each screen 1 where it holds a job, else 0; then the screen served last
abbrev pub screen_counts : Screens → List ℕ
screen_counts screens = eight (λ i. flag (get_or screens.held i false)) ++ (screens.last ∷ [])

unfoldable pub screens_in : List ℕ → Screens
screens_in counts = record { held = eight (λ i. not (eqb (count_at counts i) 0)); last = count_at counts 8 }

-- the screens where none holds a job and none was served
abbrev pub no_screens : Screens
no_screens = record { held = eight (λ i. false); last = 0 }

-- l with p in the place of its n elements from place a on
abbrev pub put : {A : Type 0} → ℕ → ℕ → List A → List A → List A
put a n l p = take a l ++ (p ++ drop (a + n) l)

-- the numbers and the counts of the job at a place, 0 to 7, and the job that they hold
abbrev pub numbers_at : List Float → ℕ → List Float
numbers_at numbers place = take job_numbers_length (drop (place * job_numbers_length) numbers)

abbrev pub counts_at : List ℕ → ℕ → List ℕ
counts_at counts place = take job_counts_length (drop (9 + place * job_counts_length) counts)

unfoldable pub job_in_at : List Float → List ℕ → ℕ → Job
job_in_at numbers counts place = job_in (numbers_at numbers place) (counts_at counts place)

unfoldable pub engine_in : List Float → List ℕ → Engine
engine_in numbers counts = record { screens = screens_in counts; jobs = eight (job_in_at numbers counts) }
