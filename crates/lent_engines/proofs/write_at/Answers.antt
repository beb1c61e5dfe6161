-- `lent_engines::write_at` meets its contract: the screens, and a job's part of both lists. Assumes nothing.
use mathlib.Core.Path.{◌≡◌}
use native.Mathlib.Omega.{arith}
use lib.ListN.{length}
use Rattle.lent_jobs.specs.Memory.{job_numbers_length, job_counts_length}
use Rattle.lent_engines.proofs.Engines.{numbers_part_lem, counts_part_lem, written_back}
use Rattle.lent_engines.proofs.write_at.Goals as goal

pub returns : goal.returns
returns c = let place = c.args.place in
    let p : length c.write_job.new.numbers ≡ job_numbers_length =
    omega (arith, c.numbers-1.given, numbers_part_lem c.args.numbers.now place c.requires.0.0 c.requires.1) in
    let q : length c.write_job.new.counts ≡ job_counts_length =
    omega (arith, c.counts-2-1.given, counts_part_lem _ _ _ place c.requires.0.1 c.requires.1 c.write_screens.ensures)
    in
    written_back c.args.numbers.now c.args.counts.now _ place c.args.screens c.args.job c.write_job.new.numbers
    c.write_job.new.counts
    c.requires.0 c.requires.1 c.write_screens.ensures p q c.write_job.ensures
