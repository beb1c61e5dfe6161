-- `jobs::count_below` meets its contract: the heights below h, counted. Assumes nothing.
use mathlib.Core.Path.{◌≡◌, ◌∙◌}
use lib.Ieee.{Float, lt}
use Rattle.std.specs.Prelude.{count_by}
use Rattle.std.proofs.Common.{rules}
use Rattle.std.proofs.iter.runs.Made.{chains}
use Rattle.jobs.proofs.Below.{counted}
use Rattle.jobs.proofs.count_below.Goals as goal

pub returns : goal.returns
returns c =
    let n : c.count.result ≡ count_by (λ (x : Float). lt x c.args.h) c.args.heights.now = search (rules, chains) in
    n ∙ counted c.args.h c.args.heights.now
