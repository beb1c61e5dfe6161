-- What owning a job tells of it: how long its copy of the outline is. Assumes nothing.
use mathlib.Core.Path.{◌≡◌}
use mathlib.Core.List.{List}
use lib.ListN.{length}
use mir.Val.{Val}
use denote.Laws.{Is}
use denote.Struct.Laws as LL
use Rattle.limits.specs.Limits.{outline_numbers}
use Rattle.jobs.specs.declared.Job.{Job}
use Rattle.jobs.specs.contracts.Job as J
use Rattle.jobs.proofs.Job.TheLaws as J'
use Rattle.jobs.specs.contracts.Points as P
use Rattle.jobs.proofs.Points.TheLaws as P'

pub outline_length : (job : Job) (vals : List Val) → Is J.the_row job vals → length job.points.numbers ≡ outline_numbers
outline_length job vals is =
    let points = (LL.owed J.the_type J'.the_laws job vals is).1.0 in
    let numbers = (LL.owed P.the_type P'.the_laws job.points _ points).0 in
    numbers.1.0.1
