-- What owning a job tells of it: how long its lists are. Assumes nothing.
use mathlib.Core.Path.{◌≡◌}
use mathlib.Core.List.{List}
use lib.ListN.{length}
use mir.Val.{Val}
use denote.Laws.{Is}
use denote.Struct.Laws as LL
use Rattle.limits.specs.Limits.{outline_numbers}
use Rattle.bodies.specs.contracts.Body as B
use Rattle.bodies.proofs.Body.TheLaws as B'
use Rattle.bodies.specs.contracts.Tensor as T
use Rattle.bodies.proofs.Tensor.TheLaws as T'
use Rattle.figures.specs.contracts.Figures as F
use Rattle.figures.proofs.Figures.TheLaws as F'
use Rattle.halving.specs.contracts.Totals as S
use Rattle.halving.proofs.Totals.TheLaws as S'
use Rattle.jobs.specs.declared.Job.{Job}
use Rattle.jobs.specs.contracts.Job as J
use Rattle.jobs.proofs.Job.TheLaws as J'
use Rattle.jobs.proofs.Lengths.{outline_length}

-- its copy of the outline, its sums, and its answer's tensor
pub record Sized (job : Job) : Type 0 where
  pub outline : length job.points.numbers ≡ outline_numbers
  pub sums : length job.totals.value ≡ 7
  pub tensor : length job.outcome.body.inertia_kg_m2.0 ≡ 6

pub sized : (job : Job) (vals : List Val) → Is J.the_row job vals → Sized job
sized job vals is =
    let parts = LL.owed J.the_type J'.the_laws job vals is in
    let outcome = LL.owed F.the_type F'.the_laws job.outcome _ parts.1.1.1.1.1.1.0 in
    let totals = LL.owed S.the_type S'.the_laws job.totals _ parts.1.1.1.1.0 in
    let body = LL.owed B.the_type B'.the_laws job.outcome.body _ outcome.1.0 in
    let tensor = LL.owed T.the_type T'.the_laws job.outcome.body.inertia_kg_m2 _ body.1.1.0 in
    record {
      outline = outline_length job vals is;
      sums = totals.0.1.0.1;
      tensor = tensor.0.1.0.1;
    }
