-- `lent_jobs::write_over` meets its contract: the part from the place on is the list written. Assumes nothing.
use mathlib.Core.Path.{refl}
use native.Mathlib.Omega.{arith}
use Rattle.std.proofs.lemmas.Slice.{put_mid-paste}
use Rattle.lent_jobs.proofs.write_over.Goals as goal

pub returns : goal.returns
returns g c = put_mid-paste _ _ _ _ _ _ c.copy_from_slice.ensures.after (omega arith) refl
