-- `reading::behind` meets its contract: the rest is cut no further than the end. Assumes nothing.
use mathlib.Core.Path.{ap, ◌∙◌}
use Prim.Native.Nat.{ℕ, ◌-◌}
use lib.ListN.{length, take, drop}
use Rattle.reading.proofs.Parts.{rest_part}
use Rattle.reading.proofs.behind.Goals as goal

pub returns : goal.returns
returns c =
    let a = c.args in
    ap (λ (k : ℕ). take (length a.values.now - k) (drop k a.values.now)) c.min-first.ensures
    ∙ rest_part a.from a.values.now
