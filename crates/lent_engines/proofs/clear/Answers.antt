-- `lent_engines::clear` meets its contract: zeros are written over every count of the engine. Assumes nothing.
use Rattle.std.proofs.Common.{◌≡◌, ℕ, ap, ◌∙◌, length, take, rules}
use lib.ListN.{replicate}
use Rattle.lent_engines.specs.Memory.{engine_counts_length}
use Rattle.lent_engines.proofs.Zeros.{cleared}
use Rattle.lent_engines.proofs.clear.Goals as goal

pub returns : goal.returns
returns c =
    let counts = c.args.counts.now in
    let whole : length (take engine_counts_length counts) ≡ engine_counts_length = search rules in
    cleared counts c.fill.new.self (c.fill.ensures.after (λ y e. e) ∙ ap (λ (n : ℕ). replicate n 0) whole)
